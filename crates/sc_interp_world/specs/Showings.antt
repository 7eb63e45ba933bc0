-- Inside: plumbing, a representation, an invariant or a promise beside the claim (docs/TRUST.md).
-- An event of the program, as the meaning has it.
use Rattle.sc_interp_world.specs.declared.event.Showing.{Showing}
use Rattle.sc_interp_world.specs.declared.event.Showing.TheVariants as showing
use Rattle.sc_meaning.specs.World.{Event, Enter, Leave, At, Out}

abbrev pub event_of : Showing → Event
event_of (showing.Enter key home) = Enter key home
event_of showing.Leave = Leave
event_of (showing.At home line enter) = At home line enter
event_of (showing.Out byte) = Out byte
