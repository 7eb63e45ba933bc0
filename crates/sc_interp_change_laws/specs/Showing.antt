-- Inside: plumbing, a representation, an invariant or a promise beside the claim (docs/TRUST.md).
-- What a step shows is an event.
use Rattle.sc_interp.specs.declared.stepped.Shown.{Shown}
use Rattle.sc_interp.specs.declared.stepped.Shown.TheVariants.{Nothing, Line, Entered}

abbrev pub IsEvent : Shown → Type 0
IsEvent Nothing = ⊥
IsEvent (Line l) = Unit {0}
IsEvent Entered = Unit {0}
