use Rattle.std.proofs.Common.{◌≡◌, drop}
use Rattle.sc_session_forms.specs.Calls as spec
use Rattle.sc_session_forms.proofs.calls.frame_named.Given as goal

abbrev pub invariant-loop-f : goal.invariant-loop-f
invariant-loop-f l = spec.frame_named l.symbols (drop l.f-index l.frames) l.name ≡ spec.frame_named l.symbols l.frames l.name
