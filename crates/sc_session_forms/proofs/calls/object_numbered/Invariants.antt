use Rattle.std.proofs.Common.{◌≡◌, drop}
use Rattle.sc_session_forms.specs.Calls as spec
use Rattle.sc_session_forms.proofs.calls.object_numbered.Given as goal

abbrev pub invariant-loop-c : goal.invariant-loop-c
invariant-loop-c l = spec.object_numbered (drop l.c-index l.compiled) l.n ≡ spec.object_numbered l.compiled l.n
