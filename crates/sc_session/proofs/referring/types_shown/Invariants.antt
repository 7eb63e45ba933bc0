use Rattle.std.proofs.Common.{◌≡◌, ◌++◌, drop}
use Rattle.sc_session.specs.Referring as spec
use Rattle.sc_session.proofs.referring.types_shown.Given as goal

abbrev pub invariant-loop-p : goal.invariant-loop-p
invariant-loop-p l = (l.text.items ++ spec.type_lines l.name (drop l.p-index l.modules)) ≡ spec.type_lines l.name l.modules
