-- What the rest gives from here is what all give from the beginning.
use Rattle.std.proofs.Common.{◌≡◌, drop}
use Rattle.sc_check_body.specs.Blocks.{declare_all}
use Rattle.sc_check_body.proofs.declarations.declare_all.Given as goal

abbrev pub invariant-loop-d : goal.invariant-loop-d
invariant-loop-d l = declare_all (drop l.d-index l.declarations) (l.m, (l.f, l.inner)) ≡ declare_all l.declarations (l.fn.m, (l.fn.f, l.fn.inner))
