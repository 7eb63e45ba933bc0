-- What the rest gives from here is what all give from the beginning.
use Rattle.std.proofs.Common.{◌≡◌, drop}
use Rattle.sc_check_body.specs.Locals.{declare_each}
use Rattle.sc_check_body.proofs.local.declare_each.Given as goal

abbrev pub invariant-loop-one : goal.invariant-loop-one
invariant-loop-one l = declare_each l.storage l.base (drop l.one-index l.list) (l.m, (l.f, l.inner)) ≡ declare_each l.storage l.base l.list (l.fn.m, (l.fn.f, l.fn.inner))
