use Rattle.std.proofs.Common.{◌≡◌, drop}
use Rattle.sc_mixed.specs.Standing.{Standing}
use Rattle.sc_session.specs.Mixing as spec
use Rattle.sc_session.proofs.mixing.mixed_through.Given as goal

abbrev pub invariant-loop-new : goal.invariant-loop-new
invariant-loop-new l = (n : Standing) → spec.MixedThrough l.old (drop l.new-index l.later) l.run n → spec.MixedThrough l.first l.later l.fn.run n
