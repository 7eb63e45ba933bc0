use Rattle.std.proofs.Common.{◌≡◌, filter, length}
use Rattle.sc_incr.specs.Program.{is_kept}
use Rattle.sc_incr.specs.Settled.{IsPatched}
use Rattle.sc_incr.proofs.forgetting.forget_all.Given as goal

abbrev pub invariant-forgetting : goal.invariant-forgetting
invariant-forgetting l = IsPatched l.entries.items l.funs l.image × (filter is_kept l.entries.items ≡ filter is_kept l.initial.entries.items)

abbrev pub decreases-forgetting : goal.decreases-forgetting
decreases-forgetting l = length l.entries.items
