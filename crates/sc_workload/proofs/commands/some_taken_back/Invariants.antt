use Rattle.std.proofs.Common.{◌≡◌}
use Rattle.sc_workload.specs.Made.{texts, taken_back}
use Rattle.sc_workload.proofs.commands.some_taken_back.Given as goal

abbrev pub invariant-loop-index : goal.invariant-loop-index
invariant-loop-index l = l.text.items ≡ texts (taken_back) l.index
