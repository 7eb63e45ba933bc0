use Rattle.std.proofs.Common.{◌≡◌}
use Rattle.sc_workload.specs.Made.{texts, compiled}
use Rattle.sc_workload.proofs.commands.all_compiled.Given as goal

abbrev pub invariant-loop-index : goal.invariant-loop-index
invariant-loop-index l = l.text.items ≡ texts (compiled) l.index
