use Rattle.std.proofs.Common.{◌≡◌}
use Rattle.sc_workload.specs.Made.{texts, loaded}
use Rattle.sc_workload.proofs.commands.all_loaded.Given as goal

abbrev pub invariant-loop-index : goal.invariant-loop-index
invariant-loop-index l = l.text.items ≡ texts (loaded) l.index
