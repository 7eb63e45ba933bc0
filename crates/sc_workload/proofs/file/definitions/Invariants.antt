use Rattle.std.proofs.Common.{◌≡◌}
use Rattle.sc_workload.specs.Made.{texts, defined}
use Rattle.sc_workload.proofs.file.definitions.Given as goal

abbrev pub invariant-loop-function : goal.invariant-loop-function
invariant-loop-function l = l.text.items ≡ texts (defined l.index l.next) l.function
