use Rattle.std.proofs.Common.{◌≡◌}
use Rattle.sc_workload.specs.Made.{texts, declared}
use Rattle.sc_workload.proofs.file.declarations.Given as goal

abbrev pub invariant-loop-function : goal.invariant-loop-function
invariant-loop-function l = l.text.items ≡ texts (declared l.index) l.function
