-- What the rest gives from here is what all give from the beginning.
use Rattle.std.proofs.Common.{◌≡◌, drop}
use Rattle.sc_check.specs.Functions.{complete_parameters}
use Rattle.sc_check.proofs.function.complete_parameters.Given as goal

abbrev pub invariant-loop-i : goal.invariant-loop-i
invariant-loop-i l = complete_parameters l.st.structs (drop l.i l.list) (drop l.i l.types) ≡ complete_parameters l.st.structs l.list l.types
