use Rattle.std.proofs.Common.{◌≡◌, ◌++◌, drop, map}
use Rattle.sc_core_names.specs.Names as spec
use Rattle.sc_core_names.proofs.names.put_parameters.Given as goal

abbrev pub invariant-loop-p : goal.invariant-loop-p
invariant-loop-p l =
    l.names.items ++ spec.joined (map spec.parameter_names (drop l.p-index l.parameters)) ≡ l.fn.names.items ++ spec.joined (map spec.parameter_names l.parameters)
