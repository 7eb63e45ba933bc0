use Rattle.std.proofs.Common.{◌≡◌, ◌++◌, drop, map}
use Rattle.sc_core_names.specs.Names.{joined, block_names}
use Rattle.sc_core_names.specs.Scopes as spec
use Rattle.sc_core_names.proofs.blocks.scope_of.Given as goal

abbrev pub invariant-loop-d : goal.invariant-loop-d
invariant-loop-d l = l.names.items ++ joined (map block_names (drop l.d-index l.declarations)) ≡ spec.scope_of l.declarations
