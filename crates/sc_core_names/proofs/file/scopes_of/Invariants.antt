use Rattle.std.proofs.Common.{◌≡◌, ◌++◌, [], drop, map}
use Rattle.sc_core_names.specs.Names.{joined}
use Rattle.sc_core_names.specs.Scopes as spec
use Rattle.sc_core_names.proofs.file.scopes_of.Given as goal

abbrev pub invariant-loop-item : goal.invariant-loop-item
invariant-loop-item l =
    (l.file.items ++ joined (map spec.external_names (drop l.item-index l.item-items)) ≡ joined (map spec.external_names l.item-items))
    × (l.functions.items ++ spec.functions_behind l.file.items (drop l.item-index l.item-items) ≡ spec.functions_behind [] l.item-items)
