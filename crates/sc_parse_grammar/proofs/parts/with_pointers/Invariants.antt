-- The steps so far and those that are left are all of them.
use Rattle.std.proofs.Common.{◌≡◌, ◌++◌, map, length}
use Rattle.sc_tree.specs.declared.expression.Derivation.TheVariants.{Pointer}
use Rattle.sc_parse_grammar.proofs.parts.with_pointers.Given as goal

abbrev pub invariant-popping : goal.invariant-popping
invariant-popping l = l.all ++ map Pointer l.left ≡ l.fn.derivations ++ map Pointer l.fn.stars

abbrev pub decreases-popping : goal.decreases-popping
decreases-popping l = length l.left
