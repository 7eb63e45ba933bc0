-- Inside: plumbing, a representation, an invariant or a promise beside the claim (docs/TRUST.md).
-- What holds of every expression of a typed tree (ANSI 3.3).
use Rattle.std.specs.Prelude.{ℕ, Bool, true, false, ◌&&◌, List, [], ◌∷◌, map, slice_get, Option, Some, None, option_and_then}
use Rattle.sc_types.specs.declared.ctype.CType.{CType}
use Rattle.sc_types.specs.declared.ctype.StructDef.{StructDef}
use Rattle.sc_core.specs.declared.expression.CoreExpr.{CoreExpr, out-CoreExpr, fold-CoreExpr}
use Rattle.sc_core.specs.declared.expression.CoreExpr.TheOpen.{CoreExpr-F}
use Rattle.sc_core.specs.declared.module.Auto.{Auto}
use Rattle.sc_core.specs.declared.module.Core.{Core}
use Rattle.sc_core_formed.specs.Known.{is_known}
use Rattle.sc_core_formed.specs.Open.{is_open}
use Rattle.sc_core_needs.specs.Types.{same}
use Rattle.sc_core_formed.specs.Names.{is_static, is_declared_function}
use Rattle.sc_core_needs.specs.Values.{converts}
use Rattle.sc_core_needs.specs.Nodes.{is_number, is_literal, is_element, is_call, is_member, is_arrow, is_step, is_address, is_indirection, is_unary, is_cast}
use Rattle.sc_core_needs.specs.Operators.{is_binary, is_offset, is_difference, is_compare, is_logical, is_choice, is_assignment, is_copy, is_compound, is_movement, is_sequence}
use Rattle.sc_core.specs.Types.{type_of}

-- the parameter or automatic object at a place of a block
abbrev pub auto_at : List (List Auto) → ℕ → ℕ → Option Auto
auto_at blocks block n = option_and_then (λ autos. slice_get autos n) (slice_get blocks block)

abbrev pub fits_auto : List StructDef → CType → Option Auto → Bool
fits_auto structs of None = false
fits_auto structs of (Some x) = same structs of x.of

-- an object of a block that encloses the name, with a compatible type (3.1.2.1)
abbrev pub is_automatic : List StructDef → List (List Auto) → List ℕ → CType → ℕ → ℕ → Bool
is_automatic structs blocks around of block n = is_open around block && fits_auto structs of (auto_at blocks block n)

-- One construct: what it says of itself and asks of its operands.
abbrev pub node_level : Core → List (List Auto) → List ℕ → CoreExpr-F CoreExpr → Bool
node_level core blocks around (CoreExpr-F.Number l of n) = is_number of n
node_level core blocks around (CoreExpr-F.Literal l of n) = is_literal core.literals of n
node_level core blocks around (CoreExpr-F.Automatic l of block n) = is_automatic core.structs blocks around of block n
node_level core blocks around (CoreExpr-F.Static l of key) = is_static core of key
node_level core blocks around (CoreExpr-F.Function l of key) = is_declared_function core of key
node_level core blocks around (CoreExpr-F.Index l of n a b) = is_element core.structs of n a b
node_level core blocks around (CoreExpr-F.Call l of f args) = is_call core.structs of f args
node_level core blocks around (CoreExpr-F.Member l of n a) = is_member core.structs of n (type_of a)
node_level core blocks around (CoreExpr-F.Arrow l of n a) = is_arrow core.structs of n a
node_level core blocks around (CoreExpr-F.Step l of how n a) = is_step core.structs of n a
node_level core blocks around (CoreExpr-F.Address l of a) = is_address core.structs of a
node_level core blocks around (CoreExpr-F.Indirection l of a) = is_indirection core.structs of a
node_level core blocks around (CoreExpr-F.Unary l of o a) = is_unary core.structs of o a
node_level core blocks around (CoreExpr-F.Cast l of a) = is_cast core.structs of a
node_level core blocks around (CoreExpr-F.Binary l of o a b) = is_binary core.structs of o a b
node_level core blocks around (CoreExpr-F.Offset l of o n a b) = is_offset core.structs of o n a b
node_level core blocks around (CoreExpr-F.Difference l of n a b) = is_difference core.structs of n a b
node_level core blocks around (CoreExpr-F.Compare l of o a b) = is_compare core.structs of o a b
node_level core blocks around (CoreExpr-F.And l of a b) = is_logical core.structs of a b
node_level core blocks around (CoreExpr-F.Or l of a b) = is_logical core.structs of a b
node_level core blocks around (CoreExpr-F.Conditional l of a b d) = is_choice core.structs of a b d
node_level core blocks around (CoreExpr-F.Assign l of a b) = is_assignment core.structs of a b
node_level core blocks around (CoreExpr-F.AssignStructure l of n a b) = is_copy core.structs of n a b
node_level core blocks around (CoreExpr-F.Compound l of o k a b) = is_compound core.structs of o k a b
node_level core blocks around (CoreExpr-F.CompoundOffset l of o n a b) = is_movement core.structs of o n a b
node_level core blocks around (CoreExpr-F.Comma l of a b) = is_sequence core.structs of a b
node_level core blocks around (CoreExpr-F.Convert l of a) = converts core.structs of a

-- the same, of a type whose structures are those of the module
abbrev pub node : Core → List (List Auto) → List ℕ → CoreExpr → Bool
node core blocks around e = is_known core.structs (type_of e) && node_level core blocks around (out-CoreExpr e)

abbrev pub each : List (CoreExpr → Bool) → List CoreExpr → Bool
each [] [] = true
each (p ∷ ps) (e ∷ es) = p e && each ps es
each _ _ = false

-- the same of all operands, each with its test
abbrev pub deep : CoreExpr-F (CoreExpr → Bool) → CoreExpr-F CoreExpr → Bool
deep (CoreExpr-F.Number _ _ _) (CoreExpr-F.Number _ _ _) = true
deep (CoreExpr-F.Literal _ _ _) (CoreExpr-F.Literal _ _ _) = true
deep (CoreExpr-F.Automatic _ _ _ _) (CoreExpr-F.Automatic _ _ _ _) = true
deep (CoreExpr-F.Static _ _ _) (CoreExpr-F.Static _ _ _) = true
deep (CoreExpr-F.Function _ _ _) (CoreExpr-F.Function _ _ _) = true
deep (CoreExpr-F.Index _ _ _ p q) (CoreExpr-F.Index _ _ _ a b) = p a && q b
deep (CoreExpr-F.Call _ _ p ps) (CoreExpr-F.Call _ _ f args) = each ps args && p f
deep (CoreExpr-F.Member _ _ _ p) (CoreExpr-F.Member _ _ _ a) = p a
deep (CoreExpr-F.Arrow _ _ _ p) (CoreExpr-F.Arrow _ _ _ a) = p a
deep (CoreExpr-F.Step _ _ _ _ p) (CoreExpr-F.Step _ _ _ _ a) = p a
deep (CoreExpr-F.Address _ _ p) (CoreExpr-F.Address _ _ a) = p a
deep (CoreExpr-F.Indirection _ _ p) (CoreExpr-F.Indirection _ _ a) = p a
deep (CoreExpr-F.Unary _ _ _ p) (CoreExpr-F.Unary _ _ _ a) = p a
deep (CoreExpr-F.Cast _ _ p) (CoreExpr-F.Cast _ _ a) = p a
deep (CoreExpr-F.Binary _ _ _ p q) (CoreExpr-F.Binary _ _ _ a b) = p a && q b
deep (CoreExpr-F.Offset _ _ _ _ p q) (CoreExpr-F.Offset _ _ _ _ a b) = p a && q b
deep (CoreExpr-F.Difference _ _ _ p q) (CoreExpr-F.Difference _ _ _ a b) = p a && q b
deep (CoreExpr-F.Compare _ _ _ p q) (CoreExpr-F.Compare _ _ _ a b) = p a && q b
deep (CoreExpr-F.And _ _ p q) (CoreExpr-F.And _ _ a b) = p a && q b
deep (CoreExpr-F.Or _ _ p q) (CoreExpr-F.Or _ _ a b) = p a && q b
deep (CoreExpr-F.Conditional _ _ p q r) (CoreExpr-F.Conditional _ _ a b d) = p a && q b && r d
deep (CoreExpr-F.Assign _ _ p q) (CoreExpr-F.Assign _ _ a b) = p a && q b
deep (CoreExpr-F.AssignStructure _ _ _ p q) (CoreExpr-F.AssignStructure _ _ _ a b) = p a && q b
deep (CoreExpr-F.Compound _ _ _ _ p q) (CoreExpr-F.Compound _ _ _ _ a b) = p a && q b
deep (CoreExpr-F.CompoundOffset _ _ _ _ p q) (CoreExpr-F.CompoundOffset _ _ _ _ a b) = p a && q b
deep (CoreExpr-F.Comma _ _ p q) (CoreExpr-F.Comma _ _ a b) = p a && q b
deep (CoreExpr-F.Convert _ _ p) (CoreExpr-F.Convert _ _ a) = p a
deep _ _ = false

abbrev pub expression_level : Core → List (List Auto) → List ℕ → CoreExpr-F (CoreExpr → Bool) → CoreExpr → Bool
expression_level core blocks around p e = deep p (out-CoreExpr e) && node core blocks around e

-- Every construct in the expression is formed.
abbrev pub expression : Core → List (List Auto) → List ℕ → CoreExpr → Bool
expression core blocks around e = fold-CoreExpr (CoreExpr → Bool) (expression_level core blocks around) e e

abbrev pub test_of : Core → List (List Auto) → List ℕ → CoreExpr → CoreExpr → Bool
test_of core blocks around = fold-CoreExpr (CoreExpr → Bool) (expression_level core blocks around)

abbrev pub all_of : Core → List (List Auto) → List ℕ → List CoreExpr → Bool
all_of core blocks around es = each (map (test_of core blocks around) es) es
