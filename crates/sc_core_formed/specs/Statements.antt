-- Inside: plumbing, a representation, an invariant or a promise beside the claim (docs/TRUST.md).
-- What holds of every statement of a typed tree (ANSI 3.6), and how its blocks are numbered.
use Rattle.std.specs.Prelude.{ℕ, ◌+◌, ◌%◌, ◌==◌, nat_eq, nat_lt, nat_le, Bool, true, false, not, ◌&&◌, ◌||◌, if◌then◌else◌, List, [], ◌∷◌, length, map, Option, Some, None, is_some, option_and_then}
use Rattle.std.specs.Map.{lookup}
use Rattle.sc_types.specs.declared.ctype.CType.{CType}
use Rattle.sc_types.specs.Layouts.{size_in}
use Rattle.sc_types.specs.Tables.{is_object}
use Rattle.sc_core.specs.declared.expression.CoreExpr.{CoreExpr}
use Rattle.sc_core.specs.declared.statement.AutoInit.{AutoInit}
use Rattle.sc_core.specs.declared.statement.AutoInit.TheVariants as piece
use Rattle.sc_core.specs.declared.statement.SwitchLabel.{SwitchLabel}
use Rattle.sc_core.specs.declared.statement.LabelAt.{LabelAt}
use Rattle.sc_core_labels.specs.Targets.{Target}
use Rattle.sc_core.specs.declared.statement.CoreStmt.{CoreStmt, out-CoreStmt, fold-CoreStmt}
use Rattle.sc_core.specs.declared.statement.CoreStmt.TheOpen.{CoreStmt-F}
use Rattle.sc_core.specs.declared.module.Auto.{Auto}
use Rattle.sc_core.specs.declared.module.Fun.{Fun}
use Rattle.sc_core.specs.declared.module.Core.{Core}
use Rattle.sc_check_operand.specs.Types.{shape, is_scalar, is_void}
use Rattle.sc_core_formed.specs.declared.statements.Body.{Body}
use Rattle.sc_core_formed.specs.Names.{value_eq, distinct}
use Rattle.sc_core_formed.specs.Open.{is_open}
use Rattle.sc_core_needs.specs.Values.{is_done, is_condition, is_promoted_value, is_value_for}
use Rattle.sc_core_needs.specs.Operators.{is_structure}
use Rattle.sc_core_formed.specs.Expressions.{expression, auto_at}

-- a formed expression without value, or whose value is let go
abbrev pub is_whole : Core → Fun → List ℕ → CoreExpr → Bool
is_whole core f around e = expression core f.blocks around e && is_done e

-- a formed scalar that is compared with 0
abbrev pub is_test : Core → Fun → List ℕ → CoreExpr → Bool
is_test core f around e = expression core f.blocks around e && is_condition core.structs e

abbrev pub whole_or_none : Core → Fun → List ℕ → Option CoreExpr → Bool
whole_or_none core f around None = true
whole_or_none core f around (Some e) = is_whole core f around e

abbrev pub test_or_none : Core → Fun → List ℕ → Option CoreExpr → Bool
test_or_none core f around None = true
test_or_none core f around (Some e) = is_test core f around e

-- a formed value as an object of this type takes it
abbrev pub is_given : Core → Fun → List ℕ → CType → CoreExpr → Bool
is_given core f around of e = expression core f.blocks around e && is_value_for core.structs of e

-- the end of what has n bytes, at least one, and stands at a place, behind what ends before it and inside the object
abbrev pub placed : ℕ → ℕ → ℕ → ℕ → Option ℕ
placed size end at n = if nat_lt 0 n && nat_le end at && nat_le (at + n) size then Some (at + n) else None

abbrev pub when : {A : Type 0} → Bool → Option A → Option A
when b x = if b then x else None

-- a scalar of an initialiser (3.5.7)
abbrev pub is_scalar_piece : Core → Fun → List ℕ → CType → CoreExpr → Bool
is_scalar_piece core f around of e = is_object core.structs of && is_scalar (shape core.structs of) && is_given core f around of e

-- the whole object takes what a structure holds
abbrev pub is_structure_piece : Core → Fun → List ℕ → CType → CoreExpr → Bool
is_structure_piece core f around of e = is_structure (shape core.structs of) && is_given core f around of e

-- a scalar stands at a multiple of its size
abbrev pub scalar_placed : ℕ → ℕ → ℕ → ℕ → Option ℕ
scalar_placed size end at n = if nat_lt 0 n && at % n == 0 then placed size end at n else None

-- where one piece of an object of this type and size ends, of which the ones before end at a place
abbrev pub piece_end : Core → Fun → List ℕ → CType → ℕ → ℕ → AutoInit → Option ℕ
piece_end core f around whole size end (piece.Value at of e) = when (is_scalar_piece core f around of e) (scalar_placed size end at (size_in core.structs of))
piece_end core f around whole size end (piece.Text at bytes) = placed size end at (length bytes)
piece_end core f around whole size end (piece.Zero at n) = placed size end at n
piece_end core f around whole size end (piece.Structure n e) = when (is_structure_piece core f around whole e && n == size) (placed size end 0 n)

-- the pieces stand in the order of their offsets, inside the object
abbrev pub pieces_end : Core → Fun → List ℕ → CType → ℕ → ℕ → List AutoInit → Option ℕ
pieces_end core f around whole size end [] = Some end
pieces_end core f around whole size end (p ∷ ps) = option_and_then (λ end. pieces_end core f around whole size end ps) (piece_end core f around whole size end p)

abbrev pub pieces_of : Core → Fun → List ℕ → Option Auto → List AutoInit → Bool
pieces_of core f around None ps = false
pieces_of core f around (Some x) ps = is_some (pieces_end core f around x.of x.slot.size 0 ps)

-- the initialiser of an automatic object of a block that is open (3.5.7)
abbrev pub is_initialized : Core → Fun → List ℕ → ℕ → ℕ → List AutoInit → Bool
is_initialized core f around block n ps = is_open around block && pieces_of core f around (auto_at f.blocks block n) ps

-- each place is below the number of a block's items
abbrev pub stand_below : ℕ → List LabelAt → Bool
stand_below n [] = true
stand_below n (l ∷ ls) = nat_lt l.at n && stand_below n ls

-- the label of a `goto` stands in the list of a block that is open there (3.6.6.1)
abbrev pub is_open_target : List ℕ → Option ℕ → Bool
is_open_target around None = false
is_open_target around (Some block) = is_open around block

abbrev pub is_target : List Target → List ℕ → ℕ → Bool
is_target targets around label = is_open_target around (lookup (nat_eq label) targets)

-- each place is below the number of the body's statements
abbrev pub are_below : ℕ → List SwitchLabel → Bool
are_below n [] = true
are_below n (l ∷ ls) = nat_lt l.at n && are_below n ls

-- each value once, `default` too, and each place below the number of the body's statements (3.6.1, 3.6.4.2)
abbrev pub are_labels : ℕ → List SwitchLabel → Bool
are_labels n ls = are_below n ls && distinct value_eq (map (λ l. l.value) ls)

-- a body that is no block is a list of itself alone
abbrev pub items_layer : CoreStmt-F CoreStmt → ℕ
items_layer (CoreStmt-F.Block l n labels ss) = length ss
items_layer _ = 1

-- a formed value in a promoted type
abbrev pub is_selector : Core → Fun → List ℕ → CoreExpr → Bool
is_selector core f around e = expression core f.blocks around e && is_promoted_value core.structs e

abbrev pub is_switch : Core → Fun → List ℕ → CoreExpr → List SwitchLabel → CoreStmt → Bool
is_switch core f around e labels s = is_selector core f around e && are_labels (items_layer (out-CoreStmt s)) labels

-- the three expressions of a `for`
abbrev pub is_head : Core → Fun → List ℕ → Option CoreExpr → Option CoreExpr → Option CoreExpr → Bool
is_head core f around first e after = whole_or_none core f around first && test_or_none core f around e && whole_or_none core f around after

-- a value of the result's type, in a function that gives one (3.6.6.4)
abbrev pub is_return : Core → Fun → List ℕ → Option CoreExpr → Bool
is_return core f around None = true
is_return core f around (Some e) = not (is_void f.of.result) && is_given core f around f.of.result e

-- inside the body of a loop, of a `switch`
abbrev pub of_loop : Body → Body
of_loop body = record { in_loop = true; in_switch = body.in_switch }

abbrev pub of_switch : Body → Body
of_switch body = record { in_loop = body.in_loop; in_switch = true }

-- A statement in the blocks that are open there, innermost first, and in a body of loops and `switch`es, whose first block has a number:
-- the number of the next block behind it, where it is formed.
abbrev pub Test : Type 0
Test = List ℕ → Body → ℕ → Option ℕ

abbrev pub each : List (CoreStmt → Test) → List CoreStmt → Test
each [] [] around body next = Some next
each (p ∷ ps) (s ∷ ss) around body next = option_and_then (λ next. each ps ss around body next) (p s around body next)
each _ _ around body next = None

abbrev pub optional : Option (CoreStmt → Test) → Option CoreStmt → Test
optional None None around body next = Some next
optional (Some p) (Some s) around body next = p s around body next
optional _ _ around body next = None

-- the next block, which has a table, with the labels of its list
abbrev pub is_block : Fun → ℕ → ℕ → List LabelAt → ℕ → Bool
is_block f next n labels items = n == next && nat_lt next (length f.blocks) && stand_below items labels

abbrev pub level : Core → Fun → List Target → CoreStmt-F (CoreStmt → Test) → CoreStmt-F CoreStmt → Test
level core f targets (CoreStmt-F.Block _ _ _ ps) (CoreStmt-F.Block l n labels ss) around body next =
    when (is_block f next n labels (length ss)) (each ps ss (n ∷ around) body (next + 1))
level core f targets (CoreStmt-F.Initialize _ _ _ _) (CoreStmt-F.Initialize l block n ps) around body next = when (is_initialized core f around block n ps) (Some next)
level core f targets (CoreStmt-F.Empty _) (CoreStmt-F.Empty l) around body next = Some next
level core f targets (CoreStmt-F.Expression _ _) (CoreStmt-F.Expression l e) around body next = when (is_whole core f around e) (Some next)
level core f targets (CoreStmt-F.If _ _ p q) (CoreStmt-F.If l e s other) around body next =
    when (is_test core f around e) (option_and_then (λ next. optional q other around body next) (p s around body next))
level core f targets (CoreStmt-F.Switch _ _ _ p) (CoreStmt-F.Switch l e labels s) around body next = when (is_switch core f around e labels s) (p s around (of_switch body) next)
level core f targets (CoreStmt-F.While _ _ p) (CoreStmt-F.While l e s) around body next = when (is_test core f around e) (p s around (of_loop body) next)
level core f targets (CoreStmt-F.Do _ p _ _) (CoreStmt-F.Do l s line e) around body next = when (is_test core f around e) (p s around (of_loop body) next)
level core f targets (CoreStmt-F.For _ _ _ _ p) (CoreStmt-F.For l first e after s) around body next =
    when (is_head core f around first e after) (p s around (of_loop body) next)
level core f targets (CoreStmt-F.Case _ p) (CoreStmt-F.Case l s) around body next = when body.in_switch (p s around body next)
level core f targets (CoreStmt-F.Default _ p) (CoreStmt-F.Default l s) around body next = when body.in_switch (p s around body next)
level core f targets (CoreStmt-F.Label _ p) (CoreStmt-F.Label l s) around body next = p s around body next
level core f targets (CoreStmt-F.Goto _ _) (CoreStmt-F.Goto l label) around body next = when (is_target targets around label) (Some next)
level core f targets (CoreStmt-F.Continue _) (CoreStmt-F.Continue l) around body next = when body.in_loop (Some next)
level core f targets (CoreStmt-F.Break _) (CoreStmt-F.Break l) around body next = when (body.in_loop || body.in_switch) (Some next)
level core f targets (CoreStmt-F.Return _ _) (CoreStmt-F.Return l e) around body next = when (is_return core f around e) (Some next)
level core f targets _ _ around body next = None

abbrev pub test_of : Core → Fun → List Target → CoreStmt → CoreStmt → Test
test_of core f targets = fold-CoreStmt (CoreStmt → Test) (λ p s. level core f targets p (out-CoreStmt s))

-- a statement of a function with these labels
abbrev pub statement : Core → Fun → List Target → CoreStmt → Test
statement core f targets s = test_of core f targets s s

abbrev pub all_of : Core → Fun → List Target → List CoreStmt → Test
all_of core f targets ss = each (map (test_of core f targets) ss) ss
