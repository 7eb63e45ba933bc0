-- Yardstick: to be compared with what it restates (docs/TRUST.md).
-- What a function's frame keeps room for: the values that an expression keeps at once, and the arguments of a call.
use Rattle.std.specs.Prelude.{ℕ, ◌+◌, max, min, List, [], ◌∷◌, length, map, Option, Some, None}
use Rattle.sc_core.specs.declared.expression.CoreExpr.{CoreExpr, fold-CoreExpr}
use Rattle.sc_core.specs.declared.expression.CoreExpr.TheOpen.{CoreExpr-F}
use Rattle.sc_core.specs.declared.statement.AutoInit.{AutoInit}
use Rattle.sc_core.specs.declared.statement.AutoInit.TheVariants as piece
use Rattle.sc_core.specs.declared.statement.CoreStmt.{CoreStmt, fold-CoreStmt}
use Rattle.sc_core.specs.declared.statement.CoreStmt.TheOpen.{CoreStmt-F}
use Rattle.sc_core_needs.specs.declared.needs.Need.{Need}

-- numbers above are counted as this one
abbrev pub most : ℕ
most = 4294967295

abbrev pub nothing : Need
nothing = record { room = 0; arguments = 0 }

-- a name, a number, a literal
abbrev pub leaf : Need
leaf = record { room = 1; arguments = 0 }

-- the one and then the other
abbrev pub beside : Need → Need → Need
beside a b = record { room = max a.room b.room; arguments = max a.arguments b.arguments }

-- while so many operands are kept
abbrev pub behind : ℕ → Need → Need
behind held a = record { room = min (a.room + held) most; arguments = a.arguments }

abbrev pub two : Need → Need → Need
two a b = beside a (behind 1 b)

abbrev pub three : Need → Need → Need → Need
three a b d = beside (two a b) (behind 2 d)

-- operands from the left, while so many are kept
abbrev pub in_order : ℕ → List Need → Need
in_order held [] = nothing
in_order held (a ∷ more) = beside (behind held a) (in_order (held + 1) more)

-- the function is the first operand of a call
abbrev pub call : Need → List Need → Need
call f args = beside (beside f (in_order 1 args)) (record { room = 0; arguments = min (length args) most })

abbrev pub need_layer : CoreExpr-F Need → Need
need_layer (CoreExpr-F.Number l of n) = leaf
need_layer (CoreExpr-F.Literal l of n) = leaf
need_layer (CoreExpr-F.Automatic l of block n) = leaf
need_layer (CoreExpr-F.Static l of key) = leaf
need_layer (CoreExpr-F.Function l of key) = leaf
need_layer (CoreExpr-F.Index l of n a b) = two a b
need_layer (CoreExpr-F.Call l of f args) = call f args
need_layer (CoreExpr-F.Member l of n a) = a
need_layer (CoreExpr-F.Arrow l of n a) = a
need_layer (CoreExpr-F.Step l of how n a) = a
need_layer (CoreExpr-F.Address l of a) = a
need_layer (CoreExpr-F.Indirection l of a) = a
need_layer (CoreExpr-F.Unary l of o a) = a
need_layer (CoreExpr-F.Cast l of a) = a
need_layer (CoreExpr-F.Binary l of o a b) = two a b
need_layer (CoreExpr-F.Offset l of o n a b) = two a b
need_layer (CoreExpr-F.Difference l of n a b) = two a b
need_layer (CoreExpr-F.Compare l of o a b) = two a b
need_layer (CoreExpr-F.And l of a b) = two a b
need_layer (CoreExpr-F.Or l of a b) = two a b
need_layer (CoreExpr-F.Conditional l of a b d) = three a b d
need_layer (CoreExpr-F.Assign l of a b) = two a b
need_layer (CoreExpr-F.AssignStructure l of n a b) = two a b
need_layer (CoreExpr-F.Compound l of o k a b) = two a b
need_layer (CoreExpr-F.CompoundOffset l of o n a b) = two a b
need_layer (CoreExpr-F.Comma l of a b) = two a b
need_layer (CoreExpr-F.Convert l of a) = a

-- A leaf keeps one value, an operator or a call the greatest sum of an operand's room and the number of operands before it; a
-- conversion is no operator of the text.
abbrev pub need : CoreExpr → Need
need = fold-CoreExpr Need need_layer

abbrev pub need_of_option : Option CoreExpr → Need
need_of_option None = nothing
need_of_option (Some e) = need e

abbrev pub need_of_piece : AutoInit → Need
need_of_piece (piece.Value n of e) = need e
need_of_piece (piece.Structure n e) = need e
need_of_piece (piece.Text n bytes) = leaf
need_of_piece (piece.Zero n m) = nothing

abbrev pub all : List Need → Need
all [] = nothing
all (a ∷ more) = beside a (all more)

abbrev pub optional : Option Need → Need
optional None = nothing
optional (Some a) = a

abbrev pub statement_layer : CoreStmt-F Need → Need
statement_layer (CoreStmt-F.Block l n labels ss) = all ss
statement_layer (CoreStmt-F.Initialize l block n ps) = all (map need_of_piece ps)
statement_layer (CoreStmt-F.Empty l) = nothing
statement_layer (CoreStmt-F.Expression l e) = need e
statement_layer (CoreStmt-F.If l e s other) = beside (beside (need e) s) (optional other)
statement_layer (CoreStmt-F.Switch l e labels s) = beside (need e) s
statement_layer (CoreStmt-F.While l e s) = beside (need e) s
statement_layer (CoreStmt-F.Do l s line e) = beside s (need e)
statement_layer (CoreStmt-F.For l first e after s) = beside (beside (beside (need_of_option first) (need_of_option e)) (need_of_option after)) s
statement_layer (CoreStmt-F.Case l s) = s
statement_layer (CoreStmt-F.Default l s) = s
statement_layer (CoreStmt-F.Label l s) = s
statement_layer (CoreStmt-F.Goto l k) = nothing
statement_layer (CoreStmt-F.Continue l) = nothing
statement_layer (CoreStmt-F.Break l) = nothing
statement_layer (CoreStmt-F.Return l e) = need_of_option e

-- the most of all expressions of a statement
abbrev pub need_of_statement : CoreStmt → Need
need_of_statement = fold-CoreStmt Need statement_layer
