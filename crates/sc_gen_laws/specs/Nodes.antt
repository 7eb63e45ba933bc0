-- Yardstick: to be compared with what it restates (docs/TRUST.md).
-- The nodes of a typed tree: expressions but conversions, statements, and one for each function, automatic object, static object, item of
-- an initialiser, literal and declared name. A string that initialises an array has as many as it has bytes.
use Rattle.std.specs.Prelude.{ℕ, ◌+◌, List, [], ◌∷◌, length, sum, sum_by, Option, Some, None}
use Rattle.sc_core.specs.declared.expression.CoreExpr.{CoreExpr, fold-CoreExpr}
use Rattle.sc_core.specs.declared.expression.CoreExpr.TheOpen.{CoreExpr-F}
use Rattle.sc_core.specs.declared.statement.AutoInit.{AutoInit}
use Rattle.sc_core.specs.declared.statement.AutoInit.TheVariants as piece
use Rattle.sc_core.specs.declared.statement.CoreStmt.{CoreStmt, fold-CoreStmt}
use Rattle.sc_core.specs.declared.statement.CoreStmt.TheOpen.{CoreStmt-F}
use Rattle.sc_core.specs.declared.module.Core.{Core}
use Rattle.sc_core.specs.declared.module.Fun.{Fun}
use Rattle.sc_core.specs.declared.module.Init.{Init}
use Rattle.sc_core.specs.declared.module.Init.TheVariants as init
use Rattle.sc_core.specs.declared.module.StaticObj.{StaticObj}

abbrev pub expression_layer : CoreExpr-F ℕ → ℕ
expression_layer (CoreExpr-F.Number l t n) = 1
expression_layer (CoreExpr-F.Literal l t n) = 1
expression_layer (CoreExpr-F.Automatic l t b n) = 1
expression_layer (CoreExpr-F.Static l t key) = 1
expression_layer (CoreExpr-F.Function l t key) = 1
expression_layer (CoreExpr-F.Index l t n a b) = 1 + a + b
expression_layer (CoreExpr-F.Call l t f args) = 1 + f + sum args
expression_layer (CoreExpr-F.Member l t n a) = 1 + a
expression_layer (CoreExpr-F.Arrow l t n a) = 1 + a
expression_layer (CoreExpr-F.Step l t s n a) = 1 + a
expression_layer (CoreExpr-F.Address l t a) = 1 + a
expression_layer (CoreExpr-F.Indirection l t a) = 1 + a
expression_layer (CoreExpr-F.Unary l t o a) = 1 + a
expression_layer (CoreExpr-F.Cast l t a) = 1 + a
expression_layer (CoreExpr-F.Binary l t o a b) = 1 + a + b
expression_layer (CoreExpr-F.Offset l t o n a b) = 1 + a + b
expression_layer (CoreExpr-F.Difference l t n a b) = 1 + a + b
expression_layer (CoreExpr-F.Compare l t o a b) = 1 + a + b
expression_layer (CoreExpr-F.And l t a b) = 1 + a + b
expression_layer (CoreExpr-F.Or l t a b) = 1 + a + b
expression_layer (CoreExpr-F.Conditional l t a b d) = 1 + a + b + d
expression_layer (CoreExpr-F.Assign l t a b) = 1 + a + b
expression_layer (CoreExpr-F.AssignStructure l t n a b) = 1 + a + b
expression_layer (CoreExpr-F.Compound l t o k a b) = 1 + a + b
expression_layer (CoreExpr-F.CompoundOffset l t o n a b) = 1 + a + b
expression_layer (CoreExpr-F.Comma l t a b) = 1 + a + b
expression_layer (CoreExpr-F.Convert l t a) = a

abbrev pub expression_nodes : CoreExpr → ℕ
expression_nodes = fold-CoreExpr ℕ expression_layer

abbrev pub optional_nodes : Option CoreExpr → ℕ
optional_nodes None = 0
optional_nodes (Some e) = expression_nodes e

-- what a list initialises: each item, and its expression; missing bytes have no item
abbrev pub item_nodes : AutoInit → ℕ
item_nodes (piece.Value at t e) = 1 + expression_nodes e
item_nodes (piece.Text at bytes) = length bytes
item_nodes (piece.Zero at n) = 0
item_nodes (piece.Structure n e) = expression_nodes e

-- a value that is no list has no item of its own
abbrev pub pieces_nodes : List AutoInit → ℕ
pieces_nodes (piece.Value at t e ∷ []) = expression_nodes e
pieces_nodes ps = sum_by item_nodes ps

abbrev pub optional_statement : Option ℕ → ℕ
optional_statement None = 0
optional_statement (Some n) = n

abbrev pub statement_layer : CoreStmt-F ℕ → ℕ
statement_layer (CoreStmt-F.Block l b ls ss) = 1 + sum ss
statement_layer (CoreStmt-F.Initialize l b n ps) = pieces_nodes ps
statement_layer (CoreStmt-F.Empty l) = 1
statement_layer (CoreStmt-F.Expression l e) = 1 + expression_nodes e
statement_layer (CoreStmt-F.If l e s other) = 1 + expression_nodes e + s + optional_statement other
statement_layer (CoreStmt-F.Switch l e ls s) = 1 + expression_nodes e + s
statement_layer (CoreStmt-F.While l e s) = 1 + expression_nodes e + s
statement_layer (CoreStmt-F.Do l s line e) = 1 + s + expression_nodes e
statement_layer (CoreStmt-F.For l first e after s) = 1 + optional_nodes first + optional_nodes e + optional_nodes after + s
statement_layer (CoreStmt-F.Case l s) = 1 + s
statement_layer (CoreStmt-F.Default l s) = 1 + s
statement_layer (CoreStmt-F.Label l s) = 1 + s
statement_layer (CoreStmt-F.Goto l k) = 1
statement_layer (CoreStmt-F.Continue l) = 1
statement_layer (CoreStmt-F.Break l) = 1
statement_layer (CoreStmt-F.Return l e) = 1 + optional_nodes e

abbrev pub statement_nodes : CoreStmt → ℕ
statement_nodes = fold-CoreStmt ℕ statement_layer

-- the function itself, its parameters and automatic objects, and its body
abbrev pub function_nodes : Fun → ℕ
function_nodes f = 1 + sum_by length f.blocks + statement_nodes f.body

-- an address is an item
abbrev pub init_nodes : Init → ℕ
init_nodes (init.Byte b) = 0
init_nodes (init.Zeros n) = 0
init_nodes (init.Address what n) = 1

abbrev pub object_nodes : StaticObj → ℕ
object_nodes x = 1 + sum_by init_nodes x.init

abbrev pub module_nodes : Core → ℕ
module_nodes core = sum_by function_nodes core.funs + sum_by object_nodes core.objects + length core.literals + length core.declared
