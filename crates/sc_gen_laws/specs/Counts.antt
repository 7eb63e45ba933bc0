-- Yardstick: to be compared with what it restates (docs/TRUST.md).
-- What gives code and is no node of a typed tree: conversions, the labels that lists name, and runs of missing bytes; and the nodes to which
-- they belong.
use Rattle.std.specs.Prelude.{ℕ, ◌+◌, ◌≤◌, List, [], ◌∷◌, length, sum, sum_by, Option, Some, None}
use Rattle.sc_core.specs.declared.expression.CoreExpr.{CoreExpr, fold-CoreExpr}
use Rattle.sc_core.specs.declared.expression.CoreExpr.TheOpen.{CoreExpr-F}
use Rattle.sc_core.specs.declared.statement.AutoInit.{AutoInit}
use Rattle.sc_core.specs.declared.statement.AutoInit.TheVariants as piece
use Rattle.sc_core.specs.declared.statement.CoreStmt.{CoreStmt, fold-CoreStmt}
use Rattle.sc_core.specs.declared.statement.CoreStmt.TheOpen.{CoreStmt-F}
use Rattle.sc_core.specs.declared.module.Fun.{Fun}
use Rattle.sc_gen_laws.specs.Nodes.{statement_nodes}

abbrev pub conversions_layer : CoreExpr-F ℕ → ℕ
conversions_layer (CoreExpr-F.Number l t n) = 0
conversions_layer (CoreExpr-F.Literal l t n) = 0
conversions_layer (CoreExpr-F.Automatic l t b n) = 0
conversions_layer (CoreExpr-F.Static l t key) = 0
conversions_layer (CoreExpr-F.Function l t key) = 0
conversions_layer (CoreExpr-F.Index l t n a b) = a + b
conversions_layer (CoreExpr-F.Call l t f args) = f + sum args
conversions_layer (CoreExpr-F.Member l t n a) = a
conversions_layer (CoreExpr-F.Arrow l t n a) = a
conversions_layer (CoreExpr-F.Step l t s n a) = a
conversions_layer (CoreExpr-F.Address l t a) = a
conversions_layer (CoreExpr-F.Indirection l t a) = a
conversions_layer (CoreExpr-F.Unary l t o a) = a
conversions_layer (CoreExpr-F.Cast l t a) = a
conversions_layer (CoreExpr-F.Binary l t o a b) = a + b
conversions_layer (CoreExpr-F.Offset l t o n a b) = a + b
conversions_layer (CoreExpr-F.Difference l t n a b) = a + b
conversions_layer (CoreExpr-F.Compare l t o a b) = a + b
conversions_layer (CoreExpr-F.And l t a b) = a + b
conversions_layer (CoreExpr-F.Or l t a b) = a + b
conversions_layer (CoreExpr-F.Conditional l t a b d) = a + b + d
conversions_layer (CoreExpr-F.Assign l t a b) = a + b
conversions_layer (CoreExpr-F.AssignStructure l t n a b) = a + b
conversions_layer (CoreExpr-F.Compound l t o k a b) = a + b
conversions_layer (CoreExpr-F.CompoundOffset l t o n a b) = a + b
conversions_layer (CoreExpr-F.Comma l t a b) = a + b
conversions_layer (CoreExpr-F.Convert l t a) = 1 + a

-- the conversions that C makes by itself
abbrev pub conversions : CoreExpr → ℕ
conversions = fold-CoreExpr ℕ conversions_layer

-- What a statement has: conversions; labels that lists name; runs of missing bytes; statements behind labels; and items of initialisers,
-- where a string is as many as it has bytes.
pub record Counts : Type 0 where
  pub converts : ℕ
  pub listed : ℕ
  pub missing : ℕ
  pub labelled : ℕ
  pub items : ℕ

abbrev pub counts : ℕ → ℕ → ℕ → ℕ → ℕ → Counts
counts c l m k i = record { converts = c; listed = l; missing = m; labelled = k; items = i }

abbrev pub nothing : Counts
nothing = counts 0 0 0 0 0

abbrev pub plus : Counts → Counts → Counts
plus a b = counts (a.converts + b.converts) (a.listed + b.listed) (a.missing + b.missing) (a.labelled + b.labelled) (a.items + b.items)

abbrev pub all : List Counts → Counts
all [] = nothing
all (c ∷ cs) = plus c (all cs)

abbrev pub of_expression : CoreExpr → Counts
of_expression e = counts (conversions e) 0 0 0 0

abbrev pub of_option : Option CoreExpr → Counts
of_option None = nothing
of_option (Some e) = of_expression e

abbrev pub of_piece : AutoInit → Counts
of_piece (piece.Value at t e) = counts (conversions e) 0 0 0 1
of_piece (piece.Text at bytes) = counts 0 0 0 0 (length bytes)
of_piece (piece.Zero at n) = counts 0 0 1 0 0
of_piece (piece.Structure n e) = counts (conversions e) 0 0 0 1

abbrev pub of_pieces : List AutoInit → Counts
of_pieces [] = nothing
of_pieces (p ∷ ps) = plus (of_piece p) (of_pieces ps)

abbrev pub optional : Option Counts → Counts
optional None = nothing
optional (Some c) = c

abbrev pub layer : CoreStmt-F Counts → Counts
layer (CoreStmt-F.Block l b ls ss) = plus (counts 0 (length ls) 0 0 0) (all ss)
layer (CoreStmt-F.Initialize l b n ps) = of_pieces ps
layer (CoreStmt-F.Empty l) = nothing
layer (CoreStmt-F.Expression l e) = of_expression e
layer (CoreStmt-F.If l e s other) = plus (of_expression e) (plus s (optional other))
layer (CoreStmt-F.Switch l e ls s) = plus (counts (conversions e) (length ls) 0 0 0) s
layer (CoreStmt-F.While l e s) = plus (of_expression e) s
layer (CoreStmt-F.Do l s line e) = plus (of_expression e) s
layer (CoreStmt-F.For l first e after s) = plus (plus (of_option first) (plus (of_option e) (of_option after))) s
layer (CoreStmt-F.Case l s) = plus (counts 0 0 0 1 0) s
layer (CoreStmt-F.Default l s) = plus (counts 0 0 0 1 0) s
layer (CoreStmt-F.Label l s) = plus (counts 0 0 0 1 0) s
layer (CoreStmt-F.Goto l k) = nothing
layer (CoreStmt-F.Continue l) = nothing
layer (CoreStmt-F.Break l) = nothing
layer (CoreStmt-F.Return l e) = of_option e

abbrev pub counts_of : CoreStmt → Counts
counts_of = fold-CoreStmt Counts layer

-- A tree as C makes it: an operand is converted once at most, lists name no label but of a labelled statement, and a run of missing bytes
-- stands behind an item, or is the whole of an initialised object.
pub record IsMeasured (f : Fun) : Type 0 where
  pub once : (counts_of f.body).converts ≤ statement_nodes f.body
  pub named : (counts_of f.body).listed ≤ (counts_of f.body).labelled
  pub behind : (counts_of f.body).missing ≤ (counts_of f.body).items + sum_by length f.blocks
