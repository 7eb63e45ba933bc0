-- What is folded is settled.
use Rattle.std.proofs.Common.{◌≡◌, ℕ, Bool, true, ◌&&◌, List, [], ◌∷◌, map, Option, Some, None, refl, sym, ap, subst, ◌∙◌}
use Rattle.std.specs.Prelude.{option_map}
use Rattle.std.specs.List.{list_all}
use Rattle.sc_base.specs.declared.integer.Int.{Int}
use Rattle.sc_base.specs.declared.operator.Op.{Op}
use Rattle.sc_types.specs.declared.ctype.CType.{CType}
use Rattle.sc_core.specs.declared.expression.UnaryOperator.{UnaryOperator}
use Rattle.sc_core.specs.declared.expression.CoreExpr.{CoreExpr, out-CoreExpr, roll-CoreExpr, fold_out-CoreExpr, fold-roll-CoreExpr, ind-CoreExpr, map-CoreExpr}
use Rattle.sc_core.specs.declared.expression.CoreExpr.TheVariants as core
use Rattle.sc_core.specs.declared.expression.CoreExpr.TheOpen.{CoreExpr-F}
use Rattle.sc_core.specs.declared.statement.AutoInit.{AutoInit}
use Rattle.sc_core.specs.declared.statement.AutoInit.TheVariants as piece
use Rattle.sc_core.specs.declared.statement.CoreStmt.{CoreStmt, out-CoreStmt, roll-CoreStmt, fold_out-CoreStmt, fold-roll-CoreStmt, ind-CoreStmt, map-CoreStmt}
use Rattle.sc_core.specs.declared.statement.CoreStmt.TheVariants as stmt
use Rattle.sc_core.specs.declared.statement.CoreStmt.TheOpen.{CoreStmt-F}
use Rattle.sc_core.specs.declared.module.Core.{Core}
use Rattle.sc_core.specs.declared.module.Fun.{Fun}
use Rattle.sc_opt_fold.specs.Folded.{constant, constant_level, unary_value, binary_value, converted_value, or_number, rebuilt, folded, folded_piece, rebuilt_statement, folded_statement, folded_function, folded_core}
use Rattle.sc_opt_fold.specs.Settled.{Seen, seen, stays, settled_layer, seen_of, is_settled_expression, is_settled_option, is_settled_piece, or_true, statement_layer, is_settled_statement, is_settled_function, is_settled}

-- what is seen of an expression is that it is settled, and its number
abbrev Is : CoreExpr → Type 0
Is e = seen_of e ≡ (true, constant e)

abbrev Holds : CoreExpr → Type 0
Holds e = Is (folded e)

abbrev Known : Type 0
Known = (e : CoreExpr) × Holds e

abbrev plain : CoreExpr-F Known → CoreExpr-F CoreExpr
plain y = map-CoreExpr Known CoreExpr (λ e. e.0) y

abbrev all : List Known → List CoreExpr
all es = map (λ e. e.0) es

-- one layer, of a node that is no number
node : (e : CoreExpr) (y : CoreExpr-F CoreExpr) (p : Seen) → out-CoreExpr e ≡ y → settled_layer (map-CoreExpr CoreExpr Seen seen_of y) ≡ p → p ≡ (true, constant_level y) → Is e
node e y p is layer whole =
    fold_out-CoreExpr Seen settled_layer e
    ∙ ap (λ (z : CoreExpr-F CoreExpr). settled_layer (map-CoreExpr CoreExpr Seen seen_of z)) is
    ∙ layer
    ∙ whole
    ∙ ap (λ (z : CoreExpr-F CoreExpr). (true, constant_level z)) (sym is)

one : (p : Seen) (c : Option (Int × ℕ)) → p ≡ (true, c) → seen p.0 ≡ seen true
one p c h = ap (λ (z : Seen). seen z.0) h

two : (p q : Seen) (c d : Option (Int × ℕ)) → p ≡ (true, c) → q ≡ (true, d) → seen (p.0 && q.0) ≡ seen true
two p q c d h k = ap (λ (z : Seen). seen (z.0 && q.0)) h ∙ ap (λ (z : Seen). seen z.0) k

three : (p q r : Seen) (c d e : Option (Int × ℕ)) → p ≡ (true, c) → q ≡ (true, d) → r ≡ (true, e) → seen (p.0 && (q.0 && r.0)) ≡ seen true
three p q r c d e h k l = ap (λ (z : Seen). seen (z.0 && (q.0 && r.0))) h ∙ two q r d e k l

-- a node with a value of its own: it gives none
gives : (f : Option (Int × ℕ) → Option ℕ) (p : Seen) (c : Option (Int × ℕ)) → p ≡ (true, c) → f c ≡ None → seen (p.0 && stays (f p.1)) ≡ seen true
gives f p c h none = ap (λ (z : Seen). seen (z.0 && stays (f z.1))) h ∙ ap (λ (v : Option ℕ). seen (stays v)) none

both_give : (o : Op) (p q : Seen) (c d : Option (Int × ℕ)) → p ≡ (true, c) → q ≡ (true, d) → binary_value o c d ≡ None →
    seen (p.0 && (q.0 && stays (binary_value o p.1 q.1))) ≡ seen true
both_give o p q c d h k none =
    ap (λ (z : Seen). seen (z.0 && (q.0 && stays (binary_value o z.1 q.1)))) h
    ∙ ap (λ (z : Seen). seen (z.0 && stays (binary_value o c z.1))) k
    ∙ ap (λ (v : Option ℕ). seen (stays v)) none

number : (l : ℕ) (t : CType) (n : ℕ) → Is (core.Number l t n)
number l t n = node (core.Number l t n) (CoreExpr-F.Number l t n) _ (core.outs-Number l t n) refl refl

-- a number stands for the node, or the node stays
unary : (l : ℕ) (t : CType) (o : UnaryOperator) (a : CoreExpr) (v : Option ℕ) → Is a → unary_value o (constant a) ≡ v → Is (or_number l t v (core.Unary l t o a))
unary l t o a None h e = node (core.Unary l t o a) (CoreExpr-F.Unary l t o a) _ (core.outs-Unary l t o a) (gives (unary_value o) (seen_of a) (constant a) h e) refl
unary l t o a (Some n) h e = number l t n

cast : (l : ℕ) (t : CType) (a : CoreExpr) (v : Option ℕ) → Is a → converted_value t (constant a) ≡ v → Is (or_number l t v (core.Cast l t a))
cast l t a None h e = node (core.Cast l t a) (CoreExpr-F.Cast l t a) _ (core.outs-Cast l t a) (gives (converted_value t) (seen_of a) (constant a) h e) refl
cast l t a (Some n) h e = number l t n

convert : (l : ℕ) (t : CType) (a : CoreExpr) (v : Option ℕ) → Is a → converted_value t (constant a) ≡ v → Is (or_number l t v (core.Convert l t a))
convert l t a None h e = node (core.Convert l t a) (CoreExpr-F.Convert l t a) _ (core.outs-Convert l t a) (gives (converted_value t) (seen_of a) (constant a) h e) refl
convert l t a (Some n) h e = number l t n

binary : (l : ℕ) (t : CType) (o : Op) (a b : CoreExpr) (v : Option ℕ) → Is a → Is b → binary_value o (constant a) (constant b) ≡ v → Is (or_number l t v (core.Binary l t o a b))
binary l t o a b None h k e =
    node (core.Binary l t o a b) (CoreExpr-F.Binary l t o a b) _ (core.outs-Binary l t o a b) (both_give o (seen_of a) (seen_of b) (constant a) (constant b) h k e) refl
binary l t o a b (Some n) h k e = number l t n

all_hold : (es : List Known) → list_all (λ (e : Seen). e.0) (map seen_of (map folded (all es))) ≡ true
all_hold [] = refl
all_hold (e ∷ es) = ap (λ (z : Seen). z.0 && list_all (λ (e : Seen). e.0) (map seen_of (map folded (all es)))) e.1 ∙ all_hold es

called : (p : Seen) (c : Option (Int × ℕ)) (b : Bool) → p ≡ (true, c) → b ≡ true → seen (p.0 && b) ≡ seen true
called p c b h k = ap (λ (z : Seen). seen (z.0 && b)) h ∙ ap seen k

-- the operands of a node are settled
holds_one : (a : Known) → seen (seen_of (folded a.0)).0 ≡ seen true
holds_one a = one (seen_of (folded a.0)) (constant (folded a.0)) a.1

holds_two : (a b : Known) → seen ((seen_of (folded a.0)).0 && (seen_of (folded b.0)).0) ≡ seen true
holds_two a b = two (seen_of (folded a.0)) (seen_of (folded b.0)) (constant (folded a.0)) (constant (folded b.0)) a.1 b.1

holds_three : (a b d : Known) → seen ((seen_of (folded a.0)).0 && ((seen_of (folded b.0)).0 && (seen_of (folded d.0)).0)) ≡ seen true
holds_three a b d =
    three (seen_of (folded a.0)) (seen_of (folded b.0)) (seen_of (folded d.0)) (constant (folded a.0)) (constant (folded b.0)) (constant (folded d.0)) a.1 b.1 d.1

layered : (y : CoreExpr-F Known) → Is (rebuilt (map-CoreExpr CoreExpr CoreExpr folded (plain y)))
layered (CoreExpr-F.Number l t n) = number l t n
layered (CoreExpr-F.Literal l t i) = node (core.Literal l t i) (CoreExpr-F.Literal l t i) _ (core.outs-Literal l t i) refl refl
layered (CoreExpr-F.Automatic l t b i) = node (core.Automatic l t b i) (CoreExpr-F.Automatic l t b i) _ (core.outs-Automatic l t b i) refl refl
layered (CoreExpr-F.Static l t key) = node (core.Static l t key) (CoreExpr-F.Static l t key) _ (core.outs-Static l t key) refl refl
layered (CoreExpr-F.Function l t key) = node (core.Function l t key) (CoreExpr-F.Function l t key) _ (core.outs-Function l t key) refl refl
layered (CoreExpr-F.Index l t n a b) =
    node (core.Index l t n (folded a.0) (folded b.0)) (CoreExpr-F.Index l t n (folded a.0) (folded b.0)) _ (core.outs-Index l t n (folded a.0) (folded b.0)) (holds_two a b) refl
layered (CoreExpr-F.Call l t f es) =
    node (core.Call l t (folded f.0) (map folded (all es))) (CoreExpr-F.Call l t (folded f.0) (map folded (all es))) _ (core.outs-Call l t (folded f.0) (map folded (all es)))
    (called (seen_of (folded f.0)) (constant (folded f.0)) _ f.1 (all_hold es)) refl
layered (CoreExpr-F.Member l t n a) = node (core.Member l t n (folded a.0)) (CoreExpr-F.Member l t n (folded a.0)) _ (core.outs-Member l t n (folded a.0)) (holds_one a) refl
layered (CoreExpr-F.Arrow l t n a) = node (core.Arrow l t n (folded a.0)) (CoreExpr-F.Arrow l t n (folded a.0)) _ (core.outs-Arrow l t n (folded a.0)) (holds_one a) refl
layered (CoreExpr-F.Step l t s n a) = node (core.Step l t s n (folded a.0)) (CoreExpr-F.Step l t s n (folded a.0)) _ (core.outs-Step l t s n (folded a.0)) (holds_one a) refl
layered (CoreExpr-F.Address l t a) = node (core.Address l t (folded a.0)) (CoreExpr-F.Address l t (folded a.0)) _ (core.outs-Address l t (folded a.0)) (holds_one a) refl
layered (CoreExpr-F.Indirection l t a) = node (core.Indirection l t (folded a.0)) (CoreExpr-F.Indirection l t (folded a.0)) _ (core.outs-Indirection l t (folded a.0)) (holds_one a) refl
layered (CoreExpr-F.Unary l t o a) = unary l t o (folded a.0) (unary_value o (constant (folded a.0))) a.1 refl
layered (CoreExpr-F.Cast l t a) = cast l t (folded a.0) (converted_value t (constant (folded a.0))) a.1 refl
layered (CoreExpr-F.Binary l t o a b) = binary l t o (folded a.0) (folded b.0) (binary_value o (constant (folded a.0)) (constant (folded b.0))) a.1 b.1 refl
layered (CoreExpr-F.Offset l t o n a b) =
    node (core.Offset l t o n (folded a.0) (folded b.0)) (CoreExpr-F.Offset l t o n (folded a.0) (folded b.0)) _ (core.outs-Offset l t o n (folded a.0) (folded b.0)) (holds_two a b) refl
layered (CoreExpr-F.Difference l t n a b) =
    node (core.Difference l t n (folded a.0) (folded b.0)) (CoreExpr-F.Difference l t n (folded a.0) (folded b.0)) _ (core.outs-Difference l t n (folded a.0) (folded b.0)) (holds_two a b) refl
layered (CoreExpr-F.Compare l t o a b) =
    node (core.Compare l t o (folded a.0) (folded b.0)) (CoreExpr-F.Compare l t o (folded a.0) (folded b.0)) _ (core.outs-Compare l t o (folded a.0) (folded b.0)) (holds_two a b) refl
layered (CoreExpr-F.And l t a b) =
    node (core.And l t (folded a.0) (folded b.0)) (CoreExpr-F.And l t (folded a.0) (folded b.0)) _ (core.outs-And l t (folded a.0) (folded b.0)) (holds_two a b) refl
layered (CoreExpr-F.Or l t a b) =
    node (core.Or l t (folded a.0) (folded b.0)) (CoreExpr-F.Or l t (folded a.0) (folded b.0)) _ (core.outs-Or l t (folded a.0) (folded b.0)) (holds_two a b) refl
layered (CoreExpr-F.Conditional l t a b d) =
    node (core.Conditional l t (folded a.0) (folded b.0) (folded d.0)) (CoreExpr-F.Conditional l t (folded a.0) (folded b.0) (folded d.0)) _
    (core.outs-Conditional l t (folded a.0) (folded b.0) (folded d.0)) (holds_three a b d) refl
layered (CoreExpr-F.Assign l t a b) =
    node (core.Assign l t (folded a.0) (folded b.0)) (CoreExpr-F.Assign l t (folded a.0) (folded b.0)) _ (core.outs-Assign l t (folded a.0) (folded b.0)) (holds_two a b) refl
layered (CoreExpr-F.AssignStructure l t n a b) =
    node (core.AssignStructure l t n (folded a.0) (folded b.0)) (CoreExpr-F.AssignStructure l t n (folded a.0) (folded b.0)) _
    (core.outs-AssignStructure l t n (folded a.0) (folded b.0)) (holds_two a b) refl
layered (CoreExpr-F.Compound l t o k a b) =
    node (core.Compound l t o k (folded a.0) (folded b.0)) (CoreExpr-F.Compound l t o k (folded a.0) (folded b.0)) _ (core.outs-Compound l t o k (folded a.0) (folded b.0)) (holds_two a b) refl
layered (CoreExpr-F.CompoundOffset l t o n a b) =
    node (core.CompoundOffset l t o n (folded a.0) (folded b.0)) (CoreExpr-F.CompoundOffset l t o n (folded a.0) (folded b.0)) _
    (core.outs-CompoundOffset l t o n (folded a.0) (folded b.0)) (holds_two a b) refl
layered (CoreExpr-F.Comma l t a b) =
    node (core.Comma l t (folded a.0) (folded b.0)) (CoreExpr-F.Comma l t (folded a.0) (folded b.0)) _ (core.outs-Comma l t (folded a.0) (folded b.0)) (holds_two a b) refl
layered (CoreExpr-F.Convert l t a) = convert l t (folded a.0) (converted_value t (constant (folded a.0))) a.1 refl

holds : (e : CoreExpr) → Holds e
holds = ind-CoreExpr Holds
    (λ x y is.
    subst Is (sym (fold-roll-CoreExpr CoreExpr rebuilt x)) (subst (λ (z : CoreExpr-F CoreExpr). Is (rebuilt (map-CoreExpr CoreExpr CoreExpr folded z))) is (layered y)))

pub expression_settled : (e : CoreExpr) → is_settled_expression (folded e) ≡ true
expression_settled e = ap (λ (p : Seen). p.0) (holds e)

option_settled : (e : Option CoreExpr) → is_settled_option (option_map folded e) ≡ true
option_settled None = refl
option_settled (Some e) = expression_settled e

piece_settled : (p : AutoInit) → is_settled_piece (folded_piece p) ≡ true
piece_settled (piece.Value n t e) = expression_settled e
piece_settled (piece.Text n bytes) = refl
piece_settled (piece.Zero n count) = refl
piece_settled (piece.Structure size e) = expression_settled e

both : (a b : Bool) → a ≡ true → b ≡ true → (a && b) ≡ true
both a b h k = ap (λ (z : Bool). z && b) h ∙ k

pieces_settled : (ps : List AutoInit) → list_all is_settled_piece (map folded_piece ps) ≡ true
pieces_settled [] = refl
pieces_settled (p ∷ ps) = both (is_settled_piece (folded_piece p)) (list_all is_settled_piece (map folded_piece ps)) (piece_settled p) (pieces_settled ps)

-- statements
abbrev Stands : CoreStmt → Type 0
Stands s = is_settled_statement (folded_statement s) ≡ true

abbrev Part : Type 0
Part = (s : CoreStmt) × Stands s

abbrev bare : CoreStmt-F Part → CoreStmt-F CoreStmt
bare y = map-CoreStmt Part CoreStmt (λ s. s.0) y

abbrev bare_all : List Part → List CoreStmt
bare_all ss = map (λ s. s.0) ss

stated : (s : CoreStmt) (y : CoreStmt-F CoreStmt) (b : Bool) → out-CoreStmt s ≡ y → statement_layer (map-CoreStmt CoreStmt Bool is_settled_statement y) ≡ b → b ≡ true →
    is_settled_statement s ≡ true
stated s y b is layer whole =
    fold_out-CoreStmt Bool statement_layer s ∙ ap (λ (z : CoreStmt-F CoreStmt). statement_layer (map-CoreStmt CoreStmt Bool is_settled_statement z)) is ∙ layer ∙ whole

all_stand : (ss : List Part) → list_all (λ (b : Bool). b) (map is_settled_statement (map folded_statement (bare_all ss))) ≡ true
all_stand [] = refl
all_stand (s ∷ ss) = both (is_settled_statement (folded_statement s.0)) (list_all (λ (b : Bool). b) (map is_settled_statement (map folded_statement (bare_all ss)))) s.1 (all_stand ss)

-- an expression and a statement
abbrev own : CoreExpr → Bool
own e = is_settled_expression (folded e)

abbrev below : Part → Bool
below s = is_settled_statement (folded_statement s.0)

if_settled : (l : ℕ) (e : CoreExpr) (s : Part) (more : Option Part) → is_settled_statement (rebuilt_statement (map-CoreStmt CoreStmt CoreStmt folded_statement (bare (CoreStmt-F.If l e s more)))) ≡ true
if_settled l e s None =
    stated (stmt.If l (folded e) (folded_statement s.0) None) (CoreStmt-F.If l (folded e) (folded_statement s.0) None) _ (stmt.outs-If l (folded e) (folded_statement s.0) None) refl
    (both (own e) (below s && true) (expression_settled e) (both (below s) true s.1 refl))
if_settled l e s (Some m) =
    stated (stmt.If l (folded e) (folded_statement s.0) (Some (folded_statement m.0))) (CoreStmt-F.If l (folded e) (folded_statement s.0) (Some (folded_statement m.0))) _
    (stmt.outs-If l (folded e) (folded_statement s.0) (Some (folded_statement m.0))) refl
    (both (own e) (below s && below m) (expression_settled e) (both (below s) (below m) s.1 m.1))

arranged : (y : CoreStmt-F Part) → is_settled_statement (rebuilt_statement (map-CoreStmt CoreStmt CoreStmt folded_statement (bare y))) ≡ true
arranged (CoreStmt-F.Block l b labels ss) =
    let parts = map folded_statement (bare_all ss) in
    stated (stmt.Block l b labels parts) (CoreStmt-F.Block l b labels parts) _ (stmt.outs-Block l b labels parts) refl (all_stand ss)
arranged (CoreStmt-F.Initialize l b i ps) =
    stated (stmt.Initialize l b i (map folded_piece ps)) (CoreStmt-F.Initialize l b i (map folded_piece ps)) _ (stmt.outs-Initialize l b i (map folded_piece ps)) refl (pieces_settled ps)
arranged (CoreStmt-F.Empty l) = stated (stmt.Empty l) (CoreStmt-F.Empty l) _ (stmt.outs-Empty l) refl refl
arranged (CoreStmt-F.Expression l e) = stated (stmt.Expression l (folded e)) (CoreStmt-F.Expression l (folded e)) _ (stmt.outs-Expression l (folded e)) refl (expression_settled e)
arranged (CoreStmt-F.If l e s more) = if_settled l e s more
arranged (CoreStmt-F.Switch l e labels s) =
    stated (stmt.Switch l (folded e) labels (folded_statement s.0)) (CoreStmt-F.Switch l (folded e) labels (folded_statement s.0)) _
    (stmt.outs-Switch l (folded e) labels (folded_statement s.0)) refl (both (own e) (below s) (expression_settled e) s.1)
arranged (CoreStmt-F.While l e s) =
    stated (stmt.While l (folded e) (folded_statement s.0)) (CoreStmt-F.While l (folded e) (folded_statement s.0)) _
    (stmt.outs-While l (folded e) (folded_statement s.0)) refl (both (own e) (below s) (expression_settled e) s.1)
arranged (CoreStmt-F.Do l s line e) =
    stated (stmt.Do l (folded_statement s.0) line (folded e)) (CoreStmt-F.Do l (folded_statement s.0) line (folded e)) _
    (stmt.outs-Do l (folded_statement s.0) line (folded e)) refl (both (below s) (own e) s.1 (expression_settled e))
arranged (CoreStmt-F.For l first e after s) =
    let f = option_map folded first in
    let g = option_map folded e in
    let h = option_map folded after in
    stated (stmt.For l f g h (folded_statement s.0)) (CoreStmt-F.For l f g h (folded_statement s.0)) _ (stmt.outs-For l f g h (folded_statement s.0)) refl
    (both (is_settled_option f) (is_settled_option g && (is_settled_option h && below s)) (option_settled first)
    (both (is_settled_option g) (is_settled_option h && below s) (option_settled e) (both (is_settled_option h) (below s) (option_settled after) s.1)))
arranged (CoreStmt-F.Case l s) = stated (stmt.Case l (folded_statement s.0)) (CoreStmt-F.Case l (folded_statement s.0)) _ (stmt.outs-Case l (folded_statement s.0)) refl s.1
arranged (CoreStmt-F.Default l s) = stated (stmt.Default l (folded_statement s.0)) (CoreStmt-F.Default l (folded_statement s.0)) _ (stmt.outs-Default l (folded_statement s.0)) refl s.1
arranged (CoreStmt-F.Label l s) = stated (stmt.Label l (folded_statement s.0)) (CoreStmt-F.Label l (folded_statement s.0)) _ (stmt.outs-Label l (folded_statement s.0)) refl s.1
arranged (CoreStmt-F.Goto l label) = stated (stmt.Goto l label) (CoreStmt-F.Goto l label) _ (stmt.outs-Goto l label) refl refl
arranged (CoreStmt-F.Continue l) = stated (stmt.Continue l) (CoreStmt-F.Continue l) _ (stmt.outs-Continue l) refl refl
arranged (CoreStmt-F.Break l) = stated (stmt.Break l) (CoreStmt-F.Break l) _ (stmt.outs-Break l) refl refl
arranged (CoreStmt-F.Return l e) = stated (stmt.Return l (option_map folded e)) (CoreStmt-F.Return l (option_map folded e)) _ (stmt.outs-Return l (option_map folded e)) refl (option_settled e)

pub statement_settled : (s : CoreStmt) → Stands s
statement_settled = ind-CoreStmt Stands
    (λ x y is.
    ap is_settled_statement (fold-roll-CoreStmt CoreStmt rebuilt_statement x)
    ∙ subst (λ (z : CoreStmt-F CoreStmt). is_settled_statement (rebuilt_statement (map-CoreStmt CoreStmt CoreStmt folded_statement z)) ≡ true) is (arranged y))

functions_settled : (fs : List Fun) → list_all is_settled_function (map folded_function fs) ≡ true
functions_settled [] = refl
functions_settled (f ∷ fs) =
    both (is_settled_function (folded_function f)) (list_all is_settled_function (map folded_function fs)) (statement_settled f.body) (functions_settled fs)

pub core_settled : (c : Core) → is_settled (folded_core c) ≡ true
core_settled c = functions_settled c.funs
