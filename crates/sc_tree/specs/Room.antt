-- Inside: plumbing, a representation, an invariant or a promise beside the claim (docs/TRUST.md).
-- How many words the evaluation of an expression keeps at once.
use Rattle.std.specs.Prelude.{ℕ, ◌+◌, max, List, [], ◌∷◌}
use Rattle.sc_tree.specs.declared.expression.Expr.{Expr, fold-Expr}
use Rattle.sc_tree.specs.declared.expression.Derivation.TheOpen.{Expr-F}
use Rattle.sc_tree.specs.Nodes.{Numbers}

-- The room of operands that are evaluated in this order, while `held` values are kept.
abbrev pub in_order : ℕ → List ℕ → ℕ
in_order held [] = 0
in_order held (n ∷ ns) = max (n + held) (in_order (held + 1) ns)

abbrev pub room_in : Numbers Expr-F → ℕ
room_in (Expr-F.Name l n) = 1
room_in (Expr-F.Constant l c) = 1
room_in (Expr-F.String l s) = 1
room_in (Expr-F.OffsetOf l t n) = 1
room_in (Expr-F.Index l a b) = in_order 0 (a ∷ b ∷ [])
room_in (Expr-F.Call l f args) = in_order 0 (f ∷ args)
room_in (Expr-F.Member l a n) = in_order 0 (a ∷ [])
room_in (Expr-F.Arrow l a n) = in_order 0 (a ∷ [])
room_in (Expr-F.Postfix l op a) = in_order 0 (a ∷ [])
room_in (Expr-F.Unary l op a) = in_order 0 (a ∷ [])
room_in (Expr-F.SizeOf l a) = 1
room_in (Expr-F.SizeOfType l t) = 1
room_in (Expr-F.Cast l t a) = in_order 0 (a ∷ [])
room_in (Expr-F.Binary l op a b) = in_order 0 (a ∷ b ∷ [])
room_in (Expr-F.Conditional l a b c) = in_order 0 (a ∷ b ∷ c ∷ [])
room_in (Expr-F.Assign l op a b) = in_order 0 (a ∷ b ∷ [])
room_in (Expr-F.Comma l a b) = in_order 0 (a ∷ b ∷ [])

-- The room of an expression: a leaf has 1, and `sizeof` is one.
abbrev pub room_of : Expr → ℕ
room_of = fold-Expr ℕ ℕ ℕ ℕ ℕ ℕ ℕ (λ _. 0) room_in (λ _. 0) (λ _. 0) (λ _. 0) (λ _. 0) (λ _. 0)
