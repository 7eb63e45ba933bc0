-- Inside: plumbing, a representation, an invariant or a promise beside the claim (docs/TRUST.md).
-- The blocks that enclose a place in a function.
use Rattle.std.specs.Prelude.{ℕ, ◌==◌, Bool, List, [], ◌∷◌}
use Rattle.std.specs.List.{list_any}
use Rattle.sc_core_formed.specs.declared.open.Open.{Open, fold-Open}
use Rattle.sc_core_formed.specs.declared.open.Open.TheOpen.{Open-F}

abbrev pub numbers_layer : Open-F (List ℕ) → List ℕ
numbers_layer Open-F.Outside = []
numbers_layer (Open-F.Inside n outer) = n ∷ outer.now

-- their numbers, the innermost first
abbrev pub numbers : Open → List ℕ
numbers = fold-Open (List ℕ) numbers_layer

abbrev pub is_open : List ℕ → ℕ → Bool
is_open around block = list_any (λ n. n == block) around
