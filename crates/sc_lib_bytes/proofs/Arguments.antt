-- What stands at a place of a list, and what where nothing does.
use Rattle.std.proofs.Common.{◌≡◌, ℕ, List, slice_get, slice_index_or, Option, Some, None, sym, ap, ◌∙◌}
use Rattle.std.specs.Prelude.{unwrap_or}
use Rattle.std.proofs.lemmas.Option.{get_or_from_slice_get, unwrap_or-slice_get}

pub stands_there : {X : Type 0} (xs : List X) (i : ℕ) (x d : X) → slice_get xs i ≡ Some x → slice_index_or xs i d ≡ x
stands_there xs i x d e = get_or_from_slice_get xs i x d e

pub stands_nowhere : {X : Type 0} (xs : List X) (i : ℕ) (d : X) → slice_get xs i ≡ None → slice_index_or xs i d ≡ d
stands_nowhere {X} xs i d e = sym (unwrap_or-slice_get xs i d) ∙ ap (λ (o : Option X). unwrap_or o d) e
