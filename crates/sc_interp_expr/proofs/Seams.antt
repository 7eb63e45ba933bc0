-- What is left of a call's arguments behind one more.
use Rattle.std.proofs.Common.{◌≡◌, ℕ, ◌+◌, List, [], ◌∷◌, ◌++◌, length, drop, ap, sym, ◌∙◌}
use Rattle.std.proofs.lemmas.List.{length-append, drop-drop}

pub one_more : {A B : Type 0} (vs : List A) (y : A) (es : List B) → drop (length (vs ++ y ∷ [])) es ≡ drop 1 (drop (length vs) es)
one_more vs y es = ap (λ n. drop n es) (length-append vs (y ∷ [])) ∙ sym (drop-drop 1 (length vs) es)
