-- Tokens of a replacement are placed from the last to the first.
use Rattle.std.proofs.Common.{◌≡◌, ℕ, Bool, true, false, List, [], ◌∷◌, ◌++◌, map, refl, ap}
use Rattle.sc_lex.specs.declared.token.Token.{Token}
use Rattle.sc_macro.specs.declared.marked.Marked.{Marked}
use Rattle.sc_macro.specs.Marks.{landed, landed_as, respaced, spaced_as}

before : (f : Marked → Marked) (xs : List Marked) (t : Marked) (rest : List Marked) → map f (xs ++ t ∷ []) ++ rest ≡ map f xs ++ f t ∷ rest
before f [] t rest = refl
before f (x ∷ xs) t rest = ap (λ (ys : List Marked). f x ∷ ys) (before f xs t rest)

pub land_first : (name : Token) (hide : List ℕ) (more : List Marked) (t : Marked) (rest : List Marked) (first : Bool) → more ≡ [] → first ≡ true
    → map (landed name hide) (respaced name.space (more ++ t ∷ [])) ++ rest ≡ map (landed name hide) (respaced name.space more) ++ landed_as name hide first t ∷ rest
land_first name hide more t rest first m f = rw (m, f) refl

pub land_other : (name : Token) (hide : List ℕ) (more : List Marked) (t : Marked) (rest : List Marked) (first : Bool) → (more ≡ [] → ⊥) → first ≡ false
    → map (landed name hide) (respaced name.space (more ++ t ∷ [])) ++ rest ≡ map (landed name hide) (respaced name.space more) ++ landed_as name hide first t ∷ rest
land_other name hide [] t rest first n f = absurd (n refl)
land_other name hide (m ∷ ms) t rest first n f = rw f (before (landed name hide) (spaced_as name.space m ∷ ms) t rest)
