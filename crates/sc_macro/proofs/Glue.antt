-- Gluing at the end of a list.
use Rattle.std.proofs.Common.{◌≡◌, List, [], ◌∷◌, ◌++◌, length, arith, Ok, Err, refl, sym, ◌∙◌, ap}
use Rattle.sc_lex.specs.declared.token.Token.{Token}
use Rattle.sc_macro.specs.declared.marked.Marked.{Marked}
use Rattle.sc_macro.specs.Refusals.{Outcome, after}
use Rattle.sc_macro.specs.Substitute.{pasted, glue}

pub glue_none : (name : Token) (xs : List Marked) → glue name xs [] ≡ Ok xs
glue_none name [] = refl
glue_none name (x ∷ []) = refl
glue_none name (x ∷ y ∷ xs) = ap (λ (o : Outcome (List Marked)). after o (λ zs. Ok (x ∷ zs))) (glue_none name (y ∷ xs))

after_cons : (o : Outcome Marked) (x : Marked) (f : Marked → List Marked) → ◌≡◌ {A = Outcome (List Marked)} (after (after o (λ p. Ok (f p))) (λ zs. Ok (x ∷ zs))) (after o (λ p. Ok (x ∷ f p)))
after_cons (Err e) x f = refl
after_cons (Ok p) x f = refl

pub glue_last : (name : Token) (xs : List Marked) (x y : Marked) (ys : List Marked) → glue name (xs ++ x ∷ []) (y ∷ ys) ≡ after (pasted name x y) (λ p. Ok (xs ++ p ∷ ys))
glue_last name [] x y ys = refl
glue_last name (a ∷ []) x y ys = after_cons (pasted name x y) a (λ p. p ∷ ys)
glue_last name (a ∷ b ∷ xs) x y ys = ap (λ (o : Outcome (List Marked)). after o (λ zs. Ok (a ∷ zs))) (glue_last name (b ∷ xs) x y ys) ∙ after_cons (pasted name x y) a (λ p. b ∷ xs ++ p ∷ ys)

empty : (xs : List Marked) → length xs ≡ 0 → xs ≡ []
empty [] h = refl
empty (x ∷ xs) h = absurd (omega arith)

pub glue_nothing : (name : Token) (xs ys zs : List Marked) → length ys ≡ 0 → ys ≡ zs → glue name xs zs ≡ Ok xs
glue_nothing name xs ys zs h e = let z : zs ≡ [] = sym e ∙ empty ys h in rw z (glue_none name xs)
