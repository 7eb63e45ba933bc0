-- Literals that agree where they have one place.
use Rattle.std.proofs.Common.{◌≡◌, ℕ, zero, suc, ◌&&◌, ◌||◌, Bool, true, false, not, List, [], ◌∷◌, refl, sym, ap, ◌∙◌, Option, Some, None, arith, true≢false}
use Rattle.std.proofs.lemmas.Bool.{and_parts}
use Rattle.std.proofs.lemmas.Bool.Decides.{nat_tests}
use Rattle.std.proofs.lemmas.Slice.Eq.{bytes_eq-Decides}
use Rattle.std.specs.Prelude.{nat_eq}
use Rattle.std.specs.List.{list_all, slice_get}
use Rattle.std.specs.Str.{bytes_eq}
use Rattle.sc_isa_image.specs.declared.literals.Literal.{Literal}
use Rattle.sc_link.specs.declared.placed.LiteralAt.{LiteralAt}
use Rattle.sc_link.specs.Linked.{AreOnePlaced, literal_of}
use Rattle.sc_image.specs.OnePlace.{agree, agrees_with, all_agree}

one-of : {A : Type 0} (test : A → Bool) (xs : List A) (n : ℕ) (x : A) → list_all test xs ≡ true → slice_get xs n ≡ Some x → test x ≡ true
one-of test [] n x all g = absurd (cc g)
one-of test (y ∷ xs) zero x all g = let same : y ≡ x = cc in ap test (sym same) ∙ (and_parts (test y) (list_all test xs) all).0
one-of test (y ∷ xs) (suc n) x all g = one-of test xs n x (and_parts (test y) (list_all test xs) all).1 g

second : (a b : Bool) → not a || b ≡ true → a ≡ true → b ≡ true
second true b e t = e
second false b e t = absurd (true≢false (sym t))

nat-same : (m n : ℕ) → m ≡ n → nat_eq m n ≡ true
nat-same m n e = grind (arith, nat_tests)

same-literal : (x y : LiteralAt) → bytes_eq x.«module» y.«module» && bytes_eq x.bytes y.bytes ≡ true → literal_of x ≡ literal_of y
same-literal x y e =
    let p = and_parts (bytes_eq x.«module» y.«module») (bytes_eq x.bytes y.bytes) e in
    let m = (bytes_eq-Decides x.«module» y.«module»).0 p.0 in
    let b = (bytes_eq-Decides x.bytes y.bytes).0 p.1 in
    λ t. record { «module» = m t; bytes = b t }

pub places-agree : (xs : List LiteralAt) → all_agree xs ≡ true → AreOnePlaced xs
places-agree xs all m n x y g h e =
    let one = one-of (agrees_with xs) xs m x all g in
    let two = one-of (agree x) xs n y one h in
    same-literal x y (second (nat_eq x.at y.at) (bytes_eq x.«module» y.«module» && bytes_eq x.bytes y.bytes) two (nat-same x.at y.at e))
