-- Texts that stand one behind another are apart.
use Rattle.std.proofs.Common.{◌≡◌, ℕ, zero, suc, ◌+◌, ◌*◌, ◌<◌, ◌≤◌, ◌&&◌, Bool, true, false, List, [], ◌∷◌, length, refl, sym, ap, ◌∙◌, Option, Some, None, arith, subst, true≢false}
use Rattle.std.proofs.lemmas.Bool.Decides.{nat_tests}
use Rattle.std.specs.Prelude.{nat_le, nat_lt}
use Rattle.std.specs.List.{slice_get}
use Rattle.sc_isa_image.specs.declared.text.Text.{Text}
use Rattle.sc_isa_image.specs.Texts.{end_of, holds}
use Rattle.sc_link.specs.Linked.{AreApart}
use Rattle.sc_image.specs.Ordered.{are_ordered, is_behind}

none-some : {A : Type 0} (r : Option A) (x : A) → r ≡ None → r ≡ Some x → ⊥
none-some {A = A} r x n s = absurd (let e : ◌≡◌ {A = Option A} None (Some x) = sym n ∙ s in cc)

same-some : {A : Type 0} (x y : A) → Some x ≡ Some y → x ≡ y
same-some x y h = cc

and-left : (a b : Bool) → a && b ≡ true → a ≡ true
and-left true b h = refl
and-left false b h = absurd (true≢false (sym h))

and-right : (a b : Bool) → a && b ≡ true → b ≡ true
and-right true b h = h
and-right false b h = absurd (true≢false (sym h))

le-true : (a b : ℕ) → nat_le a b ≡ true → a ≤ b
le-true a b h = grind (arith, nat_tests)

first-low : (end : ℕ) (x : Text) (r : Bool) → is_behind end x && r ≡ true → end ≤ x.at.start
first-low end x r h = le-true end x.at.start (and-left (nat_le end x.at.start) (nat_le (end_of x) 0x04100000) (and-left (is_behind end x) r h))

rest-true : (end : ℕ) (x : Text) (r : Bool) → is_behind end x && r ≡ true → r ≡ true
rest-true end x r h = and-right (is_behind end x) r h

held-low : (pc a b : ℕ) → nat_le a pc && nat_lt pc b ≡ true → a ≤ pc
held-low pc a b h = grind (arith, nat_tests)

held-high : (pc a b : ℕ) → nat_le a pc && nat_lt pc b ≡ true → pc < b
held-high pc a b h = grind (arith, nat_tests)

-- each of the texts begins at or behind the first address
low : (end : ℕ) (ts : List Text) (n : ℕ) (t : Text) → are_ordered end ts ≡ true → slice_get ts n ≡ Some t → end ≤ t.at.start
low end [] n t h g = absurd (none-some (slice_get [] n) t refl g)
low end (x ∷ ts) zero t h g = subst (λ (y : Text). end ≤ y.at.start) (same-some x t g) (first-low end x (are_ordered (end_of x) ts) h)
low end (x ∷ ts) (suc n) t h g = last end x.at.start (length x.words) t.at.start (first-low end x (are_ordered (end_of x) ts) h) (low (end_of x) ts n t (rest-true end x (are_ordered (end_of x) ts) h) g)
  where
    last : (end start len to : ℕ) → end ≤ start → start + 4 * len ≤ to → end ≤ to
    last end start len to a b = omega arith

-- a text does not hold an address of one behind it
never : (x t u : Text) (end : ℕ) (ts : List Text) (n pc : ℕ) → are_ordered end (x ∷ ts) ≡ true → x ≡ t → slice_get ts n ≡ Some u → holds pc t ≡ true → holds pc u ≡ true → ⊥
never x t u end ts n pc h s g p q = absurd (
    let l = low (end_of x) ts n u (rest-true end x (are_ordered (end_of x) ts) h) g in
    let k : end_of t ≤ u.at.start = subst (λ y. end_of y ≤ u.at.start) s l in
    let a = held-high pc t.at.start (end_of t) p in
    let b = held-low pc u.at.start (end_of u) q in
    omega arith)

pub ordered-apart : (end : ℕ) (ts : List Text) → are_ordered end ts ≡ true → AreApart ts
ordered-apart end [] h m n t u pc g e p q = absurd (none-some (slice_get [] m) t refl g)
ordered-apart end (x ∷ ts) h zero zero t u pc g e p q = refl
ordered-apart end (x ∷ ts) h zero (suc n) t u pc g e p q = absurd (never x t u end ts n pc h (same-some x t g) e p q)
ordered-apart end (x ∷ ts) h (suc m) zero t u pc g e p q = absurd (never x u t end ts m pc h (same-some x u e) g q p)
ordered-apart end (x ∷ ts) h (suc m) (suc n) t u pc g e p q = ap suc (ordered-apart (end_of x) ts (rest-true end x (are_ordered (end_of x) ts) h) m n t u pc g e p q)
