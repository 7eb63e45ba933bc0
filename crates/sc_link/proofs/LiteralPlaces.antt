-- Literals one after another.
use Rattle.std.proofs.Common.{◌≡◌, ◌≢◌, ◌⊎◌, inl, inr, ℕ, zero, suc, ◌+◌, ◌<◌, ◌≤◌, ◌==◌, ◌&&◌, Bool, true, false, cond, List, [], ◌∷◌, ◌++◌, length, reverse, refl, sym, ap, ◌∙◌, Option, Some, None, find, arith, true≢false, append_assoc}
use Rattle.std.proofs.lemmas.List.{append-nil, reverse-append}
use Rattle.std.specs.Prelude.{◌↔◌, IsSome, is_some, nat_eq}
use Rattle.std.specs.List.{slice_get}
use Rattle.std.specs.Str.{bytes_eq}
use Rattle.sc_isa_image.specs.declared.image.Image.{Image}
use Rattle.sc_isa_image.specs.declared.literals.Literal.{Literal}
use Rattle.sc_isa_image.specs.Lookups.{SameKeys, SameTexts, SameValues, SameWords, Spends, literal_in}
use Rattle.sc_link.specs.declared.placed.LiteralAt.{LiteralAt}
use Rattle.sc_link.specs.Linked.{at_of, is_literal_at, literal_of, literal_place}
use Rattle.sc_link.specs.Steps.{AreLiteralsFree, HasLiterals, IsFound, MayHold, PutsLiterals, count_of}
use Rattle.sc_link.proofs.Keys.{bytes-refl, bytes-same, eq-true, eq-false, true-eq, false-eq, same-some}
use Rattle.sc_link.proofs.Sequences.{spends-none, spends-then}

pub literal-same : (l : Literal) (x : LiteralAt) → is_literal_at l x ≡ true → literal_of x ≡ l
literal-same l x h = by (bytes_eq x.«module» l.«module») refl h
  where
    by : (b : Bool) → bytes_eq x.«module» l.«module» ≡ b → b && bytes_eq x.bytes l.bytes ≡ true → literal_of x ≡ l
    by true e g = let a = bytes-same x.«module» l.«module» e in let b = bytes-same x.bytes l.bytes g in λ i. record { «module» = a i; bytes = b i }
    by false e g = absurd (true≢false (sym g))

pub literal-refl : (x : LiteralAt) → is_literal_at (literal_of x) x ≡ true
literal-refl x = ap (λ b. b && bytes_eq x.bytes x.bytes) (bytes-refl x.«module») ∙ bytes-refl x.bytes

-- one more literal is looked at first
pub place-push : (ls : List LiteralAt) (x : LiteralAt) (l : Literal) → literal_place (ls ++ x ∷ []) l ≡ cond (is_literal_at l x) (Some x.at) (literal_place ls l)
place-push ls x l = ap (λ zs. at_of (find (is_literal_at l) zs)) (reverse-append ls (x ∷ [])) ∙ by (is_literal_at l x)
  where
    by : (b : Bool) → at_of (cond b (Some x) (find (is_literal_at l) (reverse ls))) ≡ cond b (Some x.at) (literal_place ls l)
    by true = refl
    by false = refl

pub literals-none : (i : Image) → PutsLiterals [] i i
literals-none i = record {
  literals = λ ls h. by ls h;
  places = λ at l e. inl e;
  count = refl;
  keys = λ at. refl;
  values = λ q. refl;
  words = λ pc. refl;
  texts = λ pc. refl;
  room = spends-none i;
}
  where
    by : (ls : List LiteralAt) → HasLiterals ls i → HasLiterals (ls ++ []) i
    by ls h = rw (append-nil ls) h

pub literals-then : (x : LiteralAt) (xs : List LiteralAt) (i j f : Image) → PutsLiterals (x ∷ []) i j → PutsLiterals xs j f → PutsLiterals (x ∷ xs) i f
literals-then x xs i j f p q = record {
  literals = λ ls h. rw (sym (append_assoc ls (x ∷ []) xs)) (q.literals (ls ++ x ∷ []) (p.literals ls h));
  places = λ at l e. elim (q.places at l e) [
    | inl b ↦ elim (p.places at l b) [ inl c ↦ inl c | inr c ↦ inr (0, x, refl, only c.0 c.1 c.2 at c.3, onto c.0 c.1 c.2 l c.4) ]
    | inr c ↦ inr (suc c.0, c.1, c.2, c.3, c.4)
  ];
  count = q.count ∙ p.count;
  keys = λ at. q.keys at ∙ p.keys at;
  values = λ k. q.values k ∙ p.values k;
  words = λ pc. q.words pc ∙ p.words pc;
  texts = λ pc. q.texts pc ∙ p.texts pc;
  room = spends-then i j f 0 0 1 0 0 0 (length xs) 0 0 0 (length (x ∷ xs)) 0 p.room q.room (omega arith) (omega arith) (omega arith) (omega arith);
}
  where
    is-x : (n : ℕ) (y : LiteralAt) → slice_get (x ∷ []) n ≡ Some y → x ≡ y
    is-x zero y h = same-some x y h
    is-x (suc n) y h = absurd (cc)

    only : (n : ℕ) (y : LiteralAt) → slice_get (x ∷ []) n ≡ Some y → (at : ℕ) → y.at ≡ at → x.at ≡ at
    only n y h at e = ap (λ (z : LiteralAt). z.at) (is-x n y h) ∙ e

    onto : (n : ℕ) (y : LiteralAt) → slice_get (x ∷ []) n ≡ Some y → (l : Literal) → literal_of y ≡ l → literal_of x ≡ l
    onto n y h l e = ap literal_of (is-x n y h) ∙ e

pub free-literal : (x : LiteralAt) (xs : List LiteralAt) (i : Image) → AreLiteralsFree (x ∷ xs) i → AreLiteralsFree (x ∷ []) i
free-literal x xs i a = record {
  free = λ n y l h. a.free 0 y l (one n y h);
  apart = λ m n y z g h e. a.apart 0 0 y z (one m y g) (one n z h) e;
}
  where
    one : (n : ℕ) (y : LiteralAt) → slice_get (x ∷ []) n ≡ Some y → slice_get (x ∷ xs) 0 ≡ Some y
    one zero y h = h
    one (suc n) y h = absurd (cc)

pub free-literals : (x : LiteralAt) (xs : List LiteralAt) (i j : Image) → AreLiteralsFree (x ∷ xs) i → PutsLiterals (x ∷ []) i j → AreLiteralsFree xs j
free-literals x xs i j a p = record {
  free = λ n y l h e. elim (p.places y.at l e) [
    | inl b ↦ a.free (suc n) y l h b
    | inr c ↦ sym c.4 ∙ a.apart 0 (suc n) c.1 y (first c.0 c.1 c.2) h c.3
  ];
  apart = λ m n y z g h. a.apart (suc m) (suc n) y z g h;
}
  where
    first : (n : ℕ) (y : LiteralAt) → slice_get (x ∷ []) n ≡ Some y → slice_get (x ∷ xs) 0 ≡ Some y
    first zero y h = h
    first (suc n) y h = absurd (cc)

-- A literal is put at a place that is free, after it was taken from the place that it had.
pub record Changes (x : LiteralAt) (old new : Image) : Type 0 where
  pub here : literal_in new x.at ≡ Some (literal_of x)
  pub others : (at : ℕ) (l : Literal) → at ≢ x.at → l ≢ literal_of x → literal_in new at ≡ Some l → literal_in old at ≡ Some l
  pub kept : (at : ℕ) (l : Literal) → at ≢ x.at → l ≢ literal_of x → literal_in old at ≡ Some l → literal_in new at ≡ Some l
  pub gone : (at : ℕ) → at ≢ x.at → literal_in new at ≢ Some (literal_of x)
  pub free : (l : Literal) → literal_in old x.at ≡ Some l → l ≡ literal_of x

changed-place : (ls : List LiteralAt) (x : LiteralAt) (i j : Image) → Changes x i j → HasLiterals ls i → HasLiterals (ls ++ x ∷ []) j
changed-place ls x i j c h = λ l at. by l at (is_literal_at l x) refl
  where
    new : (at : ℕ) → literal_in j at ≡ Some (literal_of x) → x.at ≡ at
    new at e = near at (at == x.at) refl e
      where
        near : (at : ℕ) (b : Bool) → (at == x.at) ≡ b → literal_in j at ≡ Some (literal_of x) → x.at ≡ at
        near at true g e = sym (eq-true at x.at g)
        near at false g e = absurd (c.gone at (eq-false at x.at g) e)

    differ : (l : Literal) → is_literal_at l x ≡ false → l ≢ literal_of x
    differ l f e = true≢false (sym (literal-refl x) ∙ (ap (λ m. is_literal_at m x) (sym e) ∙ f))

    there : (at : ℕ) (l : Literal) → l ≢ literal_of x → (b : Bool) → (at == x.at) ≡ b → literal_in j at ≡ Some l → literal_in i at ≡ Some l
    there at l ne true g e = absurd (ne (same-some l (literal_of x) (sym e ∙ (ap (literal_in j) (eq-true at x.at g) ∙ c.here))))
    there at l ne false g e = c.others at l (eq-false at x.at g) ne e

    back : (at : ℕ) (l : Literal) → l ≢ literal_of x → (b : Bool) → (at == x.at) ≡ b → ((m : Literal) → literal_in i x.at ≡ Some m → m ≡ literal_of x) → literal_in i at ≡ Some l → literal_in j at ≡ Some l
    back at l ne true g free e = absurd (ne (free l (ap (literal_in i) (sym (eq-true at x.at g)) ∙ e)))
    back at l ne false g free e = c.kept at l (eq-false at x.at g) ne e

    by : (l : Literal) (at : ℕ) (b : Bool) → is_literal_at l x ≡ b → (literal_in j at ≡ Some l) ↔ (literal_place (ls ++ x ∷ []) l ≡ Some at)
    by l at true e =
        let same : literal_of x ≡ l = literal-same l x e in (
          (λ g. place-push ls x l ∙ (ap (λ b. cond b (Some x.at) (literal_place ls l)) e ∙ ap Some (new at (g ∙ ap Some (sym same))))),
          (λ g. ap (literal_in j) (sym (same-some x.at at (ap (λ b. cond b (Some x.at) (literal_place ls l)) (sym e) ∙ (sym (place-push ls x l) ∙ g)))) ∙ (c.here ∙ ap Some same)),
        )
    by l at false e = (
      (λ g. place-push ls x l ∙ (ap (λ b. cond b (Some x.at) (literal_place ls l)) e ∙ (h l at).0 (there at l (differ l e) (at == x.at) refl g))),
      (λ g. back at l (differ l e) (at == x.at) refl c.free ((h l at).1 (ap (λ b. cond b (Some x.at) (literal_place ls l)) (sym e) ∙ (sym (place-push ls x l) ∙ g)))),
    )

pub changed-may : (x : LiteralAt) (i j : Image) → Changes x i j → (at : ℕ) → MayHold (x ∷ []) (literal_in i at) at (literal_in j at)
changed-may x i j c at = λ l e. by l e (at == x.at) refl
  where
    other : (l : Literal) → at ≢ x.at → literal_in j at ≡ Some l → (b : Bool) → is_literal_at l x ≡ b → literal_in i at ≡ Some l
    other l ne e true g = absurd (c.gone at ne (e ∙ ap Some (sym (literal-same l x g))))
    other l ne e false g = c.others at l ne (λ z. true≢false (sym (literal-refl x) ∙ (ap (λ m. is_literal_at m x) (sym z) ∙ g))) e

    by : (l : Literal) → literal_in j at ≡ Some l → (b : Bool) → (at == x.at) ≡ b → (literal_in i at ≡ Some l) ⊎ ((n : ℕ) × (y : LiteralAt) × (slice_get (x ∷ []) n ≡ Some y) × (y.at ≡ at) × (literal_of y ≡ l))
    by l e true g = let s = eq-true at x.at g in inr (0, x, refl, sym s, same-some (literal_of x) l (sym (ap (literal_in j) s ∙ c.here) ∙ e))
    by l e false g = inl (other l (eq-false at x.at g) e (is_literal_at l x) refl)

none-from : {A : Type 0} (r : Option A) → ((x : A) → r ≢ Some x) → r ≡ None
none-from None h = refl
none-from (Some x) h = absurd (h x refl)

-- a place that no other literal has is free, if the literal has none
pub free-place : (x : LiteralAt) (i : Image) → AreLiteralsFree (x ∷ []) i → IsFound i (literal_of x) None → literal_in i x.at ≡ None
free-place x i a f = none-from (literal_in i x.at) (λ l e. let same = a.free 0 x l refl e in let z : ◌≡◌ {A = Option ℕ} None (Some x.at) = (f x.at).1 (e ∙ ap Some same) in absurd (cc))

pub not-there : (x : LiteralAt) (i : Image) → IsFound i (literal_of x) None → (p : ℕ) → literal_in i p ≢ Some (literal_of x)
not-there x i f p e = let z : ◌≡◌ {A = Option ℕ} None (Some p) = (f p).1 e in absurd (cc)

eq-refl : (n : ℕ) → nat_eq n n ≡ true
eq-refl n = true-eq n n refl

put-else : (x : LiteralAt) (at : ℕ) (r : Option Literal) → at ≢ x.at → cond (nat_eq x.at at) (Some (literal_of x)) r ≡ r
put-else x at r ne = ap (λ b. cond b (Some (literal_of x)) r) (false-eq x.at at (λ e. ne (sym e)))

pub changes-put : (x : LiteralAt) (i j : Image) → AreLiteralsFree (x ∷ []) i → IsFound i (literal_of x) None → ((p : ℕ) → literal_in j p ≡ cond (nat_eq x.at p) (Some (literal_of x)) (literal_in i p)) → Changes x i j
changes-put x i j a f put = record {
  here = put x.at ∙ ap (λ b. cond b (Some (literal_of x)) (literal_in i x.at)) (eq-refl x.at);
  others = λ at l ne _ e. sym (put at ∙ put-else x at (literal_in i at) ne) ∙ e;
  kept = λ at l ne _ e. put at ∙ (put-else x at (literal_in i at) ne ∙ e);
  gone = λ at ne e. not-there x i f at (sym (put at ∙ put-else x at (literal_in i at) ne) ∙ e);
  free = λ l e. a.free 0 x l refl e;
}

pub changes-nothing : (x : LiteralAt) (i : Image) → AreLiteralsFree (x ∷ []) i → IsFound i (literal_of x) (Some x.at) → Changes x i i
changes-nothing x i a f = record {
  here = (f x.at).0 refl;
  others = λ at l ne _ e. e;
  kept = λ at l ne _ e. e;
  gone = λ at ne e. ne (sym (same-some x.at at ((f at).1 e)));
  free = λ l e. a.free 0 x l refl e;
}

-- the literal's place, taken
pub taken-free : (x : LiteralAt) (i j : Image) (before : ℕ) → AreLiteralsFree (x ∷ []) i → IsFound i (literal_of x) (Some before) → before ≢ x.at → ((p : ℕ) → literal_in j p ≡ cond (nat_eq before p) None (literal_in i p)) → literal_in j x.at ≡ None
taken-free x i j before a f ne take = none-from (literal_in j x.at) (λ l e.
    let was : literal_in i x.at ≡ Some l = sym (take x.at ∙ ap (λ b. cond b None (literal_in i x.at)) (false-eq before x.at ne)) ∙ e in
    ne (same-some before x.at ((f x.at).1 (was ∙ ap Some (a.free 0 x l refl was)))))

pub taken-absent : (x : LiteralAt) (i j : Image) (before : ℕ) → IsFound i (literal_of x) (Some before) → ((p : ℕ) → literal_in j p ≡ cond (nat_eq before p) None (literal_in i p)) → (p : ℕ) → literal_in j p ≢ Some (literal_of x)
taken-absent x i j before f take p e = by (nat_eq before p) refl (sym (take p) ∙ e)
  where
    by : (b : Bool) → nat_eq before p ≡ b → cond b None (literal_in i p) ≡ Some (literal_of x) → ⊥
    by true g h = absurd (cc)
    by false g h = eq-false before p g (same-some before p ((f p).1 h))

pub changes-move : (x : LiteralAt) (i j f : Image) (before : ℕ) → AreLiteralsFree (x ∷ []) i → IsFound i (literal_of x) (Some before) → ((p : ℕ) → literal_in j p ≡ cond (nat_eq before p) None (literal_in i p)) → ((p : ℕ) → literal_in f p ≡ cond (nat_eq x.at p) (Some (literal_of x)) (literal_in j p)) → Changes x i f
changes-move x i j f before a found take put = record {
  here = put x.at ∙ ap (λ b. cond b (Some (literal_of x)) (literal_in j x.at)) (eq-refl x.at);
  others = λ at l ne _ e. was at l (nat_eq before at) refl (sym (take at) ∙ (sym (put at ∙ put-else x at (literal_in j at) ne) ∙ e));
  kept = λ at l ne other e. put at ∙ (put-else x at (literal_in j at) ne ∙ (take at ∙ stays at l other e (nat_eq before at) refl));
  gone = λ at ne e. taken-absent x i j before found take at (sym (put at ∙ put-else x at (literal_in j at) ne) ∙ e);
  free = λ l e. a.free 0 x l refl e;
}
  where
    was : (at : ℕ) (l : Literal) (b : Bool) → nat_eq before at ≡ b → cond b None (literal_in i at) ≡ Some l → literal_in i at ≡ Some l
    was at l true g h = absurd (cc)
    was at l false g h = h

    stays : (at : ℕ) (l : Literal) → l ≢ literal_of x → literal_in i at ≡ Some l → (b : Bool) → nat_eq before at ≡ b → cond b None (literal_in i at) ≡ Some l
    stays at l other e true g = absurd (other (same-some l (literal_of x) (sym e ∙ (ap (literal_in i) (sym (eq-true before at g)) ∙ (found before).0 refl))))
    stays at l other e false g = e

-- what a change comes to where all else stays
pub literal-puts : (x : LiteralAt) (i j : Image) → Changes x i j → (count_of j ≡ count_of i) → SameKeys i j → SameValues i j → SameWords i j → SameTexts i j → Spends i j 0 0 1 0 → PutsLiterals (x ∷ []) i j
literal-puts x i j c count keys values words texts room = record {
  literals = λ ls h. changed-place ls x i j c h;
  places = λ at. changed-may x i j c at;
  count = count;
  keys = keys;
  values = values;
  words = words;
  texts = texts;
  room = room;
}

pub is-there : (i : Image) (at : ℕ) (l : Literal) → literal_in i at ≡ Some l → IsSome (literal_in i at)
is-there i at l e = ap is_some e
