-- Texts in the order of their addresses.
use Rattle.std.proofs.Common.{◌≡◌, ◌≢◌, ◌⊎◌, inl, inr, ℕ, zero, suc, ◌+◌, ◌-◌, ◌*◌, ◌/◌, ◌%◌, ◌<◌, ◌≤◌, ◌==◌, Bool, true, false, cond, List, [], ◌∷◌, length, get_or, set, refl, sym, ap, ◌∙◌, Option, Some, None, find, arith, true≢false, ◌&&◌}
use Rattle.std.proofs.lemmas.Bool.Decides.{nat_tests}
use Rattle.std.specs.Prelude.{IsSome, IsTrue, nat_le, nat_lt}
use Rattle.std.proofs.Math.ListN.{length-set}
use Rattle.std.specs.List.{slice_get, insert, remove}
use Rattle.sc_isa_image.specs.declared.text.Text.{Text}
use Rattle.sc_isa_image.specs.Texts.{Before, IsFree, IsOrdered, end_of, holds, place_of, starts_at, text_holding, text_word, with_word, without, word_in, word_in_found}
use Rattle.sc_isa_image.proofs.Find.{Fails, FailsBut, Pairwise-insert, Pairwise-remove, find-insert, find-none, find-only, find-remove, find-set, get-insert, get-remove, get-set}

three : (k i : ℕ) → (k < i) ⊎ ((k ≡ i) ⊎ (i < k))
three zero zero = inr (inl refl)
three zero (suc i) = inl (omega arith)
three (suc k) zero = inr (inr (omega arith))
three (suc k) (suc i) = elim (three k i) [ inl a ↦ inl (omega arith) | inr b ↦ elim b [ inl a ↦ inr (inl (ap suc a)) | inr a ↦ inr (inr (omega arith)) ] ]

there : {A : Type 0} (xs : List A) (i : ℕ) → i < length xs → (x : A) × (slice_get xs i ≡ Some x)
there [] i l = absurd (omega arith)
there (x ∷ xs) zero l = (x, refl)
there (x ∷ xs) (suc i) l = there xs i (omega arith)

same_eq : (n : ℕ) → (n == n) ≡ true
same_eq n = grind (arith, nat_tests)

differ : (m n : ℕ) → (m < n) ⊎ (n < m) → (m == n) ≡ false
differ m n h = elim h [ inl a ↦ differ_low m n a | inr a ↦ differ_high m n a ]
  where
    differ_low : (m n : ℕ) → m < n → (m == n) ≡ false
    differ_low m n h = grind (arith, nat_tests)

    differ_high : (m n : ℕ) → n < m → (m == n) ≡ false
    differ_high m n h = grind (arith, nat_tests)

find-some : {A : Type 0} (p : A → Bool) (xs : List A) (u : A) → find p xs ≡ Some u → (j : ℕ) × (slice_get xs j ≡ Some u) × (p u ≡ true)
find-some p [] u h = absurd (cc)
find-some p (x ∷ xs) u h = by (p x) refl (find-some p xs u) h
  where
    by : (b : Bool) → p x ≡ b → (find p xs ≡ Some u → (j : ℕ) × (slice_get xs j ≡ Some u) × (p u ≡ true)) → cond b (Some x) (find p xs) ≡ Some u → (j : ℕ) × (slice_get (x ∷ xs) j ≡ Some u) × (p u ≡ true)
    by true g rest e = let s : x ≡ u = cc in (zero, e, ap p (sym s) ∙ g)
    by false g rest e = let r = rest e in (suc r.0, r.1, r.2)

eq-true : (m n : ℕ) → (m == n) ≡ true → m ≡ n
eq-true m n h = grind (arith, nat_tests)

eq-false : (m n : ℕ) → (m == n) ≡ false → m ≢ n
eq-false m n h = grind (arith, nat_tests)

-- two addresses of a text, each at a multiple of four from its start, are in different words
other-place : (q pc start : ℕ) → start ≤ q → start ≤ pc → q ≢ pc → (q - start) % 4 ≡ 0 → (pc - start) % 4 ≡ 0 → (q - start) / 4 ≢ (pc - start) / 4
other-place q pc start l m ne a b = λ e. ne (omega arith)

get-set-same : {A : Type 0} (xs : List A) (i : ℕ) (x : A) → i < length xs → slice_get (set xs i x) i ≡ Some x
get-set-same [] i x l = absurd (omega arith)
get-set-same (y ∷ ys) zero x l = refl
get-set-same (y ∷ ys) (suc i) x l = get-set-same ys i x (omega arith)

pub get-set-other : {A : Type 0} (xs : List A) (i k : ℕ) (x : A) → k ≢ i → slice_get (set xs i x) k ≡ slice_get xs k
get-set-other [] i k x ne = refl
get-set-other (y ∷ ys) zero zero x ne = absurd (ne refl)
get-set-other (y ∷ ys) zero (suc k) x ne = refl
get-set-other (y ∷ ys) (suc i) zero x ne = refl
get-set-other (y ∷ ys) (suc i) (suc k) x ne = get-set-other ys i k x (λ e. ne (ap suc e))

not-there : (q pc : ℕ) (t : Text) → holds q t ≡ false → holds pc t ≡ true → (q == pc) ≡ false
not-there q pc t g h = by (q == pc) refl
  where
    by : (b : Bool) → (q == pc) ≡ b → b ≡ false
    by false e = refl
    by true e = absurd (true≢false (sym h ∙ (ap (λ n. holds n t) (sym (eq-true q pc e)) ∙ g)))

-- what was read at an index stands there
pub get-index : {A : Type 0} (xs : List A) (i : ℕ) (x : A) → x ≡ get_or xs i x → i < length xs → slice_get xs i ≡ Some x
get-index [] i x e l = absurd (omega arith)
get-index (y ∷ ys) zero x e l = ap Some (sym e)
get-index (y ∷ ys) (suc i) x e l = get-index ys i x e (omega arith)

some-same : {A : Type 0} (xs : List A) (i j : ℕ) (x y : A) → i ≡ j → slice_get xs i ≡ Some x → slice_get xs j ≡ Some y → x ≡ y
some-same xs i j x y e h g = let f : slice_get xs i ≡ Some y = rw e g in cc

-- a search that went right has passed all texts up to one that begins low enough
pub passed-low : (texts : List Text) (m : ℕ) (x : Text) (pc : ℕ) → IsOrdered texts → slice_get texts m ≡ Some x → x.at.start ≤ pc → (k : ℕ) (t : Text) → slice_get texts k ≡ Some t → k < m + 1 → t.at.start ≤ pc
passed-low texts m x pc o h l k t at lt = elim (compared k m lt) [
  | inl less ↦ let b = (o.pairs k m t x at h less).0 in omega arith
  | inr same ↦ let e = some-same texts k m t x same at h in rw e l
]
  where
    compared : (k m : ℕ) → k < m + 1 → (k < m) ⊎ (k ≡ m)
    compared zero zero lt = inr refl
    compared zero (suc m) lt = inl (omega arith)
    compared (suc k) zero lt = absurd (omega arith)
    compared (suc k) (suc m) lt = elim (compared k m (omega arith)) [ inl a ↦ inl (omega arith) | inr a ↦ inr (ap suc a) ]

pub passed-high : (texts : List Text) (m : ℕ) (x : Text) (pc : ℕ) → IsOrdered texts → slice_get texts m ≡ Some x → pc < x.at.start → (k : ℕ) (t : Text) → slice_get texts k ≡ Some t → m ≤ k → pc < t.at.start
passed-high texts m x pc o h l k t at le = elim (compared m k le) [
  | inl less ↦ let b = (o.pairs m k x t h at less).0 in omega arith
  | inr same ↦ let e = some-same texts m k x t same h at in rw (← e) l
]
  where
    compared : (m k : ℕ) → m ≤ k → (m < k) ⊎ (m ≡ k)
    compared zero zero le = inr refl
    compared zero (suc k) le = inl (omega arith)
    compared (suc m) zero le = absurd (omega arith)
    compared (suc m) (suc k) le = elim (compared m k (omega arith)) [ inl a ↦ inl (omega arith) | inr a ↦ inr (ap suc a) ]

-- what ends at or before an address, and what begins behind it, does not hold it
pub ended-fails : (pc : ℕ) (t : Text) → end_of t ≤ pc → holds pc t ≡ false
ended-fails pc t h = let a = t.at.start in let b = end_of t in grind (arith, nat_tests)

pub later-fails : (pc : ℕ) (t : Text) → pc < t.at.start → holds pc t ≡ false
later-fails pc t h = let a = t.at.start in grind (arith, nat_tests)

pub held : (pc : ℕ) (t : Text) → holds pc t ≡ true → (t.at.start ≤ pc) × (pc < end_of t)
held pc t h = (grind (arith, nat_tests), grind (arith, nat_tests))

-- the texts but one do not hold what it holds
pub others-fail : (texts : List Text) (i : ℕ) (t : Text) (pc : ℕ) → IsOrdered texts → slice_get texts i ≡ Some t → holds pc t ≡ true → FailsBut (holds pc) texts i
others-fail texts i t pc o h g k u at ne =
    let in_t = held pc t g in
    elim (apart k i ne) [
      | inl less ↦ ended-fails pc u (let b = (o.pairs k i u t at h less).1 in omega arith)
      | inr more ↦ later-fails pc u (let b = (o.pairs i k t u h at more).1 in omega arith)
    ]
  where
    apart : (k i : ℕ) → k ≢ i → (k < i) ⊎ (i < k)
    apart zero zero ne = absurd (ne refl)
    apart zero (suc i) ne = inl (omega arith)
    apart (suc k) zero ne = inr (omega arith)
    apart (suc k) (suc i) ne = elim (apart k i (λ e. ne (ap suc e))) [ inl a ↦ inl (omega arith) | inr a ↦ inr (omega arith) ]

none-some : {A : Type 0} (r : Option A) (w : A) → r ≡ None → r ≡ Some w → ⊥
none-some r w e h = let f = sym e ∙ h in cc

in-range : (pc : ℕ) (t : Text) → t.at.start ≤ pc → pc < end_of t → holds pc t ≡ true
in-range pc t l m = both t.at.start (end_of t) pc l m
  where
    both : (a b pc : ℕ) → a ≤ pc → pc < b → nat_le a pc && nat_lt pc b ≡ true
    both a b pc l g = grind (arith, nat_tests)

-- no text begins where the range does, or has a byte in it
pub record IsClear (texts : List Text) (start end : ℕ) : Type 0 where
  pub clear : (i : ℕ) (t : Text) → slice_get texts i ≡ Some t → Before t.at.start (end_of t) start ⊎ Before start end t.at.start

apart-ranges : (a b c d : ℕ) → a < b → c < d → (a < c × b ≤ c) ⊎ ((c < a × d ≤ a) ⊎ ((pc : ℕ) × (a ≤ pc) × (pc < b) × (c ≤ pc) × (pc < d)))
apart-ranges a b c d l m = by (three a c) (three b c) (three d a)
  where
    by : (a < c) ⊎ ((a ≡ c) ⊎ (c < a)) → (b < c) ⊎ ((b ≡ c) ⊎ (c < b)) → (d < a) ⊎ ((d ≡ a) ⊎ (a < d)) → (a < c × b ≤ c) ⊎ ((c < a × d ≤ a) ⊎ ((pc : ℕ) × (a ≤ pc) × (pc < b) × (c ≤ pc) × (pc < d)))
    by x (inl y) z = inl (omega arith, omega arith)
    by x (inr (inl y)) z = inl (omega arith, omega arith)
    by x (inr (inr y)) (inl z) = inr (inl (omega arith, omega arith))
    by x (inr (inr y)) (inr (inl z)) = inr (inl (omega arith, omega arith))
    by (inl x) (inr (inr y)) (inr (inr z)) = inr (inr (c, omega arith, y, omega arith, m))
    by (inr (inl x)) (inr (inr y)) (inr (inr z)) = inr (inr (c, omega arith, y, omega arith, m))
    by (inr (inr x)) (inr (inr y)) (inr (inr z)) = inr (inr (a, omega arith, l, omega arith, z))

-- a range of which no text holds an address
pub clear-free : (texts : List Text) (start end : ℕ) → IsOrdered texts → start < end → IsFree texts start end → IsClear texts start end
clear-free texts start end o l free = record {
  clear = λ i u h.
      let size : u.at.start < end_of u = (let some = o.some i u h in omega arith) in
      elim (apart-ranges u.at.start (end_of u) start end size l) [
        | inl a ↦ inl (a.0, a.1)
        | inr b ↦ elim b [
          | inl a ↦ inr (a.0, a.1)
          | inr c ↦ absurd (none-some (text_holding texts c.0) u (free c.0 c.3 c.4) (find-only (holds c.0) texts i u h (in-range c.0 u c.1 c.2) (others-fail texts i u c.0 o h (in-range c.0 u c.1 c.2))))
        ]
      ];
}

-- nothing in a free range is held
pub free-fails : (texts : List Text) (t : Text) (pc : ℕ) → IsClear texts t.at.start (end_of t) → holds pc t ≡ true → Fails (holds pc) texts
free-fails texts t pc free g k u at =
    let in_t = held pc t g in
    elim (free.clear k u at) [
      | inl b ↦ ended-fails pc u (let e = b.1 in omega arith)
      | inr b ↦ later-fails pc u (let e = b.1 in omega arith)
    ]

-- the text of the greatest start that is low enough is the only one that can hold the address
pub found-at : (texts : List Text) (i : ℕ) (t : Text) (pc : ℕ) → IsOrdered texts → slice_get texts i ≡ Some t → t.at.start ≤ pc → ((k : ℕ) (u : Text) → slice_get texts k ≡ Some u → i < k → pc < u.at.start) → text_holding texts pc ≡ cond (holds pc t) (Some t) None
found-at texts i t pc o h l above = by (holds pc t) refl
  where
    one : holds pc t ≡ false → Fails (holds pc) texts
    one g k u at = elim (three k i) [
      | inl less ↦ ended-fails pc u (let b = (o.pairs k i u t at h less).1 in omega arith)
      | inr r ↦ elim r [ inl same ↦ ap (holds pc) (some-same texts k i u t same at h) ∙ g | inr more ↦ later-fails pc u (above k u at more) ]
    ]

    by : (b : Bool) → holds pc t ≡ b → text_holding texts pc ≡ cond b (Some t) None
    by true g = find-only (holds pc) texts i t h g (others-fail texts i t pc o h g)
    by false g = find-none (holds pc) texts (one g)

pub none-found : (texts : List Text) (pc : ℕ) → ((k : ℕ) (u : Text) → slice_get texts k ≡ Some u → pc < u.at.start) → text_holding texts pc ≡ None
none-found texts pc above = find-none (holds pc) texts (λ k u at. later-fails pc u (above k u at))

-- putting a text at its place among the others
pub ordered-insert : (texts : List Text) (r : ℕ) (t : Text) → r ≤ length texts → IsOrdered texts → 0 < length t.words → IsClear texts t.at.start (end_of t) → ((k : ℕ) (u : Text) → slice_get texts k ≡ Some u → k < r → u.at.start ≤ t.at.start) → ((k : ℕ) (u : Text) → slice_get texts k ≡ Some u → r ≤ k → t.at.start < u.at.start) → IsOrdered (insert texts r t)
ordered-insert texts r t l o words free below above = record {
  some = λ k u h. elim (get-insert texts r t k u l h) [
    | inl a ↦ o.some k u a.1
    | inr b ↦ elim b [ inl c ↦ rw c.1 words | inr c ↦ o.some c.0 u c.3 ]
  ];
  pairs = Pairwise-insert (λ (x y : Text). Before x.at.start (end_of x) y.at.start) texts r t l o.pairs
      (λ k u at lt. elim (free.clear k u at) [ inl b ↦ b | inr b ↦ absurd (let low = below k u at lt in let high = b.0 in omega arith) ])
      (λ k u at le. elim (free.clear k u at) [ inl b ↦ absurd (let high = above k u at le in let low = b.0 in omega arith) | inr b ↦ b ]);
}

pub holding-insert : (texts : List Text) (r : ℕ) (t : Text) (pc : ℕ) → IsClear texts t.at.start (end_of t) → text_holding (insert texts r t) pc ≡ cond (holds pc t) (Some t) (text_holding texts pc)
holding-insert texts r t pc free = find-insert (holds pc) texts r t (free-fails texts t pc free)

pub ordered-remove : (texts : List Text) (i : ℕ) → IsOrdered texts → IsOrdered (remove texts i)
ordered-remove texts i o = record {
  some = λ k u h. elim (get-remove texts i k u h) [ inl a ↦ o.some k u a.1 | inr a ↦ o.some (suc k) u a.1 ];
  pairs = Pairwise-remove (λ (x y : Text). Before x.at.start (end_of x) y.at.start) texts i o.pairs;
}

-- the text that begins at an address is the last of those that begin low enough
pub last-low : (texts : List Text) (r i : ℕ) (t : Text) → IsOrdered texts → slice_get texts i ≡ Some t → ((k : ℕ) (u : Text) → slice_get texts k ≡ Some u → k < r → u.at.start ≤ t.at.start) → ((k : ℕ) (u : Text) → slice_get texts k ≡ Some u → r ≤ k → t.at.start < u.at.start) → r ≤ length texts → r ≡ i + 1
last-low texts r i t o h below above l = elim (three r (i + 1)) [
  | inl less ↦ absurd (let high = above i t h (omega arith) in omega arith)
  | inr e ↦ elim e [
    | inl same ↦ same
    | inr more ↦ absurd (let s = there texts (i + 1) (omega arith) in let b = (o.pairs i (i + 1) t s.0 h s.1 (omega arith)).0 in let low = below (i + 1) s.0 s.1 more in omega arith)
  ]
]

pub holding-remove : (texts : List Text) (i : ℕ) (t : Text) (pc : ℕ) → IsOrdered texts → slice_get texts i ≡ Some t → text_holding (remove texts i) pc ≡ without t.at.start (text_holding texts pc)
holding-remove texts i t pc o h = find-remove (holds pc) texts i t h (others-fail texts i t pc o h) ∙ by (holds pc t) refl
  where
    other : (r : Option Text) → text_holding texts pc ≡ r → holds pc t ≡ false → r ≡ without t.at.start r
    other None e g = refl
    other (Some u) e g =
        let f = find-some (holds pc) texts u e in
        sym (ap (λ b. cond b None (Some u)) (differ u.at.start t.at.start (elim (three f.0 i) [
          | inl less ↦ let b = (o.pairs f.0 i u t f.1 h less).0 in inl b
          | inr s ↦ elim s [
            | inl same ↦ absurd (true≢false (sym f.2 ∙ (ap (holds pc) (some-same texts f.0 i u t same f.1 h) ∙ g)))
            | inr more ↦ let b = (o.pairs i f.0 t u h f.1 more).0 in inr b
          ]
        ])))

    by : (b : Bool) → holds pc t ≡ b → cond b None (text_holding texts pc) ≡ without t.at.start (text_holding texts pc)
    by true g = sym (ap (without t.at.start) (find-only (holds pc) texts i t h g (others-fail texts i t pc o h g)) ∙ ap (λ b. cond b None (Some t)) (same_eq t.at.start))
    by false g = other (text_holding texts pc) refl g

-- by the number of words before an address
pub past-fails : (pc : ℕ) (t : Text) → t.at.start ≤ pc → length t.words ≤ (pc - t.at.start) / 4 → holds pc t ≡ false
past-fails pc t l h = ended-fails pc t (omega arith)

pub within-holds : (pc : ℕ) (t : Text) → t.at.start ≤ pc → (pc - t.at.start) / 4 < length t.words → holds pc t ≡ true
within-holds pc t l h = both (t.at.start) (end_of t) pc l (omega arith)
  where
    both : (a b pc : ℕ) → a ≤ pc → pc < b → nat_le a pc && nat_lt pc b ≡ true
    both a b pc l g = grind (arith, nat_tests)

pub is-some : {A : Type 0} (r : Option A) → IsSome r → (w : A) × (r ≡ Some w)
is-some None h = absurd (true≢false (sym h))
is-some (Some w) h = (w, refl)

get-within : {A : Type 0} (xs : List A) (i : ℕ) (x : A) → slice_get xs i ≡ Some x → i < length xs
get-within [] i x h = absurd (cc)
get-within (y ∷ ys) zero x h = omega arith
get-within (y ∷ ys) (suc i) x h = let l = get-within ys i x h in omega arith

-- a text that has a word at an address
pub record HasWord (pc : ℕ) (t : Text) : Type 0 where
  pub start : t.at.start ≤ pc
  pub holding : holds pc t ≡ true
  pub aligned : ((pc - t.at.start) % 4 == 0) ≡ true
  pub within : (pc - t.at.start) / 4 < length t.words

has-word : (pc w : ℕ) (t : Text) → t.at.start ≤ pc → (b : Bool) → holds pc t ≡ b → word_in_found pc (cond b (Some t) None) ≡ Some w → HasWord pc t
has-word pc w t l false g h = absurd (cc)
has-word pc w t l true g h = by ((pc - t.at.start) % 4 == 0) refl h
  where
    by : (b : Bool) → ((pc - t.at.start) % 4 == 0) ≡ b → cond b (slice_get t.words ((pc - t.at.start) / 4)) None ≡ Some w → HasWord pc t
    by true e k = record { start = l; holding = g; aligned = e; within = get-within t.words ((pc - t.at.start) / 4) w k }
    by false e k = absurd (cc)

pub some-first : (texts : List Text) (r pc w : ℕ) → ((k : ℕ) (u : Text) → slice_get texts k ≡ Some u → r ≤ k → pc < u.at.start) → text_word texts pc ≡ Some w → 0 < r
some-first texts zero pc w above h = absurd (none-some (text_word texts pc) w (ap (word_in_found pc) (none-found texts pc (λ k u at. above k u at (omega arith)))) h)
some-first texts (suc r) pc w above h = omega arith

pub word-at : (texts : List Text) (i : ℕ) (t : Text) (pc w : ℕ) → IsOrdered texts → slice_get texts i ≡ Some t → t.at.start ≤ pc → ((k : ℕ) (u : Text) → slice_get texts k ≡ Some u → i < k → pc < u.at.start) → text_word texts pc ≡ Some w → HasWord pc t
word-at texts i t pc w o h l above e = has-word pc w t l (holds pc t) refl (sym (ap (word_in_found pc) (found-at texts i t pc o h l above)) ∙ e)

-- another word in a text leaves where it stands and how long it is
pub holds-with : (q pc w : ℕ) (t : Text) → holds q (with_word t pc w) ≡ holds q t
holds-with q pc w t = ap (λ n. nat_le t.at.start q && nat_lt q (t.at.start + 4 * n)) (length-set t.words ((pc - t.at.start) / 4) w)

pub ordered-set : (texts : List Text) (i : ℕ) (t : Text) (pc w : ℕ) → IsOrdered texts → slice_get texts i ≡ Some t → IsOrdered (set texts i (with_word t pc w))
ordered-set texts i t pc w o h = record {
  some = λ k u at.
      let size = length-set t.words ((pc - t.at.start) / 4) w in
      elim (get-set texts i (with_word t pc w) k u at) [
        | inl a ↦ let some = o.some i t h in rw a.1 (omega arith)
        | inr a ↦ o.some k u a.1
      ];
  pairs = λ j k x y hj hk lt.
      let size = length-set t.words ((pc - t.at.start) / 4) w in
      elim (get-set texts i (with_word t pc w) j x hj) [
        | inl a ↦ elim (get-set texts i (with_word t pc w) k y hk) [
          | inl b ↦ absurd (omega arith)
          | inr b ↦ let p = o.pairs i k t y h b.1 (omega arith) in rw a.1 (p.0, (let e = p.1 in omega arith))
        ]
        | inr a ↦ elim (get-set texts i (with_word t pc w) k y hk) [
          | inl b ↦ let p = o.pairs j i x t a.1 h (omega arith) in rw b.1 (p.0, p.1)
          | inr b ↦ o.pairs j k x y a.1 b.1 lt
        ]
      ];
}

-- the words of a text with another word
word-with : (q pc w : ℕ) (t : Text) → HasWord pc t → t.at.start ≤ q → word_in q (with_word t pc w) ≡ cond (q == pc) (Some w) (word_in q t)
word-with q pc w t has l = by (q == pc) refl
  where
    j : ℕ
    j = (pc - t.at.start) / 4

    by : (b : Bool) → (q == pc) ≡ b → word_in q (with_word t pc w) ≡ cond b (Some w) (word_in q t)
    by true e = let s : q ≡ pc = eq-true q pc e in rw s (ap (λ b. cond b (slice_get (set t.words j w) j) None) has.aligned ∙ get-set-same t.words j w has.within)
    by false e = aligned ((q - t.at.start) % 4 == 0) refl
      where
        aligned : (b : Bool) → ((q - t.at.start) % 4 == 0) ≡ b → cond b (slice_get (set t.words j w) ((q - t.at.start) / 4)) None ≡ cond b (slice_get t.words ((q - t.at.start) / 4)) None
        aligned false g = refl
        aligned true g = get-set-other t.words j ((q - t.at.start) / 4) w (other-place q pc t.at.start l has.start (eq-false q pc e) (eq-true ((q - t.at.start) % 4) 0 g) (eq-true ((pc - t.at.start) % 4) 0 has.aligned))

pub text_word-set : (texts : List Text) (i : ℕ) (t : Text) (pc w q : ℕ) → IsOrdered texts → slice_get texts i ≡ Some t → HasWord pc t → text_word (set texts i (with_word t pc w)) q ≡ cond (q == pc) (Some w) (text_word texts q)
text_word-set texts i t pc w q o h has = ap (word_in_found q) (find-set (holds q) texts i t (with_word t pc w) h (holds-with q pc w t) (others-fail texts i t q o h)) ∙ by (holds q t) refl
  where
    by : (b : Bool) → holds q t ≡ b → word_in_found q (cond b (Some (with_word t pc w)) (text_holding texts q)) ≡ cond (q == pc) (Some w) (text_word texts q)
    by true g =
        word-with q pc w t has (held q t g).0
        ∙ ap (λ r. cond (q == pc) (Some w) (word_in_found q r)) (sym (find-only (holds q) texts i t h g (others-fail texts i t q o h g)))
    by false g = sym (ap (λ b. cond b (Some w) (text_word texts q)) (not-there q pc t g has.holding))

pub place-set : (texts : List Text) (i : ℕ) (t : Text) (pc w q : ℕ) → IsOrdered texts → slice_get texts i ≡ Some t → place_of (text_holding (set texts i (with_word t pc w)) q) ≡ place_of (text_holding texts q)
place-set texts i t pc w q o h = ap place_of (find-set (holds q) texts i t (with_word t pc w) h (holds-with q pc w t) (others-fail texts i t q o h)) ∙ by (holds q t) refl
  where
    by : (b : Bool) → holds q t ≡ b → place_of (cond b (Some (with_word t pc w)) (text_holding texts q)) ≡ place_of (text_holding texts q)
    by true g = sym (ap place_of (find-only (holds q) texts i t h g (others-fail texts i t q o h g)))
    by false g = refl

-- one of the texts begins there
abbrev pub StartsAt : List Text → ℕ → Type 0
StartsAt texts start = (i : ℕ) × (t : Text) × (slice_get texts i ≡ Some t) × (t.at.start ≡ start)

-- a text that is found, and begins there
pub starts-found : (texts : List Text) (pc start : ℕ) → IsTrue (starts_at start (place_of (text_holding texts pc))) → StartsAt texts start
starts-found texts pc start h = by (text_holding texts pc) refl h
  where
    by : (r : Option Text) → text_holding texts pc ≡ r → IsTrue (starts_at start (place_of r)) → StartsAt texts start
    by None e g = absurd (true≢false (sym g))
    by (Some u) e g = let f = find-some (holds pc) texts u e in (f.0, u, f.1, eq-true u.at.start start g)

pub starts-first : (texts : List Text) (r start : ℕ) → StartsAt texts start → ((k : ℕ) (u : Text) → slice_get texts k ≡ Some u → r ≤ k → start < u.at.start) → 0 < r
starts-first texts zero start s above = let high = above s.0 s.1 s.2 (omega arith) in let same = s.3 in omega arith
starts-first texts (suc r) start s above = omega arith

-- the last text that begins low enough is the one that begins there
pub holding-taken : (texts : List Text) (r start pc : ℕ) → IsOrdered texts → StartsAt texts start → ((k : ℕ) (u : Text) → slice_get texts k ≡ Some u → k < r → u.at.start ≤ start) → ((k : ℕ) (u : Text) → slice_get texts k ≡ Some u → r ≤ k → start < u.at.start) → r ≤ length texts → text_holding (remove texts (r - 1)) pc ≡ without start (text_holding texts pc)
holding-taken texts r start pc o s below above l =
    let last = last-low texts r s.0 s.1 o s.2 (rw (← s.3) at below) (rw (← s.3) at above) l in
    let i : r - 1 ≡ s.0 = omega arith in
    rw (i, ← s.3) (holding-remove texts s.0 s.1 pc o s.2)

-- the text that begins where another one does is that one
pub only-start : (texts : List Text) (t u : Text) (start q : ℕ) → IsOrdered texts → text_holding texts start ≡ Some t → (t.at.start == start) ≡ true → text_holding texts q ≡ Some u → (u.at.start == start) ≡ true → holds q t ≡ false → ⊥
only-start texts t u start q o a b h c out =
    let f = find-some (holds start) texts t a in
    let g = find-some (holds q) texts u h in
    let x = eq-true t.at.start start b in
    let y = eq-true u.at.start start c in
    elim (three f.0 g.0) [
      | inl less ↦ let p = (o.pairs f.0 g.0 t u f.1 g.1 less).0 in absurd (omega arith)
      | inr r ↦ elim r [
        | inl same ↦ true≢false (sym g.2 ∙ (ap (holds q) (sym (some-same texts f.0 g.0 t u same f.1 g.1)) ∙ out))
        | inr more ↦ let p = (o.pairs g.0 f.0 u t g.1 f.1 more).0 in absurd (omega arith)
      ]
    ]
