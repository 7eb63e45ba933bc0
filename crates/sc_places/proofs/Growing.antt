-- The places of sections.
use Rattle.std.proofs.Common.{◌≡◌, ℕ, zero, suc, ◌+◌, ◌*◌, ◌/◌, ◌<◌, ◌≤◌, ◌&&◌, Bool, true, false, cond, List, [], ◌∷◌, ◌++◌, length, refl, sym, ap, ◌∙◌, Option, Some, None, arith, subst, append_assoc}
use Rattle.std.specs.List.{slice_get}
use Rattle.sc_object.specs.declared.object.Section.{Section}
use Rattle.sc_link.specs.Symbols.{is_text}
use Rattle.sc_places.specs.Layout.{behind_kept, behind_static, behind_text, first_kept, kept_or, place_one, places_from, rest_kept, static_after, static_end, text_after, text_end}

none-some : {A : Type 0} (r : Option A) (x : A) → r ≡ None → r ≡ Some x → ⊥
none-some {A = A} r x n s = absurd (let e : ◌≡◌ {A = Option A} None (Some x) = sym n ∙ s in cc)

same-some : {A : Type 0} (x y : A) → Some x ≡ Some y → x ≡ y
same-some x y h = cc

-- areas only grow
pub text-grows-one : (object : Bool) (text : ℕ) (s : Section) → text ≤ text_after object text s
text-grows-one object text s = by (is_text s.kind && object) (length s.bytes)
  where
    by : (b : Bool) (n : ℕ) → text ≤ cond b (behind_text text n) text
    by true n = omega arith
    by false n = omega arith

pub text-grows : (object : Bool) (text : ℕ) (ss : List Section) → text ≤ text_end object text ss
text-grows object text [] = omega arith
text-grows object text (s ∷ ss) = let a = text-grows-one object text s in let b = text-grows object (text_after object text s) ss in omega arith

pub static-grows-one : (statics : ℕ) (s : Section) (kept : Option ℕ) → statics ≤ static_after statics s kept
static-grows-one statics s kept = by (is_text s.kind) kept s.size
  where
    some : (n : ℕ) → statics ≤ behind_static statics n
    some n = omega arith

    by : (b : Bool) (k : Option ℕ) (n : ℕ) → statics ≤ cond b statics (behind_kept statics s k)
    by true k n = omega arith
    by false None n = some s.size
    by false (Some at) n = omega arith

pub static-grows : (statics : ℕ) (ss : List Section) (kept : List (Option ℕ)) → statics ≤ static_end statics ss kept
static-grows statics [] kept = omega arith
static-grows statics (s ∷ ss) kept = let a = static-grows-one statics s (first_kept kept) in let b = static-grows (static_after statics s (first_kept kept)) ss (rest_kept kept) in omega arith

-- what does not fit before the end does not fit at the end
pub text-beyond : (object : Bool) (text : ℕ) (s : Section) (ss : List Section) (most : ℕ) → most < text_after object text s → most < text_end object text (s ∷ ss)
text-beyond object text s ss most l = let b = text-grows object (text_after object text s) ss in omega arith

pub static-beyond : (statics : ℕ) (s : Section) (ss : List Section) (kept : List (Option ℕ)) (most : ℕ) → most < static_after statics s (first_kept kept) → most < static_end statics (s ∷ ss) kept
static-beyond statics s ss kept most l = let b = static-grows (static_after statics s (first_kept kept)) ss (rest_kept kept) in omega arith

pub text-fits : (object : Bool) (text : ℕ) (s : Section) (ss : List Section) (most : ℕ) → text_end object text (s ∷ ss) ≤ most → (text ≤ most) × (text_after object text s ≤ most)
text-fits object text s ss most l = let a = text-grows-one object text s in let b = text-grows object (text_after object text s) ss in (omega arith, omega arith)

pub static-fits : (statics : ℕ) (s : Section) (ss : List Section) (kept : List (Option ℕ)) (most : ℕ) → static_end statics (s ∷ ss) kept ≤ most → (statics ≤ most) × (static_after statics s (first_kept kept) ≤ most)
static-fits statics s ss kept most l = let a = static-grows-one statics s (first_kept kept) in let b = static-grows (static_after statics s (first_kept kept)) ss (rest_kept kept) in (omega arith, omega arith)

-- the same for the first section of some
pub beyond-first : (object : Bool) (text : ℕ) (ss : List Section) (s : Section) (most : ℕ) → slice_get ss 0 ≡ Some s → most < text_after object text s → most < text_end object text ss
beyond-first object text [] s most h l = absurd (none-some (slice_get [] 0) s refl h)
beyond-first object text (x ∷ ss) s most h l = text-beyond object text x ss most (subst (λ y. most < text_after object text y) (sym (same-some x s h)) l)

pub static-beyond-first : (statics : ℕ) (ss : List Section) (kept : List (Option ℕ)) (s : Section) (most : ℕ) → slice_get ss 0 ≡ Some s → most < static_after statics s (first_kept kept) → most < static_end statics ss kept
static-beyond-first statics [] kept s most h l = absurd (none-some (slice_get [] 0) s refl h)
static-beyond-first statics (x ∷ ss) kept s most h l = static-beyond statics x ss kept most (subst (λ y. most < static_after statics y (first_kept kept)) (sym (same-some x s h)) l)

pub fits-first : (object : Bool) (text : ℕ) (ss : List Section) (s : Section) (most : ℕ) → slice_get ss 0 ≡ Some s → text_end object text ss ≤ most → (text ≤ most) × (text_after object text s ≤ most)
fits-first object text [] s most h l = absurd (none-some (slice_get [] 0) s refl h)
fits-first object text (x ∷ ss) s most h l = subst (λ y. (text ≤ most) × (text_after object text y ≤ most)) (same-some x s h) (text-fits object text x ss most l)

pub static-fits-first : (statics : ℕ) (ss : List Section) (kept : List (Option ℕ)) (s : Section) (most : ℕ) → slice_get ss 0 ≡ Some s → static_end statics ss kept ≤ most → (statics ≤ most) × (static_after statics s (first_kept kept) ≤ most)
static-fits-first statics [] kept s most h l = absurd (none-some (slice_get [] 0) s refl h)
static-fits-first statics (x ∷ ss) kept s most h l = subst (λ y. (statics ≤ most) × (static_after statics y (first_kept kept) ≤ most)) (same-some x s h) (static-fits statics x ss kept most l)

-- a place more
pub place-more : (ps : List ℕ) (p : ℕ) (rest all : List ℕ) → ps ++ p ∷ rest ≡ all → (ps ++ p ∷ []) ++ rest ≡ all
place-more ps p rest all h = append_assoc ps (p ∷ []) rest ∙ h

-- a text in object form
text-place : (text statics : ℕ) (s : Section) (kept : Option ℕ) → is_text s.kind ≡ true → place_one true text statics s kept ≡ text
text-place text statics s kept h = ap (λ b. cond b text (kept_or statics kept)) h

text-behind : (text : ℕ) (s : Section) → is_text s.kind ≡ true → text_after true text s ≡ behind_text text (length s.bytes)
text-behind text s h = ap (λ b. cond (b && true) (behind_text text (length s.bytes)) text) h

pub text-within : (text statics : ℕ) (ss : List Section) (kept : List (Option ℕ)) (n : ℕ) (s : Section) (at : ℕ) → slice_get ss n ≡ Some s → is_text s.kind ≡ true → slice_get (places_from true text statics ss kept) n ≡ Some at → (text ≤ at) × (behind_text at (length s.bytes) ≤ text_end true text ss)
text-within text statics [] kept n s at h t g = absurd (none-some (slice_get [] n) s refl h)
text-within text statics (x ∷ ss) kept zero s at h t g =
    let same = same-some x s h in
    let k : is_text x.kind ≡ true = ap (λ (y : Section). is_text y.kind) same ∙ t in
    let a : text ≡ at = sym (text-place text statics x (first_kept kept) k) ∙ same-some (place_one true text statics x (first_kept kept)) at g in
    let b = text-behind text x k in
    let c = text-grows true (text_after true text x) ss in
    let d : length x.bytes ≡ length s.bytes = ap (λ (y : Section). length y.bytes) same in
    (omega arith, last at text (length x.bytes) (length s.bytes) (text_after true text x) (text_end true (text_after true text x) ss) a b d c)
  where
    last : (at text m n after end : ℕ) → text ≡ at → after ≡ text + (m + 3) / 4 * 4 → m ≡ n → after ≤ end → at + (n + 3) / 4 * 4 ≤ end
    last at text m n after end a b d c = subst (λ k. at + (k + 3) / 4 * 4 ≤ end) d (omega arith)
text-within text statics (x ∷ ss) kept (suc n) s at h t g =
    let r = text-within (text_after true text x) (static_after statics x (first_kept kept)) ss (rest_kept kept) n s at h t g in
    let l = text-grows-one true text x in
    let a = r.0 in
    (omega arith, r.1)

-- one text is behind another
pub text-behind-other : (text statics : ℕ) (ss : List Section) (kept : List (Option ℕ)) (m n : ℕ) (s u : Section) (at to : ℕ) → m < n → slice_get ss m ≡ Some s → slice_get ss n ≡ Some u → is_text s.kind ≡ true → is_text u.kind ≡ true → slice_get (places_from true text statics ss kept) m ≡ Some at → slice_get (places_from true text statics ss kept) n ≡ Some to → behind_text at (length s.bytes) ≤ to
text-behind-other text statics [] kept m n s u at to l h i t v g e = absurd (none-some (slice_get [] m) s refl h)
text-behind-other text statics (x ∷ ss) kept zero zero s u at to l h i t v g e = absurd (omega arith)
text-behind-other text statics (x ∷ ss) kept zero (suc n) s u at to l h i t v g e =
    let same = same-some x s h in
    let k : is_text x.kind ≡ true = ap (λ (y : Section). is_text y.kind) same ∙ t in
    let a : text ≡ at = sym (text-place text statics x (first_kept kept) k) ∙ same-some (place_one true text statics x (first_kept kept)) at g in
    let b = text-behind text x k in
    let d : length x.bytes ≡ length s.bytes = ap (λ (y : Section). length y.bytes) same in
    let r = (text-within (text_after true text x) (static_after statics x (first_kept kept)) ss (rest_kept kept) n u to i v e).0 in
    last at text (length x.bytes) (length s.bytes) (text_after true text x) to a b d r
  where
    last : (at text m n after to : ℕ) → text ≡ at → after ≡ text + (m + 3) / 4 * 4 → m ≡ n → after ≤ to → at + (n + 3) / 4 * 4 ≤ to
    last at text m n after to a b d c = subst (λ k. at + (k + 3) / 4 * 4 ≤ to) d (omega arith)
text-behind-other text statics (x ∷ ss) kept (suc m) zero s u at to l h i t v g e = absurd (omega arith)
text-behind-other text statics (x ∷ ss) kept (suc m) (suc n) s u at to l h i t v g e = text-behind-other (text_after true text x) (static_after statics x (first_kept kept)) ss (rest_kept kept) m n s u at to (omega arith) h i t v g e

-- a section that keeps its place, and one that gets a new one
pub data Kept (n : ℕ) (kept : List (Option ℕ)) (at : ℕ) (fresh : Type 0) : Type 0 where
  keeps : slice_get kept n ≡ Some (Some at) → Kept n kept at fresh
  gets : fresh → Kept n kept at fresh

pub static-within : (object : Bool) (text statics : ℕ) (ss : List Section) (kept : List (Option ℕ)) (n : ℕ) (s : Section) (at : ℕ) → slice_get ss n ≡ Some s → is_text s.kind ≡ false → slice_get (places_from object text statics ss kept) n ≡ Some at → Kept n kept at ((statics ≤ at) × (behind_static at s.size ≤ static_end statics ss kept))
static-within object text statics [] kept n s at h t g = absurd (none-some (slice_get [] n) s refl h)
static-within object text statics (x ∷ ss) kept zero s at h t g = by kept (ap (λ b. cond b (cond object text 0) (kept_or statics (first_kept kept))) k) (ap (λ b. cond b statics (behind_kept statics x (first_kept kept))) k) (same-some (place_one object text statics x (first_kept kept)) at g) (static-grows (static_after statics x (first_kept kept)) ss (rest_kept kept))
  where
    same : x ≡ s
    same = same-some x s h

    k : is_text x.kind ≡ false
    k = ap (λ (y : Section). is_text y.kind) same ∙ t

    room : x.size ≡ s.size
    room = ap (λ (y : Section). y.size) same

    last : (at old m n after end : ℕ) → old ≡ at → after ≡ old + m / 4 * 4 + 4 → m ≡ n → after ≤ end → at + n / 4 * 4 + 4 ≤ end
    last at old m n after end a b d c = subst (λ k. at + k / 4 * 4 + 4 ≤ end) d (omega arith)

    fresh : (kept : List (Option ℕ)) → place_one object text statics x (first_kept kept) ≡ statics → static_after statics x (first_kept kept) ≡ behind_static statics x.size → place_one object text statics x (first_kept kept) ≡ at → static_after statics x (first_kept kept) ≤ static_end (static_after statics x (first_kept kept)) ss (rest_kept kept) → (statics ≤ at) × (behind_static at s.size ≤ static_end (static_after statics x (first_kept kept)) ss (rest_kept kept))
    fresh kept p a e l = let q : statics ≡ at = sym p ∙ e in (omega arith, last at statics x.size s.size (static_after statics x (first_kept kept)) (static_end (static_after statics x (first_kept kept)) ss (rest_kept kept)) q a room l)

    by : (kept : List (Option ℕ)) → place_one object text statics x (first_kept kept) ≡ kept_or statics (first_kept kept) → static_after statics x (first_kept kept) ≡ behind_kept statics x (first_kept kept) → place_one object text statics x (first_kept kept) ≡ at → static_after statics x (first_kept kept) ≤ static_end (static_after statics x (first_kept kept)) ss (rest_kept kept) → Kept zero kept at ((statics ≤ at) × (behind_static at s.size ≤ static_end (static_after statics x (first_kept kept)) ss (rest_kept kept)))
    by [] p a e l = gets (fresh [] p a e l)
    by (None ∷ ks) p a e l = gets (fresh (None ∷ ks) p a e l)
    by (Some to ∷ ks) p a e l = keeps (ap (λ y. Some (Some y)) (sym p ∙ e))
static-within object text statics (x ∷ ss) kept (suc n) s at h t g = by kept (static-within object (text_after object text x) (static_after statics x (first_kept kept)) ss (rest_kept kept) n s at h t g) (static-grows-one statics x (first_kept kept))
  where
    by : (kept : List (Option ℕ)) → Kept n (rest_kept kept) at ((static_after statics x (first_kept kept) ≤ at) × (behind_static at s.size ≤ static_end (static_after statics x (first_kept kept)) ss (rest_kept kept))) → statics ≤ static_after statics x (first_kept kept) → Kept (suc n) kept at ((statics ≤ at) × (behind_static at s.size ≤ static_end (static_after statics x (first_kept kept)) ss (rest_kept kept)))
    by [] (keeps e) l = absurd (none-some (slice_get [] n) (Some at) refl e)
    by (y ∷ ks) (keeps e) l = keeps e
    by ks (gets r) l = let a = r.0 in gets (omega arith, r.1)

-- one section behind another, or one that keeps its place
pub static-behind-other : (object : Bool) (text statics : ℕ) (ss : List Section) (kept : List (Option ℕ)) (m n : ℕ) (s u : Section) (at to : ℕ) → m < n → slice_get ss m ≡ Some s → slice_get ss n ≡ Some u → is_text s.kind ≡ false → is_text u.kind ≡ false → slice_get (places_from object text statics ss kept) m ≡ Some at → slice_get (places_from object text statics ss kept) n ≡ Some to → Kept m kept at (Kept n kept to (at < to))
static-behind-other object text statics [] kept m n s u at to l h i t v g e = absurd (none-some (slice_get [] m) s refl h)
static-behind-other object text statics (x ∷ ss) kept zero zero s u at to l h i t v g e = absurd (omega arith)
static-behind-other object text statics (x ∷ ss) kept zero (suc n) s u at to l h i t v g e = first (static-first kept refl)
  where
    same : x ≡ s
    same = same-some x s h

    k : is_text x.kind ≡ false
    k = ap (λ (y : Section). is_text y.kind) same ∙ t

    place : place_one object text statics x (first_kept kept) ≡ kept_or statics (first_kept kept)
    place = ap (λ b. cond b (cond object text 0) (kept_or statics (first_kept kept))) k

    after : static_after statics x (first_kept kept) ≡ behind_kept statics x (first_kept kept)
    after = ap (λ b. cond b statics (behind_kept statics x (first_kept kept))) k

    here : place_one object text statics x (first_kept kept) ≡ at
    here = same-some (place_one object text statics x (first_kept kept)) at g

    static-first : (o : List (Option ℕ)) → o ≡ kept → Kept zero kept at ((statics ≡ at) × (static_after statics x (first_kept kept) ≡ behind_static statics x.size))
    static-first [] w = gets (ap (λ z. kept_or statics (first_kept z)) w ∙ (sym place ∙ here), after ∙ ap (λ z. behind_kept statics x (first_kept z)) (sym w))
    static-first (None ∷ ks) w = gets (ap (λ z. kept_or statics (first_kept z)) w ∙ (sym place ∙ here), after ∙ ap (λ z. behind_kept statics x (first_kept z)) (sym w))
    static-first (Some y ∷ ks) w = keeps (ap (λ z. slice_get z zero) (sym w) ∙ ap (λ z. Some (Some z)) (ap (λ z. kept_or statics (first_kept z)) w ∙ (sym place ∙ here)))

    other : (statics ≡ at) × (static_after statics x (first_kept kept) ≡ behind_static statics x.size) → Kept n (rest_kept kept) to ((static_after statics x (first_kept kept) ≤ to) × (behind_static to u.size ≤ static_end (static_after statics x (first_kept kept)) ss (rest_kept kept))) → Kept (suc n) kept to (at < to)
    other p (keeps w) = keeps (later kept w)
      where
        later : (o : List (Option ℕ)) → slice_get (rest_kept o) n ≡ Some (Some to) → slice_get o (suc n) ≡ Some (Some to)
        later [] w = w
        later (y ∷ ks) w = w
    other p (gets r) = gets (last at statics x.size (static_after statics x (first_kept kept)) to p.0 p.1 r.0)
      where
        last : (at old m after to : ℕ) → old ≡ at → after ≡ old + m / 4 * 4 + 4 → after ≤ to → at < to
        last at old m after to a b c = omega arith

    first : Kept zero kept at ((statics ≡ at) × (static_after statics x (first_kept kept) ≡ behind_static statics x.size)) → Kept zero kept at (Kept (suc n) kept to (at < to))
    first (keeps w) = keeps w
    first (gets p) = gets (other p (static-within object (text_after object text x) (static_after statics x (first_kept kept)) ss (rest_kept kept) n u to i v e))
static-behind-other object text statics (x ∷ ss) kept (suc m) zero s u at to l h i t v g e = absurd (omega arith)
static-behind-other object text statics (x ∷ ss) kept (suc m) (suc n) s u at to l h i t v g e = by (static-behind-other object (text_after object text x) (static_after statics x (first_kept kept)) ss (rest_kept kept) m n s u at to (omega arith) h i t v g e)
  where
    later : (o : List (Option ℕ)) (k : ℕ) (y : ℕ) → slice_get (rest_kept o) k ≡ Some (Some y) → slice_get o (suc k) ≡ Some (Some y)
    later [] k y w = w
    later (z ∷ ks) k y w = w

    inner : Kept n (rest_kept kept) to (at < to) → Kept (suc n) kept to (at < to)
    inner (keeps w) = keeps (later kept n to w)
    inner (gets r) = gets r

    by : Kept m (rest_kept kept) at (Kept n (rest_kept kept) to (at < to)) → Kept (suc m) kept at (Kept (suc n) kept to (at < to))
    by (keeps w) = keeps (later kept m at w)
    by (gets r) = gets (inner r)
