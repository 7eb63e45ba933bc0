-- The addresses behind modules.
use Rattle.std.proofs.Common.{◌≡◌, ℕ, ◌<◌, ◌≤◌, List, [], ◌∷◌, refl, sym, ◌∙◌, Option, Some, None, arith, subst}
use Rattle.std.specs.List.{slice_get}
use Rattle.sc_link.specs.Entries.{is_object}
use Rattle.sc_places.proofs.Growing.{static-grows, text-grows}
use Rattle.sc_image.specs.declared.module.Linking.{Linking}
use Rattle.sc_image.specs.Placing.{static_behind, statics_behind, text_behind, texts_behind}

none-some : {A : Type 0} (r : Option A) (x : A) → r ≡ None → r ≡ Some x → ⊥
none-some {A = A} r x n s = absurd (let e : ◌≡◌ {A = Option A} None (Some x) = sym n ∙ s in cc)

same-some : {A : Type 0} (x y : A) → Some x ≡ Some y → x ≡ y
same-some x y h = cc

-- areas only grow
pub text-grows-one : (text : ℕ) (m : Linking) → text ≤ text_behind text m
text-grows-one text m = text-grows (is_object m.form) text m.object.sections

pub texts-grow : (text : ℕ) (ms : List Linking) → text ≤ texts_behind text ms
texts-grow text [] = omega arith
texts-grow text (m ∷ ms) = let a = text-grows-one text m in let b = texts-grow (text_behind text m) ms in omega arith

pub static-grows-one : (statics : ℕ) (m : Linking) → statics ≤ static_behind statics m
static-grows-one statics m = static-grows statics m.object.sections []

pub statics-grow : (statics : ℕ) (ms : List Linking) → statics ≤ statics_behind statics ms
statics-grow statics [] = omega arith
statics-grow statics (m ∷ ms) = let a = static-grows-one statics m in let b = statics-grow (static_behind statics m) ms in omega arith

-- what does not fit before the end does not fit at the end
pub texts-beyond : (text : ℕ) (ms : List Linking) (m : Linking) (most : ℕ) → slice_get ms 0 ≡ Some m → most < text_behind text m → most < texts_behind text ms
texts-beyond text [] m most h l = absurd (none-some (slice_get [] 0) m refl h)
texts-beyond text (x ∷ ms) m most h l =
    let k : most < text_behind text x = subst (λ y. most < text_behind text y) (sym (same-some x m h)) l in
    let g = texts-grow (text_behind text x) ms in
    omega arith

pub statics-beyond : (statics : ℕ) (ms : List Linking) (m : Linking) (most : ℕ) → slice_get ms 0 ≡ Some m → most < static_behind statics m → most < statics_behind statics ms
statics-beyond statics [] m most h l = absurd (none-some (slice_get [] 0) m refl h)
statics-beyond statics (x ∷ ms) m most h l =
    let k : most < static_behind statics x = subst (λ y. most < static_behind statics y) (sym (same-some x m h)) l in
    let g = statics-grow (static_behind statics x) ms in
    omega arith

-- where all fit the first one does
pub texts-fit : (text : ℕ) (ms : List Linking) (m : Linking) (most : ℕ) → slice_get ms 0 ≡ Some m → texts_behind text ms ≤ most → (text ≤ most) × (text_behind text m ≤ most)
texts-fit text [] m most h l = absurd (none-some (slice_get [] 0) m refl h)
texts-fit text (x ∷ ms) m most h l =
    let a = text-grows-one text x in
    let g = texts-grow (text_behind text x) ms in
    subst (λ y. (text ≤ most) × (text_behind text y ≤ most)) (same-some x m h) (omega arith, omega arith)

pub statics-fit : (statics : ℕ) (ms : List Linking) (m : Linking) (most : ℕ) → slice_get ms 0 ≡ Some m → statics_behind statics ms ≤ most → (statics ≤ most) × (static_behind statics m ≤ most)
statics-fit statics [] m most h l = absurd (none-some (slice_get [] 0) m refl h)
statics-fit statics (x ∷ ms) m most h l =
    let a = static-grows-one statics x in
    let g = statics-grow (static_behind statics x) ms in
    subst (λ y. (statics ≤ most) × (static_behind statics y ≤ most)) (same-some x m h) (omega arith, omega arith)
