-- What a module that has no room reaches beyond its area, and so do the entries of any list that goes on from there.
use Rattle.std.proofs.Common.{◌≡◌, ℕ, ◌<◌, ◌≤◌, ◌&&◌, ◌^◌, Bool, true, false, cond, List, [], ◌∷◌, ◌++◌, map, length, refl, sym, ap, ◌∙◌, subst, Option, Some, None, arith, min}
use Rattle.std.specs.Prelude.{max, nat_lt}
use Rattle.std.proofs.lemmas.Bool.Decides.{nat_tests}
use Rattle.sc_base.specs.declared.key.Key.{Key}
use Rattle.sc_object.specs.declared.object.Section.{Section}
use Rattle.sc_link.specs.Entries.{is_object}
use Rattle.sc_link.specs.Symbols.{is_text}
use Rattle.sc_link.specs.declared.placed.Area.{Area}
use Rattle.sc_link.specs.declared.placed.Area.TheVariants as area
use Rattle.sc_link.specs.declared.placed.LinkFault.TheVariants as fault
use Rattle.sc_link.specs.declared.placed.Placed.{Placed}
use Rattle.sc_places.specs.Layout.{behind_text, behind_texts, first_kept, kept_or, places_from, rest_kept, static_after, text_after, text_end, text_reach, text_top, top_of}
use Rattle.sc_image.specs.declared.module.Linking.{Linking}
use Rattle.sc_image.specs.Placing.{IsFull, placed_from, placed_modules, static_behind, text_behind, texts_behind}
use Rattle.sc_image.specs.Running.{IsOver, IsShortIn, IsShortOf, entry_behind, formed_by, is_present, present, retired_if, with_entry, without}

max-left : (a b : ℕ) → a ≤ max a b
max-left a b = grind (arith, nat_tests)

max-right : (a b : ℕ) → b ≤ max a b
max-right a b = grind (arith, nat_tests)

max-over : (n a b c : ℕ) → n < a → a ≤ max b c → n < max b c
max-over n a b c p q = omega arith

less : (a b : ℕ) → nat_lt a b ≡ true → a < b
less a b h = grind (arith, nat_tests)

not-less : (a b : ℕ) → nat_lt a b ≡ false → b ≤ a
not-less a b h = grind (arith, nat_tests)

-- ---- one module

-- a section whose text goes beyond the area
over-one : (b : Bool) (text len other rest : ℕ) → text ≤ 0x04100000 → 0x04100000 < cond (b && true) (behind_text text len) text
    → 0x04100000 < max (cond b (min (behind_text (cond b text other) len) (2 ^ 32)) 0) rest
over-one true text len other rest low high =
    let reach : 0x04100000 < min (behind_text text len) (2 ^ 32) = grind (arith, nat_tests, high) in
    max-over 0x04100000 (min (behind_text text len) (2 ^ 32)) (min (behind_text text len) (2 ^ 32)) rest reach (max-left (min (behind_text text len) (2 ^ 32)) rest)
over-one false text len other rest low high = absurd (omega (arith, low, high))

over-sections : (text statics : ℕ) (ss : List Section) (kept : List (Option ℕ)) → text ≤ 0x04100000 → 0x04100000 < text_end true text ss → 0x04100000 < top_of text_reach ss (places_from true text statics ss kept)
over-sections text statics [] kept low high = absurd (omega (arith, low, high))
over-sections text statics (s ∷ ss) kept low high =
    by (nat_lt 0x04100000 (text_after true text s)) refl (λ within. over-sections (text_after true text s) (static_after statics s (first_kept kept)) ss (rest_kept kept) within high)
  where
    by : (b : Bool) → nat_lt 0x04100000 (text_after true text s) ≡ b
        → (text_after true text s ≤ 0x04100000 → 0x04100000 < top_of text_reach ss (places_from true (text_after true text s) (static_after statics s (first_kept kept)) ss (rest_kept kept)))
        → 0x04100000 < top_of text_reach (s ∷ ss) (places_from true text statics (s ∷ ss) kept)
    by true e rest =
        over-one (is_text s.kind) text (length s.bytes) (kept_or statics (first_kept kept)) (top_of text_reach ss (places_from true (text_after true text s) (static_after statics s (first_kept kept)) ss (rest_kept kept))) low
        (less 0x04100000 (text_after true text s) e)
    by false e rest =
        max-over 0x04100000 (top_of text_reach ss (places_from true (text_after true text s) (static_after statics s (first_kept kept)) ss (rest_kept kept)))
        (cond (is_text s.kind) (min (behind_text (cond (is_text s.kind) text (kept_or statics (first_kept kept))) (length s.bytes)) (2 ^ 32)) 0)
        (top_of text_reach ss (places_from true (text_after true text s) (static_after statics s (first_kept kept)) ss (rest_kept kept)))
        (rest (not-less 0x04100000 (text_after true text s) e)) (max-right _ _)

-- one that is interpreted places no text
no-text : (text : ℕ) (ss : List Section) → text_end false text ss ≡ text
no-text text [] = refl
no-text text (s ∷ ss) = by (is_text s.kind) (no-text text ss)
  where
    by : (b : Bool) → text_end false text ss ≡ text → text_end false (cond (b && false) (behind_text text (length s.bytes)) text) ss ≡ text
    by true rest = rest
    by false rest = rest

-- an entry that is placed from two addresses on: it reaches beyond the area, or what was placed before it did
over-top : (object : Bool) (text statics : ℕ) (ss : List Section) (kept : List (Option ℕ)) → text ≤ 0x04100000 → 0x04100000 < text_end object text ss → 0x04100000 < cond object (top_of text_reach ss (places_from object text statics ss kept)) 0
over-top true text statics ss kept low high = over-sections text statics ss kept low high
over-top false text statics ss kept low high = absurd (let same = no-text text ss in omega (arith, low, high, same))

-- ---- lists of entries

least : (es : List Placed) → 0x00100000 ≤ behind_texts es
least [] = omega arith
least (e ∷ es) = let r = least es in let m = max-right (text_top e) (behind_texts es) in omega arith

front-grows : (es more : List Placed) → behind_texts es ≤ behind_texts (es ++ more)
front-grows [] more = least more
front-grows (e ∷ es) more = grown (text_top e) (behind_texts es) (behind_texts (es ++ more)) (front-grows es more)
  where
    grown : (a b c : ℕ) → b ≤ c → max a b ≤ max a c
    grown a b c h = grind (arith, nat_tests, h)

last-top : (es : List Placed) (e : Placed) → text_top e ≤ behind_texts (es ++ e ∷ [])
last-top [] e = max-left (text_top e) 0x00100000
last-top (x ∷ es) e = let r = last-top es e in let m = max-right (text_top x) (behind_texts (es ++ e ∷ [])) in omega arith

same-top : (b : Bool) (e : Placed) → text_top (retired_if b e) ≡ text_top e
same-top true e = refl
same-top false e = refl

without-same : (name : List ℕ) (es : List Placed) → behind_texts (without name es) ≡ behind_texts es
without-same name [] = refl
without-same name (e ∷ es) = ap (λ n. max n (behind_texts (without name es))) (same-top (is_present name e) e) ∙ ap (λ n. max (text_top e) n) (without-same name es)

entry-grows : (es : List Placed) (m : Linking) (keeps : List (Option ℕ)) → behind_texts es ≤ behind_texts (with_entry es m keeps)
entry-grows es m keeps = subst (λ n. n ≤ behind_texts (with_entry es m keeps)) (without-same m.name es) (front-grows (without m.name es) (entry_behind es m keeps ∷ []))

entry-over : (es : List Placed) (m : Linking) (keeps : List (Option ℕ)) → 0x04100000 < text_end (is_object m.form) (behind_texts es) m.object.sections → 0x04100000 < behind_texts (with_entry es m keeps)
entry-over es m keeps high = by (nat_lt 0x04100000 (behind_texts es)) refl
  where
    by : (b : Bool) → nat_lt 0x04100000 (behind_texts es) ≡ b → 0x04100000 < behind_texts (with_entry es m keeps)
    by true e = (let l = less 0x04100000 (behind_texts es) e in let g = entry-grows es m keeps in omega (arith, l, g))
    by false e =
        let top : 0x04100000 < text_top (entry_behind es m keeps) = over-top (is_object m.form) (behind_texts es) _ m.object.sections keeps (not-less 0x04100000 (behind_texts es) e) high in
        let g = last-top (without m.name es) (entry_behind es m keeps) in
        omega (arith, top, g)

-- ---- what has no room has none in the end

-- one list reaches as far as another
abbrev pub Grows : List Placed → List Placed → Type 0
Grows es xs = behind_texts es ≤ behind_texts xs

pub grows_same : (es : List Placed) → Grows es es
grows_same es = omega arith

pub grows_on : (es xs ys : List Placed) → Grows es xs → Grows xs ys → Grows es ys
grows_on es xs ys p q = omega (arith, p, q)

pub without_grows : (name : List ℕ) (es : List Placed) → Grows es (without name es)
without_grows name es = let same = without-same name es in omega (arith, same)

-- what is said of an area holds of a list that goes on from another; but for static objects
abbrev pub IsCode : Area → Type 0
IsCode area.Stubs = Unit {0}
IsCode area.Text = Unit {0}
IsCode area.Static = ⊥

pub over_more : (es xs : List Placed) (funs : List Key) (a : Area) → IsCode a → Grows es xs → IsOver es funs a → IsOver xs funs a
over_more es xs funs area.Stubs code more p = p
over_more es xs funs area.Text code more p = let l = p.1 in (p.0, omega (arith, l, more))
over_more es xs funs area.Static code more p = absurd code

pub module_grows : (es : List Placed) (m : Linking) (keeps : List (Option ℕ)) → Grows es (with_entry es m keeps)
module_grows es m keeps = entry-grows es m keeps

pub module_over : (es : List Placed) (funs : List Key) (m : Linking) (keeps : List (Option ℕ)) (a : Area) → IsCode a → IsShortOf es funs m keeps (fault.Space a) → IsOver (with_entry es m keeps) funs a
module_over es funs m keeps area.Stubs code p = p
module_over es funs m keeps area.Text code p = (p.0, entry-over es m keeps p.1)
module_over es funs m keeps area.Static code p = absurd code

pub formed_grows : (o : Option Placed) (m : Linking) (es : List Placed) → Grows es (formed_by o m es)
formed_grows None m es = omega arith
formed_grows (Some e) m es = entry-grows es m (map Some e.places)

pub formed_over : (o : Option Placed) (m : Linking) (es : List Placed) (funs : List Key) (a : Area) → IsCode a → IsShortIn o es funs m (fault.Space a) → IsOver (formed_by o m es) funs a
formed_over None m es funs a code p = absurd (cc)
formed_over (Some e) m es funs a code p = module_over es funs m (map Some e.places) a code p

-- the modules with which a run begins
modules-over : (text statics : ℕ) (ms : List Linking) → text ≤ 0x04100000 → 0x04100000 < texts_behind text ms → 0x04100000 < behind_texts (placed_from text statics ms)
modules-over text statics [] low high = absurd (omega (arith, low, high))
modules-over text statics (m ∷ ms) low high =
    by (nat_lt 0x04100000 (text_behind text m)) refl (λ within. modules-over (text_behind text m) (static_behind statics m) ms within high)
  where
    by : (b : Bool) → nat_lt 0x04100000 (text_behind text m) ≡ b
        → (text_behind text m ≤ 0x04100000 → 0x04100000 < behind_texts (placed_from (text_behind text m) (static_behind statics m) ms)) → 0x04100000 < behind_texts (placed_from text statics (m ∷ ms))
    by true e rest =
        let top = over-top (is_object m.form) text statics m.object.sections [] low (less 0x04100000 (text_behind text m) e) in
        max-over 0x04100000 _ _ _ top (max-left _ (behind_texts (placed_from (text_behind text m) (static_behind statics m) ms)))
    by false e rest =
        max-over 0x04100000 _ _ _ (rest (not-less 0x04100000 (text_behind text m) e))
        (max-right (cond (is_object m.form) (top_of text_reach m.object.sections (places_from (is_object m.form) text statics m.object.sections [])) 0) _)

pub begun_over : (ms : List Linking) (funs : List Key) (a : Area) → IsCode a → IsFull ms funs a → IsOver (placed_modules ms) funs a
begun_over ms funs area.Stubs code p = p
begun_over ms funs area.Text code p = (p.0, modules-over 0x00100000 0x08000000 ms (omega arith) p.1)
begun_over ms funs area.Static code p = absurd code
