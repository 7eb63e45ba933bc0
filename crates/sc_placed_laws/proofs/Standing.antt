-- Entries that are placed one behind the other.
use Rattle.std.proofs.Common.{◌≡◌, ◌≤◌, ℕ, ◌+◌, ◌^◌, Bool, true, false, ◌&&◌, if◌then◌else◌, min, List, [], ◌∷◌, ◌++◌, length, refl, sym, ap, subst, ◌∙◌, Option, arith}
use Rattle.std.specs.Prelude.{max}
use Rattle.sc_object.specs.declared.object.Section.{Section}
use Rattle.sc_link.specs.declared.placed.Placed.{Placed}
use Rattle.sc_link.specs.Entries.{is_object}
use Rattle.sc_link.specs.Symbols.{is_text}
use Rattle.sc_places.specs.Layout.{behind_statics, behind_text, behind_texts, first_kept, kept_or, place_one, places_from, rest_kept, static_after, text_after, text_end, text_reach, text_top, top_of}
use Rattle.sc_image.specs.declared.module.Linking.{Linking}
use Rattle.sc_image.specs.Placing.{placed_from, placed_modules, static_behind, text_behind, texts_behind}
use Rattle.sc_image.specs.Running.{entry_behind, is_present, retired_if, with_entry, without}
use Rattle.sc_placed_laws.specs.Texts.{IsPlaced, StandTo}

-- ---- modules, from nothing

pub modules_stand : (ms : List Linking) (text statics high : ℕ) → texts_behind text ms ≤ high → StandTo high text (placed_from text statics ms)
modules_stand [] text statics high h = h
modules_stand (m ∷ ms) text statics high h =
    (text, (omega arith, (record { statics = statics; keeps = []; places_are = refl }, modules_stand ms (text_behind text m) (static_behind statics m) high h)))

-- ---- more entries

pub higher : (es : List Placed) (low high most : ℕ) → high ≤ most → StandTo high low es → StandTo most low es
higher [] low high most l s = omega (arith, l, s)
higher (e ∷ es) low high most l s = (s.0, (s.1.0, (s.1.1.0, higher es (text_end (is_object e.form) s.0 e.object.sections) high most l s.1.1.1)))

one_more : (es : List Placed) (low mid high : ℕ) (e : Placed) → StandTo mid low es → StandTo high mid (e ∷ []) → StandTo high low (es ++ e ∷ [])
one_more [] low mid high e s t = let l = t.1.0 in (t.0, (omega (arith, l, s), t.1.1))
one_more (x ∷ xs) low mid high e s t = (s.0, (s.1.0, (s.1.1.0, one_more xs (text_end (is_object x.form) s.0 x.object.sections) mid high e s.1.1.1 t)))

-- a former entry stands where it stood
retired_placed : (b : Bool) (text : ℕ) (e : Placed) → IsPlaced text e → IsPlaced text (retired_if b e)
retired_placed true text e p = record { statics = p.statics; keeps = p.keeps; places_are = p.places_are }
retired_placed false text e p = p

retired_end : (b : Bool) (text : ℕ) (e : Placed) → text_end (is_object e.form) text e.object.sections ≡ text_end (is_object (retired_if b e).form) text (retired_if b e).object.sections
retired_end true text e = refl
retired_end false text e = refl

retired_top : (b : Bool) (e : Placed) → text_top e ≡ text_top (retired_if b e)
retired_top true e = refl
retired_top false e = refl

pub without_stand : (name : List ℕ) (es : List Placed) (low high : ℕ) → StandTo high low es → StandTo high low (without name es)
without_stand name [] low high s = s
without_stand name (e ∷ es) low high s =
    let b = is_present name e in (
      s.0,
      (
        s.1.0,
        (
          retired_placed b s.0 e s.1.1.0,
          subst (λ (n : ℕ). StandTo high n (without name es)) (retired_end b s.0 e) (without_stand name es (text_end (is_object e.form) s.0 e.object.sections) high s.1.1.1),
        ),
      ),
    )

pub without_behind : (name : List ℕ) (es : List Placed) → behind_texts es ≡ behind_texts (without name es)
without_behind name [] = refl
without_behind name (e ∷ es) = ap (λ (n : ℕ). max n (behind_texts es)) (retired_top (is_present name e) e) ∙ ap (max (text_top (retired_if (is_present name e) e))) (without_behind name es)

behind_more : (es : List Placed) (e : Placed) → behind_texts (es ++ e ∷ []) ≡ max (text_top e) (behind_texts es)
behind_more [] e = refl
behind_more (x ∷ xs) e = let h = behind_more xs e in omega (arith, h)

-- the address behind the texts of sections is the one behind the last of them, or the first where there is none
grows : (b : Bool) (ss : List Section) (text : ℕ) → text ≤ text_end b text ss
grows b [] text = omega arith
grows b (s ∷ ss) text = let h = grows b ss (text_after b text s) in let g = one (is_text s.kind && b) in omega (arith, h, g)
  where
    one : (c : Bool) → text ≤ (if c then behind_text text (length s.bytes) else text)
    one true = omega arith
    one false = omega arith

reached_by : (ss : List Section) (s : Section) (text statics later : ℕ) (keeps : List (Option ℕ)) (b : Bool) → is_text s.kind ≡ b → text_end true (text_after true text s) ss ≤ 0x04100000 →
    text_end true (text_after true text s) ss ≤ max (top_of text_reach ss (places_from true (text_after true text s) later ss (rest_kept keeps))) (text_after true text s) →
    text_end true (text_after true text s) ss
    ≤ max (max (text_reach s (place_one true text statics s (first_kept keeps))) (top_of text_reach ss (places_from true (text_after true text s) later ss (rest_kept keeps)))) text
reached_by ss s text statics later keeps true e h r =
    let after : text_after true text s ≡ behind_text text (length s.bytes) = ap (λ (b : Bool). if b && true then behind_text text (length s.bytes) else text) e in
    let place : place_one true text statics s (first_kept keeps) ≡ text = ap (λ (b : Bool). if b then text else kept_or statics (first_kept keeps)) e in
    let own : text_reach s (place_one true text statics s (first_kept keeps)) ≡ min (behind_text text (length s.bytes)) (2 ^ 32) =
    ap (text_reach s) place ∙ ap (λ (b : Bool). if b then min (behind_text text (length s.bytes)) (2 ^ 32) else 0) e in
    let g = grows true ss (text_after true text s) in
    omega (arith, after, own, g, r, h)
reached_by ss s text statics later keeps false e h r =
    let after : text_after true text s ≡ text = ap (λ (b : Bool). if b && true then behind_text text (length s.bytes) else text) e in
    omega (arith, after, r)

end_reached : (ss : List Section) (text statics : ℕ) (keeps : List (Option ℕ)) → text_end true text ss ≤ 0x04100000 → text_end true text ss ≤ max (top_of text_reach ss (places_from true text statics ss keeps)) text
end_reached [] text statics keeps h = omega arith
end_reached (s ∷ ss) text statics keeps h =
    let later = static_after statics s (first_kept keeps) in
    reached_by ss s text statics later keeps (is_text s.kind) refl h (end_reached ss (text_after true text s) later (rest_kept keeps) h)

none_placed : (b : Bool) (s : Section) (text : ℕ) → (if b && false then behind_text text (length s.bytes) else text) ≡ text
none_placed true s text = refl
none_placed false s text = refl

unplaced : (ss : List Section) (text : ℕ) → text_end false text ss ≡ text
unplaced [] text = refl
unplaced (s ∷ ss) text = ap (λ (n : ℕ). text_end false n ss) (none_placed (is_text s.kind) s text) ∙ unplaced ss text

stand_low : (es : List Placed) (low high : ℕ) → StandTo high low es → low ≤ high
stand_low [] low high s = s
stand_low (e ∷ es) low high s =
    let g = grows (is_object e.form) e.object.sections s.0 in
    let r = stand_low es (text_end (is_object e.form) s.0 e.object.sections) high s.1.1.1 in
    let l = s.1.0 in
    omega (arith, g, r, l)

form_reached : (b : Bool) (ss : List Section) (text statics : ℕ) (keeps : List (Option ℕ)) → text_end b text ss ≤ 0x04100000 →
    text_end b text ss ≤ max (if b then top_of text_reach ss (places_from b text statics ss keeps) else 0) text
form_reached true ss text statics keeps h = end_reached ss text statics keeps h
form_reached false ss text statics keeps h = let e = unplaced ss text in omega (arith, e)

-- a list with one module more, which is placed behind all others
pub more_stand : (es : List Placed) (m : Linking) (keeps : List (Option ℕ)) (low : ℕ) → StandTo (behind_texts es) low es → text_end (is_object m.form) (behind_texts es) m.object.sections ≤ 0x04100000 →
    StandTo (behind_texts (with_entry es m keeps)) low (with_entry es m keeps)
more_stand es m keeps low s h =
    let e = entry_behind es m keeps in
    let before = without m.name es in
    let text = behind_texts es in
    let same : behind_texts (with_entry es m keeps) ≡ max (text_top e) text = behind_more before e ∙ ap (max (text_top e)) (sym (without_behind m.name es)) in
    let r = form_reached (is_object m.form) m.object.sections text (behind_statics es) keeps h in
    one_more before low text (behind_texts (with_entry es m keeps)) e (without_stand m.name es low text s)
    (text, (omega arith, (record { statics = behind_statics es; keeps = keeps; places_are = refl }, omega (arith, same, r))))

-- what is placed from nothing ends where the list ends
placed_reached : (ms : List Linking) (text statics : ℕ) → texts_behind text ms ≤ 0x04100000 → texts_behind text ms ≤ max text (behind_texts (placed_from text statics ms))
placed_reached [] text statics h = omega arith
placed_reached (m ∷ ms) text statics h =
    let next = text_behind text m in
    let s : StandTo 0x04100000 next (placed_from next (static_behind statics m) ms) = modules_stand ms next (static_behind statics m) 0x04100000 h in
    let l = stand_low (placed_from next (static_behind statics m) ms) next 0x04100000 s in
    let a = placed_reached ms next (static_behind statics m) h in
    let r = form_reached (is_object m.form) m.object.sections text statics [] l in
    omega (arith, a, r)

behind_least : (es : List Placed) → 0x00100000 ≤ behind_texts es
behind_least [] = omega arith
behind_least (e ∷ es) = let h = behind_least es in omega (arith, h)

pub first_stand : (ms : List Linking) → texts_behind 0x00100000 ms ≤ 0x04100000 → StandTo (behind_texts (placed_modules ms)) 0x00100000 (placed_modules ms)
first_stand ms h =
    let r = placed_reached ms 0x00100000 0x08000000 h in
    let l = behind_least (placed_modules ms) in
    higher (placed_modules ms) 0x00100000 (texts_behind 0x00100000 ms) (behind_texts (placed_modules ms)) (omega (arith, r, l)) (modules_stand ms 0x00100000 0x08000000 (texts_behind 0x00100000 ms) (omega arith))
