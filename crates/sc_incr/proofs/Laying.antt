-- An entry that is placed behind all others stands apart from them.
use Rattle.std.proofs.Common.{◌≡◌, ◌⊎◌, inl, inr, ℕ, zero, suc, ◌+◌, ◌*◌, ◌/◌, ◌%◌, ◌^◌, ◌<◌, ◌≤◌, ◌==◌, ◌&&◌, Bool, true, false, cond, List, [], ◌∷◌, ◌++◌, length, refl, sym, ap, ◌∙◌, Option, Some, None, subst, arith, true≢false}
use Rattle.std.proofs.lemmas.Bool.Decides.{nat_tests}
use Rattle.std.specs.Prelude.{max, min, nat_le, nat_lt, option_and_then, option_to_list}
use Rattle.std.specs.List.{slice_get}
use Rattle.sc_base.specs.declared.key.Key.{Key}
use Rattle.sc_object.specs.declared.object.FrameTable.{FrameTable}
use Rattle.sc_object.specs.declared.object.Reloc.{Reloc}
use Rattle.sc_object.specs.declared.object.Section.{Section}
use Rattle.sc_object.specs.declared.object.Symbol.{Symbol}
use Rattle.sc_isa_image.specs.declared.text.Text.{Text}
use Rattle.sc_isa_image.specs.Texts.{end_of, holds}
use Rattle.sc_link.specs.declared.placed.Placed.{Placed}
use Rattle.sc_link.specs.Relocation.{words}
use Rattle.sc_link.specs.declared.placed.LiteralAt.{LiteralAt}
use Rattle.sc_link.specs.Symbols.{home_if, is_literal, is_name, is_text, key_of, literal_at, literal_of as literal_by, place_of, section_of}
use Rattle.sc_link.specs.Entries.{Fix, each, fix_at, fixes_at, fixes_of, has_second, is_object, literals_of, spot_at, text_at, text_by, text_of, texts_if, texts_of}
use Rattle.sc_link.specs.Linked.{AreApart, AreOnePlaced, literal_of}
use Rattle.sc_places.specs.Layout.{behind_static, behind_text, behind_statics, behind_texts, places_from, static_end, static_reach, static_top, text_end, text_reach, text_top, top_of}
use Rattle.sc_incr.specs.Sound.{IsSound, IsText, Word, back, frame_section, frame_symbol, front, symbol_section}
use Rattle.sc_isa_image.specs.declared.literals.Literal.{Literal}
use Rattle.sc_isa_image.specs.Literals as named
use Rattle.sc_incr.specs.Settled.{KeepsLiterals}
use Rattle.sc_incr.specs.Stands.{Has}
use Rattle.sc_incr.proofs.Keys.{lt-false, lt-true, none-some, same-some}
use Rattle.sc_incr.proofs.Members.{has-front, has-back, has-nothing, has-split}
use Rattle.sc_places.proofs.Growing.{Kept, gets, keeps, static-behind-other, static-within, text-behind-other, text-within}

-- an element of what a function gives of a list
pub each-origin : {A B : Type 0} (f : A → Option B) (xs : List A) (n : ℕ) (y : B) → slice_get (each f xs) n ≡ Some y → (j : ℕ) × ((x : A) × ((slice_get xs j ≡ Some x) × (f x ≡ Some y)))
each-origin f [] n y h = absurd (none-some (slice_get [] n) y refl h)
each-origin {A = A} {B = B} f (x ∷ xs) n y h = by (f x) refl n h (each-origin f xs)
  where
    by : (o : Option B) → f x ≡ o → (n : ℕ) → slice_get (option_to_list o ++ each f xs) n ≡ Some y → ((n : ℕ) (y : B) → slice_get (each f xs) n ≡ Some y → (j : ℕ) × ((z : A) × ((slice_get xs j ≡ Some z) × (f z ≡ Some y)))) → (j : ℕ) × ((z : A) × ((slice_get (x ∷ xs) j ≡ Some z) × (f z ≡ Some y)))
    by None e m g rest = let r = rest m y g in (suc r.0, (r.1.0, r.1.1))
    by (Some w) e zero g rest = (zero, (x, (refl, e ∙ g)))
    by (Some w) e (suc m) g rest = let r = rest m y g in (suc r.0, (r.1.0, r.1.1))

pub each-has : {A B : Type 0} (f : A → Option B) (xs : List A) (x : A) (y : B) → Has x xs → f x ≡ Some y → Has y (each f xs)
each-has f [] x y h e = absurd (has-nothing x h)
each-has {A = A} f (z ∷ xs) x y h e = by h.0 h.1 (λ n i. each-has f xs x y (n, i) e)
  where
    by : (n : ℕ) → slice_get (z ∷ xs) n ≡ Some x → ((n : ℕ) → slice_get xs n ≡ Some x → Has y (each f xs)) → Has y (option_to_list (f z) ++ each f xs)
    by zero i rest = let s : z ≡ x = same-some z x i in has-front (option_to_list (f z)) (each f xs) y (0, ap (λ o. slice_get (option_to_list o) 0) (ap f s ∙ e))
    by (suc n) i rest = has-back (option_to_list (f z)) (each f xs) y (rest n i)

-- texts of a list of frames are apart where those of two frames are
pub each-apart : {A : Type 0} (f : A → Option Text) (xs : List A) → ((i j : ℕ) (x y : A) (t u : Text) (pc : ℕ) → slice_get xs i ≡ Some x → slice_get xs j ≡ Some y → f x ≡ Some t → f y ≡ Some u → holds pc t ≡ true → holds pc u ≡ true → i ≡ j) → AreApart (each f xs)
each-apart f [] h m n t u pc g e a b = absurd (none-some (slice_get [] m) t refl g)
each-apart {A = A} f (x ∷ xs) h m n t u pc g e a b = by (f x) refl m n g e (each-apart f xs (λ i j y z v w p c d k l q r. let s = h (suc i) (suc j) y z v w p c d k l q r in omega arith))
  where
    never : (w : Text) (k : ℕ) → f x ≡ Some w → slice_get (each f xs) k ≡ Some u → holds pc w ≡ true → holds pc u ≡ true → ⊥
    never w k c d p q = let o = each-origin f xs k u d in absurd (let s = h zero (suc o.0) x o.1.0 w u pc refl o.1.1.0 c o.1.1.1 p q in omega arith)

    never-back : (w : Text) (k : ℕ) → f x ≡ Some w → slice_get (each f xs) k ≡ Some t → holds pc t ≡ true → holds pc w ≡ true → ⊥
    never-back w k c d p q = let o = each-origin f xs k t d in absurd (let s = h (suc o.0) zero o.1.0 x t w pc o.1.1.0 refl o.1.1.1 c p q in omega arith)

    by : (o : Option Text) → f x ≡ o → (m n : ℕ) → slice_get (option_to_list o ++ each f xs) m ≡ Some t → slice_get (option_to_list o ++ each f xs) n ≡ Some u → AreApart (each f xs) → m ≡ n
    by None c m n g e rest = rest m n t u pc g e a b
    by (Some w) c zero zero g e rest = refl
    by (Some w) c zero (suc n) g e rest = absurd (never w n c e (ap (holds pc) (same-some w t g) ∙ a) b)
    by (Some w) c (suc m) zero g e rest = absurd (never-back w m c g a (ap (holds pc) (same-some w u e) ∙ b))
    by (Some w) c (suc m) (suc n) g e rest = ap suc (rest m n t u pc g e a b)

-- words of bytes
pub words-least : (bytes : List ℕ) → 4 * length (words bytes) ≤ length bytes
words-least [] = omega arith
words-least (a ∷ []) = omega arith
words-least (a ∷ b ∷ []) = omega arith
words-least (a ∷ b ∷ c ∷ []) = omega arith
words-least (a ∷ b ∷ c ∷ d ∷ rest) = let l = words-least rest in omega arith

pub words-most : (bytes : List ℕ) → length bytes < 4 * length (words bytes) + 4
words-most [] = omega arith
words-most (a ∷ []) = omega arith
words-most (a ∷ b ∷ []) = omega arith
words-most (a ∷ b ∷ c ∷ []) = omega arith
words-most (a ∷ b ∷ c ∷ d ∷ rest) = let l = words-most rest in omega arith

-- where a text comes from
pub record From (e : Placed) (f : FrameTable) (t : Text) : Type 0 where
  pub number : ℕ
  pub section : Section
  pub is-number : frame_section e.object f ≡ Some number
  pub is-section : slice_get e.object.sections number ≡ Some section
  pub is-place : slice_get e.places number ≡ Some t.at.start
  pub is-text : is_text section.kind ≡ true
  pub is-words : t.words ≡ words section.bytes

pub text-from : (e : Placed) (f : FrameTable) (t : Text) → text_of e f ≡ Some t → From e f t
text-from e f t h = symbol (slice_get e.object.symbols f.symbol) refl h
  where
    last : (k : ℕ) (c : Section) (at : ℕ) (key : Option Key) → frame_section e.object f ≡ Some k → slice_get e.object.sections k ≡ Some c → slice_get e.places k ≡ Some at → (b : Bool) → is_text c.kind ≡ b → text_at e f (Some c) (Some at) key ≡ Some t → From e f t
    last k c at None x y z b w g = absurd (cc)
    last k c at (Some key) x y z true w g = made (sym (ap (λ q. cond q (Some (record { at = record { fun = key; «module» = e.home; start = at; frame = f }; words = words c.bytes })) None) w) ∙ g)
      where
        made : ◌≡◌ {A = Option Text} (Some (record { at = record { fun = key; «module» = e.home; start = at; frame = f }; words = words c.bytes })) (Some t) → From e f t
        made q =
            let s : ◌≡◌ {A = Text} (record { at = record { fun = key; «module» = e.home; start = at; frame = f }; words = words c.bytes }) t = same-some _ t q in
            record { number = k; section = c; is-number = x; is-section = y; is-place = z ∙ ap (λ (v : Text). Some v.at.start) s; is-text = w; is-words = ap (λ (v : Text). v.words) (sym s) }
    last k c at (Some key) x y z false w g = absurd (none-some _ t (ap (λ q. cond q (Some (record { at = record { fun = key; «module» = e.home; start = at; frame = f }; words = words c.bytes })) None) w) g)

    place : (s : Symbol) (k : ℕ) (c : Section) → frame_section e.object f ≡ Some k → slice_get e.object.sections k ≡ Some c → (o : Option ℕ) → slice_get e.places k ≡ o → text_at e f (Some c) o (key_of e.home s) ≡ Some t → From e f t
    place s k c x y None z g = absurd (cc)
    place s k c x y (Some at) z g = last k c at (key_of e.home s) x y z (is_text c.kind) refl g

    section : (s : Symbol) (k : ℕ) → frame_section e.object f ≡ Some k → (o : Option Section) → slice_get e.object.sections k ≡ o → text_at e f o (slice_get e.places k) (key_of e.home s) ≡ Some t → From e f t
    section s k x None y g = absurd (cc)
    section s k x (Some c) y g = place s k c x y (slice_get e.places k) refl g

    number : (s : Symbol) → frame_symbol e.object f ≡ Some s → (o : Option ℕ) → s.section ≡ o → text_at e f (option_and_then (slice_get e.object.sections) o) (option_and_then (slice_get e.places) o) (key_of e.home s) ≡ Some t → From e f t
    number s w None x g = absurd (cc)
    number s w (Some k) x g = section s k (ap (option_and_then symbol_section) w ∙ x) (slice_get e.object.sections k) refl g

    symbol : (o : Option Symbol) → slice_get e.object.symbols f.symbol ≡ o → option_and_then (text_by e f) o ≡ Some t → From e f t
    symbol None x g = absurd (cc)
    symbol (Some s) x g = number s x s.section refl g

room-words : (at : ℕ) (c : Section) → at + 4 * length (words c.bytes) ≤ behind_text at (length c.bytes)
room-words at c = let l = words-least c.bytes in by (length (words c.bytes)) (length c.bytes) l
  where
    by : (w n : ℕ) → 4 * w ≤ n → at + 4 * w ≤ at + (n + 3) / 4 * 4
    by w n l = omega arith

pub holds-low : (pc : ℕ) (t : Text) → holds pc t ≡ true → t.at.start ≤ pc
holds-low pc t h = by t.at.start (end_of t) h
  where
    by : (a b : ℕ) → nat_le a pc && nat_lt pc b ≡ true → a ≤ pc
    by a b h = grind (arith, nat_tests)

pub holds-high : (pc : ℕ) (t : Text) → holds pc t ≡ true → pc < end_of t
holds-high pc t h = by t.at.start (end_of t) h
  where
    by : (a b : ℕ) → nat_le a pc && nat_lt pc b ≡ true → pc < b
    by a b h = grind (arith, nat_tests)

end-words : (t : Text) (ws : List ℕ) → t.words ≡ ws → end_of t ≡ t.at.start + 4 * length ws
end-words t ws e = ap (λ (x : List ℕ). t.at.start + 4 * length x) e

module _ (e : Placed) (text statics : ℕ) (kept : List (Option ℕ)) (sound : IsSound e.object) (places : e.places ≡ places_from true text statics e.object.sections kept) where
  text-at : (n : ℕ) (at : ℕ) → slice_get e.places n ≡ Some at → slice_get (places_from true text statics e.object.sections kept) n ≡ Some at
  text-at n at h = ap (λ ps. slice_get ps n) (sym places) ∙ h

  -- each text is in the part of the area that is new
  pub text-inside : (f : FrameTable) (t : Text) → text_of e f ≡ Some t → (text ≤ t.at.start) × (end_of t ≤ text_end true text e.object.sections)
  text-inside f t h =
      let a = text-from e f t h in
      let w = text-within text statics e.object.sections kept a.number a.section t.at.start a.is-section a.is-text (text-at a.number t.at.start a.is-place) in
      let r = room-words t.at.start a.section in
      let d = end-words t (words a.section.bytes) a.is-words in
      let x = w.0 in
      let y = w.1 in
      (x, omega arith)

  -- texts of two frames are apart
  pub texts-apart : (i j : ℕ) (f g : FrameTable) (t u : Text) (pc : ℕ) → slice_get e.object.frames i ≡ Some f → slice_get e.object.frames j ≡ Some g → text_of e f ≡ Some t → text_of e g ≡ Some u → holds pc t ≡ true → holds pc u ≡ true → i ≡ j
  texts-apart i j f g t u pc x y h k p q = by (nat_lt a.number b.number) refl (nat_lt b.number a.number) refl
    where
      a : From e f t
      a = text-from e f t h

      b : From e g u
      b = text-from e g u k

      order : (m n : ℕ) (v w : Text) (c d : Section) → m < n → slice_get e.object.sections m ≡ Some c → slice_get e.object.sections n ≡ Some d → is_text c.kind ≡ true → is_text d.kind ≡ true → slice_get e.places m ≡ Some v.at.start → slice_get e.places n ≡ Some w.at.start → v.words ≡ words c.bytes → holds pc v ≡ true → holds pc w ≡ true → ⊥
      order m n v w c d l x1 x2 x3 x4 x5 x6 x7 x8 x9 =
          absurd (let o = text-behind-other text statics e.object.sections kept m n c d v.at.start w.at.start l x1 x2 x3 x4 (text-at m v.at.start x5) (text-at n w.at.start x6) in
          let r = room-words v.at.start c in
          let z = end-words v (words c.bytes) x7 in
          let s = holds-high pc v x8 in
          let s2 = holds-low pc w x9 in
          omega arith)

      same : a.number ≡ b.number → i ≡ j
      same z = sound.frames i j f g b.number x y (a.is-number ∙ ap Some z) b.is-number

      by : (v : Bool) → nat_lt a.number b.number ≡ v → (w : Bool) → nat_lt b.number a.number ≡ w → i ≡ j
      by true l w m = absurd (order a.number b.number t u a.section b.section (lt-true a.number b.number l) a.is-section b.is-section a.is-text b.is-text a.is-place b.is-place a.is-words p q)
      by false l true m = absurd (order b.number a.number u t b.section a.section (lt-true b.number a.number m) b.is-section a.is-section b.is-text a.is-text b.is-place a.is-place b.is-words q p)
      by false l false m = same (let s = lt-false a.number b.number l in let r = lt-false b.number a.number m in omega arith)

-- a relocation of a text, by the offset of the word that it changes
pub record Changes (e : Placed) (f : Fix) : Type 0 where
  pub reloc : Reloc
  pub section : Section
  pub at : ℕ
  pub offset : ℕ
  pub second : Bool
  pub listed : Has reloc e.object.relocs
  pub is-section : slice_get e.object.sections reloc.section ≡ Some section
  pub is-place : slice_get e.places reloc.section ≡ Some at
  pub is-text : is_text section.kind ≡ true
  pub is-word : Word reloc offset second
  pub within : offset + 4 ≤ length section.bytes
  pub is-fix : f ≡ fix_at e reloc ((at + reloc.at) % 2 ^ 32) second (cond second (((at + reloc.at) % 2 ^ 32 + 4) % 2 ^ 32) ((at + reloc.at) % 2 ^ 32))

pub fix-changes : (e : Placed) (r : Reloc) (f : Fix) → Has r e.object.relocs → Has f (fixes_of e r) → Changes e f
fix-changes e r f listed h = section (slice_get e.object.sections r.section) refl (slice_get e.places r.section) refl h
  where
    kind-is : (k n l : ℕ) → (k == 19) && nat_le n l ≡ true → (k ≡ 19) × (n ≤ l)
    kind-is k n l g = (grind (arith, nat_tests), grind (arith, nat_tests))

    fits : (t : Bool) (n l : ℕ) → t && nat_le n l ≡ true → (t ≡ true) × (n ≤ l)
    fits true n l g = (refl, grind (arith, nat_tests))
    fits false n l g = absurd (true≢false (sym g))

    words-of : (c : Section) (at : ℕ) → slice_get e.object.sections r.section ≡ Some c → slice_get e.places r.section ≡ Some at → is_text c.kind ≡ true → r.at + 4 ≤ length c.bytes → (b : Bool) → has_second r (length c.bytes) ≡ b → (n : ℕ) → slice_get (fix_at e r ((at + r.at) % 2 ^ 32) false ((at + r.at) % 2 ^ 32) ∷ cond b (fix_at e r ((at + r.at) % 2 ^ 32) true (((at + r.at) % 2 ^ 32 + 4) % 2 ^ 32) ∷ []) []) n ≡ Some f → Changes e f
    words-of c at x y t l b w zero g = record { reloc = r; section = c; at = at; offset = r.at; second = false; listed = listed; is-section = x; is-place = y; is-text = t; is-word = front; within = l; is-fix = sym (same-some _ f g) }
    words-of c at x y t l true w (suc zero) g = let k = kind-is r.kind (r.at + 8) (length c.bytes) w in record { reloc = r; section = c; at = at; offset = r.at + 4; second = true; listed = listed; is-section = x; is-place = y; is-text = t; is-word = back k.0; within = (let z = k.1 in omega arith); is-fix = sym (same-some _ f g) }
    words-of c at x y t l true w (suc (suc n)) g = absurd (none-some (slice_get [] n) f refl g)
    words-of c at x y t l false w (suc n) g = absurd (none-some (slice_get [] n) f refl g)

    spot : (c : Section) (at : ℕ) → slice_get e.object.sections r.section ≡ Some c → slice_get e.places r.section ≡ Some at → (b : Bool) → (is_text c.kind && nat_le (r.at + 4) (length c.bytes)) ≡ b → Has f (fixes_at e r (cond b (Some ((at + r.at) % 2 ^ 32, length c.bytes)) None)) → Changes e f
    spot c at x y true w i = let k = fits (is_text c.kind) (r.at + 4) (length c.bytes) w in words-of c at x y k.0 k.1 (has_second r (length c.bytes)) refl i.0 i.1
    spot c at x y false w i = absurd (has-nothing f i)

    section : (o : Option Section) → slice_get e.object.sections r.section ≡ o → (p : Option ℕ) → slice_get e.places r.section ≡ p → Has f (fixes_at e r (spot_at r o p)) → Changes e f
    section None x p y i = absurd (has-nothing f i)
    section (Some c) x None y i = absurd (has-nothing f i)
    section (Some c) x (Some at) y i = spot c at x y (is_text c.kind && nat_le (r.at + 4) (length c.bytes)) refl i

module _ (e : Placed) (text statics : ℕ) (kept : List (Option ℕ)) (sound : IsSound e.object) (places : e.places ≡ places_from true text statics e.object.sections kept) (top : text_end true text e.object.sections ≤ 0x04100000) where
  changes-within : (f : Fix) (c : Changes e f) → (text ≤ c.at) × (behind_text c.at (length c.section.bytes) ≤ text_end true text e.object.sections)
  changes-within f c = text-within text statics e.object.sections kept c.reloc.section c.section c.at c.is-section c.is-text (ap (λ ps. slice_get ps c.reloc.section) (sym places) ∙ c.is-place)

  -- the address of the word that is changed
  word-at : (f : Fix) (c : Changes e f) → f.at ≡ c.at + c.offset
  word-at f c = ap (λ (g : Fix). g.at) c.is-fix ∙ by c.second c.offset c.is-word c.within
    where
      small : c.at + length c.section.bytes < 2 ^ 32
      small = let w = (changes-within f c).1 in in-room c.at (length c.section.bytes) (text_end true text e.object.sections) w top
        where
          in-room : (a n m : ℕ) → a + (n + 3) / 4 * 4 ≤ m → m ≤ 0x04100000 → a + n < 2 ^ 32
          in-room a n m w l = omega arith

      by : (b : Bool) (n : ℕ) → Word c.reloc n b → n + 4 ≤ length c.section.bytes → cond b (((c.at + c.reloc.at) % 2 ^ 32 + 4) % 2 ^ 32) ((c.at + c.reloc.at) % 2 ^ 32) ≡ c.at + n
      by false n front l = let s = small in omega arith
      by true n (back k) l = let s = small in omega arith

  -- it is in the text
  pub word-held : (f : Fix) → Changes e f → (t : Text) × (Has t (texts_of e) × (holds f.at t ≡ true))
  word-held f c = held (sound.texts c.reloc c.section c.listed c.is-section c.is-text)
    where
      held : IsText e.object c.reloc.section → (t : Text) × (Has t (texts_of e) × (holds f.at t ≡ true))
      held i = keyed (is_name i.symbol.name) i.named
        where
          t-of : Key → Text
          t-of key = record { at = record { fun = key; «module» = e.home; start = c.at; frame = i.frame }; words = words c.section.bytes }

          inside : (key : Key) → holds f.at (t-of key) ≡ true
          inside key = let w = word-at f c in let m = words-most c.section.bytes in let l = c.within in there f.at c.at c.offset (length (words c.section.bytes)) (length c.section.bytes) w m l
            where
              there : (x a n w m : ℕ) → x ≡ a + n → m < 4 * w + 4 → n + 4 ≤ m → nat_le a x && nat_lt x (a + 4 * w) ≡ true
              there x a n w m p q r = grind (arith, nat_tests)

          of : (key : Key) → key_of e.home i.symbol ≡ Some key → text_of e i.frame ≡ Some (t-of key)
          of key k =
              ap (option_and_then (text_by e i.frame)) i.is
              ∙ ((λ m. text_at e i.frame (option_and_then (slice_get e.object.sections) (i.home m)) (option_and_then (slice_get e.places) (i.home m)) (k m))
              ∙ ((λ m. text_at e i.frame (c.is-section m) (c.is-place m) (Some key)) ∙ ap (λ b. cond b (Some (t-of key)) None) c.is-text))

          keyed : (b : Bool) → b ≡ true → (t : Text) × (Has t (texts_of e) × (holds f.at t ≡ true))
          keyed b h =
              let key : Key = record { «module» = home_if i.symbol.global e.home; name = i.symbol.name } in
              (t-of key, (each-has (text_of e) e.object.frames i.frame (t-of key) i.listed (of key (ap (λ x. cond x (Some key) None) i.named)), inside key))

  -- no other relocation changes it
  pub words-single : (f g : Fix) → Changes e f → Changes e g → f.at ≡ g.at → f ≡ g
  words-single f g c d same = by (nat_lt c.reloc.section d.reloc.section) refl (nat_lt d.reloc.section c.reloc.section) refl
    where
      order : (x y : Fix) (a : Changes e x) (b : Changes e y) → x.at ≡ y.at → a.reloc.section < b.reloc.section → ⊥
      order x y a b s l =
          absurd (let o = text-behind-other text statics e.object.sections kept a.reloc.section b.reloc.section a.section b.section a.at b.at l a.is-section b.is-section a.is-text b.is-text (ap (λ ps. slice_get ps a.reloc.section) (sym places) ∙ a.is-place) (ap (λ ps. slice_get ps b.reloc.section) (sym places) ∙ b.is-place) in
          let p = word-at x a in
          let q = word-at y b in
          let w = a.within in
          far a.at b.at a.offset b.offset (length a.section.bytes) (sym p ∙ (s ∙ q)) o w)
        where
          far : (a b m n k : ℕ) → a + m ≡ b + n → a + (k + 3) / 4 * 4 ≤ b → m + 4 ≤ k → ⊥
          far a b m n k p o w = absurd (omega arith)

      equal : c.reloc.section ≡ d.reloc.section → f ≡ g
      equal s =
          let at : c.at ≡ d.at = same-some c.at d.at (sym c.is-place ∙ (ap (slice_get e.places) s ∙ d.is-place)) in
          let p = word-at f c in
          let q = word-at g d in
          let off : c.offset ≡ d.offset = let z = at in let w = same in omega arith in
          let w = sound.words c.reloc d.reloc d.offset c.second d.second c.listed d.listed s (subst (λ n. Word c.reloc n c.second) off c.is-word) d.is-word in
          c.is-fix ∙ ((λ m. fix_at e (w.0 m) ((at m + (w.0 m).at) % 2 ^ 32) (w.1 m) (cond (w.1 m) (((at m + (w.0 m).at) % 2 ^ 32 + 4) % 2 ^ 32) ((at m + (w.0 m).at) % 2 ^ 32))) ∙ sym d.is-fix)

      by : (v : Bool) → nat_lt c.reloc.section d.reloc.section ≡ v → (w : Bool) → nat_lt d.reloc.section c.reloc.section ≡ w → f ≡ g
      by true l w m = absurd (order f g c d same (lt-true c.reloc.section d.reloc.section l))
      by false l true m = absurd (order g f d c (sym same) (lt-true d.reloc.section c.reloc.section m))
      by false l false m = equal (let s = lt-false c.reloc.section d.reloc.section l in let r = lt-false d.reloc.section c.reloc.section m in omega arith)

-- where a literal comes from
pub record LiteralFrom (e : Placed) (x : LiteralAt) : Type 0 where
  pub symbol : Symbol
  pub listed : Has symbol e.object.symbols
  pub is-literal : is_literal symbol.name ≡ true
  pub number : ℕ
  pub is-number : symbol.section ≡ Some number
  pub section : Section
  pub is-symbol : section_of e.object symbol ≡ Some section
  pub is-section : slice_get e.object.sections number ≡ Some section
  pub is-place : slice_get e.places number ≡ Some x.at
  pub is-module : x.«module» ≡ e.home
  pub is-bytes : x.bytes ≡ section.bytes

pub literal-from : (e : Placed) (s : Symbol) (x : LiteralAt) → Has s e.object.symbols → literal_by e s ≡ Some x → LiteralFrom e x
literal-from e s x listed h = name (is_literal s.name) refl h
  where
    place : is_literal s.name ≡ true → (k : ℕ) (c : Section) → s.section ≡ Some k → section_of e.object s ≡ Some c → slice_get e.object.sections k ≡ Some c → (o : Option ℕ) → slice_get e.places k ≡ o → literal_at e.home (Some c) o ≡ Some x → LiteralFrom e x
    place l k c w0 q y None z g = absurd (cc)
    place l k c w0 q y (Some at) z g =
        let w : ◌≡◌ {A = LiteralAt} (record { «module» = e.home; bytes = c.bytes; at = at }) x = same-some _ x g in
        record { symbol = s; listed = listed; is-literal = l; number = k; is-number = w0; section = c; is-symbol = q; is-section = y; is-place = z ∙ ap (λ (v : LiteralAt). Some v.at) w; is-module = ap (λ (v : LiteralAt). v.«module») (sym w); is-bytes = ap (λ (v : LiteralAt). v.bytes) (sym w) }

    section : is_literal s.name ≡ true → (k : ℕ) → s.section ≡ Some k → (o : Option Section) → slice_get e.object.sections k ≡ o → literal_at e.home o (slice_get e.places k) ≡ Some x → LiteralFrom e x
    section l k w None y g = absurd (cc)
    section l k w (Some c) y g = place l k c w (ap (option_and_then (slice_get e.object.sections)) w ∙ y) y (slice_get e.places k) refl g

    number : is_literal s.name ≡ true → (o : Option ℕ) → s.section ≡ o → literal_at e.home (option_and_then (slice_get e.object.sections) o) (option_and_then (slice_get e.places) o) ≡ Some x → LiteralFrom e x
    number l None w g = absurd (cc)
    number l (Some k) w g = section l k w (slice_get e.object.sections k) refl g

    name : (b : Bool) → is_literal s.name ≡ b → cond b (literal_at e.home (section_of e.object s) (place_of e s)) None ≡ Some x → LiteralFrom e x
    name true l g = number l s.section refl g
    name false l g = absurd (cc)

pub literal-listed : (e : Placed) (x : LiteralAt) → Has x (literals_of e) → LiteralFrom e x
literal-listed e x h = let o = each-origin (literal_by e) e.object.symbols h.0 x h.1 in literal-from e o.1.0 x (o.0, o.1.1.0) o.1.1.1

-- what an entry places reaches no further than its tops
max-left : (a b : ℕ) → a ≤ max a b
max-left a b = grind (arith, nat_tests)

max-right : (a b : ℕ) → b ≤ max a b
max-right a b = grind (arith, nat_tests)

pub reach-top : (reach : Section → ℕ → ℕ) (ss : List Section) (ps : List ℕ) (n : ℕ) (c : Section) (p : ℕ) → slice_get ss n ≡ Some c → slice_get ps n ≡ Some p → reach c p ≤ top_of reach ss ps
reach-top reach [] ps n c p h g = absurd (none-some (slice_get [] n) c refl h)
reach-top reach (s ∷ ss) [] n c p h g = absurd (none-some (slice_get [] n) p refl g)
reach-top reach (s ∷ ss) (q ∷ ps) zero c p h g = subst (λ x. x ≤ max (reach s q) (top_of reach ss ps)) (λ m. reach (same-some s c h m) (same-some q p g m)) (max-left (reach s q) (top_of reach ss ps))
reach-top reach (s ∷ ss) (q ∷ ps) (suc n) c p h g = let r = reach-top reach ss ps n c p h g in let m = max-right (reach s q) (top_of reach ss ps) in omega arith

text-object : (d : Placed) (t : Text) → Has t (texts_if d) → (is_object d.form ≡ true) × Has t (texts_of d)
text-object d t h = by (is_object d.form) h
  where
    by : (b : Bool) → Has t (cond b (texts_of d) []) → (b ≡ true) × Has t (texts_of d)
    by true i = (refl, i)
    by false i = absurd (has-nothing t i)

pub text-below : (d : Placed) (t : Text) → Has t (texts_if d) → end_of t ≤ 0x04100000 → end_of t ≤ text_top d
text-below d t h high =
    let o = text-object d t h in
    let r = each-origin (text_of d) d.object.frames o.1.0 t o.1.1 in
    let a = text-from d r.1.0 t r.1.1.1 in
    subst (λ b. end_of t ≤ cond b (top_of text_reach d.object.sections d.places) 0) (sym o.0)
    (let m = reach-top text_reach d.object.sections d.places a.number a.section t.at.start a.is-section a.is-place in
    let w = reached a.section t.at.start (end_of t) (length (words a.section.bytes)) a.is-text (end-words t (words a.section.bytes) a.is-words) (words-least a.section.bytes) high in
    omega arith)
  where
    small : (at e w n : ℕ) → e ≡ at + 4 * w → 4 * w ≤ n → e ≤ 0x04100000 → e ≤ min (at + (n + 3) / 4 * 4) (2 ^ 32)
    small at e w n p q r = least e (at + (n + 3) / 4 * 4) (2 ^ 32) (omega arith) (omega arith)
      where
        least : (e a b : ℕ) → e ≤ a → e ≤ b → e ≤ min a b
        least e a b p q = grind (arith, nat_tests)

    reached : (c : Section) (at e w : ℕ) → is_text c.kind ≡ true → e ≡ at + 4 * w → 4 * w ≤ length c.bytes → e ≤ 0x04100000 → e ≤ text_reach c at
    reached c at e w k p q r = subst (λ b. e ≤ cond b (min (behind_text at (length c.bytes)) (2 ^ 32)) 0) (sym k) (small at e w (length c.bytes) p q r)

pub top-texts : (es : List Placed) (d : Placed) → Has d es → text_top d ≤ behind_texts es
top-texts [] d h = absurd (has-nothing d h)
top-texts (e ∷ es) d h = by h.0 h.1 (λ n g. top-texts es d (n, g))
  where
    by : (n : ℕ) → slice_get (e ∷ es) n ≡ Some d → ((n : ℕ) → slice_get es n ≡ Some d → text_top d ≤ behind_texts es) → text_top d ≤ max (text_top e) (behind_texts es)
    by zero g rest = subst (λ x. text_top x ≤ max (text_top e) (behind_texts es)) (same-some e d g) (max-left (text_top e) (behind_texts es))
    by (suc n) g rest = let r = rest n g in let m = max-right (text_top e) (behind_texts es) in omega arith

pub least-texts : (es : List Placed) → 0x00100000 ≤ behind_texts es
least-texts [] = omega arith
least-texts (e ∷ es) = let r = least-texts es in let m = max-right (text_top e) (behind_texts es) in omega arith

pub top-statics : (es : List Placed) (d : Placed) → Has d es → static_top d ≤ behind_statics es
top-statics [] d h = absurd (has-nothing d h)
top-statics (e ∷ es) d h = by h.0 h.1 (λ n g. top-statics es d (n, g))
  where
    by : (n : ℕ) → slice_get (e ∷ es) n ≡ Some d → ((n : ℕ) → slice_get es n ≡ Some d → static_top d ≤ behind_statics es) → static_top d ≤ max (static_top e) (behind_statics es)
    by zero g rest = subst (λ x. static_top x ≤ max (static_top e) (behind_statics es)) (same-some e d g) (max-left (static_top e) (behind_statics es))
    by (suc n) g rest = let r = rest n g in let m = max-right (static_top e) (behind_statics es) in omega arith

-- what the literals of a new entry keep stands in the list
module _ (e : Placed) (object : Bool) (text statics : ℕ) (kept : List (Option ℕ)) (sound : IsSound e.object) (places : e.places ≡ places_from object text statics e.object.sections kept) (old : List LiteralAt) (below : (x : LiteralAt) → Has x old → x.at < statics) (one : AreOnePlaced old) (keep : KeepsLiterals old e kept) where
  data Place (x : LiteralAt) (a : LiteralFrom e x) : Type 0 where
    same : (z : LiteralAt) → Has z old → z.at ≡ x.at → literal_of z ≡ literal_of x → Place x a
    fresh : statics ≤ x.at → behind_static x.at a.section.size ≤ static_end statics e.object.sections kept → Place x a

  no-text : (x : LiteralAt) (a : LiteralFrom e x) → is_text a.section.kind ≡ false
  no-text x a = sound.literals a.symbol a.section a.listed a.is-literal a.is-symbol

  placed-at : (x : LiteralAt) (a : LiteralFrom e x) → slice_get (places_from object text statics e.object.sections kept) a.number ≡ Some x.at
  placed-at x a = ap (λ ps. slice_get ps a.number) (sym places) ∙ a.is-place

  literal-is : (x : LiteralAt) (a : LiteralFrom e x) (l : Literal) → l ≡ named.literal_of e.home a.section.bytes → l ≡ literal_of x
  literal-is x a l h = h ∙ (λ m. named.literal_of (sym a.is-module m) (sym a.is-bytes m))

  kept-is : (x : LiteralAt) (a : LiteralFrom e x) → slice_get kept a.number ≡ Some (Some x.at) → (z : LiteralAt) × (Has z old × ((z.at ≡ x.at) × (literal_of z ≡ literal_of x)))
  kept-is x a w = let k = keep a.symbol a.number a.section x.at a.listed a.is-literal a.is-number a.is-section w in (k.0, (k.1.0, (k.1.1.0, literal-is x a (literal_of k.0) k.1.1.1)))

  place-is : (x : LiteralAt) (a : LiteralFrom e x) → Place x a
  place-is x a = by (static-within object text statics e.object.sections kept a.number a.section x.at a.is-section (no-text x a) (placed-at x a))
    where
      by : Kept a.number kept x.at ((statics ≤ x.at) × (behind_static x.at a.section.size ≤ static_end statics e.object.sections kept)) → Place x a
      by (keeps w) = let k = kept-is x a w in same k.0 k.1.0 k.1.1.0 k.1.1.1
      by (gets r) = fresh r.0 r.1

  not-kept : (x : LiteralAt) (a : LiteralFrom e x) → statics ≤ x.at → slice_get kept a.number ≡ Some (Some x.at) → ⊥
  not-kept x a l w = absurd (let k = kept-is x a w in let b = below k.0 k.1.0 in let s = k.1.1.0 in omega arith)

  fresh-order : (x y : LiteralAt) (a : LiteralFrom e x) (b : LiteralFrom e y) → statics ≤ x.at → statics ≤ y.at → a.number < b.number → x.at ≡ y.at → ⊥
  fresh-order x y a b l k h s = by (static-behind-other object text statics e.object.sections kept a.number b.number a.section b.section x.at y.at h a.is-section b.is-section (no-text x a) (no-text y b) (placed-at x a) (placed-at y b))
    where
      inner : Kept b.number kept y.at (x.at < y.at) → ⊥
      inner (keeps w) = not-kept y b k w
      inner (gets r) = absurd (let z = s in omega arith)

      by : Kept a.number kept x.at (Kept b.number kept y.at (x.at < y.at)) → ⊥
      by (keeps w) = not-kept x a l w
      by (gets r) = inner r

  number-same : (x y : LiteralAt) (a : LiteralFrom e x) (b : LiteralFrom e y) → a.number ≡ b.number → literal_of x ≡ literal_of y
  number-same x y a b z =
      let c : a.section ≡ b.section = same-some a.section b.section (sym a.is-section ∙ (ap (slice_get e.object.sections) z ∙ b.is-section)) in
      let bytes : x.bytes ≡ y.bytes = a.is-bytes ∙ (ap (λ (d : Section). d.bytes) c ∙ sym b.is-bytes) in
      let home : x.«module» ≡ y.«module» = a.is-module ∙ sym b.is-module in
      λ i. record { «module» = home i; bytes = bytes i }

  fresh-both : (x y : LiteralAt) (a : LiteralFrom e x) (b : LiteralFrom e y) → statics ≤ x.at → statics ≤ y.at → x.at ≡ y.at → literal_of x ≡ literal_of y
  fresh-both x y a b l k s = by (nat_lt a.number b.number) refl (nat_lt b.number a.number) refl
    where
      by : (v : Bool) → nat_lt a.number b.number ≡ v → (w : Bool) → nat_lt b.number a.number ≡ w → literal_of x ≡ literal_of y
      by true u w z = absurd (fresh-order x y a b l k (lt-true a.number b.number u) s)
      by false u true z = absurd (fresh-order y x b a k l (lt-true b.number a.number z) (sym s))
      by false u false z = number-same x y a b (let p = lt-false a.number b.number u in let q = lt-false b.number a.number z in omega arith)

  both-new : (x y : LiteralAt) (a : LiteralFrom e x) (b : LiteralFrom e y) → x.at ≡ y.at → Place x a → Place y b → literal_of x ≡ literal_of y
  both-new x y a b s (same z h p q) (same w k r t) = sym q ∙ (one h.0 k.0 z w h.1 k.1 (p ∙ (s ∙ sym r)) ∙ t)
  both-new x y a b s (same z h p q) (fresh l k) = absurd (let c = below z h in let d = p in let f = s in omega arith)
  both-new x y a b s (fresh l k) (same w h p q) = absurd (let c = below w h in let d = p in let f = s in omega arith)
  both-new x y a b s (fresh l k) (fresh m n) = fresh-both x y a b l m s

  old-new : (x y : LiteralAt) (b : LiteralFrom e y) → Has x old → x.at ≡ y.at → Place y b → literal_of x ≡ literal_of y
  old-new x y b h s (same z k p q) = one h.0 k.0 x z h.1 k.1 (s ∙ sym p) ∙ q
  old-new x y b h s (fresh l k) = absurd (let c = below x h in let d = s in omega arith)

  pub literals-joined : AreOnePlaced (old ++ literals_of e)
  literals-joined m n x y g h s = by (has-split old (literals_of e) x (m, g)) (has-split old (literals_of e) y (n, h))
    where
      by : Has x old ⊎ Has x (literals_of e) → Has y old ⊎ Has y (literals_of e) → literal_of x ≡ literal_of y
      by (inl a) (inl b) = one a.0 b.0 x y a.1 b.1 s
      by (inl a) (inr b) = let l = literal-listed e y b in old-new x y l a s (place-is y l)
      by (inr a) (inl b) = let l = literal-listed e x a in sym (old-new y x l b (sym s) (place-is x l))
      by (inr a) (inr b) = let l = literal-listed e x a in let k = literal-listed e y b in both-new x y l k s (place-is x l) (place-is y k)

  pub literals-below : statics ≤ 0x08100000 → static_end statics e.object.sections kept ≤ 0x08100000 → (x : LiteralAt) → Has x (literals_of e) → x.at < static_top e
  literals-below u v x h =
      let a = literal-listed e x h in
      let m = reach-top static_reach e.object.sections e.places a.number a.section x.at a.is-section a.is-place in
      let r = subst (λ b. x.at < cond b 0 (min (behind_static x.at a.section.size) (2 ^ 32))) (sym (no-text x a)) (least x.at a.section.size (small a (place-is x a))) in
      omega arith
    where
      least : (at n : ℕ) → at < 2 ^ 32 → at < min (at + n / 4 * 4 + 4) (2 ^ 32)
      least at n l = both at (at + n / 4 * 4 + 4) (2 ^ 32) (omega arith) l
        where
          both : (e a b : ℕ) → e < a → e < b → e < min a b
          both e a b p q = grind (arith, nat_tests)

      small : (a : LiteralFrom e x) → Place x a → x.at < 2 ^ 32
      small a (same z k p q) = let b = below z k in let d = p in omega arith
      small a (fresh l k) = fits x.at a.section.size (static_end statics e.object.sections kept) k v
        where
          fits : (at n end : ℕ) → at + n / 4 * 4 + 4 ≤ end → end ≤ 0x08100000 → at < 2 ^ 32
          fits at n end p q = omega arith
