-- Where all modules fit, all that is placed is inside its area.
use Rattle.std.proofs.Common.{◌≡◌, ℕ, ◌+◌, ◌*◌, ◌/◌, ◌≤◌, ◌&&◌, ◌||◌, Bool, true, false, cond, List, [], ◌∷◌, ◌++◌, length, refl, sym, ap, ◌∙◌, Option, Some, None, arith, subst, true≢false}
use Rattle.std.proofs.lemmas.Bool.Decides.{nat_tests}
use Rattle.std.specs.Prelude.{nat_le, option_and_then, option_to_list}
use Rattle.std.specs.List.{list_all, slice_get}
use Rattle.sc_base.specs.declared.key.Key.{Key}
use Rattle.sc_object.specs.declared.object.FrameTable.{FrameTable}
use Rattle.sc_object.specs.declared.object.Section.{Section}
use Rattle.sc_object.specs.declared.object.Symbol.{Symbol}
use Rattle.sc_isa_image.specs.declared.image.Image.{Image}
use Rattle.sc_isa_image.specs.declared.text.Text.{Text}
use Rattle.sc_link.specs.declared.placed.Placed.{Placed}
use Rattle.sc_link.specs.declared.placed.LinkFault.{LinkFault}
use Rattle.sc_link.specs.declared.placed.LinkFault.TheVariants as fault
use Rattle.sc_link.specs.declared.placed.Area.TheVariants as area
use Rattle.sc_link.specs.Areas.{IsRefused, are_statics_inside, in_statics, in_text, inside_at, is_inside}
use Rattle.sc_link.specs.Entries.{each, is_object, text_at, text_by, text_of, texts_if, texts_in, texts_of}
use Rattle.sc_link.specs.Linked.{IsLinked}
use Rattle.sc_link.specs.Relocation.{words}
use Rattle.sc_link.specs.Symbols.{is_text, key_of}
use Rattle.sc_places.specs.Layout.{behind_static, places_from, static_end, text_end}
use Rattle.sc_places.proofs.Growing.{Kept, gets, keeps, static-within, text-within}
use Rattle.sc_image.specs.declared.module.Linking.{Linking}
use Rattle.sc_image.specs.Placing.{Fits, entry_at, placed_from, placed_modules, static_behind, statics_behind, text_behind, texts_behind}
use Rattle.sc_image.specs.Refused.{IsShort}
use Rattle.sc_image.proofs.Rooms.{static-grows-one, statics-grow, text-grows-one, texts-grow}

none-some : {A : Type 0} (r : Option A) (x : A) → r ≡ None → r ≡ Some x → ⊥
none-some {A = A} r x n s = absurd (let e : ◌≡◌ {A = Option A} None (Some x) = sym n ∙ s in cc)

same-some : {A : Type 0} (x y : A) → Some x ≡ Some y → x ≡ y
same-some x y h = cc

and-true : (a b : Bool) → a ≡ true → b ≡ true → a && b ≡ true
and-true true b h k = k
and-true false b h k = h

both-le : (a b c d : ℕ) → a ≤ b → c ≤ d → nat_le a b && nat_le c d ≡ true
both-le a b c d h k = grind (arith, nat_tests)

all-append : {A : Type 0} (p : A → Bool) (xs ys : List A) → list_all p xs ≡ true → list_all p ys ≡ true → list_all p (xs ++ ys) ≡ true
all-append p [] ys h k = k
all-append p (x ∷ xs) ys h k = by (p x) h (λ g. all-append p xs ys g k)
  where
    by : (b : Bool) → b && list_all p xs ≡ true → (list_all p xs ≡ true → list_all p (xs ++ ys) ≡ true) → b && list_all p (xs ++ ys) ≡ true
    by true g rest = rest g
    by false g rest = g

all-each : {A B : Type 0} (p : B → Bool) (f : A → Option B) (xs : List A) → ((x : A) (y : B) → f x ≡ Some y → p y ≡ true) → list_all p (each f xs) ≡ true
all-each p f [] h = refl
all-each {A = A} {B = B} p f (x ∷ xs) h = all-append p (option_to_list (f x)) (each f xs) (by (f x) refl) (all-each p f xs h)
  where
    by : (o : Option B) → f x ≡ o → list_all p (option_to_list o) ≡ true
    by None e = refl
    by (Some y) e = and-true (p y) true (h x y e) refl

all-every : {A : Type 0} (p : A → Bool) (xs : List A) → ((x : A) → p x ≡ true) → list_all p xs ≡ true
all-every p [] h = refl
all-every p (x ∷ xs) h = and-true (p x) (list_all p xs) (h x) (all-every p xs h)

-- the words of a text take no more room than its bytes
words-least : (bytes : List ℕ) → 4 * length (words bytes) ≤ length bytes
words-least [] = omega arith
words-least (a ∷ []) = omega arith
words-least (a ∷ b ∷ []) = omega arith
words-least (a ∷ b ∷ c ∷ []) = omega arith
words-least (a ∷ b ∷ c ∷ d ∷ rest) = let l = words-least rest in omega arith

-- where a text comes from
record From (e : Placed) (t : Text) : Type 0 where
  number : ℕ
  section : Section
  is-section : slice_get e.object.sections number ≡ Some section
  is-place : slice_get e.places number ≡ Some t.at.start
  is-text : is_text section.kind ≡ true
  is-words : t.words ≡ words section.bytes

text-from : (e : Placed) (f : FrameTable) (t : Text) → text_of e f ≡ Some t → From e t
text-from e f t h = symbol (slice_get e.object.symbols f.symbol) h
  where
    last : (k : ℕ) (c : Section) (at : ℕ) (key : Option Key) → slice_get e.object.sections k ≡ Some c → slice_get e.places k ≡ Some at → (b : Bool) → is_text c.kind ≡ b → text_at e f (Some c) (Some at) key ≡ Some t → From e t
    last k c at None y z b w g = absurd (cc)
    last k c at (Some key) y z true w g = made (sym (ap (λ q. cond q (Some (record { at = record { fun = key; «module» = e.home; start = at; frame = f }; words = words c.bytes })) None) w) ∙ g)
      where
        made : ◌≡◌ {A = Option Text} (Some (record { at = record { fun = key; «module» = e.home; start = at; frame = f }; words = words c.bytes })) (Some t) → From e t
        made q =
            let s : ◌≡◌ {A = Text} (record { at = record { fun = key; «module» = e.home; start = at; frame = f }; words = words c.bytes }) t = same-some _ t q in
            record { number = k; section = c; is-section = y; is-place = z ∙ ap (λ (v : Text). Some v.at.start) s; is-text = w; is-words = ap (λ (v : Text). v.words) (sym s) }
    last k c at (Some key) y z false w g = absurd (none-some _ t (ap (λ q. cond q (Some (record { at = record { fun = key; «module» = e.home; start = at; frame = f }; words = words c.bytes })) None) w) g)

    place : (s : Symbol) (k : ℕ) (c : Section) → slice_get e.object.sections k ≡ Some c → (o : Option ℕ) → slice_get e.places k ≡ o → text_at e f (Some c) o (key_of e.home s) ≡ Some t → From e t
    place s k c y None z g = absurd (cc)
    place s k c y (Some at) z g = last k c at (key_of e.home s) y z (is_text c.kind) refl g

    section : (s : Symbol) (k : ℕ) → (o : Option Section) → slice_get e.object.sections k ≡ o → text_at e f o (slice_get e.places k) (key_of e.home s) ≡ Some t → From e t
    section s k None y g = absurd (cc)
    section s k (Some c) y g = place s k c y (slice_get e.places k) refl g

    number : (s : Symbol) → (o : Option ℕ) → text_at e f (option_and_then (slice_get e.object.sections) o) (option_and_then (slice_get e.places) o) (key_of e.home s) ≡ Some t → From e t
    number s None g = absurd (cc)
    number s (Some k) g = section s k (slice_get e.object.sections k) refl g

    symbol : (o : Option Symbol) → option_and_then (text_by e f) o ≡ Some t → From e t
    symbol None g = absurd (cc)
    symbol (Some s) g = number s s.section g

-- an entry that is placed from two addresses on
module _ (e : Placed) (object : Bool) (text statics : ℕ) (places : e.places ≡ places_from object text statics e.object.sections []) where
  place-of : (n : ℕ) (at : ℕ) → slice_get e.places n ≡ Some at → slice_get (places_from object text statics e.object.sections []) n ≡ Some at
  place-of n at h = ap (λ ps. slice_get ps n) (sym places) ∙ h

  object-inside : 0x08000000 ≤ statics → static_end statics e.object.sections [] ≤ 0x08100000 → (s : Symbol) → is_inside e s ≡ true
  object-inside low high s = number s.section
    where
      bounds : (at size end : ℕ) → statics ≤ at → at + size / 4 * 4 + 4 ≤ end → end ≤ 0x08100000 → in_statics at size ≡ true
      bounds at size end a b c = both-le 0x08000000 at (at + size) 0x08100000 (omega arith) (omega arith)

      fits : (n : ℕ) (c : Section) (at : ℕ) → Kept n [] at ((statics ≤ at) × (behind_static at c.size ≤ static_end statics e.object.sections [])) → in_statics at c.size ≡ true
      fits n c at (keeps g) = absurd (none-some (slice_get [] n) (Some at) refl g)
      fits n c at (gets r) = bounds at c.size (static_end statics e.object.sections []) r.0 r.1 high

      last : (n : ℕ) (c : Section) (at : ℕ) → slice_get e.object.sections n ≡ Some c → slice_get e.places n ≡ Some at → (b : Bool) → is_text c.kind ≡ b → is_text c.kind || in_statics at c.size ≡ true
      last n c at x y true w = ap (λ b. b || in_statics at c.size) w
      last n c at x y false w = ap (λ b. b || in_statics at c.size) w ∙ fits n c at (static-within object text statics e.object.sections [] n c at x w (place-of n at y))

      place : (n : ℕ) (c : Section) → slice_get e.object.sections n ≡ Some c → (o : Option ℕ) → slice_get e.places n ≡ o → inside_at (Some c) o ≡ true
      place n c x None y = refl
      place n c x (Some at) y = last n c at x y (is_text c.kind) refl

      section : (n : ℕ) (o : Option Section) → slice_get e.object.sections n ≡ o → inside_at o (slice_get e.places n) ≡ true
      section n None x = refl
      section n (Some c) x = place n c x (slice_get e.places n) refl

      number : (o : Option ℕ) → inside_at (option_and_then (slice_get e.object.sections) o) (option_and_then (slice_get e.places) o) ≡ true
      number None = refl
      number (Some n) = section n (slice_get e.object.sections n) refl

text-inside : (e : Placed) (text statics : ℕ) → e.places ≡ places_from true text statics e.object.sections [] → 0x00100000 ≤ text → text_end true text e.object.sections ≤ 0x04100000 → (f : FrameTable) (t : Text) → text_of e f ≡ Some t → in_text t ≡ true
text-inside e text statics places low high f t h =
    let a = text-from e f t h in
    let w = text-within text statics e.object.sections [] a.number a.section t.at.start a.is-section a.is-text (ap (λ ps. slice_get ps a.number) (sym places) ∙ a.is-place) in
    bounds t.at.start (length t.words) (length a.section.bytes) (text_end true text e.object.sections) w.0 w.1 (subst (λ ws. 4 * length ws ≤ length a.section.bytes) (sym a.is-words) (words-least a.section.bytes)) high
  where
    bounds : (at len bytes end : ℕ) → text ≤ at → at + (bytes + 3) / 4 * 4 ≤ end → 4 * len ≤ bytes → end ≤ 0x04100000 → nat_le 0x00100000 at && nat_le (at + 4 * len) 0x04100000 ≡ true
    bounds at len bytes end a b c d = both-le 0x00100000 at (at + 4 * len) 0x04100000 (omega arith) (omega arith)

entry-inside : (e : Placed) (object : Bool) (text statics : ℕ) → is_object e.form ≡ object → e.places ≡ places_from object text statics e.object.sections [] → 0x00100000 ≤ text → text_end object text e.object.sections ≤ 0x04100000 → list_all in_text (texts_if e) ≡ true
entry-inside e true text statics form places low high = ap (λ b. list_all in_text (cond b (texts_of e) [])) form ∙ all-each in_text (text_of e) e.object.frames (text-inside e text statics places low high)
entry-inside e false text statics form places low high = ap (λ b. list_all in_text (cond b (texts_of e) [])) form

texts-inside : (text statics : ℕ) (ms : List Linking) → 0x00100000 ≤ text → texts_behind text ms ≤ 0x04100000 → list_all in_text (texts_in (placed_from text statics ms)) ≡ true
texts-inside text statics [] low high = refl
texts-inside text statics (m ∷ ms) low high =
    let a = text-grows-one text m in
    let g = texts-grow (text_behind text m) ms in
    let l : 0x00100000 ≤ text_behind text m = omega arith in
    let k : text_behind text m ≤ 0x04100000 = omega arith in
    all-append in_text (texts_if (entry_at text statics m)) (texts_in (placed_from (text_behind text m) (static_behind statics m) ms)) (entry-inside (entry_at text statics m) (is_object m.form) text statics refl refl low k) (texts-inside (text_behind text m) (static_behind statics m) ms l high)

statics-inside : (text statics : ℕ) (ms : List Linking) → 0x08000000 ≤ statics → statics_behind statics ms ≤ 0x08100000 → are_statics_inside (placed_from text statics ms) ≡ true
statics-inside text statics [] low high = refl
statics-inside text statics (m ∷ ms) low high =
    let a = static-grows-one statics m in
    let g = statics-grow (static_behind statics m) ms in
    let l : 0x08000000 ≤ static_behind statics m = omega arith in
    let k : static_behind statics m ≤ 0x08100000 = omega arith in
    and-true (list_all (is_inside (entry_at text statics m)) m.object.symbols) (are_statics_inside (placed_from (text_behind text m) (static_behind statics m) ms)) (all-every (is_inside (entry_at text statics m)) m.object.symbols (object-inside (entry_at text statics m) (is_object m.form) text statics refl low k)) (statics-inside (text_behind text m) (static_behind statics m) ms l high)

-- where all modules fit, linking refuses them for want of memory alone
pub refused_short : (ms : List Linking) (funs : List Key) (es : List Placed) (f : LinkFault) → es ≡ placed_modules ms → Fits ms funs → IsRefused es funs f → IsShort ms funs f
refused_short ms funs es (fault.Space area.Stubs) same fits r = r
refused_short ms funs es (fault.Space area.Text) same fits r = absurd (true≢false (sym (texts-inside 0x00100000 0x08000000 ms (omega arith) fits.texts) ∙ (ap (λ (ds : List Placed). list_all in_text (texts_in ds)) (sym same) ∙ r)))
refused_short ms funs es (fault.Space area.Static) same fits r = absurd (true≢false (sym (statics-inside 0x00100000 0x08000000 ms (omega arith) fits.statics) ∙ (ap are_statics_inside (sym same) ∙ r)))
refused_short ms funs es fault.NoMemory same fits r = r

pub linked_as : (ms : List Linking) (funs : List Key) (es : List Placed) (i : Image) → es ≡ placed_modules ms → IsLinked es funs i → IsLinked (placed_modules ms) funs i
linked_as ms funs es i same l = subst (λ ds. IsLinked ds funs i) same l
