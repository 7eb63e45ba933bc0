-- Each word of a text that is placed, with its relocations, is one of an instruction.
use Rattle.std.proofs.Common.{◌≡◌, ◌<◌, ◌≤◌, ◌⊎◌, inl, inr, ℕ, zero, suc, ◌+◌, ◌-◌, ◌*◌, ◌/◌, ◌%◌, ◌^◌, ◌==◌, Bool, true, false, ◌&&◌, if◌then◌else◌, nat_lt, nat_le, List, [], ◌∷◌, ◌++◌, length, map, find, refl, sym, ap, subst, ◌∙◌, pos, Option, Some, None, arith, append_assoc, length-append}
use Rattle.std.proofs.lemmas.Bool.Decides.{nat_tests}
use Rattle.std.proofs.lemmas.Option.{slice_get_within}
use Rattle.std.proofs.lemmas.List.{length-map}
use Rattle.std.specs.Prelude.{flat_map, slice_get, option_and_then, option_to_list}
use Rattle.std.specs.Option.{option_map}
use Rattle.std.specs.List.{list_all}
use Rattle.sc_base.specs.declared.key.Key.{Key}
use Rattle.sc_core.specs.declared.module.Fun.{Fun}
use Rattle.sc_core.specs.declared.module.StaticObj.{StaticObj}
use Rattle.sc_object.specs.declared.object.FrameTable.{FrameTable}
use Rattle.sc_object.specs.declared.object.Object.{Object}
use Rattle.sc_object.specs.declared.object.Reloc.{Reloc}
use Rattle.sc_object.specs.declared.object.Section.{Section}
use Rattle.sc_object.specs.declared.object.SectionKind.TheVariants.{Data, Rodata, Bss}
use Rattle.sc_object.specs.Words as bytes
use Rattle.sc_isa_image.specs.declared.text.Text.{Text}
use Rattle.sc_isa_image.specs.Texts.{end_of, holds, text_with, text_word, word_in_found}
use Rattle.sc_link.specs.declared.placed.Placed.{Placed}
use Rattle.sc_link.specs.Entries.{is_object, text_at, text_by, text_of, texts_of, texts_if, texts_in, Fix, fix_at, fixes_at, fixes_if, fixes_in, fixes_of, has_second, jumps_in, spot_at}
use Rattle.sc_link.specs.Linked.{base_value, fixed_all, fixed_by, text_word_in, value_in}
use Rattle.sc_link.specs.Linked as linked
use Rattle.sc_link.specs.Relocation.{relocated, target_of, words}
use Rattle.sc_link.specs.Symbols.{is_text, key_of, section_of, place_of}
use Rattle.sc_places.specs.Layout.{behind_text, first_kept, places_from, rest_kept, static_after, text_after, text_end}
use Rattle.sc_gen_code.specs.declared.symbolic.Symbolic.{Symbolic}
use Rattle.sc_gen_code.specs.declared.symbolic.Symbolic.TheVariants.{Plain, Upper, Lower, Call}
use Rattle.sc_gen_code.specs.declared.symbolic.Access.TheVariants as access
use Rattle.sc_gen_code.specs.declared.symbolic.Target.{Target}
use Rattle.sc_gen_code.specs.Code.{Code}
use Rattle.sc_gen_expr.specs.Words.{fitted, relocation, symbolic_word}
use Rattle.sc_gen.specs.declared.definitions.Definition.{Definition}
use Rattle.sc_gen.specs.declared.definitions.Fixup.{Fixup}
use Rattle.sc_gen.specs.Definitions.{definitions, fixup, function_definition, literal_definitions, object_definition, text_fixups, word_fixups}
use Rattle.sc_gen.specs.Objects.{reloc_of, relocs_from, targets}
use Rattle.sc_gen.specs.Sections.{function_section, is_zero, literal_sections, object_section, sections, text_bytes}
use Rattle.sc_placed_laws.specs.Sound.{Fits, Follows, IsSoundCode, Links}
use Rattle.sc_placed_laws.specs.Texts.{AreMade, HasText, IsMade, IsPlaced, Stand}
use Rattle.sc_placed_laws.proofs.Words.{Class, call_kept, class_first, class_text, link_kept, lower_kept, symbolic_small, upper_kept, word_back}

-- ---- lists

abbrev pub Each : {A : Type 0} → (A → Type 0) → List A → Type 0
Each P [] = Unit {0}
Each P (x ∷ xs) = P x × Each P xs

pub each_app : {A : Type 0} (P : A → Type 0) (xs ys : List A) → Each P xs → Each P ys → Each P (xs ++ ys)
each_app P [] ys p q = q
each_app P (x ∷ xs) ys p q = (p.0, each_app P xs ys p.1 q)

each_map : {A B : Type 0} (P : B → Type 0) (f : A → B) (xs : List A) → Each (λ x. P (f x)) xs → Each P (map f xs)
each_map P f [] p = tt
each_map P f (x ∷ xs) p = (p.0, each_map P f xs p.1)

each_flat : {A B : Type 0} (P : B → Type 0) (f : A → List B) (xs : List A) → Each (λ x. Each P (f x)) xs → Each P (flat_map f xs)
each_flat P f [] p = tt
each_flat P f (x ∷ xs) p = each_app P (f x) (flat_map f xs) p.0 (each_flat P f xs p.1)

every : {A : Type 0} (P : A → Type 0) (xs : List A) → ((x : A) → P x) → Each P xs
every P [] f = tt
every P (x ∷ xs) f = (f x, every P xs f)

option_each : {A : Type 0} (P : A → Type 0) (o : Option A) → ((x : A) → o ≡ Some x → P x) → Each P (option_to_list o)
option_each P None f = tt
option_each P (Some x) f = (f x refl, tt)

pub same_some : {A : Type 0} (x y : A) → Some x ≡ Some y → x ≡ y
same_some x y e = cc

pub none_some : {A : Type 0} (x : A) → None ≡ Some x → ⊥
none_some x e = cc

pub then_some : {A B : Type 0} (g : A → Option B) (o : Option A) (y : B) → option_and_then g o ≡ Some y → (x : A) × ((o ≡ Some x) × (g x ≡ Some y))
then_some g None y e = absurd (none_some y e)
then_some g (Some x) y e = (x, (refl, e))

map_some : {A B : Type 0} (g : A → B) (o : Option A) (y : B) → option_map g o ≡ Some y → (x : A) × ((o ≡ Some x) × (g x ≡ y))
map_some g None y e = absurd (none_some y e)
map_some g (Some x) y e = (x, (refl, same_some (g x) y e))

pub get_mapped : {A B : Type 0} (g : A → B) (xs : List A) (n : ℕ) (y : B) → slice_get (map g xs) n ≡ Some y → (x : A) × ((slice_get xs n ≡ Some x) × (g x ≡ y))
get_mapped g [] n y e = absurd (none_some y e)
get_mapped g (x ∷ xs) zero y e = (x, (refl, same_some (g x) y e))
get_mapped g (x ∷ xs) (suc n) y e = get_mapped g xs n y e

pub get_behind : {A : Type 0} (xs ys : List A) (y : A) (n : ℕ) → length xs ≡ n → slice_get (xs ++ y ∷ ys) n ≡ Some y
get_behind [] ys y zero e = refl
get_behind [] ys y (suc n) e = absurd (cc)
get_behind (x ∷ xs) ys y zero e = absurd (cc)
get_behind (x ∷ xs) ys y (suc n) e = get_behind xs ys y n (omega (arith, e))

-- ---- relocations that stand elsewhere, and such as keep what holds of a word

pub true_false : true ≡ false → ⊥
true_false e = cc

is_number : (m n : ℕ) → (m == n) ≡ true → m ≡ n
is_number m n h = grind (arith, nat_tests)

at_most : (m n : ℕ) → nat_le m n ≡ true → m ≤ n
at_most m n h = grind (arith, nat_tests)

no_number : (m n : ℕ) → (m ≡ n → ⊥) → (b : Bool) → (m == n) ≡ b → b ≡ false
no_number m n h true e = absurd (h (is_number m n e))
no_number m n h false e = refl

abbrev pub Avoids : ℕ → Fix → Type 0
Avoids pc f = (f.at == pc) ≡ false

avoids : (pc : ℕ) (f : Fix) → (f.at ≡ pc → ⊥) → Avoids pc f
avoids pc f h = no_number f.at pc h (f.at == pc) refl

fixed_both : (value : Key → Option ℕ) (xs ys : List Fix) (pc w : ℕ) → fixed_all value (xs ++ ys) pc w ≡ fixed_all value ys pc (fixed_all value xs pc w)
fixed_both value [] ys pc w = refl
fixed_both value (x ∷ xs) ys pc w = fixed_both value xs ys pc (if x.at == pc then fixed_by value x w else w)

avoided : (value : Key → Option ℕ) (fs : List Fix) (pc w : ℕ) → Each (Avoids pc) fs → fixed_all value fs pc w ≡ w
avoided value [] pc w h = refl
avoided value (f ∷ fs) pc w h = ap (λ (b : Bool). fixed_all value fs pc (if b then fixed_by value f w else w)) h.0 ∙ avoided value fs pc w h.1

abbrev Keeps : (ℕ → Type 0) → (Key → Option ℕ) → ℕ → Fix → Type 0
Keeps C value pc f = (f.at == pc) ≡ true → (w : ℕ) → C w → C (fixed_by value f w)

keeps : (C : ℕ → Type 0) (value : Key → Option ℕ) (pc : ℕ) (f : Fix) → (f.at ≡ pc → ⊥) → Keeps C value pc f
keeps C value pc f h = λ e w c. absurd (h (is_number f.at pc e))

kept_by : (C : ℕ → Type 0) (w v : ℕ) (b : Bool) → (b ≡ true → C v) → C w → C (if b then v else w)
kept_by C w v true f c = f refl
kept_by C w v false f c = c

kept : (C : ℕ → Type 0) (value : Key → Option ℕ) (fs : List Fix) (pc w : ℕ) → Each (Keeps C value pc) fs → C w → C (fixed_all value fs pc w)
kept C value [] pc w h c = c
kept C value (f ∷ fs) pc w h c =
    kept C value fs pc (if f.at == pc then fixed_by value f w else w) h.1 (kept_by C w (fixed_by value f w) (f.at == pc) (λ e. h.0 e w c) c)

-- ---- the words that the relocations of one text change

-- something holds of each change of a word of a code that stands at a place
abbrev Meets : (Fix → Type 0) → ℕ → Code → Type 0
Meets Q p code =
    (m : ℕ) (x : Symbolic) (r : ℕ × Target) → slice_get code m ≡ Some x → relocation x ≡ Some r →
    ((f : Fix) → f.at ≡ p + 4 * m → f.kind ≡ r.0 → f.second ≡ false → Q f)
    × ((f : Fix) → f.at ≡ p + 4 * m + 4 → f.kind ≡ r.0 → r.0 ≡ 19 → f.second ≡ true → m + 1 < length code → Q f)

abbrev MeetAll : (Fun → Code) → (Fix → Type 0) → ℕ → List Fun → Type 0
MeetAll code Q text [] = Unit {0}
MeetAll code Q text (f ∷ fs) = Meets Q text (code f) × MeetAll code Q (text + 4 * length (code f)) fs

module _ (Q : Fix → Type 0) (e : Placed) where
  abbrev Found : Reloc → Type 0
  Found r = Each Q (fixes_of e r)

  second_fix : (r : Reloc) (p L m q : ℕ) (b : Bool) → has_second r (4 * L) ≡ b → r.at ≡ 4 * m → q ≡ p + 4 * m → p + 4 * L ≤ 0x04100000 →
      ((f : Fix) → f.at ≡ p + 4 * m + 4 → f.kind ≡ r.kind → r.kind ≡ 19 → f.second ≡ true → m + 1 < L → Q f) →
      Each Q (if b then fix_at e r q true ((q + 4) % 2 ^ 32) ∷ [] else [])
  second_fix r p L m q false h a s l g = tt
  second_fix r p L m q true h a s l g =
      let k : r.kind ≡ 19 = is_number r.kind 19 (front (r.kind == 19) (nat_le (r.at + 8) (4 * L)) h) in
      let n : r.at + 8 ≤ 4 * L = at_most (r.at + 8) (4 * L) (back (r.kind == 19) (nat_le (r.at + 8) (4 * L)) h) in
      (g (fix_at e r q true ((q + 4) % 2 ^ 32)) (omega (arith, n, a, s, l)) refl k refl (omega (arith, n, a)), tt)
    where
      front : (c d : Bool) → (c && d) ≡ true → c ≡ true
      front true d h = refl
      front false d h = cc

      back : (c d : Bool) → (c && d) ≡ true → d ≡ true
      back true d h = h
      back false d h = cc

  spot_found : (r : Reloc) (p L m : ℕ) (b : Bool) → r.at ≡ 4 * m → m < L → p + 4 * L ≤ 0x04100000 →
      ((f : Fix) → f.at ≡ p + 4 * m → f.kind ≡ r.kind → f.second ≡ false → Q f) →
      ((f : Fix) → f.at ≡ p + 4 * m + 4 → f.kind ≡ r.kind → r.kind ≡ 19 → f.second ≡ true → m + 1 < L → Q f) →
      Each Q (fixes_at e r (if b then Some ((p + r.at) % 2 ^ 32, 4 * L) else None))
  spot_found r p L m false a h l f g = tt
  spot_found r p L m true a h l f g =
      let q = (p + r.at) % 2 ^ 32 in
      let s : q ≡ p + 4 * m = omega (arith, a, h, l) in
      (f (fix_at e r q false q) s refl refl, second_fix r p L m q (has_second r (4 * L)) refl a s l g)

  word_found : (r : Reloc) (sec : Section) (p L m : ℕ) → slice_get e.object.sections r.section ≡ Some sec → slice_get e.places r.section ≡ Some p → length sec.bytes ≡ 4 * L →
      r.at ≡ 4 * m → m < L → p + 4 * L ≤ 0x04100000 →
      ((f : Fix) → f.at ≡ p + 4 * m → f.kind ≡ r.kind → f.second ≡ false → Q f) →
      ((f : Fix) → f.at ≡ p + 4 * m + 4 → f.kind ≡ r.kind → r.kind ≡ 19 → f.second ≡ true → m + 1 < L → Q f) →
      Found r
  word_found r sec p L m es ep len a h l f g =
      subst (λ (o : Option Section). Each Q (fixes_at e r (spot_at r o (slice_get e.places r.section)))) (sym es)
      (subst (λ (o : Option ℕ). Each Q (fixes_at e r (spot_at r (Some sec) o))) (sym ep)
      (subst (λ (n : ℕ). Each Q (fixes_at e r (if is_text sec.kind && nat_le (r.at + 4) n then Some ((p + r.at) % 2 ^ 32, n) else None))) (sym len)
      (spot_found r p L m (is_text sec.kind && nat_le (r.at + 4) (4 * L)) a h l f g)))

  module _ (known : List Target) (n p : ℕ) (sec : Section) (code : Code) (es : slice_get e.object.sections (fitted n) ≡ Some sec) (ep : slice_get e.places (fitted n) ≡ Some p)
      (len : length sec.bytes ≡ 4 * length code) (fits : p + 4 * length code ≤ 0x04100000) (meets : Meets Q p code) where
    abbrev Fixed : Fixup → Type 0
    Fixed x = Found (reloc_of known n x)

    one_found : (m : ℕ) (x : Symbolic) (o : Option (ℕ × Target)) → slice_get code m ≡ Some x → relocation x ≡ o → Each Fixed (word_fixups (4 * m) o)
    one_found m x None g q = tt
    one_found m x (Some r) g q =
        let l : m < length code = slice_get_within code m x g in
        let h = meets m x r g q in
        (word_found (reloc_of known n (fixup (4 * m) r.0 r.1 (pos 0))) sec p (length code) m es ep len (omega (arith, l, fits)) l fits h.0 h.1, tt)

    all_found : (m : ℕ) (front xs : Code) → front ++ xs ≡ code → length front ≡ m → Each Fixed (text_fixups m xs)
    all_found m front [] is c = tt
    all_found m front (x ∷ xs) is c =
        let g : slice_get code m ≡ Some x = ap (λ (z : Code). slice_get z m) (sym is) ∙ get_behind front xs x m c in
        each_app Fixed (word_fixups (4 * m) (relocation x)) (text_fixups (m + 1) xs) (one_found m x (relocation x) g refl)
        (all_found (m + 1) (front ++ x ∷ []) xs (append_assoc front (x ∷ []) xs ∙ is) (omega (arith, length-append front (x ∷ []), c)))

  -- the sections and places of functions, from number n and an address on
  abbrev At : (Fun → Code) → ℕ → ℕ → List Fun → Type 0
  At code n text [] = Unit {0}
  At code n text (f ∷ fs) =
      ((slice_get e.object.sections n ≡ Some (function_section code f)) × (slice_get e.places n ≡ Some text)) × At code (n + 1) (text + 4 * length (code f)) fs

-- the address behind texts
abbrev pub total : (Fun → Code) → ℕ → List Fun → ℕ
total code text [] = text
total code text (f ∷ fs) = total code (text + 4 * length (code f)) fs

-- where the text of one begins
abbrev pub start : (Fun → Code) → ℕ → List Fun → ℕ → ℕ
start code text [] k = text
start code text (f ∷ fs) zero = text
start code text (f ∷ fs) (suc k) = start code (text + 4 * length (code f)) fs k

total_from : (code : Fun → Code) (text : ℕ) (fs : List Fun) → text ≤ total code text fs
total_from code text [] = omega arith
total_from code text (f ∷ fs) = let h = total_from code (text + 4 * length (code f)) fs in omega (arith, h)

pub total_many : (code : Fun → Code) (text : ℕ) (fs : List Fun) → ((f : Fun) → 1 ≤ length (code f)) → text + length fs ≤ total code text fs
total_many code text [] some = omega arith
total_many code text (f ∷ fs) some = let h = total_many code (text + 4 * length (code f)) fs some in let s = some f in omega (arith, h, s)

start_from : (code : Fun → Code) (text : ℕ) (fs : List Fun) (k : ℕ) → text ≤ start code text fs k
start_from code text [] k = omega arith
start_from code text (f ∷ fs) zero = omega arith
start_from code text (f ∷ fs) (suc k) = let h = start_from code (text + 4 * length (code f)) fs k in omega (arith, h)

start_inside : (code : Fun → Code) (text : ℕ) (fs : List Fun) (k : ℕ) (f : Fun) → slice_get fs k ≡ Some f → start code text fs k + 4 * length (code f) ≤ total code text fs
start_inside code text [] k f h = absurd (none_some f h)
start_inside code text (g ∷ fs) zero f h =
    let s : length (code g) ≡ length (code f) = ap (λ (z : Fun). length (code z)) (same_some g f h) in
    let t = total_from code (text + 4 * length (code g)) fs in
    omega (arith, s, t)
start_inside code text (g ∷ fs) (suc k) f h = start_inside code (text + 4 * length (code g)) fs k f h

words-length : (ns : List ℕ) → length (flat_map bytes.word ns) ≡ 4 * length ns
words-length [] = omega arith
words-length (n ∷ ns) = let h = words-length ns in omega (arith, length-append (bytes.word n) (flat_map bytes.word ns), h)

bytes-length : (code : Code) → length (text_bytes code) ≡ 4 * length code
bytes-length code = words-length (map symbolic_word code) ∙ ap (λ (n : ℕ). 4 * n) (length-map code symbolic_word)

-- ---- the relocations of an object

module _ (Q : Fix → Type 0) (e : Placed) (code : Fun → Code) (known : List Target) (home : List ℕ) where
  abbrev AllFound : List Reloc → Type 0
  AllFound rs = Each (Found Q e) rs

  functions_found : (fs : List Fun) (n text : ℕ) (rest : List Definition) → At Q e code n text fs → n + length fs ≤ 4294967295 → total code text fs ≤ 0x04100000 →
      MeetAll code Q text fs → AllFound (relocs_from known (n + length fs) rest) → AllFound (relocs_from known n (map (function_definition code home) fs ++ rest))
  functions_found [] n text rest at few fits meets more = let s : n + 0 ≡ n = omega arith in subst (λ (k : ℕ). AllFound (relocs_from known k rest)) s more
  functions_found (f ∷ fs) n text rest at few fits meets more =
      let same : fitted n ≡ n = omega (arith, few) in
      let t = total_from code (text + 4 * length (code f)) fs in
      let own = all_found Q e known n text (function_section code f) (code f)
      (ap (λ (k : ℕ). slice_get e.object.sections k) same ∙ at.0.0) (ap (λ (k : ℕ). slice_get e.places k) same ∙ at.0.1)
      (bytes-length (code f)) (omega (arith, t, fits)) meets.0 0 [] (code f) refl refl in
      let s : n + length (f ∷ fs) ≡ (n + 1) + length fs = omega arith in
      each_app (Found Q e) (map (reloc_of known n) (text_fixups 0 (code f))) (relocs_from known (n + 1) (map (function_definition code home) fs ++ rest))
      (each_map (Found Q e) (reloc_of known n) (text_fixups 0 (code f)) own)
      (functions_found fs (n + 1) (text + 4 * length (code f)) rest at.1 (omega (arith, few)) fits meets.1 (subst (λ (k : ℕ). AllFound (relocs_from known k rest)) s more))

  no_spot : (r : Reloc) (o : Option Section) (p : Option ℕ) → ((sec : Section) → o ≡ Some sec → is_text sec.kind ≡ false) → spot_at r o p ≡ None
  no_spot r None p h = refl
  no_spot r (Some sec) None h = refl
  no_spot r (Some sec) (Some at) h = ap (λ (b : Bool). if b && nat_le (r.at + 4) (length sec.bytes) then Some ((at + r.at) % 2 ^ 32, length sec.bytes) else None) (h sec refl)

  none_found : (r : Reloc) → ((sec : Section) → slice_get e.object.sections r.section ≡ Some sec → is_text sec.kind ≡ false) → Found Q e r
  none_found r h = subst (λ (o : Option (ℕ × ℕ)). Each Q (fixes_at e r o)) (sym (no_spot r (slice_get e.object.sections r.section) (slice_get e.places r.section) h)) tt

  data_found : (count : ℕ) → count ≤ 4294967295 → ((k : ℕ) (sec : Section) → count ≤ k → slice_get e.object.sections k ≡ Some sec → is_text sec.kind ≡ false) →
      (ds : List Definition) (n : ℕ) → count ≤ n → AllFound (relocs_from known n ds)
  data_found count few others [] n h = tt
  data_found count few others (d ∷ ds) n h =
      each_app (Found Q e) (map (reloc_of known n) d.fixups) (relocs_from known (n + 1) ds)
      (each_map (Found Q e) (reloc_of known n) d.fixups (every (λ (x : Fixup). Found Q e (reloc_of known n x)) d.fixups (λ x. none_found (reloc_of known n x) (λ sec g. others (fitted n) sec (omega (arith, few, h)) g))))
      (data_found count few others ds (n + 1) (omega (arith, h)))

-- ---- which sections are texts

abbrev pub NoText : Section → Type 0
NoText s = is_text s.kind ≡ false

kinds_by : (b c : Bool) → is_text (if b then Rodata else if c then Bss else Data) ≡ false
kinds_by true c = refl
kinds_by false true = refl
kinds_by false false = refl

object_no_text : (x : StaticObj) → NoText (object_section x)
object_no_text x = kinds_by x.constant (list_all is_zero x.init)

pub objects_no_text : (xs : List StaticObj) → Each NoText (map object_section xs)
objects_no_text [] = tt
objects_no_text (x ∷ xs) = (object_no_text x, objects_no_text xs)

pub literals_no_text : (n : ℕ) (ts : List (List ℕ)) → Each NoText (literal_sections n ts)
literals_no_text n [] = tt
literals_no_text n (t ∷ ts) = (refl, literals_no_text (n + 1) ts)

each_at : {A : Type 0} (P : A → Type 0) (xs : List A) (k : ℕ) (x : A) → Each P xs → slice_get xs k ≡ Some x → P x
each_at P [] k x p e = absurd (none_some x e)
each_at P (y ∷ xs) zero x p e = subst P (same_some y x e) p.0
each_at P (y ∷ xs) (suc k) x p e = each_at P xs k x p.1 e

-- a text is one of a function
pub text_index : (code : Fun → Code) (fs : List Fun) (more : List Section) (k : ℕ) (sec : Section) → Each NoText more → slice_get (map (function_section code) fs ++ more) k ≡ Some sec → is_text sec.kind ≡ true →
    (f : Fun) × ((slice_get fs k ≡ Some f) × (function_section code f ≡ sec))
text_index code [] more k sec bare e t = absurd (true_false (sym t ∙ each_at NoText more k sec bare e))
text_index code (f ∷ fs) more zero sec bare e t = (f, (refl, same_some (function_section code f) sec e))
text_index code (f ∷ fs) more (suc k) sec bare e t = text_index code fs more k sec bare e t

-- behind the functions there is none
text_before : (code : Fun → Code) (fs : List Fun) (more : List Section) (k : ℕ) (sec : Section) → Each NoText more → length fs ≤ k → slice_get (map (function_section code) fs ++ more) k ≡ Some sec → is_text sec.kind ≡ false
text_before code [] more k sec bare l e = each_at NoText more k sec bare e
text_before code (f ∷ fs) more zero sec bare l e = absurd (omega (arith, l))
text_before code (f ∷ fs) more (suc k) sec bare l e = text_before code fs more k sec bare (omega (arith, l)) e

after_text : (text L : ℕ) → behind_text text (4 * L) ≡ text + 4 * L
after_text text L = omega arith

no_text_end : (ss : List Section) (text : ℕ) → Each NoText ss → text_end true text ss ≡ text
no_text_end [] text bare = refl
no_text_end (s ∷ ss) text bare = ap (λ (b : Bool). text_end true (if b && true then behind_text text (length s.bytes) else text) ss) bare.0 ∙ no_text_end ss text bare.1

pub end_total : (code : Fun → Code) (fs : List Fun) (more : List Section) (text : ℕ) → Each NoText more → text_end true text (map (function_section code) fs ++ more) ≡ total code text fs
end_total code [] more text bare = no_text_end more text bare
end_total code (f ∷ fs) more text bare =
    ap (λ (n : ℕ). text_end true (behind_text text n) (map (function_section code) fs ++ more)) (bytes-length (code f))
    ∙ ap (λ (n : ℕ). text_end true n (map (function_section code) fs ++ more)) (after_text text (length (code f)))
    ∙ end_total code fs more (text + 4 * length (code f)) bare

pub text_grows : (b : Bool) (ss : List Section) (text : ℕ) → text ≤ text_end b text ss
text_grows b [] text = omega arith
text_grows b (s ∷ ss) text = let h = text_grows b ss (text_after b text s) in let g = one (is_text s.kind && b) in omega (arith, h, g)
  where
    one : (c : Bool) → text ≤ (if c then behind_text text (length s.bytes) else text)
    one true = omega arith
    one false = omega arith

-- the places of functions are where they stand
module _ (Q : Fix → Type 0) (e : Placed) (code : Fun → Code) where
  pub functions_at : (fs : List Fun) (more front : List Section) (before : List ℕ) (n text statics : ℕ) (keeps : List (Option ℕ)) →
      e.object.sections ≡ front ++ (map (function_section code) fs ++ more) → e.places ≡ before ++ places_from true text statics (map (function_section code) fs ++ more) keeps →
      length front ≡ n → length before ≡ n → At Q e code n text fs
  functions_at [] more front before n text statics keeps es ep lf lb = tt
  functions_at (f ∷ fs) more front before n text statics keeps es ep lf lb =
      let s = function_section code f in
      let rest = map (function_section code) fs ++ more in
      let later = places_from true (text_after true text s) (static_after statics s (first_kept keeps)) rest (rest_kept keeps) in
      let here : text_after true text s ≡ text + 4 * length (code f) = ap (behind_text text) (bytes-length (code f)) ∙ after_text text (length (code f)) in (
        (
          ap (λ (z : List Section). slice_get z n) es ∙ get_behind front rest s n lf,
          ap (λ (z : List ℕ). slice_get z n) ep ∙ get_behind before later text n lb,
        ),
        functions_at fs more (front ++ s ∷ []) (before ++ text ∷ []) (n + 1) (text + 4 * length (code f)) (static_after statics s (first_kept keeps)) (rest_kept keeps)
            (es ∙ sym (append_assoc front (s ∷ []) rest))
            (ep ∙ sym (append_assoc before (text ∷ []) later)
            ∙ ap (λ (t : ℕ). (before ++ text ∷ []) ++ places_from true t (static_after statics s (first_kept keeps)) rest (rest_kept keeps)) here)
            (omega (arith, length-append front (s ∷ []), lf)) (omega (arith, length-append before (text ∷ []), lb)),
      )

  pub place_at : (fs : List Fun) (n text k : ℕ) (f : Fun) → At Q e code n text fs → slice_get fs k ≡ Some f → slice_get e.places (n + k) ≡ Some (start code text fs k)
  place_at [] n text k f at h = absurd (none_some f h)
  place_at (g ∷ fs) n text zero f at h = let s : n + 0 ≡ n = omega arith in ap (λ (z : ℕ). slice_get e.places z) s ∙ at.0.1
  place_at (g ∷ fs) n text (suc k) f at h =
      let s : n + suc k ≡ (n + 1) + k = omega arith in
      ap (λ (z : ℕ). slice_get e.places z) s ∙ place_at fs (n + 1) (text + 4 * length (code g)) k f at.1 h

-- ---- changes of words elsewhere

abbrev IsFree : (Fix → Type 0) → ℕ → Type 0
IsFree Q pc = (f : Fix) → (f.at ≡ pc → ⊥) → Q f

one_ahead : (Q : Fix → Type 0) (pc p : ℕ) (code : Code) → IsFree Q pc → pc < p → Meets Q p code
one_ahead Q pc p code free l = λ m x r g e. (
  (λ f a k s. free f (λ h. absurd (omega (arith, a, h, l)))),
  (λ f a k n s w. free f (λ h. absurd (omega (arith, a, h, l)))),
)

one_behind : (Q : Fix → Type 0) (pc p : ℕ) (code : Code) → IsFree Q pc → p + 4 * length code ≤ pc → Meets Q p code
one_behind Q pc p code free l = λ m x r g e.
    let w : m < length code = slice_get_within code m x g in (
      (λ f a k s. free f (λ h. absurd (omega (arith, a, h, l, w)))),
      (λ f a k n s v. free f (λ h. absurd (omega (arith, a, h, l, v)))),
    )

all_ahead : (code : Fun → Code) (Q : Fix → Type 0) (pc : ℕ) (fs : List Fun) (text : ℕ) → IsFree Q pc → pc < text → MeetAll code Q text fs
all_ahead code Q pc [] text free l = tt
all_ahead code Q pc (f ∷ fs) text free l = (one_ahead Q pc text (code f) free l, all_ahead code Q pc fs (text + 4 * length (code f)) free (omega (arith, l)))

all_behind : (code : Fun → Code) (Q : Fix → Type 0) (pc : ℕ) (fs : List Fun) (text : ℕ) → IsFree Q pc → total code text fs ≤ pc → MeetAll code Q text fs
all_behind code Q pc [] text free l = tt
all_behind code Q pc (f ∷ fs) text free l =
    let t = total_from code (text + 4 * length (code f)) fs in
    (one_behind Q pc text (code f) free (omega (arith, t, l)), all_behind code Q pc fs (text + 4 * length (code f)) free l)

-- ---- changes of a word of a function's own

relocation_kept : (x : Symbolic) (r : ℕ × Target) (at w : ℕ) → relocation x ≡ Some r → Class x w → Class x (relocated r.0 false at w)
relocation_kept (Plain i) r at w e c = absurd (none_some r e)
relocation_kept (Upper t) r at w e c = subst (λ (s : ℕ × Target). Class (Upper t) (relocated s.0 false at w)) (same_some (26, t) r e) (upper_kept at w c)
relocation_kept (Lower (access.Load o rd) t) r at w e c =
    subst (λ (s : ℕ × Target). Class (Lower (access.Load o rd) t) (relocated s.0 false at w)) (same_some (27, t) r e) (lower_kept (access.Load o rd) at w c)
relocation_kept (Lower (access.Store o rs) t) r at w e c =
    subst (λ (s : ℕ × Target). Class (Lower (access.Store o rs) t) (relocated s.0 false at w)) (same_some (28, t) r e) (lower_kept (access.Store o rs) at w c)
relocation_kept (Lower (access.Address rd) t) r at w e c =
    subst (λ (s : ℕ × Target). Class (Lower (access.Address rd) t) (relocated s.0 false at w)) (same_some (27, t) r e) (lower_kept (access.Address rd) at w c)
relocation_kept (Call t) r at w e c = subst (λ (s : ℕ × Target). Class (Call t) (relocated s.0 false at w)) (same_some (19, t) r e) (call_kept at w c)

-- the word behind the first one of a call
other_kind : (n : ℕ) (t : Target) (r : ℕ × Target) → Some (n, t) ≡ Some r → r.0 ≡ 19 → n ≡ 19
other_kind n t r e k = ap (λ (s : ℕ × Target). s.0) (same_some (n, t) r e) ∙ k

links_kept : (xs : Code) (x : Symbolic) → Links xs → slice_get xs 0 ≡ Some x → (at w : ℕ) → Class x w → Class x (relocated 19 true at w)
links_kept [] x l e at w c = absurd l
links_kept (Plain i ∷ xs) x l e at w c =
    let s = same_some (Plain i) x e in
    subst (λ (y : Symbolic). Class y (relocated 19 true at w)) s (link_kept i l at w (subst (λ (y : Symbolic). Class y w) (sym s) c))
links_kept (Upper t ∷ xs) x l e at w c = absurd l
links_kept (Lower a t ∷ xs) x l e at w c = absurd l
links_kept (Call t ∷ xs) x l e at w c = absurd l

follows_kept : (y : Symbolic) (xs : Code) (x : Symbolic) (r : ℕ × Target) → Follows y xs → relocation y ≡ Some r → r.0 ≡ 19 → slice_get xs 0 ≡ Some x → (at w : ℕ) → Class x w → Class x (relocated 19 true at w)
follows_kept (Plain i) xs x r l q k g at w c = absurd (none_some r q)
follows_kept (Upper t) xs x r l q k g at w c = let n = other_kind 26 t r q k in absurd (omega (arith, n))
follows_kept (Lower (access.Load o rd) t) xs x r l q k g at w c = let n = other_kind 27 t r q k in absurd (omega (arith, n))
follows_kept (Lower (access.Store o rs) t) xs x r l q k g at w c = let n = other_kind 28 t r q k in absurd (omega (arith, n))
follows_kept (Lower (access.Address rd) t) xs x r l q k g at w c = let n = other_kind 27 t r q k in absurd (omega (arith, n))
follows_kept (Call t) xs x r l q k g at w c = links_kept xs x l g at w c

second_kept : (code : Code) (m : ℕ) (y x : Symbolic) (r : ℕ × Target) → IsSoundCode code → slice_get code m ≡ Some y → relocation y ≡ Some r → r.0 ≡ 19 → slice_get code (suc m) ≡ Some x →
    (at w : ℕ) → Class x w → Class x (relocated 19 true at w)
second_kept [] m y x r s g q k h at w c = absurd (none_some y g)
second_kept (z ∷ xs) zero y x r s g q k h at w c =
    follows_kept y xs x r (subst (λ (v : Symbolic). Follows v xs) (same_some z y g) s.0.1) q k h at w c
second_kept (z ∷ xs) (suc m) y x r s g q k h at w c = second_kept xs m y x r s.1 g q k h at w c

fits_at : (code : Code) (m : ℕ) (x : Symbolic) → IsSoundCode code → slice_get code m ≡ Some x → Fits x
fits_at [] m x s g = absurd (none_some x g)
fits_at (y ∷ xs) zero x s g = subst Fits (same_some y x g) s.0.0
fits_at (y ∷ xs) (suc m) x s g = fits_at xs m x s.1 g

own_first : (value : Key → Option ℕ) (x y : Symbolic) (r : ℕ × Target) (f : Fix) (w : ℕ) → x ≡ y → relocation y ≡ Some r → f.kind ≡ r.0 → f.second ≡ false → Class x w → Class x (fixed_by value f w)
own_first value x y r f w same q k s c =
    let at = (target_of f.kind (base_value value f.base) f.addend f.place) in
    subst (λ (b : Bool). Class x (relocated f.kind b at w)) (sym s)
    (subst (λ (n : ℕ). Class x (relocated n false at w)) (sym k) (relocation_kept x r at w (ap relocation same ∙ q) c))

own_meets : (value : Key → Option ℕ) (code : Code) (p m : ℕ) (x : Symbolic) → IsSoundCode code → slice_get code m ≡ Some x → Meets (Keeps (Class x) value (p + 4 * m)) p code
own_meets value code p m x s g = λ n y r h q. (
  (λ f a k b. λ e w c.
      let here : n ≡ m = (let i = is_number f.at (p + 4 * m) e in omega (arith, a, i)) in
      own_first value x y r f w (same_some x y (sym g ∙ ap (slice_get code) (sym here) ∙ h)) q k b c),
  (λ f a k t b l. λ e w c.
      let here : suc n ≡ m = (let i = is_number f.at (p + 4 * m) e in omega (arith, a, i)) in
      let at = (target_of f.kind (base_value value f.base) f.addend f.place) in
      subst (λ (d : Bool). Class x (relocated f.kind d at w)) (sym b)
      (subst (λ (j : ℕ). Class x (relocated j true at w)) (sym (k ∙ t)) (second_kept code n y x r s h q t (ap (slice_get code) here ∙ g) at w c))),
)

all_own : (value : Key → Option ℕ) (code : Fun → Code) (fs : List Fun) (text k m : ℕ) (f : Fun) (x : Symbolic) → ((g : Fun) → IsSoundCode (code g)) → slice_get fs k ≡ Some f → slice_get (code f) m ≡ Some x →
    MeetAll code (Keeps (Class x) value (start code text fs k + 4 * m)) text fs
all_own value code [] text k m f x sound h g = absurd (none_some f h)
all_own value code (g0 ∷ fs) text zero m f x sound h g =
    let s : slice_get (code g0) m ≡ Some x = ap (λ (z : Fun). slice_get (code z) m) (same_some g0 f h) ∙ g in
    let w : m < length (code g0) = slice_get_within (code g0) m x s in (
      own_meets value (code g0) text m x (sound g0) s,
      all_ahead code (Keeps (Class x) value (text + 4 * m)) (text + 4 * m) fs (text + 4 * length (code g0)) (λ j n. keeps (Class x) value (text + 4 * m) j n) (omega (arith, w)),
    )
all_own value code (g0 ∷ fs) text (suc k) m f x sound h g =
    let next = text + 4 * length (code g0) in
    let pc = start code next fs k + 4 * m in
    let l = start_from code next fs k in (
      one_behind (Keeps (Class x) value pc) pc text (code g0) (λ j n. keeps (Class x) value pc j n) (omega (arith, l)),
      all_own value code fs next k m f x sound h g,
    )

-- ---- an entry

-- all that an entry's relocations change, by what holds of the changes in its functions
entry_fixes : (Q : Fix → Type 0) (e : Placed) (made : IsMade e.object) (text statics : ℕ) (keeps : List (Option ℕ)) → e.places ≡ places_from true text statics e.object.sections keeps →
    text_end true text e.object.sections ≤ 0x04100000 → MeetAll made.code Q text made.core.funs → Each Q (flat_map (fixes_of e) e.object.relocs)
entry_fixes Q e made text statics keeps ep fits meets =
    let core = made.core in
    let code = made.code in
    let more = map object_section core.objects ++ literal_sections 0 core.literals in
    let others = map (object_definition core.literals) core.objects ++ literal_definitions 0 core.literals in
    let bare = each_app NoText (map object_section core.objects) (literal_sections 0 core.literals) (objects_no_text core.objects) (literals_no_text 0 core.literals) in
    let es : e.object.sections ≡ map (function_section code) core.funs ++ more =
    ap (λ (o : Object). o.sections) made.same ∙ append_assoc (map (function_section code) core.funs) (map object_section core.objects) (literal_sections 0 core.literals) in
    let ds : definitions code core ≡ map (function_definition code core.name) core.funs ++ others =
    append_assoc (map (function_definition code core.name) core.funs) (map (object_definition core.literals) core.objects) (literal_definitions 0 core.literals) in
    let rs : e.object.relocs ≡ relocs_from (targets code core) 0 (map (function_definition code core.name) core.funs ++ others) =
    ap (λ (o : Object). o.relocs) made.same ∙ ap (relocs_from (targets code core) 0) ds in
    let inside : total code text core.funs ≤ 0x04100000 =
    subst (λ (n : ℕ). n ≤ 0x04100000) (ap (text_end true text) es ∙ end_total code core.funs more text bare) fits in
    let many = total_many code text core.funs made.some in
    let at = functions_at Q e code core.funs more [] [] 0 text statics keeps es (ep ∙ ap (λ (z : List Section). places_from true text statics z keeps) es) refl refl in
    let later = data_found Q e code (targets code core) core.name (length core.funs) (omega (arith, many, inside))
    (λ k sec l g. text_before code core.funs more k sec bare l (ap (λ (z : List Section). slice_get z k) (sym es) ∙ g)) others (0 + length core.funs) (omega arith) in
    each_flat Q (fixes_of e) e.object.relocs
    (subst (λ (z : List Reloc). Each (Found Q e) z) (sym rs)
    (functions_found Q e code (targets code core) core.name core.funs 0 text others at (omega (arith, many, inside)) inside meets later))

-- the address behind an entry's texts, by its functions
ends : (e : Placed) (made : IsMade e.object) (text pc : ℕ) → text_end true text e.object.sections ≤ pc → total made.code text made.core.funs ≤ pc
ends e made text pc l =
    let core = made.core in
    let code = made.code in
    let more = map object_section core.objects ++ literal_sections 0 core.literals in
    let bare = each_app NoText (map object_section core.objects) (literal_sections 0 core.literals) (objects_no_text core.objects) (literals_no_text 0 core.literals) in
    let es : e.object.sections ≡ map (function_section code) core.funs ++ more =
    ap (λ (o : Object). o.sections) made.same ∙ append_assoc (map (function_section code) core.funs) (map object_section core.objects) (literal_sections 0 core.literals) in
    subst (λ (n : ℕ). n ≤ pc) (ap (text_end true text) es ∙ end_total code core.funs more text bare) l

entry_avoids : (e : Placed) (b : Bool) (made : IsMade e.object) (text statics : ℕ) (keeps : List (Option ℕ)) (pc : ℕ) → e.places ≡ places_from b text statics e.object.sections keeps →
    text_end b text e.object.sections ≤ 0x04100000 → (pc < text) ⊎ (text_end b text e.object.sections ≤ pc) → Each (Avoids pc) (if b then flat_map (fixes_of e) e.object.relocs else [])
entry_avoids e false made text statics keeps pc ep fits far = tt
entry_avoids e true made text statics keeps pc ep fits (inl l) =
    entry_fixes (Avoids pc) e made text statics keeps ep fits (all_ahead made.code (Avoids pc) pc made.core.funs text (λ f h. avoids pc f h) l)
entry_avoids e true made text statics keeps pc ep fits (inr l) =
    entry_fixes (Avoids pc) e made text statics keeps ep fits (all_behind made.code (Avoids pc) pc made.core.funs text (λ f h. avoids pc f h) (ends e made text pc l))

-- ---- lists of entries

pub stand_inside : (es : List Placed) (low : ℕ) → Stand low es → low ≤ 0x04100000
stand_inside [] low s = s
stand_inside (e ∷ es) low s =
    let g = text_grows (is_object e.form) e.object.sections s.0 in
    let r = stand_inside es (text_end (is_object e.form) s.0 e.object.sections) s.1.1.1 in
    let l = s.1.0 in
    omega (arith, g, r, l)

abbrev Away : ℕ → Placed → Type 0
Away pc e = Each (Avoids pc) (fixes_if e)

one_away : (e : Placed) (text pc : ℕ) → IsMade e.object → IsPlaced text e → text_end (is_object e.form) text e.object.sections ≤ 0x04100000 → (pc < text) ⊎ (text_end (is_object e.form) text e.object.sections ≤ pc) → Away pc e
one_away e text pc made placed fits far = entry_avoids e (is_object e.form) made text placed.statics placed.keeps pc placed.places_are fits far

all_away : (es : List Placed) (low pc : ℕ) → AreMade es → Stand low es → pc < low → Each (Away pc) es
all_away [] low pc made s l = tt
all_away (e ∷ es) low pc made s l =
    let h = s.1.0 in
    let g = text_grows (is_object e.form) e.object.sections s.0 in (
      one_away e s.0 pc made.0 s.1.1.0 (stand_inside es (text_end (is_object e.form) s.0 e.object.sections) s.1.1.1) (inl (omega (arith, h, l))),
      all_away es (text_end (is_object e.form) s.0 e.object.sections) pc made.1 s.1.1.1 (omega (arith, h, g, l)),
    )

fixed_middle : (value : Key → Option ℕ) (pc w : ℕ) (before es : List Placed) (e : Placed) → Each (Away pc) before → Each (Away pc) es → fixed_all value (fixes_in (before ++ e ∷ es)) pc w ≡ fixed_all value (fixes_if e) pc w
fixed_middle value pc w [] es e hb ha =
    fixed_both value (fixes_if e) (fixes_in es) pc w ∙ avoided value (fixes_in es) pc (fixed_all value (fixes_if e) pc w) (each_flat (Avoids pc) fixes_if es ha)
fixed_middle value pc w (b ∷ bs) es e hb ha =
    fixed_both value (fixes_if b) (fixes_in (bs ++ e ∷ es)) pc w ∙ ap (fixed_all value (fixes_in (bs ++ e ∷ es)) pc) (avoided value (fixes_if b) pc w hb.0) ∙ fixed_middle value pc w bs es e hb.1 ha

-- each word of a text with its relocations
abbrev Good : (Key → Option ℕ) → List Placed → Text → Type 0
Good value all t = (m w : ℕ) → slice_get t.words m ≡ Some w → HasText (fixed_all value (fixes_in all) (t.at.start + 4 * m) w)

pub code_words : (code : Code) → IsSoundCode code → words (text_bytes code) ≡ map symbolic_word code
code_words [] s = refl
code_words (x ∷ xs) s = word_back (symbolic_word x) (text_bytes xs) (symbolic_small x s.0.0) ∙ ap (λ (z : List ℕ). symbolic_word x ∷ z) (code_words xs s.1)

-- what a framqs text is
pub record IsOf (e : Placed) (t : Text) : Type 0 where
  pub number : ℕ
  pub section : Section
  pub section_is : slice_get e.object.sections number ≡ Some section
  pub place_is : slice_get e.places number ≡ Some t.at.start
  pub is_one : is_text section.kind ≡ true
  pub words_are : t.words ≡ words section.bytes

text_found_by : (e : Placed) (x : FrameTable) (t : Text) (section : Section) (at number : ℕ) (key : Key) (b : Bool) → is_text section.kind ≡ b → slice_get e.object.sections number ≡ Some section → slice_get e.places number ≡ Some at →
    (if b then Some ((text_with (record { fun = key; «module» = e.home; start = at; frame = x }) (words section.bytes))) else None) ≡ Some t → IsOf e t
text_found_by e x t section at number key true k es ep h =
    let s = same_some ((text_with (record { fun = key; «module» = e.home; start = at; frame = x }) (words section.bytes))) t h in
    record {
      number = number;
      section = section;
      section_is = es;
      place_is = ep ∙ ap (λ (z : Text). Some z.at.start) s;
      is_one = k;
      words_are = ap (λ (z : Text). z.words) (sym s);
    }
text_found_by e x t section at number key false k es ep h = absurd (none_some t h)

text_found : (e : Placed) (x : FrameTable) (t : Text) (o : Option ℕ) (os : Option Section) (op : Option ℕ) (key : Option Key) → option_and_then (slice_get e.object.sections) o ≡ os → option_and_then (slice_get e.places) o ≡ op →
    text_at e x os op key ≡ Some t → IsOf e t
text_found e x t o None op key es ep h = absurd (none_some t h)
text_found e x t o (Some section) None key es ep h = absurd (none_some t h)
text_found e x t o (Some section) (Some at) None es ep h = absurd (none_some t h)
text_found e x t None (Some section) (Some at) (Some key) es ep h = absurd (none_some section es)
text_found e x t (Some number) (Some section) (Some at) (Some key) es ep h = text_found_by e x t section at number key (is_text section.kind) refl es ep h

frame_found : (e : Placed) (x : FrameTable) (t : Text) → text_of e x ≡ Some t → IsOf e t
frame_found e x t h =
    let s = then_some (text_by e x) (slice_get e.object.symbols x.symbol) t h in
    text_found e x t s.0.section (section_of e.object s.0) (place_of e s.0) (key_of e.home s.0) refl refl s.1.1

module _ (value : Key → Option ℕ) (before es : List Placed) (e : Placed) (low text statics : ℕ) (keeps_ : List (Option ℕ)) (made : IsMade e.object) where
  -- the words of a text of this entry
  good_text : (t : Text) → is_object e.form ≡ true → IsOf e t → e.places ≡ places_from true text statics e.object.sections keeps_ → text_end true text e.object.sections ≤ 0x04100000 → low ≤ text →
      ((pc : ℕ) → low ≤ pc → Each (Away pc) before) → ((pc : ℕ) → pc < text_end true text e.object.sections → Each (Away pc) es) → Good value (before ++ e ∷ es) t
  good_text t form of ep fits l hb ha = λ m w g.
      let core = made.core in
      let code = made.code in
      let more = map object_section core.objects ++ literal_sections 0 core.literals in
      let bare = each_app NoText (map object_section core.objects) (literal_sections 0 core.literals) (objects_no_text core.objects) (literals_no_text 0 core.literals) in
      let ss : e.object.sections ≡ map (function_section code) core.funs ++ more =
      ap (λ (o : Object). o.sections) made.same ∙ append_assoc (map (function_section code) core.funs) (map object_section core.objects) (literal_sections 0 core.literals) in
      let k = of.number in
      let found = text_index code core.funs more k of.section bare (ap (λ (z : List Section). slice_get z k) (sym ss) ∙ of.section_is) of.is_one in
      let f = found.0 in
      let at = functions_at (Avoids 0) e code core.funs more [] [] 0 text statics keeps_ ss (ep ∙ ap (λ (z : List Section). places_from true text statics z keeps_) ss) refl refl in
      let zero_k : k ≡ 0 + k = omega arith in
      let begins : t.at.start ≡ start code text core.funs k =
      same_some t.at.start (start code text core.funs k) (sym of.place_is ∙ ap (slice_get e.places) zero_k ∙ place_at (Avoids 0) e code core.funs 0 text k f at found.1.0) in
      let ws : t.words ≡ map symbolic_word (code f) =
      of.words_are ∙ ap (λ (s : Section). words s.bytes) (sym found.1.1) ∙ code_words (code f) (made.sound f) in
      let one = get_mapped symbolic_word (code f) m w (ap (λ (z : List ℕ). slice_get z m) (sym ws) ∙ g) in
      let x = one.0 in
      let pc = start code text core.funs k + 4 * m in
      let inside : total code text core.funs ≡ text_end true text e.object.sections = sym (ap (text_end true text) ss ∙ end_total code core.funs more text bare) in
      let from = start_from code text core.funs k in
      let to = start_inside code text core.funs k f found.1.0 in
      let short : m < length (code f) = slice_get_within (code f) m x one.1.0 in
      let own : Each (Keeps (Class x) value pc) (fixes_if e) =
      subst (λ (b : Bool). Each (Keeps (Class x) value pc) (if b then flat_map (fixes_of e) e.object.relocs else [])) (sym form)
      (entry_fixes (Keeps (Class x) value pc) e made text statics keeps_ ep fits (all_own value code core.funs text k m f x made.sound found.1.0 one.1.0)) in
      let first : Class x w = subst (Class x) one.1.1 (class_first x (fits_at (code f) m x (made.sound f) one.1.0)) in
      let last = class_text x (fixed_all value (fixes_if e) pc w) (kept (Class x) value (fixes_if e) pc w own first) in
      let whole = fixed_middle value pc w before es e (hb pc (omega (arith, l, from))) (ha pc (omega (arith, to, short, inside))) in
      subst (λ (n : ℕ). HasText (fixed_all value (fixes_in (before ++ e ∷ es)) (n + 4 * m) w)) (sym begins) (subst HasText (sym whole) last)

  entry_good : (b : Bool) → is_object e.form ≡ b → e.places ≡ places_from b text statics e.object.sections keeps_ → text_end b text e.object.sections ≤ 0x04100000 → low ≤ text →
      ((pc : ℕ) → low ≤ pc → Each (Away pc) before) → ((pc : ℕ) → pc < text_end b text e.object.sections → Each (Away pc) es) → Each (Good value (before ++ e ∷ es)) (if b then texts_of e else [])
  entry_good false form ep fits l hb ha = tt
  entry_good true form ep fits l hb ha =
      each_flat (Good value (before ++ e ∷ es)) (λ x. option_to_list (text_of e x)) e.object.frames
      (every (λ (x : FrameTable). Each (Good value (before ++ e ∷ es)) (option_to_list (text_of e x))) e.object.frames
      (λ x. option_each (Good value (before ++ e ∷ es)) (text_of e x) (λ t h. good_text t form (frame_found e x t h) ep fits l hb ha)))

all_good : (value : Key → Option ℕ) (all before es : List Placed) (low : ℕ) → before ++ es ≡ all → ((pc : ℕ) → low ≤ pc → Each (Away pc) before) → AreMade es → Stand low es → Each (Good value all) (texts_in es)
all_good value all before [] low same hb made s = tt
all_good value all before (e ∷ es) low same hb made s =
    let text = s.0 in
    let b = is_object e.form in
    let placed = s.1.1.0 in
    let end = text_end b text e.object.sections in
    let fits = stand_inside es end s.1.1.1 in
    let grows = text_grows b e.object.sections text in
    let l = s.1.0 in
    each_app (Good value all) (texts_if e) (texts_in es)
    (subst (λ (z : List Placed). Each (Good value z) (texts_if e)) same
    (entry_good value before es e low text placed.statics placed.keeps made.0 b refl placed.places_are fits l hb (λ pc h. all_away es end pc made.1 s.1.1.1 h)))
    (all_good value all (before ++ e ∷ []) es end (append_assoc before (e ∷ []) es ∙ same)
    (λ pc h. each_app (Away pc) before (e ∷ []) (hb pc (omega (arith, h, grows, l))) (one_away e text pc made.0 placed fits (inr h), tt)) made.1 s.1.1.1)

-- ---- the word at an address

aligned : (pc start n : ℕ) → ((pc - start) % 4 == 0) ≡ true → start ≤ pc → (pc - start) / 4 ≡ n → start + 4 * n ≡ pc
aligned pc start n h l e = let z = is_number ((pc - start) % 4) 0 h in omega (arith, z, l, e)

in_text : (value : Key → Option ℕ) (all : List Placed) (pc w : ℕ) (t : Text) (b : Bool) → ((pc - t.at.start) % 4 == 0) ≡ b → t.at.start ≤ pc → Good value all t →
    (if b then slice_get t.words ((pc - t.at.start) / 4) else None) ≡ Some w → HasText (fixed_all value (fixes_in all) pc w)
in_text value all pc w t false e l g h = absurd (none_some w h)
in_text value all pc w t true e l g h =
    subst (λ (n : ℕ). HasText (fixed_all value (fixes_in all) n w)) (aligned pc t.at.start ((pc - t.at.start) / 4) e l refl) (g ((pc - t.at.start) / 4) w h)

text_here : (value : Key → Option ℕ) (all : List Placed) (pc w : ℕ) (t : Text) (ts : List Text) (b : Bool) → holds pc t ≡ b → Good value all t →
    (word_in_found pc (find (holds pc) ts) ≡ Some w → HasText (fixed_all value (fixes_in all) pc w)) →
    word_in_found pc (if b then Some t else find (holds pc) ts) ≡ Some w → HasText (fixed_all value (fixes_in all) pc w)
text_here value all pc w t ts false e g later h = later h
text_here value all pc w t ts true e g later h =
    in_text value all pc w t ((pc - t.at.start) % 4 == 0) refl (at_most t.at.start pc (front (nat_le t.at.start pc) (nat_lt pc (end_of t)) e)) g h
  where
    front : (c d : Bool) → (c && d) ≡ true → c ≡ true
    front true d h = refl
    front false d h = cc

text_good : (value : Key → Option ℕ) (all : List Placed) (pc w : ℕ) (ts : List Text) → Each (Good value all) ts → word_in_found pc (find (holds pc) ts) ≡ Some w → HasText (fixed_all value (fixes_in all) pc w)
text_good value all pc w [] g h = absurd (none_some w h)
text_good value all pc w (t ∷ ts) g h = text_here value all pc w t ts (holds pc t) refl g.0 (text_good value all pc w ts g.1) h

-- the word at each address of a text of compiled modules has a text
pub words_have_texts : (es : List Placed) (funs : List Key) (pc w : ℕ) → AreMade es → Stand 0x00100000 es → nat_lt pc 0x00100000 ≡ false → linked.word_in es funs pc ≡ Some w → HasText w
words_have_texts es funs pc w made s above h =
    let value = value_in es funs in
    let there : text_word_in value (fixes_in es) (texts_in es) pc ≡ Some w = ap (λ (b : Bool). if b then linked.stub_in (jumps_in es) funs pc else text_word_in value (fixes_in es) (texts_in es) pc) (sym above) ∙ h in
    let found = map_some (fixed_all value (fixes_in es) pc) (text_word (texts_in es) pc) w there in
    subst HasText found.1.1 (text_good value es pc found.0 (texts_in es) (all_good value es [] es 0x00100000 refl (λ pc h. tt) made s) found.1.0)
