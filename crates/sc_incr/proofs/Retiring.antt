-- An entry that becomes a former text, or that is gone.
use Rattle.std.proofs.Common.{◌≡◌, ◌⊎◌, inl, inr, ℕ, zero, suc, ◌+◌, ◌%◌, ◌^◌, ◌<◌, ◌≤◌, true, false, cond, List, [], ◌∷◌, ◌++◌, length, map, refl, sym, ap, ◌∙◌, Option, Some, None, subst, arith, true≢false}
use Rattle.std.specs.Prelude.{flat_map, option_and_then}
use Rattle.std.specs.List.{slice_get}
use Rattle.std.specs.Option.{option_or}
use Rattle.sc_base.specs.declared.key.Key.{Key}
use Rattle.sc_object.specs.declared.object.FrameTable.{FrameTable}
use Rattle.sc_object.specs.declared.object.Reloc.{Reloc}
use Rattle.sc_object.specs.declared.object.Section.{Section}
use Rattle.sc_object.specs.declared.object.Symbol.{Symbol}
use Rattle.sc_isa_image.specs.declared.image.Image.{Image}
use Rattle.sc_isa_image.specs.declared.text.Text.{Text}
use Rattle.sc_link.specs.declared.placed.Placed.{Placed}
use Rattle.sc_link.specs.declared.placed.LiteralAt.{LiteralAt}
use Rattle.sc_link.specs.Symbols.{key_of, place_of, section_of, static_of}
use Rattle.sc_link.specs.Entries.{Base, Fix, base_of, each, fixes_at, fixes_if, fixes_in, has_second, is_object, jumps_if, jumps_in, literals_in, literals_of, spot_of, start_of, statics_if, statics_in, text_at, text_by, text_of, texts_if, texts_in}
use Rattle.sc_link.specs.Linked.{AreApart, AreOnePlaced, IsLinked, base_value, literal_of, place_in, stub_from, value_in}
use Rattle.sc_link.specs.Steps.{AreStubs, PutsLiterals, Relocates}
use Rattle.sc_isa_image.specs.Lookups.{value_of}
use Rattle.sc_places.specs.Layout.{static_top}
use Rattle.sc_unlink.specs.Taking.{ClearsJumps, HasTexts, Lists, TakesTexts, TakesValues}
use Rattle.sc_incr.specs.Literals.{Settles, TakesLiterals}
use Rattle.sc_incr.specs.Parts.{fixes_for_all, key_of_pair}
use Rattle.sc_incr.specs.Program.{retired}
use Rattle.sc_incr.specs.Settled.{IsSettled}
use Rattle.sc_incr.specs.Stands.{AreHeld, AreSingle, Covers, Has, IsOpen, Stands, Under}
use Rattle.sc_incr.proofs.Adding.{linked-stands, stands-fixed, stands-linked, stands-stubs}
use Rattle.sc_incr.proofs.Entering.{again-covers, again-inside, place-known}
use Rattle.sc_incr.proofs.Fewer.{apart-without, flat-append, get-middle, get-with, has-with, one-without, place-fewer, place-flat, place-of, place-one, place-order, place-some, place-without, single-without}
use Rattle.sc_incr.proofs.Fixing.{Again}
use Rattle.sc_incr.proofs.Holding.{stands-settled}
use Rattle.sc_incr.proofs.Keys.{none-some, same-some}
use Rattle.sc_incr.proofs.Departing.{has-texts, stands-cleared, stands-unvalued, stands-untexted}
use Rattle.sc_incr.proofs.Numbers.{Part, before, behind, get-before, get-behind, or-lookup, part, stub-known}

-- a former text has the texts, relocations and literals that it had
module _ (e : Placed) where
  text-retired : (f : FrameTable) (o : Option Section) (p : Option ℕ) (k : Option Key) → text_at (retired e) f o p k ≡ text_at e f o p k
  text-retired f None p k = refl
  text-retired f (Some c) None k = refl
  text-retired f (Some c) (Some at) None = refl
  text-retired f (Some c) (Some at) (Some k) = refl

  by-retired : (f : FrameTable) (s : Symbol) → text_by (retired e) f s ≡ text_by e f s
  by-retired f s = text-retired f (section_of e.object s) (place_of e s) (key_of e.home s)

  of-retired : (f : FrameTable) → text_of (retired e) f ≡ text_of e f
  of-retired f = λ m. option_and_then (λ s. by-retired f s m) (slice_get e.object.symbols f.symbol)

  pub texts-retired : texts_if (retired e) ≡ texts_if e
  texts-retired = ap (λ ts. cond (is_object e.form) ts []) (λ m. each (λ f. of-retired f m) e.object.frames)

  base-retired : (o : Option Symbol) → base_of (retired e) o ≡ base_of e o
  base-retired None = refl
  base-retired (Some s) = refl

  fix-retired : (r : Reloc) (o : Option (ℕ × ℕ)) → fixes_at (retired e) r o ≡ fixes_at e r o
  fix-retired r None = refl
  fix-retired r (Some spot) = ap (λ (b : Base). (record { at = spot.0; kind = r.kind; second = false; place = spot.0; addend = r.addend; base = b }) ∷ cond (has_second r spot.1) ((record { at = (spot.0 + 4) % 2 ^ 32; kind = r.kind; second = true; place = spot.0; addend = r.addend; base = b }) ∷ []) []) (base-retired (slice_get e.object.symbols r.symbol))

  pub fixes-retired : fixes_if (retired e) ≡ fixes_if e
  fixes-retired = ap (λ fs. cond (is_object e.form) fs []) (λ m. flat_map (λ r. fix-retired r (spot_of e r) m) e.object.relocs)

-- a list with one entry in the middle
module _ (a b : List Placed) (e : Placed) where
  around : {B : Type 0} (f : Placed → List B) → flat_map f (a ++ e ∷ b) ≡ flat_map f a ++ (f e ++ flat_map f b)
  around f = flat-append f a (e ∷ b)

  without : {B : Type 0} (f : Placed → List B) → flat_map f (a ++ b) ≡ flat_map f a ++ flat_map f b
  without f = flat-append f a b

  fewer : {B : Type 0} (f : Placed → List B) → f (retired e) ≡ [] → flat_map f (a ++ retired e ∷ b) ≡ flat_map f a ++ flat_map f b
  fewer f h = flat-append f a (retired e ∷ b) ∙ ap (λ xs. flat_map f a ++ (xs ++ flat_map f b)) h

  same : {B : Type 0} (f : Placed → List B) → f (retired e) ≡ f e → flat_map f (a ++ retired e ∷ b) ≡ flat_map f (a ++ e ∷ b)
  same f h = flat-append f a (retired e ∷ b) ∙ (ap (λ xs. flat_map f a ++ (xs ++ flat_map f b)) h ∙ sym (around f))

  -- what stands at a place of the list
  pub entry-at : slice_get (a ++ e ∷ b) (length a) ≡ Some e
  entry-at = get-behind a (e ∷ b) 0 (length a) (omega arith)

  -- the definitions of the entry are no others'
  only : (f : Placed → List (Key × ℕ)) → ((i j : ℕ) (c d : Placed) (k : Key) (x y : ℕ) → slice_get (a ++ e ∷ b) i ≡ Some c → slice_get (a ++ e ∷ b) j ≡ Some d → place_in (f c) k ≡ Some x → place_in (f d) k ≡ Some y → i ≡ j) → (k : Key) (at : ℕ) → place_in (f e) k ≡ Some at → place_in (flat_map f a ++ flat_map f b) k ≡ None
  only f once k at h = by (place_in (flat_map f a ++ flat_map f b) k) refl
    where
      by : (o : Option ℕ) → place_in (flat_map f a ++ flat_map f b) k ≡ o → place_in (flat_map f a ++ flat_map f b) k ≡ None
      by None g = g
      by (Some y) g =
          let r = place-flat f (a ++ b) k y (ap (λ xs. place_in xs k) (without f) ∙ g) in
          let p = part (length a) r.0 in
          absurd (never r.0 p (once (place-of a (e ∷ []) b r.0 p) (length a) r.1.0 e k y at (get-with a (e ∷ []) b r.0 r.1.0 p r.1.1.0) entry-at r.1.1.1 h))
        where
          never : (n : ℕ) (p : Part (length a) n) → place-of a (e ∷ []) b n p ≡ length a → ⊥
          never n (before l) q = absurd (let z : n ≡ length a = q in omega arith)
          never n (behind d l) q = absurd (let z : length a + (length (e ∷ []) + d) ≡ length a = q in let w : length (e ∷ []) ≡ 1 = refl in omega arith)

-- A present entry becomes a former text.
pub stubs-there : (es : List Placed) (funs : List Key) (i : Image) → IsSettled es funs → IsLinked es funs i → AreStubs i
stubs-there es funs i s h = stands-stubs funs (statics_in es) (jumps_in es) (texts_in es) (fixes_in es) (value_in es funs) (literals_in es) i (linked-stands es funs i h) s.distinct s.few

module _ (a b : List Placed) (e : Placed) (funs : List Key) (s : IsSettled (a ++ e ∷ b) funs) where
  jumps-gone : (k : Key) (at : ℕ) → place_in (jumps_if e) k ≡ Some at → place_in (jumps_in a ++ jumps_in b) k ≡ None
  jumps-gone k at h = only a b e jumps_if s.once.jumps k at h

  statics-gone : (k : Key) (at : ℕ) → place_in (statics_if e) k ≡ Some at → place_in (statics_in a ++ statics_in b) k ≡ None
  statics-gone k at h = only a b e statics_if s.once.statics k at h

  statics-none : (k : Key) → place_in (statics_if e) k ≡ None → place_in (statics_in a ++ statics_in b) k ≡ place_in (statics_in (a ++ e ∷ b)) k
  statics-none k h = sym (ap (λ xs. place_in xs k) (around a b e statics_if) ∙ place-without (statics_in a) (statics_if e) (statics_in b) k h)

  -- an object has no number
  object-only : (k : Key) (at : ℕ) → place_in (statics_if e) k ≡ Some at → stub_from 0 funs k ≡ None
  object-only k at h = by (stub_from 0 funs k) refl
    where
      by : (o : Option ℕ) → stub_from 0 funs k ≡ o → stub_from 0 funs k ≡ None
      by None g = g
      by (Some n) g = absurd (some (place_in (statics_in a) k) refl)
        where
          all : option_or (place_in (statics_in a) k) (option_or (place_in (statics_if e) k) (place_in (statics_in b) k)) ≡ None
          all = sym (or-lookup (statics_in a) (statics_if e ++ statics_in b) k ∙ ap (option_or (place_in (statics_in a) k)) (or-lookup (statics_if e) (statics_in b) k)) ∙ (sym (ap (λ xs. place_in xs k) (around a b e statics_if)) ∙ s.unmixed k (stub-known 0 funs k n g))

          some : (o : Option ℕ) → place_in (statics_in a) k ≡ o → ⊥
          some None w = none-some None at refl (sym (sym (ap (λ x. option_or x (option_or (place_in (statics_if e) k) (place_in (statics_in b) k))) w ∙ ap (λ x. option_or x (place_in (statics_in b) k)) h) ∙ all))
          some (Some y) w = none-some None y refl (sym (sym (ap (λ x. option_or x (option_or (place_in (statics_if e) k) (place_in (statics_in b) k))) w) ∙ all))

  pub retired-open : (i j k : Image) → IsLinked (a ++ e ∷ b) funs i → ClearsJumps (jumps_if e) i j → TakesValues (statics_if e) j k → IsOpen (a ++ retired e ∷ b) funs (map key_of_pair (statics_if e)) k
  retired-open i j k h p q = record {
    value = value_in (a ++ e ∷ b) funs;
    stands =
        subst (λ xs. Stands funs xs (jumps_in (a ++ retired e ∷ b)) (texts_in (a ++ retired e ∷ b)) (fixes_in (a ++ retired e ∷ b)) (value_in (a ++ e ∷ b) funs) (literals_in (a ++ retired e ∷ b)) k) (sym (fewer a b e statics_if refl))
        (subst (λ xs. Stands funs (statics_in a ++ statics_in b) xs (texts_in (a ++ retired e ∷ b)) (fixes_in (a ++ retired e ∷ b)) (value_in (a ++ e ∷ b) funs) (literals_in (a ++ retired e ∷ b)) k) (sym (fewer a b e jumps_if refl))
        (subst (λ xs. Stands funs (statics_in a ++ statics_in b) (jumps_in a ++ jumps_in b) xs (fixes_in (a ++ retired e ∷ b)) (value_in (a ++ e ∷ b) funs) (literals_in (a ++ retired e ∷ b)) k) (sym (same a b e texts_if (texts-retired e)))
        (subst (λ xs. Stands funs (statics_in a ++ statics_in b) (jumps_in a ++ jumps_in b) (texts_in (a ++ e ∷ b)) xs (value_in (a ++ e ∷ b) funs) (literals_in (a ++ retired e ∷ b)) k) (sym (same a b e fixes_if (fixes-retired e)))
        (subst (λ xs. Stands funs (statics_in a ++ statics_in b) (jumps_in a ++ jumps_in b) (texts_in (a ++ e ∷ b)) (fixes_in (a ++ e ∷ b)) (value_in (a ++ e ∷ b) funs) xs k) (sym (same a b e literals_of refl))
        (stands-unvalued funs (statics_in (a ++ e ∷ b)) (statics_in a ++ statics_in b) (statics_if e) (jumps_in a ++ jumps_in b) (texts_in (a ++ e ∷ b)) (fixes_in (a ++ e ∷ b)) (value_in (a ++ e ∷ b) funs) (literals_in (a ++ e ∷ b)) j k
        (stands-cleared (jumps_in (a ++ e ∷ b)) (jumps_in a ++ jumps_in b) (jumps_if e) jumps-gone jumps-none funs (statics_in (a ++ e ∷ b)) (texts_in (a ++ e ∷ b)) (fixes_in (a ++ e ∷ b)) (value_in (a ++ e ∷ b) funs) (literals_in (a ++ e ∷ b)) i j (linked-stands (a ++ e ∷ b) funs i h) s.few p)
        (λ x at g. (object-only x at g, statics-gone x at g)) statics-none q)))));
    same = λ x n. same-value x (place_in (statics_if e) x) refl n;
  }
    where
      jumps-none : (k : Key) → place_in (jumps_if e) k ≡ None → place_in (jumps_in a ++ jumps_in b) k ≡ place_in (jumps_in (a ++ e ∷ b)) k
      jumps-none k g = sym (ap (λ xs. place_in xs k) (around a b e jumps_if) ∙ place-without (jumps_in a) (jumps_if e) (jumps_in b) k g)

      same-value : (x : Key) (o : Option ℕ) → place_in (statics_if e) x ≡ o → (Has x (map key_of_pair (statics_if e)) → ⊥) → value_in (a ++ e ∷ b) funs x ≡ value_in (a ++ retired e ∷ b) funs x
      same-value x None g n = ap (option_or (stub_from 0 funs x)) (sym (ap (λ xs. place_in xs x) (fewer a b e statics_if refl) ∙ statics-none x g))
      same-value x (Some at) g n = absurd (n (place-known (statics_if e) x at g))

-- A former text is gone.
pub statics-retired : (e : Placed) → e.retired ≡ true → statics_if e ≡ []
statics-retired e h = ap (λ c. cond c [] (each (static_of e) e.object.symbols)) h

pub jumps-retired : (e : Placed) → e.retired ≡ true → jumps_if e ≡ []
jumps-retired e h = ap (λ c. cond c [] (map start_of (texts_if e))) h

module _ (a b : List Placed) (e : Placed) (old : e.retired ≡ true) (apart : AreApart (texts_in (a ++ e ∷ b))) (low : (t : Text) → Has t (texts_in (a ++ e ∷ b)) → 0x00100000 ≤ t.at.start) (held : AreHeld (fixes_if e) (texts_if e)) where
  pub drop-texts : (funs : List Key) (v : Key → Option ℕ) (i : Image) → Under v (a ++ e ∷ b) funs i → HasTexts (texts_in (a ++ e ∷ b)) i
  drop-texts funs v i h = has-texts funs (statics_in (a ++ e ∷ b)) (jumps_in (a ++ e ∷ b)) (texts_in (a ++ e ∷ b)) (fixes_in (a ++ e ∷ b)) v (literals_in (a ++ e ∷ b)) i h apart low

  pub drop-lists : Lists (texts_in (a ++ e ∷ b)) (texts_if e)
  drop-lists n t g = (length (texts_in a) + n, ap (λ xs. slice_get xs (length (texts_in a) + n)) (around a b e texts_if) ∙ get-middle (texts_in a) (texts_if e) (texts_in b) n t g)

  pub untexted : (funs : List Key) (v : Key → Option ℕ) (i j : Image) → Under v (a ++ e ∷ b) funs i → TakesTexts (texts_if e) i j → Stands funs (statics_in (a ++ b)) (jumps_in (a ++ b)) (texts_in (a ++ b)) (fixes_in (a ++ b)) v (literals_in (a ++ e ∷ b)) j
  untexted funs v i j h p =
      subst (λ xs. Stands funs xs (jumps_in (a ++ b)) (texts_in (a ++ b)) (fixes_in (a ++ b)) v (literals_in (a ++ e ∷ b)) j) (same-list statics_if (statics-retired e old))
      (subst (λ xs. Stands funs (statics_in (a ++ e ∷ b)) xs (texts_in (a ++ b)) (fixes_in (a ++ b)) v (literals_in (a ++ e ∷ b)) j) (same-list jumps_if (jumps-retired e old))
      (subst (λ xs. Stands funs (statics_in (a ++ e ∷ b)) (jumps_in (a ++ e ∷ b)) xs (fixes_in (a ++ b)) v (literals_in (a ++ e ∷ b)) j) (sym (without a b e texts_if))
      (subst (λ xs. Stands funs (statics_in (a ++ e ∷ b)) (jumps_in (a ++ e ∷ b)) (texts_in a ++ texts_in b) xs v (literals_in (a ++ e ∷ b)) j) (sym (without a b e fixes_if))
      (stands-untexted (texts_in a) (texts_if e) (texts_in b) (fixes_in a) (fixes_if e) (fixes_in b) (subst AreApart (around a b e texts_if) apart) (λ t g. low t (subst (λ xs. Has t xs) (sym (around a b e texts_if)) g)) held funs (statics_in (a ++ e ∷ b)) (jumps_in (a ++ e ∷ b)) v (literals_in (a ++ e ∷ b)) i j
      (subst (λ xs. Stands funs (statics_in (a ++ e ∷ b)) (jumps_in (a ++ e ∷ b)) xs (fixes_in a ++ (fixes_if e ++ fixes_in b)) v (literals_in (a ++ e ∷ b)) i) (around a b e texts_if)
      (subst (λ xs. Stands funs (statics_in (a ++ e ∷ b)) (jumps_in (a ++ e ∷ b)) (texts_in (a ++ e ∷ b)) xs v (literals_in (a ++ e ∷ b)) i) (around a b e fixes_if) h)) p))))
    where
      same-list : {B : Type 0} (f : Placed → List B) → f e ≡ [] → flat_map f (a ++ e ∷ b) ≡ flat_map f (a ++ b)
      same-list f g = around a b e f ∙ (ap (λ xs. flat_map f a ++ (xs ++ flat_map f b)) g ∙ sym (without a b e f))

  pub dropped : (funs : List Key) (v : Key → Option ℕ) (moved : List LiteralAt) (i j k l : Image) → Under v (a ++ e ∷ b) funs i → TakesTexts (texts_if e) i j → TakesLiterals (a ++ b) (map literal_of (literals_of e)) j k → PutsLiterals moved k l → Settles (a ++ e ∷ b) (a ++ b) e moved → Under v (a ++ b) funs l
  dropped funs v moved i j k l h p q r s = stands-settled funs (statics_in (a ++ b)) (jumps_in (a ++ b)) (texts_in (a ++ b)) (fixes_in (a ++ b)) v a b e moved j k l (untexted funs v i j h p) q r s

  -- the values are what they were
  pub dropped-values : (funs : List Key) (k : Key) → value_in (a ++ e ∷ b) funs k ≡ value_in (a ++ b) funs k
  dropped-values funs k = ap (λ xs. option_or (stub_from 0 funs k) (place_in xs k)) (around a b e statics_if ∙ (ap (λ xs. statics_in a ++ (xs ++ statics_in b)) (statics-retired e old) ∙ sym (without a b e statics_if)))

-- The relocations are made again that name a key whose value changed.
pub patched-linked : (again : Again) (es : List Placed) (funs keys : List Key) (i k : Image) → AreSingle (fixes_in es) → IsOpen es funs keys i → ((value : Key → Option ℕ) → ((q : Key) → value_of i q ≡ value q) → Relocates value (fixes_for_all es keys) i k) → IsLinked es funs k
patched-linked again es funs keys i k single opened made =
    stands-linked es funs k
    (stands-fixed funs (statics_in es) (jumps_in es) (texts_in es) (fixes_in es) opened.value (literals_in es) again (value_in es funs) (fixes_in es) (fixes_for_all es keys) i k opened.stands single covers (made (value_in es funs) opened.stands.values))
  where
    covers : Covers opened.value (value_in es funs) (fixes_in es) (fixes_in es) (fixes_for_all es keys)
    covers = record {
      kept = λ f h. h;
      inside = λ f h. again-inside es keys f h;
      covers = λ f h. by f h (again-covers opened.value (value_in es funs) es keys opened.same f h);
    }
      where
        by : (f : Fix) → Has f (fixes_in es) → Has f (fixes_for_all es keys) ⊎ (base_value opened.value f.base ≡ base_value (value_in es funs) f.base) → Has f (fixes_for_all es keys) ⊎ (Has f (fixes_in es) × (base_value opened.value f.base ≡ base_value (value_in es funs) f.base))
        by f h (inl g) = inl g
        by f h (inr g) = inr (h, g)

-- What holds of a list holds of it without an entry, and where an entry is a former text.
module _ (a b : List Placed) (e : Placed) (funs : List Key) (s : IsSettled (a ++ e ∷ b) funs) where
  fewer-statics : (k : Key) → place_in (statics_in (a ++ e ∷ b)) k ≡ None → place_in (statics_in a ++ statics_in b) k ≡ None
  fewer-statics k h = place-fewer (statics_in a) (statics_if e) (statics_in b) k (sym (ap (λ xs. place_in xs k) (around a b e statics_if)) ∙ h)

  fewer-jumps : (k : Key) (at : ℕ) → place_in (jumps_in a ++ jumps_in b) k ≡ Some at → Has k funs
  fewer-jumps k at h = let r = place-some (jumps_in a) (jumps_if e) (jumps_in b) k at h in s.numbered k r.0 (ap (λ xs. place_in xs k) (around a b e jumps_if) ∙ r.1)

  has-old : {B : Type 0} (f : Placed → List B) (x : B) → Has x (flat_map f (a ++ b)) → Has x (flat_map f (a ++ e ∷ b))
  has-old f x h = subst (λ xs. Has x xs) (sym (around a b e f)) (has-with (flat_map f a) (f e) (flat_map f b) x (subst (λ xs. Has x xs) (without a b e f) h))

  pub settled-dropped : IsSettled (a ++ b) funs
  settled-dropped = record {
    distinct = s.distinct;
    few = s.few;
    unmixed = λ k h. ap (λ xs. place_in xs k) (without a b e statics_if) ∙ fewer-statics k (s.unmixed k h);
    numbered = λ k at h. fewer-jumps k at (sym (ap (λ xs. place_in xs k) (without a b e jumps_if)) ∙ h);
    once = record {
      jumps = λ i j c d k x y g h p q. at i j (s.once.jumps (to i) (to j) c d k x y (gets i c g) (gets j d h) p q);
      statics = λ i j c d k x y g h p q. at i j (s.once.statics (to i) (to j) c d k x y (gets i c g) (gets j d h) p q);
    };
    apart = subst AreApart (sym (without a b e texts_if)) (apart-without (texts_in a) (texts_if e) (texts_in b) (subst AreApart (around a b e texts_if) s.apart));
    low = λ t h. s.low t (has-old texts_if t h);
    high = λ t h. s.high t (has-old texts_if t h);
    held = λ d h. s.held d (has-with a (e ∷ []) b d h);
    single = subst AreSingle (sym (without a b e fixes_if)) (single-without (fixes_in a) (fixes_if e) (fixes_in b) (subst AreSingle (around a b e fixes_if) s.single));
    one = subst AreOnePlaced (sym (without a b e literals_of)) (one-without (literals_in a) (literals_of e) (literals_in b) (subst AreOnePlaced (around a b e literals_of) s.one));
    below = λ d h x i. s.below d (has-with a (e ∷ []) b d h) x i;
    last = λ i j c d g h p q. place-order a (e ∷ []) b j i (part (length a) j) (part (length a) i) (s.last (to i) (to j) c d (gets i c g) (gets j d h) p q);
  }
    where
      to : ℕ → ℕ
      to n = place-of a (e ∷ []) b n (part (length a) n)

      gets : (n : ℕ) (c : Placed) → slice_get (a ++ b) n ≡ Some c → slice_get (a ++ e ∷ b) (to n) ≡ Some c
      gets n c g = get-with a (e ∷ []) b n c (part (length a) n) g

      at : (i j : ℕ) → to i ≡ to j → i ≡ j
      at i j h = place-one a (e ∷ []) b i j (part (length a) i) (part (length a) j) h

  -- an entry of the list in which one became a former text was there before
  data Was (n : ℕ) (d : Placed) : Type 0 where
    stayed : slice_get (a ++ e ∷ b) n ≡ Some d → Was n d
    became : n ≡ length a → d ≡ retired e → Was n d

  was : (n : ℕ) (d : Placed) → slice_get (a ++ retired e ∷ b) n ≡ Some d → Was n d
  was n d h = by (part (length a) n)
    where
      by : Part (length a) n → Was n d
      by (before l) = stayed (get-before a (e ∷ b) n l ∙ (sym (get-before a (retired e ∷ b) n l) ∙ h))
      by (behind zero g) = became (omega arith) (same-some d (retired e) (sym h ∙ get-behind a (retired e ∷ b) 0 n g))
      by (behind (suc m) g) = stayed (get-behind a (e ∷ b) (suc m) n g ∙ (sym (get-behind a (retired e ∷ b) (suc m) n g) ∙ h))

  nothing : (f : Placed → List (Key × ℕ)) → f (retired e) ≡ [] → (d : Placed) → d ≡ retired e → (k : Key) (x : ℕ) → place_in (f d) k ≡ Some x → ⊥
  nothing f h d g k x p = none-some (place_in (f d) k) x (ap (λ c. place_in (f c) k) g ∙ ap (λ xs. place_in xs k) h) p

  once-retired : (f : Placed → List (Key × ℕ)) → f (retired e) ≡ [] → ((i j : ℕ) (c d : Placed) (k : Key) (x y : ℕ) → slice_get (a ++ e ∷ b) i ≡ Some c → slice_get (a ++ e ∷ b) j ≡ Some d → place_in (f c) k ≡ Some x → place_in (f d) k ≡ Some y → i ≡ j) → (i j : ℕ) (c d : Placed) (k : Key) (x y : ℕ) → slice_get (a ++ retired e ∷ b) i ≡ Some c → slice_get (a ++ retired e ∷ b) j ≡ Some d → place_in (f c) k ≡ Some x → place_in (f d) k ≡ Some y → i ≡ j
  once-retired f h once i j c d k x y g l p q = by (was i c g) (was j d l)
    where
      by : Was i c → Was j d → i ≡ j
      by (stayed u) (stayed w) = once i j c d k x y u w p q
      by (became n u) w = absurd (nothing f h c u k x p)
      by (stayed u) (became n w) = absurd (nothing f h d w k y q)

  pub settled-retired : IsSettled (a ++ retired e ∷ b) funs
  settled-retired = record {
    distinct = s.distinct;
    few = s.few;
    unmixed = λ k h. ap (λ xs. place_in xs k) (fewer a b e statics_if refl) ∙ fewer-statics k (s.unmixed k h);
    numbered = λ k at h. fewer-jumps k at (sym (ap (λ xs. place_in xs k) (fewer a b e jumps_if refl)) ∙ h);
    once = record { jumps = once-retired jumps_if refl s.once.jumps; statics = once-retired statics_if refl s.once.statics };
    apart = subst AreApart (sym (same a b e texts_if (texts-retired e))) s.apart;
    low = λ t h. s.low t (subst (λ xs. Has t xs) (same a b e texts_if (texts-retired e)) h);
    high = λ t h. s.high t (subst (λ xs. Has t xs) (same a b e texts_if (texts-retired e)) h);
    held = λ d h. held d (was h.0 d h.1);
    single = subst AreSingle (sym (same a b e fixes_if (fixes-retired e))) s.single;
    one = subst AreOnePlaced (sym (same a b e literals_of refl)) s.one;
    below = λ d h x i. below d (was h.0 d h.1) x i;
    last = λ i j c d g h p q. order i j c d (was i c g) (was j d h) p q;
  }
    where
      held : (d : Placed) {n : ℕ} → Was n d → AreHeld (fixes_if d) (texts_if d)
      held d {n = n} (stayed u) = s.held d (n, u)
      held d (became m u) = subst (λ c. AreHeld (fixes_if c) (texts_if c)) (sym u) (subst (λ ts. AreHeld (fixes_if (retired e)) ts) (sym (texts-retired e)) (subst (λ fs. AreHeld fs (texts_if e)) (sym (fixes-retired e)) (s.held e (length a, entry-at a b e))))

      below : (d : Placed) {n : ℕ} → Was n d → (x : LiteralAt) → Has x (literals_of d) → x.at < static_top d
      below d {n = n} (stayed u) x i = s.below d (n, u) x i
      below d (became m u) x i = subst (λ c. x.at < static_top c) (sym u) (s.below e (length a, entry-at a b e) x (subst (λ c. Has x (literals_of c)) u i))

      order : (i j : ℕ) (c d : Placed) → Was i c → Was j d → c.retired ≡ false → c.home ≡ d.home → j ≤ i
      order i j c d (stayed u) (stayed w) p q = s.last i j c d u w p q
      order i j c d (became n u) w p q = absurd (true≢false (sym (ap (λ (x : Placed). x.retired) u) ∙ p))
      order i j c d (stayed u) (became n w) p q = s.last i j c e u (ap (slice_get (a ++ e ∷ b)) n ∙ entry-at a b e) p (q ∙ ap (λ (x : Placed). x.home) w)
