-- The image of a list with one entry more.
use Rattle.std.proofs.Common.{◌≡◌, ◌⊎◌, inl, inr, ℕ, zero, suc, ◌+◌, Bool, true, false, cond, List, [], ◌∷◌, ◌++◌, length, map, reverse, find, ◌&&◌, ◌%◌, ◌^◌, refl, sym, ap, ◌∙◌, Option, Some, None, subst, true≢false}
use Rattle.std.specs.Prelude.{flat_map, filter, option_and_then}
use Rattle.std.specs.List.{slice_get}
use Rattle.std.specs.Option.{option_or}
use Rattle.std.specs.Str.{bytes_eq}
use Rattle.sc_base.specs.declared.key.Key.{Key}
use Rattle.sc_object.specs.declared.object.Reloc.{Reloc}
use Rattle.sc_object.specs.declared.object.Symbol.{Symbol}
use Rattle.sc_isa_image.specs.declared.image.Image.{Image}
use Rattle.sc_isa_image.specs.declared.literals.Literal.{Literal}
use Rattle.sc_isa_image.specs.Lookups.{key_eq, value_of}
use Rattle.sc_link.specs.declared.placed.Placed.{Placed}
use Rattle.sc_link.specs.declared.placed.LiteralAt.{LiteralAt}
use Rattle.sc_link.specs.Symbols.{is_literal, key_of as symbol_key, place_of}
use Rattle.sc_link.specs.Entries.{Base, Fix, OfKey, Place, base_of, fix_at, fixes_at, fixes_if, fixes_in, fixes_of, has_second, is_object, jumps_if, jumps_in, literals_in, literals_of, spot_of, statics_if, statics_in, texts_if, texts_in}
use Rattle.sc_link.specs.Linked.{AreOnePlaced, IsLinked, at_of, base_value, is_literal_at, literal_of, literal_place, or_zero, place_in, stub_from, value_in}
use Rattle.sc_link.specs.Steps.{AreLiteralsFree, HasLiterals, Relocates}
use Rattle.sc_incr.specs.Stands.{Covers, Has, IsOpen, Stands}
use Rattle.sc_incr.specs.Parts.{Follows, HasEntry, fixes_for, fixes_for_all, key_of_pair, new_keys}
use Rattle.sc_incr.specs.Uses.{fixes_naming, is_key, key_by, key_named, names}
use Rattle.sc_incr.proofs.Adding.{stands-fixed, stands-linked}
use Rattle.sc_incr.proofs.Fixing.{Again}
use Rattle.sc_incr.proofs.Keys.{bytes-same, find-some, key-refl, key-same}
use Rattle.sc_incr.proofs.Members.{filter-has, flat-has, flat-snoc, has-back, has-filter, has-flat, has-front, has-nothing, has-reverse, has-split}
use Rattle.sc_incr.proofs.Numbers.{or-lookup, stub-behind, stub-known, stub-there}
use Rattle.sc_incr.proofs.Relocating.{relocates-then}

-- a key is in a list or not
data Known (k : Key) (ks : List Key) : Type 0 where
  known : Has k ks → Known k ks
  unknown : (Has k ks → ⊥) → Known k ks

decide : (k : Key) (ks : List Key) → Known k ks
decide k ks = by (stub_from 0 ks k) refl
  where
    by : (o : Option ℕ) → stub_from 0 ks k ≡ o → Known k ks
    by None e = unknown (λ h. stub-there 0 ks k h e)
    by (Some at) e = known (stub-known 0 ks k at e)

-- a key with a place is among the keys of the list
pub place-known : (xs : List (Key × ℕ)) (k : Key) (at : ℕ) → place_in xs k ≡ Some at → Has k (map key_of_pair xs)
place-known [] k at h = absurd (let z : ◌≡◌ {A = Option ℕ} None (Some at) = h in cc)
place-known (x ∷ xs) k at h = by (key_eq x.0 k) refl h (place-known xs k at)
  where
    by : (b : Bool) → key_eq x.0 k ≡ b → cond b (Some x.1) (place_in xs k) ≡ Some at → (place_in xs k ≡ Some at → Has k (map key_of_pair xs)) → Has k (x.0 ∷ map key_of_pair xs)
    by true e g rest = (0, ap Some (key-same x.0 k e))
    by false e g rest = let r = rest g in (suc r.0, r.1)

-- what gets no value with an entry has the value that it had
pub same-outside : (es : List Placed) (funs : List Key) (e : Placed) (more : List Key) (k : Key) → (Has k (new_keys e more) → ⊥) → value_in es funs k ≡ option_or (stub_from 0 (funs ++ more) k) (place_in (statics_in es ++ statics_if e) k)
same-outside es funs e more k h = λ m. option_or (stub m) (place m)
  where
    no-stub : (o : Option ℕ) → stub_from (length funs) more k ≡ o → stub_from (length funs) more k ≡ None
    no-stub None g = g
    no-stub (Some at) g = absurd (h (has-front more (map key_of_pair (statics_if e)) k (stub-known (length funs) more k at g)))

    no-place : (o : Option ℕ) → place_in (statics_if e) k ≡ o → place_in (statics_if e) k ≡ None
    no-place None g = g
    no-place (Some at) g = absurd (h (has-back more (map key_of_pair (statics_if e)) k (place-known (statics_if e) k at g)))

    or-none : (o : Option ℕ) → option_or o None ≡ o
    or-none None = refl
    or-none (Some n) = refl

    stub : stub_from 0 funs k ≡ stub_from 0 (funs ++ more) k
    stub = sym (stub-behind funs more k ∙ (ap (option_or (stub_from 0 funs k)) (no-stub (stub_from (length funs) more k) refl) ∙ or-none (stub_from 0 funs k)))

    place : place_in (statics_in es) k ≡ place_in (statics_in es ++ statics_if e) k
    place = sym (or-lookup (statics_in es) (statics_if e) k ∙ (ap (option_or (place_in (statics_in es) k)) (no-place (place_in (statics_if e) k) refl) ∙ or-none (place_in (statics_in es) k)))

-- to what a relocation adds
fix-base : (e : Placed) (r : Reloc) (f : Fix) → Has f (fixes_of e r) → f.base ≡ base_of e (slice_get e.object.symbols r.symbol)
fix-base e r f h = by (spot_of e r) h
  where
    b : Base
    b = base_of e (slice_get e.object.symbols r.symbol)

    one : (x : Fix) (n : ℕ) → x.base ≡ b → slice_get (x ∷ []) n ≡ Some f → f.base ≡ b
    one x zero c g = let s : x ≡ f = cc in ap (λ (y : Fix). y.base) (sym s) ∙ c
    one x (suc n) c g = absurd (has-nothing f (n, g))

    second : (x : Fix) (c : Bool) (n : ℕ) → x.base ≡ b → slice_get (cond c (x ∷ []) []) n ≡ Some f → f.base ≡ b
    second x true n c g = one x n c g
    second x false n c g = absurd (has-nothing f (n, g))

    first : (x y : Fix) (c : Bool) (n : ℕ) → x.base ≡ b → y.base ≡ b → slice_get (x ∷ cond c (y ∷ []) []) n ≡ Some f → f.base ≡ b
    first x y c zero d i g = let s : x ≡ f = cc in ap (λ (z : Fix). z.base) (sym s) ∙ d
    first x y c (suc n) d i g = second y c n i g

    by : (o : Option (ℕ × ℕ)) → Has f (fixes_at e r o) → f.base ≡ b
    by None i = absurd (has-nothing f i)
    by (Some spot) i = first (fix_at e r spot.0 false spot.0) (fix_at e r spot.0 true ((spot.0 + 4) % 2 ^ 32)) (has_second r spot.1) i.0 refl refl i.1

-- a relocation that names no key adds to the same under all values
unnamed : (v w : Key → Option ℕ) (e : Placed) (s : Option Symbol) → option_and_then (key_by e.home) s ≡ None → base_value v (base_of e s) ≡ base_value w (base_of e s)
unnamed v w e None h = refl
unnamed v w e (Some s) h = by (is_literal s.name) h
  where
    none : (k : Option Key) → k ≡ None → or_zero (option_and_then v k) ≡ or_zero (option_and_then w k)
    none None g = refl
    none (Some k) g = absurd (cc)

    by : (b : Bool) → cond b None (symbol_key e.home s) ≡ None → base_value v (cond b (Place (place_of e s)) (OfKey (symbol_key e.home s))) ≡ base_value w (cond b (Place (place_of e s)) (OfKey (symbol_key e.home s)))
    by true g = refl
    by false g = none (symbol_key e.home s) g

-- one that names a key adds to its value
named : (v w : Key → Option ℕ) (e : Placed) (s : Option Symbol) (k : Key) → option_and_then (key_by e.home) s ≡ Some k → v k ≡ w k → base_value v (base_of e s) ≡ base_value w (base_of e s)
named v w e None k h same = refl
named v w e (Some s) k h same = by (is_literal s.name) h
  where
    some : (x : Option Key) → x ≡ Some k → or_zero (option_and_then v x) ≡ or_zero (option_and_then w x)
    some None g = absurd (cc)
    some (Some y) g = let z : y ≡ k = cc in ap (λ q. or_zero (v q)) z ∙ (ap or_zero same ∙ ap (λ q. or_zero (w q)) (sym z))

    by : (b : Bool) → cond b None (symbol_key e.home s) ≡ Some k → base_value v (cond b (Place (place_of e s)) (OfKey (symbol_key e.home s))) ≡ base_value w (cond b (Place (place_of e s)) (OfKey (symbol_key e.home s)))
    by true g = absurd (cc)
    by false g = some (symbol_key e.home s) g

-- the fixes of an entry in object form
pub fix-reloc : (e : Placed) (f : Fix) → Has f (fixes_if e) → (is_object e.form ≡ true) × ((r : Reloc) × (Has r e.object.relocs × Has f (fixes_of e r)))
fix-reloc e f h = by (is_object e.form) h
  where
    by : (b : Bool) → Has f (cond b (flat_map (fixes_of e) e.object.relocs) []) → (b ≡ true) × ((r : Reloc) × (Has r e.object.relocs × Has f (fixes_of e r)))
    by true i = (refl, has-flat (fixes_of e) e.object.relocs f i)
    by false i = absurd (has-nothing f i)

reloc-fix : (e : Placed) (k : Key) (f : Fix) (r : Reloc) → is_object e.form ≡ true → Has r e.object.relocs → names e.home e.object k r ≡ true → Has f (fixes_of e r) → Has f (fixes_naming k e)
reloc-fix e k f r o h n i = by (is_object e.form) o
  where
    by : (b : Bool) → b ≡ true → Has f (cond b (flat_map (fixes_of e) (filter (names e.home e.object k) e.object.relocs)) [])
    by true g = flat-has (fixes_of e) (filter (names e.home e.object k) e.object.relocs) r f (filter-has (names e.home e.object k) e.object.relocs r h n) i
    by false g = absurd (true≢false (sym g))

naming-fix : (e : Placed) (k : Key) (f : Fix) → Has f (fixes_naming k e) → Has f (fixes_if e)
naming-fix e k f h = by (is_object e.form) h
  where
    by : (b : Bool) → Has f (cond b (flat_map (fixes_of e) (filter (names e.home e.object k) e.object.relocs)) []) → Has f (cond b (flat_map (fixes_of e) e.object.relocs) [])
    by true i = let r = has-flat (fixes_of e) (filter (names e.home e.object k) e.object.relocs) f i in flat-has (fixes_of e) e.object.relocs r.0 f (has-filter (names e.home e.object k) e.object.relocs r.0 r.1.0) r.1.1
    by false i = i

-- what is made again stands in the list
pub again-inside : (es : List Placed) (keys : List Key) (f : Fix) → Has f (fixes_for_all es keys) → Has f (fixes_in es)
again-inside es keys f h =
    let a = has-flat (fixes_for es) keys f h in
    let b = has-flat (fixes_naming a.0) es f a.1.1 in
    flat-has fixes_if es b.0 f b.1.0 (naming-fix b.0 a.0 f b.1.1)

-- each relocation is made again, or adds to what it added to
pub again-covers : (v w : Key → Option ℕ) (es : List Placed) (keys : List Key) → ((k : Key) → (Has k keys → ⊥) → v k ≡ w k) → (f : Fix) → Has f (fixes_in es) → Has f (fixes_for_all es keys) ⊎ (base_value v f.base ≡ base_value w f.base)
again-covers v w es keys same f h =
    let a = has-flat fixes_if es f h in
    let r = fix-reloc a.0 f a.1.1 in
    by a.0 a.1.0 r.0 r.1.0 r.1.1.0 r.1.1.1 (key_named a.0.home a.0.object r.1.0) refl
  where
    onto : (e : Placed) (r : Reloc) → Has f (fixes_of e r) → base_value v (base_of e (slice_get e.object.symbols r.symbol)) ≡ base_value w (base_of e (slice_get e.object.symbols r.symbol)) → base_value v f.base ≡ base_value w f.base
    onto e r i g = let b = fix-base e r f i in ap (base_value v) b ∙ (g ∙ ap (base_value w) (sym b))

    key : (e : Placed) → Has e es → is_object e.form ≡ true → (r : Reloc) → Has r e.object.relocs → Has f (fixes_of e r) → (k : Key) → key_named e.home e.object r ≡ Some k → Known k keys → Has f (fixes_for_all es keys) ⊎ (base_value v f.base ≡ base_value w f.base)
    key e i o r j g k n (known m) =
        inl (flat-has (fixes_for es) keys k f m (flat-has (fixes_naming k) es e f i (reloc-fix e k f r o j (ap (is_key k) n ∙ key-refl k) g)))
    key e i o r j g k n (unknown m) = inr (onto e r g (named v w e (slice_get e.object.symbols r.symbol) k n (same k m)))

    by : (e : Placed) → Has e es → is_object e.form ≡ true → (r : Reloc) → Has r e.object.relocs → Has f (fixes_of e r) → (x : Option Key) → key_named e.home e.object r ≡ x → Has f (fixes_for_all es keys) ⊎ (base_value v f.base ≡ base_value w f.base)
    by e i o r j g None n = inr (onto e r g (unnamed v w e (slice_get e.object.symbols r.symbol) n))
    by e i o r j g (Some k) n = key e i o r j g k n (decide k keys)

pub literal-same : (l : Literal) (x : LiteralAt) → is_literal_at l x ≡ true → literal_of x ≡ l
literal-same l x h = by (bytes_eq x.«module» l.«module») refl h
  where
    by : (b : Bool) → bytes_eq x.«module» l.«module» ≡ b → b && bytes_eq x.bytes l.bytes ≡ true → literal_of x ≡ l
    by true e g = let a = bytes-same x.«module» l.«module» e in let b = bytes-same x.bytes l.bytes g in λ i. record { «module» = a i; bytes = b i }
    by false e g = absurd (true≢false (sym g))

-- the literals of an entry are where none other is
place-has : (ls : List LiteralAt) (l : Literal) (at : ℕ) → literal_place ls l ≡ Some at → (x : LiteralAt) × (Has x ls × ((literal_of x ≡ l) × (x.at ≡ at)))
place-has ls l at h = by (find (is_literal_at l) (reverse ls)) refl h
  where
    by : (o : Option LiteralAt) → find (is_literal_at l) (reverse ls) ≡ o → at_of o ≡ Some at → (x : LiteralAt) × (Has x ls × ((literal_of x ≡ l) × (x.at ≡ at)))
    by None e g = absurd (cc)
    by (Some x) e g = let f = find-some (is_literal_at l) (reverse ls) x e in (x, (has-reverse ls x (f.0, f.1), (literal-same l x f.2, cc)))

pub literals-free : (ls more : List LiteralAt) (i : Image) → HasLiterals ls i → AreOnePlaced (ls ++ more) → AreLiteralsFree more i
literals-free ls more i h one = record {
  free = λ n x l g e. let p = place-has ls l x.at ((h l x.at).0 e) in let a = has-front ls more p.0 p.1.0 in let b = has-back ls more x (n, g) in sym p.1.1.0 ∙ one a.0 b.0 p.0 x a.1 b.1 p.1.1.1;
  apart = λ m n x y g e s. let a = has-back ls more x (m, g) in let b = has-back ls more y (n, e) in one a.0 b.0 x y a.1 b.1 s;
}

pub linked-entered : (again : Again) (es : List Placed) (funs : List Key) (e : Placed) (more changed : List Key) (h i j k : Image) → Follows es funs e more → (has : IsOpen es funs changed h) → HasEntry has.value es funs e more i → ((q : Key) → Has q (new_keys e more) → Has q changed) → ((value : Key → Option ℕ) → ((q : Key) → value_of i q ≡ value q) → Relocates value (fixes_if e) i j) → ((value : Key → Option ℕ) → ((q : Key) → value_of j q ≡ value q) → Relocates value (fixes_for_all es changed) j k) → IsLinked (es ++ e ∷ []) (funs ++ more) k
linked-entered again es funs e more changed h i j k follows has stands c first rest =
    stands-linked (es ++ e ∷ []) (funs ++ more) k
    (subst (λ x. Stands (funs ++ more) x (jumps_in (es ++ e ∷ [])) (texts_in (es ++ e ∷ [])) (fixes_in (es ++ e ∷ [])) (value_in (es ++ e ∷ []) (funs ++ more)) (literals_in (es ++ e ∷ [])) k) (sym (flat-snoc statics_if es e))
    (subst (λ x. Stands (funs ++ more) (statics_in es ++ statics_if e) x (texts_in (es ++ e ∷ [])) (fixes_in (es ++ e ∷ [])) (value_in (es ++ e ∷ []) (funs ++ more)) (literals_in (es ++ e ∷ [])) k) (sym (flat-snoc jumps_if es e))
    (subst (λ x. Stands (funs ++ more) (statics_in es ++ statics_if e) (jumps_in es ++ jumps_if e) x (fixes_in (es ++ e ∷ [])) (value_in (es ++ e ∷ []) (funs ++ more)) (literals_in (es ++ e ∷ [])) k) (sym (flat-snoc texts_if es e))
    (subst (λ x. Stands (funs ++ more) (statics_in es ++ statics_if e) (jumps_in es ++ jumps_if e) (texts_in es ++ texts_if e) x (value_in (es ++ e ∷ []) (funs ++ more)) (literals_in (es ++ e ∷ [])) k) (sym (flat-snoc fixes_if es e))
    (subst (λ x. Stands (funs ++ more) (statics_in es ++ statics_if e) (jumps_in es ++ jumps_if e) (texts_in es ++ texts_if e) (fixes_in es ++ fixes_if e) (value_in (es ++ e ∷ []) (funs ++ more)) x k) (sym (flat-snoc literals_of es e))
    (stands-fixed (funs ++ more) (statics_in es ++ statics_if e) (jumps_in es ++ jumps_if e) (texts_in es ++ texts_if e) (fixes_in es) has.value (literals_in es ++ literals_of e) again after (fixes_in es ++ fixes_if e) (fixes_if e ++ fixes_for_all es changed) i k stands follows.single covers made))))))
  where
    after : Key → Option ℕ
    after = value_in (es ++ e ∷ []) (funs ++ more)

    values : (q : Key) → value_of i q ≡ after q
    values q = stands.values q ∙ ap (λ x. option_or (stub_from 0 (funs ++ more) q) (place_in x q)) (sym (flat-snoc statics_if es e))

    one : Relocates after (fixes_if e) i j
    one = first after values

    made : Relocates after (fixes_if e ++ fixes_for_all es changed) i k
    made = relocates-then after (fixes_if e) (fixes_for_all es changed) i j k one (rest after (λ q. one.values q ∙ values q))

    outside : (q : Key) → (Has q changed → ⊥) → has.value q ≡ after q
    outside q n = has.same q n ∙ (same-outside es funs e more q (λ h. n (c q h)) ∙ ap (λ x. option_or (stub_from 0 (funs ++ more) q) (place_in x q)) (sym (flat-snoc statics_if es e)))

    inside : (f : Fix) → Has f (fixes_if e) ⊎ Has f (fixes_for_all es changed) → Has f (fixes_in es ++ fixes_if e)
    inside f (inl h) = has-back (fixes_in es) (fixes_if e) f h
    inside f (inr h) = has-front (fixes_in es) (fixes_if e) f (again-inside es changed f h)

    old : (f : Fix) → Has f (fixes_in es) → Has f (fixes_for_all es changed) ⊎ (base_value has.value f.base ≡ base_value after f.base) → Has f (fixes_if e ++ fixes_for_all es changed) ⊎ (Has f (fixes_in es) × (base_value has.value f.base ≡ base_value after f.base))
    old f h (inl g) = inl (has-back (fixes_if e) (fixes_for_all es changed) f g)
    old f h (inr g) = inr (h, g)

    all : (f : Fix) → Has f (fixes_in es) ⊎ Has f (fixes_if e) → Has f (fixes_if e ++ fixes_for_all es changed) ⊎ (Has f (fixes_in es) × (base_value has.value f.base ≡ base_value after f.base))
    all f (inl h) = old f h (again-covers has.value after es changed outside f h)
    all f (inr h) = inl (has-front (fixes_if e) (fixes_for_all es changed) f h)

    covers : Covers has.value after (fixes_in es) (fixes_in es ++ fixes_if e) (fixes_if e ++ fixes_for_all es changed)
    covers = record {
      kept = λ f h. has-front (fixes_in es) (fixes_if e) f h;
      inside = λ f h. inside f (has-split (fixes_if e) (fixes_for_all es changed) f h);
      covers = λ f h. all f (has-split (fixes_in es) (fixes_if e) f h);
    }
