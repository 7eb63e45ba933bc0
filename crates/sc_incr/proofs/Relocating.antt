-- Relocations one after another.
use Rattle.std.proofs.Common.{◌≡◌, ℕ, zero, suc, ◌+◌, ◌==◌, Bool, true, false, cond, List, [], ◌∷◌, ◌++◌, length, map, take, append_assoc, refl, sym, ap, ◌∙◌, Option, Some, None, arith, true≢false, add-one, subst}
use Rattle.std.proofs.lemmas.List.{append-nil}
use Rattle.std.specs.Prelude.{nat_lt, flat_map, filter, option_and_then, option_to_list}
use Rattle.std.specs.List.{slice_get}
use Rattle.std.specs.Map.{lookup}
use Rattle.std.specs.Option.{option_map}
use Rattle.sc_base.specs.declared.key.Key.{Key}
use Rattle.sc_object.specs.declared.object.Object.{Object}
use Rattle.sc_object.specs.declared.object.Reloc.{Reloc}
use Rattle.sc_object.specs.declared.object.Symbol.{Symbol}
use Rattle.sc_isa_image.specs.declared.image.Image.{Image}
use Rattle.sc_isa_image.specs.Lookups.{Spends, key_eq, word_at}
use Rattle.sc_link.specs.declared.placed.Placed.{Placed}
use Rattle.sc_link.specs.Symbols.{is_literal, key_of, place_of}
use Rattle.sc_link.specs.Entries.{Fix, OfKey, Place, base_of, fixes_if, fixes_of, is_object}
use Rattle.sc_link.specs.Linked.{base_value, fixed_all, fixed_by, or_zero}
use Rattle.sc_link.specs.Steps.{Relocates}
use Rattle.sc_incr.specs.Parts.{AllAddTo, fixes_at_position, fixes_placed, key_value}
use Rattle.sc_incr.specs.Uses.{fixes_naming, is_key, key_by, names, or_nothing, positions, use_at, users_from, uses_of}
use Rattle.sc_incr.proofs.Keys.{key-same, none-some, same-some}
use Rattle.sc_incr.proofs.Numbers.{get-behind}

pub spends-then : (i j f : Image) (a b c d p q r s x y z w : ℕ) → Spends i j a b c d → Spends j f p q r s → x ≡ a + p → y ≡ b + q → z ≡ c + r → w ≡ d + s → Spends i f x y z w
spends-then i j f a b c d p q r s x y z w g h ex ey ez ew = record {
  for_texts = let u = g.for_texts in let v = h.for_texts in omega arith;
  for_values = let u = g.for_values in let v = h.for_values in omega arith;
  for_literals = let u = g.for_literals in let v = h.for_literals in omega arith;
  for_functions = let u = g.for_functions in let v = h.for_functions in omega arith;
}

pub spends-none : (i : Image) → Spends i i 0 0 0 0
spends-none i = record { for_texts = omega arith; for_values = omega arith; for_literals = omega arith; for_functions = omega arith }

map-same : (f : ℕ → ℕ) (r : Option ℕ) → ((w : ℕ) → f w ≡ w) → option_map f r ≡ r
map-same f None h = refl
map-same f (Some w) h = ap Some (h w)

same-if : (b : Bool) (r s : Option ℕ) → s ≡ r → r ≡ cond b r s
same-if true r s h = refl
same-if false r s h = sym h

pub relocates-none : (value : Key → Option ℕ) (i : Image) → Relocates value [] i i
relocates-none value i = record {
  words = λ pc. same-if (nat_lt pc 0x00100000) (word_at i pc) (option_map (fixed_all value [] pc) (word_at i pc)) (map-same (fixed_all value [] pc) (word_at i pc) (λ w. refl));
  count = refl;
  keys = λ at. refl;
  values = λ q. refl;
  texts = λ pc. refl;
  literals = λ at. refl;
  room = spends-none i;
}

pub fixed-append : (value : Key → Option ℕ) (xs ys : List Fix) (pc w : ℕ) → fixed_all value ys pc (fixed_all value xs pc w) ≡ fixed_all value (xs ++ ys) pc w
fixed-append value [] ys pc w = refl
fixed-append value (x ∷ xs) ys pc w = fixed-append value xs ys pc (cond (x.at == pc) (fixed_by value x w) w)

map-twice : (value : Key → Option ℕ) (xs ys : List Fix) (pc : ℕ) (b : Bool) (r : Option ℕ) → cond b (cond b r (option_map (fixed_all value xs pc) r)) (option_map (fixed_all value ys pc) (cond b r (option_map (fixed_all value xs pc) r))) ≡ cond b r (option_map (fixed_all value (xs ++ ys) pc) r)
map-twice value xs ys pc true r = refl
map-twice value xs ys pc false None = refl
map-twice value xs ys pc false (Some w) = ap Some (fixed-append value xs ys pc w)

pub relocates-then : (value : Key → Option ℕ) (xs ys : List Fix) (i j f : Image) → Relocates value xs i j → Relocates value ys j f → Relocates value (xs ++ ys) i f
relocates-then value xs ys i j f p q = record {
  words = λ pc.
      q.words pc ∙ (ap (λ r. cond (nat_lt pc 0x00100000) r (option_map (fixed_all value ys pc) r)) (p.words pc)
      ∙ map-twice value xs ys pc (nat_lt pc 0x00100000) (word_at i pc));
  count = q.count ∙ p.count;
  keys = λ at. q.keys at ∙ p.keys at;
  values = λ k. q.values k ∙ p.values k;
  texts = λ pc. q.texts pc ∙ p.texts pc;
  literals = λ at. q.literals at ∙ p.literals at;
  room = spends-then i j f 0 0 0 0 0 0 0 0 0 0 0 0 p.room q.room (omega arith) (omega arith) (omega arith) (omega arith);
}

flat-more : {A : Type 0} (f : A → List Fix) (xs : List A) (n : ℕ) (x : A) → slice_get xs n ≡ Some x → flat_map f (take (suc n) xs) ≡ flat_map f (take n xs) ++ f x
flat-more f [] n x h = absurd (cc)
flat-more f (y ∷ xs) zero x h = append-nil (f y) ∙ ap f (same-some y x h)
flat-more f (y ∷ xs) (suc n) x h = ap (λ zs. f y ++ zs) (flat-more f xs n x h) ∙ sym (append_assoc (f y) (flat_map f (take n xs)) (f x))

pub relocates-more : {A : Type 0} (value : Key → Option ℕ) (f : A → List Fix) (xs : List A) (n : ℕ) (x : A) (i j k : Image) → slice_get xs n ≡ Some x → Relocates value (flat_map f (take n xs)) i j → Relocates value (f x) j k → Relocates value (flat_map f (take (n + 1) xs)) i k
relocates-more value f xs n x i j k h p q = subst (λ fs. Relocates value fs i k) (sym (ap (λ m. flat_map f (take m xs)) (add-one n) ∙ flat-more f xs n x h)) (relocates-then value (flat_map f (take n xs)) (f x) i j k p q)

-- an entry in object form, and one that is not
pub placed-object : (value : Key → Option ℕ) (e : Placed) (ps : List ℕ) (i j : Image) → is_object e.form ≡ true → Relocates value (flat_map (fixes_at_position e) ps) i j → Relocates value (fixes_placed e ps) i j
placed-object value e ps i j h p = by (is_object e.form) h
  where
    by : (b : Bool) → b ≡ true → Relocates value (cond b (flat_map (fixes_at_position e) ps) []) i j
    by true g = p
    by false g = absurd (true≢false (sym g))

pub placed-source : (value : Key → Option ℕ) (e : Placed) (ps : List ℕ) (i : Image) → is_object e.form ≡ false → Relocates value (fixes_placed e ps) i i
placed-source value e ps i h = by (is_object e.form) h
  where
    by : (b : Bool) → b ≡ false → Relocates value (cond b (flat_map (fixes_at_position e) ps) []) i i
    by true g = absurd (true≢false g)
    by false g = relocates-none value i

-- the relocation at a position
pub position-some : (value : Key → Option ℕ) (e : Placed) (at : ℕ) (r : Reloc) (i j : Image) → slice_get e.object.relocs at ≡ Some r → Relocates value (fixes_of e r) i j → Relocates value (fixes_at_position e at) i j
position-some value e at r i j h p = subst (λ o. Relocates value (flat_map (fixes_of e) (option_to_list o)) i j) (sym h) (subst (λ fs. Relocates value fs i j) (sym (append-nil (fixes_of e r))) p)

pub position-none : (value : Key → Option ℕ) (e : Placed) (at : ℕ) (i : Image) → slice_get e.object.relocs at ≡ None → Relocates value (fixes_at_position e at) i i
position-none value e at i h = subst (λ o. Relocates value (flat_map (fixes_of e) (option_to_list o)) i i) (sym h) (relocates-none value i)

-- the relocations at the positions of those that name a key are those that name it
flat-positions : (e : Placed) (key : Key) (before rs : List Reloc) (n : ℕ) → e.object.relocs ≡ before ++ rs → n ≡ length before → flat_map (fixes_at_position e) (positions e.home e.object key n rs) ≡ flat_map (fixes_of e) (filter (names e.home e.object key) rs)
flat-positions e key before [] n h l = refl
flat-positions e key before (r ∷ rs) n h l = by (names e.home e.object key r) (flat-positions e key (before ++ r ∷ []) rs (n + 1) (h ∙ sym (append_assoc before (r ∷ []) rs)) (ap (λ m. m + 1) l ∙ sym (length-snoc before r)))
  where
    length-snoc : (xs : List Reloc) (x : Reloc) → length (xs ++ x ∷ []) ≡ length xs + 1
    length-snoc [] x = refl
    length-snoc (y ∷ xs) x = let z = length-snoc xs x in omega arith

    there : slice_get e.object.relocs n ≡ Some r
    there = ap (λ xs. slice_get xs n) h ∙ get-behind before (r ∷ rs) 0 n (l ∙ omega arith)

    by : (b : Bool) → flat_map (fixes_at_position e) (positions e.home e.object key (n + 1) rs) ≡ flat_map (fixes_of e) (filter (names e.home e.object key) rs) → flat_map (fixes_at_position e) (cond b (n ∷ positions e.home e.object key (n + 1) rs) (positions e.home e.object key (n + 1) rs)) ≡ flat_map (fixes_of e) (cond b (r ∷ filter (names e.home e.object key) rs) (filter (names e.home e.object key) rs))
    by true g = (λ m. flat_map (fixes_of e) (option_to_list (there m)) ++ g m) ∙ ap (λ xs. xs ++ flat_map (fixes_of e) (filter (names e.home e.object key) rs)) (append-nil (fixes_of e r))
    by false g = g

pub all-positions : (e : Placed) (key : Key) → flat_map (fixes_at_position e) (uses_of e.home e.object key) ≡ flat_map (fixes_of e) (filter (names e.home e.object key) e.object.relocs)
all-positions e key = flat-positions e key [] e.object.relocs 0 refl refl

-- each of them names the key
positions-name : (home : List ℕ) (o : Object) (key : Key) (before rs : List Reloc) (n : ℕ) → o.relocs ≡ before ++ rs → n ≡ length before → (at m : ℕ) → slice_get (positions home o key n rs) m ≡ Some at → (r : Reloc) → slice_get o.relocs at ≡ Some r → names home o key r ≡ true
positions-name home o key before [] n h l at m g r e = absurd (none-some (slice_get [] m) at refl g)
positions-name home o key before (x ∷ rs) n h l at m g r e = by (names home o key x) refl m g (λ k i. positions-name home o key (before ++ x ∷ []) rs (n + 1) (h ∙ sym (append_assoc before (x ∷ []) rs)) (ap (λ k. k + 1) l ∙ sym (length-snoc before x)) at k i r e)
  where
    length-snoc : (xs : List Reloc) (x : Reloc) → length (xs ++ x ∷ []) ≡ length xs + 1
    length-snoc [] x = refl
    length-snoc (y ∷ xs) x = let z = length-snoc xs x in omega arith

    there : slice_get o.relocs n ≡ Some x
    there = ap (λ xs. slice_get xs n) h ∙ get-behind before (x ∷ rs) 0 n (l ∙ omega arith)

    by : (b : Bool) → names home o key x ≡ b → (m : ℕ) → slice_get (cond b (n ∷ positions home o key (n + 1) rs) (positions home o key (n + 1) rs)) m ≡ Some at → ((k : ℕ) → slice_get (positions home o key (n + 1) rs) k ≡ Some at → names home o key r ≡ true) → names home o key r ≡ true
    by true c zero i rest = ap (names home o key) (same-some r x (sym e ∙ (ap (slice_get o.relocs) (sym (same-some n at i)) ∙ there))) ∙ c
    by true c (suc k) i rest = rest k i
    by false c k i rest = rest k i

-- to what they add
adds-by : (value : Key → Option ℕ) (e : Placed) (key : Key) (base : ℕ) (s : Option Symbol) → is_key key (option_and_then (key_by e.home) s) ≡ true → or_zero (value key) ≡ base → base_value value (base_of e s) ≡ base
adds-by value e key base None h b = absurd (true≢false (sym h))
adds-by value e key base (Some s) h b = by (is_literal s.name) h
  where
    named : (k : Option Key) → is_key key k ≡ true → or_zero (option_and_then value k) ≡ base
    named None g = absurd (true≢false (sym g))
    named (Some k) g = ap (λ x. or_zero (value x)) (key-same k key g) ∙ b

    by : (c : Bool) → is_key key (cond c None (key_of e.home s)) ≡ true → base_value value (cond c (Place (place_of e s)) (OfKey (key_of e.home s))) ≡ base
    by true g = absurd (true≢false (sym g))
    by false g = named (key_of e.home s) g

pub all-add : (value : Key → Option ℕ) (e : Placed) (key : Key) (base : ℕ) → or_zero (value key) ≡ base → AllAddTo value e base (uses_of e.home e.object key)
all-add value e key base b at r h g = adds-by value e key base (slice_get e.object.symbols r.symbol) (positions-name e.home e.object key [] e.object.relocs 0 refl refl at h.0 h.1 r g) b

-- the relocations of an entry that name a key
pub patched : (e f : Placed) (ps : List ℕ) (key : Key) (base : ℕ) (i j : Image) → f ≡ e → ps ≡ uses_of e.home e.object key → ((value : Key → Option ℕ) → AllAddTo value f base ps → Relocates value (fixes_placed f ps) i j) → (value : Key → Option ℕ) → or_zero (value key) ≡ base → Relocates value (fixes_naming key e) i j
patched e f ps key base i j h g r value b =
    let s : (value : Key → Option ℕ) → AllAddTo value e base ps → Relocates value (fixes_placed e ps) i j = subst (λ x. (value : Key → Option ℕ) → AllAddTo value x base ps → Relocates value (fixes_placed x ps) i j) h r in
    let t : (value : Key → Option ℕ) → AllAddTo value e base (uses_of e.home e.object key) → Relocates value (fixes_placed e (uses_of e.home e.object key)) i j = subst (λ x. (value : Key → Option ℕ) → AllAddTo value e base x → Relocates value (fixes_placed e x) i j) g s in
    subst (λ fs. Relocates value fs i j) (ap (λ xs. cond (is_object e.form) xs []) (all-positions e key)) (t value (all-add value e key base b))

-- by the keys of symbols
pub keyed : (value : Key → Option ℕ) (home : List ℕ) (ss : List Symbol) (n : ℕ) (s : Symbol) → slice_get ss n ≡ Some s → key_value value (slice_get (map (key_of home) ss) n) ≡ or_zero (option_and_then value (key_of home s))
keyed value home [] n s h = absurd (none-some (slice_get [] n) s refl h)
keyed value home (x ∷ ss) zero s h = by (key_of home x) ∙ ap (λ y. or_zero (option_and_then value (key_of home y))) (same-some x s h)
  where
    by : (k : Option Key) → key_value value (Some k) ≡ or_zero (option_and_then value k)
    by None = refl
    by (Some k) = refl
keyed value home (x ∷ ss) (suc n) s h = keyed value home ss n s h

take-more : {A : Type 0} (xs : List A) (n : ℕ) (x : A) → slice_get xs n ≡ Some x → take (suc n) xs ≡ take n xs ++ x ∷ []
take-more [] n x h = absurd (none-some (slice_get [] n) x refl h)
take-more (y ∷ xs) zero x h = ap (λ z. z ∷ []) (same-some y x h)
take-more (y ∷ xs) (suc n) x h = ap (λ zs. y ∷ zs) (take-more xs n x h)

length-take : {A : Type 0} (xs : List A) (n : ℕ) (x : A) → slice_get xs n ≡ Some x → length (take n xs) ≡ n
length-take [] n x h = absurd (none-some (slice_get [] n) x refl h)
length-take (y ∷ xs) zero x h = refl
length-take (y ∷ xs) (suc n) x h = let l = length-take xs n x h in omega arith

-- one relocation more
pub positions-more : (home : List ℕ) (o : Object) (key : Key) (n : ℕ) (rs : List Reloc) (r : Reloc) → positions home o key n (rs ++ r ∷ []) ≡ positions home o key n rs ++ cond (names home o key r) ((n + length rs) ∷ []) []
positions-more home o key n [] r = by (names home o key r)
  where
    by : (b : Bool) → cond b (n ∷ []) [] ≡ cond b ((n + 0) ∷ []) []
    by true = ap (λ m. m ∷ []) (omega arith)
    by false = refl
positions-more home o key n (x ∷ rs) r = by (names home o key x) (positions-more home o key (n + 1) rs r)
  where
    by : (b : Bool) → positions home o key (n + 1) (rs ++ r ∷ []) ≡ positions home o key (n + 1) rs ++ cond (names home o key r) (((n + 1) + length rs) ∷ []) [] → cond b (n ∷ positions home o key (n + 1) (rs ++ r ∷ [])) (positions home o key (n + 1) (rs ++ r ∷ [])) ≡ cond b (n ∷ positions home o key (n + 1) rs) (positions home o key (n + 1) rs) ++ cond (names home o key r) ((n + length (x ∷ rs)) ∷ []) []
    by true g = ap (λ xs. n ∷ xs) (g ∙ ap (λ m. positions home o key (n + 1) rs ++ cond (names home o key r) (m ∷ []) []) (omega arith))
    by false g = g ∙ ap (λ m. positions home o key (n + 1) rs ++ cond (names home o key r) (m ∷ []) []) (omega arith)

pub positions-next : (home : List ℕ) (o : Object) (key : Key) (rs : List Reloc) (n : ℕ) (r : Reloc) → slice_get rs n ≡ Some r → positions home o key 0 (take (n + 1) rs) ≡ positions home o key 0 (take n rs) ++ cond (names home o key r) (n ∷ []) []
positions-next home o key rs n r h =
    ap (positions home o key 0) (ap (λ m. take m rs) (add-one n) ∙ take-more rs n r h)
    ∙ (positions-more home o key 0 (take n rs) r ∙ ap (λ m. positions home o key 0 (take n rs) ++ cond (names home o key r) (m ∷ []) []) (ap (λ m. 0 + m) (length-take rs n r h) ∙ omega arith))

-- a list under a key
pub inserted : (r s : Option (List ℕ)) (b : Bool) (xs : List ℕ) (at : ℕ) → s ≡ cond b (Some xs) r → xs ≡ at ∷ [] → (b ≡ true → r ≡ None) → or_nothing s ≡ or_nothing r ++ cond b (at ∷ []) []
inserted r s true xs at e x n = ap or_nothing e ∙ (x ∙ ap (λ y. or_nothing y ++ at ∷ []) (sym (n refl)))
inserted r s false xs at e x n = ap or_nothing e ∙ sym (append-nil (or_nothing r))

pub pushed : (r s : Option (List ℕ)) (b : Bool) (old xs : List ℕ) (at : ℕ) → s ≡ cond b (Some xs) r → xs ≡ old ++ at ∷ [] → (b ≡ true → r ≡ Some old) → or_nothing s ≡ or_nothing r ++ cond b (at ∷ []) []
pushed r s true old xs at e x n = ap or_nothing e ∙ (x ∙ ap (λ y. or_nothing y ++ at ∷ []) (sym (n refl)))
pushed r s false old xs at e x n = ap or_nothing e ∙ sym (append-nil (or_nothing r))

pub lookup-same : (entries : List (Key × List ℕ)) (k q : Key) → key_eq k q ≡ true → lookup (key_eq q) entries ≡ lookup (key_eq k) entries
lookup-same entries k q h = ap (λ x. lookup (key_eq x) entries) (sym (key-same k q h))

-- to what relocations add, by values that are the same
pub base-of-values : (value other : Key → Option ℕ) (e : Placed) (s : Option Symbol) (base : ℕ) → ((k : Key) → other k ≡ value k) → base ≡ base_value other (base_of e s) → base_value value (base_of e s) ≡ base
base-of-values value other e s base h b = sym (b ∙ (λ m. base_value (λ k. h k m) (base_of e s)))

pub relocates-if : (value : Key → Option ℕ) (e : Placed) (i j : Image) → is_object e.form ≡ true → Relocates value (flat_map (fixes_of e) e.object.relocs) i j → Relocates value (fixes_if e) i j
relocates-if value e i j h p = by (is_object e.form) h
  where
    by : (b : Bool) → b ≡ true → Relocates value (cond b (flat_map (fixes_of e) e.object.relocs) []) i j
    by true g = p
    by false g = absurd (true≢false (sym g))

pub relocates-else : (value : Key → Option ℕ) (e : Placed) (i : Image) → is_object e.form ≡ false → Relocates value (fixes_if e) i i
relocates-else value e i h = by (is_object e.form) h
  where
    by : (b : Bool) → b ≡ false → Relocates value (cond b (flat_map (fixes_of e) e.object.relocs) []) i i
    by true g = absurd (true≢false g)
    by false g = relocates-none value i

-- the users of a key, with one entry more
users-more : (n : ℕ) (es : List Placed) (e : Placed) (key : Key) → users_from n (es ++ e ∷ []) key ≡ users_from n es key ++ map (use_at (n + length es)) (uses_of e.home e.object key)
users-more n [] e key = append-nil (map (use_at n) (uses_of e.home e.object key)) ∙ ap (λ m. map (use_at m) (uses_of e.home e.object key)) (omega arith)
users-more n (x ∷ es) e key =
    ap (λ xs. map (use_at n) (uses_of x.home x.object key) ++ xs) (users-more (n + 1) es e key ∙ ap (λ m. users_from (n + 1) es key ++ map (use_at m) (uses_of e.home e.object key)) (omega arith))
    ∙ sym (append_assoc (map (use_at n) (uses_of x.home x.object key)) (users_from (n + 1) es key) (map (use_at (n + length (x ∷ es))) (uses_of e.home e.object key)))

pub users-next : (es : List Placed) (n : ℕ) (e : Placed) (key : Key) → slice_get es n ≡ Some e → users_from 0 (take (n + 1) es) key ≡ users_from 0 (take n es) key ++ map (use_at n) (uses_of e.home e.object key)
users-next es n e key h =
    ap (λ xs. users_from 0 xs key) (ap (λ m. take m es) (add-one n) ∙ take-more es n e h)
    ∙ (users-more 0 (take n es) e key ∙ ap (λ m. users_from 0 (take n es) key ++ map (use_at m) (uses_of e.home e.object key)) (ap (λ m. 0 + m) (length-take es n e h) ∙ omega arith))
