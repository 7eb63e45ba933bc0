-- Relocations one after another.
use Rattle.std.proofs.Common.{◌≡◌, ◌≢◌, ℕ, zero, suc, ◌+◌, ◌<◌, ◌≤◌, ◌==◌, ◌&&◌, ◌%◌, ◌^◌, Bool, true, false, cond, List, [], ◌∷◌, ◌++◌, length, map, take, append_assoc, refl, sym, ap, ◌∙◌, Option, Some, None, arith, true≢false}
use Rattle.std.proofs.Common.{ℤ, add-one, subst}
use Rattle.std.proofs.lemmas.Int.{to_z-of_z}
use mir.Syntax.{w32}
use mir.Val.{SFits, of_z, to_z}
use Rattle.std.proofs.lemmas.List.{append-nil}
use Rattle.std.specs.Prelude.{nat_lt, nat_le, flat_map}
use Rattle.std.specs.List.{slice_get}
use Rattle.std.specs.Option.{option_map}
use Rattle.sc_base.specs.declared.key.Key.{Key}
use Rattle.sc_object.specs.declared.object.Reloc.{Reloc}
use Rattle.sc_object.specs.declared.object.Symbol.{Symbol}
use Rattle.sc_isa_image.specs.declared.image.Image.{Image}
use Rattle.sc_isa_image.specs.Lookups.{value_of, word_at}
use Rattle.sc_link.specs.declared.placed.Placed.{Placed}
use Rattle.sc_link.specs.Relocation.{relocated, target_of}
use Rattle.sc_link.specs.Entries.{Fix, base_of, fix_at, fixes_at, fixes_from, fixes_if, fixes_of, has_second, is_object}
use Rattle.sc_link.specs.Linked.{base_value, fixed_all, fixed_by, or_zero}
use Rattle.sc_link.specs.Steps.{FixesWord, Relocates}
use Rattle.sc_link.proofs.Keys.{eq-true, eq-false, same-some}
use Rattle.sc_link.proofs.Sequences.{spends-none, spends-then}

map-same : (f : ℕ → ℕ) (r : Option ℕ) → ((w : ℕ) → f w ≡ w) → option_map f r ≡ r
map-same f None h = refl
map-same f (Some w) h = ap Some (h w)

same-if : (b : Bool) (r s : Option ℕ) → s ≡ r → r ≡ cond b r s
same-if true r s h = refl
same-if false r s h = sym h

pub relocates-none : (value : Key → Option ℕ) (i : Image) → Relocates value [] i i
relocates-none value i = record {
  words = λ pc. same-if (nat_lt pc 0x00100000) (word_at i pc) (option_map (fixed_all value [] pc) (word_at i pc)) (map-same (fixed_all value [] pc) (word_at i pc) (λ w. refl));
  count = refl;
  keys = λ at. refl;
  values = λ q. refl;
  texts = λ pc. refl;
  literals = λ at. refl;
  room = spends-none i;
}

fixed-append : (value : Key → Option ℕ) (xs ys : List Fix) (pc w : ℕ) → fixed_all value ys pc (fixed_all value xs pc w) ≡ fixed_all value (xs ++ ys) pc w
fixed-append value [] ys pc w = refl
fixed-append value (x ∷ xs) ys pc w = fixed-append value xs ys pc (cond (x.at == pc) (fixed_by value x w) w)

map-twice : (value : Key → Option ℕ) (xs ys : List Fix) (pc : ℕ) (b : Bool) (r : Option ℕ) → cond b (cond b r (option_map (fixed_all value xs pc) r)) (option_map (fixed_all value ys pc) (cond b r (option_map (fixed_all value xs pc) r))) ≡ cond b r (option_map (fixed_all value (xs ++ ys) pc) r)
map-twice value xs ys pc true r = refl
map-twice value xs ys pc false None = refl
map-twice value xs ys pc false (Some w) = ap Some (fixed-append value xs ys pc w)

pub relocates-then : (value : Key → Option ℕ) (xs ys : List Fix) (i j f : Image) → Relocates value xs i j → Relocates value ys j f → Relocates value (xs ++ ys) i f
relocates-then value xs ys i j f p q = record {
  words = λ pc.
      q.words pc ∙ (ap (λ r. cond (nat_lt pc 0x00100000) r (option_map (fixed_all value ys pc) r)) (p.words pc)
      ∙ map-twice value xs ys pc (nat_lt pc 0x00100000) (word_at i pc));
  count = q.count ∙ p.count;
  keys = λ at. q.keys at ∙ p.keys at;
  values = λ k. q.values k ∙ p.values k;
  texts = λ pc. q.texts pc ∙ p.texts pc;
  literals = λ at. q.literals at ∙ p.literals at;
  room = spends-then i j f 0 0 0 0 0 0 0 0 0 0 0 0 p.room q.room (omega arith) (omega arith) (omega arith) (omega arith);
}

pub fixes-one : (value : Key → Option ℕ) (f : Fix) (target : ℕ) (i j : Image) → target_of f.kind (base_value value f.base) f.addend f.place ≡ target → FixesWord f.at f.kind f.second target i j → Relocates value (f ∷ []) i j
fixes-one value f target i j e w = record {
  words = λ pc.
      w.words pc ∙ ap (λ t. cond (nat_lt pc 0x00100000) (word_at i pc) (option_map (λ x. cond (f.at == pc) (relocated f.kind f.second t x) x) (word_at i pc))) (sym e);
  count = w.count;
  keys = w.keys;
  values = w.values;
  texts = w.texts;
  literals = w.literals;
  room = w.room;
}

same-target : (value : Key → Option ℕ) (e : Placed) (r : Reloc) (base p : ℕ) → base_value value (base_of e (slice_get e.object.symbols r.symbol)) ≡ base → target_of r.kind (base_value value (base_of e (slice_get e.object.symbols r.symbol))) r.addend p ≡ target_of r.kind base r.addend p
same-target value e r base p h = ap (λ b. target_of r.kind b r.addend p) h

-- a relocation of one word
pub fixes-first : (value : Key → Option ℕ) (e : Placed) (r : Reloc) (base : ℕ) (spot : ℕ × ℕ) (target : ℕ) (i j : Image) → base_value value (base_of e (slice_get e.object.symbols r.symbol)) ≡ base → target ≡ target_of r.kind base r.addend spot.0 → has_second r spot.1 ≡ false → FixesWord spot.0 r.kind false target i j → Relocates value (fixes_from e r spot) i j
fixes-first value e r base spot target i j h t none w =
    let a : Relocates value (fix_at e r spot.0 false spot.0 ∷ []) i j = fixes-one value (fix_at e r spot.0 false spot.0) target i j (same-target value e r base spot.0 h ∙ sym t) w in
    by (has_second r spot.1) none a
  where
    by : (b : Bool) → b ≡ false → Relocates value (fix_at e r spot.0 false spot.0 ∷ []) i j → Relocates value (fix_at e r spot.0 false spot.0 ∷ cond b (fix_at e r spot.0 true ((spot.0 + 4) % 2 ^ 32) ∷ []) []) i j
    by true g a = absurd (true≢false g)
    by false g a = a

-- a relocation of two words
pub fixes-both : (value : Key → Option ℕ) (e : Placed) (r : Reloc) (base : ℕ) (spot : ℕ × ℕ) (target : ℕ) (i j f : Image) → base_value value (base_of e (slice_get e.object.symbols r.symbol)) ≡ base → target ≡ target_of r.kind base r.addend spot.0 → has_second r spot.1 ≡ true → FixesWord spot.0 r.kind false target i j → FixesWord ((spot.0 + 4) % 2 ^ 32) r.kind true target j f → Relocates value (fixes_from e r spot) i f
fixes-both value e r base spot target i j f h t some w x =
    let s : target_of r.kind (base_value value (base_of e (slice_get e.object.symbols r.symbol))) r.addend spot.0 ≡ target = same-target value e r base spot.0 h ∙ sym t in
    let a : Relocates value (fix_at e r spot.0 false spot.0 ∷ []) i j = fixes-one value (fix_at e r spot.0 false spot.0) target i j s w in
    let b : Relocates value (fix_at e r spot.0 true ((spot.0 + 4) % 2 ^ 32) ∷ []) j f = fixes-one value (fix_at e r spot.0 true ((spot.0 + 4) % 2 ^ 32)) target j f s x in
    by (has_second r spot.1) some (relocates-then value (fix_at e r spot.0 false spot.0 ∷ []) (fix_at e r spot.0 true ((spot.0 + 4) % 2 ^ 32) ∷ []) i j f a b)
  where
    by : (b : Bool) → b ≡ true → Relocates value (fix_at e r spot.0 false spot.0 ∷ fix_at e r spot.0 true ((spot.0 + 4) % 2 ^ 32) ∷ []) i f → Relocates value (fix_at e r spot.0 false spot.0 ∷ cond b (fix_at e r spot.0 true ((spot.0 + 4) % 2 ^ 32) ∷ []) []) i f
    by true g a = a
    by false g a = absurd (true≢false (sym g))

-- an address without a word, or below the area, stays so
pub fixes-nothing : (i : Image) (at kind : ℕ) (second : Bool) (target : ℕ) → ((pc : ℕ) → pc ≡ at → nat_lt pc 0x00100000 ≡ false → word_at i pc ≡ None) → FixesWord at kind second target i i
fixes-nothing i at kind second target none = record {
  words = λ pc. by pc (nat_lt pc 0x00100000) refl (at == pc) refl;
  count = refl;
  keys = λ p. refl;
  values = λ q. refl;
  texts = λ pc. refl;
  literals = λ p. refl;
  room = spends-none i;
}
  where
    by : (pc : ℕ) (b : Bool) → nat_lt pc 0x00100000 ≡ b → (c : Bool) → (at == pc) ≡ c → word_at i pc ≡ cond b (word_at i pc) (option_map (λ w. cond c (relocated kind second target w) w) (word_at i pc))
    by pc true g c h = refl
    by pc false g false h = sym (map-same (λ w. w) (word_at i pc) (λ w. refl))
    by pc false g true h = let z : word_at i pc ≡ None = none pc (sym (eq-true at pc h)) g in z ∙ sym (ap (option_map (λ w. relocated kind second target w)) z)

-- the word at an address is written
pub fixes-set : (i j : Image) (at kind : ℕ) (second : Bool) (target word : ℕ) → nat_lt at 0x00100000 ≡ false → word_at i at ≡ Some word → ((q : ℕ) → word_at j q ≡ cond (q == at) (Some (relocated kind second target word)) (word_at i q)) → (pc : ℕ) → word_at j pc ≡ cond (nat_lt pc 0x00100000) (word_at i pc) (option_map (λ w. cond (at == pc) (relocated kind second target w) w) (word_at i pc))
fixes-set i j at kind second target word low some set pc = set pc ∙ by (pc == at) refl (at == pc) refl
  where
    by : (b : Bool) → (pc == at) ≡ b → (c : Bool) → (at == pc) ≡ c → cond b (Some (relocated kind second target word)) (word_at i pc) ≡ cond (nat_lt pc 0x00100000) (word_at i pc) (option_map (λ w. cond c (relocated kind second target w) w) (word_at i pc))
    by true g true h =
        let s : at ≡ pc = eq-true at pc h in
        let l : nat_lt pc 0x00100000 ≡ false = ap (λ x. nat_lt x 0x00100000) (sym s) ∙ low in
        let w : word_at i pc ≡ Some word = ap (word_at i) (sym s) ∙ some in
        sym (ap (λ b. cond b (word_at i pc) (option_map (λ w. relocated kind second target w) (word_at i pc))) l ∙ ap (option_map (λ w. relocated kind second target w)) w)
    by true g false h = absurd (eq-false at pc h (sym (eq-true pc at g)))
    by false g true h = absurd (eq-false pc at g (sym (eq-true at pc h)))
    by false g false h = same-if (nat_lt pc 0x00100000) (word_at i pc) (option_map (λ w. w) (word_at i pc)) (map-same (λ w. w) (word_at i pc) (λ w. refl))

-- what the symbols stand for, with other values that are the same
pub bases-same : (e : Placed) (ss : List Symbol) (v w : Key → Option ℕ) → ((k : Key) → v k ≡ w k) → map (λ s. base_value v (base_of e (Some s))) ss ≡ map (λ s. base_value w (base_of e (Some s))) ss
bases-same e ss v w h = λ m. map (λ s. base_value (λ k. h k m) (base_of e (Some s))) ss

pub base-at : (e : Placed) (ss : List Symbol) (v : Key → Option ℕ) (bases : List ℕ) (n base : ℕ) → bases ≡ map (λ s. base_value v (base_of e (Some s))) ss → base ≡ or_zero (slice_get bases n) → base_value v (base_of e (slice_get ss n)) ≡ base
base-at e ss v bases n base h b = go ss n ∙ (ap (λ bs. or_zero (slice_get bs n)) (sym h) ∙ sym b)
  where
    go : (ss : List Symbol) (n : ℕ) → base_value v (base_of e (slice_get ss n)) ≡ or_zero (slice_get (map (λ s. base_value v (base_of e (Some s))) ss) n)
    go [] n = refl
    go (s ∷ ss) zero = refl
    go (s ∷ ss) (suc n) = go ss n

-- the word that is in a text
text-there : (b : Bool) (r : Option ℕ) (word : ℕ) → Some word ≡ cond b None r → (b ≡ false) × (r ≡ Some word)
text-there true r word h = absurd (cc)
text-there false r word h = (refl, sym h)

pub fixes-done : (i j : Image) (at kind : ℕ) (second : Bool) (target word new : ℕ) → Some word ≡ cond (nat_lt at 0x00100000) None (word_at i at) → new ≡ relocated kind second target word → ((q : ℕ) → word_at j q ≡ cond (q == at) (Some new) (word_at i q)) → (pc : ℕ) → word_at j pc ≡ cond (nat_lt pc 0x00100000) (word_at i pc) (option_map (λ w. cond (at == pc) (relocated kind second target w) w) (word_at i pc))
fixes-done i j at kind second target word new found is set pc =
    let t = text-there (nat_lt at 0x00100000) (word_at i at) word found in
    fixes-set i j at kind second target word t.0 t.1 (λ q. set q ∙ ap (λ n. cond (q == at) (Some n) (word_at i q)) is) pc

pub fixes-missing : (i : Image) (at kind : ℕ) (second : Bool) (target : ℕ) → None ≡ cond (nat_lt at 0x00100000) None (word_at i at) → FixesWord at kind second target i i
fixes-missing i at kind second target none = fixes-nothing i at kind second target (λ pc e low. ap (word_at i) e ∙ by (nat_lt at 0x00100000) (ap (λ x. nat_lt x 0x00100000) (sym e) ∙ low) none)
  where
    by : (b : Bool) → b ≡ false → None ≡ cond b None (word_at i at) → word_at i at ≡ None
    by true g h = absurd (true≢false g)
    by false g h = sym h

pub relocates-if : (value : Key → Option ℕ) (e : Placed) (i j : Image) → is_object e.form ≡ true → Relocates value (flat_map (fixes_of e) e.object.relocs) i j → Relocates value (fixes_if e) i j
relocates-if value e i j h p = by (is_object e.form) h
  where
    by : (b : Bool) → b ≡ true → Relocates value (cond b (flat_map (fixes_of e) e.object.relocs) []) i j
    by true g = p
    by false g = absurd (true≢false (sym g))

pub relocates-else : (value : Key → Option ℕ) (e : Placed) (i : Image) → is_object e.form ≡ false → Relocates value (fixes_if e) i i
relocates-else value e i h = by (is_object e.form) h
  where
    by : (b : Bool) → b ≡ false → Relocates value (cond b (flat_map (fixes_of e) e.object.relocs) []) i i
    by true g = absurd (true≢false g)
    by false g = relocates-none value i

flat-more : {A : Type 0} (f : A → List Fix) (xs : List A) (n : ℕ) (x : A) → slice_get xs n ≡ Some x → flat_map f (take (suc n) xs) ≡ flat_map f (take n xs) ++ f x
flat-more f [] n x h = absurd (cc)
flat-more f (y ∷ xs) zero x h = append-nil (f y) ∙ ap f (same-some y x h)
flat-more f (y ∷ xs) (suc n) x h = ap (λ zs. f y ++ zs) (flat-more f xs n x h) ∙ sym (append_assoc (f y) (flat_map f (take n xs)) (f x))

pub relocates-more : {A : Type 0} (value : Key → Option ℕ) (f : A → List Fix) (xs : List A) (n : ℕ) (x : A) (i j k : Image) → slice_get xs n ≡ Some x → Relocates value (flat_map f (take n xs)) i j → Relocates value (f x) j k → Relocates value (flat_map f (take (n + 1) xs)) i k
relocates-more value f xs n x i j k h p q = subst (λ fs. Relocates value fs i k) (sym (ap (λ m. flat_map f (take m xs)) (add-one n) ∙ flat-more f xs n x h)) (relocates-then value (flat_map f (take n xs)) (f x) i j k p q)

-- a signed number that is passed
pub passed : (f : ℤ → ℕ) (x : ℤ) (r : ℕ) → SFits w32 x → r ≡ f (to_z w32 (of_z w32 x)) → r ≡ f x
passed f x r fits e = grind (arith, to_z-of_z)
