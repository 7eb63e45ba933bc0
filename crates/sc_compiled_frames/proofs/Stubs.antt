-- Stubs that stand one after another are as templates want them.
use Rattle.std.proofs.Common.{◌≡◌, ◌≢◌, ◌⊎◌, inl, inr, ℕ, zero, suc, ◌+◌, ◌^◌, ◌<◌, ◌≤◌, Bool, true, false, List, [], ◌∷◌, length, Option, Some, None, refl, sym, ap, ◌∙◌, arith}
use Rattle.std.specs.Prelude.{if◌then◌else◌, ◌&&◌}
use Rattle.std.specs.List.{slice_get}
use Rattle.std.specs.Str.{bytes_eq}
use Rattle.std.proofs.lemmas.Slice.Eq.{bytes_eq-Decides}
use Rattle.sc_base.specs.declared.key.Key.{Key}
use Rattle.sc_isa_image.specs.Stubs.{stub_address}
use Rattle.sc_meaning.specs.Values.{same_key, same_module}
use Rattle.sc_mem_store.specs.Apart.{AreOnce}
use Rattle.sc_compiled_frames.specs.Words.{AreStubs}
use Rattle.sc_compiled_frames.specs.Stubs.{stub_from, stub_of}
use Rattle.sc_compiled_frames.proofs.Reading.{key_one}

module_same : (a : Option (List ℕ)) → same_module a a ≡ true
module_same None = refl
module_same (Some a) = (bytes_eq-Decides a a).1 refl

key_same : (k : Key) → same_key k k ≡ true
key_same k = ap (λ b. b && bytes_eq k.name k.name) (module_same k.«module») ∙ (bytes_eq-Decides k.name k.name).1 refl

one_key : (k key : Key) → Some k ≡ Some key → k ≡ key
one_key k key e = cc (e)

abbrev Found : ℕ → List Key → Key → Type 0
Found m ks key = ((i : ℕ) × (slice_get ks i ≡ Some key) × (stub_from m ks key ≡ stub_address (m + i))) ⊎ ((stub_from m ks key ≡ 2 ^ 32) × ((i : ℕ) → slice_get ks i ≢ Some key))

-- the first place of a key, or that it has none
found : (m : ℕ) (ks : List Key) (key : Key) → Found m ks key
found m [] key = inr (refl, λ i e. cc (e))
found m (k ∷ ks) key = by (found (m + 1) ks key) (same_key k key) refl
  where
    by : Found (m + 1) ks key → (b : Bool) → same_key k key ≡ b → Found m (k ∷ ks) key
    by rest true e =
        let here : m ≡ m + 0 = omega arith in
        inl (0, ap Some (key_one k key e), ap (λ b. if b then stub_address m else stub_from (m + 1) ks key) e ∙ ap stub_address here)
    by rest false e =
        let other : stub_from m (k ∷ ks) key ≡ stub_from (m + 1) ks key = ap (λ b. if b then stub_address m else stub_from (m + 1) ks key) e in
        elim rest [
          | inl (i, there, is) ↦
              let further : m + 1 + i ≡ m + suc i = omega arith in
              inl (suc i, there, other ∙ is ∙ ap stub_address further)
          | inr (is, none) ↦ inr (other ∙ is, λ i f. apart i none e f)
        ]
      where
        apart : (i : ℕ) → ((i : ℕ) → slice_get ks i ≢ Some key) → same_key k key ≡ false → slice_get (k ∷ ks) i ≡ Some key → ⊥
        apart zero none e f = true_not_false (sym (key_same k) ∙ ap (same_key k) (one_key k key f) ∙ e)
          where
            true_not_false : true ≡ false → ⊥
            true_not_false e = cc (e)
        apart (suc i) none e f = none i f

pub stubs_are : (functions : List Key) → AreOnce functions → stub_address (length functions) ≤ 2 ^ 32 → AreStubs functions (stub_of functions)
stubs_are functions once few = record {
  once = once;
  few = few;
  there = λ n key e. elim (found 0 functions key) [
    | inl (i, there, is) ↦ let zero_more : 0 + i ≡ i = omega arith in is ∙ ap stub_address (zero_more ∙ once i n key there e)
    | inr (is, none) ↦ absurd (none n e)
  ];
  only = λ key lt. elim (found 0 functions key) [
    | inl (i, there, is) ↦ (i, there)
    | inr (is, none) ↦ let no : stub_of functions key < 4294967296 = lt in absurd (omega (arith, no, is))
  ];
}
