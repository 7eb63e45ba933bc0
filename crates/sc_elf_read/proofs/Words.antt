-- Numbers and their bytes, rows of them, and lists of values that say where they end.
use Rattle.std.proofs.Common.{◌≡◌, ◌<◌, ◌^◌, ◌*◌, ℕ, ℤ, pos, negsuc, Bool, true, List, [], ◌∷◌, ◌++◌, length, drop, Option, Some, sym, ap, ◌∙◌, arith, refl}
use Rattle.std.specs.Prelude.{flat_map, option_and_then}
use Rattle.std.specs.List.{list_all}
use Rattle.std.specs.Int.{w32, cast_signed, cast_unsigned}
use Rattle.std.proofs.lemmas.Bool.{and_parts}
use Rattle.std.proofs.lemmas.Bool.Decides.{Decides-int_eq, nat_tests}
use Rattle.std.proofs.lemmas.Int.{ints}
use Rattle.std.proofs.lemmas.List.{append_assoc, append-nil, length-append}
use Rattle.sc_object.specs.Words.{half, word}
use Rattle.sc_object.specs.Reading.{value_of, is_addend}
use Rattle.sc_elf_read.specs.Tables.{rows, many}

-- the low 32 bits of a number, written and read
abbrev pub low : ℕ → ℕ
low n = value_of (word n)

pub value_word : (n : ℕ) → n < 2 ^ 32 → low n ≡ n
value_word n h = omega arith

pub value_half : (n : ℕ) → n < 2 ^ 16 → value_of (half n) ≡ n
value_half n h = omega arith

pub unsigned_small : (z : ℤ) → is_addend z ≡ true → cast_unsigned w32 z < 2 ^ 32
unsigned_small (pos n) h = let e = (Decides-int_eq (cast_signed w32 (cast_unsigned w32 (pos n))) (pos n)).0 h in grind (arith, ints, nat_tests)
unsigned_small (negsuc n) h = omega (arith, ints)

pub addend_back : (z : ℤ) → is_addend z ≡ true → cast_signed w32 (low (cast_unsigned w32 z)) ≡ z
addend_back z h =
    ap (cast_signed w32) (value_word (cast_unsigned w32 z) (unsigned_small z h))
    ∙ (Decides-int_eq (cast_signed w32 (cast_unsigned w32 z)) z).0 h

-- rows of one width, written and read
module _ {A : Type 0} (f : List ℕ → A) (e : A → List ℕ) (p : A → Bool) (w : ℕ) (tail : (x : A) (more : List ℕ) → drop w (e x ++ more) ≡ more) (head : (x : A) (more : List ℕ) → p x ≡ true → f (e x ++ more) ≡ x) where
  pub rows_back : (xs : List A) (more : List ℕ) → list_all p xs ≡ true → rows f w (length xs) (flat_map e xs ++ more) ≡ xs
  rows_back [] more h = refl
  rows_back (x ∷ xs) more h =
      let t = and_parts (p x) (list_all p xs) h in
      let a : (e x ++ flat_map e xs) ++ more ≡ e x ++ (flat_map e xs ++ more) = append_assoc (e x) (flat_map e xs) more in
      let first : f ((e x ++ flat_map e xs) ++ more) ≡ x = ap f a ∙ head x (flat_map e xs ++ more) t.0 in
      let rest : drop w ((e x ++ flat_map e xs) ++ more) ≡ flat_map e xs ++ more = ap (drop w) a ∙ tail x (flat_map e xs ++ more) in
      let back : rows f w (length xs) (drop w ((e x ++ flat_map e xs) ++ more)) ≡ xs = ap (rows f w (length xs)) rest ∙ rows_back xs more t.1 in
      λ i. first i ∷ back i

pub rows_length : {A : Type 0} (e : A → List ℕ) (w : ℕ) → ((x : A) → length (e x) ≡ w) → (xs : List A) → length (flat_map e xs) ≡ length xs * w
rows_length e w each [] = omega arith
rows_length e w each (x ∷ xs) = length-append (e x) (flat_map e xs) ∙ omega (arith, each x, rows_length e w each xs)

-- values that say where they end, written and read
module _ {A : Type 0} (f : List ℕ → Option (A × List ℕ)) (e : A → List ℕ) (p : A → Bool) (one : (x : A) (more : List ℕ) → p x ≡ true → f (e x ++ more) ≡ Some (x, more)) where
  pub many_back : (xs all : List A) (more : List ℕ) → list_all p xs ≡ true → many f (length xs) all (flat_map e xs ++ more) ≡ Some (all ++ xs, more)
  many_back [] all more h = ap (λ z. Some (z, more)) (sym (append-nil all))
  many_back (x ∷ xs) all more h =
      let t = and_parts (p x) (list_all p xs) h in
      let a : (e x ++ flat_map e xs) ++ more ≡ e x ++ (flat_map e xs ++ more) = append_assoc (e x) (flat_map e xs) more in
      ap (option_and_then (λ q. many f (length xs) (all ++ q.0 ∷ []) q.1)) (ap f a ∙ one x (flat_map e xs ++ more) t.0)
      ∙ many_back xs (all ++ x ∷ []) more t.1
      ∙ ap (λ z. Some (z, more)) (append_assoc all (x ∷ []) xs)
