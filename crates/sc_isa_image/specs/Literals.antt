-- Inside: plumbing, a representation, an invariant or a promise beside the claim (docs/TRUST.md).
-- Literals by their places.
use Rattle.std.specs.Prelude.{◌≡◌, ◌⊎◌, ℕ, ◌*◌, ◌%◌, ◌^◌, ◌<◌, List, fold, nat_eq, bit_xor, length, slice_index, Option, Some}
use Rattle.std.specs.Map.{lookup}
use Rattle.std.specs.HashMap.{HashMap, get}
use Rattle.std.specs.declared.hash.FoldHasher.{FoldHasher}
use Rattle.std.specs.declared.hash.BuildHasherDefault.{BuildHasherDefault}
use Rattle.sc_isa_image.specs.declared.literals.Literal.{Literal}

-- the literals by their places, and how many more can be put without memory
pub record Placed : Type 0 where
  pub places : List (ℕ × Literal)
  pub room : ℕ

abbrev pub literal_of : List ℕ → List ℕ → Literal
literal_of home bytes = record { «module» = home; bytes = bytes }

-- the literal at a place
abbrev pub literal_at : List (ℕ × Literal) → ℕ → Option Literal
literal_at places at = lookup (nat_eq at) places

-- no two places have one literal
abbrev pub AreDifferent : List (ℕ × Literal) → Type 0
AreDifferent places = (p q : ℕ) (l : Literal) → literal_at places p ≡ Some l → literal_at places q ≡ Some l → p ≡ q

-- a number of 64 bits that a literal's module and bytes make (FNV-1a, the module's end as a zero byte)
abbrev pub mixed : ℕ → ℕ → ℕ
mixed print b = bit_xor print b * 1099511628211 % 2 ^ 64

abbrev pub fingerprint_of : Literal → ℕ
fingerprint_of l = fold mixed (mixed (fold mixed 14695981039346656037 l.«module») 0) l.bytes

abbrev pub Index : Type 0
Index = HashMap ℕ ℕ (BuildHasherDefault FoldHasher)

-- a place is in the list
abbrev pub IsListed : List ℕ → ℕ → Type 0
IsListed others p = (k : ℕ) × (k < length others) × (slice_index others k ≡ p)

-- Each literal is found: by its fingerprint, or in the list of those that could not have their fingerprint's entry. No
-- two places have one literal.
pub record IsIndexed (places : List (ℕ × Literal)) (index : Index) (others : List ℕ) : Type 0 where
  pub different : AreDifferent places
  pub found : (p : ℕ) (l : Literal) → literal_at places p ≡ Some l → (get nat_eq index (fingerprint_of l) ≡ Some p) ⊎ IsListed others p
