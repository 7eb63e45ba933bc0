-- Inside: plumbing, a representation, an invariant or a promise beside the claim (docs/TRUST.md).
-- Scalars that are read and written whole.
use Rattle.std.specs.Prelude.{◌≡◌, ◌≢◌, ◌⊎◌, ⊤, ℕ, ◌+◌, ◌%◌, ◌<◌, ◌≤◌, Bool, true, false, IsSome}
use Rattle.sc_base.specs.declared.memory.Word.{Word}
use Rattle.sc_objects.specs.declared.objects.Obj.{Obj}
use Rattle.sc_objects.specs.Numbered.{IsLive}
use Rattle.sc_mem.specs.Flat.{Flat, cells_at, place}
use Rattle.sc_mem.specs.Words.{IsSize, IsWritten}
use Rattle.sc_meaning.specs.Values.{Value, Number, FunctionAt, Pointer}

-- a word is a pointer where one is read; else, and where a null pointer is, it is a number
abbrev pub IsWanted : Bool → ℕ → Word → Type 0
IsWanted pointer n w =
    ((pointer ≡ true) × (w.tag ≢ 0))
    ⊎ (((pointer ≡ true) × (w.tag ≡ 0) × (w.bits ≡ 0) × (n ≡ 4))
    ⊎ ((pointer ≡ false) × (w.tag ≡ 0)))

-- the word of n bytes of a live object from an offset on
abbrev pub IsFetched : Flat → ℕ → ℕ → ℕ → ℕ → Bool → Word → Type 0
IsFetched m id at further n pointer w =
    (p : Obj) × IsLive m.objects id p × (at + further + n ≤ p.size) × (0 < n) × ((at + further) % n ≡ 0)
    × IsSome (place m (p.base + (at + further)) n) × IsWritten (cells_at m (p.base + (at + further)) n) w × IsWanted pointer n w

-- n bytes of a value are a number's, or all of a pointer's
abbrev pub IsWhole : ℕ → Value → Type 0
IsWhole n (Number b) = IsSize n
IsWhole n (FunctionAt k) = n ≡ 4
IsWhole n (Pointer o i) = n ≡ 4

-- the address of n bytes of a live object from an offset on
abbrev pub IsRoom : Flat → ℕ → ℕ → ℕ → ℕ → Type 0
IsRoom m id at n a = (p : Obj) × IsLive m.objects id p × (at + n ≤ p.size) × (a ≡ p.base + at)
