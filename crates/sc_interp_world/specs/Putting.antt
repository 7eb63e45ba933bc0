-- Yardstick: to be compared with what it restates (docs/TRUST.md).
-- Single cells of memory that compiled code puts at addresses.
use Rattle.std.specs.Prelude.{◌≡◌, ℕ, ◌+◌, List, [], ◌∷◌, IfSome}
use Rattle.sc_base.specs.declared.memory.Cell.{Cell as Stored}
use Rattle.sc_mem_store.specs.Holding.{meant}
use Rattle.sc_mem_store.specs.Living.{IsBare, IsByteOf, IsLiveAt}
use Rattle.sc_meaning.specs.Beside.{cell_kept_in, with_memory}
use Rattle.sc_meaning.specs.Values.{Cell}
use Rattle.sc_meaning.specs.World.{Put, World, pass}

-- One cell is put at an address: into the live object that has the byte there, as the byte that it stands for; or, where none has it, beside
-- all objects. Memory has the cell itself from then on.
pub data PutsAt (at : ℕ) (x : Stored) (old new : World) : Type 0 where
  IntoObject : (id offset : ℕ) (c : Cell) → IsLiveAt old.objects id offset → IfSome old.beside.memory (λ m. IsByteOf m.flat.objects id offset at × (c ≡ meant old.beside.functions m.flat.objects x)) → new ≡ record (pass (Put id offset (c ∷ [])) old) { beside = with_memory (cell_kept_in at x) old.beside } → PutsAt at x old new
  BesideThem : IfSome old.beside.memory (λ m. IsBare m.flat.objects at) → new ≡ record old { beside = with_memory (cell_kept_in at x) old.beside } → PutsAt at x old new

-- cells are put one after another, from an address on
abbrev pub PutsAll : ℕ → List Stored → World → World → Type 0
PutsAll at [] old new = new ≡ old
PutsAll at (x ∷ xs) old new = (mid : World) × PutsAt at x old mid × PutsAll (at + 1) xs mid new
