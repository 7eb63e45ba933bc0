-- Inside: plumbing, a representation, an invariant or a promise beside the claim (docs/TRUST.md).
-- One cell of memory is put at an address.
use Rattle.std.specs.Prelude.{◌≡◌, ℕ, [], ◌∷◌}
use Rattle.sc_base.specs.declared.memory.Cell.{Cell as Stored}
use Rattle.sc_meaning.specs.Beside.{cell_kept_in}
use Rattle.sc_meaning.specs.Values.{Cell}
use Rattle.sc_meaning.specs.World.{object_at, written}
use Rattle.sc_mem_store.specs.Holding.{meant}
use Rattle.sc_mem_store.specs.Kept.{Kept}
use Rattle.sc_mem_store.specs.Living.{IsBare, IsByteOf, IsLiveAt}

-- where it belongs to no live object
abbrev pub IsPutBeside : ℕ → Stored → Kept → Kept → Type 0
IsPutBeside at x old new = IsBare old.memory.flat.objects at × (new ≡ record old { memory = cell_kept_in at x old.memory })

-- into a live object, as the byte that it stands for
abbrev pub IsPutInto : ℕ → ℕ → Cell → ℕ → Stored → Kept → Kept → Type 0
IsPutInto id offset c at x old new =
    IsByteOf old.memory.flat.objects id offset at × IsLiveAt old.objects id offset × (c ≡ meant old.functions old.memory.flat.objects x)
    × (new ≡ record { objects = written old.objects id offset (c ∷ []) (object_at old.objects id); memory = cell_kept_in at x old.memory; functions = old.functions })
