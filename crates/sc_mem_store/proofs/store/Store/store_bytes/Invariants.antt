-- The first bytes of the value are written.
use Rattle.std.proofs.Common.{◌≡◌, ◌+◌}
use Rattle.sc_mem.specs.Safe.{IsSafe}
use Rattle.sc_meaning.specs.Beside.{put_in}
use Rattle.sc_meaning.specs.Values.{cells_of}
use Rattle.sc_meaning.specs.World.{object_at, written}
use Rattle.sc_mem_store.proofs.store.Store.store_bytes.Given as goal

abbrev pub invariant-loop-k : goal.invariant-loop-k
invariant-loop-k l =
    (l.self.objects ≡ written l.fn.self.objects l.id l.at (cells_of l.k l.v) (object_at l.fn.self.objects l.id)) × (l.next ≡ l.at + l.k)
    × (l.self.memory ≡ put_in l.fn.self.functions l.id l.at (cells_of l.k l.v) l.fn.self.memory) × (l.self.functions ≡ l.fn.self.functions) × IsSafe l.fn.self.memory
