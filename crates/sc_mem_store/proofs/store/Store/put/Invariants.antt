use Rattle.std.proofs.Common.{◌≡◌, ◌+◌, take}
use Rattle.sc_mem.specs.Safe.{IsSafe}
use Rattle.sc_meaning.specs.Beside.{put_in}
use Rattle.sc_meaning.specs.World.{object_at, written}
use Rattle.sc_mem_store.proofs.store.Store.put.Given as goal

abbrev pub invariant-loop-cell : goal.invariant-loop-cell
invariant-loop-cell l =
    (l.self.objects ≡ written l.fn.self.objects l.id l.at (take l.cell-index l.cells) (object_at l.fn.self.objects l.id)) × (l.next ≡ l.at + l.cell-index)
    × (l.self.memory ≡ put_in l.fn.self.functions l.id l.at (take l.cell-index l.cells) l.fn.self.memory) × (l.self.functions ≡ l.fn.self.functions) × IsSafe l.fn.self.memory
