-- Inside: plumbing, a representation, an invariant or a promise beside the claim (docs/TRUST.md).
-- What happens as a run of both forms goes on.
use Rattle.std.specs.Prelude.{◌≡◌, ℕ, List, Option, option_map}
use Rattle.sc_mem.specs.Safe.{Store}
use Rattle.sc_meaning.specs.Beside.{nothing_beside}
use Rattle.sc_meaning.specs.World.{World, Item, passed}

-- all of a world but what its machine keeps beside it
abbrev pub bare : World → World
bare w = record w { beside = nothing_beside }

-- the bytes of heap and stack that its memory has
abbrev pub room_of : Store → ℕ × ℕ
room_of m = (m.flat.heap, m.flat.stack)

abbrev pub rooms : World → Option (ℕ × ℕ)
rooms w = option_map room_of w.beside.memory

-- Things happen, one after another, and then the world is the other, but for what its machine keeps beside it: a word that compiled code
-- writes to memory beside all objects is nothing that happens. Memory stays as large as it is.
pub record Adds (w v : World) : Type 0 where
  pub items : List Item
  pub happens : bare v ≡ bare (passed items w)
  pub room : rooms v ≡ rooms w
