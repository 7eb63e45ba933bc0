-- Inside: plumbing, a representation, an invariant or a promise beside the claim (docs/TRUST.md).
-- A world whose own memory holds its objects, and the words there are values.
use Rattle.std.specs.Prelude.{◌≡◌, Some}
use Rattle.sc_mem.specs.Safe.{Store}
use Rattle.sc_meaning.specs.World.{World}
use Rattle.sc_compiled_frames.specs.Words.{HeldWords}

pub record HoldsWords (w : World) : Type 0 where
  pub memory : Store
  pub there : w.beside.memory ≡ Some memory
  pub words : HeldWords w.beside.functions memory.flat w.objects
