-- Inside: plumbing, a representation, an invariant or a promise beside the claim (docs/TRUST.md).
-- What a memory is seen as: the objects that it holds, their cells and places, and the functions by their numbers.
use Rattle.std.specs.Prelude.{ℕ, List}
use Rattle.sc_base.specs.declared.key.Key.{Key}
use Rattle.sc_mem.specs.Safe.{Store}
use Rattle.sc_meaning.specs.World.{Object}

pub record Kept : Type 0 where
  pub objects : List Object
  pub memory : Store
  pub functions : List Key
