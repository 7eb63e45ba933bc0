-- Inside: plumbing, a representation, an invariant or a promise beside the claim (docs/TRUST.md).
-- What a program wrote, on its way to a sink.
use Rattle.std.specs.Prelude.{◌≡◌, ◌≤◌, ℕ, List, ◌++◌, length, drop, Option, Result, Ok, Err}
use Rattle.std.specs.Io.KnownBytes.{Appends}
use Rattle.sc_outside.specs.Streams.{AppendsSome}
use Rattle.sc_world.specs.declared.post.Unsent.{Unsent}

-- The sink gained what stands in these bytes from one place to another; what stands behind it waits.
pub record Posted (old new : Option (List ℕ)) (from to : ℕ) (bytes : List ℕ) : Type 0 where
  pub front : List ℕ
  pub gains : Appends old new front
  pub whole : drop from bytes ≡ front ++ drop to bytes
  pub order : from ≤ to
  pub inside : to ≤ length bytes

-- the sink gained some of what stands behind the first bytes, from the front
abbrev pub PostedSome : Option (List ℕ) → Option (List ℕ) → ℕ → List ℕ → Type 0
PostedSome old new from bytes = AppendsSome old new (drop from bytes)

-- the bytes were posted as far as the second place, or some of them
abbrev pub Posts : {A : Type 0} → Option (List ℕ) → Option (List ℕ) → ℕ → ℕ → List ℕ → Result A Unsent → Type 0
Posts old new from to bytes (Ok _) = Posted old new from to bytes
Posts old new from to bytes (Err _) = PostedSome old new from bytes
