-- Inside: plumbing, a representation, an invariant or a promise beside the claim (docs/TRUST.md).
-- Bytes that were read already, and those that are read behind them.
use Rattle.std.specs.Prelude.{ℕ, List, ◌++◌}
use Rattle.sc_meaning.specs.World.{World}
use Rattle.sc_meaning.specs.Outcomes.{Outcome, Done}

-- bytes that are there already, before those that come
abbrev pub before : List ℕ → List ℕ → World → Outcome (List ℕ)
before done bs w = Done (done ++ bs) w
