-- Inside: plumbing, a representation, an invariant or a promise beside the claim (docs/TRUST.md).
-- A sum of digits, of which no more is kept than that it is 2 ^ 32 or greater: no `int` is that great.
use Rattle.std.specs.Prelude.{ℕ, ◌^◌, min}
use Rattle.sc_meaning.specs.World.{World}
use Rattle.sc_meaning.specs.Outcomes.{Outcome, Done}

abbrev pub cut : ℕ → World → Outcome ℕ
cut n w = Done (min n (2 ^ 32)) w
