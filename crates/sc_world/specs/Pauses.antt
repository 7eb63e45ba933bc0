-- Yardstick: to be compared with what it restates (docs/TRUST.md).
-- Where a go pauses.
use Rattle.std.specs.Prelude.{◌≡◌, ℕ, ◌<◌, ◌≤◌, List, None}
use Rattle.sc_meaning.specs.Versions.{Text}
use Rattle.sc_world.specs.Standing.{Standing}
use Rattle.sc_world.specs.Wants.{Want, halts, taken}
use Rattle.sc_world.specs.Moves.{Silent, moved}
use Rattle.sc_world.specs.Goes.{seen}

-- A pause behind n turns: the last move of the go leads there; before it the go had taken fewer turns than it may take, and behind it
-- n, which are enough; and nothing halts the run there.
pub record IsPause (texts : List Text) (want : Want) (last : Standing) (n : ℕ) : Type 0 where
  pub before : Standing
  pub more : ℕ
  pub small : more ≤ 7
  pub silent : Silent more texts before.state
  pub last_move : last ≡ seen (moved more texts before)
  pub fewer : taken want before < want.turns
  pub took : n ≡ taken want (moved more texts before)
  pub enough : want.turns ≤ n
  pub free : halts want (moved more texts before) ≡ None
