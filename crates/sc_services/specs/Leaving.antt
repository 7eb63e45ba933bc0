-- Yardstick: to be compared with what it restates (docs/TRUST.md).
-- A block of a compiled call is left, or the call.
use Rattle.std.specs.Prelude.{◌≡◌, ◌≢◌, ℕ, ◌&&◌, Bool, true, false}
use Rattle.sc_meaning.specs.World.{World}
use Rattle.sc_services.specs.Blocks.{block_left, left_by, top_cost}
use Rattle.sc_services.specs.Frames.{is_in_code, is_open_here}
use Rattle.sc_services.specs.declared.leaving.Left.{Left}
use Rattle.sc_services.specs.declared.leaving.Left.TheVariants.{Block, Call, Refused}

-- the innermost call is of compiled code, and the block is open in it
abbrev pub may_leave : ℕ → World → Bool
may_leave block w = is_in_code w.frames && is_open_here block w.frames

-- what a service that leaves a block makes of the world: with the call its frame gives back what it took
abbrev pub Leaves : ℕ → World → Left → World → Type 0
Leaves block w Refused v = (may_leave block w ≡ false) × (v ≡ w)
Leaves block w Block v = (may_leave block w ≡ true) × (block ≢ 0) × (v ≡ block_left block w)
Leaves block w Call v = (may_leave block w ≡ true) × (block ≡ 0) × (v ≡ left_by (top_cost w.frames) (block_left block w))
