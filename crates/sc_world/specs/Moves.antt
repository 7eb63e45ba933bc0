-- Yardstick: to be compared with what it restates (docs/TRUST.md).
-- Moves: one step of the machine or some more, at most eight, of which only the last may show anything or end the run.
use Rattle.std.specs.Prelude.{◌≡◌, ℕ, zero, suc, ◌+◌, false, List}
use Rattle.sc_meaning.specs.Versions.{Text}
use Rattle.sc_interp_machine.specs.Runs.{State}
use Rattle.sc_interp.specs.Shows.{shown}
use Rattle.sc_interp.specs.Steady.{alone, advance, ran}
use Rattle.sc_interp.specs.Steps.{is_over}
use Rattle.sc_interp.specs.declared.stepped.Shown.TheVariants.{Nothing}
use Rattle.sc_world.specs.Costs.{bytes_touched}
use Rattle.sc_world.specs.Standing.{Standing}

-- the bytes that so many steps touch
abbrev pub touches : ℕ → List Text → State → ℕ
touches zero texts s = 0
touches (suc k) texts s = bytes_touched s (advance (alone texts) texts s) + touches k texts (advance (alone texts) texts s)

-- none of so many steps shows anything, and behind none is the run over
abbrev pub Silent : ℕ → List Text → State → Type 0
Silent zero texts s = Unit {0}
Silent (suc k) texts s = (shown (alone texts) texts s ≡ Nothing) × (is_over (advance (alone texts) texts s) ≡ false) × Silent k texts (advance (alone texts) texts s)

-- Where a move of so many steps and one more leads. It takes one turn, and one more for each byte that its steps touch.
abbrev pub moved : ℕ → List Text → Standing → Standing
moved k texts m = record {
  state = advance (alone texts) texts (ran k (alone texts) texts m.state);
  shown = shown (alone texts) texts (ran k (alone texts) texts m.state);
  steps = m.steps + suc k;
  turns = m.turns + (1 + touches (suc k) texts m.state);
}
