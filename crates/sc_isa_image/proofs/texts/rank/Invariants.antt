use Rattle.std.proofs.Common.{◌≡◌, ℕ, ◌-◌, ◌<◌, ◌≤◌, length, Some}
use Rattle.std.specs.List.{slice_get}
use Rattle.sc_isa_image.specs.declared.text.Text.{Text as Placed}
use Rattle.sc_isa_image.proofs.texts.rank.Given as goal

abbrev pub invariant-search : goal.invariant-search
invariant-search l = record {
  order : l.low ≤ l.high;
  bound : l.high ≤ length l.texts;
  below : (k : ℕ) (t : Placed) → slice_get l.texts k ≡ Some t → k < l.low → t.at.start ≤ l.pc;
  above : (k : ℕ) (t : Placed) → slice_get l.texts k ≡ Some t → l.high ≤ k → l.pc < t.at.start;
}

abbrev pub decreases-search : goal.decreases-search
decreases-search l = l.high - l.low
