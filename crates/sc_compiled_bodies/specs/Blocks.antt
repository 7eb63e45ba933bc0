-- Inside: plumbing, a representation, an invariant or a promise beside the claim (docs/TRUST.md).
-- The tables of an image have a block of a text.
use Rattle.std.specs.Prelude.{◌≡◌, ℕ, ◌+◌, ◌*◌, ◌<◌, nat_lt, true, length, Some}
use Rattle.sc_isa_image.specs.Lookups.{text_at}
use Rattle.sc_isa_image.specs.declared.text.TextAt.{TextAt}
use Rattle.sc_services.specs.Blocks.{slots_of}
use Rattle.sc_mixed_means.specs.Stages.{Stage}
use Rattle.sc_compiled_expressions.specs.Standing.{Home, slots}

-- its slots, and the text at each of its words
pub record HasTable (home : Home) (b : ℕ) (s : Stage) : Type 0 where
  pub place : TextAt
  pub start : place.start ≡ home.base
  pub known : nat_lt b (length place.frame.blocks) ≡ true
  pub slots_are : slots_of place.frame b ≡ slots home b
  pub holds : (k : ℕ) → k < length home.text → text_at s.image (home.base + 4 * k) ≡ Some place
