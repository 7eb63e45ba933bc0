-- Yardstick: to be compared with what it restates (docs/TRUST.md).
-- What is said of where a run of both forms halted.
use Rattle.std.specs.Prelude.{◌≡◌, ℕ, Bool, ◌+◌, ◌/◌, ◌%◌, nat_lt, if◌then◌else◌, List, [], ◌∷◌, ◌++◌, drop, length, Option, Some, codes}
use Rattle.sc_emu.specs.declared.outcome.Crash.{Crash}
use Rattle.sc_emu.specs.declared.outcome.Crash.TheVariants as crash
use Rattle.sc_interp_access.specs.declared.ended.Ended.TheVariants as ended
use Rattle.sc_interp_world.specs.Outputs.{output}
use Rattle.sc_meaning.specs.Versions.{Text}
use Rattle.sc_meaning.specs.World.{World}
use Rattle.sc_mixed.specs.Goes.{GoesTo}
use Rattle.sc_mixed.specs.Standing.{Standing, end_of}
use Rattle.sc_mixed.specs.declared.ended.MixedEnd.{MixedEnd}
use Rattle.sc_mixed.specs.declared.ended.MixedEnd.TheVariants as mixed
use Rattle.sc_session_texts.specs.Ends.{entered_text, line_text, on_new_line, outcome_text, stop_text}
use Rattle.sc_words.specs.declared.stop.StopAt.{StopAt}
use Rattle.sc_words.specs.declared.stop.Walk.{Walk}
use Rattle.sc_world.specs.declared.halt.Halt.{Halt}
use Rattle.sc_world.specs.declared.halt.Halt.TheVariants as halt

-- a hexadecimal digit, in lower case
abbrev pub digit : ℕ → ℕ
digit d = if nat_lt d 10 then 48 + d else 87 + d

abbrev pub digit_of : ℕ → ℕ → ℕ
digit_of n unit = digit (n / unit % 16)

-- the eight hexadecimal digits of 32 bits
abbrev pub hexadecimal : ℕ → List ℕ
hexadecimal n =
    digit_of n 268435456 ∷ digit_of n 16777216 ∷ digit_of n 1048576 ∷ digit_of n 65536
    ∷ digit_of n 4096 ∷ digit_of n 256 ∷ digit_of n 16 ∷ digit_of n 1 ∷ []

abbrev pub cause_text : Crash → List ℕ
cause_text crash.BadFetch = codes " cause 1"
cause_text crash.Misfetch = codes " cause 2"
cause_text crash.Illegal = codes " cause 3"
cause_text crash.Misaligned = codes " cause 4"
cause_text crash.Outside = codes " cause 5"
cause_text crash.Service = codes " cause 6"

-- what is said of the end, by whether the run is an evaluation
abbrev pub mixed_end_text : Bool → MixedEnd → World → Option (List ℕ)
mixed_end_text valued (mixed.Meant e) w = outcome_text valued e w
mixed_end_text valued (mixed.Crashed at cause) w = Some (codes "crashed at " ++ hexadecimal at ++ cause_text cause)

-- what is said of where the run halted, as it stands there
abbrev pub MixedSays : Bool → Halt → Standing → List ℕ → Type 0
MixedSays valued halt.Entered m said = said ≡ entered_text m.world.frames
MixedSays valued halt.AtLine m said = said ≡ line_text m.world.frames
MixedSays valued halt.Ended m said = (e : MixedEnd) × (end_of m ≡ Some e) × (Some said ≡ mixed_end_text valued e m.world)
MixedSays valued (halt.Paused turns) m said = Some said ≡ stop_text turns ended.OutOfSteps m.world

-- the text on a go that halted so: what the program wrote in it, behind so many bytes before, and on a line of its own where the
-- run halted
pub record MixedTells (valued : Bool) (before : ℕ) (h : Halt) (m : Standing) (text : List ℕ) : Type 0 where
  pub said : List ℕ
  pub says : MixedSays valued h m said
  pub whole : text ≡ on_new_line (drop before (output m.world.trail)) said

-- a go of so many turns led a run from one place to another, and is told so
pub record MixedGone (texts : List Text) (stops : List StopAt) (walk : Walk) (turns : ℕ) (valued : Bool) (old : Standing) (h : Halt) (m : Standing) (text : List ℕ) : Type 0 where
  pub goes : GoesTo texts stops walk turns old h m
  pub tells : MixedTells valued (length (output old.world.trail)) h m text
