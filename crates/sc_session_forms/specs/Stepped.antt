-- Yardstick: to be compared with what it restates (docs/TRUST.md).
-- What is said of a step of one instruction.
use Rattle.std.specs.Prelude.{◌≡◌, ℕ, Bool, List, ◌++◌, drop, length, Option, Some, None, codes}
use Rattle.sc_interp_world.specs.Outputs.{output}
use Rattle.sc_meaning.specs.Versions.{Text}
use Rattle.sc_mixed.specs.Single.{IsPcOf, StepsOneTo}
use Rattle.sc_mixed.specs.Standing.{Standing}
use Rattle.sc_session_forms.specs.Halts.{MixedSays, hexadecimal}
use Rattle.sc_session_texts.specs.Ends.{on_new_line}
use Rattle.sc_words.specs.declared.stop.StopAt.{StopAt}
use Rattle.sc_world.specs.declared.halt.Halt.{Halt}

abbrev pub pc_text : ℕ → List ℕ
pc_text pc = codes "pc " ++ hexadecimal pc

-- where the step did not halt the run, the address that the machine's pc has; else where it halted
abbrev pub StepSays : Bool → Option Halt → Standing → List ℕ → Type 0
StepSays valued None m said = (pc : ℕ) × IsPcOf m pc × (said ≡ pc_text pc)
StepSays valued (Some h) m said = MixedSays valued h m said

-- the text on a step that halted so: what the program wrote in it, behind so many bytes before, and on a line of its own what is said
pub record StepTells (valued : Bool) (before : ℕ) (h : Option Halt) (m : Standing) (text : List ℕ) : Type 0 where
  pub said : List ℕ
  pub says : StepSays valued h m said
  pub whole : text ≡ on_new_line (drop before (output m.world.trail)) said

-- a step of one instruction led a run from one place to another, and is told so
pub record StepGone (texts : List Text) (stops : List StopAt) (valued : Bool) (old : Standing) (h : Option Halt) (m : Standing) (text : List ℕ) : Type 0 where
  pub steps : StepsOneTo texts stops old h m
  pub tells : StepTells valued (length (output old.world.trail)) h m text
