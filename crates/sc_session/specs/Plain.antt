-- Yardstick: to be compared with what it restates (docs/TRUST.md).
-- A session as contracts see it.
use Rattle.std.specs.Prelude.{ℕ, Bool, List, Option}
use Rattle.sc_base.specs.declared.key.Key.{Key}
use Rattle.sc_meaning.specs.Versions.{Text}
use Rattle.sc_session.specs.declared.limits.Limits.{Limits}
use Rattle.sc_session.specs.declared.present.Present.{Present}
use Rattle.sc_session.specs.declared.state.State.{State}
use Rattle.sc_session.specs.declared.stops.Stop.{Stop}

pub record Plain : Type 0 where
  pub limits : Limits
  -- the modules that are present, in the order in which they were loaded
  pub modules : List Present
  -- what they were before each change of the run that goes on, the oldest first
  pub past : List (List Present)
  -- how many of these changes the run has gone through
  pub come : ℕ
  -- how many texts were loaded, by `edit` too: the number of the next one
  pub loaded : ℕ
  -- the functions that have a number behind the library's, in the order of their numbers
  pub numbers : List Key
  -- the stops that are set, and the number of the last one that was
  pub stops : List Stop
  pub last : ℕ
  pub state : State
  -- the text that has the function of an evaluation, where the run that goes on or went last is one; a run that begins has it or none
  pub evaluating : Option Text
  -- whether the last byte that was written is a program's and no LF, so that an answer has to end its line first
  pub in_line : Bool
  -- how many probes there are
  pub probes : ℕ
  -- whether `quit` was accepted
  pub over : Bool
