-- Yardstick: to be compared with what it restates (docs/TRUST.md).
-- What is said of the end of a run, and how an answer stands behind the bytes that the program wrote.
use Rattle.std.specs.Prelude.{ℕ, Bool, true, false, ◌++◌, ◌==◌, ◌-◌, if◌then◌else◌, List, [], ◌∷◌, length, slice_get, Option, Some, None, codes, decimal}
use Rattle.std.specs.Fmt.{signed_decimal}
use Rattle.sc_base.specs.declared.integer.Int.TheVariants.{Int as PlainInt}
use Rattle.sc_ops.specs.Numbers.{number_of}
use Rattle.sc_meaning.specs.World.{World, Frame}
use Rattle.sc_interp_access.specs.declared.ended.Ended.{Ended}
use Rattle.sc_interp_access.specs.declared.ended.Ended.TheVariants as ended
use Rattle.sc_session_texts.specs.Words.{key_text}
use Rattle.sc_session_texts.specs.Breaches.{breach_text}

-- how a run ended, after so many turns at most; nothing is said where no memory was left
abbrev pub stop_text : ℕ → Ended → World → Option (List ℕ)
stop_text turns (ended.Exit status) w = Some (codes "exit " ++ signed_decimal (number_of PlainInt status))
stop_text turns (ended.Undefined b) w = Some (breach_text b w)
stop_text turns (ended.StackFull key) w = Some (codes "stack full entering " ++ key_text key)
stop_text turns ended.BirthLimit w = Some (codes "birth limit")
stop_text turns ended.OutOfSteps w = Some (codes "paused after " ++ decimal turns ++ codes " turns")
stop_text turns ended.NoRoom w = None

-- a line that is not ended yet is ended before an answer
abbrev pub line_end_behind : Option ℕ → List ℕ
line_end_behind None = []
line_end_behind (Some b) = if b == 10 then [] else 10 ∷ []

abbrev pub line_end_after : List ℕ → List ℕ
line_end_after bytes = line_end_behind (slice_get bytes (length bytes - 1))

-- an answer behind bytes of a program
abbrev pub on_new_line : List ℕ → List ℕ → List ℕ
on_new_line bytes said = bytes ++ line_end_after bytes ++ codes "> " ++ said ++ codes "\n"

-- the function that was entered, and the line that was reached, in the innermost call
abbrev pub entered_text : List Frame → List ℕ
entered_text [] = codes "entered "
entered_text (f ∷ frames) = codes "entered " ++ key_text f.key

abbrev pub line_text : List Frame → List ℕ
line_text [] = codes "at "
line_text (f ∷ frames) = codes "at " ++ f.home ++ codes ":" ++ decimal f.line

-- what is said of the end of a run
abbrev pub end_text : Ended → World → Option (List ℕ)
end_text ended.OutOfSteps w = None
end_text ended.NoRoom w = None
end_text e w = stop_text 0 e w

-- How an evaluation ended that exits with a number: its function came back with that value, and is active no more; or `exit` was called.
abbrev pub came_back : List Frame → List ℕ
came_back [] = codes "value "
came_back (f ∷ frames) = codes "exit "

abbrev pub evaluation_text : Ended → World → Option (List ℕ)
evaluation_text (ended.Exit status) w = Some (came_back w.frames ++ signed_decimal (number_of PlainInt status))
evaluation_text e w = end_text e w

-- what is said of the end of a run, by whether it is an evaluation
abbrev pub outcome_text : Bool → Ended → World → Option (List ℕ)
outcome_text false e w = end_text e w
outcome_text true e w = evaluation_text e w
