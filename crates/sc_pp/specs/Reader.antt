-- Machine: the program once more; a theorem ties it to a yardstick (docs/TRUST.md).
-- One line after the other, with a stack of the conditionals that are open.
use Rattle.std.specs.Prelude.{ℕ, Bool, true, false, ◌&&◌, ◌||◌, if◌then◌else◌, List, [], ◌∷◌, Option, Some, None, Result, Ok, Err, ◌≡◌}
use Rattle.sc_pp.specs.declared.line.Directive.{Directive}
use Rattle.sc_pp.specs.declared.line.Line.{Line}
use Rattle.sc_pp.specs.declared.line.Line.TheVariants as line
use Rattle.sc_pp.specs.declared.frame.Frame.{Frame}
use Rattle.sc_pp.specs.declared.frame.Frame.TheVariants as frame
use Rattle.sc_base.specs.declared.refusal.Fault.{Fault}
use Rattle.sc_pp.specs.Outcomes.{Outcome, Fails, after, in_file}
use Rattle.sc_pp.specs.Groups.{has_more, malformed}

-- whether lines are read here
abbrev pub active : List Frame → Bool
active [] = true
active (frame.Read e ∷ fs) = true
active (frame.Wait ∷ fs) = false
active (frame.Pass l e ∷ fs) = false

abbrev pub looks : Frame → Bool
looks (frame.Read e) = true
looks frame.Wait = true
looks (frame.Pass l e) = l

abbrev pub entered : Bool → Frame
entered true = frame.Read false
entered false = frame.Wait

-- a state, the conditionals that are open, and a line that is still to be done
abbrev pub Turn : Type 0 → Type 0
Turn S = S × List Frame × Option Directive

abbrev pub only_active : Bool → Directive → Option Directive
only_active true d = Some d
only_active false d = None

module _ (S : Type 0) (file : List ℕ) (test : S → Directive → Outcome (S × Bool)) where
  abbrev pub tested : S → List Frame → Directive → Outcome (Turn S)
  tested s fs d = after (test s d) (λ r. Ok (r.0, entered r.1 ∷ fs, None))

  abbrev pub at_if : Bool → S → List Frame → Directive → Outcome (Turn S)
  at_if true s fs d = tested s fs d
  at_if false s fs d = Ok (s, frame.Pass false false ∷ fs, None)

  abbrev pub at_elif : S → List Frame → Directive → Outcome (Turn S)
  at_elif s [] d = Err (malformed file d)
  at_elif s (frame.Read e ∷ fs) d = if e then Err (malformed file d) else Ok (s, frame.Pass true false ∷ fs, None)
  at_elif s (frame.Wait ∷ fs) d = tested s fs d
  at_elif s (frame.Pass l e ∷ fs) d = if e then Err (malformed file d) else Ok (s, frame.Pass l false ∷ fs, None)

  abbrev pub at_else : S → List Frame → Directive → Outcome (Turn S)
  at_else s [] d = Err (malformed file d)
  at_else s (frame.Read e ∷ fs) d = if e || has_more d then Err (malformed file d) else Ok (s, frame.Pass true true ∷ fs, None)
  at_else s (frame.Wait ∷ fs) d = if has_more d then Err (malformed file d) else Ok (s, frame.Read true ∷ fs, None)
  at_else s (frame.Pass l e ∷ fs) d = if e || (l && has_more d) then Err (malformed file d) else Ok (s, frame.Pass l true ∷ fs, None)

  abbrev pub at_endif : S → List Frame → Directive → Outcome (Turn S)
  at_endif s [] d = Err (malformed file d)
  at_endif s (f ∷ fs) d = if looks f && has_more d then Err (malformed file d) else Ok (s, fs, None)

  abbrev pub turn : S → List Frame → Line → Outcome (Turn S)
  turn s fs (line.Plain d) = Ok (s, fs, only_active (active fs) d)
  turn s fs (line.If d closed) = if closed then at_if (active fs) s fs d else Err (malformed file d)
  turn s fs (line.Elif d) = at_elif s fs d
  turn s fs (line.Else d) = at_else s fs d
  turn s fs (line.Endif d) = at_endif s fs d
  turn s fs (line.Broken r) = Err (in_file file r)

  module _ (read : S → Directive → Outcome S) where
    abbrev pub done : S → Option Directive → Outcome S
    done s None = Ok s
    done s (Some d) = read s d

    abbrev pub run : List Line → S → List Frame → Outcome S
    run [] s fs = Ok s
    run (u ∷ us) s fs = after (turn s fs u) (λ r. after (done r.0 r.2) (λ s2. run us s2 r.1))

-- the code's turn is this one, unless memory ran out
abbrev pub Turns : {S : Type 0} → Outcome (Turn S) → Result (Option Directive) Fault → S → List Frame → Type 0
Turns outcome (Ok o) s fs = outcome ≡ Ok (s, fs, o)
Turns outcome (Err f) s fs = Fails outcome f
