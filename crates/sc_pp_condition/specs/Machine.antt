-- Machine: the program once more; a theorem ties it to a yardstick (docs/TRUST.md).
-- The steps of the reader, which takes one term at a time.
use Rattle.std.specs.Prelude.{ℕ, ◌+◌, if◌then◌else◌, nat_lt, nat_le, List, [], ◌∷◌, Option, Some, None, option_and_then}
use Rattle.sc_pp_condition.specs.declared.operand.Operand.{Operand}
use Rattle.sc_pp_condition.specs.declared.operator.Operator.{Operator}
use Rattle.sc_pp_condition.specs.declared.machine.Term.{Term}
use Rattle.sc_pp_condition.specs.declared.machine.Term.TheVariants as t
use Rattle.sc_pp_condition.specs.declared.machine.Frame.{Frame}
use Rattle.sc_pp_condition.specs.declared.machine.Frame.TheVariants as f
use Rattle.sc_pp_condition.specs.declared.machine.State.{State}
use Rattle.sc_pp_condition.specs.declared.machine.State.TheVariants as s
use Rattle.sc_pp_condition.specs.Operands.{leaf, prefixed, applied, chosen}
use Rattle.sc_pp_condition.specs.Operators.{is_prefix, level_of}

abbrev pub Config : Type 0
Config = List Frame × State

abbrev pub power_of : Term → ℕ
power_of (t.Operator op) = level_of op
power_of t.Question = 4
power_of _ = 1

-- the level that an operand has at least where it stands right inside these frames
abbrev pub needs : List Frame → ℕ
needs [] = 1
needs (f.Paren ∷ _) = 1
needs (f.Prefix _ ∷ _) = 15
needs (f.Binary op _ ∷ _) = level_of op + 1
needs (f.Then _ ∷ _) = 1
needs (f.Else _ _ ∷ _) = 3

-- Closes the frames whose operator binds at least as tightly as p, and gives what was read with its level.
abbrev pub settle : ℕ → List Frame → Operand → ℕ → List Frame × (Operand × ℕ)
settle p [] x l = ([], (x, l))
settle p (f.Prefix op ∷ fs) x l = settle p fs (prefixed op x) 15
settle p (f.Binary op a ∷ fs) x l = if nat_le p (level_of op) then settle p fs (applied op a x) (level_of op) else (f.Binary op a ∷ fs, (x, l))
settle p (f.Else a b ∷ fs) x l = if nat_le p 3 then settle p fs (chosen a b x) 3 else (f.Else a b ∷ fs, (x, l))
settle p (f.Paren ∷ fs) x l = (f.Paren ∷ fs, (x, l))
settle p (f.Then a ∷ fs) x l = (f.Then a ∷ fs, (x, l))

abbrev pub close_paren : List Frame → Operand → Option Config
close_paren (f.Paren ∷ fs) x = Some (fs, s.Have x 17)
close_paren _ x = None

abbrev pub close_then : List Frame → Operand → Option Config
close_then (f.Then a ∷ fs) x = Some (f.Else a x ∷ fs, s.Need)
close_then _ x = None

abbrev pub at_end : List Frame → Operand → Option Config
at_end [] x = Some ([], s.Done x)
at_end _ x = None

-- an operator between operands
abbrev pub between : Operator → List Frame → Operand → Option Config
between op fs x = if nat_lt (level_of op) 4 then None else Some (f.Binary op x ∷ fs, s.Need)

-- an operator before an operand
abbrev pub before : Operator → List Frame → Option Config
before op fs = if is_prefix op then Some (f.Prefix op ∷ fs, s.Need) else None

-- a term after what is closed
abbrev pub act : Term → List Frame → Operand → Option Config
act (t.Operator op) fs x = between op fs x
act t.Question fs x = Some (f.Then x ∷ fs, s.Need)
act t.Colon fs x = close_then fs x
act t.RightParen fs x = close_paren fs x
act t.End fs x = at_end fs x
act _ fs x = None

abbrev pub act_on : Term → List Frame × (Operand × ℕ) → Option Config
act_on term r = act term r.0 r.1.0

-- an operand was read
abbrev pub have : Term → List Frame → Operand → ℕ → Option Config
have term fs x l = act_on term (settle (power_of term) fs x l)

-- an operand is due
abbrev pub need : Term → List Frame → Option Config
need (t.Number v) fs = Some (fs, s.Have (leaf v) 17)
need t.LeftParen fs = Some (f.Paren ∷ fs, s.Need)
need (t.Operator op) fs = before op fs
need _ fs = None

abbrev pub step : Term → Config → Option Config
step term (fs, s.Need) = need term fs
step term (fs, s.Have x l) = have term fs x l
step term (fs, s.Done x) = None

-- the steps for all of the terms
abbrev pub run : Config → List Term → Option Config
run c [] = Some c
run c (u ∷ us) = option_and_then (λ d. run d us) (step u c)

-- what an operator's frame makes of the operand inside it
abbrev pub built : Frame → Operand → Operand
built (f.Prefix op) x = prefixed op x
built (f.Binary op a) x = applied op a x
built (f.Else a b) x = chosen a b x
built _ x = x

-- the level of an operator's frame, or 0
abbrev pub level_in : Frame → ℕ
level_in (f.Prefix op) = 15
level_in (f.Binary op a) = level_of op
level_in (f.Else a b) = 3
level_in _ = 0

abbrev pub level_on : List Frame → ℕ
level_on [] = 0
level_on (frame ∷ fs) = level_in frame
