-- Machine: the program once more; a theorem ties it to a yardstick (docs/TRUST.md).
-- What the tokens of a unit give.
use Rattle.std.specs.Prelude.{◌≡◌, ℕ, if◌then◌else◌, nat_lt, List, [], ◌∷◌, Result, Ok, Err, codes}
use Rattle.sc_base.specs.declared.refusal.X.{X}
use Rattle.sc_base.specs.declared.refusal.X.TheVariants as x
use Rattle.sc_base.specs.declared.refusal.Fault.{Fault}
use Rattle.sc_base.specs.declared.refusal.Fault.TheVariants as fault
use Rattle.sc_tree.specs.declared.statement.External.{External}
use Rattle.sc_tree.specs.declared.statement.Unit.{Unit as Tree}
use Rattle.sc_parse_names.specs.declared.kind.Mark.{Mark}
use Rattle.sc_parse_names.specs.declared.kind.Mark.TheVariants as mark
use Rattle.sc_parse_names.specs.declared.kind.Symbol.{Symbol}
use Rattle.sc_parse_names.specs.declared.kind.Kind.TheVariants as k
use Rattle.sc_parse_grammar.specs.declared.trouble.Trouble.TheVariants as trouble
use Rattle.sc_parse_grammar.specs.declared.trouble.Limit.TheVariants as limit
use Rattle.sc_parse_expr.specs.Brackets.{opens_with}
use Rattle.sc_parse_unit.specs.declared.around.Around.TheVariants as a
use Rattle.sc_parse_unit.specs.declared.around.Stage.TheVariants as at
use Rattle.sc_parse_unit.specs.declared.obstacle.Obstacle.{Obstacle}
use Rattle.sc_parse_unit.specs.declared.obstacle.Obstacle.TheVariants as no
use Rattle.sc_parse_unit.specs.Machine.{Point, Move, advance}

-- the functions and declarations of the unit, or a refusal and its line
abbrev pub Answer : Type 0
Answer = Result (List External) (X × ℕ)

-- the word of a construct that is left out
abbrev pub word_of : Mark → List ℕ
word_of mark.Float = codes "float"
word_of mark.Volatile = codes "volatile"
word_of mark.Variadic = codes "variadic"
word_of mark.LongLong = codes "longlong"
word_of mark.Wide = codes "wide"
word_of mark.MultiChar = codes "multichar"
word_of mark.BitField = codes "bitfield"
word_of mark.OldStyle = codes "oldstyle"
word_of mark.ImplicitInt = codes "implicitint"

-- The refusal at a token on line `here`, where the token before it is on line `before`. A limit inside an expression or a list has the line of the last token that was taken.
abbrev pub refusal : Obstacle → ℕ → ℕ → X × ℕ
refusal (no.Inner trouble.Syntax) before here = (x.X5, here)
refusal (no.Inner (trouble.LeftOut which)) before here = (x.X9 (word_of which), here)
refusal (no.Inner (trouble.Limit limit.Height)) before here = (x.X10 (codes "height"), before)
refusal (no.Inner (trouble.Limit limit.Arguments)) before here = (x.X10 (codes "arguments"), before)
refusal (no.Inner trouble.NoMemory) before here = (x.X5, here)
refusal no.Nesting before here = (x.X10 (codes "height"), here)

abbrev pub next : (Point → Answer) → ℕ → ℕ → Move → Answer
next go before here (Ok p) = go p
next go before here (Err o) = Err (refusal o before here)

-- what stands behind the last token, on its line
abbrev pub end_at : ℕ → Symbol
end_at l = record { kind = k.End; text = []; line = l }

-- The unit that was read up to the end.
abbrev pub ended : ℕ → Point → Answer
ended l (names, (a.Unit items ∷ fs, at.Over)) = Ok items
ended l _ = Err (x.X5, l)

-- What the tokens that are left give, where n brackets are open and the token before them is on line `before`. At most 500 brackets are open at one place.
abbrev pub answer : ℕ → ℕ → Point → List Symbol → Answer
answer n before p [] = next (ended before) before before (advance (end_at before) p)
answer n before p (t ∷ ts) =
    if nat_lt 500 (opens_with n t.kind) then Err (x.X10 (codes "height"), t.line)
    else next (λ q. answer (opens_with n t.kind) t.line q ts) before t.line (advance t p)

-- The code gives that answer, unless memory runs out. The file of a refusal is left empty.
abbrev pub Gives : Answer → Result Tree Fault → Type 0
Gives answer (Ok unit) = answer ≡ Ok unit.items
Gives answer (Err fault.NoMemory) = Unit {0}
Gives answer (Err (fault.Refused r)) = (answer ≡ Err (r.kind, r.line)) × (r.file ≡ [])
