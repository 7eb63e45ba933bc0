-- Machine: the program once more; a theorem ties it to a yardstick (docs/TRUST.md).
-- An expression at the front of tokens, as the machine reads it, and why it is refused.
use Rattle.std.specs.Prelude.{◌≡◌, ℕ, ◌+◌, ◌≤◌, nat_lt, if◌then◌else◌, Bool, true, false, List, [], ◌∷◌, ◌++◌, length, Option, Some, None, Result, Ok, Err}
use Rattle.sc_tree.specs.declared.expression.Expr.{Expr}
use Rattle.sc_parse_names.specs.declared.kind.Symbol.{Symbol}
use Rattle.sc_parse_names.specs.declared.kind.Kind.{Kind}
use Rattle.sc_parse_names.specs.declared.kind.Kind.TheVariants as k
use Rattle.sc_parse_names.specs.Names.{Names}
use Rattle.sc_parse_grammar.specs.declared.operand.Operand.{Operand}
use Rattle.sc_parse_grammar.specs.declared.frame.Frame.{Frame}
use Rattle.sc_parse_grammar.specs.declared.frame.Frame.TheVariants as f
use Rattle.sc_parse_grammar.specs.declared.frame.State.{State}
use Rattle.sc_parse_grammar.specs.declared.frame.State.TheVariants as s
use Rattle.sc_parse_grammar.specs.declared.trouble.Trouble.{Trouble}
use Rattle.sc_parse_grammar.specs.declared.trouble.Trouble.TheVariants as no
use Rattle.sc_parse_grammar.specs.declared.trouble.Limit.TheVariants as limit
use Rattle.sc_parse_grammar.specs.Grammar.{Phrase}
use Rattle.sc_parse_grammar.specs.Machine.{Config, step}
pub use Rattle.sc_parse_sound.specs.Claims.{closes}
use Rattle.sc_parse_expr.specs.declared.driver.Found.{Found}
use Rattle.sc_parse_expr.specs.declared.driver.Refused.{Refused}
use Rattle.sc_parse_expr.specs.declared.driver.Turn.{Turn}
use Rattle.sc_parse_expr.specs.declared.driver.Turn.TheVariants as turn
use Rattle.sc_parse_expr.specs.Brackets.{opens_with, AreShallow}

abbrev pub found : Expr → ℕ → Found
found tree taken = record { tree = tree; taken = taken }

abbrev pub refused : Trouble → ℕ → Refused
refused trouble line = record { trouble = trouble; line = line }

-- what stands behind the last token
abbrev pub end_symbol : Symbol
end_symbol = record { kind = k.End; text = []; line = 0 }

-- The line of a refusal is that of the token; of the height of an expression, that of the last token taken.
abbrev pub line_for : Trouble → ℕ → ℕ → ℕ
line_for (no.Limit limit.Height) last line = last
line_for _ last line = line

abbrev pub ended_in : State → Option Operand
ended_in (s.Expression x) = Some x
ended_in _ = None

-- What is found, and the names in scope behind it.
abbrev pub Outcome : Type 0
Outcome = Result (Found × Names) Refused

-- the expression that ended before the token, or what the further tokens give
abbrev pub found_or : (Config → Outcome) → ℕ → Config → Option Operand → Outcome
found_or go taken c (Some x) = Ok (found x.tree taken, c.0)
found_or go taken c None = go c

abbrev pub next : (Config → Outcome) → ℕ → ℕ → ℕ → Result Config Trouble → Outcome
next go last line taken (Err trouble) = Err (refused trouble (line_for trouble last line))
next go last line taken (Ok c) = found_or go taken c (ended_in c.1.1)

abbrev pub unfinished : ℕ → Config → Outcome
unfinished last c = Err (refused no.Syntax last)

-- What the tokens give where `depth` brackets are open, `taken` tokens were taken, and the last of them is on line `last`.
abbrev pub read : ℕ → ℕ → ℕ → Config → List Symbol → Outcome
read depth last taken c [] = next (unfinished last) last last taken (step end_symbol c)
read depth last taken c (t ∷ ts) =
    if nat_lt 500 (opens_with depth t.kind) then Err (refused (no.Limit limit.Height) t.line)
    else next (λ d. read (opens_with depth t.kind) t.line (taken + 1) d ts) last t.line taken (step t c)

-- An expression is due, and nothing else.
abbrev pub start : Names → Config
start names = (names, (f.Only 1 ∷ [], s.Need))

-- the same answer, and these names in scope behind what is found, unless memory ran out
abbrev pub Answers : Outcome → Result Found Refused → Names → Type 0
Answers outcome (Ok found) names = outcome ≡ Ok (found, names)
Answers outcome (Err refused) names = (refused.trouble ≡ no.NoMemory → ⊥) → outcome ≡ Err refused

-- whether an expression ended in this state
abbrev pub Turned : State → Turn → Type 0
Turned state (turn.Open other) = (other ≡ state) × (ended_in state ≡ None)
Turned state (turn.Done x) = state ≡ s.Expression x

-- One token, whatever tokens follow, unless memory ran out.
abbrev pub Turns : ℕ → ℕ → ℕ → Config → Symbol → Result Turn Refused → Names → List Frame → Type 0
Turns depth last taken c t (Ok (turn.Open state)) names fs = (rest : List Symbol) → read depth last taken c (t ∷ rest) ≡ read (opens_with depth t.kind) t.line (taken + 1) (names, (fs, state)) rest
Turns depth last taken c t (Ok (turn.Done x)) names fs = (rest : List Symbol) → read depth last taken c (t ∷ rest) ≡ Ok (found x.tree taken, names)
Turns depth last taken c t (Err e) names fs = (e.trouble ≡ no.NoMemory → ⊥) → (rest : List Symbol) → read depth last taken c (t ∷ rest) ≡ Err e

-- Nothing follows, or a token with which an expression ends.
abbrev pub Follows : List Symbol → Type 0
Follows [] = Unit {0}
Follows (t ∷ ts) = closes t.kind ≡ true

-- The tokens begin with an expression of the grammar, and end there or go on with a token that ends one.
pub record Begins (limited : Bool) (names : Names) (tokens : List Symbol) (x : Operand) (taken : ℕ) : Type 0 where
  pub after : Names
  pub ts : List Symbol
  pub us : List Symbol
  pub all : tokens ≡ ts ++ us
  pub phrase : Phrase limited names after ts x
  pub count : length ts ≡ taken
  pub follows : Follows us

-- Within the limits, of which those of brackets are asked of the expression's own tokens.
pub record BeginsWithin (names : Names) (tokens : List Symbol) (x : Operand) (taken : ℕ) : Type 0 where
  pub begins : Begins true names tokens x taken
  pub height : x.height ≤ 200
  pub shallow : AreShallow 0 begins.ts

-- The answer is this expression, unless memory ran out.
abbrev pub Gives : Operand → ℕ → Result Found Refused → Type 0
Gives x taken (Ok r) = r ≡ found x.tree taken
Gives x taken (Err e) = e.trouble ≡ no.NoMemory

-- Tokens begin with at most one expression within the limits that a closing token or the end follows.
abbrev pub OneTree : Names → List Symbol → Type 0
OneTree names tokens = (x y : Operand) (m n : ℕ) → BeginsWithin names tokens x m → BeginsWithin names tokens y n → (x.tree ≡ y.tree) × (m ≡ n)

-- What is found is an expression of the grammar at the front of the tokens, within the limits of heights and lists, and the names in scope behind it are these.
pub record IsFound (names after : Names) (tokens : List Symbol) (r : Found) : Type 0 where
  pub x : Operand
  pub begins : Begins true names tokens x r.taken
  pub height : x.height ≤ 200
  pub tree : r.tree ≡ x.tree
  pub left : begins.after ≡ after

abbrev pub FoundOnly : Names → List Symbol → Result Found Refused → Names → Type 0
FoundOnly names tokens (Ok r) after = IsFound names after tokens r
FoundOnly names tokens (Err e) after = Unit {0}

-- refused as no expression, and not for a limit or want of memory
abbrev pub IsRefusal : Trouble → Type 0
IsRefusal no.Syntax = Unit {0}
IsRefusal (no.LeftOut which) = Unit {0}
IsRefusal (no.Limit which) = ⊥
IsRefusal no.NoMemory = ⊥

-- Where no expression of the grammar, whatever its height, stands at the front.
abbrev pub RefusedOnly : Names → List Symbol → Result Found Refused → Type 0
RefusedOnly names tokens (Ok r) = Unit {0}
RefusedOnly names tokens (Err e) = IsRefusal e.trouble → (x : Operand) (taken : ℕ) → Begins false names tokens x taken → ⊥
