-- Yardstick: to be compared with what it restates (docs/TRUST.md).
-- Tokens that pass the limit of arguments or of parameters, whatever comes behind the last of them.
use Rattle.std.specs.Prelude.{◌≡◌, ℕ, ◌<◌, Bool, true, false, List, [], ◌∷◌, ◌++◌, length, Ok, Err}
use Rattle.sc_base.specs.declared.refusal.X.TheVariants as x
use Rattle.sc_tree.specs.declared.expression.Expr.{Expr}
use Rattle.sc_tree.specs.declared.expression.Parameter.{Parameter}
use Rattle.sc_parse_names.specs.declared.kind.Symbol.{Symbol}
use Rattle.sc_parse_names.specs.declared.kind.Kind.{Kind}
use Rattle.sc_parse_names.specs.declared.kind.Kind.TheVariants as k
use Rattle.sc_parse_names.specs.Names.{Names}
use Rattle.sc_parse_grammar.specs.declared.operand.Operand.{Operand}
use Rattle.sc_parse_grammar.specs.declared.operand.Direct.{Direct}
use Rattle.sc_parse_grammar.specs.declared.frame.Frame.{Frame}
use Rattle.sc_parse_grammar.specs.declared.frame.Frame.TheVariants as f
use Rattle.sc_parse_grammar.specs.declared.frame.State.TheVariants as s
use Rattle.sc_parse_grammar.specs.Kinds.{power_of}
use Rattle.sc_parse_grammar.specs.Grammar.{Arguments, Parameters, void_alone}
use Rattle.sc_parse_unit.specs.declared.around.Around.{Around}
use Rattle.sc_parse_unit.specs.Machine.{run, start}
use Rattle.sc_parse_unit.specs.Parts.{Part, stage_of}
use Rattle.sc_parse_unit.specs.Parse.{answer}

-- a token with which no declarator goes on, and which ends no parameter
abbrev pub halts : Kind → Bool
halts k.RightBracket = true
halts k.RightBrace = true
halts k.Colon = true
halts k.Semicolon = true
halts k.End = true
halts _ = false

-- The machine of units reads the tokens up to the parenthesis of a call; more than 31 arguments of the grammar follow, and a token with which no operand goes on, or the comma or parenthesis behind them.
pub record CrowdedCall (tokens : List Symbol) : Type 0 where
  pub front : List Symbol
  pub ys : List Symbol
  pub t : Symbol
  pub us : List Symbol
  pub b : Names
  pub c : Names
  pub fs : List Around
  pub part : Part
  pub gs : List Frame
  pub a : Operand
  pub args : List Expr
  pub n : ℕ
  pub all : tokens ≡ front ++ (ys ++ t ∷ us)
  pub reads : run start front ≡ Ok (b, (fs, stage_of part (f.Arguments a [] 0 ∷ gs) s.Need))
  pub arguments : Arguments false b c ys args n
  pub many : 31 < length args
  pub ends : power_of t.kind ≡ 1

-- The same of a list of parameters.
pub record CrowdedList (tokens : List Symbol) : Type 0 where
  pub front : List Symbol
  pub ys : List Symbol
  pub t : Symbol
  pub us : List Symbol
  pub b : Names
  pub c : Names
  pub fs : List Around
  pub part : Part
  pub gs : List Frame
  pub d : Direct
  pub ps : List Parameter
  pub all : tokens ≡ front ++ (ys ++ t ∷ us)
  pub reads : run start front ≡ Ok (b, (fs, stage_of part (f.Parameters d [] ∷ gs) s.Due))
  pub parameters : Parameters false b c ys ps
  pub several : void_alone (ys ++ t ∷ []) ≡ false
  pub many : 31 < length ps
  pub ends : halts t.kind ≡ true

-- Such tokens are refused for a limit.
abbrev pub RefusesCalls : Type 0
RefusesCalls = (ts : List Symbol) → CrowdedCall ts → (word : List ℕ) × (l : ℕ) × (answer 0 1 start ts ≡ Err (x.X10 word, l))

abbrev pub RefusesLists : Type 0
RefusesLists = (ts : List Symbol) → CrowdedList ts → (word : List ℕ) × (l : ℕ) × (answer 0 1 start ts ≡ Err (x.X10 word, l))
