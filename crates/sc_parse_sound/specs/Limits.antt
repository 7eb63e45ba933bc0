-- Yardstick: to be compared with what it restates (docs/TRUST.md).
-- Where a limit of expressions is passed.
use Rattle.std.specs.Prelude.{◌≡◌, ℕ, ◌<◌, ◌≤◌, true, List, ◌∷◌, ◌++◌, length, ◌⊎◌}
use Rattle.sc_tree.specs.declared.expression.Expr.{Expr}
use Rattle.sc_tree.specs.declared.expression.Parameter.{Parameter}
use Rattle.sc_parse_names.specs.declared.kind.Symbol.{Symbol}
use Rattle.sc_parse_names.specs.declared.kind.Kind.TheVariants as k
use Rattle.sc_parse_names.specs.Names.{Names}
use Rattle.sc_parse_grammar.specs.declared.operand.Operand.{Operand}
use Rattle.sc_parse_grammar.specs.declared.trouble.Limit.{Limit}
use Rattle.sc_parse_grammar.specs.declared.trouble.Limit.TheVariants as limit
use Rattle.sc_parse_grammar.specs.Grammar.{Phrase, Arguments, Parameters, ParameterTokens}

-- The tokens end with an expression of the grammar that is higher than 200.
pub record TooHigh (tokens : List Symbol) : Type 0 where
  pub before : List Symbol
  pub ts : List Symbol
  pub names : Names
  pub after : Names
  pub x : Operand
  pub all : tokens ≡ before ++ ts
  pub phrase : Phrase true names after ts x
  pub high : 200 < x.height

-- They end with 31 arguments, a comma and a further one.
pub record TooManyArguments (tokens : List Symbol) : Type 0 where
  pub before : List Symbol
  pub ts : List Symbol
  pub us : List Symbol
  pub sign : Symbol
  pub names : Names
  pub between : Names
  pub after : Names
  pub args : List Expr
  pub high : ℕ
  pub x : Operand
  pub all : tokens ≡ before ++ (ts ++ sign ∷ us)
  pub arguments : Arguments true names between ts args high
  pub comma : sign.kind ≡ k.Comma
  pub phrase : Phrase true between after us x
  pub level : 2 ≤ x.level
  pub full : 31 ≤ length args

-- They end with 31 parameters, a comma and a further one.
pub record TooManyParameters (tokens : List Symbol) : Type 0 where
  pub before : List Symbol
  pub ts : List Symbol
  pub us : List Symbol
  pub sign : Symbol
  pub names : Names
  pub between : Names
  pub after : Names
  pub ps : List Parameter
  pub p : Parameter
  pub all : tokens ≡ before ++ (ts ++ sign ∷ us)
  pub parameters : Parameters true names between ts ps
  pub comma : sign.kind ≡ k.Comma
  pub parameter : ParameterTokens true between after us p
  pub full : 31 ≤ length ps

abbrev pub Passes : Limit → List Symbol → Type 0
Passes limit.Height tokens = TooHigh tokens
Passes limit.Arguments tokens = TooManyArguments tokens ⊎ TooManyParameters tokens
