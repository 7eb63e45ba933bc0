-- Yardstick: to be compared with what it restates (docs/TRUST.md).
-- What is claimed of the refusals of tokens: where a mark stands, and what passes a limit.
use Rattle.std.specs.Prelude.{◌≡◌, ℕ, ◌<◌, ◌≤◌, true, false, List, [], ◌∷◌, ◌++◌, length, Ok, Err, ◌⊎◌, codes}
use Rattle.sc_base.specs.declared.refusal.X.TheVariants as x
use Rattle.sc_tree.specs.declared.statement.External.{External}
use Rattle.sc_parse_names.specs.declared.kind.Mark.{Mark}
use Rattle.sc_parse_names.specs.declared.kind.Symbol.{Symbol}
use Rattle.sc_parse_names.specs.declared.kind.Kind.TheVariants as k
use Rattle.sc_parse_names.specs.Names.{Names}
use Rattle.sc_parse_grammar.specs.declared.frame.Frame.TheVariants as f
use Rattle.sc_parse_grammar.specs.declared.frame.State.TheVariants as s
use Rattle.sc_parse_grammar.specs.declared.trouble.Trouble.TheVariants as trouble
use Rattle.sc_parse_grammar.specs.declared.trouble.Limit.{Limit}
use Rattle.sc_parse_grammar.specs.declared.trouble.Limit.TheVariants as limit
use Rattle.sc_tree.specs.declared.expression.TypeWord.TheVariants as word
use Rattle.sc_parse_grammar.specs.Nodes.{named_node}
use Rattle.sc_parse_grammar.specs.Types.{no_words, with_word}
use Rattle.sc_parse_grammar.specs.Machine.{Config, Place}
use Rattle.sc_parse_grammar.specs.Machine as inner
use Rattle.sc_parse_expr.specs.Brackets.{opens_with, AreShallow}
use Rattle.sc_parse_expr.specs.Reading as reading
use Rattle.sc_parse_unit.specs.declared.around.Around.{Around}
use Rattle.sc_parse_unit.specs.declared.around.Stage.{Stage}
use Rattle.sc_parse_unit.specs.declared.around.Stage.TheVariants as at
use Rattle.sc_parse_unit.specs.Grammar.{IsUnit}
use Rattle.sc_parse_unit.specs.Machine.{Point, settle, is_else}
use Rattle.sc_parse_unit.specs.Machine as outer
use Rattle.sc_parse_unit.specs.Parse.{answer, end_at, word_of}
use Rattle.sc_parse_unit.specs.Claims.{NoneBegins, last_line}
use Rattle.sc_parse_laws.specs.Marks.{AreKept, Shows}
use Rattle.sc_parse_sound.specs.Limits.{Passes}

-- how many brackets are open behind the tokens, where n are before them
abbrev pub opened : ℕ → List Symbol → ℕ
opened n [] = n
opened n (t ∷ ts) = opened (opens_with n t.kind) ts

-- More than 500 brackets are open behind a token on this line.
pub record TooManyBrackets (tokens : List Symbol) (l : ℕ) : Type 0 where
  pub before : List Symbol
  pub t : Symbol
  pub us : List Symbol
  pub all : tokens ≡ before ++ t ∷ us
  pub line : t.line ≡ l
  pub many : 500 < opened 0 (before ++ t ∷ [])

-- The machine of expressions reads the tokens up to one on this line, where this mark shows.
pub record MarkIn (names : Names) (tokens : List Symbol) (which : Mark) (l : ℕ) : Type 0 where
  pub before : List Symbol
  pub t : Symbol
  pub us : List Symbol
  pub c : Config
  pub all : tokens ≡ before ++ t ∷ us
  pub line : t.line ≡ l
  pub reads : inner.run (reading.start names) before ≡ Ok c
  pub shows : Shows which t.kind c.1

-- Tokens at the front pass the limit.
pub record Beyond (tokens : List Symbol) (which : Limit) : Type 0 where
  pub before : List Symbol
  pub us : List Symbol
  pub all : tokens ≡ before ++ us
  pub passes : Passes which before

pub data LimitIn (tokens : List Symbol) : Limit → ℕ → Type 0 where
  in_tree : {which : Limit} {l : ℕ} → Beyond tokens which → LimitIn tokens which l
  in_brackets : {l : ℕ} → TooManyBrackets tokens l → LimitIn tokens limit.Height l

-- Where no expression is read for a mark, it stands on that line.
abbrev pub NamesMark : Type 0
NamesMark = (names : Names) (ts : List Symbol) (which : Mark) (l : ℕ) → reading.read 0 1 0 (reading.start names) ts ≡ Err (reading.refused (trouble.LeftOut which) l) → MarkIn names ts which l

-- Where none is read for a limit, the tokens pass it.
abbrev pub NamesLimit : Type 0
NamesLimit = (names : Names) (ts : List Symbol) (which : Limit) (l : ℕ) → reading.read 0 1 0 (reading.start names) ts ≡ Err (reading.refused (trouble.Limit which) l) → LimitIn ts which l

-- where the next token stands inside specifiers, a declarator or an expression, or where specifiers begin with it; behind a name with which a statement begins, in what that name may begin
abbrev pub place_in : Stage → Place
place_in (at.Specifiers frames state) = (frames, state)
place_in (at.Declarator frames state) = (frames, state)
place_in (at.Expression frames state) = (frames, state)
place_in (at.Name l text) = (f.Only 1 ∷ [], s.Have (named_node l text))
place_in (at.TypeName l text) = (f.Outer ∷ [], s.Words (with_word (no_words l) (word.Typedef l text)))
place_in _ = (f.Outer ∷ [], s.Due)

-- what is open around the token, behind the statements that end before it
abbrev pub around_of : Symbol → List Around → Stage → List Around
around_of t fs (at.Got b) = (settle (is_else t.kind) fs b).0
around_of t fs _ = fs

-- A block begins inside 127 blocks, or a statement inside the unit, a function's block and 1,500 statements.
abbrev pub IsNested : Symbol → Point → Type 0
IsNested t p = ((t.kind ≡ k.LeftBrace) × (128 ≤ length p.0)) ⊎ (1502 ≤ length (around_of t p.1.0 p.1.1))

-- The machine of units reads the tokens up to one on this line, where this mark shows; none of them is left out by itself, and no unit begins with the tokens through it.
pub record UnitMark (tokens : List Symbol) (word : List ℕ) (l : ℕ) : Type 0 where
  pub before : List Symbol
  pub t : Symbol
  pub us : List Symbol
  pub which : Mark
  pub p : Point
  pub all : tokens ≡ before ++ t ∷ us
  pub line : t.line ≡ l
  pub named : word ≡ word_of which
  pub reads : outer.run outer.start before ≡ Ok p
  pub shows : Shows which t.kind (place_in p.1.1)
  pub none : NoneBegins (before ++ t ∷ [])
  pub kept : AreKept before

-- The tokens before one on this line are taken, or all, of which the last is on this line; none that was taken is left out by itself.
pub data Faulty (tokens : List Symbol) (l : ℕ) : Type 0 where
  at_token : (before : List Symbol) (t : Symbol) (us : List Symbol) → tokens ≡ before ++ t ∷ us → t.line ≡ l → AreKept before → Faulty tokens l
  behind_all : last_line 1 tokens ≡ l → AreKept tokens → Faulty tokens l

-- The machine of units reads the tokens up to one on this line, which stands too deep.
pub record TooDeep (tokens : List Symbol) (l : ℕ) : Type 0 where
  pub before : List Symbol
  pub t : Symbol
  pub us : List Symbol
  pub p : Point
  pub all : tokens ≡ before ++ t ∷ us
  pub line : t.line ≡ l
  pub reads : outer.run outer.start before ≡ Ok p
  pub nested : IsNested t p

-- The machine of units reads all of the tokens, and stands too deep behind them.
pub record EndsTooDeep (tokens : List Symbol) (l : ℕ) : Type 0 where
  pub p : Point
  pub line : last_line 1 tokens ≡ l
  pub reads : outer.run outer.start tokens ≡ Ok p
  pub nested : IsNested (end_at l) p

-- Tokens at the front pass the limit, and the last of them is on this line.
pub record BeyondAt (tokens : List Symbol) (which : Limit) (l : ℕ) : Type 0 where
  pub before : List Symbol
  pub us : List Symbol
  pub all : tokens ≡ before ++ us
  pub line : last_line 1 before ≡ l
  pub passes : Passes which before

abbrev pub limit_word : Limit → List ℕ
limit_word limit.Height = codes "height"
limit_word limit.Arguments = codes "arguments"

pub data UnitLimit (tokens : List Symbol) : List ℕ → ℕ → Type 0 where
  in_tree : {which : Limit} {l : ℕ} → BeyondAt tokens which l → UnitLimit tokens (limit_word which) l
  in_brackets : {l : ℕ} → TooManyBrackets tokens l → UnitLimit tokens (codes "height") l
  in_blocks : {l : ℕ} → TooDeep tokens l → UnitLimit tokens (codes "height") l
  too_deep : {l : ℕ} → EndsTooDeep tokens l → UnitLimit tokens (codes "height") l

-- X5 is the answer only where no token that is left out by itself stands before.
abbrev pub NamesNoMark : Type 0
NamesNoMark = (ts : List Symbol) (l : ℕ) → answer 0 1 outer.start ts ≡ Err (x.X5, l) → Faulty ts l

-- X9 is the answer only where that mark stands on the line.
abbrev pub NamesUnitMark : Type 0
NamesUnitMark = (ts : List Symbol) (word : List ℕ) (l : ℕ) → answer 0 1 outer.start ts ≡ Err (x.X9 word, l) → UnitMark ts word l

-- X10 is the answer only where the limit is passed.
abbrev pub NamesUnitLimit : Type 0
NamesUnitLimit = (ts : List Symbol) (word : List ℕ) (l : ℕ) → answer 0 1 outer.start ts ≡ Err (x.X10 word, l) → UnitLimit ts word l

-- X10 is the answer to each unit of the grammar that is not within the limits.
abbrev pub RefusesBeyond : Type 0
RefusesBeyond = (ts : List Symbol) (all : List External) → IsUnit false ts all → ((them : List External) → IsUnit true ts them → AreShallow 0 ts → ⊥) →
    (word : List ℕ) × (l : ℕ) × (answer 0 1 outer.start ts ≡ Err (x.X10 word, l))
