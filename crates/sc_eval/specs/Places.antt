-- Inside: plumbing, a representation, an invariant or a promise beside the claim (docs/TRUST.md).
-- Where the expression stands, as the code finds it.
use Rattle.std.specs.Prelude.{◌≡◌, ℕ, List, [], ◌∷◌, Option, Some, None, Result, Ok, Err}
use Rattle.sc_base.specs.declared.NoMemory.{NoMemory}
use Rattle.sc_base.specs.declared.refusal.Fault.{Fault}
use Rattle.sc_base.specs.declared.refusal.Fault.TheVariants as fault
use Rattle.sc_base.specs.declared.refusal.X.{X}
use Rattle.sc_base.specs.declared.refusal.X.TheVariants as x
use Rattle.sc_check.specs.Outcomes.{IsRefused}
use Rattle.sc_check.specs.Units.{unit_of}
use Rattle.sc_eval.specs.Starts.{IsExpression, IsScope, Makes, Refused, in_body}
use Rattle.sc_eval.specs.declared.starting.Evaluation.{Evaluation}
use Rattle.sc_lex.specs.declared.token.Token.{Token}
use Rattle.sc_parse_expr.specs.Brackets.{AreShallow}
use Rattle.sc_parse_expr.specs.declared.driver.Found.{Found}
use Rattle.sc_parse_expr.specs.declared.driver.Refused.{Refused as NotRead}
use Rattle.sc_parse_grammar.specs.declared.operand.Operand.{Operand}
use Rattle.sc_parse_grammar.specs.declared.trouble.Trouble.TheVariants as trouble
use Rattle.sc_parse_names.specs.Names.{Names}
use Rattle.sc_parse_tokens.specs.Symbols.{symbols}
use Rattle.sc_parse_names.specs.declared.kind.Symbol.{Symbol}
use Rattle.sc_parse_unit.specs.declared.around.Around.{Around}
use Rattle.sc_parse_unit.specs.declared.around.Around.TheVariants as a
use Rattle.sc_parse_unit.specs.declared.around.Stage.{Stage}
use Rattle.sc_parse_unit.specs.declared.around.Stage.TheVariants as at
use Rattle.sc_parse_unit.specs.Machine.{run, start}
use Rattle.sc_tree.specs.declared.expression.Expr.{Expr}
use Rattle.sc_tree.specs.declared.statement.External.{External}

-- Nothing is open but a unit.
abbrev pub IsUnitAlone : List Around → Type 0
IsUnitAlone fs = (items : List External) × (fs ≡ a.Unit items ∷ [])

-- A unit may end here.
abbrev pub AtFile : List Around → Stage → Type 0
AtFile fs stage = IsUnitAlone fs × (stage ≡ at.Due)

-- The machine of units reads the tokens as a unit, and has these names in scope behind them.
abbrev pub Behind : List Symbol → Names → Type 0
Behind ts names = (items : List External) × (run start ts ≡ Ok (names, (a.Unit items ∷ [], at.Due)))

-- These names are in scope where the function's body begins, behind these tokens of a module.
pub record InBody (tokens : List Token) (names : Names) : Type 0 where
  pub outer : Names
  pub scope : IsScope tokens outer
  pub inner : names ≡ in_body outer

-- all of so many symbols were read
abbrev pub Whole : ℕ → Result Found NotRead → Result (Option Expr) NoMemory → Type 0
Whole count (Ok f) (Ok (Some tree)) = (f.taken ≡ count) × (f.tree ≡ tree)
Whole count (Ok f) (Ok None) = f.taken ≡ count → ⊥
Whole count (Err e) (Ok (Some tree)) = ⊥
Whole count (Err e) (Ok None) = e.trouble ≡ trouble.NoMemory → ⊥
Whole count found (Err no_memory) = Unit {0}

-- The tokens are an expression with this tree; or they are none, as far as at most 500 brackets are open in them.
abbrev pub Expresses : Names → List Token → Option Expr → Type 0
Expresses names e (Some tree) = (x : Operand) × IsExpression names e x × (tree ≡ x.tree)
Expresses names e None = AreShallow 0 (symbols e) → (x : Operand) → IsExpression names e x → ⊥

-- what the rules of types make of the whole text
abbrev pub Types : List ℕ → List External → Result Evaluation Fault → Type 0
Types name items (Ok s) = Makes name items s
Types name items (Err f) = Refused (λ kind. (line : ℕ) × IsRefused (unit_of name items) kind line) f

-- the refusal of another part
abbrev pub InLine : Fault → Fault → Type 0
InLine (fault.Refused r) f = Refused (λ kind. kind ≡ r.kind) f
InLine fault.NoMemory f = f ≡ fault.NoMemory

-- of the grammar
abbrev pub ByKind : X → Fault → Type 0
ByKind (x.X10 limit) f = Refused (λ kind. kind ≡ x.X10 limit) f
ByKind _ f = Refused (λ kind. kind ≡ x.X5) f

abbrev pub InGrammar : Fault → Fault → Type 0
InGrammar (fault.Refused r) f = ByKind r.kind f
InGrammar fault.NoMemory f = f ≡ fault.NoMemory
