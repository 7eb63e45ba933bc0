-- Yardstick: to be compared with what it restates (docs/TRUST.md).
-- What an expression is evaluated by, and why it is refused.
use Rattle.std.specs.Prelude.{◌≡◌, ℕ, ◌≤◌, true, false, List, [], ◌∷◌, Some, Result, Ok, Err, codes}
use Rattle.sc_base.specs.declared.refusal.Fault.{Fault}
use Rattle.sc_base.specs.declared.refusal.Fault.TheVariants as fault
use Rattle.sc_base.specs.declared.refusal.Refusal.{Refusal}
use Rattle.sc_base.specs.declared.refusal.X.{X}
use Rattle.sc_base.specs.declared.refusal.X.TheVariants as x
use Rattle.sc_check.specs.Outcomes.{IsRefused}
use Rattle.sc_check.specs.Units.{unit_of}
use Rattle.sc_core.specs.declared.module.Core.{Core}
use Rattle.sc_core.specs.Modules.{function_of}
use Rattle.sc_core_formed.specs.Modules.{formed}
use Rattle.sc_eval.specs.Strings.{has_string}
use Rattle.sc_eval.specs.Texts.{IsUnit, eval_name, text_of}
use Rattle.sc_eval.specs.declared.starting.Evaluation.{Evaluation}
use Rattle.sc_lex.specs.declared.token.Token.{Token}
use Rattle.sc_lex.specs.Tokens as lexed
use Rattle.sc_parse_grammar.specs.declared.operand.Operand.{Operand}
use Rattle.sc_parse_grammar.specs.Grammar.{Phrase}
use Rattle.sc_parse_laws.specs.Causes.{Cause}
use Rattle.sc_parse_names.specs.Names.{Names, declare, enter}
use Rattle.sc_parse_tokens.specs.Symbols.{symbols}
use Rattle.sc_parse_unit.specs.Grammar.{UnitTokens}
use Rattle.sc_tree.specs.declared.statement.External.{External}

-- the names of types in scope in the body of the function, where these are in scope behind the module's text
abbrev pub in_body : Names → Names
in_body names = enter (declare eval_name false names)

-- Behind these tokens of a module these names are in scope.
pub record IsScope (tokens : List Token) (names : Names) : Type 0 where
  pub items : List External
  pub unit : UnitTokens true ([] ∷ []) names (symbols tokens) items

-- Where these names are in scope the tokens alone are this expression of the grammar within the limits.
pub record IsExpression (names : Names) (e : List Token) (a : Operand) : Type 0 where
  pub after : Names
  pub phrase : Phrase true names after (symbols e) a
  pub height : a.height ≤ 200

-- The grammar refuses the tokens, and not for a limit.
pub data IsNoUnit (tokens : List Token) : Type 0 where
  no_unit : (line : ℕ) → Cause (symbols tokens) x.X5 line → IsNoUnit tokens
  left_out : (name : List ℕ) (line : ℕ) → Cause (symbols tokens) (x.X9 name) line → IsNoUnit tokens

-- The grammar passes them, or refuses them for no limit.
pub data IsWithinLimits (tokens : List Token) : Type 0 where
  passed : (items : List External) → IsUnit tokens items → IsWithinLimits tokens
  refused : IsNoUnit tokens → IsWithinLimits tokens

-- The tokens are an expression in which no string stands outside `sizeof`, and the whole text is this unit.
pub record IsAsked (tokens e : List Token) (items : List External) : Type 0 where
  pub names : Names
  pub scope : IsScope tokens names
  pub a : Operand
  pub expression : IsExpression (in_body names) e a
  pub strings : has_string a.tree ≡ false
  pub unit : IsUnit (text_of tokens e) items

-- By the rules of types these functions and declarations are a module, which is formed and has this function and these structures.
pub record Makes (name : List ℕ) (items : List External) (s : Evaluation) : Type 0 where
  pub core : Core
  pub checks : unit_of name items ≡ Ok core
  pub formed : formed core ≡ true
  pub function : function_of eval_name core.funs ≡ Some s.function
  pub structs : s.structs ≡ core.structs

-- This evaluates the expression that these tokens are.
pub record StartsTokens (tokens : List Token) (name : List ℕ) (e : List Token) (s : Evaluation) : Type 0 where
  pub items : List External
  pub asked : IsAsked tokens e items
  pub makes : Makes name items s

-- Why there is nothing that evaluates it, the first of: a limit of the grammar, which the whole text passes; the tokens are no expression; a string that would be an object; a rule of types.
pub data RefusesTokens (tokens : List Token) (name : List ℕ) (e : List Token) : X → Type 0 where
  beyond_limit : (limit : List ℕ) (line : ℕ) → Cause (symbols (text_of tokens e)) (x.X10 limit) line → RefusesTokens tokens name e (x.X10 limit)
  no_expression : (names : Names) → IsWithinLimits (text_of tokens e) → IsScope tokens names → ((a : Operand) → IsExpression (in_body names) e a → ⊥) →
      RefusesTokens tokens name e x.X5
  with_string : (items : List External) (names : Names) (a : Operand) → IsUnit (text_of tokens e) items → IsScope tokens names →
      IsExpression (in_body names) e a → has_string a.tree ≡ true → RefusesTokens tokens name e (x.X9 (codes "evalstring"))
  in_types : (items : List External) (kind : X) (line : ℕ) → IsAsked tokens e items → IsRefused (unit_of name items) kind line → RefusesTokens tokens name e kind

-- This evaluates the expression that the line is, behind these tokens of the module of this name.
pub record Starts (tokens : List Token) (name line : List ℕ) (s : Evaluation) : Type 0 where
  pub e : List Token
  pub reads : lexed.tokens 0 line ≡ Ok e
  pub starts : StartsTokens tokens name e s

-- Why a line is refused: for its tokens, or else for what they are.
pub data Refuses (tokens : List Token) (name line : List ℕ) : X → Type 0 where
  in_tokens : (r : Refusal) → lexed.tokens 0 line ≡ Err (fault.Refused r) → Refuses tokens name line r.kind
  behind_tokens : (e : List Token) (kind : X) → lexed.tokens 0 line ≡ Ok e → RefusesTokens tokens name e kind → Refuses tokens name line kind

-- It is a refusal for one of these kinds, in the file `eval` on line 1; or no memory was left.
abbrev pub Refused : (X → Type 0) → Fault → Type 0
Refused K (fault.Refused r) = K r.kind × (r.file ≡ codes "eval") × (r.line ≡ 1)
Refused K fault.NoMemory = Unit {0}

-- what the code answers
abbrev pub AnswersTokens : List Token → List ℕ → List Token → Result Evaluation Fault → Type 0
AnswersTokens tokens name e (Ok s) = StartsTokens tokens name e s
AnswersTokens tokens name e (Err f) = Refused (RefusesTokens tokens name e) f

abbrev pub Answers : List Token → List ℕ → List ℕ → Result Evaluation Fault → Type 0
Answers tokens name line (Ok s) = Starts tokens name line s
Answers tokens name line (Err f) = Refused (Refuses tokens name line) f
