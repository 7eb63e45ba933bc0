-- From what each part answers to the answer of all.
use Rattle.std.proofs.Common.{◌≡◌, ℕ, true, false, List, None, Some, Result, Ok, Err, sym, ◌∙◌, ap, subst}
use Rattle.std.specs.Prelude.{codes}
use Rattle.sc_base.specs.declared.refusal.Fault.{Fault}
use Rattle.sc_base.specs.declared.refusal.Fault.TheVariants as fault
use Rattle.sc_base.specs.declared.refusal.X.{X}
use Rattle.sc_base.specs.declared.refusal.X.TheVariants as x
use Rattle.sc_check.specs.Outcomes as rules
use Rattle.sc_check.specs.Units.{unit_of}
use Rattle.sc_core.specs.declared.module.Core.{Core}
use Rattle.sc_core.specs.Modules.{function_of}
use Rattle.sc_core_formed.specs.Modules.{formed}
use Rattle.sc_lex.specs.declared.token.Token.{Token}
use Rattle.sc_lex.specs.Tokens as lexed
use Rattle.sc_tree.specs.declared.expression.Expr.{Expr}
use Rattle.sc_tree.specs.declared.statement.External.{External}
use Rattle.sc_tree.specs.declared.statement.Unit.{Unit as Tree}
use Rattle.sc_parse_grammar.specs.declared.operand.Operand.{Operand}
use Rattle.sc_parse_laws.specs.Causes.{Parses}
use Rattle.sc_parse_names.specs.Names.{Names}
use Rattle.sc_parse_tokens.specs.Symbols.{symbols}
use Rattle.sc_eval.specs.declared.starting.Evaluation.{Evaluation}
use Rattle.sc_eval.specs.Strings.{has_string}
use Rattle.sc_eval.specs.Texts.{IsUnit, eval_name, text_of}
use Rattle.sc_eval.specs.Places.{InBody, InGrammar, InLine, Types, Expresses}
use Rattle.sc_eval.specs.Starts.{in_body, IsExpression, IsAsked, passed, Refused, Refuses, in_tokens, behind_tokens, RefusesTokens, no_expression, with_string, in_types, AnswersTokens, Answers}
use Rattle.sc_eval.proofs.Causes.{for_kinds, for_one, grammar_refuses}
use Rattle.sc_eval.proofs.Limits.{shallow_part}

module _ (tokens : List Token) (name : List ℕ) (e : List Token) (names : Names) (place : InBody tokens names) where
  -- where the expression stands
  moved : (a : Operand) → IsExpression names e a → IsExpression (in_body place.outer) e a
  moved a d = subst (λ (v : Names). IsExpression v e a) place.inner d

  back : (a : Operand) → IsExpression (in_body place.outer) e a → IsExpression names e a
  back a d = subst (λ (v : Names). IsExpression v e a) (sym place.inner) d

  pub string_refused : (items : List External) (tree : Expr) (f : Fault) → IsUnit (text_of tokens e) items → (a : Operand) × IsExpression names e a × (tree ≡ a.tree) → has_string tree ≡ true →
      Refused (λ kind. kind ≡ x.X9 (codes "evalstring")) f → Refused (RefusesTokens tokens name e) f
  string_refused items tree f u d s r =
      for_one (RefusesTokens tokens name e) (x.X9 (codes "evalstring")) f
      (with_string items place.outer d.0 u place.scope (moved d.0 d.1) (ap has_string (sym d.2) ∙ s)) r

  pub none_refused : (items : List External) (f : Fault) → IsUnit (text_of tokens e) items → Expresses names e None → Refused (λ kind. kind ≡ x.X5) f → Refused (RefusesTokens tokens name e) f
  none_refused items f u d r =
      for_one (RefusesTokens tokens name e) x.X5 f
      (no_expression place.outer (passed items u) place.scope (λ a w. d (shallow_part tokens e u.1) a (back a w))) r

  typed_asked : (items : List External) (tree : Expr) → IsUnit (text_of tokens e) items → (a : Operand) × IsExpression names e a × (tree ≡ a.tree) → has_string tree ≡ false → IsAsked tokens e items
  typed_asked items tree u d s = record { names = place.outer; scope = place.scope; a = d.0; expression = moved d.0 d.1; strings = ap has_string (sym d.2) ∙ s; unit = u }

  pub typed_so : (items : List External) (tree : Expr) (result : Result Evaluation Fault) → IsUnit (text_of tokens e) items → (a : Operand) × IsExpression names e a × (tree ≡ a.tree) → has_string tree ≡ false →
      Types name items result → AnswersTokens tokens name e result
  typed_so items tree (Ok s) u d h t = record { items = items; asked = typed_asked items tree u d h; makes = t }
  typed_so items tree (Err f) u d h t =
      for_kinds (λ kind. (line : ℕ) × rules.IsRefused (unit_of name items) kind line) (RefusesTokens tokens name e) f (λ kind r. in_types items kind r.0 (typed_asked items tree u d h) r.1) t

  pub grammar_so : (text : List Token) (r f : Fault) → text ≡ text_of tokens e → Parses (symbols text) (Err r) → InGrammar r f → Refused (RefusesTokens tokens name e) f
  grammar_so text (fault.Refused r) f same p b =
      let q = subst (λ (v : List Token). Parses (symbols v) (Err (fault.Refused r))) same p in grammar_refuses tokens name e place.outer place.scope r f q.answers q.causes b
  grammar_so text fault.NoMemory f same p b = subst (λ (v : Fault). Refused (RefusesTokens tokens name e) v) (sym b) tt

-- what the grammar reads is a unit
pub unit_of_text : (tokens e text : List Token) (unit : Tree) → text ≡ text_of tokens e → Parses (symbols text) (Ok unit) → IsUnit (text_of tokens e) unit.items
unit_of_text tokens e text unit same p =
    let q = subst (λ (v : List Token). Parses (symbols v) (Ok unit)) same p in (q.only, q.shallow)

-- the rules of types
pub types_refuse : (name : List ℕ) (items : List External) (r f : Fault) → rules.Answers (unit_of name items) (Err r) → InLine r f → Types name items (Err f)
types_refuse name items (fault.Refused r) f a b =
    for_kinds (λ kind. kind ≡ r.kind) (λ kind. (line : ℕ) × rules.IsRefused (unit_of name items) kind line) f
    (λ kind e. (r.line, subst (λ (v : X). rules.IsRefused (unit_of name items) v r.line) (sym e) a.0)) b
types_refuse name items fault.NoMemory f a b = subst (λ (v : Fault). Types name items (Err v)) (sym b) tt

pub types_make : (name : List ℕ) (items : List External) (core : Core) (s : Evaluation) → unit_of name items ≡ Ok core → formed core ≡ true → function_of eval_name core.funs ≡ Some s.function → s.structs ≡ core.structs →
    Types name items (Ok s)
types_make name items core s c law f h = record { core = core; checks = c; formed = law; function = f; structs = h }

-- the line's tokens
pub line_refused : (tokens : List Token) (name line : List ℕ) (r f : Fault) → lexed.Gives (lexed.tokens 0 line) (Err r) → InLine r f → Answers tokens name line (Err f)
line_refused tokens name line (fault.Refused r) f g b =
    for_one (Refuses tokens name line) r.kind f (in_tokens r g) b
line_refused tokens name line fault.NoMemory f g b = subst (λ (v : Fault). Answers tokens name line (Err v)) (sym b) tt

pub line_answers : (tokens : List Token) (name line : List ℕ) (e : List Token) (result : Result Evaluation Fault) → lexed.tokens 0 line ≡ Ok e → AnswersTokens tokens name e result → Answers tokens name line result
line_answers tokens name line e (Ok s) l a = record { e = e; reads = l; starts = a }
line_answers tokens name line e (Err f) l a =
    for_kinds (RefusesTokens tokens name e) (Refuses tokens name line) f (λ kind r. behind_tokens e kind l r) a
