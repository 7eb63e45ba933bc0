-- Yardstick: to be compared with what it restates (docs/TRUST.md).
-- What `#if` decides, as one function of its tokens (ANSI 3.8.1).
use Rattle.std.specs.Prelude.{◌≡◌, Bool, List, [], ◌∷◌, ◌++◌, Option, Some, None, Result, Err}
use Rattle.sc_lex.specs.declared.token.Token.{Token}
use Rattle.sc_pp_condition.specs.declared.operand.Operand.{Operand}
use Rattle.sc_pp_condition.specs.declared.machine.Term.{Term}
use Rattle.sc_pp_condition.specs.declared.machine.Term.TheVariants as t
use Rattle.sc_pp_condition.specs.declared.machine.State.TheVariants as s
use Rattle.sc_pp_condition.specs.declared.truth.ConditionFault.{ConditionFault}
use Rattle.sc_pp_condition.specs.declared.truth.ConditionFault.TheVariants as fault
use Rattle.sc_pp_condition.specs.Terms.{terms_of}
use Rattle.sc_pp_condition.specs.Grammar.{IsExpression}
use Rattle.sc_pp_condition.specs.Machine.{Config, run}
use Rattle.sc_pp_condition.specs.Decides.{decided, is_deep, AreExpression}

abbrev pub final : Option Config → Option Operand
final (Some (fs, s.Done x)) = Some x
final _ = None

-- what the reader comes to, which takes one term after the other and then the end
abbrev pub value_of : List Term → Option Operand
value_of ts = final (run ([], s.Need) (ts ++ t.End ∷ []))

abbrev pub judged : Bool → Option Operand → Result Bool ConditionFault
judged deep None = Err fault.Malformed
judged deep (Some x) = decided deep x

-- what tokens decide that are ready
unfoldable pub verdict : List Token → Result Bool ConditionFault
verdict tokens = judged (is_deep 0 (terms_of tokens)) (value_of (terms_of tokens))

-- A function that says what conditions decide: an expression of the grammar what it comes to, and all other tokens are
-- malformed. There is one such function at most, since tokens are one expression at most.
pub record IsMeaning (decide : List Token → Result Bool ConditionFault) : Type 0 where
  pub by_expression : (ts : List Token) (x : Operand) → IsExpression (terms_of ts) x → decide ts ≡ decided (is_deep 0 (terms_of ts)) x
  pub by_none : (ts : List Token) → (AreExpression ts → ⊥) → decide ts ≡ Err fault.Malformed
