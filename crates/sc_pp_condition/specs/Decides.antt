-- Yardstick: to be compared with what it restates (docs/TRUST.md).
-- What an `#if` decides (ANSI 3.8.1).
use Rattle.std.specs.Prelude.{ℕ, ◌+◌, ◌-◌, ◌==◌, ◌≡◌, nat_lt, Bool, true, false, not, ◌||◌, if◌then◌else◌, List, [], ◌∷◌, Result, Ok, Err}
use Rattle.sc_lex.specs.declared.token.Token.{Token}
use Rattle.sc_pp_condition.specs.declared.operand.Operand.{Operand}
use Rattle.sc_pp_condition.specs.declared.machine.Term.{Term}
use Rattle.sc_pp_condition.specs.declared.machine.Term.TheVariants as t
use Rattle.sc_pp_condition.specs.declared.truth.ConditionFault.{ConditionFault}
use Rattle.sc_pp_condition.specs.declared.truth.ConditionFault.TheVariants as fault
use Rattle.sc_pp_condition.specs.Grammar.{IsExpression}
use Rattle.sc_pp_condition.specs.Terms.{terms_of}

-- how many parentheses are open behind the term, where n were before it
abbrev pub open_after : ℕ → Term → ℕ
open_after n t.LeftParen = n + 1
open_after n t.RightParen = n - 1
open_after n _ = n

-- At some place more than 500 parentheses are open.
abbrev pub is_deep : ℕ → List Term → Bool
is_deep n [] = false
is_deep n (u ∷ us) = if nat_lt 500 (open_after n u) then true else is_deep (open_after n u) us

-- A tree is at most 200 high, and a division by zero that is evaluated is a fault.
abbrev pub decided : Bool → Operand → Result Bool ConditionFault
decided deep x =
    if deep || nat_lt 200 x.height then Err fault.TooHigh else
    if x.stops then Err fault.Malformed else Ok (not (x.value.bits == 0))

-- This is the outcome; want of memory may come in its place.
abbrev pub Gives : Result Bool ConditionFault → Result Bool ConditionFault → Type 0
Gives outcome (Err fault.NoMemory) = Unit {0}
Gives outcome (Err fault.Malformed) = outcome ≡ Err fault.Malformed
Gives outcome (Err fault.TooHigh) = outcome ≡ Err fault.TooHigh
Gives outcome (Ok b) = outcome ≡ Ok b

-- These tokens are an expression.
abbrev pub AreExpression : List Token → Type 0
AreExpression tokens = (x : Operand) × IsExpression (terms_of tokens) x
