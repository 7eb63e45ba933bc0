-- Yardstick: to be compared with what it restates (docs/TRUST.md).
-- The conditions of `#if`, `#elif`, `#ifdef` and `#ifndef` (ANSI 3.8.1).
use Rattle.std.specs.Prelude.{ℕ, Bool, true, false, if◌then◌else◌, List, [], ◌∷◌, ◌++◌, Option, Some, None, Result, Ok, Err, codes}
use Rattle.std.specs.Str.{bytes_eq}
use Rattle.sc_base.specs.declared.refusal.X.TheVariants as x
use Rattle.sc_lex.specs.declared.token.Token.{Token}
use Rattle.sc_lex.specs.declared.token.TokenKind.TheVariants as kind
use Rattle.sc_macro.specs.Tokens.{is_name, is_mark}
use Rattle.sc_pp_condition.specs.declared.truth.ConditionFault.{ConditionFault}
use Rattle.sc_pp_condition.specs.declared.truth.ConditionFault.TheVariants as wrong
use Rattle.sc_pp.specs.declared.asking.Asking.{Asking}
use Rattle.sc_pp.specs.declared.asking.Asking.TheVariants as asking
use Rattle.sc_pp.specs.Outcomes.{Outcome, refuse}
use Rattle.sc_pp.specs.Environments.{Env}
pub use Rattle.sc_pp.specs.Environments.{is_defined}

abbrev pub digit : Bool → List ℕ
digit true = codes "1"
digit false = codes "0"

-- 1 for a name that is defined, or 0, in the place of a token
abbrev pub answer : Bool → Token → Token
answer defined t = record { kind = kind.Number; text = digit defined; file = t.file; line = t.line; space = t.space }

abbrev pub asks : Token → Bool
asks t = if is_name t then bytes_eq t.text (codes "defined") else false

-- the tokens so far, and what is due next
abbrev pub Asked : Type 0
Asked = List Token × Asking

abbrev pub ask : Env → Asking → List Token → Token → Option Asked
ask env asking.Nothing out t = if asks t then Some (out, asking.Name) else Some (out ++ t ∷ [], asking.Nothing)
ask env asking.Name out t =
    if is_name t then Some (out ++ answer (is_defined env t.text) t ∷ [], asking.Nothing)
    else if is_mark 40 t then Some (out, asking.Inside) else None
ask env asking.Inside out t = if is_name t then Some (out ++ answer (is_defined env t.text) t ∷ [], asking.Closing) else None
ask env asking.Closing out t = if is_mark 41 t then Some (out, asking.Nothing) else None

abbrev pub asked_all : List Token → Asking → Option (List Token)
asked_all out asking.Nothing = Some out
asked_all out _ = None

abbrev pub or_stop : Option Asked → (Asked → Option (List Token)) → Option (List Token)
or_stop None f = None
or_stop (Some a) f = f a

-- The tokens of a condition in which `defined NAME` and `defined ( NAME )` are 1 or 0; None where `defined` stands otherwise.
abbrev pub answered : Env → Asking → List Token → List Token → Option (List Token)
answered env a out [] = asked_all out a
answered env a out (t ∷ ts) = or_stop (ask env a out t) (λ r. answered env r.1 r.0 ts)

-- what is decided, as it is told at a line
abbrev pub told : List ℕ → ℕ → Result Bool ConditionFault → Outcome Bool
told file line (Ok b) = Ok b
told file line (Err wrong.Malformed) = refuse x.X2 file line
told file line (Err wrong.TooHigh) = refuse (x.X10 (codes "height")) file line
told file line (Err wrong.NoMemory) = refuse x.X2 file line

-- the one name that `#ifdef`, `#ifndef` and `#undef` take
abbrev pub only_name : List Token → Option (List ℕ)
only_name (t ∷ []) = if is_name t then Some t.text else None
only_name _ = None
