-- The one function that conditions are decided by says what the grammar says.
use Rattle.std.proofs.Common.{◌≡◌, Bool, List, [], ◌∷◌, Option, Some, None, Result, Err, refl, sym, ◌∙◌, ap, subst}
use Rattle.sc_lex.specs.declared.token.Token.{Token}
use Rattle.sc_pp_condition.specs.declared.operand.Operand.{Operand}
use Rattle.sc_pp_condition.specs.declared.machine.Term.{Term}
use Rattle.sc_pp_condition.specs.declared.machine.Term.TheVariants as t
use Rattle.sc_pp_condition.specs.declared.machine.Frame.{Frame}
use Rattle.sc_pp_condition.specs.declared.machine.State.TheVariants as s
use Rattle.sc_pp_condition.specs.declared.truth.ConditionFault.{ConditionFault}
use Rattle.sc_pp_condition.specs.declared.truth.ConditionFault.TheVariants as fault
use Rattle.sc_pp_condition.specs.Terms.{terms_of}
use Rattle.sc_pp_condition.specs.Grammar.{IsExpression}
use Rattle.sc_pp_condition.specs.Machine.{Config, run, step}
use Rattle.sc_pp_condition.specs.Decides.{decided, is_deep, AreExpression, Gives}
use Rattle.sc_pp_condition.specs.Verdict.{final, value_of, judged, verdict, IsMeaning}
use Rattle.sc_pp_condition.proofs.Sound.{ended}
use Rattle.sc_pp_condition.proofs.OneValue.{start, run-stops, run-more, takes_all}

finals : (o : Option Config) (x : Operand) → final o ≡ Some x → (fs : List Frame) × (o ≡ Some (fs, s.Done x))
finals None x h = cc
finals (Some (fs, s.Need)) x h = cc
finals (Some (fs, s.Have y l)) x h = cc
finals (Some (fs, s.Done y)) x h =
    let same : y ≡ x = cc in
    subst (λ (z : Operand). (gs : List Frame) × (◌≡◌ {A = Option Config} (Some (fs, s.Done y)) (Some (gs, s.Done z)))) same (fs, refl)

read_by : (ts : List Term) (x : Operand) (o : Option Config) → run start ts ≡ o → value_of ts ≡ Some x → IsExpression ts x
read_by ts x None h v = let none : value_of ts ≡ None = ap final (run-stops ts (t.End ∷ []) start h) in cc
read_by ts x (Some c) h v =
    let last = finals (step t.End c) x (sym (ap final (run-more ts t.End c h)) ∙ v) in
    ended ts c last.0 x h last.1

none_by : (ts : List Term) (o : Option Operand) → value_of ts ≡ o → (((x : Operand) × IsExpression ts x) → ⊥) → o ≡ None
none_by ts None h n = refl
none_by ts (Some x) h n = absurd (n (x, read_by ts x (run start ts) refl h))

verdict_is : (ts : List Token) (o : Option Operand) → value_of (terms_of ts) ≡ o → verdict ts ≡ judged (is_deep 0 (terms_of ts)) o
unfolding verdict
verdict_is ts o h = ap (judged (is_deep 0 (terms_of ts))) h

pub by_expression : (ts : List Token) (x : Operand) → IsExpression (terms_of ts) x → verdict ts ≡ decided (is_deep 0 (terms_of ts)) x
by_expression ts x e = verdict_is ts (Some x) (ap final (takes_all (terms_of ts) x e))

pub by_none : (ts : List Token) → (AreExpression ts → ⊥) → verdict ts ≡ Err fault.Malformed
by_none ts n = verdict_is ts None (none_by (terms_of ts) (value_of (terms_of ts)) refl n)

pub meaning : IsMeaning verdict
meaning = record { by_expression = by_expression; by_none = by_none }

-- What is decided for the tokens' one expression is the verdict.
pub at_expression : (ts : List Token) (x : Operand) (r : Result Bool ConditionFault) → IsExpression (terms_of ts) x → ((y : Operand) → IsExpression (terms_of ts) y → Gives (decided (is_deep 0 (terms_of ts)) y) r) → Gives (verdict ts) r
at_expression ts x r e h = subst (λ (o : Result Bool ConditionFault). Gives o r) (sym (by_expression ts x e)) (h x e)
