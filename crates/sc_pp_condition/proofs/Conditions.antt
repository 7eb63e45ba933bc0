-- What a condition decides is what its one expression decides.
use Rattle.std.proofs.Common.{◌≡◌, Bool, List, Result, Ok, Err, sym, ◌∙◌, ap, subst}
use Rattle.std.specs.Prelude.{IsErrOf}
use Rattle.sc_pp_condition.specs.declared.operand.Operand.{Operand}
use Rattle.sc_pp_condition.specs.declared.machine.Term.{Term}
use Rattle.sc_pp_condition.specs.declared.machine.Trouble.{Trouble}
use Rattle.sc_pp_condition.specs.declared.machine.Trouble.TheVariants as trouble
use Rattle.sc_pp_condition.specs.declared.truth.ConditionFault.{ConditionFault}
use Rattle.sc_pp_condition.specs.declared.truth.ConditionFault.TheVariants as fault
use Rattle.sc_pp_condition.specs.Grammar.{IsExpression}
use Rattle.sc_pp_condition.specs.Decides.{decided, is_deep, Gives}

gives : (r o : Result Bool ConditionFault) → o ≡ r → Gives o r
gives (Ok b) o h = h
gives (Err fault.Malformed) o h = h
gives (Err fault.TooHigh) o h = h
gives (Err fault.NoMemory) o h = tt

pub by_value : (ts us vs : List Term) (x : Operand) (deep : Bool) (r : Result Bool ConditionFault) → us ≡ ts → vs ≡ ts → ((y : Operand) → IsExpression us y → x ≡ y) → deep ≡ is_deep 0 vs → r ≡ decided deep x →
    (y : Operand) → IsExpression ts y → Gives (decided (is_deep 0 ts) y) r
by_value ts us vs x deep r e k only d h y g =
    let same : x ≡ y = only y (subst (λ (zs : List Term). IsExpression zs y) (sym e) g) in
    gives r (decided (is_deep 0 ts) y) (sym (h ∙ ap (λ b. decided b x) (d ∙ ap (is_deep 0) k) ∙ ap (decided (is_deep 0 ts)) same))

pub no_value : (ts us : List Term) (r : Result Operand Trouble) → us ≡ ts → (IsErrOf r trouble.Syntax → (x : Operand) → IsExpression us x → ⊥) → r ≡ Err trouble.Syntax → (x : Operand) → IsExpression ts x → ⊥
no_value ts us r e h q x g = h q x (subst (λ (zs : List Term). IsExpression zs x) (sym e) g)
