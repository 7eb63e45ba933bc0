-- What an expression's state means comes from the state's world.
use Rattle.std.proofs.Common.{ℕ, Bool, true, false, List, [], ◌∷◌, ◌++◌, Option, subst}
use Rattle.sc_base.specs.declared.report.Rule.{Rule}
use Rattle.sc_types.specs.declared.ctype.CType.{CType}
use Rattle.sc_core.specs.declared.expression.CoreExpr.{CoreExpr}
use Rattle.sc_meaning.specs.Values.{Value, Number, FunctionAt, Pointer}
use Rattle.sc_meaning.specs.World.{World, GoesOut, ComesBack, pass, tick}
use Rattle.sc_meaning.specs.Outcomes.{Outcome, Done, and_then, world_after, unless}
use Rattle.sc_meaning.specs.Accesses.{tested}
use Rattle.sc_meaning.specs.Versions.{Text, History, version_at}
use Rattle.sc_meaning.specs.Expressions.{Env, Answer, finished, plain, used, valued, either, truth, value_rule, call_breach, call_value, called, args_then, one}
use Rattle.sc_meaning.specs.Calls.{eval, call}
use Rattle.sc_meaning.specs.Laws.{Leads}
use Rattle.sc_meaning.proofs.Steps.{here, on, one_more}
use Rattle.sc_meaning.proofs.Growing.{eval_leads, call_leads}
use Rattle.sc_interp_machine.specs.Machine.{pair_of, store_of}
use Rattle.sc_interp_machine.specs.Means.{item_of, After, Means, made}
use Rattle.sc_interp_machine.specs.declared.pending.Item.{Item}
use Rattle.sc_interp_machine.specs.declared.pending.Item.TheVariants.{Alone, Right, Now, StoreRight, StoreNow, StructureRight, StructureNow, And, Or, Choice, Then, Callee, Argument}
use Rattle.sc_interp_machine.specs.declared.pending.Mode.{Mode}
use Rattle.sc_interp_machine.specs.declared.pending.Mode.TheVariants.{Eval, Give}
use Rattle.sc_interp_laws.proofs.Road.{Happening, then_goes, unless_goes}
use Rattle.sc_interp_laws.proofs.Parts.{used_goes, tested_goes, truth_goes, finish_goes, single_goes, pair_goes, store_goes, structure_goes}

pub then_leads : {A B : Type 0} (w : World) (r : Outcome A) (f : A → World → Outcome B) → Leads w (world_after r) → ((a : A) (v : World) → Leads v (world_after (f a v))) → Leads w (world_after (and_then r f))
then_leads w r f l q = then_goes Happening w r f l q

pub either_leads : {A : Type 0} (yes : Bool) (f g : World → Outcome A) (w : World) → Leads w (world_after (f w)) → Leads w (world_after (g w)) → Leads w (world_after (either yes f g w))
either_leads true f g w p q = p
either_leads false f g w p q = q

pub used_leads : (a : Answer) (w : World) → Leads w (world_after (used a w))
used_leads a w = used_goes Happening a w

pub tested_leads : (t : CType) (v : Value) (w : World) → Leads w (world_after (tested t v w))
tested_leads t v w = tested_goes Happening t v w

module _ (h : History) (m : ℕ) where
  value_leads : (v : Value) (vs : List Value) (w : World) → Leads w (world_after (call_value (call m h) v vs w))
  value_leads (FunctionAt key) vs w = call_leads m h key vs w
  value_leads (Number n) vs w = here w
  value_leads (Pointer o i) vs w = here w

  -- a call that is tested, and made
  pub tested_call : (rule : Option Rule) (v : Value) (vs : List Value) (w : World) → Leads w (world_after (unless rule (call_breach v w) (call_value (call m h) v vs) w))
  tested_call rule v vs w = unless_goes Happening rule (call_breach v w) (call_value (call m h) v vs) w (λ e. value_leads v vs w)

  called_leads : (t : Text) (s : CType) (v : Value) (vs : List Value) (w : World) → Leads w (world_after (called h (call m h) t s v vs w))
  called_leads t s v vs w =
      let x : World = pass GoesOut w in
      let r : Outcome Answer = unless (value_rule (version_at h x.count) t s v) (call_breach v x) (call_value (call m h) v vs) x in
      then_leads w r (λ a w. finished a (pass ComesBack w)) (on w x (world_after r) (one_more _ w) (tested_call (value_rule (version_at h x.count) t s v) v vs x))
      (λ a u. on u (pass ComesBack u) (tick (pass ComesBack u)) (one_more _ u) (one_more _ (pass ComesBack u)))

  pub valued_leads : (env : Env) (e : CoreExpr) (w : World) → Leads w (world_after (valued (eval m h) env e w))
  valued_leads env e w = then_leads w (eval m h env e w) used (eval_leads m h env e w) used_leads

  one_leads : (env : Env) (e : CoreExpr) (w : World) (go : Value → World → Outcome Answer) → ((v : Value) (u : World) → Leads u (world_after (go v u))) → Leads w (world_after (one (eval m h) env e w go))
  one_leads env e w go q = then_leads w (valued (eval m h) env e w) go (valued_leads env e w) q

  args_lead : (env : Env) (es : List CoreExpr) (vs : List Value) (w : World) (go : List Value → World → Outcome Answer) → ((vs : List Value) (u : World) → Leads u (world_after (go vs u))) → Leads w (world_after (args_then (eval m h) env es vs w go))
  args_lead env [] vs w go q = q vs w
  args_lead env (e ∷ es) vs w go q = then_leads w (valued (eval m h) env e w) _ (valued_leads env e w) (λ v u. args_lead env es (vs ++ v ∷ []) u go q)

  item_leads : (env : Env) (i : Item) (a : Answer) (w : World) → Leads w (world_after (item_of h (eval m h) (call m h) env i a w))
  item_leads env (Alone s) a w = single_goes Happening s a w
  item_leads env (Right p b) a w = then_leads w (used a w) _ (used_leads a w) (λ x u. one_leads env b u (pair_of p x) (pair_goes Happening p x))
  item_leads env (Now p x) a w = then_leads w (used a w) _ (used_leads a w) (pair_goes Happening p x)
  item_leads env (StoreRight s b) a w = one_leads env b w (store_of s a) (store_goes Happening s a)
  item_leads env (StoreNow s p) a w = then_leads w (used a w) _ (used_leads a w) (store_goes Happening s p)
  item_leads env (StructureRight size b) a w = then_leads w (eval m h env b w) _ (eval_leads m h env b w) (structure_goes Happening size a)
  item_leads env (StructureNow size p) a w = structure_goes Happening size p a w
  item_leads env (And s t b) a w =
      then_leads w (used a w) _ (used_leads a w) (λ x u. then_leads u (tested s x u) _ (tested_leads s x u) (λ yes z.
      either_leads yes (λ w. one (eval m h) env b w (truth t)) (plain (Number 0)) z (one_leads env b z (truth t) (truth_goes Happening t)) (one_more _ z)))
  item_leads env (Or s t b) a w =
      then_leads w (used a w) _ (used_leads a w) (λ x u. then_leads u (tested s x u) _ (tested_leads s x u) (λ yes z.
      either_leads yes (plain (Number 1)) (λ w. one (eval m h) env b w (truth t)) z (one_more _ z) (one_leads env b z (truth t) (truth_goes Happening t))))
  item_leads env (Choice t b d) a w =
      then_leads w (used a w) _ (used_leads a w) (λ x u. then_leads u (tested t x u) _ (tested_leads t x u) (λ yes z.
      then_leads z (either yes (eval m h env b) (eval m h env d) z) finished (either_leads yes (eval m h env b) (eval m h env d) z (eval_leads m h env b z) (eval_leads m h env d z)) (finish_goes Happening)))
  item_leads env (Then b) a w = then_leads w (eval m h env b w) finished (eval_leads m h env b w) (finish_goes Happening)
  item_leads env (Callee t es) a w = then_leads w (used a w) _ (used_leads a w) (λ v u. args_lead env es [] u (called h (call m h) env.text t v) (called_leads env.text t v))
  item_leads env (Argument t v es vs) a w = then_leads w (used a w) _ (used_leads a w) (λ y u. args_lead env es (vs ++ y ∷ []) u (called h (call m h) env.text t v) (called_leads env.text t v))

  pub made_leads : (t : Text) (s : CType) (v : Value) (vs : List Value) (w : World) → Leads w (world_after (made h (call m h) t s v vs w))
  made_leads t s v vs w = tested_call (value_rule (version_at h w.count) t s v) v vs w

-- what comes of an outcome comes from where the outcome came from
pub after_leads : (h : History) (env : Env) (n : ℕ) (is : List Item) (w : World) (r out : Outcome Answer) → Leads w (world_after r) → After h env n is r out → Leads w (world_after out)
after_leads h env n [] w r out l p = subst (λ o. Leads w (world_after o)) p l
after_leads h env n (i ∷ is) w r out l p =
    after_leads h env n is w (and_then r (item_of h (eval p.0 h) (call p.0 h) env i)) out
    (then_leads w r (item_of h (eval p.0 h) (call p.0 h) env i) l (item_leads h p.0 env i)) p.2

pub means_leads : (h : History) (env : Env) (n : ℕ) (mode : Mode) (is : List Item) (w : World) (out : Outcome Answer) → Means h env n mode is w out → Leads w (world_after out)
means_leads h env n (Eval e) is w out p = after_leads h env n is w (eval p.0 h env e w) out (eval_leads p.0 h env e w) p.2
means_leads h env n (Give a) is w out p = after_leads h env n is w (Done a w) out (here w) p
