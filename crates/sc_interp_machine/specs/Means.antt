-- Inside: plumbing, a representation, an invariant or a promise beside the claim (docs/TRUST.md).
-- What is left of an expression's evaluation, as the meaning of what is pending.
use Rattle.std.specs.Prelude.{◌≡◌, ℕ, ◌≤◌, List, [], ◌∷◌, ◌++◌}
use Rattle.sc_types.specs.declared.ctype.CType.{CType}
use Rattle.sc_meaning.specs.Values.{Value, Number}
use Rattle.sc_meaning.specs.World.{World}
use Rattle.sc_meaning.specs.Outcomes.{Outcome, Done, Over, and_then, unless}
use Rattle.sc_meaning.specs.Accesses.{tested}
use Rattle.sc_meaning.specs.Versions.{Text, History, version_at}
use Rattle.sc_meaning.specs.Expressions.{Env, Answer, Eval as Evals, Call as Called, finished, plain, used, either, truth, assigned_structure, value_rule, call_breach, call_value, called, args_then, one}
use Rattle.sc_meaning.specs.Calls.{eval, call}
use Rattle.sc_interp_machine.specs.Machine.{Advanced, GoesOn, CallsOut, Gives, Breaks, single_of, pair_of, store_of}
use Rattle.sc_interp_machine.specs.declared.pending.Item.{Item}
use Rattle.sc_interp_machine.specs.declared.pending.Item.TheVariants.{Alone, Right, Now, StoreRight, StoreNow, StructureRight, StructureNow, And, Or, Choice, Then, Callee, Argument}
use Rattle.sc_interp_machine.specs.declared.pending.Mode.{Mode}
use Rattle.sc_interp_machine.specs.declared.pending.Mode.TheVariants.{Eval, Give}

-- what is done with an answer, by the meaning of the parts
abbrev pub item_of : History → Evals → Called → Env → Item → Answer → World → Outcome Answer
item_of h eval call env (Alone s) a w = single_of s a w
item_of h eval call env (Right p b) a w = and_then (used a w) (λ x w. one eval env b w (pair_of p x))
item_of h eval call env (Now p x) a w = and_then (used a w) (pair_of p x)
item_of h eval call env (StoreRight s b) a w = one eval env b w (store_of s a)
item_of h eval call env (StoreNow s p) a w = and_then (used a w) (store_of s p)
item_of h eval call env (StructureRight size b) a w = and_then (eval env b w) (assigned_structure size a)
item_of h eval call env (StructureNow size p) a w = assigned_structure size p a w
item_of h eval call env (And s t b) a w =
    and_then (used a w) (λ x w. and_then (tested s x w) (λ yes w. either yes (λ w. one eval env b w (truth t)) (plain (Number 0)) w))
item_of h eval call env (Or s t b) a w =
    and_then (used a w) (λ x w. and_then (tested s x w) (λ yes w. either yes (plain (Number 1)) (λ w. one eval env b w (truth t)) w))
item_of h eval call env (Choice t b d) a w =
    and_then (used a w) (λ x w. and_then (tested t x w) (λ yes w. and_then (either yes (eval env b) (eval env d) w) finished))
item_of h eval call env (Then b) a w = and_then (eval env b w) finished
item_of h eval call env (Callee t es) a w = and_then (used a w) (λ v w. args_then eval env es [] w (called h call env.text t v))
item_of h eval call env (Argument t v es vs) a w =
    and_then (used a w) (λ y w. args_then eval env es (vs ++ y ∷ []) w (called h call env.text t v))

-- out is what comes of r, where each pending item goes at least n deep
abbrev pub After : History → Env → ℕ → List Item → Outcome Answer → Outcome Answer → Type 0
After h env n [] r out = r ≡ out
After h env n (i ∷ is) r out = (m : ℕ) × (n ≤ m) × After h env n is (and_then r (item_of h (eval m h) (call m h) env i)) out

-- out is what the whole expression gives from here, where what is still done goes at least n deep
abbrev pub Means : History → Env → ℕ → Mode → List Item → World → Outcome Answer → Type 0
Means h env n (Eval e) is w out = (m : ℕ) × (n ≤ m) × After h env n is (eval m h env e w) out
Means h env n (Give a) is w out = After h env n is (Done a w) out

-- a call that goes out is tested by the present version, and then made (3.3.2.2)
abbrev pub made : History → Called → Text → CType → Value → List Value → World → Outcome Answer
made h call t s v vs w = unless (value_rule (version_at h w.count) t s v) (call_breach v w) (call_value call v vs) w

-- the same of what a step left
abbrev pub Comes : History → Env → ℕ → Advanced → Outcome Answer → Type 0
Comes h env n (GoesOn mode is w) out = Means h env n mode is w out
Comes h env n (CallsOut t v vs is w) out = (m : ℕ) × (n ≤ m) × After h env n is (made h (call m h) env.text t v vs w) out
Comes h env n (Gives a w) out = Done a w ≡ out
Comes h env n (Breaks e) out = Over e ≡ out
