-- What a run means before a step, what the step leaves means after it.
use Rattle.std.proofs.Common.{◌≡◌, ℕ, zero, suc, ◌+◌, ◌≤◌, nat_lt, Bool, true, false, List, [], ◌∷◌, slice_index_or, Option, Some, None, arith, refl, sym, subst}
use Rattle.sc_base.specs.declared.key.Key.{Key}
use Rattle.sc_base.specs.declared.report.Rule.{Rule}
use Rattle.sc_core.specs.declared.module.Fun.{Fun}
use Rattle.sc_meaning.specs.Values.{Value, Number, FunctionAt, Pointer}
use Rattle.sc_meaning.specs.World.{World, Born, Enter, pass, Push, Stack, OpenBlock}
use Rattle.sc_meaning.specs.Outcomes.{Outcome, Done, Over, Ending, and_then, unless}
use Rattle.sc_meaning.specs.Versions.{Text, History, Callee, Missing, InText, InLibrary, callee_of, version_at}
use Rattle.sc_meaning.specs.Changes.{happened, reached}
use Rattle.sc_meaning.specs.Expressions.{Env, Answer, either, value_rule, call_breach, call_value}
use Rattle.sc_meaning.specs.Statements.{Way}
use Rattle.sc_meaning.specs.Functions.{library_call}
use Rattle.sc_meaning.specs.Calls.{eval, exec, turn, resume, call, call_of, full, entered, parameters, frame_of, body_of, left}
use Rattle.sc_interp_machine.specs.Bodies as body
use Rattle.sc_interp_machine.specs.BodyMeans as rest
use Rattle.sc_interp_machine.specs.Runs.{Active, Caller, State, Runs, Makes, Answers, Ends, then_goes, answers, body_next, begins, enters, callee_next, value_next, made_unless, advance, ran}
use Rattle.sc_interp_machine.specs.RunMeans.{After, Means}
use Rattle.sc_interp_machine.proofs.Follows as below
use Rattle.sc_interp_machine.proofs.BodyFollows as bodies
use Rattle.sc_interp_machine.specs.declared.body.Use.{Use}
use Rattle.sc_interp_machine.specs.declared.body.Pending.{Pending}
use Rattle.sc_interp_machine.specs.declared.body.Doing.{Doing}
use Rattle.sc_interp_machine.specs.declared.body.Doing.TheVariants.{Exec}

-- less depth is asked for
pub weaker : (h : History) (n : ℕ) (cs : List Caller) (r out : Outcome Answer) → After h (suc n) cs r out → After h n cs r out
weaker h n [] r out p = p
weaker h n (c ∷ cs) r out p =
    (p.0, below.weaker h c.env n c.items r p.0 p.1, p.2, bodies.after_use_weaker h n c.user c.stmts c.env p.0 p.2 p.3, weaker h n cs _ out p.4)

-- an end goes through all callers
use_over : (h : History) (n : ℕ) (u : Use) (ss : List Pending) (env : Env) (r : Outcome Answer) (e : Ending) (v : Outcome Way) → Over e ≡ r → rest.AfterUse h n u ss env r v → Over e ≡ v
use_over h n u ss env r e v same p =
    bodies.over h n ss env e v (subst (λ q. rest.After h n ss env (and_then q (rest.use_of (eval p.0 h) (exec p.0 h) (turn p.0 h) (resume p.0 h) env u)) v) (sym same) p.2)

pub over : (h : History) (n : ℕ) (cs : List Caller) (e : Ending) (out : Outcome Answer) → After h n cs (Over e) out → Over e ≡ out
over h n [] e out p = p
over h n (c ∷ cs) e out p =
    let q : Over e ≡ p.0 = below.over h c.env n c.items e p.0 p.1 in
    let v : Over e ≡ p.2 = use_over h n c.user c.stmts c.env p.0 e p.2 q p.3 in
    over h n cs e out (subst (λ v. After h n cs (and_then v (left h c.active.ids c.active.cost)) out) (sym v) p.4)

module _ (h : History) (n : ℕ) (out : Outcome Answer) where
  answers_sim : (cs : List Caller) (r : Outcome Answer) → After h (suc n) cs r out → Means h n (answers cs r) out
  answers_sim cs (Done a w) p = weaker h n cs _ out p
  answers_sim cs (Over e) p = over h (suc n) cs e out p

  then_sim : {A : Type 0} (cs : List Caller) (r : Outcome A) (f : A → World → Outcome Answer) (go : A → World → State) → ((a : A) (w : World) → After h (suc n) cs (f a w) out → Means h n (go a w) out) → After h (suc n) cs (and_then r f) out → Means h n (then_goes r go) out
  then_sim cs (Done a w) f go q p = q a w p
  then_sim cs (Over e) f go q p = over h (suc n) cs e out p

  -- an end of the innermost body
  ended_sim : (e : Ending) (v : Outcome Way) (a : Active) (cs : List Caller) → Over e ≡ v → After h (suc n) cs (and_then v (left h a.ids a.cost)) out → Over e ≡ out
  ended_sim e v a cs same p = over h (suc n) cs e out (subst (λ v. After h (suc n) cs (and_then v (left h a.ids a.cost)) out) (sym same) p)

  line_sim : (r : Outcome (Unit {0})) (mode : Doing) (ss : List Pending) (env : Env) (v : Outcome Way) (a : Active) (cs : List Caller) → rest.Reached h n r mode ss env v → After h (suc n) cs (and_then v (left h a.ids a.cost)) out → Means h n (then_goes r (λ _ w. Runs mode ss env a cs w)) out
  line_sim (Done _ w) mode ss env v a cs c p = (v, c, weaker h n cs _ out p)
  line_sim (Over e) mode ss env v a cs c p = ended_sim e v a cs c p

  body_sim : (b : body.Advanced) (v : Outcome Way) (a : Active) (cs : List Caller) → rest.Comes h n b v → After h (suc n) cs (and_then v (left h a.ids a.cost)) out → Means h n (body_next h b a cs) out
  body_sim (body.GoesOn mode ss env w) v a cs c p = (v, c, weaker h n cs _ out p)
  body_sim (body.Lines l mode ss env w) v a cs c p = line_sim (reached h l w) mode ss env v a cs c p
  body_sim (body.CallsOut t x vs is u ss env w) v a cs c p = (c.1.0, c.1.1, (c.0, c.1.2, v, c.2, weaker h n cs _ out p))
  body_sim (body.Leaves way w) v a cs c p =
      answers_sim cs (left h a.ids a.cost way w) (subst (λ v. After h (suc n) cs (and_then v (left h a.ids a.cost)) out) (sym c) p)
  body_sim (body.Breaks e) v a cs c p = ended_sim e v a cs c p

  begins_sim : (m : ℕ) → n ≤ m → (key : Key) (t : Text) (f : Fun) (cs : List Caller) (ids : List ℕ) (w : World) → After h (suc n) cs (body_of h (exec m h) key t f ids w) out → Means h n (begins h key t f cs ids w) out
  begins_sim m le key t f cs ids w p =
      let born : Born = record { block = 0; ids = ids } in
      let env : Env = record { text = t; fun = f; blocks = born ∷ [] } in
      then_sim cs (happened h (Enter key t.core.name) (pass (OpenBlock born) w)) (λ _ w. and_then (exec m h env f.body w) (left h ids f.cost))
      (λ _ w. Runs (Exec f.body) [] env (record { ids = ids; cost = f.cost }) cs w)
      (λ _ w p. (exec m h env f.body w, (m, le, refl), weaker h n cs _ out p)) p

  enters_sim : (m : ℕ) → n ≤ m → (b : Bool) (key : Key) (t : Text) (f : Fun) (vs : List Value) (cs : List Caller) (w : World) → After h (suc n) cs (either b (full key) (entered h (exec m h) key t f vs) w) out → Means h n (enters b h key t f vs cs w) out
  enters_sim m le true key t f vs cs w p = over h (suc n) cs _ out p
  enters_sim m le false key t f vs cs w p =
      then_sim cs (parameters (slice_index_or f.blocks 0 []) vs [] (pass (Push (frame_of key t w)) (pass (Stack (w.used + f.cost)) w))) (body_of h (exec m h) key t f) (begins h key t f cs)
      (λ ids w p. begins_sim m le key t f cs ids w p) p

  callee_sim : (m : ℕ) → n ≤ m → (key : Key) (vs : List Value) (c : Callee) (cs : List Caller) (w : World) → After h (suc n) cs (call_of h (exec m h) key vs c w) out → Means h n (callee_next h key vs c cs w) out
  callee_sim m le key vs Missing cs w p = over h (suc n) cs _ out p
  callee_sim m le key vs (InLibrary f) cs w p = answers_sim cs (library_call h f key vs w) p
  callee_sim m le key vs (InText t f) cs w p = enters_sim m le (nat_lt w.stack (w.used + f.cost)) key t f vs cs w p

  call_sim : (m : ℕ) → suc n ≤ m → (key : Key) (vs : List Value) (cs : List Caller) (w : World) → After h (suc n) cs (call m h key vs w) out → Means h n (callee_next h key vs (callee_of (version_at h w.count) key) cs w) out
  unfolding eval
  call_sim zero le key vs cs w p = absurd (omega arith)
  call_sim (suc m) le key vs cs w p = callee_sim m (omega arith) key vs (callee_of (version_at h w.count) key) cs w p

  value_sim : (m : ℕ) → suc n ≤ m → (v : Value) (vs : List Value) (cs : List Caller) (w : World) → After h (suc n) cs (call_value (call m h) v vs w) out → Means h n (value_next h v vs cs w) out
  value_sim m le (FunctionAt key) vs cs w p = call_sim m le key vs cs w p
  value_sim m le (Number k) vs cs w p = weaker h n cs _ out p
  value_sim m le (Pointer o i) vs cs w p = weaker h n cs _ out p

  made_sim : (m : ℕ) → suc n ≤ m → (rule : Option Rule) (v : Value) (vs : List Value) (cs : List Caller) (w : World) → After h (suc n) cs (unless rule (call_breach v w) (call_value (call m h) v vs) w) out → Means h n (made_unless rule h v vs cs w) out
  made_sim m le None v vs cs w p = value_sim m le v vs cs w p
  made_sim m le (Some rule) v vs cs w p = over h (suc n) cs _ out p

-- what a run means before a step, it means after it
pub follows : (h : History) (n : ℕ) (s : State) (out : Outcome Answer) → Means h (suc n) s out → Means h n (advance h s) out
follows h n (Runs mode ss env a cs w) out p = body_sim h n out (body.advance mode ss env w) p.0 a cs (bodies.follows h n mode ss env w p.0 p.1) p.2
follows h n (Makes t v vs c cs w) out p = made_sim h n out p.0 p.1 (value_rule (version_at h w.count) c.env.text t v) v vs (c ∷ cs) w p.2
follows h n (Answers a [] w) out p = p
follows h n (Answers a (c ∷ cs) w) out p =
    (p.2, (p.0, below.weaker h c.env n c.items _ p.0 p.1, bodies.after_use_weaker h n c.user c.stmts c.env p.0 p.2 p.3), weaker h n cs _ out p.4)
follows h n (Ends e) out p = p

pub ran_follows : (h : History) (k : ℕ) (s : State) (out : Outcome Answer) → Means h k s out → Means h 0 (ran k h s) out
ran_follows h zero s out p = p
ran_follows h (suc k) s out p = ran_follows h k (advance h s) out (follows h k s out p)

-- a call begins as its meaning at every bound that is deep enough
pub call_means : (h : History) (n k : ℕ) (key : Key) (vs : List Value) (w : World) → suc n ≤ k → Means h n (callee_next h key vs (callee_of (version_at h w.count) key) [] w) (call k h key vs w)
call_means h n k key vs w le = call_sim h n (call k h key vs w) k le key vs [] w refl

-- what so many steps give, the meaning of the call gives at every greater bound
pub answers_meaning : (h : History) (k n : ℕ) (key : Key) (vs : List Value) (w v : World) (a : Answer) → suc k ≤ n → ran k h (callee_next h key vs (callee_of (version_at h w.count) key) [] w) ≡ Answers a [] v → call n h key vs w ≡ Done a v
answers_meaning h k n key vs w v a le p =
    sym (subst (λ s. Means h 0 s (call n h key vs w)) p (ran_follows h k (callee_next h key vs (callee_of (version_at h w.count) key) [] w) (call n h key vs w) (call_means h k n key vs w le)))

pub ends_meaning : (h : History) (k n : ℕ) (key : Key) (vs : List Value) (w : World) (e : Ending) → suc k ≤ n → ran k h (callee_next h key vs (callee_of (version_at h w.count) key) [] w) ≡ Ends e → call n h key vs w ≡ Over e
ends_meaning h k n key vs w e le p =
    sym (subst (λ s. Means h 0 s (call n h key vs w)) p (ran_follows h k (callee_next h key vs (callee_of (version_at h w.count) key) [] w) (call n h key vs w) (call_means h k n key vs w le)))
