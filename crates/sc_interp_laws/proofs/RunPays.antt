-- Each step of a run is paid.
use Rattle.std.proofs.Common.{◌≡◌, ℕ, zero, suc, ◌+◌, ◌-◌, ◌*◌, ◌≤◌, nat_lt, Bool, true, false, List, [], ◌∷◌, slice_index_or, Option, Some, None, arith}
use Rattle.sc_base.specs.declared.key.Key.{Key}
use Rattle.sc_base.specs.declared.report.Rule.{Rule}
use Rattle.sc_core.specs.declared.module.Fun.{Fun}
use Rattle.sc_meaning.specs.Values.{Value, Number, FunctionAt, Pointer}
use Rattle.sc_meaning.specs.World.{World, Born, Event, Enter, Leave, Happens, pass, Push, Pop, Stack, OpenBlock}
use Rattle.sc_meaning.specs.Outcomes.{Outcome, Done, Over, and_then, world_after}
use Rattle.sc_meaning.specs.Versions.{Text, History, Callee, Missing, InText, InLibrary, callee_of, version_at}
use Rattle.sc_meaning.specs.Changes.{happened, reached, settled}
use Rattle.sc_meaning.specs.Expressions.{Env, Answer, value_rule}
use Rattle.sc_meaning.specs.Statements.{Way, all_dead}
use Rattle.sc_meaning.specs.Functions.{library_call}
use Rattle.sc_meaning.specs.Calls.{parameters, frame_of, left, answer_of}
use Rattle.sc_meaning.proofs.Steps.{one_more, and_more}
use Rattle.sc_meaning.proofs.Changing.{settled_goes, happened_goes}
use Rattle.sc_meaning.proofs.StatementsGo.{deaths_lead}
use Rattle.sc_meaning.proofs.FunctionsGo.{library_goes}
use Rattle.sc_meaning.proofs.Growing.{Going, own}
use Rattle.sc_interp_machine.specs.Bodies as body
use Rattle.sc_interp_machine.specs.Runs.{Active, Caller, State, Runs, Makes, Answers, Ends, then_goes as then_next, answers, body_next, begins, enters, callee_next, value_next, made_unless, advance, ran}
use Rattle.sc_interp_machine.specs.declared.body.Doing.TheVariants.{Exec}
use Rattle.sc_interp_laws.specs.Worlds.{world_of}
use Rattle.sc_interp_laws.specs.Paid.{done, doing_credit, pendings_credit, BodyPaid, callers_credit, credit, pays, RunPaid, AllPay}
use Rattle.sc_interp_laws.proofs.Works.{leads_work, pass_work}
use Rattle.sc_interp_laws.proofs.BodyMeans.{happened_leads}
use Rattle.sc_interp_laws.proofs.RunSteps.{parameters_lead}
use Rattle.sc_interp_laws.proofs.ExprPays.{Earns}
use Rattle.sc_interp_laws.proofs.BodyPays as below

paid_more : (k m u v : ℕ) (s : State) → k + 4 * u ≤ m + 4 * v → RunPaid k v s → RunPaid m u s
paid_more k m u v s le h = omega (arith, le, h)

-- a call is left with an event, which is work
pub left_earns : (h : History) (ids : List ℕ) (cost : ℕ) (way : Way) (w : World) → Earns (done w) (left h ids cost way w)
left_earns h ids cost way w =
    let v : World = pass Pop (all_dead ids w) in
    let u : World = pass (Stack (w.used - cost)) v in
    let x : World = pass (Happens Leave) u in
    let less : done w ≤ done u = leads_work w u (and_more (Stack (w.used - cost)) w v (and_more Pop w (all_dead ids w) (deaths_lead ids w))) in
    let one : done x ≡ done u + 1 = pass_work (Happens Leave) u in
    settled_earns w x (settled h x) way (omega (arith, less, one)) (leads_work x (world_after (settled h x)) (settled_goes Going h x))
  where
    settled_earns : (w x : World) (r : Outcome (Unit {0})) (way : Way) → done w + 1 ≤ done x → done x ≤ done (world_after r) → Earns (done w) (and_then r (λ _ w. Done (answer_of way) w))
    settled_earns w x (Done _ v) way a b = omega (arith, a, b)
    settled_earns w x (Over e) way a b = omega (arith, a, b)

-- an answer on its way needs as much as a step left where work was done
answers_paid : (k : ℕ) (cs : List Caller) (w : World) (r : Outcome Answer) → 2 + callers_credit cs ≤ k → Earns (done w) r → RunPaid k (done w) (answers cs r)
answers_paid k cs w (Done a v) le h = omega (arith, le, h)
answers_paid k cs w (Over e) le h = omega (arith, le, h)

then_paid : {A : Type 0} (k : ℕ) (w : World) (r : Outcome A) (go : A → World → State) → 1 ≤ k → done w ≤ done (world_after r) → ((a : A) (v : World) → RunPaid k (done v) (go a v)) → RunPaid k (done w) (then_next r go)
then_paid k w (Done a v) go one h q = paid_more k k (done w) (done v) (go a v) (omega (arith, h)) (q a v)
then_paid k w (Over e) go one h q = omega (arith, one, h)

body_paid : (h : History) (k v : ℕ) (b : body.Advanced) (a : Active) (cs : List Caller) → BodyPaid k v b → RunPaid (k + callers_credit cs) v (body_next h b a cs)
body_paid h k v (body.GoesOn mode ss env w) a cs p = omega (arith, p)
body_paid h k v (body.Lines l mode ss env w) a cs p =
    let m : ℕ = 1 + (doing_credit mode + pendings_credit ss + callers_credit cs) in
    paid_more m (k + callers_credit cs) v (done w) (body_next h (body.Lines l mode ss env w) a cs) (omega (arith, p))
    (then_paid m w (reached h l w) (λ _ u. Runs mode ss env a cs u) (omega arith) (leads_work w (world_after (reached h l w)) (happened_leads h l w)) (λ x u. omega arith))
body_paid h k v (body.CallsOut t f vs is u ss env w) a cs p = omega (arith, p)
body_paid h k v (body.Leaves way w) a cs p =
    paid_more (2 + callers_credit cs) (k + callers_credit cs) v (done w) (answers cs (left h a.ids a.cost way w)) (omega (arith, p))
    (answers_paid (2 + callers_credit cs) cs w (left h a.ids a.cost way w) (omega arith) (left_earns h a.ids a.cost way w))
body_paid h k v (body.Breaks e) a cs p = omega (arith, p)

begins_paid : (h : History) (key : Key) (t : Text) (f : Fun) (cs : List Caller) (ids : List ℕ) (w : World) → RunPaid (6 + callers_credit cs) (done w) (begins h key t f cs ids w)
begins_paid h key t f cs ids w =
    let born : Born = record { block = 0; ids = ids } in
    let env : Env = record { text = t; fun = f; blocks = born ∷ [] } in
    let v : World = pass (OpenBlock born) w in
    let e : Event = Enter key t.core.name in
    let more : done v ≡ done w + 0 = pass_work (OpenBlock born) w in
    paid_more (6 + callers_credit cs) (6 + callers_credit cs) (done w) (done v) (then_next (happened h e v) (λ _ u. Runs (Exec f.body) [] env (record { ids = ids; cost = f.cost }) cs u)) (omega (arith, more))
    (then_paid (6 + callers_credit cs) v (happened h e v) (λ _ u. Runs (Exec f.body) [] env (record { ids = ids; cost = f.cost }) cs u) (omega arith) (leads_work v (world_after (happened h e v)) (happened_goes Going h e v)) (λ x u. omega arith))

enters_paid : (b : Bool) (h : History) (key : Key) (t : Text) (f : Fun) (vs : List Value) (cs : List Caller) (w : World) → RunPaid (6 + callers_credit cs) (done w) (enters b h key t f vs cs w)
enters_paid true h key t f vs cs w = omega arith
enters_paid false h key t f vs cs w =
    let v : World = pass (Stack (w.used + f.cost)) w in
    let u : World = pass (Push (frame_of key t w)) v in
    let r : Outcome (List ℕ) = parameters (slice_index_or f.blocks 0 []) vs [] u in
    let more : done w ≤ done u = leads_work w u (and_more (Push (frame_of key t w)) w v (one_more _ w)) in
    paid_more (6 + callers_credit cs) (6 + callers_credit cs) (done w) (done u) (then_next r (begins h key t f cs)) (omega (arith, more))
    (then_paid (6 + callers_credit cs) u r (begins h key t f cs) (omega arith) (leads_work u (world_after r) (parameters_lead (slice_index_or f.blocks 0 []) vs [] u)) (λ ids x. begins_paid h key t f cs ids x))

callee_paid : (h : History) (key : Key) (vs : List Value) (c : Callee) (cs : List Caller) (w : World) → RunPaid (6 + callers_credit cs) (done w) (callee_next h key vs c cs w)
callee_paid h key vs Missing cs w = omega arith
callee_paid h key vs (InLibrary f) cs w =
    then_paid (6 + callers_credit cs) w (library_call h f key vs w) (λ a u. Answers a cs u) (omega arith) (leads_work w (world_after (library_call h f key vs w)) (library_goes Going h h (own Going h) f key vs w)) (λ a u. omega arith)
callee_paid h key vs (InText t f) cs w = enters_paid (nat_lt w.stack (w.used + f.cost)) h key t f vs cs w

value_paid : (h : History) (v : Value) (vs : List Value) (cs : List Caller) (w : World) → RunPaid (6 + callers_credit cs) (done w) (value_next h v vs cs w)
value_paid h (FunctionAt key) vs cs w = callee_paid h key vs (callee_of (version_at h w.count) key) cs w
value_paid h (Number n) vs cs w = omega arith
value_paid h (Pointer o i) vs cs w = omega arith

made_paid : (rule : Option Rule) (h : History) (v : Value) (vs : List Value) (cs : List Caller) (w : World) → RunPaid (6 + callers_credit cs) (done w) (made_unless rule h v vs cs w)
made_paid None h v vs cs w = value_paid h v vs cs w
made_paid (Some rule) h v vs cs w = omega arith

pub advance_paid : (h : History) (s : State) → pays s ≡ true → RunPaid (credit s) (done (world_of s)) (advance h s)
advance_paid h (Runs mode ss env a cs w) p = body_paid h (doing_credit mode + pendings_credit ss) (done w) (body.advance mode ss env w) a cs (below.advance_paid mode ss env w p)
advance_paid h (Makes t v vs c cs w) p = made_paid (value_rule (version_at h w.count) c.env.text t v) h v vs (c ∷ cs) w
advance_paid h (Answers a [] w) p = absurd (cc)
advance_paid h (Answers a (c ∷ cs) w) p = omega arith
advance_paid h (Ends e) p = absurd (cc)

-- so many steps
pub ran_paid : (k : ℕ) (h : History) (s : State) → AllPay k h s → k + credit (ran k h s) + 4 * done (world_of s) ≤ credit s + 4 * done (world_of (ran k h s))
ran_paid zero h s p = omega arith
ran_paid (suc k) h s p =
    let one : RunPaid (credit s) (done (world_of s)) (advance h s) = advance_paid h s p.0 in
    let more : k + credit (ran k h (advance h s)) + 4 * done (world_of (advance h s)) ≤ credit (advance h s) + 4 * done (world_of (ran k h (advance h s))) = ran_paid k h (advance h s) p.1 in
    sum k (credit (ran k h (advance h s))) (done (world_of s)) (credit s) (done (world_of (advance h s))) (credit (advance h s)) (done (world_of (ran k h (advance h s)))) one more
  where
    sum : (k c v a x b y : ℕ) → 1 + b + 4 * v ≤ a + 4 * x → k + c + 4 * x ≤ b + 4 * y → suc k + c + 4 * v ≤ a + 4 * y
    sum k c v a x b y one more = omega (arith, one, more)
