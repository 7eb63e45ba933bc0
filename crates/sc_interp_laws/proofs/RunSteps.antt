-- A step of a run adds to what happened.
use Rattle.std.proofs.Common.{ℕ, zero, suc, ◌+◌, ◌-◌, nat_lt, Bool, true, false, List, [], ◌∷◌, ◌++◌, slice_index_or, Option, Some, None}
use Rattle.sc_base.specs.declared.key.Key.{Key}
use Rattle.sc_base.specs.declared.report.Rule.{Rule}
use Rattle.sc_core.specs.declared.module.Auto.{Auto}
use Rattle.sc_core.specs.declared.module.Fun.{Fun}
use Rattle.sc_meaning.specs.Values.{Value, Number, FunctionAt, Pointer}
use Rattle.sc_meaning.specs.World.{World, Born, Event, Enter, Leave, pass, Push, Pop, Stack, OpenBlock}
use Rattle.sc_meaning.specs.declared.spot.Spot.TheVariants.{Slot}
use Rattle.sc_meaning.specs.Outcomes.{Outcome, Done, Over, world_after}
use Rattle.sc_meaning.specs.Accesses.{set_at}
use Rattle.sc_meaning.specs.Versions.{Text, History, Callee, Missing, InText, InLibrary, callee_of, version_at}
use Rattle.sc_meaning.specs.Changes.{born, happened, reached}
use Rattle.sc_meaning.specs.Expressions.{Env, Answer, value_rule}
use Rattle.sc_meaning.specs.Statements.{Way, all_dead, auto_kind}
use Rattle.sc_meaning.specs.Functions.{library_call}
use Rattle.sc_meaning.specs.Calls.{parameters, frame_of, left, answer_of}
use Rattle.sc_meaning.specs.Laws.{Leads}
use Rattle.sc_meaning.proofs.Steps.{here, on, one_more, and_more}
use Rattle.sc_meaning.proofs.Leaves.{born_goes, set_leads}
use Rattle.sc_meaning.proofs.Changing.{happened_goes}
use Rattle.sc_meaning.proofs.StatementsGo.{deaths_lead}
use Rattle.sc_meaning.proofs.FunctionsGo.{library_goes}
use Rattle.sc_meaning.proofs.Growing.{Going, own}
use Rattle.sc_interp_machine.specs.Bodies as body
use Rattle.sc_interp_machine.specs.Runs.{Active, Caller, State, Runs, Makes, Answers, Ends, then_goes as then_next, answers, body_next, begins, enters, callee_next, value_next, made_unless, advance, ran}
use Rattle.sc_interp_machine.specs.declared.body.Doing.TheVariants.{Exec}
use Rattle.sc_interp_laws.specs.Worlds.{body_left, world_of}
use Rattle.sc_interp_laws.proofs.ExprMeans.{then_leads}
use Rattle.sc_interp_laws.proofs.BodyMeans.{happened_leads}
use Rattle.sc_interp_laws.proofs.BodySteps as below

then_go : {A : Type 0} (w : World) (r : Outcome A) (go : A → World → State) → Leads w (world_after r) → ((a : A) (v : World) → Leads v (world_of (go a v))) → Leads w (world_of (then_next r go))
then_go w (Done a v) go l q = on w v (world_of (go a v)) l (q a v)
then_go w (Over e) go l q = l

answers_go : (cs : List Caller) (w : World) (r : Outcome Answer) → Leads w (world_after r) → Leads w (world_of (answers cs r))
answers_go cs w r l = then_go w r (λ a w. Answers a cs w) l (λ a v. here v)

pub left_leads : (h : History) (ids : List ℕ) (cost : ℕ) (way : Way) (w : World) → Leads w (world_after (left h ids cost way w))
left_leads h ids cost way w =
    let v : World = pass Pop (all_dead ids w) in
    let u : World = pass (Stack (w.used - cost)) v in
    then_leads w (happened h Leave u) (λ x y. Done (answer_of way) y)
    (on w u (world_after (happened h Leave u)) (and_more (Stack (w.used - cost)) w v (and_more Pop w (all_dead ids w) (deaths_lead ids w))) (happened_goes Going h Leave u))
    (λ x y. here y)

pub parameters_lead : (autos : List Auto) (vs : List Value) (ids : List ℕ) (w : World) → Leads w (world_after (parameters autos vs ids w))
parameters_lead [] vs ids w = here w
parameters_lead (a ∷ rest) [] ids w = here w
parameters_lead (a ∷ rest) (v ∷ vs) ids w =
    then_leads w (born a.slot.size (auto_kind a.slot.constant) (Slot a.slot.offset) w) _ (born_goes Going a.slot.size (auto_kind a.slot.constant) (Slot a.slot.offset) w) (λ id u.
    let x : World = set_at (Pointer id 0) 0 a.slot.size v u in
    on u x (world_after (parameters rest vs (ids ++ id ∷ []) x)) (set_leads (Pointer id 0) 0 a.slot.size v u) (parameters_lead rest vs (ids ++ id ∷ []) x))

body_go : (h : History) (b : body.Advanced) (a : Active) (cs : List Caller) (w : World) → Leads w (body_left b) → Leads w (world_of (body_next h b a cs))
body_go h (body.GoesOn mode ss env v) a cs w l = l
body_go h (body.Lines n mode ss env v) a cs w l =
    let s : State = then_next (reached h n v) (λ _ u. Runs mode ss env a cs u) in
    on w v (world_of s) l (then_go v (reached h n v) (λ _ u. Runs mode ss env a cs u) (happened_leads h n v) (λ x u. here u))
body_go h (body.CallsOut t x vs is u ss env v) a cs w l = l
body_go h (body.Leaves way v) a cs w l =
    on w v (world_of (answers cs (left h a.ids a.cost way v))) l (answers_go cs v (left h a.ids a.cost way v) (left_leads h a.ids a.cost way v))
body_go h (body.Breaks e) a cs w l = l

begins_go : (h : History) (key : Key) (t : Text) (f : Fun) (cs : List Caller) (ids : List ℕ) (w : World) → Leads w (world_of (begins h key t f cs ids w))
begins_go h key t f cs ids w =
    let born : Born = record { block = 0; ids = ids } in
    let env : Env = record { text = t; fun = f; blocks = born ∷ [] } in
    let v : World = pass (OpenBlock born) w in
    let e : Event = Enter key t.core.name in
    then_go w (happened h e v) (λ _ u. Runs (Exec f.body) [] env (record { ids = ids; cost = f.cost }) cs u)
    (on w v (world_after (happened h e v)) (one_more _ w) (happened_goes Going h e v)) (λ x u. here u)

enters_go : (b : Bool) (h : History) (key : Key) (t : Text) (f : Fun) (vs : List Value) (cs : List Caller) (w : World) → Leads w (world_of (enters b h key t f vs cs w))
enters_go true h key t f vs cs w = here w
enters_go false h key t f vs cs w =
    let v : World = pass (Stack (w.used + f.cost)) w in
    let u : World = pass (Push (frame_of key t w)) v in
    let r : Outcome (List ℕ) = parameters (slice_index_or f.blocks 0 []) vs [] u in
    then_go w r (begins h key t f cs)
    (on w u (world_after r) (and_more (Push (frame_of key t w)) w v (one_more _ w)) (parameters_lead (slice_index_or f.blocks 0 []) vs [] u))
    (λ ids x. begins_go h key t f cs ids x)

pub callee_go : (h : History) (key : Key) (vs : List Value) (c : Callee) (cs : List Caller) (w : World) → Leads w (world_of (callee_next h key vs c cs w))
callee_go h key vs Missing cs w = here w
callee_go h key vs (InLibrary f) cs w = answers_go cs w (library_call h f key vs w) (library_goes Going h h (own Going h) f key vs w)
callee_go h key vs (InText t f) cs w = enters_go (nat_lt w.stack (w.used + f.cost)) h key t f vs cs w

value_go : (h : History) (v : Value) (vs : List Value) (cs : List Caller) (w : World) → Leads w (world_of (value_next h v vs cs w))
value_go h (FunctionAt key) vs cs w = callee_go h key vs (callee_of (version_at h w.count) key) cs w
value_go h (Number n) vs cs w = here w
value_go h (Pointer o i) vs cs w = here w

made_go : (rule : Option Rule) (h : History) (v : Value) (vs : List Value) (cs : List Caller) (w : World) → Leads w (world_of (made_unless rule h v vs cs w))
made_go None h v vs cs w = value_go h v vs cs w
made_go (Some rule) h v vs cs w = here w

pub advance_leads : (h : History) (s : State) → Leads (world_of s) (world_of (advance h s))
advance_leads h (Runs mode ss env a cs w) = body_go h (body.advance mode ss env w) a cs w (below.advance_leads mode ss env w)
advance_leads h (Makes t v vs c cs w) = made_go (value_rule (version_at h w.count) c.env.text t v) h v vs (c ∷ cs) w
advance_leads h (Answers a [] w) = here w
advance_leads h (Answers a (c ∷ cs) w) = here w
advance_leads h (Ends e) = here _

pub ran_leads : (k : ℕ) (h : History) (s : State) → Leads (world_of s) (world_of (ran k h s))
ran_leads zero h s = here (world_of s)
ran_leads (suc k) h s = on (world_of s) (world_of (advance h s)) (world_of (ran k h (advance h s))) (advance_leads h s) (ran_leads k h (advance h s))
