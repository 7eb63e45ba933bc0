-- A step of the machine between two counts of events is the same under two histories that are the same between them.
use Rattle.std.proofs.Common.{◌≡◌, ℕ, ◌+◌, ◌-◌, ◌<◌, ◌≤◌, nat_lt, Bool, true, false, List, [], ◌∷◌, slice_index_or, arith, refl, ap, ◌∙◌, subst, Option, Some, None}
use Rattle.sc_base.specs.declared.key.Key.{Key}
use Rattle.sc_base.specs.declared.report.Rule.{Rule}
use Rattle.sc_core.specs.declared.module.Fun.{Fun}
use Rattle.sc_meaning.specs.Values.{Value, Number, FunctionAt, Pointer}
use Rattle.sc_meaning.specs.World.{World, Event, Enter, Leave, Born, pass, Push, Pop, Stack, OpenBlock}
use Rattle.sc_meaning.specs.Outcomes.{Outcome, Done, Over, and_then, world_after}
use Rattle.sc_meaning.specs.Versions.{Text, History, Callee, Missing, InText, InLibrary, callee_of, version_at}
use Rattle.sc_meaning.specs.Changes.{happened, reached, at_line}
use Rattle.sc_meaning.specs.Expressions.{Env, Answer, value_rule}
use Rattle.sc_meaning.specs.Statements.{Way, all_dead}
use Rattle.sc_meaning.specs.Functions.{library_call}
use Rattle.sc_meaning.specs.Calls.{parameters, frame_of, left, answer_of}
use Rattle.sc_meaning.specs.Laws.{Leads}
use Rattle.sc_meaning.proofs.Steps.{and_more}
use Rattle.sc_meaning.proofs.StatementsGo.{deaths_lead}
use Rattle.sc_interp_machine.specs.Bodies as body
use Rattle.sc_interp_machine.specs.Runs.{Active, Caller, State, Runs, Makes, Answers, Ends, then_goes, answers, body_next, begins, enters, callee_next, value_next, made_unless, advance}
use Rattle.sc_interp_machine.specs.declared.body.Doing.{Doing}
use Rattle.sc_interp_machine.specs.declared.body.Doing.TheVariants.{Exec}
use Rattle.sc_interp_machine.specs.declared.body.Pending.{Pending}
use Rattle.sc_interp_laws.specs.Worlds.{body_left, world_of}
use Rattle.sc_interp_laws.proofs.BodySteps as bodies
use Rattle.sc_interp_laws.proofs.RunSteps.{parameters_lead, callee_go, advance_leads}
use Rattle.sc_interp_change_laws.proofs.Between.{Agree, count_grows, event_same, library_same}

-- what follows a part has at least its events
pub behind : {A : Type 0} (r : Outcome A) (go : A → World → State) → ((a : A) (v : World) → v.count ≤ (world_of (go a v)).count) → (world_after r).count ≤ (world_of (then_goes r go)).count
behind (Done a v) go q = q a v
behind (Over e) go q = omega arith

-- the world behind an answer
answers_after : (cs : List Caller) (r : Outcome Answer) → world_of (answers cs r) ≡ world_after r
answers_after cs (Done a w) = refl
answers_after cs (Over e) = refl

left_after : (cs : List Caller) (r : Outcome (Unit {0})) (x : Answer) → world_of (answers cs (and_then r (λ _ w. Done x w))) ≡ world_after r
left_after cs (Done t w) x = refl
left_after cs (Over e) x = refl

-- the parameters die, and the frame goes: no event passes
abbrev pub unframed : List ℕ → ℕ → World → World
unframed ids cost w = pass (Stack (w.used - cost)) (pass Pop (all_dead ids w))

unframed_leads : (ids : List ℕ) (cost : ℕ) (w : World) → Leads w (unframed ids cost w)
unframed_leads ids cost w = and_more (Stack (w.used - cost)) w (pass Pop (all_dead ids w)) (and_more Pop w (all_dead ids w) (deaths_lead ids w))

module _ (m c : ℕ) (h k : History) (same : Agree m c h k) where
  then_same : {A : Type 0} (r s : Outcome A) (go : A → World → State) → ((world_after r).count < c → r ≡ s) → ((a : A) (v : World) → v.count ≤ (world_of (go a v)).count) → (world_of (then_goes r go)).count < c → then_goes r go ≡ then_goes s go
  then_same r s go p q lt = ap (λ o. then_goes o go) (p (omega (arith, lt, behind r go q)))

  line_same : (l : ℕ) (mode : Doing) (ss : List Pending) (env : Env) (a : Active) (cs : List Caller) (w : World) → m ≤ w.count → (world_of (body_next h (body.Lines l mode ss env w) a cs)).count < c → body_next h (body.Lines l mode ss env w) a cs ≡ body_next k (body.Lines l mode ss env w) a cs
  line_same l mode ss env a cs w le lt =
      then_same (reached h l w) (reached k l w) (λ _ u. Runs mode ss env a cs u) (event_same m c h k same (at_line w.frames l) w le) (λ _ v. omega arith) lt

  leaves_same : (ids : List ℕ) (cost : ℕ) (way : Way) (cs : List Caller) (w : World) → m ≤ w.count → (world_of (answers cs (left h ids cost way w))).count < c → answers cs (left h ids cost way w) ≡ answers cs (left k ids cost way w)
  leaves_same ids cost way cs w le lt =
      let u : World = unframed ids cost w in
      let less : (world_after (happened h Leave u)).count < c = subst (λ v. v.count < c) (left_after cs (happened h Leave u) (answer_of way)) lt in
      ap (λ r. answers cs (and_then r (λ _ w. Done (answer_of way) w))) (event_same m c h k same Leave u (omega (arith, le, count_grows w u (unframed_leads ids cost w))) less)

  body_same : (b : body.Advanced) (a : Active) (cs : List Caller) → m ≤ (body_left b).count → (world_of (body_next h b a cs)).count < c → body_next h b a cs ≡ body_next k b a cs
  body_same (body.GoesOn mode ss env w) a cs le lt = refl
  body_same (body.Lines l mode ss env w) a cs le lt = line_same l mode ss env a cs w le lt
  body_same (body.CallsOut t v vs is u ss env w) a cs le lt = refl
  body_same (body.Leaves way w) a cs le lt = leaves_same a.ids a.cost way cs w le lt
  body_same (body.Breaks e) a cs le lt = refl

  begins_same : (key : Key) (t : Text) (f : Fun) (cs : List Caller) (ids : List ℕ) (w : World) → m ≤ w.count → (world_of (begins h key t f cs ids w)).count < c → begins h key t f cs ids w ≡ begins k key t f cs ids w
  begins_same key t f cs ids w le lt =
      let born : Born = record { block = 0; ids = ids } in
      let v : World = pass (OpenBlock born) w in
      let e : Event = Enter key t.core.name in
      then_same (happened h e v) (happened k e v) (λ _ u. Runs (Exec f.body) [] (record { text = t; fun = f; blocks = born ∷ [] }) (record { ids = ids; cost = f.cost }) cs u) (event_same m c h k same e v le) (λ _ u. omega arith) lt

  parameters_same : (r : Outcome (List ℕ)) (key : Key) (t : Text) (f : Fun) (cs : List Caller) → m ≤ (world_after r).count → (world_of (then_goes r (begins h key t f cs))).count < c → then_goes r (begins h key t f cs) ≡ then_goes r (begins k key t f cs)
  parameters_same (Done ids v) key t f cs le lt = begins_same key t f cs ids v le lt
  parameters_same (Over e) key t f cs le lt = refl

  enters_same : (full : Bool) (key : Key) (t : Text) (f : Fun) (vs : List Value) (cs : List Caller) (w : World) → m ≤ w.count → (world_of (enters full h key t f vs cs w)).count < c → enters full h key t f vs cs w ≡ enters full k key t f vs cs w
  enters_same true key t f vs cs w le lt = refl
  enters_same false key t f vs cs w le lt =
      let u : World = pass (Push (frame_of key t w)) (pass (Stack (w.used + f.cost)) w) in
      let r : Outcome (List ℕ) = parameters (slice_index_or f.blocks 0 []) vs [] u in
      let more : u.count ≤ (world_after r).count = count_grows u (world_after r) (parameters_lead (slice_index_or f.blocks 0 []) vs [] u) in
      parameters_same r key t f cs (omega (arith, le, more)) lt

  pub callee_same : (key : Key) (vs : List Value) (x : Callee) (cs : List Caller) (w : World) → m ≤ w.count → (world_of (callee_next h key vs x cs w)).count < c → callee_next h key vs x cs w ≡ callee_next k key vs x cs w
  callee_same key vs Missing cs w le lt = refl
  callee_same key vs (InLibrary f) cs w le lt =
      ap (answers cs) (library_same m c h k same f key vs w le (subst (λ v. v.count < c) (answers_after cs (library_call h f key vs w)) lt))
  callee_same key vs (InText t f) cs w le lt = enters_same (nat_lt w.stack (w.used + f.cost)) key t f vs cs w le lt

  -- a call of what a key names in the present texts
  pub named_same : (key : Key) (vs : List Value) (cs : List Caller) (w : World) → m ≤ w.count → (world_of (callee_next h key vs (callee_of (version_at h w.count) key) cs w)).count < c → callee_next h key vs (callee_of (version_at h w.count) key) cs w ≡ callee_next k key vs (callee_of (version_at k w.count) key) cs w
  named_same key vs cs w le lt =
      let x : Callee = callee_of (version_at h w.count) key in
      let less : w.count < c = omega (arith, lt, count_grows w (world_of (callee_next h key vs x cs w)) (callee_go h key vs x cs w)) in
      callee_same key vs x cs w le lt ∙ ap (λ ts. callee_next k key vs (callee_of ts key) cs w) (same.texts w.count le less)

  value_same : (v : Value) (vs : List Value) (cs : List Caller) (w : World) → m ≤ w.count → (world_of (value_next h v vs cs w)).count < c → value_next h v vs cs w ≡ value_next k v vs cs w
  value_same (FunctionAt key) vs cs w le lt = named_same key vs cs w le lt
  value_same (Number n) vs cs w le lt = refl
  value_same (Pointer o i) vs cs w le lt = refl

  made_same : (rule : Option Rule) (v : Value) (vs : List Value) (cs : List Caller) (w : World) → m ≤ w.count → (world_of (made_unless rule h v vs cs w)).count < c → made_unless rule h v vs cs w ≡ made_unless rule k v vs cs w
  made_same None v vs cs w le lt = value_same v vs cs w le lt
  made_same (Some rule) v vs cs w le lt = refl

  pub step_same : (s : State) → m ≤ (world_of s).count → (world_of (advance h s)).count < c → advance h s ≡ advance k s
  step_same (Runs mode ss env a cs w) le lt =
      let b : body.Advanced = body.advance mode ss env w in
      body_same b a cs (omega (arith, le, count_grows w (body_left b) (bodies.advance_leads mode ss env w))) lt
  step_same (Makes t v vs x cs w) le lt =
      let less : w.count < c = omega (arith, lt, count_grows w (world_of (advance h (Makes t v vs x cs w))) (advance_leads h (Makes t v vs x cs w))) in
      made_same (value_rule (version_at h w.count) x.env.text t v) v vs (x ∷ cs) w le lt ∙ ap (λ ts. made_unless (value_rule ts x.env.text t v) k v vs (x ∷ cs) w) (same.texts w.count le less)
  step_same (Answers a [] w) le lt = refl
  step_same (Answers a (x ∷ cs) w) le lt = refl
  step_same (Ends e) le lt = refl
