-- What a run's state means comes from the state's world, so the events so far are the first of the whole.
use Rattle.std.proofs.Common.{ℕ, ◌<◌, List, [], ◌∷◌, subst, arith}
use Rattle.sc_base.specs.declared.key.Key.{Key}
use Rattle.sc_meaning.specs.Values.{Value}
use Rattle.sc_meaning.specs.World.{World, events}
use Rattle.sc_meaning.specs.Outcomes.{Outcome, Done, and_then, world_at, world_after}
use Rattle.sc_meaning.specs.Versions.{History, callee_of, version_at}
use Rattle.sc_meaning.specs.Expressions.{Answer}
use Rattle.sc_meaning.specs.Calls.{call, left}
use Rattle.sc_meaning.specs.Laws.{Leads}
use Rattle.sc_meaning.proofs.Steps.{here}
use Rattle.sc_meaning.proofs.Trails.{leads_events}
use Rattle.sc_interp_machine.specs.Runs.{Caller, State, Runs, Makes, Answers, Ends, callee_next, ran}
use Rattle.sc_interp_machine.specs.RunMeans.{After, Means}
use Rattle.sc_interp_machine.proofs.RunFollows.{ran_follows, call_means}
use Rattle.sc_interp_machine.specs.Means as expr
use Rattle.sc_interp_laws.specs.Worlds.{world_of}
use Rattle.sc_interp_laws.specs.Events.{IsPrefix}
use Rattle.sc_interp_laws.proofs.ExprMeans.{then_leads, made_leads}
use Rattle.sc_interp_laws.proofs.ExprMeans as below
use Rattle.sc_interp_laws.proofs.BodyMeans as bodies
use Rattle.sc_interp_laws.proofs.RunSteps.{left_leads}

-- what comes of an answer comes from where the answer came from
after_leads : (h : History) (n : ℕ) (cs : List Caller) (w : World) (r out : Outcome Answer) → Leads w (world_after r) → After h n cs r out → Leads w (world_after out)
after_leads h n [] w r out l p = subst (λ o. Leads w (world_after o)) p l
after_leads h n (c ∷ cs) w r out l p =
    let q : Leads w (world_after p.0) = below.after_leads h c.env n c.items w r p.0 l p.1 in
    let v : Leads w (world_after p.2) = bodies.after_use_leads h n c.user c.stmts c.env w p.0 p.2 q p.3 in
    after_leads h n cs w (and_then p.2 (left h c.active.ids c.active.cost)) out
    (then_leads w p.2 (left h c.active.ids c.active.cost) v (left_leads h c.active.ids c.active.cost)) p.4

pub means_leads : (h : History) (n : ℕ) (s : State) (out : Outcome Answer) → Means h n s out → Leads (world_of s) (world_after out)
means_leads h n (Runs mode ss env a cs w) out p =
    after_leads h n cs w (and_then p.0 (left h a.ids a.cost)) out
    (then_leads w p.0 (left h a.ids a.cost) (bodies.means_leads h n mode ss env w p.0 p.1) (left_leads h a.ids a.cost)) p.2
means_leads h n (Makes t v vs c cs w) out p =
    after_leads h n (c ∷ cs) w (expr.made h (call p.0 h) c.env.text t v vs w) out (made_leads h p.0 c.env.text t v vs w) p.2
means_leads h n (Answers a cs w) out p = after_leads h n cs w (Done a w) out (here w) p
means_leads h n (Ends e) out p = subst (λ o. Leads (world_at e) (world_after o)) p (here (world_at e))

-- the events of a world are the first of those of every later one
pub leads_prefix : (w v : World) → Leads w v → IsPrefix (events w.trail) (events v.trail)
leads_prefix w v l = (events l.0, leads_events w v l)

-- after so many steps of a call its meaning at every greater bound is still to come
pub reached_leads : (h : History) (k n : ℕ) (key : Key) (vs : List Value) (w : World) → k < n → Leads (world_of (ran k h (callee_next h key vs (callee_of (version_at h w.count) key) [] w))) (world_after (call n h key vs w))
reached_leads h k n key vs w le =
    let s : State = callee_next h key vs (callee_of (version_at h w.count) key) [] w in
    means_leads h 0 (ran k h s) (call n h key vs w) (ran_follows h k s (call n h key vs w) (call_means h k n key vs w (omega (arith, le))))

pub events_begin : (h : History) (k n : ℕ) (key : Key) (vs : List Value) (w : World) → k < n → IsPrefix (events (world_of (ran k h (callee_next h key vs (callee_of (version_at h w.count) key) [] w))).trail) (events (world_after (call n h key vs w)).trail)
events_begin h k n key vs w le =
    leads_prefix (world_of (ran k h (callee_next h key vs (callee_of (version_at h w.count) key) [] w))) (world_after (call n h key vs w)) (reached_leads h k n key vs w le)
