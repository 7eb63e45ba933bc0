-- What the program's step shows: that the step ended with an event, behind which a body goes on.
use Rattle.std.proofs.Common.{◌≡◌, ℕ, ◌+◌, ◌≤◌, nat_lt, Bool, true, false, List, [], ◌∷◌, slice_index_or, arith, refl, sym, ap, ◌∙◌, Option, Some, None}
use Rattle.sc_base.specs.declared.key.Key.{Key}
use Rattle.sc_base.specs.declared.report.Rule.{Rule}
use Rattle.sc_core.specs.declared.module.Auto.{Auto}
use Rattle.sc_core.specs.declared.module.Fun.{Fun}
use Rattle.sc_meaning.specs.Values.{Value, Number, FunctionAt, Pointer}
use Rattle.sc_meaning.specs.World.{World, Enter, Born, pass, OpenBlock, GoesOut}
use Rattle.sc_meaning.specs.Outcomes.{Outcome, Done, Over, world_after}
use Rattle.sc_meaning.specs.Versions.{Text, History, Callee, Missing, InText, InLibrary, callee_of, version_at}
use Rattle.sc_meaning.specs.Changes.{at_line}
use Rattle.sc_meaning.specs.Expressions.{Env, Answer, Nothing as NoAnswer, value_rule}
use Rattle.sc_meaning.specs.Functions.{library_call}
use Rattle.sc_meaning.specs.Calls.{parameters}
use Rattle.sc_interp_machine.specs.Bodies as body
use Rattle.sc_interp_machine.specs.Runs.{Active, Caller, State, Runs, Makes, Answers, Ends, then_goes, answers, body_next, begins, enters, callee_next, value_next, made_unless, advance}
use Rattle.sc_interp_machine.specs.declared.body.Doing.{Doing}
use Rattle.sc_interp_machine.specs.declared.body.Doing.TheVariants.{Exec}
use Rattle.sc_interp_machine.specs.declared.body.Pending.{Pending}
use Rattle.sc_interp_laws.specs.Worlds.{body_left, world_of}
use Rattle.sc_interp_laws.proofs.BodySteps as bodies
use Rattle.sc_interp_laws.proofs.RunSteps.{parameters_lead}
use Rattle.sc_interp.specs.Steady as steady
use Rattle.sc_interp.specs.Steady.{alone}
use Rattle.sc_interp.specs.Shows.{line_shown, entry_shown, shown}
use Rattle.sc_interp_change_laws.specs.Following.{reached_in, Shows}
use Rattle.sc_interp_change_laws.specs.Showing.{IsEvent}
use Rattle.sc_interp_change_laws.proofs.Between.{count_grows, event_counts}

-- a call where these texts are present, whatever the history
abbrev pub value_fixed : List Text → Value → List Value → List Caller → World → History → State
value_fixed texts (FunctionAt key) vs cs w h = callee_next h key vs (callee_of texts key) cs w
value_fixed texts (Number n) vs cs w h = Answers NoAnswer cs w
value_fixed texts (Pointer o i) vs cs w h = Answers NoAnswer cs w

abbrev pub made_fixed : List Text → Option Rule → Value → List Value → List Caller → World → History → State
made_fixed texts None v vs cs w h = value_fixed texts v vs cs w h
made_fixed texts (Some rule) v vs cs w h = made_unless (Some rule) h v vs cs w

value_is : (texts : List Text) (v : Value) (vs : List Value) (cs : List Caller) (w : World) (h : History) → version_at h w.count ≡ texts → value_next h v vs cs w ≡ value_fixed texts v vs cs w h
value_is texts (FunctionAt key) vs cs w h e = ap (λ ts. callee_next h key vs (callee_of ts key) cs w) e
value_is texts (Number n) vs cs w h e = refl
value_is texts (Pointer o i) vs cs w h e = refl

made_is : (texts : List Text) (rule : Option Rule) (v : Value) (vs : List Value) (cs : List Caller) (w : World) (h : History) → version_at h w.count ≡ texts → made_unless rule h v vs cs w ≡ made_fixed texts rule v vs cs w h
made_is texts None v vs cs w h e = value_is texts v vs cs w h e
made_is texts (Some rule) v vs cs w h e = refl

no_entry : (cs : List Caller) (r : Outcome Answer) → IsEvent (entry_shown (answers cs r)) → ⊥
no_entry cs (Done a w) p = p
no_entry cs (Over e) p = p

module _ (n : ℕ) (texts : List Text) where
  body_shows : (mode : Doing) (ss : List Pending) (env : Env) (w : World) (b : body.Advanced) (a : Active) (cs : List Caller) → body.advance mode ss env w ≡ b → n ≤ (body_left b).count → IsEvent (line_shown b) → Shows n texts (world_of (steady.body_next b a cs)).count (λ g. advance g (Runs mode ss env a cs w))
  body_shows mode ss env w (body.GoesOn x y z v) a cs e le p = absurd p
  body_shows mode ss env w (body.Lines l x y z v) a cs e le p =
      record {
        event = at_line v.frames l;
        world = v;
        doing = x;
        pending = y;
        env = z;
        active = a;
        callers = cs;
        later = le;
        counts = sym (event_counts (at_line v.frames l) v);
        comes = λ h q. ap (λ b. body_next h b a cs) e;
      }
  body_shows mode ss env w (body.CallsOut t v vs is u y z x) a cs e le p = absurd p
  body_shows mode ss env w (body.Leaves way v) a cs e le p = absurd p
  body_shows mode ss env w (body.Breaks x) a cs e le p = absurd p

  begins_shows : (key : Key) (t : Text) (f : Fun) (cs : List Caller) (ids : List ℕ) (w : World) → n ≤ w.count → Shows n texts (world_of (steady.begins key t f cs ids w)).count (λ g. begins g key t f cs ids w)
  begins_shows key t f cs ids w le =
      let born : Born = record { block = 0; ids = ids } in
      record {
        event = Enter key t.core.name;
        world = pass (OpenBlock born) w;
        doing = Exec f.body;
        pending = [];
        env = record { text = t; fun = f; blocks = born ∷ [] };
        active = record { ids = ids; cost = f.cost };
        callers = cs;
        later = le;
        counts = refl;
        comes = λ h q. refl;
      }

  parameters_show : (r : Outcome (List ℕ)) (key : Key) (t : Text) (f : Fun) (cs : List Caller) → n ≤ (world_after r).count → IsEvent (entry_shown (then_goes r (steady.begins key t f cs))) → Shows n texts (world_of (then_goes r (steady.begins key t f cs))).count (λ g. then_goes r (begins g key t f cs))
  parameters_show (Done ids v) key t f cs le p = begins_shows key t f cs ids v le
  parameters_show (Over e) key t f cs le p = absurd p

  enters_shows : (full : Bool) (key : Key) (t : Text) (f : Fun) (vs : List Value) (cs : List Caller) (w : World) → n ≤ w.count → IsEvent (entry_shown (steady.enters full key t f vs cs w)) → Shows n texts (world_of (steady.enters full key t f vs cs w)).count (λ g. enters full g key t f vs cs w)
  enters_shows true key t f vs cs w le p = absurd p
  enters_shows false key t f vs cs w le p =
      let u : World = steady.with_frame key t f w in
      let autos : List Auto = slice_index_or f.blocks 0 [] in
      let r : Outcome (List ℕ) = parameters autos vs [] u in
      let more : u.count ≤ (world_after r).count = count_grows u (world_after r) (parameters_lead autos vs [] u) in
      parameters_show r key t f cs (omega (arith, le, more)) p

  pub callee_shows : (k : History) (key : Key) (vs : List Value) (x : Callee) (cs : List Caller) (w : World) → n ≤ w.count → IsEvent (entry_shown (steady.callee_next k key vs x cs w)) → Shows n texts (world_of (steady.callee_next k key vs x cs w)).count (λ g. callee_next g key vs x cs w)
  callee_shows k key vs Missing cs w le p = absurd p
  callee_shows k key vs (InLibrary f) cs w le p = absurd (no_entry cs (library_call k f key vs w) p)
  callee_shows k key vs (InText t f) cs w le p = enters_shows (nat_lt w.stack (w.used + f.cost)) key t f vs cs w le p

  value_shows : (k : History) (v : Value) (vs : List Value) (cs : List Caller) (w : World) → n ≤ w.count → IsEvent (entry_shown (steady.value_next k texts v vs cs w)) → Shows n texts (world_of (steady.value_next k texts v vs cs w)).count (value_fixed texts v vs cs w)
  value_shows k (FunctionAt key) vs cs w le p = callee_shows k key vs (callee_of texts key) cs w le p
  value_shows k (Number x) vs cs w le p = absurd p
  value_shows k (Pointer o i) vs cs w le p = absurd p

  made_shows : (k : History) (rule : Option Rule) (v : Value) (vs : List Value) (cs : List Caller) (w : World) → n ≤ w.count → IsEvent (entry_shown (steady.made_unless rule k texts v vs cs w)) → Shows n texts (world_of (steady.made_unless rule k texts v vs cs w)).count (made_fixed texts rule v vs cs w)
  made_shows k None v vs cs w le p = value_shows k v vs cs w le p
  made_shows k (Some rule) v vs cs w le p = absurd p

-- the same of what is the same where the texts are present
shows_as : (n count : ℕ) (texts : List Text) (f g : History → State) → ((h : History) → version_at h n ≡ texts → f h ≡ g h) → Shows n texts count g → Shows n texts count f
shows_as n count texts f g e x =
    record {
      event = x.event;
      world = x.world;
      doing = x.doing;
      pending = x.pending;
      env = x.env;
      active = x.active;
      callers = x.callers;
      later = x.later;
      counts = x.counts;
      comes = λ h q. e h q ∙ x.comes h q;
    }

-- a step that shows something
pub step_shows : (k : History) (texts : List Text) (s : State) → IsEvent (shown k texts s) → Shows (world_of s).count texts (world_of (steady.advance k texts s)).count (λ g. advance g s)
step_shows k texts (Runs mode ss env a cs w) p = body_shows w.count texts mode ss env w (body.advance mode ss env w) a cs refl (count_grows w (body_left (body.advance mode ss env w)) (bodies.advance_leads mode ss env w)) p
step_shows k texts (Makes t v vs c cs w) p =
    let rule : Option Rule = value_rule texts c.env.text t v in
    shows_as w.count (world_of (steady.advance k texts (Makes t v vs c cs w))).count texts (λ g. advance g (Makes t v vs c cs w)) (made_fixed texts rule v vs (c ∷ cs) w)
    (λ h q. ap (λ ts. made_unless (value_rule ts c.env.text t v) h v vs (c ∷ cs) w) q ∙ made_is texts rule v vs (c ∷ cs) w h q)
    (made_shows w.count texts k rule v vs (c ∷ cs) w (omega arith) p)
step_shows k texts (Answers a cs w) p = absurd p
step_shows k texts (Ends e) p = absurd p

-- and the call of the entry
pub first_shows : (k : History) (texts : List Text) (key : Key) (w : World) → IsEvent (entry_shown (steady.callee_next k key [] (callee_of texts key) [] (pass GoesOut w))) → Shows w.count texts (world_of (steady.callee_next k key [] (callee_of texts key) [] (pass GoesOut w))).count (λ g. reached_in g key w 0)
first_shows k texts key w p =
    let x : Callee = callee_of texts key in
    let v : World = pass GoesOut w in
    shows_as w.count (world_of (steady.callee_next k key [] x [] v)).count texts (λ g. reached_in g key w 0) (λ g. callee_next g key [] x [] v)
    (λ h q. ap (λ ts. callee_next h key [] (callee_of ts key) [] v) q)
    (callee_shows w.count texts k key [] x [] v (omega arith) p)
