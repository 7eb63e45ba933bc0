-- A change of the texts leaves a run where it stands.
use Rattle.std.proofs.Common.{◌≡◌, ℕ, ◌+◌, ◌≤◌, nat_le, Bool, true, false, if◌then◌else◌, List, [], ◌∷◌, ◌++◌, length, append_assoc, refl, sym, ap, ◌∙◌, subst, arith, Option, Some, None, ◌*◌}
use Rattle.std.proofs.lemmas.List.{append-nil}
use Rattle.sc_program.specs.declared.storage.StaticId.{StaticId}
use Rattle.sc_program.specs.declared.storage.StaticId.TheVariants.{Named, Literal}
use Rattle.sc_base.specs.declared.memory.Kind.{Kind}
use Rattle.sc_meaning.specs.World.{World, Item, Event, Birth, Death, Put, Name, Unname, pass, passed, events, events_of, named_in}
use Rattle.sc_meaning.specs.declared.spot.Spot.{Spot}
use Rattle.sc_meaning.specs.Outcomes.{Outcome, Done, Over, BirthLimit, and_then, world_after, world_at, went}
use Rattle.sc_meaning.specs.Versions.{Text, Definition, object_in, births_of, is_kept}
use Rattle.sc_meaning.specs.Changes.{born, born_as, born_static, born_unless, born_all, unnamed, filled, filled_all, statics_born, static_contents, contents_size, kind_of, dead, dead_unless_kept, deaths, changed}
use Rattle.sc_meaning.specs.Laws.{Leads}
use Rattle.sc_meaning.proofs.Steps.{on}
use Rattle.sc_meaning.proofs.Trails.{trail-passed, events-append}
use Rattle.sc_interp_machine.specs.Runs.{State, Runs, Makes, Answers, Ends}
use Rattle.sc_interp_laws.specs.Events.{IsPrefix}
use Rattle.sc_interp_laws.specs.Lawful.{Along, Each}
use Rattle.sc_interp_laws.specs.Lean.{IsLean}
use Rattle.sc_interp_laws.specs.Near.{near}
use Rattle.sc_interp_laws.proofs.Lawfully.{along_here, along_one, along_two, along_on}
use Rattle.sc_interp_world.specs.Outputs.{output, written_by}
use Rattle.sc_interp.specs.declared.stepped.Shown.{Shown}
use Rattle.sc_world.specs.Changing.{in_world, changed_to, changed_standing}
use Rattle.sc_world.specs.Standing.{Standing, world_of}
use Rattle.sc_world_laws.specs.Told.{IsAt, IsFramed, now, event_of, happening}
use Rattle.sc_world_change_laws.specs.Still.{IsStill}

-- ---- what happens in a change

-- objects die and are born, get their values, and names come and go
abbrev pub IsQuiet : World → Item → Type 0
IsQuiet w (Birth size kind at) = Unit {0}
IsQuiet w (Death id) = Unit {0}
IsQuiet w (Put id at new) = Unit {0}
IsQuiet w (Name id o) = Unit {0}
IsQuiet w (Unname id) = Unit {0}
IsQuiet w _ = ⊥

abbrev Quiet : World → World → Type 0
Quiet w v = Along IsQuiet w v

born_quiet : (size : ℕ) (kind : Kind) (at : Spot) (w : World) → Quiet w (world_after (born size kind at w))
born_quiet size kind at w = go (nat_le 4000000000 (length w.objects))
  where
    go : (b : Bool) → Quiet w (world_after (if b then Over (BirthLimit w) else Done (length w.objects + 1) (pass (Birth size kind at) w)))
    go true = along_here IsQuiet w
    go false = along_one IsQuiet (Birth size kind at) w tt

as_quiet : (id : StaticId) (d : Option Definition) (w : World) → Quiet w (world_after (born_as id d w))
as_quiet id None w = born_quiet _ _ _ w
as_quiet id (Some d) w = born_quiet (contents_size d.object.init) (kind_of d.object.constant) _ w

static_quiet : (texts : List Text) (id : StaticId) (w : World) → Quiet w (world_after (born_static texts id w))
static_quiet texts (Named key) w = as_quiet (Named key) (object_in texts key) w
static_quiet texts (Literal home bytes) w = born_quiet _ _ _ w

then_quiet : {A B : Type 0} (w : World) (r : Outcome A) (f : A → World → Outcome B) → Quiet w (world_after r) → ((a : A) (v : World) → Quiet v (world_after (f a v))) → Quiet w (world_after (and_then r f))
then_quiet w (Done a v) f l q = along_on IsQuiet w v (world_after (f a v)) l (q a v)
then_quiet w (Over e) f l q = l

unless_quiet : (texts : List Text) (id : StaticId) (o : Option ℕ) (w : World) → Quiet w (world_after (born_unless texts id o w))
unless_quiet texts id (Some o) w = along_here IsQuiet w
unless_quiet texts id None w = then_quiet w (born_static texts id w) (λ o v. went (pass (Name id o) v)) (static_quiet texts id w) (λ o v. along_one IsQuiet (Name id o) v tt)

all_quiet : (texts : List Text) (ids : List StaticId) (w : World) → Quiet w (world_after (born_all texts ids w))
all_quiet texts [] w = along_here IsQuiet w
all_quiet texts (id ∷ ids) w = then_quiet w (born_unless texts id (named_in w.names id) w) (λ x v. born_all texts ids v) (unless_quiet texts id (named_in w.names id) w) (λ x v. all_quiet texts ids v)

filled_quiet : (texts : List Text) (id : StaticId) (o : Option ℕ) (w : World) → Quiet w (filled texts id o w)
filled_quiet texts id None w = along_here IsQuiet w
filled_quiet texts id (Some o) w = along_one IsQuiet (Put o 0 (static_contents texts w id)) w tt

fills_quiet : (texts : List Text) (ids : List StaticId) (w : World) → Quiet w (filled_all texts ids w)
fills_quiet texts [] w = along_here IsQuiet w
fills_quiet texts (id ∷ ids) w =
    let v : World = filled texts id (named_in w.names id) w in
    along_on IsQuiet w v (filled_all texts ids v) (filled_quiet texts id (named_in w.names id) w) (fills_quiet texts ids v)

statics_quiet : (texts : List Text) (w : World) → Quiet w (world_after (statics_born texts w))
statics_quiet texts w =
    let ids : List StaticId = unnamed w.names (births_of texts) in
    then_quiet w (born_all texts ids w) (λ x v. went (filled_all texts ids v)) (all_quiet texts ids w) (λ x v. fills_quiet texts ids v)

dead_quiet : (id : StaticId) (o : Option ℕ) (w : World) → Quiet w (dead id o w)
dead_quiet id None w = along_here IsQuiet w
dead_quiet id (Some o) w = along_two IsQuiet (Death o) (Unname id) w tt tt

kept_quiet : (b : Bool) (id : StaticId) (w : World) → Quiet w (if b then w else dead id (named_in w.names id) w)
kept_quiet true id w = along_here IsQuiet w
kept_quiet false id w = dead_quiet id (named_in w.names id) w

one_dead : (old new : List Text) (id : StaticId) (w : World) → Quiet w (dead_unless_kept old new id w)
one_dead old new (Named key) w = kept_quiet (is_kept old new key) (Named key) w
one_dead old new (Literal home bytes) w = along_here IsQuiet w

deaths_quiet : (old new : List Text) (ids : List StaticId) (w : World) → Quiet w (deaths old new ids w)
deaths_quiet old new [] w = along_here IsQuiet w
deaths_quiet old new (id ∷ ids) w =
    let v : World = dead_unless_kept old new id w in
    along_on IsQuiet w v (deaths old new ids v) (one_dead old new id w) (deaths_quiet old new ids v)

pub changed_quiet : (old new : List Text) (w : World) → Quiet w (world_after (changed old new w))
changed_quiet old new w =
    let v : World = deaths old new (births_of old) w in
    along_on IsQuiet w v (world_after (statics_born new v)) (deaths_quiet old new (births_of old) w) (statics_quiet new v)

-- ---- what it leaves

-- of one item, and of some
pub record Leaves (events_there : List Event) (bytes : List ℕ) (w v : World) : Type 0 where
  pub told : events_there ≡ []
  pub written : bytes ≡ []
  pub frames : v.frames ≡ w.frames
  pub enters : v.enters ≡ w.enters
  pub counts : v.count ≡ w.count

one_leaves : (i : Item) (w : World) → IsQuiet w i → Leaves (events_of i) (written_by i) w (pass i w)
one_leaves (Birth size kind at) w p = record { told = refl; written = refl; frames = refl; enters = refl; counts = refl }
one_leaves (Death id) w p = record { told = refl; written = refl; frames = refl; enters = refl; counts = refl }
one_leaves (Put id at new) w p = record { told = refl; written = refl; frames = refl; enters = refl; counts = refl }
one_leaves (Name id o) w p = record { told = refl; written = refl; frames = refl; enters = refl; counts = refl }
one_leaves (Unname id) w p = record { told = refl; written = refl; frames = refl; enters = refl; counts = refl }
one_leaves _ w p = absurd p

each_leaves : (is : List Item) (w : World) → Each IsQuiet w is → Leaves (events is) (output is) w (passed is w)
each_leaves [] w p = record { told = refl; written = refl; frames = refl; enters = refl; counts = refl }
each_leaves (i ∷ is) w p =
    let one = one_leaves i w p.0 in
    let later = each_leaves is (pass i w) p.1 in
    record {
      told = ap (λ es. es ++ events is) one.told ∙ later.told;
      written = ap (λ bs. bs ++ output is) one.written ∙ later.written;
      frames = later.frames ∙ one.frames;
      enters = later.enters ∙ one.enters;
      counts = later.counts ∙ one.counts;
    }

output-append : (is js : List Item) → output (is ++ js) ≡ output is ++ output js
output-append [] js = refl
output-append (i ∷ is) js = ap (λ bs. written_by i ++ bs) (output-append is js) ∙ sym (append_assoc (written_by i) (output is) (output js))

pub leads_output : (w v : World) → Leads w v → IsPrefix (output w.trail) (output v.trail)
leads_output w v l = (output l.0, ap (λ u. output u.trail) l.1 ∙ ap output (trail-passed l.0 w) ∙ output-append w.trail l.0)

-- from one world to another
still_worlds : (m n : Standing) → n.steps ≡ m.steps → n.turns ≡ m.turns → Quiet (world_of m.state) (world_of n.state) → IsStill m n
still_worlds m n steps turns p =
    let w : World = world_of m.state in
    let v : World = world_of n.state in
    let l = each_leaves p.0 w p.2 in
    let trail : v.trail ≡ w.trail ++ p.0 = ap (λ u. u.trail) p.1 ∙ trail-passed p.0 w in
    record {
      steps = steps;
      turns = turns;
      leads = (p.0, p.1);
      told = ap events trail ∙ events-append w.trail p.0 ∙ ap (λ es. events w.trail ++ es) l.told ∙ append-nil (events w.trail);
      written = ap output trail ∙ output-append w.trail p.0 ∙ ap (λ bs. output w.trail ++ bs) l.written ∙ append-nil (output w.trail);
      frames = ap (λ u. u.frames) p.1 ∙ l.frames;
      enters = ap (λ u. u.enters) p.1 ∙ l.enters;
      counts = ap (λ u. u.count) p.1 ∙ l.counts;
    }

still_to : (m : Standing) (r : Outcome (Unit {0})) → ((v : World) → world_of (in_world m.state v) ≡ v) → Quiet (world_of m.state) (world_after r) → IsStill m (changed_to m r)
still_to m (Done x v) q p = still_worlds m (changed_to m (Done x v)) refl refl (subst (Quiet (world_of m.state)) (sym (q v)) p)
still_to m (Over e) q p = still_worlds m (changed_to m (Over e)) refl refl p

module _ (old new : List Text) where
  still_of : (st : State) (x : Shown) (steps turns : ℕ) →
      IsStill (record { state = st; shown = x; steps = steps; turns = turns }) (changed_standing old new (record { state = st; shown = x; steps = steps; turns = turns }))
  still_of (Runs doing ss env a cs w) x steps turns = still_to (record { state = Runs doing ss env a cs w; shown = x; steps = steps; turns = turns }) (changed old new w) (λ v. refl) (changed_quiet old new w)
  still_of (Makes t v vs c cs w) x steps turns = still_to (record { state = Makes t v vs c cs w; shown = x; steps = steps; turns = turns }) (changed old new w) (λ u. refl) (changed_quiet old new w)
  still_of (Answers a cs w) x steps turns = still_to (record { state = Answers a cs w; shown = x; steps = steps; turns = turns }) (changed old new w) (λ v. refl) (changed_quiet old new w)
  still_of (Ends e) x steps turns =
      let m : Standing = record { state = Ends e; shown = x; steps = steps; turns = turns } in
      still_worlds m m refl refl (along_here IsQuiet (world_at e))

  pub still : (m : Standing) → IsStill m (changed_standing old new m)
  still m = still_of m.state m.shown m.steps m.turns

-- one after the other
pub still_here : (m : Standing) → IsStill m m
still_here m = still_worlds m m refl refl (along_here IsQuiet (world_of m.state))

-- ---- lean states, and what is near

lean_to : (m : Standing) (r : Outcome (Unit {0})) → ((v : World) → IsLean (in_world m.state v)) → IsLean (changed_to m r).state
lean_to m (Done x v) q = q v
lean_to m (Over e) q = tt

near_to : (m : Standing) (r : Outcome (Unit {0})) → ((v : World) → near (in_world m.state v) ≤ near m.state) → near (changed_to m r).state ≤ near m.state
near_to m (Done x v) q = q v
near_to m (Over e) q = omega arith

same_near : (n : ℕ) → n ≤ n
same_near n = omega arith

module _ (old new : List Text) where
  lean_of : (st : State) (x : Shown) (steps turns : ℕ) → IsLean st → IsLean (changed_standing old new (record { state = st; shown = x; steps = steps; turns = turns })).state
  lean_of (Runs doing ss env a cs w) x steps turns p = lean_to (record { state = Runs doing ss env a cs w; shown = x; steps = steps; turns = turns }) (changed old new w) (λ v. p)
  lean_of (Makes t v vs c cs w) x steps turns p = lean_to (record { state = Makes t v vs c cs w; shown = x; steps = steps; turns = turns }) (changed old new w) (λ u. p)
  lean_of (Answers a cs w) x steps turns p = lean_to (record { state = Answers a cs w; shown = x; steps = steps; turns = turns }) (changed old new w) (λ v. p)
  lean_of (Ends e) x steps turns p = p

  pub still_lean : (m : Standing) → IsLean m.state → IsLean (changed_standing old new m).state
  still_lean m p = lean_of m.state m.shown m.steps m.turns p

  near_of : (st : State) (x : Shown) (steps turns : ℕ) → near (changed_standing old new (record { state = st; shown = x; steps = steps; turns = turns })).state ≤ near st
  near_of (Runs doing ss env a cs w) x steps turns = near_to (record { state = Runs doing ss env a cs w; shown = x; steps = steps; turns = turns }) (changed old new w) (λ v. same_near (near (Runs doing ss env a cs w)))
  near_of (Makes t v vs c cs w) x steps turns = near_to (record { state = Makes t v vs c cs w; shown = x; steps = steps; turns = turns }) (changed old new w) (λ u. same_near (near (Makes t v vs c cs w)))
  near_of (Answers a [] w) x steps turns = near_to (record { state = Answers a [] w; shown = x; steps = steps; turns = turns }) (changed old new w) (λ v. same_near (near (Answers a [] w)))
  near_of (Answers a (c ∷ cs) w) x steps turns = near_to (record { state = Answers a (c ∷ cs) w; shown = x; steps = steps; turns = turns }) (changed old new w) (λ v. same_near (near (Answers a (c ∷ cs) w)))
  near_of (Ends e) x steps turns = same_near (near (Ends e))

  pub still_near : (m : Standing) → near (changed_standing old new m).state ≤ near m.state
  still_near m = near_of m.state m.shown m.steps m.turns

-- ---- the place among the events

framed_in : (st : State) (v : World) → v.frames ≡ (world_of st).frames → IsFramed st → IsFramed (in_world st v)
framed_in (Runs doing ss env a cs w) v e p = ap length e ∙ p
framed_in (Makes t x xs c cs w) v e p = ap length e ∙ p
framed_in (Answers a cs w) v e p = ap length e ∙ p
framed_in (Ends x) v e p = tt

-- the frames stay, and what was shown stays or is forgotten
abbrev KeepsShown : Standing → Standing → Type 0
KeepsShown m n = (IsFramed m.state → IsFramed n.state) × (now m ≡ [] → now n ≡ [])

shown_to : (m : Standing) (r : Outcome (Unit {0})) → ((v : World) → world_of (in_world m.state v) ≡ v) → IsStill m (changed_to m r) → KeepsShown m (changed_to m r)
shown_to m (Done x v) q p = (
  (λ f. framed_in m.state v (ap (λ u. u.frames) (sym (q v)) ∙ p.frames) f),
  (λ e. ap (λ fs. event_of m.shown fs) p.frames ∙ e),
)
shown_to m (Over e) q p = ((λ f. tt), (λ e. refl))

module _ (old new : List Text) where
  shown_of : (st : State) (x : Shown) (steps turns : ℕ) →
      KeepsShown (record { state = st; shown = x; steps = steps; turns = turns }) (changed_standing old new (record { state = st; shown = x; steps = steps; turns = turns }))
  shown_of (Runs doing ss env a cs w) x steps turns = shown_to (record { state = Runs doing ss env a cs w; shown = x; steps = steps; turns = turns }) (changed old new w) (λ v. refl) (still_of old new (Runs doing ss env a cs w) x steps turns)
  shown_of (Makes t v vs c cs w) x steps turns = shown_to (record { state = Makes t v vs c cs w; shown = x; steps = steps; turns = turns }) (changed old new w) (λ u. refl) (still_of old new (Makes t v vs c cs w) x steps turns)
  shown_of (Answers a cs w) x steps turns = shown_to (record { state = Answers a cs w; shown = x; steps = steps; turns = turns }) (changed old new w) (λ v. refl) (still_of old new (Answers a cs w) x steps turns)
  shown_of (Ends e) x steps turns = ((λ f. f), (λ e. e))

  -- a run at whose place all events were looked at stands there among its events as before
  pub still_at : (m : Standing) (es : List Event) → IsAt m es → now m ≡ [] → IsAt (changed_standing old new m) es × (now (changed_standing old new m) ≡ [])
  still_at m es p none =
      let n : Standing = changed_standing old new m in
      let s : IsStill m n = still old new m in
      let k : KeepsShown m n = shown_of m.state m.shown m.steps m.turns in
      let quiet : now n ≡ [] = k.1 none in (
        record {
          framed = k.0 p.framed;
          passed = s.told ∙ p.passed ∙ ap (λ fs. es ++ fs) (none ∙ sym quiet);
          last = ((world_of n.state).trail, sym (append-nil (world_of n.state).trail) ∙ ap (λ fs. (world_of n.state).trail ++ happening fs) (sym quiet));
          counted = subst (λ k. k ≤ 8 * n.turns) (sym s.steps) (subst (λ k. m.steps ≤ 8 * k) (sym s.turns) p.counted);
        },
        quiet,
      )

-- ---- one change after the other

pub still_on : (m n o : Standing) → IsStill m n → IsStill n o → IsStill m o
still_on m n o p q = record {
  steps = q.steps ∙ p.steps;
  turns = q.turns ∙ p.turns;
  leads = on (world_of m.state) (world_of n.state) (world_of o.state) p.leads q.leads;
  told = q.told ∙ p.told;
  written = q.written ∙ p.written;
  frames = q.frames ∙ p.frames;
  enters = q.enters ∙ p.enters;
  counts = q.counts ∙ p.counts;
}
