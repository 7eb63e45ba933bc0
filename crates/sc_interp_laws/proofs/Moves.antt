-- The bytes that a step moves are work.
use Rattle.std.proofs.Common.{◌≡◌, ℕ, ◌+◌, ◌-◌, ◌≤◌, ◌==◌, nat_lt, nat_le, Bool, true, false, if◌then◌else◌, List, [], ◌∷◌, ◌++◌, length, slice_index_or, Option, Some, None, refl, arith}
use Rattle.sc_base.specs.declared.key.Key.{Key}
use Rattle.sc_base.specs.declared.memory.Kind.{Kind}
use Rattle.sc_base.specs.declared.report.Rule.{Rule}
use Rattle.sc_program.specs.declared.storage.StaticId.{StaticId}
use Rattle.sc_program.specs.declared.storage.StaticId.TheVariants.{Named, Literal}
use Rattle.sc_core.specs.declared.module.Auto.{Auto}
use Rattle.sc_core.specs.declared.module.Fun.{Fun}
use Rattle.sc_meaning.specs.Values.{Value, Number, FunctionAt, Pointer, cells_of}
use Rattle.sc_meaning.specs.World.{World, Item, Event, Work, Begin, End, GoesOut, ComesBack, Declares, Happens, Birth, Death, Put, Copy, TakeFree, TakeNew, Give, Stack, Read, Seed, Push, Pop, OpenBlock, CloseBlock, Name, Unname, Born, Enter, Leave, changes_of, work_of, named_in, pass}
use Rattle.sc_meaning.specs.declared.spot.Spot.{Spot}
use Rattle.sc_meaning.specs.declared.spot.Spot.TheVariants.{Slot}
use Rattle.sc_meaning.specs.Outcomes.{Outcome, Done, Over, BirthLimit, world_at, world_after}
use Rattle.sc_meaning.specs.Accesses.{set_at, copy_at}
use Rattle.sc_meaning.specs.Versions.{Text, Version, History, Definition, Callee, Missing, InText, InLibrary, callee_of, version_at, object_in, births_of, is_kept}
use Rattle.sc_meaning.specs.Changes.{born, born_as, born_static, born_unless, born_all, unnamed, filled, filled_all, statics_born, dead, dead_unless_kept, deaths, changed_if, settled_from, settled, happened, at_line, reached}
use Rattle.sc_meaning.specs.Expressions.{Env, Answer, value_rule}
use Rattle.sc_meaning.specs.Statements.{Way, all_dead, auto_kind}
use Rattle.sc_meaning.specs.Calls.{parameters, frame_of, left, answer_of}
use Rattle.sc_interp_machine.specs.Bodies as body
use Rattle.sc_interp_machine.specs.Runs.{Active, Caller, State, Runs, Makes, Answers, Ends, then_goes as then_next, answers, body_next, begins, enters, callee_next, value_next, made_unless, advance}
use Rattle.sc_interp_machine.specs.declared.body.Doing.{Doing}
use Rattle.sc_interp_machine.specs.declared.body.Doing.TheVariants.{Exec}
use Rattle.sc_interp_machine.specs.declared.body.Pending.{Pending}
use Rattle.sc_interp_world.specs.Outputs.{moves_of, bytes_moved}
use Rattle.sc_interp_laws.specs.Paid.{done}
use Rattle.sc_interp_laws.specs.Worlds.{body_left, world_of}
use Rattle.sc_interp_laws.specs.Moved.{Backed, UnlessBack, StepBacked}
use Rattle.sc_interp_laws.proofs.Road.{Road, OwnRoad, then_goes, no_change}
use Rattle.sc_interp_laws.proofs.Works.{pass_work}
use Rattle.sc_interp_laws.proofs.BodySteps as bodies

moved-append : (is js : List Item) → bytes_moved (is ++ js) ≡ bytes_moved is + bytes_moved js
moved-append [] js = omega arith
moved-append (i ∷ is) js =
    let e : bytes_moved (is ++ js) ≡ bytes_moved is + bytes_moved js = moved-append is js in
    omega (arith, e)

here : (w : World) → Backed w w
here w = omega arith

on : (w v u : World) → Backed w v → Backed v u → Backed w u
on w v u p q = omega (arith, p, q)

-- an item that moves no more bytes than it is work
backs : (i : Item) (w : World) → moves_of i ≤ work_of i → Backed w (pass i w)
backs i w le =
    let more : done (pass i w) ≡ done w + work_of i = pass_work i w in
    let moved : bytes_moved (w.trail ++ i ∷ []) ≡ bytes_moved w.trail + (moves_of i + 0) = moved-append w.trail (i ∷ []) in
    omega (arith, le, more, moved)

-- a copy is backed by the work that follows it
copy_backs : (to at from off n : ℕ) (w : World) → Backed w (pass (Work n) (pass (Copy to at from off n) w))
copy_backs to at from off n w =
    let c : Item = Copy to at from off n in
    let v : World = pass c w in
    let first : done v ≡ done w + 0 = pass_work c w in
    let later : done (pass (Work n) v) ≡ done v + n = pass_work (Work n) v in
    let moved : bytes_moved v.trail ≡ bytes_moved w.trail + (n + 0) = moved-append w.trail (c ∷ []) in
    let same : bytes_moved (v.trail ++ Work n ∷ []) ≡ bytes_moved v.trail + (0 + 0) = moved-append v.trail (Work n ∷ []) in
    omega (arith, first, later, moved, same)

quiet_backs : (i : Item) (w : World) → changes_of i ≡ [] → Backed w (pass i w)
quiet_backs (Work n) w e = backs (Work n) w (omega arith)
quiet_backs Begin w e = backs Begin w (omega arith)
quiet_backs End w e = backs End w (omega arith)
quiet_backs GoesOut w e = backs GoesOut w (omega arith)
quiet_backs ComesBack w e = backs ComesBack w (omega arith)
quiet_backs (Declares id) w e = backs (Declares id) w (omega arith)
quiet_backs (Happens x) w e = backs (Happens x) w (omega arith)
quiet_backs (Birth size kind at) w e = absurd (cc)
quiet_backs (Death id) w e = absurd (cc)
quiet_backs (Put id at new) w e = absurd (cc)
quiet_backs (Copy to at from off n) w e = absurd (cc)
quiet_backs (TakeFree k) w e = backs (TakeFree k) w (omega arith)
quiet_backs (TakeNew size) w e = backs (TakeNew size) w (omega arith)
quiet_backs (Give k) w e = backs (Give k) w (omega arith)
quiet_backs (Stack n) w e = backs (Stack n) w (omega arith)
quiet_backs Read w e = backs Read w (omega arith)
quiet_backs (Seed n) w e = backs (Seed n) w (omega arith)
quiet_backs (Push f) w e = backs (Push f) w (omega arith)
quiet_backs Pop w e = backs Pop w (omega arith)
quiet_backs (OpenBlock b) w e = backs (OpenBlock b) w (omega arith)
quiet_backs CloseBlock w e = backs CloseBlock w (omega arith)
quiet_backs (Name id o) w e = backs (Name id o) w (omega arith)
quiet_backs (Unname id) w e = backs (Unname id) w (omega arith)

set_backs : (p : Value) (further n : ℕ) (v : Value) (w : World) → Backed w (set_at p further n v w)
set_backs (Number m) further n v w = here w
set_backs (FunctionAt k) further n v w = here w
set_backs (Pointer o i) further n v w = backs (Put o (i + further) (cells_of n v)) w (omega arith)

copied_backs : (to : Value) (further : ℕ) (from : Value) (beyond n : ℕ) (w : World) → Backed w (pass (Work n) (copy_at to further from beyond n w))
copied_backs (Number m) further from beyond n w = backs (Work n) w (omega arith)
copied_backs (FunctionAt k) further from beyond n w = backs (Work n) w (omega arith)
copied_backs (Pointer o i) further (Number m) beyond n w = backs (Work n) w (omega arith)
copied_backs (Pointer o i) further (FunctionAt k) beyond n w = backs (Work n) w (omega arith)
copied_backs (Pointer o i) further (Pointer p j) beyond n w = copy_backs o (i + further) p (j + beyond) n w

abbrev Backing : Road
Backing = record {
  Goes = Backed;
  here = here;
  on = on;
  quiet = λ i w e. quiet_backs i w (no_change i e);
  stores = λ p further n v w e. set_backs p further n v w;
  copies = λ to further from beyond n w e. copied_backs to further from beyond n w;
}

abbrev OwnBacking : OwnRoad
OwnBacking = record {
  road = Backing;
  Own = λ id. Unit {0};
  births = λ size constant at w. backs (Birth size (auto_kind constant) at) w (omega arith);
  deaths = λ id w o. backs (Death id) w (omega arith);
  fills = λ id at new w o. backs (Put id at new) w (omega arith);
  moves = λ id at from off n w o. copy_backs id at from off n w;
}

body_backs : (mode : Doing) (ss : List Pending) (env : Env) (w : World) → Backed w (body_left (body.advance mode ss env w))
body_backs mode ss env w = bodies.advance_go OwnBacking mode ss env w (λ id p. tt)

dead_backs : (ids : List ℕ) (w : World) → Backed w (all_dead ids w)
dead_backs ids w = bodies.dead_go OwnBacking ids w (λ id p. tt)

-- births of static objects, and changes of the version
if_born : (full : Bool) (size : ℕ) (kind : Kind) (at : Spot) (w : World) → Backed w (world_after (if full then Over (BirthLimit w) else Done (length w.objects + 1) (pass (Birth size kind at) w)))
if_born true size kind at w = here w
if_born false size kind at w = backs (Birth size kind at) w (omega arith)

born_backs : (size : ℕ) (kind : Kind) (at : Spot) (w : World) → Backed w (world_after (born size kind at w))
born_backs size kind at w = if_born (nat_le 4000000000 (length w.objects)) size kind at w

as_backs : (id : StaticId) (d : Option Definition) (w : World) → Backed w (world_after (born_as id d w))
as_backs id None w = born_backs _ _ _ w
as_backs id (Some d) w = born_backs _ _ _ w

static_backs : (texts : List Text) (id : StaticId) (w : World) → Backed w (world_after (born_static texts id w))
static_backs texts (Named key) w = as_backs (Named key) (object_in texts key) w
static_backs texts (Literal home bytes) w = born_backs _ _ _ w

each_backs : (texts : List Text) (id : StaticId) (o : Option ℕ) (w : World) → Backed w (world_after (born_unless texts id o w))
each_backs texts id (Some o) w = here w
each_backs texts id None w = then_goes Backing w (born_static texts id w) _ (static_backs texts id w) (λ o v. quiet_backs (Name id o) v refl)

all_back : (texts : List Text) (ids : List StaticId) (w : World) → Backed w (world_after (born_all texts ids w))
all_back texts [] w = here w
all_back texts (id ∷ ids) w = then_goes Backing w (born_unless texts id (named_in w.names id) w) _ (each_backs texts id (named_in w.names id) w) (λ u v. all_back texts ids v)

fill_backs : (texts : List Text) (id : StaticId) (o : Option ℕ) (w : World) → Backed w (filled texts id o w)
fill_backs texts id None w = here w
fill_backs texts id (Some o) w = backs _ w (omega arith)

fills_back : (texts : List Text) (ids : List StaticId) (w : World) → Backed w (filled_all texts ids w)
fills_back texts [] w = here w
fills_back texts (id ∷ ids) w =
    let v : World = filled texts id (named_in w.names id) w in
    on w v (filled_all texts ids v) (fill_backs texts id (named_in w.names id) w) (fills_back texts ids v)

statics_back : (texts : List Text) (w : World) → Backed w (world_after (statics_born texts w))
statics_back texts w =
    let ids : List StaticId = unnamed w.names (births_of texts) in
    then_goes Backing w (born_all texts ids w) _ (all_back texts ids w) (λ u v. fills_back texts ids v)

death_backs : (id : StaticId) (o : Option ℕ) (w : World) → Backed w (dead id o w)
death_backs id None w = here w
death_backs id (Some o) w =
    let v : World = pass (Death o) w in
    on w v (pass (Unname id) v) (backs (Death o) w (omega arith)) (quiet_backs (Unname id) v refl)

kept_backs : (b : Bool) (id : StaticId) (w : World) → Backed w (if b then w else dead id (named_in w.names id) w)
kept_backs true id w = here w
kept_backs false id w = death_backs id (named_in w.names id) w

one_backs : (old new : List Text) (id : StaticId) (w : World) → Backed w (dead_unless_kept old new id w)
one_backs old new (Named key) w = kept_backs (is_kept old new key) (Named key) w
one_backs old new (Literal home bytes) w = here w

deaths_back : (old new : List Text) (ids : List StaticId) (w : World) → Backed w (deaths old new ids w)
deaths_back old new [] w = here w
deaths_back old new (id ∷ ids) w =
    let v : World = dead_unless_kept old new id w in
    on w v (deaths old new ids v) (one_backs old new id w) (deaths_back old new ids v)

changed_backs : (b : Bool) (old new : List Text) (w : World) → Backed w (world_after (changed_if b old new w))
changed_backs false old new w = here w
changed_backs true old new w =
    let v : World = deaths old new (births_of old) w in
    on w v (world_after (statics_born new v)) (deaths_back old new (births_of old) w) (statics_back new v)

if_backs : (b : Bool) (w : World) (r s : Outcome (Unit {0})) → Backed w (world_after r) → Backed w (world_after s) → Backed w (world_after (if b then r else s))
if_backs true w r s p q = p
if_backs false w r s p q = q

settled_backs : (n : ℕ) (old : List Text) (vs : List Version) (w : World) → Backed w (world_after (settled_from n old vs w))
settled_backs n old [] w = here w
settled_backs n old (v ∷ vs) w =
    if_backs (nat_lt n v.count) w _ _ (here w)
    (then_goes Backing w (changed_if (v.count == n) old v.texts w) _ (changed_backs (v.count == n) old v.texts w) (λ u x. settled_backs n v.texts vs x))

happened_backs : (h : History) (e : Event) (w : World) → Backed w (world_after (happened h e w))
happened_backs h e w =
    let v : World = pass (Happens e) w in
    on w v (world_after (settled h v)) (quiet_backs (Happens e) w refl) (settled_backs v.count [] h v)

-- runs
next_backs : {A : Type 0} (w : World) (r : Outcome A) (go : A → World → State) → Backed w (world_after r) → ((a : A) (v : World) → Backed v (world_of (go a v))) → Backed w (world_of (then_next r go))
next_backs w (Done a v) go l q = on w v (world_of (go a v)) l (q a v)
next_backs w (Over e) go l q = l

left_backs : (h : History) (ids : List ℕ) (cost : ℕ) (way : Way) (w : World) → Backed w (world_after (left h ids cost way w))
left_backs h ids cost way w =
    let x : World = all_dead ids w in
    let v : World = pass Pop x in
    let u : World = pass (Stack (w.used - cost)) v in
    then_goes Backing w (happened h Leave u) (λ x y. Done (answer_of way) y)
    (on w x (world_after (happened h Leave u)) (dead_backs ids w) (on x v (world_after (happened h Leave u)) (quiet_backs Pop x refl) (on v u (world_after (happened h Leave u)) (quiet_backs (Stack (w.used - cost)) v refl) (happened_backs h Leave u))))
    (λ x y. here y)

step_backs : (h : History) (b : body.Advanced) (a : Active) (cs : List Caller) (w : World) → Backed w (body_left b) → Backed w (world_of (body_next h b a cs))
step_backs h (body.GoesOn mode ss env v) a cs w l = l
step_backs h (body.Lines n mode ss env v) a cs w l =
    on w v (world_of (then_next (reached h n v) (λ _ u. Runs mode ss env a cs u))) l
    (next_backs v (reached h n v) (λ _ u. Runs mode ss env a cs u) (happened_backs h (at_line v.frames n) v) (λ x u. here u))
step_backs h (body.CallsOut t x vs is u ss env v) a cs w l = l
step_backs h (body.Leaves way v) a cs w l =
    on w v (world_of (answers cs (left h a.ids a.cost way v))) l (next_backs v (left h a.ids a.cost way v) (λ a w. Answers a cs w) (left_backs h a.ids a.cost way v) (λ a u. here u))
step_backs h (body.Breaks e) a cs w l = l

-- a step of a body, and an answer that comes back
runs_back : (h : History) (mode : Doing) (ss : List Pending) (env : Env) (a : Active) (cs : List Caller) (w : World) → Backed w (world_of (advance h (Runs mode ss env a cs w)))
runs_back h mode ss env a cs w = step_backs h (body.advance mode ss env w) a cs w (body_backs mode ss env w)

answers_back : (h : History) (a : Answer) (cs : List Caller) (w : World) → Backed w (world_of (advance h (Answers a cs w)))
answers_back h a [] w = here w
answers_back h a (c ∷ cs) w = here w

-- a call that enters its function
parameters_back : (autos : List Auto) (vs : List Value) (ids : List ℕ) (w : World) → Backed w (world_after (parameters autos vs ids w))
parameters_back [] vs ids w = here w
parameters_back (a ∷ rest) [] ids w = here w
parameters_back (a ∷ rest) (v ∷ vs) ids w =
    then_goes Backing w (born a.slot.size (auto_kind a.slot.constant) (Slot a.slot.offset) w) _ (born_backs a.slot.size (auto_kind a.slot.constant) (Slot a.slot.offset) w) (λ id u.
    let x : World = set_at (Pointer id 0) 0 a.slot.size v u in
    on u x (world_after (parameters rest vs (ids ++ id ∷ []) x)) (set_backs (Pointer id 0) 0 a.slot.size v u) (parameters_back rest vs (ids ++ id ∷ []) x))

unless_back : (w : World) (s : State) → Backed w (world_of s) → UnlessBack w s
unless_back w (Runs mode ss env a cs v) p = p
unless_back w (Makes t x vs c cs v) p = p
unless_back w (Answers a cs v) p = tt
unless_back w (Ends e) p = tt

back_at_once : (w : World) (cs : List Caller) (r : Outcome Answer) → UnlessBack w (answers cs r)
back_at_once w cs (Done a v) = tt
back_at_once w cs (Over e) = tt

begins_back : (h : History) (key : Key) (t : Text) (f : Fun) (cs : List Caller) (ids : List ℕ) (w : World) → Backed w (world_of (begins h key t f cs ids w))
begins_back h key t f cs ids w =
    let born : Born = record { block = 0; ids = ids } in
    let env : Env = record { text = t; fun = f; blocks = born ∷ [] } in
    let v : World = pass (OpenBlock born) w in
    let e : Event = Enter key t.core.name in
    next_backs w (happened h e v) (λ _ u. Runs (Exec f.body) [] env (record { ids = ids; cost = f.cost }) cs u)
    (on w v (world_after (happened h e v)) (quiet_backs (OpenBlock born) w refl) (happened_backs h e v)) (λ x u. here u)

enters_back : (b : Bool) (h : History) (key : Key) (t : Text) (f : Fun) (vs : List Value) (cs : List Caller) (w : World) → UnlessBack w (enters b h key t f vs cs w)
enters_back true h key t f vs cs w = tt
enters_back false h key t f vs cs w =
    let v : World = pass (Stack (w.used + f.cost)) w in
    let u : World = pass (Push (frame_of key t w)) v in
    let r : Outcome (List ℕ) = parameters (slice_index_or f.blocks 0 []) vs [] u in
    unless_back w (then_next r (begins h key t f cs))
    (next_backs w r (begins h key t f cs)
    (on w v (world_after r) (quiet_backs (Stack (w.used + f.cost)) w refl) (on v u (world_after r) (quiet_backs (Push (frame_of key t w)) v refl) (parameters_back (slice_index_or f.blocks 0 []) vs [] u)))
    (λ ids x. begins_back h key t f cs ids x))

callee_backs : (h : History) (key : Key) (vs : List Value) (c : Callee) (cs : List Caller) (w : World) → UnlessBack w (callee_next h key vs c cs w)
callee_backs h key vs Missing cs w = tt
callee_backs h key vs (InLibrary f) cs w = back_at_once w cs _
callee_backs h key vs (InText t f) cs w = enters_back (nat_lt w.stack (w.used + f.cost)) h key t f vs cs w

value_backs : (h : History) (v : Value) (vs : List Value) (cs : List Caller) (w : World) → UnlessBack w (value_next h v vs cs w)
value_backs h (FunctionAt key) vs cs w = callee_backs h key vs (callee_of (version_at h w.count) key) cs w
value_backs h (Number n) vs cs w = tt
value_backs h (Pointer o i) vs cs w = tt

made_backs : (rule : Option Rule) (h : History) (v : Value) (vs : List Value) (cs : List Caller) (w : World) → UnlessBack w (made_unless rule h v vs cs w)
made_backs None h v vs cs w = value_backs h v vs cs w
made_backs (Some rule) h v vs cs w = tt

-- each step of a run but a call that is over at once, and that call's when it enters a function
pub advance_backs : (h : History) (s : State) → StepBacked s (advance h s)
advance_backs h (Runs mode ss env a cs w) = runs_back h mode ss env a cs w
advance_backs h (Makes t v vs c cs w) = made_backs (value_rule (version_at h w.count) c.env.text t v) h v vs (c ∷ cs) w
advance_backs h (Answers a cs w) = answers_back h a cs w
advance_backs h (Ends e) = here (world_at e)
