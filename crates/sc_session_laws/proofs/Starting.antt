-- A run starts before all of its events: nothing is told before its entry is entered, and nothing is written.
use Rattle.std.proofs.Common.{◌≡◌, ℕ, nat_le, nat_lt, ◌+◌, Bool, true, false, if◌then◌else◌, List, [], ◌∷◌, ◌++◌, length, append_assoc, slice_index_or, refl, sym, ap, ◌∙◌, Option, Some, None}
use Rattle.std.proofs.lemmas.List.{append-nil}
use Rattle.sc_base.specs.declared.key.Key.{Key}
use Rattle.sc_program.specs.declared.storage.StaticId.{StaticId}
use Rattle.sc_program.specs.declared.storage.StaticId.TheVariants.{Named, Literal}
use Rattle.sc_base.specs.declared.memory.Kind.{Kind}
use Rattle.sc_core.specs.declared.module.Auto.{Auto}
use Rattle.sc_core.specs.declared.module.Fun.{Fun}
use Rattle.sc_meaning.specs.World.{World, Item, Enter, Birth, Put, Name, Push, Stack, OpenBlock, Born, Happens, GoesOut, pass, events, events_of, named_in}
use Rattle.sc_meaning.specs.declared.spot.Spot.{Spot}
use Rattle.sc_meaning.specs.declared.library.LibFun.{LibFun}
use Rattle.sc_meaning.specs.Outcomes.{Outcome, Done, Over, BirthLimit, and_then, world_after, went}
use Rattle.sc_meaning.specs.Versions.{Text, Callee, Missing, InLibrary, InText, Definition, callee_of, fun_by, object_in, births_of, or_later}
use Rattle.sc_meaning.specs.Changes.{born, born_as, born_static, born_unless, born_all, unnamed, filled, filled_all, statics_born, static_contents, contents_size, kind_of}
use Rattle.sc_meaning.specs.Behaviour.{first_world, main_key}
use Rattle.sc_meaning.specs.Calls.{parameters, frame_of}
use Rattle.sc_meaning.proofs.Trails.{trail-passed, events-append}
use Rattle.sc_interp_machine.specs.Runs.{State, then_goes}
use Rattle.sc_interp_laws.specs.Lawful.{Along, Each}
use Rattle.sc_interp_laws.proofs.Lawfully.{along_here, along_one, along_on}
use Rattle.sc_interp_world.specs.Outputs.{output, written_by}
use Rattle.sc_interp.specs.Ends.{start_of}
use Rattle.sc_interp.specs.Steady.{alone, begins, with_frame, enters, callee_next}
use Rattle.sc_world.specs.Goes.{first_standing, entry_next, started}
use Rattle.sc_world.specs.Standing.{world_of}
use Rattle.sc_world_laws.specs.Told.{now, IsAt}
use Rattle.sc_world_laws.proofs.Halting.{run_starts}

-- ---- what is no event and writes nothing

abbrev NoEvent : World → Item → Type 0
NoEvent w i = (events_of i ≡ []) × (written_by i ≡ [])

abbrev Silent : World → World → Type 0
Silent w v = Along NoEvent w v

each_silent : (is : List Item) (w : World) → Each NoEvent w is → (events is ≡ []) × (output is ≡ [])
each_silent [] w p = (refl, refl)
each_silent (i ∷ is) w p =
    let later = each_silent is (pass i w) p.1 in
    (ap (λ es. es ++ events is) p.0.0 ∙ later.0, ap (λ bs. bs ++ output is) p.0.1 ∙ later.1)

output-append : (is js : List Item) → output (is ++ js) ≡ output is ++ output js
output-append [] js = refl
output-append (i ∷ is) js = ap (λ bs. written_by i ++ bs) (output-append is js) ∙ sym (append_assoc (written_by i) (output is) (output js))

-- nothing was told so far, and nothing written
abbrev IsQuiet : World → Type 0
IsQuiet w = (events w.trail ≡ []) × (output w.trail ≡ [])

silent_quiet : (w v : World) → Silent w v → IsQuiet w → IsQuiet v
silent_quiet w v p q =
    let more = each_silent p.0 w p.2 in
    let trail : v.trail ≡ w.trail ++ p.0 = ap (λ u. u.trail) p.1 ∙ trail-passed p.0 w in (
      ap events trail ∙ events-append w.trail p.0 ∙ ap (λ es. events w.trail ++ es) more.0 ∙ append-nil (events w.trail) ∙ q.0,
      ap output trail ∙ output-append w.trail p.0 ∙ ap (λ bs. output w.trail ++ bs) more.1 ∙ append-nil (output w.trail) ∙ q.1,
    )

one_quiet : (i : Item) (w : World) → NoEvent w i → IsQuiet w → IsQuiet (pass i w)
one_quiet i w p q = silent_quiet w (pass i w) (along_one NoEvent i w p) q

-- ---- static objects are born

born_silent : (size : ℕ) (kind : Kind) (at : Spot) (w : World) → Silent w (world_after (born size kind at w))
born_silent size kind at w = go (nat_le 4000000000 (length w.objects))
  where
    go : (b : Bool) → Silent w (world_after (if b then Over (BirthLimit w) else Done (length w.objects + 1) (pass (Birth size kind at) w)))
    go true = along_here NoEvent w
    go false = along_one NoEvent (Birth size kind at) w (refl, refl)

as_silent : (id : StaticId) (d : Option Definition) (w : World) → Silent w (world_after (born_as id d w))
as_silent id None w = born_silent _ _ _ w
as_silent id (Some d) w = born_silent (contents_size d.object.init) (kind_of d.object.constant) _ w

static_silent : (texts : List Text) (id : StaticId) (w : World) → Silent w (world_after (born_static texts id w))
static_silent texts (Named key) w = as_silent (Named key) (object_in texts key) w
static_silent texts (Literal home bytes) w = born_silent _ _ _ w

then_silent : {A B : Type 0} (w : World) (r : Outcome A) (f : A → World → Outcome B) → Silent w (world_after r) → ((a : A) (v : World) → Silent v (world_after (f a v))) → Silent w (world_after (and_then r f))
then_silent w (Done a v) f l q = along_on NoEvent w v (world_after (f a v)) l (q a v)
then_silent w (Over e) f l q = l

unless_silent : (texts : List Text) (id : StaticId) (o : Option ℕ) (w : World) → Silent w (world_after (born_unless texts id o w))
unless_silent texts id (Some o) w = along_here NoEvent w
unless_silent texts id None w = then_silent w (born_static texts id w) (λ o v. went (pass (Name id o) v)) (static_silent texts id w) (λ o v. along_one NoEvent (Name id o) v (refl, refl))

all_silent : (texts : List Text) (ids : List StaticId) (w : World) → Silent w (world_after (born_all texts ids w))
all_silent texts [] w = along_here NoEvent w
all_silent texts (id ∷ ids) w = then_silent w (born_unless texts id (named_in w.names id) w) (λ x v. born_all texts ids v) (unless_silent texts id (named_in w.names id) w) (λ x v. all_silent texts ids v)

filled_silent : (texts : List Text) (id : StaticId) (o : Option ℕ) (w : World) → Silent w (filled texts id o w)
filled_silent texts id None w = along_here NoEvent w
filled_silent texts id (Some o) w = along_one NoEvent (Put o 0 (static_contents texts w id)) w (refl, refl)

fills_silent : (texts : List Text) (ids : List StaticId) (w : World) → Silent w (filled_all texts ids w)
fills_silent texts [] w = along_here NoEvent w
fills_silent texts (id ∷ ids) w =
    let v : World = filled texts id (named_in w.names id) w in
    along_on NoEvent w v (filled_all texts ids v) (filled_silent texts id (named_in w.names id) w) (fills_silent texts ids v)

statics_silent : (texts : List Text) (w : World) → Silent w (world_after (statics_born texts w))
statics_silent texts w =
    let ids : List StaticId = unnamed w.names (births_of texts) in
    then_silent w (born_all texts ids w) (λ x v. went (filled_all texts ids v)) (all_silent texts ids w) (λ x v. fills_silent texts ids v)

-- ---- the entry is entered

-- the events so far are the one that is shown, and nothing was written
abbrev Opens : State → Type 0
Opens s = (events (world_of s).trail ≡ now (first_standing s)) × (output (world_of s).trail ≡ [])

framed_quiet : (key : Key) (t : Text) (f : Fun) (w : World) → IsQuiet w → IsQuiet (with_frame key t f w)
framed_quiet key t f w q =
    let v : World = pass (Stack (w.used + f.cost)) w in
    one_quiet (Push (frame_of key t w)) v (refl, refl) (one_quiet (Stack (w.used + f.cost)) w (refl, refl) q)

opened : (key : Key) (t : Text) (f : Fun) (w : World) → IsQuiet w → Opens (begins key t f [] [] (with_frame key t f w))
opened key t f w q =
    let born : Born = record { block = 0; ids = [] } in
    let v : World = pass (OpenBlock born) (with_frame key t f w) in
    let r : IsQuiet v = one_quiet (OpenBlock born) (with_frame key t f w) (refl, refl) (framed_quiet key t f w q) in
    let enter : Item = Happens (Enter key t.core.name) in
    (events-append v.trail (enter ∷ []) ∙ ap (λ es. es ++ events (enter ∷ [])) r.0, output-append v.trail (enter ∷ []) ∙ ap (λ bs. bs ++ output (enter ∷ [])) r.1)

-- it takes no arguments
parameters_open : (key : Key) (autos : List Auto) (t : Text) (f : Fun) (w : World) → IsQuiet w → Opens (then_goes (parameters autos [] [] (with_frame key t f w)) (begins key t f []))
parameters_open key [] t f w q = opened key t f w q
parameters_open key (a ∷ rest) t f w q = opened key t f w q

enters_open : (key : Key) (b : Bool) (t : Text) (f : Fun) (w : World) → IsQuiet w → Opens (enters b key t f [] [] w)
enters_open key true t f w q = q
enters_open key false t f w q = parameters_open key (slice_index_or f.blocks 0 []) t f w q

callee_opens : (key : Key) (texts : List Text) (c : Callee) (w : World) → ((f : LibFun) → c ≡ InLibrary f → ⊥) → IsQuiet w → Opens (callee_next (alone texts) key [] c [] w)
callee_opens key texts Missing w other q = q
callee_opens key texts (InLibrary f) w other q = absurd (other f refl)
callee_opens key texts (InText t f) w other q = enters_open key (nat_lt w.stack (w.used + f.cost)) t f w q

-- the library has no `main`
later_other : (t : Text) (o : Option Fun) (c : Callee) (f : LibFun) → (c ≡ InLibrary f → ⊥) → or_later t o c ≡ InLibrary f → ⊥
later_other t None c f other e = other e
later_other t (Some g) c f other e = absurd (cc)

missing_other : (f : LibFun) → Missing ≡ InLibrary f → ⊥
missing_other f e = absurd (cc)

pub no_library : (texts : List Text) (f : LibFun) → callee_of texts main_key ≡ InLibrary f → ⊥
no_library [] f e = missing_other f e
no_library (t ∷ ts) f e = later_other t (fun_by main_key.«module» main_key.name t.core) (callee_of ts main_key) f (no_library ts f) e

-- nor has it a function of a module
pub no_internal : (texts : List Text) (home name : List ℕ) (f : LibFun) → callee_of texts (record { «module» = Some home; name = name }) ≡ InLibrary f → ⊥
no_internal [] home name f e = missing_other f e
no_internal (t ∷ ts) home name f e =
    later_other t (fun_by (Some home) name t.core) (callee_of ts (record { «module» = Some home; name = name })) f (no_internal ts home name f) e

from_opens : (texts : List Text) (key : Key) (r : Outcome (Unit {0})) → ((f : LibFun) → callee_of texts key ≡ InLibrary f → ⊥) → IsQuiet (world_after r) → Opens (then_goes r (λ _ born. entry_next texts key [] born))
from_opens texts key (Done _ born) other q = callee_opens key texts (callee_of texts key) (pass GoesOut born) other (one_quiet GoesOut born (refl, refl) q)
from_opens texts key (Over e) other q = q

start_opens : (texts : List Text) (key : Key) (stack heap : ℕ) (input : List ℕ) → ((f : LibFun) → callee_of texts key ≡ InLibrary f → ⊥) → Opens (started texts key stack heap input).state
start_opens texts key stack heap input other =
    let w : World = first_world (start_of texts key stack heap input) in
    from_opens texts key (statics_born texts w) other (silent_quiet w (world_after (statics_born texts w)) (statics_silent texts w) (refl, refl))

-- no event was looked at, and no byte was written
pub starts_fresh : (texts : List Text) (key : Key) (stack heap : ℕ) (input : List ℕ) → ((f : LibFun) → callee_of texts key ≡ InLibrary f → ⊥) → IsAt (started texts key stack heap input) [] × (output (world_of (started texts key stack heap input).state).trail ≡ [])
starts_fresh texts key stack heap input other =
    let first = (run_starts texts key stack heap input).1 in
    let opens = start_opens texts key stack heap input other in
    (record { framed = first.framed; passed = opens.0; last = first.last; counted = first.counted }, opens.1)
