-- Yardstick: to be compared with what it restates (docs/TRUST.md).
-- Births, the change from one version to the next, and events (ANSI 3.1.2.4, 3.5.7).
use Rattle.std.specs.Prelude.{ℕ, ◌+◌, ◌==◌, Bool, true, false, nat_le, nat_lt, if◌then◌else◌, List, [], ◌∷◌, ◌++◌, length, map, replicate, Option, Some, None}
use Rattle.sc_base.specs.declared.key.Key.{Key}
use Rattle.sc_base.specs.declared.memory.Kind.{Kind}
use Rattle.sc_base.specs.declared.memory.Kind.TheVariants as kind
use Rattle.sc_program.specs.declared.storage.StaticId.{StaticId}
use Rattle.sc_program.specs.declared.storage.StaticId.TheVariants.{Named, Literal}
use Rattle.sc_core.specs.declared.module.Init.{Init}
use Rattle.sc_core.specs.declared.module.Init.TheVariants as init
use Rattle.sc_meaning.specs.Values.{Value, FunctionAt, Pointer, Cell, Unwritten, Byte, pieces_of}
use Rattle.sc_meaning.specs.World.{World, Object, Event, At, pass, Birth, Death, Put, Name, Unname, Happens, Frame, named_in, object_at}
use Rattle.sc_meaning.specs.declared.spot.Spot.{Spot}
use Rattle.sc_meaning.specs.declared.spot.Spot.TheVariants as spot
use Rattle.sc_meaning.specs.Outcomes.{Outcome, Done, Over, BirthLimit, and_then, Step, went}
use Rattle.sc_meaning.specs.Versions.{Text, Version, History, Definition, Callee, Missing, InText, InLibrary, callee_of, object_in, is_kept, births_of}

-- an object is born, and gets the next number; a run has at most so many
abbrev pub born : ℕ → Kind → Spot → World → Outcome ℕ
born size kind at w =
    if nat_le 4000000000 (length w.objects) then Over (BirthLimit w)
    else Done (length w.objects + 1) (pass (Birth size kind at) w)

abbrev pub piece_size : Init → ℕ
piece_size (init.Byte b) = 1
piece_size (init.Zeros n) = n
piece_size (init.Address id at) = 4

abbrev pub contents_size : List Init → ℕ
contents_size [] = 0
contents_size (i ∷ is) = piece_size i + contents_size is

abbrev pub kind_of : Bool → Kind
kind_of constant = if constant then kind.Const else kind.Static

abbrev pub born_as : StaticId → Option Definition → World → Outcome ℕ
born_as id None w = born 0 kind.Static (spot.Named id) w
born_as id (Some d) w = born (contents_size d.object.init) (kind_of d.object.constant) (spot.Named id) w

-- an object of static storage duration, or a literal, is born
abbrev pub born_static : List Text → StaticId → World → Outcome ℕ
born_static texts (Named key) w = born_as (Named key) (object_in texts key) w
born_static texts (Literal home bytes) w = born (length bytes) kind.Literal (spot.Named (Literal home bytes)) w

-- those that have no object yet are born in their order
abbrev pub born_unless : List Text → StaticId → Option ℕ → Step
born_unless texts id (Some o) w = went w
born_unless texts id None w = and_then (born_static texts id w) (λ o w. went (pass (Name id o) w))

abbrev pub born_all : List Text → List StaticId → Step
born_all texts [] w = went w
born_all texts (id ∷ ids) w = and_then (born_unless texts id (named_in w.names id) w) (λ _ w. born_all texts ids w)

abbrev pub is_there : Option ℕ → Bool
is_there None = false
is_there (Some o) = true

-- the ones that have no object
abbrev pub unnamed : List (StaticId × ℕ) → List StaticId → List StaticId
unnamed names [] = []
unnamed names (id ∷ ids) = if is_there (named_in names id) then unnamed names ids else id ∷ unnamed names ids

-- an address in an object, its end included; before the object and past the end there is none
abbrev pub address_in : Option Object → ℕ → ℕ → Option Value
address_in None o at = None
address_in (Some object) o at = if nat_le at object.size then Some (Pointer o at) else None

abbrev pub fun_address : Callee → Key → Option Value
fun_address Missing key = None
fun_address (InText t f) key = Some (FunctionAt key)
fun_address (InLibrary f) key = Some (FunctionAt key)

abbrev pub without_object : List Text → StaticId → Option Value
without_object texts (Named key) = fun_address (callee_of texts key) key
without_object texts (Literal home bytes) = None

abbrev pub address_of : List Text → StaticId → Option ℕ → ℕ → World → Option Value
address_of texts id (Some o) at w = address_in (object_at w.objects o) o at
address_of texts id None at w = without_object texts id

-- the four bytes of an address, unwritten where the name has no definition
abbrev pub address_cells : Option Value → List Cell
address_cells (Some v) = pieces_of v
address_cells None = replicate 4 Unwritten

abbrev pub piece_cells : List Text → World → Init → List Cell
piece_cells texts w (init.Byte b) = Byte b ∷ []
piece_cells texts w (init.Zeros n) = replicate n (Byte 0)
piece_cells texts w (init.Address id at) = address_cells (address_of texts id (named_in w.names id) at w)

abbrev pub contents : List Text → World → List Init → List Cell
contents texts w [] = []
contents texts w (i ∷ is) = piece_cells texts w i ++ contents texts w is

abbrev pub defined_contents : List Text → World → Option Definition → List Cell
defined_contents texts w None = []
defined_contents texts w (Some d) = contents texts w d.object.init

abbrev pub static_contents : List Text → World → StaticId → List Cell
static_contents texts w (Named key) = defined_contents texts w (object_in texts key)
static_contents texts w (Literal home bytes) = map Byte bytes

abbrev pub filled : List Text → StaticId → Option ℕ → World → World
filled texts id None w = w
filled texts id (Some o) w = pass (Put o 0 (static_contents texts w id)) w

-- initial values, as all objects are there
abbrev pub filled_all : List Text → List StaticId → World → World
filled_all texts [] w = w
filled_all texts (id ∷ ids) w = filled_all texts ids (filled texts id (named_in w.names id) w)

abbrev pub born_and_filled : List Text → List StaticId → Step
born_and_filled texts ids w = and_then (born_all texts ids w) (λ _ w. went (filled_all texts ids w))

-- the objects and literals of some texts that are not there yet
abbrev pub statics_born : List Text → Step
statics_born texts w = born_and_filled texts (unnamed w.names (births_of texts)) w

abbrev pub dead : StaticId → Option ℕ → World → World
dead id None w = w
dead id (Some o) w = pass (Unname id) (pass (Death o) w)

-- a literal lives to the run's end, every other object where it is not kept dies
abbrev pub dead_unless_kept : List Text → List Text → StaticId → World → World
dead_unless_kept old new (Named key) w = if is_kept old new key then w else dead (Named key) (named_in w.names (Named key)) w
dead_unless_kept old new (Literal home bytes) w = w

abbrev pub deaths : List Text → List Text → List StaticId → World → World
deaths old new [] w = w
deaths old new (id ∷ ids) w = deaths old new ids (dead_unless_kept old new id w)

-- one version follows another: what is not kept dies in its old order, then the new objects are born in theirs
abbrev pub changed : List Text → List Text → Step
changed old new w = statics_born new (deaths old new (births_of old) w)

abbrev pub changed_if : Bool → List Text → List Text → Step
changed_if true old new w = changed old new w
changed_if false old new w = went w

-- the changes to the versions that come as n events have passed
abbrev pub settled_from : ℕ → List Text → List Version → Step
settled_from n old [] w = went w
settled_from n old (v ∷ vs) w =
    if nat_lt n v.count then went w
    else and_then (changed_if (v.count == n) old v.texts w) (λ _ w. settled_from n v.texts vs w)

-- the changes that stand at the present count of events; from no text to the first version that is all births
abbrev pub settled : History → Step
settled h w = settled_from w.count [] h w

-- an event passes, and the changes that stand behind it are made
abbrev pub happened : History → Event → Step
happened h e w = settled h (pass (Happens e) w)

abbrev pub at_line : List Frame → ℕ → Event
at_line [] line = At [] line 0
at_line (f ∷ fs) line = At f.home line f.enter

-- a line is reached in the innermost call
abbrev pub reached : History → ℕ → Step
reached h line w = happened h (at_line w.frames line) w
