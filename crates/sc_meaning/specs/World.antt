-- Yardstick: to be compared with what it restates (docs/TRUST.md).
-- The world of a run, and the single things that change it.
use Rattle.std.specs.Prelude.{ℕ, zero, suc, ◌+◌, ◌-◌, ◌&&◌, Bool, true, false, if◌then◌else◌, List, [], ◌∷◌, ◌++◌, length, take, drop, replicate, slice_get, slice_set, slice_index, Option, Some, None}
use Rattle.std.specs.Str.{bytes_eq}
use Rattle.sc_base.specs.declared.memory.Kind.{Kind}
use Rattle.sc_base.specs.declared.memory.Form.{Form}
use Rattle.sc_base.specs.declared.key.Key.{Key}
use Rattle.sc_program.specs.declared.storage.StaticId.{StaticId}
use Rattle.sc_program.specs.declared.storage.StaticId.TheVariants.{Named, Literal}
use Rattle.sc_meaning.specs.declared.spot.Spot.{Spot}
use Rattle.sc_meaning.specs.declared.spot.Spot.TheVariants as spot
use Rattle.sc_meaning.specs.Values.{Cell, Unwritten, same_key}
use Rattle.sc_meaning.specs.Beside.{Beside, with_memory, born_in, died_in, put_in}

-- an object: its size in bytes, its kind, whether it lives, and its bytes
pub record Object : Type 0 where
  pub size : ℕ
  pub kind : Kind
  pub live : Bool
  pub cells : List Cell

-- an entered block, and its objects by their numbers
pub record Born : Type 0 where
  pub block : ℕ
  pub ids : List ℕ

-- An active call: its function; the number of the text that it runs, the text's module, and the form; how many calls
-- were entered up to it, itself counted; the line of its last At event, or 0; and its entered blocks, outermost first. Of a call of compiled
-- code also the bytes of the stack that it took, and the address at which its text begins; of another 0 each. No definition of the meaning
-- reads these two.
pub record Frame : Type 0 where
  pub key : Key
  pub text : ℕ
  pub home : List ℕ
  pub form : Form
  pub enter : ℕ
  pub line : ℕ
  pub blocks : List Born
  pub cost : ℕ
  pub start : ℕ

-- what a run shows: a function of a module is entered; one is left; a line of a module is reached, in the call with
-- this count; a byte is written
pub data Event : Type 0 where
  Enter : Key → List ℕ → Event
  Leave : Event
  At : List ℕ → ℕ → ℕ → Event
  Out : ℕ → Event

-- One thing that happens, and the only ways in which a world changes.
pub data Item : Type 0 where
  -- units of work; a statement begins, and ends, each of which is a unit of work
  Work : ℕ → Item
  Begin : Item
  End : Item
  -- a call goes out of a text, and comes back to it, each of which is a unit of work
  GoesOut : Item
  ComesBack : Item
  -- the line that is reached next is that of this object's declarator, the initialiser of which comes behind it
  Declares : ℕ → Item
  Happens : Event → Item
  -- an object of this size and kind is born in its place, its bytes unwritten; the object with this number dies
  Birth : ℕ → Kind → Spot → Item
  Death : ℕ → Item
  -- bytes are written into an object from an offset on
  Put : ℕ → ℕ → List Cell → Item
  -- so many bytes go to an object and offset from an object and offset, as if by way of another place
  Copy : ℕ → ℕ → ℕ → ℕ → ℕ → Item
  -- a free heap block of this class is taken; one of this class and size is made and taken; one is given back
  TakeFree : ℕ → Item
  TakeNew : ℕ → Item
  Give : ℕ → Item
  -- so many bytes of the stack are used from here on
  Stack : ℕ → Item
  -- a byte of the input is read; the next random number comes from this one
  Read : Item
  Seed : ℕ → Item
  -- a call becomes active, or is no longer; in the innermost one a block is entered, or the last one left
  Push : Frame → Item
  Pop : Item
  OpenBlock : Born → Item
  CloseBlock : Item
  -- an object has this name from here on, or none has
  Name : StaticId → ℕ → Item
  Unname : StaticId → Item

-- The bytes that stack and heap may have; the objects, of which the first has number 1; the stack used; by class, how
-- many heap blocks are free; the heap's bytes that were made blocks; the input that is left; the last random number;
-- the active calls, innermost first; the objects with names; how many calls were entered, how many events passed, and
-- how many statements have begun and not ended; all that happened so far; and what the machine was told beside.
pub record World : Type 0 where
  pub stack : ℕ
  pub heap : ℕ
  pub objects : List Object
  pub used : ℕ
  pub free : List ℕ
  pub made : ℕ
  pub input : List ℕ
  pub seed : ℕ
  pub frames : List Frame
  pub names : List (StaticId × ℕ)
  pub enters : ℕ
  pub count : ℕ
  pub begun : ℕ
  pub trail : List Item
  pub beside : Beside

-- the object with a number
abbrev pub object_at : List Object → ℕ → Option Object
object_at objects zero = None
object_at objects (suc k) = slice_get objects k

-- the objects, of which the one with this number is another
abbrev pub with_object : List Object → ℕ → Object → List Object
with_object objects zero o = objects
with_object objects (suc k) o = slice_set objects k o

abbrev pub fresh : ℕ → Kind → Object
fresh size kind = record { size = size; kind = kind; live = true; cells = replicate size Unwritten }

abbrev pub ended : List Object → ℕ → Option Object → List Object
ended objects id None = objects
ended objects id (Some o) = with_object objects id (record o { live = false })

-- some bytes with others from an offset on
abbrev pub overwritten : List Cell → ℕ → List Cell → List Cell
overwritten cells at new = take at cells ++ new ++ drop (at + length new) cells

abbrev pub written : List Object → ℕ → ℕ → List Cell → Option Object → List Object
written objects id at new None = objects
written objects id at new (Some o) = with_object objects id (record o { cells = overwritten o.cells at new })

-- n bytes of an object from an offset on
abbrev pub cells_in : Option Object → ℕ → ℕ → List Cell
cells_in None at n = []
cells_in (Some o) at n = take n (drop at o.cells)

abbrev pub cells_at : List Object → ℕ → ℕ → ℕ → List Cell
cells_at objects id at n = cells_in (object_at objects id) at n

-- how many blocks of a class are free
abbrev pub free_of : List ℕ → ℕ → ℕ
free_of free k = slice_index free k

abbrev pub same_id : StaticId → StaticId → Bool
same_id (Named k) (Named l) = same_key k l
same_id (Literal m a) (Literal n b) = bytes_eq m n && bytes_eq a b
same_id _ _ = false

-- the object with a name
abbrev pub named_in : List (StaticId × ℕ) → StaticId → Option ℕ
named_in [] id = None
named_in (n ∷ ns) id = if same_id n.0 id then Some n.1 else named_in ns id

-- the names without one
abbrev pub without_name : List (StaticId × ℕ) → StaticId → List (StaticId × ℕ)
without_name [] id = []
without_name (n ∷ ns) id = if same_id n.0 id then without_name ns id else n ∷ without_name ns id

abbrev pub on_innermost : (Frame → Frame) → List Frame → List Frame
on_innermost f [] = []
on_innermost f (frame ∷ frames) = f frame ∷ frames

-- the frames without the innermost one; the blocks without the last one
abbrev pub outer : List Frame → List Frame
outer frames = drop 1 frames

abbrev pub without_last : List Born → List Born
without_last blocks = take (length blocks - 1) blocks

-- an event is counted; an At is its frame's last
abbrev pub counted : Event → World → World
counted (Enter key home) w = record w { count = w.count + 1; enters = w.enters + 1 }
counted Leave w = record w { count = w.count + 1 }
counted (At home line enter) w = record w { count = w.count + 1; frames = on_innermost (λ f. record f { line = line }) w.frames }
counted (Out byte) w = record w { count = w.count + 1 }

-- what an item does to the world
abbrev pub effect : Item → World → World
effect (Work n) w = w
effect Begin w = record w { begun = w.begun + 1 }
effect End w = record w { begun = w.begun - 1 }
effect GoesOut w = w
effect ComesBack w = w
effect (Declares id) w = w
effect (Happens e) w = counted e w
effect (Birth size kind at) w = record w { objects = w.objects ++ fresh size kind ∷ [] }
effect (Death id) w = record w { objects = ended w.objects id (object_at w.objects id) }
effect (Put id at new) w = record w { objects = written w.objects id at new (object_at w.objects id) }
effect (Copy to at from off n) w = record w { objects = written w.objects to at (cells_at w.objects from off n) (object_at w.objects to) }
effect (TakeFree k) w = record w { free = slice_set w.free k (free_of w.free k - 1) }
effect (TakeNew size) w = record w { made = w.made + size }
effect (Give k) w = record w { free = slice_set w.free k (free_of w.free k + 1) }
effect (Stack n) w = record w { used = n }
effect Read w = record w { input = drop 1 w.input }
effect (Seed n) w = record w { seed = n }
effect (Push f) w = record w { frames = f ∷ w.frames }
effect Pop w = record w { frames = outer w.frames }
effect (OpenBlock b) w = record w { frames = on_innermost (λ f. record f { blocks = f.blocks ++ b ∷ [] }) w.frames }
effect CloseBlock w = record w { frames = on_innermost (λ f. record f { blocks = without_last f.blocks }) w.frames }
effect (Name id o) w = record w { names = (id, o) ∷ w.names }
effect (Unname id) w = record w { names = without_name w.names id }

-- the address of a place outside the heap, where so many bytes of the stack are used
abbrev pub address : List (StaticId × ℕ) → ℕ → Spot → Option ℕ
address places used (spot.Slot offset) = Some (0x20000000 - used + offset)
address places used (spot.Named id) = named_in places id
address places used spot.Block = None

-- what it does to the memory in which a machine keeps the objects
abbrev pub beside_after : Item → World → Beside
beside_after (Birth size kind at) w = with_memory (born_in size kind (address w.beside.places w.used at)) w.beside
beside_after (Death id) w = with_memory (died_in id) w.beside
beside_after (Put id at new) w = with_memory (put_in w.beside.functions id at new) w.beside
beside_after (Copy to at from off n) w = with_memory (put_in w.beside.functions to at (cells_at w.objects from off n)) w.beside
beside_after _ w = w.beside

-- the world after an item, which its trail keeps
abbrev pub pass : Item → World → World
pass i w = let v : World = effect i w in record v { trail = w.trail ++ i ∷ []; beside = beside_after i w }

-- a world that was passed: the one after some items
abbrev pub passed : List Item → World → World
passed [] w = w
passed (i ∷ is) w = passed is (pass i w)

abbrev pub tick : World → World
tick w = pass (Work 1) w

-- the work of an item
abbrev pub event_work : Event → ℕ
event_work (Enter key home) = 1
event_work Leave = 1
event_work (At home line enter) = 0
event_work (Out byte) = 0

abbrev pub work_of : Item → ℕ
work_of (Work n) = n
work_of Begin = 1
work_of End = 1
work_of GoesOut = 1
work_of ComesBack = 1
work_of (Happens e) = event_work e
work_of (Birth size kind at) = size
work_of _ = 0

-- the work of a trail, its events, and its changes of objects
abbrev pub work : List Item → ℕ
work [] = 0
work (i ∷ is) = work_of i + work is

abbrev pub events_of : Item → List Event
events_of (Happens e) = e ∷ []
events_of _ = []

abbrev pub events : List Item → List Event
events [] = []
events (i ∷ is) = events_of i ++ events is

abbrev pub changes_of : Item → List Item
changes_of (Birth size kind at) = Birth size kind at ∷ []
changes_of (Death id) = Death id ∷ []
changes_of (Put id at new) = Put id at new ∷ []
changes_of (Copy to at from off n) = Copy to at from off n ∷ []
changes_of _ = []

abbrev pub changes : List Item → List Item
changes [] = []
changes (i ∷ is) = changes_of i ++ changes is
