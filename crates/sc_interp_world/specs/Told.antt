-- Yardstick: to be compared with what it restates (docs/TRUST.md).
-- How what happens in a run is told: by a note for each call that becomes active, for each that is left, and for each line that is reached.
use Rattle.std.specs.Prelude.{◌≡◌, ◌≤◌, ⊤, ℕ, Bool, true, false, List, [], ◌∷◌, ◌++◌, Option, Some, None, drop, length}
use Rattle.std.specs.List.{filter}
use Rattle.sc_base.specs.declared.key.Key.{Key}
use Rattle.sc_base.specs.declared.memory.Form.{Form}
use Rattle.sc_base.specs.declared.note.Note.TheVariants as notes
use Rattle.sc_program.specs.declared.storage.StaticId.{StaticId}
use Rattle.sc_program.specs.declared.storage.StaticId.TheVariants as id
use Rattle.sc_meaning.specs.World.{Item, Event, Push, Pop, Happens, At, named_in}
use Rattle.sc_interp_world.specs.Recording.{AreGrouped, number_in, tells_calls}
use Rattle.sc_interp_world.specs.declared.recorder.Entry.{Entry}
use Rattle.sc_interp_world.specs.declared.recorder.Entry.TheVariants as entries
use Rattle.sc_interp_world.specs.declared.recorder.Recorder.{Recorder}

-- ---- what happens

-- a call becomes active, the innermost one is left, a line of it is reached; or nothing of that kind
pub data Step : Type 0 where
  Enters : Key → Form → Step
  Leaves : Step
  Reaches : ℕ → Step
  Other : Step

abbrev pub step_in : Event → Step
step_in (At home line enter) = Reaches line
step_in e = Other

abbrev pub step_of : Item → Step
step_of (Push f) = Enters f.key f.form
step_of Pop = Leaves
step_of (Happens e) = step_in e
step_of i = Other

-- the functions of the active calls by their numbers, the innermost first
abbrev pub outer : List ℕ → List ℕ
outer [] = []
outer (fun ∷ funs) = funs

abbrev pub active_with : (Key → ℕ) → List ℕ → Step → List ℕ
active_with number active (Enters key form) = number key ∷ active
active_with number active Leaves = outer active
active_with number active (Reaches line) = active
active_with number active Other = active

-- ---- how it is told

abbrev pub told_left : List ℕ → List Entry
told_left [] = []
told_left (fun ∷ funs) = entries.One (notes.Leave fun) ∷ []

abbrev pub told_line : List ℕ → ℕ → List Entry
told_line [] line = []
told_line (fun ∷ funs) line = entries.One (notes.At fun line) ∷ []

abbrev pub told_by : (Key → ℕ) → List ℕ → Step → List Entry
told_by number active (Enters key form) = entries.One (notes.Enter (number key) form) ∷ []
told_by number active Leaves = told_left active
told_by number active (Reaches line) = told_line active line
told_by number active Other = []

-- all of it, where these calls are active
abbrev pub told : (Key → ℕ) → List ℕ → List Item → List Entry
told number active [] = []
told number active (i ∷ is) = told_by number active (step_of i) ++ told number (active_with number active (step_of i)) is

abbrev pub active_after : (Key → ℕ) → List ℕ → List Item → List ℕ
active_after number active [] = active
active_after number active (i ∷ is) = active_after number (active_with number active (step_of i)) is

-- ---- what is recorded

-- So many of the notes by which these things are told were taken before. The others stand in these entries, in order, among notes of other
-- kinds; and registers are set only in groups behind what passes.
pub record TellsBehind (before : ℕ) (es : List Entry) (items : List Item) : Type 0 where
  pub number : Key → ℕ
  pub rest : filter tells_calls es ≡ drop before (told number [] items)
  pub grouped : AreGrouped false es

-- ---- what a recorder keeps of it

-- a call that became active is one of a function that has a number
abbrev pub IsNumbered : List (StaticId × ℕ) → Step → Type 0
IsNumbered functions (Enters key form) = (fun : ℕ) × named_in functions (id.Named key) ≡ Some fun
IsNumbered functions Leaves = ⊤
IsNumbered functions (Reaches line) = ⊤
IsNumbered functions Other = ⊤

abbrev pub AreNumbered : List (StaticId × ℕ) → List Item → Type 0
AreNumbered functions [] = ⊤
AreNumbered functions (i ∷ is) = IsNumbered functions (step_of i) × AreNumbered functions is

-- who has a number keeps it
abbrev pub Numbers : List (StaticId × ℕ) → List (StaticId × ℕ) → Type 0
Numbers old new = (key : Key) (fun : ℕ) → named_in old (id.Named key) ≡ Some fun → named_in new (id.Named key) ≡ Some fun

-- the record is that of these items, of whose notes so many were taken
pub record IsTold (r : Recorder) (taken : ℕ) (items : List Item) : Type 0 where
  pub listens : r.listens ≡ true
  pub entries : filter tells_calls r.entries ≡ drop taken (told (number_in r.functions) [] items)
  pub active : r.active ≡ active_after (number_in r.functions) [] items
  pub numbered : AreNumbered r.functions items
  pub count : taken ≤ length (told (number_in r.functions) [] items)
  pub grouped : AreGrouped false r.entries

-- the same where nothing was lost
pub record Tells (whole : Bool) (r : Recorder) (taken : ℕ) (items : List Item) : Type 0 where
  pub told_so : whole ≡ true → IsTold r taken items

-- a recorder gains entries that tell of no call and no line and may stand anywhere; its machine, and what it spares, may change
pub record IsQuiet (old new : Recorder) : Type 0 where
  pub listens : new.listens ≡ old.listens
  pub active : new.active ≡ old.active
  pub functions : new.functions ≡ old.functions
  pub more : List Entry
  pub added : new.entries ≡ old.entries ++ more
  pub other : filter tells_calls more ≡ []
  pub grouped : (here : Bool) → AreGrouped here more
