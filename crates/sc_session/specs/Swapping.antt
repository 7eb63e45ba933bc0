-- Yardstick: to be compared with what it restates (docs/TRUST.md).
-- What the file of a module's object is, beside the object that the session keeps of the module.
use Rattle.std.specs.Prelude.{◌≡◌, ◌↔◌, ℕ, Bool, true, List, Option, Some}
use Rattle.sc_object.specs.Reading.{IsFileOf}
use Rattle.sc_object.specs.Spelling.{spelled}
use Rattle.sc_object.specs.declared.object.Object.{Object}
use Rattle.sc_outside.specs.Stored.{FileMap, FindsTold}
use Rattle.sc_outside.specs.declared.files.FileGot.{FileGot}
use Rattle.sc_session_forms.specs.Differences.{difference}
use Rattle.sc_words.specs.declared.denied.Denied.{Denied}
use Rattle.sc_words.specs.declared.denied.Denied.TheVariants as denied
use Rattle.sc_session.specs.declared.choice.Choice.{Choice}
use Rattle.sc_session.specs.declared.swapping.Compared.{Compared}
use Rattle.sc_session.specs.declared.swapping.Compared.TheVariants as compared
use Rattle.sc_session.specs.Compiling.{object_file}
use Rattle.sc_session.specs.Going.{AreBytes, Unread}
use Rattle.sc_session.specs.Modules.{object_named}
use Rattle.sc_session.specs.Plain.{Plain}

-- the file has these bytes
abbrev pub HasBytes : Option FileMap → List ℕ → List ℕ → Type 0
HasBytes held file bytes = (g : FileGot) × FindsTold held file g × AreBytes bytes g

-- whether bytes are an object's file of the first version
abbrev pub IsFirst : List ℕ → Bool → Type 0
IsFirst bytes first = (first ≡ true) ↔ ((o : Object) × IsFileOf 1 o bytes)

-- bytes are not the object's file: they first differ from it at a place, or the shorter ends there
abbrev pub DiffersSo : List ℕ → Object → ℕ → Bool → Type 0
DiffersSo bytes object at first = (difference bytes (spelled object) ≡ Some at) × IsFirst bytes first

-- why the file is not the object's
abbrev pub NotKept : Option FileMap → List ℕ → Object → ℕ → ℕ → Denied → Type 0
NotKept held file object before now (denied.NotOurs at first) = (bytes : List ℕ) × HasBytes held file bytes × DiffersSo bytes object at first
NotKept held file object before now d = Unread held file before now d

-- the same as the code finds it; nothing is said where no memory was left
abbrev pub Compares : Option FileMap → List ℕ → Object → ℕ → ℕ → Compared → Type 0
Compares held file object before now compared.Same = HasBytes held file (spelled object)
Compares held file object before now (compared.Denied d) = NotKept held file object before now d
Compares held file object before now compared.NoMemory = Unit {0}

-- the same with that object that the session keeps of a module
abbrev pub ComparesKept : Plain → Option FileMap → List ℕ → Choice → ℕ → ℕ → Compared → Type 0
ComparesKept session held name c before now found =
    (object : Object) × (object_named session.modules name c ≡ Some object) × Compares held (object_file name c) object before now found

abbrev pub ComparesBytes : List ℕ → Object → Compared → Type 0
ComparesBytes bytes object compared.Same = bytes ≡ spelled object
ComparesBytes bytes object (compared.Denied (denied.NotOurs at first)) = DiffersSo bytes object at first
ComparesBytes bytes object (compared.Denied d) = ⊥
ComparesBytes bytes object compared.NoMemory = Unit {0}

-- what is said of bytes that differ at a place
abbrev pub NotOursSaid : List ℕ → ℕ → Compared → Type 0
NotOursSaid bytes at compared.Same = ⊥
NotOursSaid bytes at (compared.Denied (denied.NotOurs place first)) = (place ≡ at) × IsFirst bytes first
NotOursSaid bytes at (compared.Denied d) = ⊥
NotOursSaid bytes at compared.NoMemory = Unit {0}
