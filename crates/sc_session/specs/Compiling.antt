-- Yardstick: to be compared with what it restates (docs/TRUST.md).
-- What `compile` writes and answers.
use Rattle.std.specs.Prelude.{◌≡◌, ◌≢◌, ℕ, true, List, [], ◌++◌, Option, Some, None, ⊤, codes}
use Rattle.sc_object.specs.declared.object.Object.{Object}
use Rattle.sc_object.specs.Spelling.{spelled}
use Rattle.sc_outside.specs.Causes.{Rose}
use Rattle.sc_outside.specs.Stored.{FileMap, StoresTold}
use Rattle.sc_outside.specs.declared.files.FilePut.{FilePut}
use Rattle.sc_outside.specs.declared.files.FilePut.TheVariants as put
use Rattle.sc_words.specs.Parts.{is_module_name}
use Rattle.sc_words.specs.declared.answer.Answer.{Answer}
use Rattle.sc_words.specs.declared.answer.Answer.TheVariants as answer
use Rattle.sc_words.specs.declared.denied.Denied.TheVariants as denied
use Rattle.sc_session.specs.declared.choice.Choice.{Choice}
use Rattle.sc_session.specs.declared.choice.Choice.TheVariants as choice
use Rattle.sc_session.specs.Modules.{object_named}
use Rattle.sc_session.specs.Plain.{Plain}

-- the file of that object of a module
abbrev pub object_file : List ℕ → Choice → List ℕ
object_file name choice.Plain = name ++ codes ".o"
object_file name choice.Fast = name ++ codes ".fast.o"

-- what is answered where it was written
abbrev pub compiled_said : List ℕ → Choice → Answer
compiled_said name choice.Plain = answer.Compiled name
compiled_said name choice.Fast = answer.CompiledFast name

-- a file got these bytes, and all others are as they were
abbrev pub Wrote : Option FileMap → Option FileMap → List ℕ → List ℕ → Type 0
Wrote old new name bytes = StoresTold old new name bytes put.Done

-- a file holds anything, and all others are as they were
abbrev pub Spoilt : Option FileMap → Option FileMap → List ℕ → Type 0
Spoilt old new name = StoresTold old new name [] put.Failed

-- the write failed, which is said, or no memory is left to say so
abbrev pub IsFailed : List ℕ → Answer → Type 0
IsFailed file (answer.Refused d) = d ≡ denied.FileFault file
IsFailed file answer.NoMemory = Unit {0}
IsFailed file _ = ⊥

-- What is answered where an object is to be written to the file of this module: it is the object's file then; or the write failed, or no
-- memory was left, and that one file may hold anything.
abbrev pub Writes : Option FileMap → ℕ → List ℕ → Choice → Object → Answer → Option FileMap → ℕ → Type 0
Writes held before name c object (answer.Compiled m) after now = (c ≡ choice.Plain) × (m ≡ name) × Wrote held after (object_file name c) (spelled object)
Writes held before name c object (answer.CompiledFast m) after now = (c ≡ choice.Fast) × (m ≡ name) × Wrote held after (object_file name c) (spelled object)
Writes held before name c object (answer.Refused d) after now = (d ≡ denied.FileFault (object_file name c)) × Rose before now × Spoilt held after (object_file name c)
Writes held before name c object answer.NoMemory after now = Spoilt held after (object_file name c)
Writes held before name c object _ after now = ⊥

-- what is told of a write of the file that went so
abbrev pub Tells : List ℕ → Choice → List ℕ → FilePut → Answer → Type 0
Tells name c file put.Done said = said ≡ compiled_said name c
Tells name c file put.Failed said = IsFailed file said
Tells name c file put.NoMemory said = said ≡ answer.NoMemory

-- so it is with that object that the session keeps of the module
abbrev pub Compiles : Plain → Option FileMap → ℕ → List ℕ → Choice → Answer → Option FileMap → ℕ → Type 0
Compiles session held before name c said after now =
    (object : Object) × (object_named session.modules name c ≡ Some object) × Writes held before name c object said after now

-- no file changed but those of objects
abbrev pub KeepsSources : Option FileMap → Option FileMap → Type 0
KeepsSources None new = ⊤
KeepsSources (Some old) None = ⊥
KeepsSources (Some old) (Some new) = (file : List ℕ) → ((name : List ℕ) (c : Choice) → is_module_name name ≡ true → file ≢ object_file name c) → new file ≡ old file
