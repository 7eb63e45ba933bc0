-- Yardstick: to be compared with what it restates (docs/TRUST.md).
-- The limits on a function's text and on an object's file, by the code that a compiler gives to each function.
use Rattle.std.specs.Prelude.{◌≡◌, ◌<◌, ◌≤◌, ℕ, nat_lt, if◌then◌else◌, Bool, List, [], ◌∷◌, length, Option, None, Some}
use Rattle.sc_core.specs.declared.module.Core.{Core}
use Rattle.sc_core.specs.declared.module.Fun.{Fun}
use Rattle.sc_object.specs.declared.object.Object.{Object}
use Rattle.sc_object.specs.Spelling.{spelled}
use Rattle.sc_gen_code.specs.Code.{Code}
use Rattle.sc_gen_code.specs.Styles.{plain_style}
use Rattle.sc_gen_body.specs.Functions.{function_code}
use Rattle.sc_gen.specs.declared.module.GenFault.{GenFault}
use Rattle.sc_gen.specs.declared.module.GenFault.TheVariants as fault
use Rattle.sc_gen.specs.declared.module.Compiled.{Compiled}
use Rattle.sc_gen.specs.Objects.{object_of}

-- the code of the plain compiler
abbrev pub plain_code : Fun → Code
plain_code f = function_code plain_style f

-- more than 131,072 words, which are 524,288 bytes
abbrev pub is_long : (Fun → Code) → Fun → Bool
is_long code f = nat_lt 131072 (length (code f))

-- the name of the first function whose text is too long
abbrev pub first_long : (Fun → Code) → List Fun → Option (List ℕ)
first_long code [] = None
first_long code (f ∷ fs) = if is_long code f then Some f.name else first_long code fs

-- what a fault says of one function with its text: this is too long, or memory ran out
abbrev pub IsTextFault : Fun → Code → GenFault → Type 0
IsTextFault f text (fault.Text name) = (name ≡ f.name) × (131072 < length text)
IsTextFault f text fault.Object = ⊥
IsTextFault f text fault.NoMemory = Unit {0}

-- and of functions in their order
abbrev pub IsFirstLong : (Fun → Code) → List Fun → GenFault → Type 0
IsFirstLong code fs (fault.Text name) = first_long code fs ≡ Some name
IsFirstLong code fs fault.Object = ⊥
IsFirstLong code fs fault.NoMemory = Unit {0}

-- an object with its file, which has at most 8,388,608 bytes
pub record IsFiled (o : Object) (c : Compiled) : Type 0 where
  pub object_is : c.object ≡ o
  pub file_is : c.file ≡ spelled o
  pub small : length (spelled o) ≤ 8388608

-- the file of an object is too long, or memory ran out
abbrev pub IsFileFault : Object → GenFault → Type 0
IsFileFault o (fault.Text name) = ⊥
IsFileFault o fault.Object = 8388608 < length (spelled o)
IsFileFault o fault.NoMemory = Unit {0}

-- the object of a module within both limits: no text is too long, and its file has at most 8,388,608 bytes
pub record IsObject (code : Fun → Code) (core : Core) (o : Object) : Type 0 where
  pub object_is : o ≡ object_of code core
  pub short : first_long code core.funs ≡ None
  pub small : length (spelled (object_of code core)) ≤ 8388608

-- the same with the file
pub record IsCompiled (code : Fun → Code) (core : Core) (c : Compiled) : Type 0 where
  pub is_object : IsObject code core c.object
  pub file_is : c.file ≡ spelled (object_of code core)

-- a fault names the first text that is too long; where there is none, it says that the file is too long, or that memory ran out
abbrev pub IsFault : (Fun → Code) → Core → GenFault → Type 0
IsFault code core (fault.Text name) = first_long code core.funs ≡ Some name
IsFault code core fault.Object = (first_long code core.funs ≡ None) × (8388608 < length (spelled (object_of code core)))
IsFault code core fault.NoMemory = Unit {0}
