-- Yardstick: to be compared with what it restates (docs/TRUST.md).
-- Which modules are too large for their objects, and what is said of them.
use Rattle.std.specs.Prelude.{◌≡◌, ◌<◌, ℕ, List, length, Option, Some, None, Result, Ok, Err, codes}
use Rattle.sc_base.specs.declared.refusal.Refusal.{Refusal}
use Rattle.sc_base.specs.declared.refusal.X.TheVariants as x
use Rattle.sc_core.specs.declared.module.Core.{Core}
use Rattle.sc_core.specs.declared.module.Fun.{Fun}
use Rattle.sc_core.specs.Modules.{function_of}
use Rattle.sc_gen_code.specs.Code.{Code}
use Rattle.sc_gen.specs.Limits.{IsObject, first_long, plain_code}
use Rattle.sc_gen.specs.Objects.{object_of}
use Rattle.sc_object.specs.declared.object.Object.{Object}
use Rattle.sc_object.specs.Spelling.{spelled}
use Rattle.sc_opt.specs.Fast.{fast_code}
use Rattle.sc_build.specs.declared.building.Built.{Built}
use Rattle.sc_build.specs.declared.building.Names.{Names}
use Rattle.sc_build.specs.declared.compiling.Objects.{Objects}
use Rattle.sc_build.specs.declared.building.BuildFault.{BuildFault}
use Rattle.sc_build.specs.declared.building.BuildFault.TheVariants as fault

-- a limit is passed on this line
abbrev pub limit : List ℕ → List ℕ → ℕ → Refusal
limit file word line = record { kind = x.X10 word; file = file; line = line }

-- By the code that a compiler gives to each function: the first one whose text has more than 524,288 bytes is refused at the line of its
-- name; where there is none, a file of more than 8,388,608 bytes at line 1.
pub data ExceedsBy (code : Fun → Code) (file : List ℕ) (core : Core) : Refusal → Type 0 where
  text : (f : Fun) → first_long code core.funs ≡ Some f.name → function_of f.name core.funs ≡ Some f → ExceedsBy code file core (limit file (codes "text") f.line)
  object : first_long code core.funs ≡ None → 8388608 < length (spelled (object_of code core)) → ExceedsBy code file core (limit file (codes "object") 1)

-- by the plain compiler; or by the other, where the plain one refuses nothing
pub data Exceeds (file : List ℕ) (core : Core) (r : Refusal) : Type 0 where
  in_plain : ExceedsBy plain_code file core r → Exceeds file core r
  in_fast : (o : Object) → IsObject plain_code core o → ExceedsBy fast_code file core r → Exceeds file core r

-- a module is refused as too large, or no memory was left
abbrev pub IsOver : List ℕ → Core → BuildFault → Type 0
IsOver file core (fault.Refused r) = Exceeds file core r
IsOver file core fault.Missing = ⊥
IsOver file core fault.TooLong = ⊥
IsOver file core (fault.File name) = ⊥
IsOver file core fault.NoMemory = Unit {0}

-- this limit is passed, or no memory was left
abbrev pub IsLimit : List ℕ → List ℕ → ℕ → BuildFault → Type 0
IsLimit file word line (fault.Refused r) = r ≡ limit file word line
IsLimit file word line fault.Missing = ⊥
IsLimit file word line fault.TooLong = ⊥
IsLimit file word line (fault.File name) = ⊥
IsLimit file word line fault.NoMemory = Unit {0}

-- the same by one compiler
abbrev pub IsOverIn : (Fun → Code) → List ℕ → Core → BuildFault → Type 0
IsOverIn code file core (fault.Refused r) = ExceedsBy code file core r
IsOverIn code file core fault.Missing = ⊥
IsOverIn code file core fault.TooLong = ⊥
IsOverIn code file core (fault.File name) = ⊥
IsOverIn code file core fault.NoMemory = Unit {0}

abbrev pub MakesBy : (Fun → Code) → List ℕ → Core → Result Object BuildFault → Type 0
MakesBy code file core (Ok o) = IsObject code core o
MakesBy code file core (Err f) = IsOverIn code file core f

abbrev pub MakesPlain : List ℕ → Core → Result Object BuildFault → Type 0
MakesPlain file core result = MakesBy plain_code file core result

abbrev pub MakesFast : List ℕ → Core → Result Object BuildFault → Type 0
MakesFast file core result = MakesBy fast_code file core result

-- both objects of a module, or why it lacks one
abbrev pub Makes : List ℕ → Core → Result Objects BuildFault → Type 0
Makes file core (Ok made) = IsObject plain_code core made.plain × IsObject fast_code core made.fast
Makes file core (Err f) = IsOver file core f

-- a module with what is kept beside it and its objects, or why it lacks one
abbrev pub Compiles : List ℕ → Core → Names → Result Built BuildFault → Type 0
Compiles file core names (Ok built) = (built.core ≡ core) × (built.scopes ≡ names.scopes) × (built.places ≡ names.places) × (built.kept ≡ names.kept) × IsObject plain_code core built.object × IsObject fast_code core built.fast
Compiles file core names (Err f) = IsOver file core f
