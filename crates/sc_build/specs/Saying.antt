-- Inside: plumbing, a representation, an invariant or a promise beside the claim (docs/TRUST.md).
-- How a fault of a compiler is said, whichever it was.
use Rattle.std.specs.Prelude.{◌≡◌, ℕ, List, Option, Some, None, Result, Ok, Err, codes}
use Rattle.sc_core.specs.declared.module.Core.{Core}
use Rattle.sc_core.specs.declared.module.Fun.{Fun}
use Rattle.sc_core.specs.Modules.{function_of}
use Rattle.sc_gen.specs.declared.module.GenFault.{GenFault}
use Rattle.sc_gen.specs.declared.module.GenFault.TheVariants as gen
use Rattle.sc_object.specs.declared.object.Object.{Object}
use Rattle.sc_build.specs.Compiled.{IsLimit}
use Rattle.sc_build.specs.declared.building.BuildFault.{BuildFault}
use Rattle.sc_build.specs.declared.building.BuildFault.TheVariants as fault

-- the module has a function of this name
abbrev pub HasLong : Core → List ℕ → Type 0
HasLong core name = function_of name core.funs ≡ None → ⊥

-- a fault names a function of the module, if any
abbrev pub IsOfCore : Core → GenFault → Type 0
IsOfCore core (gen.Text name) = HasLong core name
IsOfCore core gen.Object = Unit {0}
IsOfCore core gen.NoMemory = Unit {0}

-- the function of this name is refused at its line
abbrev pub IsOverLong : List ℕ → Core → List ℕ → BuildFault → Type 0
IsOverLong file core name q = (f : Fun) × (function_of name core.funs ≡ Some f) × IsLimit file (codes "text") f.line q

-- what is said of a fault
abbrev pub IsOverBy : List ℕ → Core → GenFault → BuildFault → Type 0
IsOverBy file core (gen.Text name) q = IsOverLong file core name q
IsOverBy file core gen.Object q = IsLimit file (codes "object") 1 q
IsOverBy file core gen.NoMemory q = q ≡ fault.NoMemory

abbrev pub IsShared : Object → Result Object BuildFault → Type 0
IsShared o (Ok shared) = shared ≡ o
IsShared o (Err f) = f ≡ fault.NoMemory
