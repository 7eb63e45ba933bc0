-- A module that is too large for an object.
use Rattle.std.proofs.Common.{◌≡◌, ◌<◌, ℕ, Bool, true, false, if◌then◌else◌, List, [], ◌∷◌, length, Option, Some, None, Result, Ok, Err, refl, ap, sym, subst, ◌∙◌, codes}
use Rattle.std.specs.Str.{bytes_eq}
use Rattle.std.proofs.lemmas.Slice.Eq.{bytes_eq-Decides}
use Rattle.sc_core.specs.declared.module.Core.{Core}
use Rattle.sc_core.specs.declared.module.Fun.{Fun}
use Rattle.sc_core.specs.Modules.{function_of}
use Rattle.sc_gen.specs.Limits.{IsFault, IsObject, first_long, is_long, plain_code}
use Rattle.sc_gen.specs.declared.module.GenFault.{GenFault}
use Rattle.sc_gen.specs.declared.module.GenFault.TheVariants as gen
use Rattle.sc_gen_code.specs.Code.{Code}
use Rattle.sc_gen.specs.Objects.{object_of}
use Rattle.sc_object.specs.declared.object.Object.{Object}
use Rattle.sc_object.specs.Spelling.{spelled}
use Rattle.sc_opt.specs.Fast.{fast_code}
use Rattle.sc_build.specs.Compiled.{ExceedsBy, IsLimit, IsOver, IsOverIn, MakesBy, in_fast, in_plain, limit, text, object}
use Rattle.sc_build.specs.Saying.{IsOfCore, IsOverBy, IsShared}
use Rattle.sc_build.specs.declared.building.BuildFault.{BuildFault}
use Rattle.sc_build.specs.declared.building.BuildFault.TheVariants as fault

some_same : {A : Type 0} (x y : A) → Some x ≡ Some y → x ≡ y
some_same x y e = cc

not_both : (b : Bool) → b ≡ true → b ≡ false → ⊥
not_both true p q = cc
not_both false p q = cc

step : (code : Fun → Code) (f : Fun) (fs : List Fun) (name : List ℕ) (b l : Bool) → b ≡ bytes_eq f.name name → (if l then Some f.name else first_long code fs) ≡ Some name
    → (if b then Some f else function_of name fs) ≡ None → (first_long code fs ≡ Some name → function_of name fs ≡ None → ⊥) → ⊥
step code f fs name true l same is none rest = cc
step code f fs name false true same is none rest = not_both (bytes_eq f.name name) ((bytes_eq-Decides f.name name).1 (some_same f.name name is)) (sym same)
step code f fs name false false same is none rest = rest is none

-- the function that is named is there
pub long_is_there : (code : Fun → Code) (fs : List Fun) (name : List ℕ) → first_long code fs ≡ Some name → function_of name fs ≡ None → ⊥
long_is_there code [] name is none = cc
long_is_there code (f ∷ fs) name is none = step code f fs name (bytes_eq f.name name) (is_long code f) refl is none (long_is_there code fs name)

named_step : (name : List ℕ) (g : Fun) (fs : List Fun) (f : Fun) (b : Bool) → b ≡ bytes_eq g.name name → (if b then Some g else function_of name fs) ≡ Some f
    → (function_of name fs ≡ Some f → f.name ≡ name) → f.name ≡ name
named_step name g fs f true same found rest = ap (λ h. h.name) (sym (some_same g f found)) ∙ (bytes_eq-Decides g.name name).0 (sym same)
named_step name g fs f false same found rest = rest found

-- it has the name
named_so : (name : List ℕ) (fs : List Fun) (f : Fun) → function_of name fs ≡ Some f → f.name ≡ name
named_so name [] f found = cc
named_so name (g ∷ fs) f found = named_step name g fs f (bytes_eq g.name name) refl found (named_so name fs f)

-- its text is too long
pub text_over : (code : Fun → Code) (file : List ℕ) (core : Core) (name : List ℕ) (f : Fun) (q : BuildFault) → first_long code core.funs ≡ Some name → function_of name core.funs ≡ Some f
    → IsLimit file (codes "text") f.line q → IsOverIn code file core q
text_over code file core name f (fault.Refused r) long found is =
    let e : f.name ≡ name = named_so name core.funs f found in
    subst (ExceedsBy code file core) (sym is) (text f (long ∙ ap Some (sym e)) (subst (λ n. function_of n core.funs ≡ Some f) (sym e) found))
text_over code file core name f fault.Missing long found is = absurd is
text_over code file core name f fault.TooLong long found is = absurd is
text_over code file core name f (fault.File asked) long found is = absurd is
text_over code file core name f fault.NoMemory long found is = tt

-- the file would be too long
pub object_over : (code : Fun → Code) (file : List ℕ) (core : Core) (q : BuildFault) → first_long code core.funs ≡ None → 8388608 < length (spelled (object_of code core))
    → IsLimit file (codes "object") 1 q → IsOverIn code file core q
object_over code file core (fault.Refused r) short long is = subst (ExceedsBy code file core) (sym is) (object short long)
object_over code file core fault.Missing short long is = absurd is
object_over code file core fault.TooLong short long is = absurd is
object_over code file core (fault.File asked) short long is = absurd is
object_over code file core fault.NoMemory short long is = tt

-- a fault of either compiler names a function that is there
pub fault_of_core : (code : Fun → Code) (core : Core) (f : GenFault) → IsFault code core f → IsOfCore core f
fault_of_core code core (gen.Text name) p = long_is_there code core.funs name p
fault_of_core code core gen.Object p = tt
fault_of_core code core gen.NoMemory p = tt

-- it is said so
pub over_in : (code : Fun → Code) (file : List ℕ) (core : Core) (f : GenFault) (q : BuildFault) → IsFault code core f → IsOverBy file core f q → IsOverIn code file core q
over_in code file core (gen.Text name) q p (f, found, is) = text_over code file core name f q p found is
over_in code file core gen.Object q p is = object_over code file core q p.0 p.1 is
over_in code file core gen.NoMemory q p is = subst (IsOverIn code file core) (sym is) tt

-- an object that is shared is the object
pub shared_so : (code : Fun → Code) (file : List ℕ) (core : Core) (o : Object) (r : Result Object BuildFault) → IsObject code core o → IsShared o r → MakesBy code file core r
shared_so code file core o (Ok s) p is = subst (IsObject code core) (sym is) p
shared_so code file core o (Err f) p is = subst (IsOverIn code file core) (sym is) tt

-- a limit of the plain compiler, and one of the other
pub over_plain : (file : List ℕ) (core : Core) (f : BuildFault) → IsOverIn plain_code file core f → IsOver file core f
over_plain file core (fault.Refused r) p = in_plain p
over_plain file core fault.Missing p = absurd p
over_plain file core fault.TooLong p = absurd p
over_plain file core (fault.File asked) p = absurd p
over_plain file core fault.NoMemory p = tt

pub over_fast : (file : List ℕ) (core : Core) (o : Object) (f : BuildFault) → IsObject plain_code core o → IsOverIn fast_code file core f → IsOver file core f
over_fast file core o (fault.Refused r) is p = in_fast o is p
over_fast file core o fault.Missing is p = absurd p
over_fast file core o fault.TooLong is p = absurd p
over_fast file core o (fault.File asked) is p = absurd p
over_fast file core o fault.NoMemory is p = tt
