-- Yardstick: to be compared with what it restates (docs/TRUST.md).
-- Which external names of a module do not go with the modules that are present (ANSI 3.1.2.2, 3.7).
use Rattle.std.specs.Prelude.{ℕ, ◌&&◌, Bool, true, false, not, if◌then◌else◌, List, [], ◌∷◌, Option, Some, None}
use Rattle.std.specs.Str.{bytes_eq}
use Rattle.std.specs.Ordering.{nat_cmp, is_lt}
use Rattle.std.specs.Cmp.Lexicographic.{slice_cmp}
use Rattle.sc_types.specs.Compatibility.{compatible}
use Rattle.sc_core.specs.declared.module.Core.{Core}
use Rattle.sc_core.specs.declared.module.Declared.{Declared}
use Rattle.sc_meaning.specs.Versions.{Text}
use Rattle.sc_session_conflicts.specs.declared.clash.Test.{Test}
use Rattle.sc_session_conflicts.specs.declared.clash.Test.TheVariants as test

-- a name, and the module that has it too
abbrev pub Named : Type 0
Named = List ℕ × List ℕ

-- the lesser name in the order of bytes; of equal names, the earlier one
abbrev pub lesser : Option Named → Named → Option Named
lesser None new = Some new
lesser (Some old) new = if is_lt (slice_cmp nat_cmp new.0 old.0) then Some new else Some old

abbrev pub is_internal : Option (List ℕ) → Bool
is_internal None = false
is_internal (Some home) = true

-- both declare one external name
abbrev pub same_external : Declared → Declared → Bool
same_external d e = not (is_internal d.key.«module») && not (is_internal e.key.«module») && bytes_eq d.key.name e.key.name

-- both define one external name
abbrev pub both_define : Declared → Declared → Bool
both_define d e = d.defined && e.defined && same_external d e

-- both declare one external name, with types that do not go together
abbrev pub disagree : Core → Declared → Core → Declared → Bool
disagree a d b e = same_external d e && not (compatible d.of a.structs e.of b.structs false)

-- what two declarations of one external name must not be
abbrev pub holds : Test → Core → Declared → Core → Declared → Bool
holds test.BothDefine a d b e = both_define d e
holds test.Disagree a d b e = disagree a d b e

abbrev pub some_declared : (Declared → Bool) → List Declared → Bool
some_declared test [] = false
some_declared test (e ∷ es) = if test e then true else some_declared test es

-- the least of the names of which the test holds, among those of a module's declarations with one module
abbrev pub least_with : Test → Core → Core → List Declared → Option Named → Option Named
least_with test core other [] least = least
least_with test core other (d ∷ ds) least =
    least_with test core other ds (if some_declared (holds test core d other) other.declared then lesser least (d.key.name, other.name) else least)

-- another module: one that is translated anew takes the place of the one that has its name
abbrev pub is_other : Core → Text → Bool
is_other core t = not (bytes_eq t.core.name core.name)

-- and with all the others, in their order
abbrev pub least_among : Test → Core → List Text → Option Named → Option Named
least_among test core [] least = least
least_among test core (t ∷ ts) least =
    least_among test core ts (if is_other core t then least_with test core t.core core.declared least else least)

-- the least name that this module and another that is present define, with the first such module
abbrev pub doubled : List Text → Core → Option Named
doubled texts core = least_among test.BothDefine core texts None

-- the least name that this module and another that is present declare with types that do not go together
abbrev pub clashing : List Text → Core → Option Named
clashing texts core = least_among test.Disagree core texts None

abbrev pub is_present : List ℕ → List Text → Bool
is_present name [] = false
is_present name (t ∷ ts) = if bytes_eq t.core.name name then true else is_present name ts
