-- Yardstick: to be compared with what it restates (docs/TRUST.md).
-- What a session has room for: modules, numbers of functions, and bytes of static storage.
use Rattle.std.specs.Prelude.{ℕ, ◌+◌, ◌*◌, ◌/◌, nat_lt, if◌then◌else◌, List, [], ◌∷◌, length, Option, Some, None}
use Rattle.sc_types.specs.declared.ctype.CType.{CType}
use Rattle.sc_types.specs.declared.ctype.StructDef.{StructDef}
use Rattle.sc_types.specs.Layouts.{size_in}
use Rattle.sc_types.specs.Tables.{is_object}
use Rattle.sc_core.specs.declared.module.Core.{Core}
use Rattle.sc_core.specs.declared.module.StaticObj.{StaticObj}
use Rattle.sc_meaning.specs.Versions.{Text}
use Rattle.sc_words.specs.declared.denied.Area.{Area}
use Rattle.sc_words.specs.declared.denied.Area.TheVariants as area
use Rattle.sc_session_conflicts.specs.Clashes.{is_other}

-- the least multiple of 4 greater than a size
abbrev pub room_for : ℕ → ℕ
room_for size = 4 * (size / 4 + 1)

abbrev pub size_if : List StructDef → CType → ℕ
size_if structs t = if is_object structs t then size_in structs t else 0

abbrev pub objects_room : List StructDef → List StaticObj → ℕ
objects_room structs [] = 0
objects_room structs (o ∷ os) = room_for (size_if structs o.of) + objects_room structs os

abbrev pub literals_room : List (List ℕ) → ℕ
literals_room [] = 0
literals_room (l ∷ ls) = room_for (length l) + literals_room ls

-- the bytes of static storage that a module takes
abbrev pub statics_of : Core → ℕ
statics_of core = objects_room core.structs core.objects + literals_room core.literals

-- how many modules a program has with this one
abbrev pub modules_with : Core → List Text → ℕ
modules_with core [] = 1
modules_with core (t ∷ ts) = if is_other core t then 1 + modules_with core ts else modules_with core ts

-- and the bytes of static storage that they take
abbrev pub statics_with : Core → List Text → ℕ
statics_with core [] = statics_of core
statics_with core (t ∷ ts) = if is_other core t then statics_of t.core + statics_with core ts else statics_with core ts

-- what so many modules, functions with a number behind the library's and bytes of static storage are too many of: with the library's 39
-- there are 65,536 numbers
abbrev pub over_limit : ℕ → ℕ → ℕ → Option Area
over_limit modules functions statics =
    if nat_lt 64 modules then Some area.Modules
    else (if nat_lt 65497 functions then Some area.Stubs
    else (if nat_lt 1048576 statics then Some area.Static else None))
