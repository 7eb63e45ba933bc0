-- Yardstick: to be compared with what it restates (docs/TRUST.md).
-- The numbers of functions: behind those of the library, each key in the order in which modules first declared it.
use Rattle.std.specs.Prelude.{◌&&◌, Bool, true, false, not, is_some, if◌then◌else◌, List, [], ◌∷◌}
use Rattle.std.specs.Option.{option_eq}
use Rattle.std.specs.Str.{bytes_eq}
use Rattle.indexmap.specs.IndexSet.{insert_key}
use Rattle.sc_base.specs.declared.key.Key.{Key}
use Rattle.sc_types.specs.declared.ctype.CType.{CType, out-CType}
use Rattle.sc_types.specs.declared.ctype.CType.TheOpen.{CType-F}
use Rattle.sc_types.specs.declared.ctype.Signature.{Signature}
use Rattle.sc_core.specs.declared.module.Declared.{Declared}
use Rattle.sc_meaning.specs.Names.{library_fun}

abbrev pub key_eq : Key → Key → Bool
key_eq a b = option_eq bytes_eq a.«module» b.«module» && bytes_eq a.name b.name

abbrev pub layer_is_function : CType-F CType Signature → Bool
layer_is_function (CType-F.Function f) = true
layer_is_function _ = false

-- the library's functions have external linkage
abbrev pub is_library : Key → Bool
is_library key = not (is_some key.«module») && is_some (library_fun key.name)

abbrev pub takes_number : Declared → Bool
takes_number d = layer_is_function (out-CType d.of) && not (is_library d.key)

-- a key that is there keeps its place
abbrev pub with_function : List Key → Declared → List Key
with_function keys d = if takes_number d then insert_key key_eq keys d.key else keys

abbrev pub mentioned : List Key → List Declared → List Key
mentioned keys [] = keys
mentioned keys (d ∷ declared) = mentioned (with_function keys d) declared
