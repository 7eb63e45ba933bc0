-- Inside: plumbing, a representation, an invariant or a promise beside the claim (docs/TRUST.md).
-- What a module says of names and literals.
use Rattle.std.specs.Prelude.{◌≡◌, ℕ, nat_eq, ◌++◌, Bool, true, false, not, ◌&&◌, List, [], ◌∷◌, position, slice_get, Option, Some, None, option_and_then}
use Rattle.std.specs.Option.{option_eq}
use Rattle.std.specs.Str.{bytes_eq}
use Rattle.std.specs.List.{list_any}
use Rattle.sc_base.specs.declared.key.Key.{Key}
use Rattle.sc_types.specs.declared.ctype.CType.{CType}
use Rattle.sc_types.specs.declared.ctype.StructDef.{StructDef}
use Rattle.sc_core.specs.declared.module.Core.{Core}
use Rattle.sc_core.specs.declared.module.Declared.{Declared}
use Rattle.sc_core.specs.declared.module.StaticObj.{StaticObj}
use Rattle.sc_core.specs.declared.module.Fun.{Fun}
use Rattle.sc_check_operand.specs.Types.{is_function}
use Rattle.sc_core_needs.specs.Types.{same}

abbrev pub key_eq : Key → Key → Bool
key_eq a b = option_eq bytes_eq a.«module» b.«module» && bytes_eq a.name b.name

-- what the module says of this name with linkage
abbrev pub declared_as : Key → List Declared → Option Declared
declared_as key ds = option_and_then (slice_get ds) (position (λ d. key_eq key d.key) ds)

-- the object of this name, those of blocks among them
abbrev pub object_as : Key → List StaticObj → Option StaticObj
object_as key objects = option_and_then (slice_get objects) (position (λ x. key_eq key x.key) objects)

abbrev pub fits_object : List StructDef → CType → Option StaticObj → Bool
fits_object structs of None = false
fits_object structs of (Some x) = same structs of x.of

abbrev pub fits_declared : List StructDef → CType → Option Declared → Option StaticObj → Bool
fits_declared structs of (Some d) object = same structs of d.of
fits_declared structs of None object = fits_object structs of object

-- A name of an object: one with linkage that is declared with a compatible type, or that of a block's own.
abbrev pub is_static : Core → CType → Key → Bool
is_static core of key = not (is_function of) && fits_declared core.structs of (declared_as key core.declared) (object_as key core.objects)

abbrev pub fits_function : List StructDef → CType → Option Declared → Bool
fits_function structs of None = false
fits_function structs of (Some d) = same structs of d.of

-- a name of a function, which is declared with a compatible type
abbrev pub is_declared_function : Core → CType → Key → Bool
is_declared_function core of key = is_function of && fits_function core.structs of (declared_as key core.declared)

-- the function of this name
abbrev pub function_as : List ℕ → List Fun → Option Fun
function_as name funs = option_and_then (slice_get funs) (position (λ f. bytes_eq name f.name) funs)

-- whether these bytes are a literal of the module
abbrev pub is_literal_of : List (List ℕ) → List ℕ → Bool
is_literal_of literals bytes = list_any (bytes_eq bytes) literals

-- the values of two labels of a `switch`, none for `default`
abbrev pub value_eq : Option ℕ → Option ℕ → Bool
value_eq a b = option_eq nat_eq a b

-- none of these is among those before it
abbrev pub are_new : {A : Type 0} → (A → A → Bool) → List A → List A → Bool
are_new eq done [] = true
are_new eq done (x ∷ xs) = not (list_any (eq x) done) && are_new eq (done ++ x ∷ []) xs

abbrev pub distinct : {A : Type 0} → (A → A → Bool) → List A → Bool
distinct eq xs = are_new eq [] xs

-- what an index of these keys is, where they are distinct
abbrev pub Indexes : {A : Type 0} → (A → A → Bool) → List A → Option (List A) → Type 0
Indexes eq xs None = distinct eq xs ≡ false
Indexes eq xs (Some keys) = (distinct eq xs ≡ true) × (keys ≡ xs)

-- a key at the end of a list, where it is new
abbrev pub Adds : {A : Type 0} → (A → A → Bool) → A → List A → List A → Bool → Type 0
Adds eq x old new true = (list_any (eq x) old ≡ false) × (new ≡ old ++ x ∷ [])
Adds eq x old new false = list_any (eq x) old ≡ true
