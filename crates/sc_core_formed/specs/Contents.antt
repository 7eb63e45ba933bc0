-- Inside: plumbing, a representation, an invariant or a promise beside the claim (docs/TRUST.md).
-- What holds of the objects of a module, its literals, and the order of births.
use Rattle.std.specs.Prelude.{ℕ, ◌+◌, ◌-◌, ◌%◌, ◌==◌, nat_le, nat_lt, Bool, true, false, not, ◌&&◌, ◌||◌, if◌then◌else◌, List, [], ◌∷◌, length, slice_get, Option, Some, None, is_some}
use Rattle.std.specs.Str.{bytes_eq}
use Rattle.sc_base.specs.declared.key.Key.{Key}
use Rattle.sc_program.specs.declared.storage.StaticId.{StaticId}
use Rattle.sc_program.specs.declared.storage.StaticId.TheVariants as id
use Rattle.sc_types.specs.Compatibility.{same_bool}
use Rattle.sc_types.specs.Layouts.{size_in}
use Rattle.sc_types.specs.Tables.{is_object}
use Rattle.sc_core.specs.declared.module.Core.{Core}
use Rattle.sc_core.specs.declared.module.Declared.{Declared}
use Rattle.sc_core.specs.declared.module.Init.{Init}
use Rattle.sc_core.specs.declared.module.Init.TheVariants as init
use Rattle.sc_core.specs.declared.module.StaticObj.{StaticObj}
use Rattle.sc_check_operand.specs.Types.{is_const, is_function}
use Rattle.sc_core_needs.specs.Types.{same}
use Rattle.sc_core_formed.specs.Known.{is_known}
use Rattle.sc_core_formed.specs.Names.{key_eq, declared_as, object_as, is_literal_of, distinct}

abbrev pub is_home_name : Core → Option (List ℕ) → Bool
is_home_name core (Some home) = bytes_eq home core.name
is_home_name core None = true

-- a name that has internal linkage here, or external linkage
abbrev pub is_home : Core → Key → Bool
is_home core key = is_home_name core key.«module»

abbrev pub is_own_literal : Core → List ℕ → List ℕ → Bool
is_own_literal core home bytes = bytes_eq home core.name && is_literal_of core.literals bytes

-- an object or function that an address constant may name: one that the module declares, a block's own object, or a literal
abbrev pub is_addressed : Core → StaticId → Bool
is_addressed core (id.Named key) = is_some (declared_as key core.declared) || is_some (object_as key core.objects)
is_addressed core (id.Literal home bytes) = is_own_literal core home bytes

abbrev pub when : Bool → ℕ → Option ℕ
when b n = if b then Some n else None

-- where a piece of an object's contents ends: a byte, at least one zero byte inside the object, or the four bytes of an address at a multiple of 4
abbrev pub init_end : Core → ℕ → ℕ → Init → Option ℕ
init_end core size at (init.Byte b) = Some (at + 1)
init_end core size at (init.Zeros n) = when (nat_lt 0 n && nat_le (at + n) size) (at + n)
init_end core size at (init.Address what n) = when (at % 4 == 0 && is_addressed core what) (at + 4)

abbrev pub goes_on : (ℕ → Bool) → Option ℕ → Bool
goes_on f None = false
goes_on f (Some end) = f end

-- contents that stand at a place are as many bytes as are left up to the object's size
abbrev pub fills : Core → ℕ → ℕ → List Init → Bool
fills core at size [] = at == size
fills core at size (x ∷ xs) = nat_lt at size && goes_on (λ end. fills core end size xs) (init_end core size at x)

abbrev pub is_filled : Core → StaticObj → Bool
is_filled core x = is_object core.structs x.of && fills core 0 (size_in core.structs x.of) x.init

-- an object with linkage is declared as defined, with a compatible type; one of a block has a name of its own, of this module
abbrev pub is_named : Core → StaticObj → Option Declared → Bool
is_named core x None = is_some x.key.«module»
is_named core x (Some d) = d.defined && same core.structs x.of d.of

abbrev pub is_static_object : Core → StaticObj → Bool
is_static_object core x =
    is_known core.structs x.of && is_home core x.key && not (is_function x.of) && same_bool x.constant (is_const x.of) && is_filled core x && is_named core x (declared_as x.key core.declared)

abbrev pub objects : Core → List StaticObj → Bool
objects core [] = true
objects core (x ∷ xs) = is_static_object core x && objects core xs

abbrev pub is_zero_byte : Option ℕ → Bool
is_zero_byte None = false
is_zero_byte (Some b) = b == 0

abbrev pub ends_with_zero : List ℕ → Bool
ends_with_zero bytes = is_zero_byte (slice_get bytes (length bytes - 1))

-- each literal ends with a zero byte (3.1.4)
abbrev pub literals_end : List (List ℕ) → Bool
literals_end [] = true
literals_end (text ∷ texts) = ends_with_zero text && literals_end texts

-- the objects that are born, by their names
abbrev pub named_births : List StaticId → List Key
named_births [] = []
named_births (id.Named key ∷ ids) = key ∷ named_births ids
named_births (id.Literal home bytes ∷ ids) = named_births ids

-- the literals that are born
abbrev pub literal_births : List StaticId → List (List ℕ)
literal_births [] = []
literal_births (id.Named key ∷ ids) = literal_births ids
literal_births (id.Literal home bytes ∷ ids) = bytes ∷ literal_births ids

abbrev pub is_birth : Core → StaticId → Bool
is_birth core (id.Named key) = is_some (object_as key core.objects)
is_birth core (id.Literal home bytes) = is_own_literal core home bytes

abbrev pub births : Core → List StaticId → Bool
births core [] = true
births core (x ∷ xs) = is_birth core x && births core xs

abbrev pub objects_born : List StaticId → ℕ → Bool
objects_born ids count = distinct key_eq (named_births ids) && length (named_births ids) == count

abbrev pub literals_born : List StaticId → ℕ → Bool
literals_born ids count = distinct bytes_eq (literal_births ids) && length (literal_births ids) == count

-- Every object and every literal is born once.
abbrev pub are_born : Core → Bool
are_born core = objects_born core.births (length core.objects) && literals_born core.births (length core.literals) && births core core.births
