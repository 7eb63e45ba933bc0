-- Yardstick: to be compared with what it restates (docs/TRUST.md).
-- The size and alignment of objects, and where members stand (ANSI 3.1.2.5, 3.3.3.4, 3.5.2.1; ILP32).
use Rattle.std.specs.Prelude.{ℕ, zero, suc, ◌+◌, ◌-◌, ◌*◌, ◌/◌, ◌==◌, max, if◌then◌else◌, Bool, true, false, List, [], ◌∷◌, length, take, slice_get, Option, Some, None, option_map, option_and_then, unwrap_or}
use Rattle.sc_base.specs.declared.integer.Int.{Int}
use Rattle.sc_base.specs.declared.integer.Int.TheVariants as int
use Rattle.sc_types.specs.declared.ctype.CType.{CType, fold-CType}
use Rattle.sc_types.specs.declared.ctype.CType.TheOpen.{CType-F}
use Rattle.sc_types.specs.declared.ctype.Member.{Member}
use Rattle.sc_types.specs.declared.ctype.StructDef.{StructDef}
use Rattle.sc_types.specs.declared.layout.Layout.{Layout}

-- `char` has 1 byte, `short` 2, `int` and `long` 4
abbrev pub int_size : Int → ℕ
int_size int.Char = 1
int_size int.SChar = 1
int_size int.UChar = 1
int_size int.Short = 2
int_size int.UShort = 2
int_size int.Int = 4
int_size int.UInt = 4
int_size int.Long = 4
int_size int.ULong = 4

-- a scalar has natural alignment
abbrev pub scalar : ℕ → Layout
scalar n = record { size = n; align = n }

-- the least multiple of the alignment that is not below the place
abbrev pub rounded : ℕ → ℕ → ℕ
rounded place align = (place + (align - 1)) / align * align

-- n elements one after another; an array of unknown size, or of incomplete elements, is incomplete
abbrev pub repeated : ℕ → Option Layout → Option Layout
repeated n None = None
repeated n (Some l) = if n == 0 then None else Some (record { size = l.size * n; align = l.align })

-- One level of a type, with the layouts of its parts in their places; `structures` gives those of structures.
abbrev pub layer : (ℕ → Option Layout) → CType-F (Option Layout) (Unit {0}) → Option Layout
layer structures (CType-F.Void c) = None
layer structures (CType-F.Int i c) = Some (scalar (int_size i))
layer structures (CType-F.Pointer t c) = Some (scalar 4)
layer structures (CType-F.Array t n) = repeated n t
layer structures (CType-F.Struct id c) = structures id
layer structures (CType-F.Function f) = None

abbrev pub layout_by : (ℕ → Option Layout) → CType → Option Layout
layout_by structures = fold-CType (Option Layout) (Unit {0}) (layer structures) (λ _. tt)

-- The bytes of some members and one more: in a structure it stands behind them, in a union each stands at 0.
abbrev pub size_with : Bool → ℕ → Layout → ℕ
size_with false size own = rounded size own.align + own.size
size_with true size own = max size own.size

-- one more member beside those that take `l.size` bytes and have the greatest alignment `l.align`
abbrev pub joined : Bool → Layout → Layout → Layout
joined is_union l own = record { size = size_with is_union l.size own; align = max l.align own.align }

-- all members, beside such ones
abbrev pub members_from : Bool → (CType → Option Layout) → List Member → Layout → Option Layout
members_from is_union layout [] l = Some l
members_from is_union layout (m ∷ ms) l = option_and_then (λ own. members_from is_union layout ms (joined is_union l own)) (layout m.of)

-- a structure or a union begins at 0 and ends at a multiple of its alignment
abbrev pub beginning : Layout
beginning = record { size = 0; align = 1 }

abbrev pub padded : Layout → Layout
padded l = record { size = rounded l.size l.align; align = l.align }

abbrev pub structure : (CType → Option Layout) → StructDef → Option Layout
structure layout d = option_and_then (λ ms. option_map padded (members_from d.is_union layout ms beginning)) d.members

-- the layout of structure or union `id`, where at most n are inside one another
abbrev pub structure_layout : ℕ → List StructDef → ℕ → Option Layout
structure_layout zero structs id = None
structure_layout (suc n) structs id = option_and_then (structure (layout_by (structure_layout n structs))) (slice_get structs id)

-- The layout of an object of type t, where t is complete: no structure is inside itself, so no more are inside one
-- another than there are.
abbrev pub layout_in : List StructDef → CType → Option Layout
layout_in structs = layout_by (structure_layout (length structs) structs)

abbrev pub size_in : List StructDef → CType → ℕ
size_in structs t = unwrap_or (option_map (λ l. l.size) (layout_in structs t)) 0

abbrev pub align_in : List StructDef → CType → ℕ
align_in structs t = unwrap_or (option_map (λ l. l.align) (layout_in structs t)) 0

-- the members of structure `id`, none while it is incomplete
abbrev pub members_in : List StructDef → ℕ → List Member
members_in structs id = unwrap_or (option_and_then (λ d. d.members) (slice_get structs id)) []

-- whether number `id` is a union
abbrev pub is_union_in : List StructDef → ℕ → Bool
is_union_in structs id = unwrap_or (option_map (λ d. d.is_union) (slice_get structs id)) false

-- where these members end, if they are the first of a structure
abbrev pub end_in : List StructDef → List Member → ℕ
end_in structs ms = unwrap_or (option_map (λ l. l.size) (members_from false (layout_in structs) ms beginning)) 0

-- A member of a structure stands at the least multiple of its alignment that is not below the end of the one before;
-- each member of a union stands at 0.
abbrev pub offset_in : List StructDef → ℕ → ℕ → ℕ
offset_in structs id k = if is_union_in structs id then 0 else
    unwrap_or (option_map (λ m. rounded (end_in structs (take k (members_in structs id))) (align_in structs m.of)) (slice_get (members_in structs id) k)) 0
