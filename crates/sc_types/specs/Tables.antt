-- Inside: plumbing, a representation, an invariant or a promise beside the claim (docs/TRUST.md).
-- What a table of structures keeps: the layout of each structure that is complete.
use Rattle.std.specs.Prelude.{◌≡◌, ℕ, ◌≤◌, nat_le, Bool, true, if◌then◌else◌, List, length, slice_get, slice_index_or, count_by, Option, Some, None, is_some, option_and_then}
use Rattle.sc_types.specs.declared.ctype.CType.{CType}
use Rattle.sc_types.specs.declared.ctype.StructDef.{StructDef}
use Rattle.sc_types.specs.declared.layout.Layout.{Layout}
use Rattle.sc_types.specs.declared.ctype.Member.{Member}
use Rattle.sc_types.specs.Layouts.{layout_in, structure, structure_layout}

-- an object has at most this many bytes
abbrev pub largest : ℕ
largest = 1048576

abbrev pub within : Option Layout → Option Layout
within = option_and_then (λ l. if nat_le l.size largest then Some l else None)

-- a complete object type whose objects are not too large
abbrev pub is_object : List StructDef → CType → Bool
is_object structs t = is_some (within (layout_in structs t))

abbrev pub has_members : StructDef → Bool
has_members d = is_some d.members

abbrev pub complete_count : List StructDef → ℕ
complete_count structs = count_by has_members structs

pub record IsSmall (l : Layout) : Type 0 where
  pub size : l.size ≤ largest
  pub some_align : 1 ≤ l.align
  pub align : l.align ≤ 4

abbrev pub entry : List (Option Layout) → ℕ → Option Layout
entry layouts id = slice_index_or layouts id None

pub record IsTable (structs : List StructDef) (layouts : List (Option Layout)) : Type 0 where
  pub room : length structs ≤ length layouts
  pub found : (id : ℕ) (l : Layout) → entry layouts id ≡ Some l → structure_layout (complete_count structs) structs id ≡ Some l
  pub whole : (id : ℕ) (d : StructDef) → slice_get structs id ≡ Some d → has_members d ≡ true → is_some (entry layouts id) ≡ true
  pub small : (id : ℕ) (l : Layout) → entry layouts id ≡ Some l → IsSmall l

-- The layout of a structure or a union with these members, where it is not too large.
abbrev pub layout_of_members : Bool → List StructDef → List Member → Option Layout
layout_of_members is_union structs ms = within (structure (layout_in structs) (record { tag = None; members = Some ms; is_union = is_union }))

-- a structure that is there, and still without members
abbrev pub IsIncomplete : Option StructDef → Type 0
IsIncomplete None = ⊥
IsIncomplete (Some d) = d.members ≡ None
