-- Yardstick: to be compared with what it restates (docs/TRUST.md).
-- Structures, unions and enumerations (ANSI 3.5.2.1 to 3.5.2.3).
use Rattle.std.specs.Prelude.{ℕ, ◌+◌, ◌-◌, ◌^◌, ◌==◌, nat_lt, Bool, not, ◌||◌, if◌then◌else◌, List, [], ◌∷◌, ◌++◌, slice_get, slice_set, Option, Some, None, is_some, Ok}
use Rattle.std.specs.Str.{bytes_eq}
use Rattle.std.specs.List.{list_any}
use Rattle.sc_base.specs.declared.integer.Int.{Int}
use Rattle.sc_types.specs.declared.ctype.CType.{CType}
use Rattle.sc_types.specs.declared.ctype.Member.{Member}
use Rattle.sc_types.specs.declared.ctype.StructDef.{StructDef}
use Rattle.sc_types.specs.Layouts.{is_union_in}
use Rattle.sc_types.specs.Tables.{layout_of_members}
use Rattle.sc_types.specs.Compatibility.{same_bool}
use Rattle.sc_ops.specs.Numbers.{is_signed}
use Rattle.sc_check_declare.specs.declared.failure.Reason.TheVariants as r
use Rattle.sc_check_declare.specs.declared.content.Tag.{Tag}
use Rattle.sc_check_declare.specs.declared.content.Tag.TheVariants as tag
use Rattle.sc_check_declare.specs.declared.content.StructureTag.{StructureTag}
use Rattle.sc_check_declare.specs.declared.content.StructureTag.TheVariants as named
use Rattle.sc_check_declare.specs.Outcomes.{Outcome, refuse}
use Rattle.sc_check_declare.specs.Declarators.{is_complete}

-- What `struct` with a tag names, or `union`: where the tag is not there yet, a new type. A tag is of one kind.
abbrev pub structure_tag : Bool → Option Tag → StructureTag
structure_tag is_union None = named.New
structure_tag is_union (Some (tag.Structure id of_union)) = if same_bool is_union of_union then named.Known id else named.Other
structure_tag is_union (Some tag.Enumeration) = named.Other

-- `enum` with a tag alone names an enumeration that is there
abbrev pub enumeration_tag : ℕ → Option Tag → Outcome (Unit {0})
enumeration_tag line (Some tag.Enumeration) = Ok tt
enumeration_tag line (Some (tag.Structure id of_union)) = refuse r.Rule line
enumeration_tag line None = refuse r.Rule line

-- whether a member has the name
abbrev pub has_member : List ℕ → List Member → Bool
has_member name = list_any (λ m. bytes_eq name m.name)

-- one more member: an object of a complete type, under a name of its own
abbrev pub with_member : List StructDef → ℕ → List ℕ → CType → List Member → Outcome (List Member)
with_member structs line name of ms =
    if not (is_complete structs of) then refuse r.Rule line
    else if has_member name ms then refuse r.Rule line
    else Ok (ms ++ (record { name = name; of = of }) ∷ [])

abbrev pub members_of : Option StructDef → Option (List Member)
members_of None = None
members_of (Some d) = d.members

-- A structure or a union gets its members once, and is not too large.
abbrev pub completed : Option StructDef → ℕ → ℕ → List Member → List StructDef → Outcome (List StructDef)
completed None line id ms structs = refuse r.Rule line
completed (Some d) line id ms structs =
    if is_some d.members then refuse r.Rule line
    else if is_some (layout_of_members (is_union_in structs id) structs ms) then Ok (slice_set structs id (record d { members = Some ms }))
    else refuse r.Size line

abbrev pub complete : ℕ → ℕ → List Member → List StructDef → Outcome (List StructDef)
complete line id ms structs = completed (slice_get structs id) line id ms structs

-- the constant whose value is written: 32 bits of its type, a number of `int`
abbrev pub written : ℕ → Int → ℕ → Outcome ℕ
written line i bits = if is_signed i || nat_lt bits (2 ^ 31) then Ok bits else refuse r.Rule line

-- the constant behind another one: the greatest `int` has none behind it, and -1 has 32 bits 1
abbrev pub next : ℕ → Option ℕ → Outcome ℕ
next line None = Ok 0
next line (Some bits) =
    if bits == 2 ^ 31 - 1 then refuse r.Rule line
    else Ok (if bits == 2 ^ 32 - 1 then 0 else bits + 1)
