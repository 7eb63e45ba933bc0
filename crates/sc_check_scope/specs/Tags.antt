-- Yardstick: to be compared with what it restates (docs/TRUST.md).
-- Structures, unions and enumerations in scope (ANSI 3.5.2.1 to 3.5.2.3).
use Rattle.std.specs.Prelude.{ℕ, nat_lt, Bool, true, false, if◌then◌else◌, List, [], ◌∷◌, ◌++◌, length, slice_set, Option, Some, None, is_some, Ok}
use Rattle.sc_base.specs.declared.integer.Int.TheVariants as i
use Rattle.sc_types.specs.declared.ctype.CType.TheVariants as t
use Rattle.sc_types.specs.declared.ctype.Member.{Member}
use Rattle.sc_check_operand.specs.Types.{members_hold_const}
use Rattle.sc_check_declare.specs.declared.content.Tag.{Tag}
use Rattle.sc_check_declare.specs.declared.content.Tag.TheVariants as tag
use Rattle.sc_check_declare.specs.declared.content.StructureTag.{StructureTag}
use Rattle.sc_check_declare.specs.declared.content.StructureTag.TheVariants as named
use Rattle.sc_check_declare.specs.declared.derivation.DeclaredType.{DeclaredType}
use Rattle.sc_check_declare.specs.declared.failure.Reason.TheVariants as r
use Rattle.sc_check_declare.specs.Contents as contents
use Rattle.sc_check_declare.specs.Outcomes.{refuse}
use Rattle.sc_check_declare.specs.Spaces.{find, innermost}
use Rattle.sc_check_scope.specs.declared.state.State.{State}
use Rattle.sc_check_scope.specs.Steps.{Checked, and_then, declaring}
use Rattle.sc_check_scope.specs.Scopes.{Checking}

-- a rule of declarations fails
abbrev pub rule : {A : Type 0} → ℕ → Checked A
rule line = declaring (refuse r.Rule line)

abbrev pub structure : ℕ → DeclaredType
structure id = record { of = t.Struct id false; depth = 0 }

-- an enumeration is an `int`
abbrev pub integer : DeclaredType
integer = record { of = t.Int i.Int false; depth = 0 }

-- a structure, or a union where it is true, that has no members yet
abbrev pub with_structure : Bool → Option (List ℕ) → State → State
with_structure is_union name s =
    record s { structs = s.structs ++ record { tag = name; members = None; is_union = is_union } ∷ []; known = s.known ++ false ∷ [] }

abbrev pub with_tag : List ℕ → Tag → State → State
with_tag name meaning s = record s { tags = (name, meaning) ∷ s.tags }

-- its number is how many there were
abbrev pub new_structure : Bool → Option (List ℕ) → Checking ℕ
new_structure is_union name s = Ok (length s.structs, with_structure is_union name s)

abbrev pub tagged_structure : Bool → List ℕ → Checking ℕ
tagged_structure is_union name s =
    Ok (length s.structs, with_tag name (tag.Structure (length s.structs) is_union) (with_structure is_union (Some name) s))

abbrev pub named_by : ℕ → Bool → List ℕ → StructureTag → Checking DeclaredType
named_by line is_union name named.New s = and_then (tagged_structure is_union name s) (λ x. Ok (structure x.0, x.1))
named_by line is_union name (named.Known id) s = Ok (structure id, s)
named_by line is_union name named.Other s = rule line

-- `struct name`, or `union name`
abbrev pub structure_named : ℕ → Bool → List ℕ → Checking DeclaredType
structure_named line is_union name s = named_by line is_union name (contents.structure_tag is_union (find name s.tags)) s

abbrev pub opened_by : Bool → List ℕ → StructureTag → Checking (Option ℕ)
opened_by is_union name named.New s = and_then (tagged_structure is_union name s) (λ x. Ok (Some x.0, x.1))
opened_by is_union name (named.Known id) s = Ok (Some id, s)
opened_by is_union name named.Other s = Ok (None, s)

-- what `struct name { .. }`, or `union name { .. }`, gives its members; none where the innermost scope has the tag for another kind
abbrev pub open_structure : Bool → Option (List ℕ) → Checking (Option ℕ)
open_structure is_union None s = and_then (new_structure is_union None s) (λ x. Ok (Some x.0, x.1))
open_structure is_union (Some name) s = opened_by is_union name (contents.structure_tag is_union (find name (innermost s.began.tags s.tags))) s

-- whether structure or union `id` has a const member
abbrev pub noting : ℕ → Bool → State → State
noting id holds s = if nat_lt id (length s.known) then record s { known = slice_set s.known id holds } else s

abbrev pub complete_structure : ℕ → ℕ → List Member → Checking DeclaredType
complete_structure line id members s =
    and_then (declaring (contents.complete line id members s.structs)) (λ structs. Ok (structure id, noting id (members_hold_const s.known members) (record s { structs = structs })))

abbrev pub close_structure : ℕ → Option ℕ → List Member → Checking DeclaredType
close_structure line (Some id) members s = complete_structure line id members s
close_structure line None members s = rule line

-- `enum name`
abbrev pub enumeration_named : ℕ → List ℕ → State → Checked DeclaredType
enumeration_named line name s = and_then (declaring (contents.enumeration_tag line (find name s.tags))) (λ _. Ok integer)

-- The tag of `enum name { .. }` is declared in front of its constants; whether the scope has it already.
abbrev pub open_enumeration : Option (List ℕ) → Checking Bool
open_enumeration None s = Ok (false, s)
open_enumeration (Some name) s = if is_some (find name (innermost s.began.tags s.tags)) then Ok (true, s) else Ok (false, with_tag name tag.Enumeration s)

abbrev pub close_enumeration : ℕ → Bool → Checked DeclaredType
close_enumeration line again = if again then rule line else Ok integer
