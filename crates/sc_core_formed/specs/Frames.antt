-- Inside: plumbing, a representation, an invariant or a promise beside the claim (docs/TRUST.md).
-- What holds of a function: its parameters, its blocks, where its objects stand in the frame, and what the frame costs.
use Rattle.std.specs.Prelude.{ℕ, ◌+◌, ◌-◌, ◌*◌, ◌/◌, ◌==◌, nat_le, Bool, true, false, ◌&&◌, if◌then◌else◌, List, [], ◌∷◌, length, slice_get, Option, Some, None, option_and_then}
use Rattle.sc_types.specs.Frames.{slot_bytes}
use Rattle.sc_types.specs.declared.ctype.CType.{CType}
use Rattle.sc_types.specs.declared.ctype.Signature.{Signature}
use Rattle.sc_types.specs.declared.ctype.StructDef.{StructDef}
use Rattle.sc_types.specs.Compatibility.{same_bool}
use Rattle.sc_types.specs.Layouts.{size_in}
use Rattle.sc_types.specs.Tables.{is_object}
use Rattle.sc_core.specs.declared.statement.CoreStmt.{CoreStmt, out-CoreStmt}
use Rattle.sc_core.specs.declared.statement.CoreStmt.TheOpen.{CoreStmt-F}
use Rattle.sc_core.specs.declared.module.Auto.{Auto}
use Rattle.sc_core.specs.declared.module.Fun.{Fun}
use Rattle.sc_core.specs.declared.module.Core.{Core}
use Rattle.sc_check_operand.specs.Types.{is_const}
use Rattle.sc_core_needs.specs.declared.needs.Need.{Need}
use Rattle.sc_core_formed.specs.declared.statements.Body.{Body}
use Rattle.sc_core_needs.specs.Types.{alike}
use Rattle.sc_core_needs.specs.Nodes.{limit, is_parameter, is_result}
use Rattle.sc_core_labels.specs.Targets.{Target, labels_of, are_distinct}
use Rattle.sc_core_needs.specs.Needs.{need_of_statement}
use Rattle.sc_core_formed.specs.Known.{is_known, signature_known}
use Rattle.sc_core_formed.specs.Statements.{statement}

-- an object of a complete type, with its size, at this place of the frame
abbrev pub is_auto : List StructDef → ℕ → Auto → Bool
is_auto structs at x = is_known structs x.of && is_object structs x.of && size_in structs x.of == x.slot.size && same_bool (is_const x.of) x.slot.constant && x.slot.offset == at

-- the end of a block's objects, which stand one behind another from a place on
abbrev pub block_end : List StructDef → ℕ → List Auto → Option ℕ
block_end structs at [] = Some at
block_end structs at (x ∷ xs) = if is_auto structs at x then block_end structs (at + slot_bytes x.slot.size) xs else None

abbrev pub blocks_end : List StructDef → ℕ → List (List Auto) → Option ℕ
blocks_end structs at [] = Some at
blocks_end structs at (b ∷ bs) = option_and_then (λ end. blocks_end structs end bs) (block_end structs at b)

-- below the objects stand the arguments past the eighth of calls, and the values that expressions keep
abbrev pub objects_begin : Need → ℕ
objects_begin n = 4 * (n.arguments - 8) + 4 * n.room

abbrev pub largest : ℕ
largest = 16777216

-- two saved registers stand above the objects; a frame has a multiple of 16 bytes
abbrev pub is_cost : ℕ → ℕ → Bool
is_cost end cost = (end + 8 + 15) / 16 * 16 == cost && nat_le cost largest

abbrev pub costs : Option ℕ → ℕ → Bool
costs None cost = false
costs (Some end) cost = is_cost end cost

abbrev pub is_frame : List StructDef → Fun → Bool
is_frame structs f = costs (blocks_end structs (objects_begin (need_of_statement f.body)) f.blocks) f.cost

-- the object of a parameter of this type
abbrev pub takes : List StructDef → CType → CType → Bool
takes structs p of = is_parameter structs p && alike structs p of

-- the parameters in their order
abbrev pub parameters : List StructDef → List CType → List Auto → Bool
parameters structs [] [] = true
parameters structs (p ∷ ps) (x ∷ xs) = takes structs p x.of && parameters structs ps xs
parameters structs _ _ = false

abbrev pub has_parameters : List StructDef → List CType → Option (List Auto) → Bool
has_parameters structs ps None = false
has_parameters structs ps (Some xs) = parameters structs ps xs

abbrev pub block_layer : CoreStmt-F CoreStmt → Bool
block_layer (CoreStmt-F.Block l n labels ss) = true
block_layer _ = false

abbrev pub is_block : CoreStmt → Bool
is_block s = block_layer (out-CoreStmt s)

abbrev pub at_start : Body
at_start = record { in_loop = false; in_switch = false }

abbrev pub numbers_up_to : ℕ → Option ℕ → Bool
numbers_up_to n None = false
numbers_up_to n (Some m) = m == n

-- the number of the block behind the body, of a function with these labels
abbrev pub body_end : Core → Fun → List Target → Option ℕ
body_end core f targets = statement core f targets f.body (0 ∷ []) at_start 1

-- Each label stands once. The body is block 1, inside the parameters', and each block behind has its number and its table.
abbrev pub has_body : Core → Fun → Bool
has_body core f = are_distinct (labels_of f.body) && numbers_up_to (length f.blocks) (body_end core f (labels_of f.body))

-- at most so many parameters, and nothing or a scalar as the result
abbrev pub is_signature : List StructDef → Signature → Bool
is_signature structs f = nat_le (length f.params) limit && is_result structs f.result && signature_known structs f

-- the parameters are block 0, and the body is a block
abbrev pub has_start : Core → Fun → Bool
has_start core f = is_signature core.structs f.of && has_parameters core.structs f.of.params (slice_get f.blocks 0) && is_block f.body

-- A function.
abbrev pub is_function : Core → Fun → Bool
is_function core f = has_start core f && has_body core f && is_frame core.structs f

abbrev pub functions : Core → List Fun → Bool
functions core [] = true
functions core (f ∷ fs) = is_function core f && functions core fs
