-- Yardstick: to be compared with what it restates (docs/TRUST.md).
-- Names, constants, strings, `sizeof` and `__offsetof` (ANSI 3.1.3, 3.1.4, 3.3.1, 3.3.3.4).
use Rattle.std.specs.Prelude.{ℕ, ◌+◌, ◌^◌, nat_lt, nat_le, Bool, false, not, ◌&&◌, if◌then◌else◌, List, length, position, slice_get, Option, Some, None, is_none, option_map, option_and_then, Ok, codes}
use Rattle.std.specs.Str.{bytes_eq}
use Rattle.sc_base.specs.declared.integer.Int.{Int}
use Rattle.sc_base.specs.declared.integer.Int.TheVariants as i
use Rattle.sc_base.specs.declared.key.Key.{Key}
use Rattle.sc_types.specs.declared.ctype.CType.{CType, out-CType}
use Rattle.sc_types.specs.declared.ctype.CType.TheVariants as t
use Rattle.sc_types.specs.declared.ctype.CType.TheOpen.{CType-F}
use Rattle.sc_types.specs.declared.ctype.Member.{Member}
use Rattle.sc_types.specs.declared.ctype.StructDef.{StructDef}
use Rattle.sc_types.specs.Layouts.{members_in, offset_in}
use Rattle.sc_types.specs.Tables.{is_object, largest}
use Rattle.sc_tree.specs.declared.expression.Constant.{Constant}
use Rattle.sc_core.specs.declared.expression.CoreExpr.{CoreExpr}
use Rattle.sc_core.specs.declared.expression.CoreExpr.TheVariants as c
use Rattle.sc_check_operand.specs.declared.fault.Cause.TheVariants as cause
use Rattle.sc_check_operand.specs.Steps.{Checked, refused, mismatch}
use Rattle.sc_check_operand.specs.Types.{Level, object_size, member_type}

-- a number of an integer type
abbrev pub number : ℕ → ℕ → Int → CoreExpr
number line n k = c.Number line (t.Int k false) n

-- a constant that is written (3.1.3); none where no type holds it
abbrev pub constant : ℕ → Option Constant → Checked CoreExpr
constant line (Some k) = Ok (number line k.value k.of)
constant line None = mismatch line

abbrev pub text_type : ℕ → CType
text_type n = t.Array (t.Int i.Char false) n

-- A string (3.1.4), by its place among the literals: an array of its bytes and a zero byte.
abbrev pub literal : ℕ → ℕ → List ℕ → Checked CoreExpr
literal line at text = if nat_le largest (length text) then refused cause.Size line else Ok (c.Literal line (text_type (length text + 1)) at)

abbrev pub automatic : ℕ → CType → ℕ → ℕ → CoreExpr
automatic line of block at = c.Automatic line of block at

abbrev pub static_object : ℕ → CType → Key → CoreExpr
static_object line of key = c.Static line of key

-- the library's `printf`
abbrev pub is_printf : Key → Bool
is_printf key = is_none key.module && bytes_eq key.name (codes "printf")

-- a function; `called` says whether the name is what a call calls
abbrev pub function : ℕ → Bool → CType → Key → Checked CoreExpr
function line called of key = if is_printf key && not called then refused cause.Printf line else Ok (c.Function line of key)

abbrev pub size_by : ℕ → Option ℕ → Checked CoreExpr
size_by line (Some n) = Ok (number line n i.UInt)
size_by line None = mismatch line

-- `sizeof` of this type or of an expression of it
abbrev pub size_of_type : List StructDef → ℕ → CType → Checked CoreExpr
size_of_type structs line of = size_by line (object_size structs of)

-- places of members are numbers of 32 bits
abbrev pub in_word : Option ℕ → Option ℕ
in_word = option_and_then (λ n. if nat_lt n (2 ^ 32) then Some n else None)

-- the place of the member with this name among the structure's
abbrev pub place_of : List Member → List ℕ → Option ℕ
place_of members name = in_word (position (λ m. bytes_eq m.name name) members)

-- its type, in a structure that is const or is not, and its offset
abbrev pub member_at : List StructDef → Bool → ℕ → ℕ → Option (CType × ℕ)
member_at structs qualifier id k = option_map (λ m. (member_type qualifier m.of, offset_in structs id k)) (slice_get (members_in structs id) k)

abbrev pub member_in : List StructDef → Bool → ℕ → List ℕ → Option (CType × ℕ)
member_in structs qualifier id name = if is_object structs (t.Struct id false) then option_and_then (member_at structs qualifier id) (place_of (members_in structs id) name) else None

abbrev pub member_level : List StructDef → Level → List ℕ → Option (CType × ℕ)
member_level structs (CType-F.Struct id qualifier) name = member_in structs qualifier id name
member_level structs _ name = None

-- the type and the offset of the member with this name, where the type is a complete structure that has it (3.3.2.3)
abbrev pub member_of : List StructDef → CType → List ℕ → Option (CType × ℕ)
member_of structs of name = member_level structs (out-CType of) name

abbrev pub offset_by : ℕ → Option (CType × ℕ) → Checked CoreExpr
offset_by line (Some m) = Ok (number line m.1 i.UInt)
offset_by line None = mismatch line

-- `__offsetof(type, name)`
abbrev pub offset_of_member : List StructDef → ℕ → CType → List ℕ → Checked CoreExpr
offset_of_member structs line of name = offset_by line (member_of structs of name)
