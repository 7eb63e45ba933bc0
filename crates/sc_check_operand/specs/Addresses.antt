-- Yardstick: to be compared with what it restates (docs/TRUST.md).
-- Address constants (ANSI 3.4), on typed trees.
use Rattle.std.specs.Prelude.{ℕ, ◌+◌, ◌-◌, ◌*◌, ◌%◌, ◌^◌, ◌==◌, Bool, true, false, if◌then◌else◌, Option, Some, None, Ok}
use Rattle.sc_base.specs.declared.operator.Op.{Op}
use Rattle.sc_base.specs.declared.operator.Op.TheVariants as op
use Rattle.sc_types.specs.declared.ctype.CType.{out-CType}
use Rattle.sc_types.specs.declared.ctype.CType.TheOpen.{CType-F}
use Rattle.sc_core.specs.declared.expression.CoreExpr.{CoreExpr, out-CoreExpr, fold-CoreExpr}
use Rattle.sc_core.specs.declared.expression.CoreExpr.TheOpen.{CoreExpr-F}
use Rattle.sc_core.specs.Types.{type_of}
use Rattle.sc_check_operand.specs.declared.addresses.Base.{Base}
use Rattle.sc_check_operand.specs.declared.addresses.Base.TheVariants as base
use Rattle.sc_check_operand.specs.declared.addresses.Located.{Located}
use Rattle.sc_check_operand.specs.declared.addresses.Passage.{Passage}
use Rattle.sc_check_operand.specs.declared.addresses.Passage.TheVariants as passage
use Rattle.sc_check_operand.specs.declared.folding.Folded.{Folded}
use Rattle.sc_check_operand.specs.declared.folding.Folded.TheVariants as f
use Rattle.sc_check_operand.specs.declared.fault.Cause.TheVariants as cause
use Rattle.sc_check_operand.specs.Steps.{Checked, refused}
use Rattle.sc_check_operand.specs.Types.{Level}
use Rattle.sc_check_operand.specs.Constants.{folded, is_zero}
use Rattle.sc_check_operand.specs.Operands.{is_place}

abbrev pub Place : Type 0
Place = Option Located

abbrev pub at_base : Base → ℕ → Place
at_base b offset = Some (record { base = b; offset = offset })

-- null has no parts
abbrev pub at_null : ℕ → Place
at_null offset = if offset == 0 then at_base base.Null 0 else None

-- offsets are numbers modulo 2^32
abbrev pub behind : ℕ → ℕ → ℕ
behind offset n = (offset + n) % 2 ^ 32

abbrev pub before : ℕ → ℕ → ℕ
before offset n = (offset + (2 ^ 32 - n)) % 2 ^ 32

abbrev pub distance : ℕ → ℕ → ℕ
distance size n = size * n % 2 ^ 32

abbrev pub moved : Op → ℕ → ℕ → ℕ
moved op.Sub offset n = before offset n
moved _ offset n = behind offset n

-- the offset after a step by a constant number of elements
abbrev pub stepped : Op → ℕ → ℕ → Folded → Option ℕ
stepped o size offset (f.Value n k) = Some (moved o offset (distance size n))
stepped o size offset f.Undefined = None
stepped o size offset f.Variable = None

-- what is there at an offset, where there is one
abbrev pub at_offset : (ℕ → Place) → Option ℕ → Place
at_offset place (Some offset) = place offset
at_offset place None = None

abbrev pub is_pointer_level : Level → Bool
is_pointer_level (CType-F.Pointer u d) = true
is_pointer_level _ = false

abbrev pub points : CoreExpr → Bool
points e = is_pointer_level (out-CType (type_of e))

-- the operand that is a pointer, moved by the other one
abbrev pub moved_by : (ℕ → Place) → (ℕ → Place) → Op → ℕ → CoreExpr → CoreExpr → ℕ → Place
moved_by left right o size a b offset = if points a then at_offset left (stepped o size offset (folded b)) else at_offset right (stepped o size offset (folded a))

abbrev pub passage_level : Level → CoreExpr → Passage
passage_level (CType-F.Pointer u d) a = if is_place a then passage.Nowhere else passage.Through
passage_level (CType-F.Array u n) a = passage.Through
passage_level (CType-F.Function g) a = passage.Through
passage_level (CType-F.Int k d) a = if is_zero (folded a) then passage.Null else passage.Nowhere
passage_level (CType-F.Void d) a = passage.Nowhere
passage_level (CType-F.Struct id d) a = passage.Nowhere

-- what is converted or cast: a pointer that has not to be read, an array or a function; the constant 0
abbrev pub passage_of : CoreExpr → Passage
passage_of a = passage_level (out-CType (type_of a)) a

abbrev pub passed : (ℕ → Place) → Passage → ℕ → Place
passed place passage.Through offset = place offset
passed place passage.Null offset = at_null offset
passed place passage.Nowhere offset = None

abbrev pub located_layer : CoreExpr-F (CoreExpr → ℕ → Place) → CoreExpr-F CoreExpr → ℕ → Place
located_layer (CoreExpr-F.Static _ _ _) (CoreExpr-F.Static l of key) offset = at_base (base.Static key) offset
located_layer (CoreExpr-F.Function _ _ _) (CoreExpr-F.Function l of key) offset = at_base (base.Function key) offset
located_layer (CoreExpr-F.Literal _ _ _) (CoreExpr-F.Literal l of n) offset = at_base (base.Literal n) offset
located_layer (CoreExpr-F.Member _ _ _ p) (CoreExpr-F.Member l of n a) offset = p a (behind offset n)
located_layer (CoreExpr-F.Arrow _ _ _ p) (CoreExpr-F.Arrow l of n a) offset = p a (behind offset n)
located_layer (CoreExpr-F.Indirection _ _ p) (CoreExpr-F.Indirection l of a) offset = p a offset
located_layer (CoreExpr-F.Address _ _ p) (CoreExpr-F.Address l of a) offset = p a offset
located_layer (CoreExpr-F.Index _ _ _ p q) (CoreExpr-F.Index l of n a b) offset = moved_by (p a) (q b) op.Add n a b offset
located_layer (CoreExpr-F.Offset _ _ _ _ p q) (CoreExpr-F.Offset l of o n a b) offset = moved_by (p a) (q b) o n a b offset
located_layer (CoreExpr-F.Convert _ _ p) (CoreExpr-F.Convert l of a) offset = passed (p a) (passage_of a) offset
located_layer (CoreExpr-F.Cast _ _ p) (CoreExpr-F.Cast l of a) offset = passed (p a) (passage_of a) offset
located_layer _ _ offset = None

-- Where an expression's place is, or what its value points to, this many bytes on: null, a function, an object of static storage
-- duration or a literal, or a part of one.
abbrev pub located : CoreExpr → ℕ → Place
located e = fold-CoreExpr (CoreExpr → ℕ → Place) (λ p e. located_layer p (out-CoreExpr e)) e e

abbrev pub address_by : ℕ → Place → Checked Located
address_by line (Some place) = Ok place
address_by line None = refused cause.NotConstant line

-- where an address constant is wanted
abbrev pub address_constant : ℕ → CoreExpr → Checked Located
address_constant line e = address_by line (located e 0)
