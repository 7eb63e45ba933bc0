-- Machine: the program once more; a theorem ties it to a yardstick (docs/TRUST.md).
-- The code of operators, on values that stand in registers: the result is put into a0 (ANSI 3.3).
use Rattle.std.specs.Prelude.{ℕ, ◌+◌, ◌-◌, ◌*◌, ◌%◌, ◌^◌, ◌==◌, ◌&&◌, ◌||◌, Bool, true, false, if◌then◌else◌, nat_lt, int_le, [], ◌∷◌, ◌++◌, ℤ, pos, negsuc, neg_ℤ, Option, Some, None, option_map}
use Rattle.std.specs.Int.{w32, cast_signed}
use Rattle.sc_base.specs.declared.integer.Int.{Int}
use Rattle.sc_base.specs.declared.integer.Int.TheVariants as int
use Rattle.sc_base.specs.declared.operator.Op.{Op}
use Rattle.sc_base.specs.declared.operator.Op.TheVariants as op
use Rattle.sc_types.specs.declared.ctype.CType.{CType, out-CType}
use Rattle.sc_types.specs.declared.ctype.CType.TheOpen.{CType-F}
use Rattle.sc_types.specs.declared.ctype.Signature.{Signature}
use Rattle.sc_types.specs.Compatibility.{same_int}
use Rattle.sc_isa.specs.declared.instruction.Instr.TheVariants.{Load, Store, Imm, Branch}
use Rattle.sc_isa.specs.declared.instruction.LoadOp.{LoadOp}
use Rattle.sc_isa.specs.declared.instruction.LoadOp.TheVariants.{Lb, Lh, Lw, Lbu, Lhu}
use Rattle.sc_isa.specs.declared.instruction.StoreOp.{StoreOp}
use Rattle.sc_isa.specs.declared.instruction.StoreOp.TheVariants.{Sb, Sh, Sw}
use Rattle.sc_isa.specs.declared.instruction.ImmOp.{ImmOp}
use Rattle.sc_isa.specs.declared.instruction.ImmOp.TheVariants.{Addi, Slli, Slti, Sltiu, Xori, Srli, Srai, Ori, Andi}
use Rattle.sc_isa.specs.declared.instruction.BranchOp.{BranchOp}
use Rattle.sc_isa.specs.declared.instruction.BranchOp.TheVariants.{Beq, Bne, Blt, Bge, Bltu, Bgeu}
use Rattle.sc_isa.specs.declared.instruction.RegOp.{RegOp}
use Rattle.sc_isa.specs.declared.instruction.RegOp.TheVariants as reg
use Rattle.sc_core.specs.declared.expression.Step.{Step}
use Rattle.sc_core.specs.declared.expression.Step.TheVariants.{IncrementFirst, DecrementFirst, IncrementAfter, DecrementAfter}
use Rattle.sc_core.specs.declared.expression.UnaryOperator.{UnaryOperator}
use Rattle.sc_core.specs.declared.expression.UnaryOperator.TheVariants as unary
use Rattle.sc_gen_code.specs.declared.symbolic.Symbolic.{Symbolic}
use Rattle.sc_gen_code.specs.declared.symbolic.Symbolic.TheVariants.{Plain}
use Rattle.sc_gen_code.specs.Code.{Code, x0, t1, a0, a1, a2, addi, apply, mv, li, shift_of}

-- the integer type as which a scalar is read, written and worked with: a pointer is like an `unsigned int`
abbrev pub machine_level : CType-F CType Signature → Int
machine_level (CType-F.Int k c) = k
machine_level _ = int.UInt

abbrev pub machine_type : CType → Int
machine_type t = machine_level (out-CType t)

abbrev pub pointer_level : CType-F CType Signature → Bool
pointer_level (CType-F.Pointer t c) = true
pointer_level _ = false

abbrev pub is_pointer : CType → Bool
is_pointer t = pointer_level (out-CType t)

abbrev pub scalar_level : CType-F CType Signature → Bool
scalar_level (CType-F.Int k c) = true
scalar_level (CType-F.Pointer t c) = true
scalar_level _ = false

-- an integer or a pointer
abbrev pub is_scalar : CType → Bool
is_scalar t = scalar_level (out-CType t)

abbrev pub load_of : Int → LoadOp
load_of int.Char = Lbu
load_of int.UChar = Lbu
load_of int.SChar = Lb
load_of int.Short = Lh
load_of int.UShort = Lhu
load_of int.Int = Lw
load_of int.UInt = Lw
load_of int.Long = Lw
load_of int.ULong = Lw

abbrev pub store_of : Int → StoreOp
store_of int.Char = Sb
store_of int.UChar = Sb
store_of int.SChar = Sb
store_of int.Short = Sh
store_of int.UShort = Sh
store_of int.Int = Sw
store_of int.UInt = Sw
store_of int.Long = Sw
store_of int.ULong = Sw

-- a scalar is read from the place so many bytes behind that to which a register points, or written there
abbrev pub load : CType → ℕ → ℕ → ℕ → Symbolic
load t rd base n = Plain (Load (load_of (machine_type t)) rd base (pos n))

abbrev pub store : CType → ℕ → ℕ → ℕ → Symbolic
store t rs base n = Plain (Store (store_of (machine_type t)) rs base (pos n))

-- the low 8 or 16 bits of a register, continued to 32 as the type wants it (3.2.1.2)
abbrev pub narrowed : Int → ℕ → Code
narrowed int.Char r = Plain (Imm Andi r r (pos 255)) ∷ []
narrowed int.UChar r = Plain (Imm Andi r r (pos 255)) ∷ []
narrowed int.SChar r = Plain (Imm Slli r r (pos 24)) ∷ Plain (Imm Srai r r (pos 24)) ∷ []
narrowed int.Short r = Plain (Imm Slli r r (pos 16)) ∷ Plain (Imm Srai r r (pos 16)) ∷ []
narrowed int.UShort r = Plain (Imm Slli r r (pos 16)) ∷ Plain (Imm Srli r r (pos 16)) ∷ []
narrowed int.Int r = []
narrowed int.UInt r = []
narrowed int.Long r = []
narrowed int.ULong r = []

-- a register's number becomes one of a type
abbrev pub convert : CType → ℕ → Code
convert t r = narrowed (machine_type t) r

abbrev pub is_word : Int → Bool
is_word int.Int = true
is_word int.UInt = true
is_word int.Long = true
is_word int.ULong = true
is_word _ = false

-- whether a value of one type is one of the other as it stands
abbrev pub is_free : CType → CType → Bool
is_free from to = same_int (machine_type from) (machine_type to) || is_word (machine_type to)

abbrev pub reconvert : CType → CType → ℕ → Code
reconvert from to r = if is_free from to then [] else convert to r

abbrev pub add_or_sub : Op → RegOp
add_or_sub op.Sub = reg.Sub
add_or_sub _ = reg.Add

-- t1 gets a register's number of elements as one of bytes
abbrev pub scaled : ℕ → ℕ → Option ℤ → Code
scaled r size (Some k) = Plain (Imm Slli t1 r k) ∷ []
scaled r size None = li t1 size ++ apply reg.Mul t1 r t1 ∷ []

abbrev pub scale : ℕ → ℕ → Code
scale r size = scaled r size (shift_of size)

-- a pointer and a number of elements that is added to it or taken away
abbrev pub advanced : Op → ℕ → ℕ → ℕ → Code
advanced o size x y = if size == 1 then apply (add_or_sub o) a0 x y ∷ [] else scale y size ++ apply (add_or_sub o) a0 x t1 ∷ []

abbrev pub is_unsigned : Int → Bool
is_unsigned int.UInt = true
is_unsigned int.ULong = true
is_unsigned _ = false

abbrev pub by_sign : Bool → RegOp → RegOp → RegOp
by_sign unsigned u s = if unsigned then u else s

abbrev pub inverted : Symbolic
inverted = Plain (Imm Xori a0 a0 (pos 1))

-- x op y (3.3.5 to 3.3.12)
abbrev pub operate : Op → Bool → ℕ → ℕ → Code
operate op.Add u x y = apply reg.Add a0 x y ∷ []
operate op.Sub u x y = apply reg.Sub a0 x y ∷ []
operate op.Mul u x y = apply reg.Mul a0 x y ∷ []
operate op.Div u x y = apply (by_sign u reg.Divu reg.Div) a0 x y ∷ []
operate op.Rem u x y = apply (by_sign u reg.Remu reg.Rem) a0 x y ∷ []
operate op.Shl u x y = apply reg.Sll a0 x y ∷ []
operate op.Shr u x y = apply (by_sign u reg.Srl reg.Sra) a0 x y ∷ []
operate op.And u x y = apply reg.And a0 x y ∷ []
operate op.Or u x y = apply reg.Or a0 x y ∷ []
operate op.Xor u x y = apply reg.Xor a0 x y ∷ []
operate op.Lt u x y = apply (by_sign u reg.Sltu reg.Slt) a0 x y ∷ []
operate op.Gt u x y = apply (by_sign u reg.Sltu reg.Slt) a0 y x ∷ []
operate op.Le u x y = apply (by_sign u reg.Sltu reg.Slt) a0 y x ∷ inverted ∷ []
operate op.Ge u x y = apply (by_sign u reg.Sltu reg.Slt) a0 x y ∷ inverted ∷ []
operate op.Eq u x y = apply reg.Xor a0 x y ∷ Plain (Imm Sltiu a0 a0 (pos 1)) ∷ []
operate op.Ne u x y = apply reg.Xor a0 x y ∷ apply reg.Sltu a0 x0 a0 ∷ []
operate op.Neg u x y = []
operate op.Not u x y = []
operate op.Truth u x y = []
operate op.Inc u x y = []
operate op.Dec u x y = []

-- + - ~ ! before an operand (3.3.3.3)
abbrev pub unary_of : UnaryOperator → Code
unary_of unary.Plus = []
unary_of unary.Minus = apply reg.Sub a0 x0 a0 ∷ []
unary_of unary.Complement = Plain (Imm Xori a0 a0 (negsuc 0)) ∷ []
unary_of unary.Not = Plain (Imm Sltiu a0 a0 (pos 1)) ∷ []

-- pointer + integer, pointer - integer, integer + pointer, which stand in registers (3.3.6)
abbrev pub moved : Op → Bool → ℕ → ℕ → ℕ → Code
moved o true size x y = advanced o size x y
moved o false size x y = advanced op.Add size y x

-- pointer - pointer (3.3.6)
abbrev pub divided : ℕ → Option ℤ → Code
divided size (Some k) = Plain (Imm Srai a0 a0 k) ∷ []
divided size None = li t1 size ++ apply reg.Div a0 a0 t1 ∷ []

abbrev pub difference : ℕ → ℕ → ℕ → Code
difference size x y = apply reg.Sub a0 x y ∷ (if size == 1 then [] else divided size (shift_of size))

abbrev pub is_short : ℤ → Bool
is_short z = int_le (negsuc 2047) z && int_le z (pos 2047)

abbrev pub short : ImmOp → ℕ → ℤ → Option Symbolic
short o x z = if is_short z then Some (Plain (Imm o a0 x z)) else None

abbrev pub shifted : ImmOp → ℕ → ℕ → Option Symbolic
shifted o x n = if nat_lt n 32 then Some (Plain (Imm o a0 x (pos n))) else None

abbrev pub multiplied : ℕ → ℕ → Option Symbolic
multiplied x n = option_map (λ k. Plain (Imm Slli a0 x k)) (shift_of n)

abbrev pub imm_by_sign : Bool → ImmOp → ImmOp → ImmOp
imm_by_sign unsigned u s = if unsigned then u else s

-- x op n as one instruction, where there is one (3.3.5 to 3.3.12)
abbrev pub immediate : Op → Bool → ℕ → ℕ → Option Symbolic
immediate op.Add u x n = short Addi x (cast_signed w32 n)
immediate op.Sub u x n = short Addi x (cast_signed w32 ((0 + (2 ^ 32 - n)) % 2 ^ 32))
immediate op.And u x n = short Andi x (cast_signed w32 n)
immediate op.Or u x n = short Ori x (cast_signed w32 n)
immediate op.Xor u x n = short Xori x (cast_signed w32 n)
immediate op.Lt u x n = short (imm_by_sign u Sltiu Slti) x (cast_signed w32 n)
immediate op.Shl u x n = shifted Slli x n
immediate op.Shr u x n = shifted (imm_by_sign u Srli Srai) x n
immediate op.Mul u x n = multiplied x n
immediate op.Eq u x n = if n == 0 then Some (Plain (Imm Sltiu a0 x (pos 1))) else None
immediate op.Ne u x n = if n == 0 then Some (apply reg.Sltu a0 x0 x) else None
immediate _ u x n = None

-- how many bytes so many elements are, where that is less than 2,048
abbrev pub bytes_of : ℕ → ℕ → Option ℕ
bytes_of count size = if nat_lt count 2048 && (nat_lt size 2048 && nat_lt (count * size) 2048) then Some (count * size) else None

abbrev pub is_sub : Op → Bool
is_sub op.Sub = true
is_sub _ = false

-- a pointer in a register is moved by so many bytes
abbrev pub by_bytes : Op → ℕ → ℕ → Symbolic
by_bytes o x n = addi a0 x (if is_sub o then neg_ℤ (pos n) else pos n)

-- comparisons as branches: > and <= have their operands the other way round (3.3.8, 3.3.9)
abbrev pub branch_by_sign : Bool → BranchOp → BranchOp → BranchOp
branch_by_sign unsigned u s = if unsigned then u else s

abbrev pub branch_op : Op → Bool → BranchOp
branch_op op.Lt u = branch_by_sign u Bltu Blt
branch_op op.Gt u = branch_by_sign u Bltu Blt
branch_op op.Le u = branch_by_sign u Bgeu Bge
branch_op op.Ge u = branch_by_sign u Bgeu Bge
branch_op op.Eq u = Beq
branch_op _ u = Bne

abbrev pub is_swapped : Op → Bool
is_swapped op.Gt = true
is_swapped op.Le = true
is_swapped _ = false

abbrev pub negated : Op → Op
negated op.Lt = op.Ge
negated op.Gt = op.Le
negated op.Le = op.Gt
negated op.Ge = op.Lt
negated op.Eq = op.Ne
negated _ = op.Eq

abbrev pub is_comparison : Op → Bool
is_comparison op.Lt = true
is_comparison op.Gt = true
is_comparison op.Le = true
is_comparison op.Ge = true
is_comparison op.Eq = true
is_comparison op.Ne = true
is_comparison _ = false

abbrev pub branched : Op → Bool → ℕ → ℕ → ℤ → Symbolic
branched o u x y z = Plain (if is_swapped o then Branch (branch_op o u) y x z else Branch (branch_op o u) x y z)

-- a jump of so many bytes where the truth of x op y is the one that is said
abbrev pub branch : Op → Bool → Bool → ℕ → ℕ → ℤ → Symbolic
branch o u sense x y z = branched (if sense then o else negated o) u x y z

-- a place so many bytes behind the one in a0 (3.3.2.3)
abbrev pub further : ℕ → Code
further n =
    if n == 0 then [] else
    if nat_lt n 2048 then addi a0 a0 (pos n) ∷ []
    else li t1 n ++ apply reg.Add a0 a0 t1 ∷ []

abbrev pub is_increment : Step → Bool
is_increment IncrementFirst = true
is_increment IncrementAfter = true
is_increment DecrementFirst = false
is_increment DecrementAfter = false

abbrev pub is_before : Step → Bool
is_before IncrementFirst = true
is_before DecrementFirst = true
is_before IncrementAfter = false
is_before DecrementAfter = false

-- what is added to a pointer, modulo 2^32
abbrev pub addend : Step → ℕ → ℕ
addend s n = if is_increment s then n else (0 + (2 ^ 32 - n)) % 2 ^ 32

-- the next value of an integer or a pointer in a0, into a register
abbrev pub next_value : Step → ℕ → CType → ℕ → Code
next_value s n t rd =
    (if is_short (cast_signed w32 (addend s n)) then addi rd a0 (cast_signed w32 (addend s n)) ∷ []
    else li t1 (addend s n) ++ apply reg.Add rd a0 t1 ∷ [])
    ++ convert t rd

-- it ends in a0 where the operator stands in front
abbrev pub next_register : Step → ℕ
next_register s = if is_before s then a0 else a2

-- ++ and -- on the place so many bytes behind that in a0 (3.3.2.4, 3.3.3.1)
abbrev pub stepped : Step → ℕ → CType → ℕ → Code
stepped s n t away = mv a1 a0 ∷ load t a0 a1 away ∷ next_value s n t (next_register s) ++ store t (next_register s) a1 away ∷ []

-- what stood in a2 is changed by the value in a0 (3.3.16.2)
abbrev pub changed : Op → Int → CType → Code
changed o k t = operate o (is_unsigned k) a2 a0 ++ convert t a0
