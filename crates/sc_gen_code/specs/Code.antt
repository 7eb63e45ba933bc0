-- Machine: the program once more; a theorem ties it to a yardstick (docs/TRUST.md).
-- Short sequences of instructions, from which the code of expressions and statements is made (RISC-V unprivileged manual, RV32IM).
use Rattle.std.specs.Prelude.{ℕ, ◌+◌, ◌*◌, if◌then◌else◌, ◌||◌, nat_lt, nat_le, ◌==◌, ◌&&◌, List, [], ◌∷◌, ◌++◌, Option, Some, None, ℤ, pos, ◌-ℤ◌}
use Rattle.std.specs.Int.{w32, cast_signed}
use Rattle.sc_isa.specs.declared.instruction.Instr.{Instr}
use Rattle.sc_isa.specs.declared.instruction.Instr.TheVariants.{Lui, Jal, Branch, Load, Store, Imm, Reg, Ecall}
use Rattle.sc_isa.specs.declared.instruction.BranchOp.TheVariants.{Beq, Bne}
use Rattle.sc_isa.specs.declared.instruction.LoadOp.TheVariants.{Lw}
use Rattle.sc_isa.specs.declared.instruction.StoreOp.TheVariants.{Sw}
use Rattle.sc_isa.specs.declared.instruction.ImmOp.TheVariants.{Addi}
use Rattle.sc_isa.specs.declared.instruction.RegOp.{RegOp}
use Rattle.sc_isa.specs.declared.instruction.RegOp.TheVariants as reg
use Rattle.sc_isa_image.specs.Stubs.{upper_of, lower_of}
use Rattle.sc_gen_code.specs.declared.symbolic.Symbolic.{Symbolic}
use Rattle.sc_gen_code.specs.declared.symbolic.Symbolic.TheVariants.{Plain, Upper, Lower}
use Rattle.sc_gen_code.specs.declared.symbolic.Access.{Access}
use Rattle.sc_gen_code.specs.declared.symbolic.Access.TheVariants as access
use Rattle.sc_gen_code.specs.declared.symbolic.Target.{Target}

abbrev pub Code : Type 0
Code = List Symbolic

-- the registers that the code uses, by their names in the calling convention; a0 holds the word of an expression's answer
abbrev pub x0 : ℕ
x0 = 0

abbrev pub ra : ℕ
ra = 1

abbrev pub sp : ℕ
sp = 2

abbrev pub t0 : ℕ
t0 = 5

abbrev pub t1 : ℕ
t1 = 6

abbrev pub t2 : ℕ
t2 = 7

abbrev pub a0 : ℕ
a0 = 10

abbrev pub a1 : ℕ
a1 = 11

abbrev pub a2 : ℕ
a2 = 12

-- instructions as they are written: the target first, a store's value before its base
abbrev pub addi : ℕ → ℕ → ℤ → Symbolic
addi rd rs n = Plain (Imm Addi rd rs n)

abbrev pub apply : RegOp → ℕ → ℕ → ℕ → Symbolic
apply o rd rs rt = Plain (Reg o rd rs rt)

abbrev pub mv : ℕ → ℕ → Symbolic
mv rd rs = addi rd rs (pos 0)

abbrev pub lw : ℕ → ℕ → ℤ → Symbolic
lw rd base n = Plain (Load Lw rd base n)

abbrev pub sw : ℕ → ℕ → ℤ → Symbolic
sw rs base n = Plain (Store Sw rs base n)

abbrev pub ecall : Symbolic
ecall = Plain Ecall

-- a register gets a number of 32 bits
abbrev pub li : ℕ → ℕ → Code
li rd n =
    if nat_lt n 2048 || nat_le 4294965248 n then addi rd x0 (cast_signed w32 n) ∷ []
    else Plain (Lui rd (upper_of n)) ∷ addi rd rd (lower_of n) ∷ []

-- a place of the frame, by a base and what is added to it
abbrev pub accessed : Access → ℕ → ℤ → Instr
accessed (access.Load o rd) base n = Load o rd base n
accessed (access.Store o rs) base n = Store o rs base n
accessed (access.Address rd) base n = Imm Addi rd base n

-- a place so many bytes above sp
abbrev pub near : ℕ → Access → Code
near offset what =
    if nat_lt offset 2048 then Plain (accessed what sp (pos offset)) ∷ []
    else Plain (Lui t0 (upper_of offset)) ∷ apply reg.Add t0 t0 sp ∷ Plain (accessed what t0 (lower_of offset)) ∷ []

-- a0 waits in a temporary
abbrev pub push : ℕ → Code
push t = near t (access.Store Sw a0)

abbrev pub pop : ℕ → ℕ → Code
pop rd t = near t (access.Load Lw rd)

-- a service without a block
abbrev pub service : ℕ → Code
service k = addi t0 x0 (pos k) ∷ ecall ∷ []

abbrev pub block_service : ℕ → ℕ → Code
block_service k b = addi t0 x0 (pos k) ∷ li t1 b ++ ecall ∷ []

-- a0 gets the tag of the object or function at which it points
abbrev pub tagged : Code
tagged = service 4

-- so many bytes are copied from a1 to a0
abbrev pub copied : ℕ → Code
copied size = li a2 size ++ service 5

-- what is done at the value of a target
abbrev pub at_target : Access → Target → Code
at_target what target = Upper target ∷ Lower what target ∷ []

-- a0 gets the value of a target, with its tag
abbrev pub address : Target → Code
address target = at_target (access.Address a0) target ++ tagged

-- what a word is multiplied with as a shift, where it is a small power of two: the number of places
abbrev pub shift_of : ℕ → Option ℤ
shift_of n =
    if n == 1 then Some (pos 0) else if n == 2 then Some (pos 1) else if n == 4 then Some (pos 2) else if n == 8 then Some (pos 3) else
    if n == 16 then Some (pos 4) else if n == 32 then Some (pos 5) else if n == 64 then Some (pos 6) else if n == 128 then Some (pos 7) else
    if n == 256 then Some (pos 8) else if n == 512 then Some (pos 9) else if n == 1024 then Some (pos 10) else None

-- A jump over the next n words. One beyond the reach of any text leads nowhere.
abbrev pub over : ℕ → Symbolic
over n = Plain (Jal x0 (if nat_lt n 262143 then pos (4 * n + 4) else pos 0))

-- The jump that stands at one place and goes to another. One out of the reach of any text goes nowhere.
abbrev pub jump : ℕ → ℕ → Symbolic
jump from to = Plain (Jal x0 (if nat_lt from 262144 && nat_lt to 262144 then pos (4 * to) -ℤ pos (4 * from) else pos 0))

-- the next word is left out where a0 is not zero, and where it is zero
abbrev pub skip_if : Symbolic
skip_if = Plain (Branch Bne a0 x0 (pos 8))

abbrev pub skip_unless : Symbolic
skip_unless = Plain (Branch Beq a0 x0 (pos 8))
