-- Machine: the program once more; a theorem ties it to a yardstick (docs/TRUST.md).
-- The code of a call, behind that of its arguments, each of which but the last waits in a temporary (RISC-V calling convention).
use Rattle.std.specs.Prelude.{ℕ, zero, suc, ◌+◌, ◌-◌, ◌*◌, Bool, ◌&&◌, if◌then◌else◌, nat_lt, min, List, [], ◌∷◌, ◌++◌, ℤ, pos, Option, Some, None, is_none}
use Rattle.std.specs.Str.{bytes_eq}
use Rattle.sc_base.specs.declared.key.Key.{Key}
use Rattle.sc_isa.specs.declared.instruction.Instr.TheVariants.{Jalr}
use Rattle.sc_isa.specs.declared.instruction.RegOp.TheVariants as reg
use Rattle.sc_core.specs.declared.expression.CoreExpr.{CoreExpr, out-CoreExpr}
use Rattle.sc_core.specs.declared.expression.CoreExpr.TheOpen.{CoreExpr-F}
use Rattle.sc_gen_code.specs.declared.symbolic.Symbolic.TheVariants.{Plain, Call}
use Rattle.sc_gen_code.specs.declared.symbolic.Target.TheVariants as target
use Rattle.sc_gen_code.specs.declared.calls.Base.{Base}
use Rattle.sc_gen_code.specs.Code.{Code, ra, sp, t0, t1, t2, a0, apply, mv, lw, sw, li}

-- the function that is called by its name
abbrev pub named_layer : CoreExpr-F CoreExpr → Option Key
named_layer (CoreExpr-F.Function l t key) = Some key
named_layer _ = None

abbrev pub direct_layer : CoreExpr-F CoreExpr → Option Key
direct_layer (CoreExpr-F.Convert l t a) = named_layer (out-CoreExpr a)
direct_layer _ = None

abbrev pub direct : CoreExpr → Option Key
direct f = direct_layer (out-CoreExpr f)

-- whether the temporaries of a call of n arguments are within reach of sp
abbrev pub is_near : ℕ → ℕ → Bool
is_near n t = nat_lt (t + 4 * n) 2048

-- where the first temporary of the call stands, which is the function's; argument i, counted from 0, has the temporary i + 1 words behind
abbrev pub base_of : ℕ → ℕ → Base
base_of n t = if is_near n t then record { register = sp; low = t } else record { register = t0; low = 0 }

-- the register of a far base
abbrev pub based : ℕ → ℕ → Code
based n t = if is_near n t then [] else li t0 t ++ apply reg.Add t0 t0 sp ∷ []

abbrev pub waiting : Base → ℕ → ℤ
waiting base i = pos (base.low + 4 * i + 4)

-- n arguments from number i on go from their temporaries to the words above sp where the callee expects those past the eighth
abbrev pub outgoing : Base → ℕ → ℕ → Code
outgoing base i zero = []
outgoing base i (suc n) = lw t2 base.register (waiting base i) ∷ sw t2 sp (pos (4 * (i - 8))) ∷ outgoing base (i + 1) n

-- n arguments from number i on go into their registers
abbrev pub incoming : Base → ℕ → ℕ → Code
incoming base i zero = []
incoming base i (suc n) = lw (10 + i) base.register (waiting base i) ∷ incoming base (i + 1) n

-- the last of n arguments, which is in a0, goes above sp where it is past the eighth, or into its register
abbrev pub last_placed : ℕ → Code
last_placed n =
    if nat_lt 8 n then sw a0 sp (pos (4 * (n - 1 - 8))) ∷ [] else
    if nat_lt 1 n then mv (9 + n) a0 ∷ [] else []

-- Each of n arguments goes where the callee expects it: the last one, the middle ones past the eighth, the first eight.
abbrev pub marshalled : ℕ → ℕ → Code
marshalled n t = last_placed n ++ (based n t ++ (outgoing (base_of n t) 8 (n - 9) ++ incoming (base_of n t) 0 (min (n - 1) 8)))

-- the bytes of `printf`
abbrev pub printf_name : List ℕ
printf_name = 112 ∷ 114 ∷ 105 ∷ 110 ∷ 116 ∷ 102 ∷ []

abbrev pub is_printf : Key → Bool
is_printf key = is_none key.«module» && bytes_eq key.name printf_name

-- `printf` is told how many arguments it has
abbrev pub counted : Key → ℕ → Code
counted key n = if is_printf key then li t2 n else []

-- a call by name
abbrev pub call_direct : Key → ℕ → Code
call_direct key n = counted key n ++ Call (target.Named key) ∷ Plain (Jalr ra ra (pos 0)) ∷ []

-- the address that waits in a call's first temporary goes into t1, and is called
abbrev pub awaited : Base → Code
awaited base = lw t1 base.register (pos base.low) ∷ []

abbrev pub call_through : Code
call_through = Plain (Jalr ra t1 (pos 0)) ∷ []
