-- Machine: the program once more; a theorem ties it to a yardstick (docs/TRUST.md).
-- The text of a function: its frame is taken, the parameters are born, and the body is run; behind its end the function returns without a value.
use Rattle.std.specs.Prelude.{ℕ, ◌+◌, ◌-◌, ◌*◌, ◌%◌, ◌^◌, ◌==◌, min, if◌then◌else◌, nat_lt, nat_le, List, [], ◌∷◌, ◌++◌, length, Option, Some, None, pos, neg_ℤ}
use Rattle.sc_isa.specs.declared.instruction.StoreOp.TheVariants.{Sw}
use Rattle.sc_isa.specs.declared.instruction.RegOp.TheVariants as reg
use Rattle.sc_core.specs.declared.module.Fun.{Fun}
use Rattle.sc_core_needs.specs.Needs.{need_of_statement}
use Rattle.sc_gen_code.specs.declared.symbolic.Access.TheVariants as access
use Rattle.sc_core.specs.declared.module.Auto.{Auto}
use Rattle.sc_gen_code.specs.declared.style.Kept.{Kept}
use Rattle.sc_gen_code.specs.declared.style.Style.{Style}
use Rattle.sc_gen_code.specs.Code.{Code, x0, ra, sp, t0, t1, addi, apply, mv, ecall, li, near, service}
use Rattle.sc_gen_code.specs.Operators.{load_of}
use Rattle.sc_gen_code.specs.Styles.{first_spot}
use Rattle.sc_gen_body.specs.Jumps.{nowhere}
use Rattle.sc_gen_body.specs.Frames.{frame}
use Rattle.sc_gen_body.specs.Statements.{statement_code, epilogue}

abbrev pub frame_taken : ℕ → Code
frame_taken cost = if nat_le cost 2048 then addi sp sp (neg_ℤ (pos cost)) ∷ [] else li t0 cost ++ apply reg.Sub sp sp t0 ∷ []

-- block 0, the parameters, is entered by the first three words; then the frame is taken and the place of return is kept
abbrev pub prologue : ℕ → Code
prologue cost = addi t0 x0 (pos 2) ∷ addi t1 x0 (pos 0) ∷ ecall ∷ frame_taken cost ++ near (cost - 4) (access.Store Sw ra)

-- how many bytes the arguments past the eighth take, of which a call has at most 23
abbrev pub outgoing_bytes : ℕ → ℕ
outgoing_bytes arguments = 4 * (min arguments 31 - 8)

abbrev pub first_temporary : Fun → ℕ
first_temporary f = outgoing_bytes (need_of_statement f.body).arguments

-- the place of the parameter that stands at an offset, among those from a place on
abbrev pub parameter_at : ℕ → ℕ → List Auto → Option ℕ
parameter_at offset i [] = None
parameter_at offset i (x ∷ xs) = if x.slot.offset == offset then Some i else parameter_at offset (i + 1) xs

-- The copy of a parameter is taken from its register, and past the eighth from where the caller put it.
abbrev pub parameter_kept : ℕ → Kept → Option ℕ → Code
parameter_kept cost k None = []
parameter_kept cost k (Some i) =
    if nat_lt i 8 then mv k.register (10 + i) ∷ [] else
    if nat_lt i 31 then near ((cost + 4 * (i - 8)) % 2 ^ 32) (access.Load (load_of k.of) k.register) else []

abbrev pub parameters_taken : ℕ → List Auto → List Kept → Code
parameters_taken cost xs [] = []
parameters_taken cost xs (k ∷ ks) = parameter_kept cost k (parameter_at k.offset 0 xs) ++ parameters_taken cost xs ks

abbrev pub first_block : List (List Auto) → List Auto
first_block [] = []
first_block (xs ∷ rest) = xs

abbrev pub before_body : Style → Fun → Code
before_body st f = prologue f.cost ++ parameters_taken f.cost (first_block f.blocks) st.kept

abbrev pub function_code : Style → Fun → Code
function_code st f =
    before_body st f
    ++ (statement_code (frame st f (first_spot (first_temporary f))) f.body (length (before_body st f)) nowhere ++ (service 6 ++ epilogue f.cost))
