-- A number: one word or two.
use Rattle.std.specs.Prelude.{◌||◌}
use Rattle.std.proofs.Common.{◌≡◌, ℕ, zero, suc, ◌+◌, ◌*◌, ◌^◌, ◌<◌, ◌≤◌, ◌==◌, Some, Bool, true, false, if◌then◌else◌, nat_lt, nat_le, List, [], ◌∷◌, length, refl, sym, ap, ap₂, subst, ◌∙◌, arith}
use Rattle.std.proofs.lemmas.Bool.Decides.{nat_tests}
use Rattle.std.proofs.lemmas.Int.{of_z-to_z}
use Rattle.std.specs.Int.{w32, cast_signed}
use Rattle.std.specs.Prelude.{slice_index_or}
use Rattle.sc_base.specs.declared.memory.Word.{Word}
use Rattle.sc_isa.specs.declared.instruction.Instr.TheVariants.{Lui}
use Rattle.sc_isa.specs.declared.instruction.ImmOp.TheVariants as imm
use Rattle.sc_isa_image.specs.Stubs.{upper_of, lower_of}
use Rattle.sc_types.specs.declared.ctype.CType.{CType}
use Rattle.sc_core.specs.declared.expression.CoreExpr.{CoreExpr, out-CoreExpr}
use Rattle.sc_core.specs.declared.expression.CoreExpr.TheOpen.{CoreExpr-F}
use Rattle.sc_emu.specs.Operations.{plain, bits_of, with_constant}
use Rattle.sc_emu.specs.Registers.{AreRegisters, Registers, register}
use Rattle.sc_meaning.specs.Expressions.{Answer, Plain, finished}
use Rattle.sc_meaning.specs.Values.{Number}
use Rattle.sc_meaning.specs.World.{Work, tick}
use Rattle.sc_meaning.proofs.Steps.{one_more}
use Rattle.sc_mixed.specs.Bridge.{with_registers}
use Rattle.sc_mixed.specs.declared.calls.Calls.{Calls}
use Rattle.sc_gen_code.specs.declared.style.Spot.{Spot}
use Rattle.sc_gen_code.specs.declared.symbolic.Symbolic.TheVariants.{Plain as Word_of}
use Rattle.sc_gen_code.specs.Code.{Code, addi, li}
use Rattle.sc_gen_operand.specs.Plans.{word}
use Rattle.sc_compiled_values.specs.Straight.{Words, after, with}
use Rattle.sc_compiled_expressions.specs.Parts.{End}
use Rattle.sc_compiled_expressions.specs.Standing.{Home, MeansIn, Stands}
use Rattle.sc_compiled_expressions.specs.Good.{AnsweredPlain, GivesPlain, code_of}
use Rattle.sc_compiled_expressions.proofs.Standing.{keeps_with, placed_same, stands_with, stands_worked}
use Rattle.sc_compiled_expressions.proofs.Nodes.{finish, layer_is, opened}
use Rattle.sc_compiled_expressions.specs.Straights.{AreStraight}
use Rattle.sc_compiled_expressions.proofs.Registers.{straight_goes}
use Rattle.sc_compiled_values.proofs.Scaling.{halves, from_zero}

-- ---- the code

abbrev li_by : Bool → ℕ → Code
li_by b n = if b then addi 10 0 (cast_signed w32 n) ∷ [] else Word_of (Lui 10 (upper_of n)) ∷ addi 10 10 (lower_of n) ∷ []

straight_by : (b : Bool) (n : ℕ) → AreStraight (li_by b n)
straight_by true n = ((omega arith, omega arith), tt)
straight_by false n = (omega arith, ((omega arith, omega arith), tt))

loaded_by : (b : Bool) (n : ℕ) (r : Words) → n < 4294967296 → r 0 ≡ plain 0 → after (li_by b n) r 10 ≡ plain n
loaded_by true n r lt z = ap₂ (with_constant imm.Addi) z (of_z-to_z w32 n lt) ∙ ap plain (from_zero n lt)
loaded_by false n r lt z = ap plain (halves n lt)

pub stays : (r : Words) (w : Word) (j : ℕ) → (j == 10) ≡ false → with r 10 w j ≡ r j
stays r w j e = other_one (j == 10) w (r j) e
  where
    other_one : (b : Bool) (u v : Word) → b ≡ false → (if b then u else v) ≡ v
    other_one false u v e = refl
    other_one true u v e = absurd (cc (e))

keeps_by : (b : Bool) (n : ℕ) (r : Words) (j : ℕ) → (j == 10) ≡ false → after (li_by b n) r j ≡ r j
keeps_by true n r j e = stays r (with_constant imm.Addi (r 0) (bits_of (cast_signed w32 n))) j e
keeps_by false n r j e =
    let first : Words = with r 10 (plain (upper_of n * 4096)) in
    stays first (with_constant imm.Addi (first 10) (bits_of (lower_of n))) j e ∙ stays r (plain (upper_of n * 4096)) j e

abbrev is_short : ℕ → Bool
is_short n = nat_lt n 2048 || nat_le 4294965248 n

pub waits_not_a0 : (j : ℕ) → (13 + j == 10) ≡ false
waits_not_a0 j = grind (arith, nat_tests)

pub index_zero : (ws : List Word) → AreRegisters ws → slice_index_or ws 0 (plain 0) ≡ plain 0
index_zero [] are = absurd (cc (are.zero))
index_zero (y ∷ ys) are = first_is y (are.zero)
  where
    first_is : (y : Word) → Some y ≡ Some (plain 0) → y ≡ plain 0
    first_is y e = cc (e)

-- 3
pub number_given : (home : Home) (most deep l : ℕ) (t : CType) (n : ℕ) (e : CoreExpr) (at : Spot) → out-CoreExpr e ≡ CoreExpr-F.Number l t n → n < 2 ^ 32 → at.depth ≤ 5 → GivesPlain home most (suc deep) e at
number_given home most deep l t n e at is small few = λ bound dp s c w v pl st.
    let code : code_of home e at ≡ li 10 n = layer_is home word e (CoreExpr-F.Number l t n) at is in
    let E : End Answer = AnsweredPlain home at (c.regs.pc + 4 * length (code_of home e at)) c w in
    let st1 : Stands home s c w (tick v) = stands_worked home s c w v 1 st in
    opened home most deep e (CoreExpr-F.Number l t n) is s E bound dp c w v refl
    (straight_goes home most s E c w (tick v) (λ h m. finished (Plain (Number n)) (tick v)) st1 (li 10 n) (straight_by (is_short n) n) (placed_same home c.regs.pc c.regs.pc (code_of home e at) (li 10 n) refl code pl) (λ h m. one_more (Work 1) (tick v))
    (λ zs are each.
    let r : Registers = record { pc = c.regs.pc + 4 * length (li 10 n); words = zs } in
    let d : Calls = with_registers r c in
    let a0_is : register r 10 ≡ plain n = each 10 (omega arith) ∙ loaded_by (is_short n) n (register c.regs) small (index_zero c.regs.words st.regs) in
    let sp_is : register r 2 ≡ register c.regs 2 = each 2 (omega arith) ∙ keeps_by (is_short n) n (register c.regs) 2 refl in
    finish home most s E (Plain (Number n)) d w (tick v) (record {
      of = Number n;
      is = refl;
      valued = record {
        there = ap (λ (k : Code). c.regs.pc + 4 * length k) (sym code);
        word = subst (λ z. MeansIn w z (Number n)) (sym a0_is) (record { stands = (refl, refl); wide = small; within = tt });
        stands = stands_worked home s d w (tick v) 1 (stands_with home s c r w (tick v) are sp_is st1);
        keeps = keeps_with home at c r w (λ j lt. each (13 + j) (in_file j lt) ∙ keeps_by (is_short n) n (register c.regs) (13 + j) (waits_not_a0 j));
      };
    })))
  where
    in_file : (j : ℕ) → j < at.depth → 13 + j < 32
    in_file j lt = omega (arith, lt, few)
