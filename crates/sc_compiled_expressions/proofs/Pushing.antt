-- a0 waits in a temporary.
use Rattle.std.proofs.Common.{◌≡◌, ℕ, zero, suc, ◌+◌, ◌*◌, ◌%◌, ◌^◌, ◌<◌, ◌≤◌, ◌==◌, false, [], length, refl, sym, ap, subst, ◌∙◌, arith}
use Rattle.std.proofs.lemmas.Bool.Decides.{nat_tests}
use Rattle.sc_isa.specs.declared.instruction.StoreOp.TheVariants.{Sw}
use Rattle.sc_emu.specs.Operations.{bits_of, sum}
use Rattle.sc_emu.specs.Registers.{register}
use Rattle.sc_meaning.specs.Values.{Value}
use Rattle.sc_meaning.specs.World.{World}
use Rattle.sc_mixed.specs.Bridge.{with_registers}
use Rattle.sc_mixed.specs.declared.calls.Calls.{Calls}
use Rattle.sc_mixed_means.specs.Stages.{Stage}
use Rattle.sc_gen_code.specs.declared.style.Spot.{Spot}
use Rattle.sc_gen_code.specs.declared.symbolic.Access.TheVariants as access
use Rattle.sc_gen_code.specs.Code.{push}
use Rattle.sc_gen_code.specs.Styles.{first_spot}
use Rattle.sc_compiled_frames.specs.Frames.{foot}
use Rattle.sc_compiled_expressions.specs.Parts.{End, Family, Leading, Meets}
use Rattle.sc_compiled_expressions.specs.Standing.{Home, Keeps, MeansIn, Stands}
use Rattle.sc_compiled_expressions.specs.Good.{IsPlaced}
use Rattle.sc_compiled_expressions.proofs.Standing.{keeps_then, keeps_with, stands_with}
use Rattle.sc_compiled_expressions.specs.Direct.{AtAccess}
use Rattle.sc_compiled_expressions.proofs.Reaching.{reach_near}
use Rattle.sc_meaning.specs.Outcomes.{Done}
use Rattle.sc_meaning.proofs.Steps.{here}
use Rattle.sc_compiled_expressions.proofs.Joining.{at_once}
use Rattle.sc_compiled_expressions.specs.Waits.{IsTemporary, Pushed, Pushes, WordWaits}
use Rattle.sc_compiled_expressions.proofs.Putting as put

no_wrap : (f t cost : ℕ) → f + cost ≤ 536870912 → t + 4 ≤ cost → (f + t) % 4294967296 ≡ f + t
no_wrap f t cost high room = omega (arith, high, room)

in_frame : (f t cost : ℕ) → f + cost ≤ 536870912 → t + 4 ≤ cost → t < 4294967296
in_frame f t cost high room = omega (arith, high, room)

module _ (home : Home) (most : ℕ) (at : Spot) (few : at.depth ≤ 5) (t : ℕ) (tmp : IsTemporary home at t) (s : Stage) (c : Calls) (w v : World) (st : Stands home s c w v) where
  fits : t + 4 ≤ home.cost
  fits = let room = tmp.room in let frame = tmp.frame in omega (arith, room, frame)

  pub small : t < 4294967296
  small = in_frame (foot w) t home.cost st.frame.high fits

  pub whole_address : sum (foot w) t ≡ foot w + t
  whole_address = no_wrap (foot w) t home.cost st.frame.high fits

  in_file : (j : ℕ) → j < at.depth → 13 + j < 32
  in_file j lt = omega (arith, lt, few)

  not_t0 : (j : ℕ) → (13 + j == 5) ≡ false
  not_t0 j = grind (arith, nat_tests)

  pub push_goes : {X : Type 0} (E : End X) (r : Family X) (x : Value) → MeansIn w (register c.regs 10) x → IsPlaced home c.regs.pc (push t) → Leading v r
      → ((d : Calls) (y : World) → Pushed home at t (c.regs.pc + 4 * length (push t)) c w s v d y → Meets most s E d y v r) → Meets most s E c w v r
  push_goes E r x means pl leads go =
      reach_near home most s E c w v r st leads (access.Store Sw 10) t small pl
      (λ q there.
      let stands_q : Stands home s q w v = subst (λ k. Stands home s k w v) (sym there.rest) (stands_with home s c q.regs w v there.regs (there.same 2 (omega arith) refl) st) in
      let a0 = there.same 10 (omega arith) refl in
      let means_q : MeansIn w (register q.regs 10) x = subst (λ k. MeansIn w k x) (sym a0) means in
      let address : sum (register q.regs there.base).bits (bits_of there.offset) ≡ foot w + t = there.there ∙ whole_address in
      let near = there.instr.near in
      let last = there.last in
      let first : Keeps home at c w q w = subst (λ k. Keeps home at c w k w) (sym there.rest) (keeps_with home at c q.regs w (λ j lt. there.same (13 + j) (in_file j lt) (not_t0 j))) in
      let y : World = put.behind home most s q w v stands_q 10 there.base there.offset t x there.instr address tmp.even fits tmp.under means_q in
      let d : Calls = with_registers (put.next home most s q w v stands_q 10 there.base there.offset t x there.instr address tmp.even fits tmp.under means_q) q in
      let kept : Keeps home at q w d y = put.keeps_behind home most s q w v stands_q 10 there.base there.offset t x there.instr address tmp.even fits tmp.under means_q at tmp.free tmp.room in
      let waits : WordWaits y (foot w + t) (register q.regs 10) = put.waits_there home most s q w v stands_q 10 there.base there.offset t x there.instr address tmp.even fits tmp.under means_q in
      put.put_beside home most s q w v stands_q 10 there.base there.offset t x there.instr address tmp.even fits tmp.under means_q E r leads
      (go d y (record {
        there = omega (arith, near, last);
        stands = put.stands_behind home most s q w v stands_q 10 there.base there.offset t x there.instr address tmp.even fits tmp.under means_q;
        keeps = keeps_then home at c q d w w y first kept;
        waits = subst (λ k. WordWaits y (foot w + t) k) a0 waits;
      })))

pub pushes : (home : Home) (most : ℕ) (at : Spot) → at.depth ≤ 5 → (t : ℕ) → IsTemporary home at t → Pushes home most at t
pushes home most at few t tmp = λ s c w v st x means pl.
    let E : End (Unit {0}) = λ q z u d y. Pushed home at t (c.regs.pc + 4 * length (push t)) c w q u d y in
    push_goes home most at few t tmp s c w v st E (λ h m. Done tt v) x means pl (λ h m. here v) (λ d y p. at_once most s E d y v (λ h m. Done tt v) tt (λ h m. refl) p)

-- there is a frame with room for a temporary
pub met : (home : Home) → IsTemporary (record home { autos = []; cost = 8; outgoing = 0; room = 4 }) (first_spot 0) 0
met home = record {
  even = refl;
  above = omega arith;
  free = omega arith;
  room = omega arith;
  frame = omega arith;
  under = λ b i s e. absurd (cc (e));
}
