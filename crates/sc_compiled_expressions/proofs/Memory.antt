-- Two operands, of which the left one waits in the frame while the right one is computed; and an operator between them.
use Rattle.std.proofs.Common.{◌≡◌, ◌⊎◌, inl, inr, ℕ, zero, suc, ◌+◌, ◌*◌, ◌%◌, ◌^◌, ◌<◌, ◌≤◌, ◌==◌, false, List, [], ◌∷◌, ◌++◌, length, None, refl, sym, ap, subst, ◌∙◌, arith, append_assoc, length-append}
use Rattle.std.proofs.lemmas.Bool.Decides.{nat_tests}
use Rattle.sc_base.specs.declared.memory.Word.{Word}
use Rattle.sc_base.specs.declared.operator.Op.{Op}
use Rattle.sc_types.specs.declared.ctype.CType.{CType}
use Rattle.sc_core.specs.declared.expression.CoreExpr.{CoreExpr, out-CoreExpr}
use Rattle.sc_core.specs.declared.expression.CoreExpr.TheOpen.{CoreExpr-F}
use Rattle.sc_emu.specs.Registers.{register}
use Rattle.sc_meaning.specs.Calls.{eval}
use Rattle.sc_meaning.specs.Expressions.{valued}
use Rattle.sc_meaning.specs.Outcomes.{Done, and_then}
use Rattle.sc_meaning.specs.Values.{Value}
use Rattle.sc_meaning.specs.World.{World}
use Rattle.sc_meaning.proofs.Growing.{leads_then}
use Rattle.sc_meaning.proofs.Steps.{here}
use Rattle.sc_mixed.specs.declared.calls.Calls.{Calls}
use Rattle.sc_mixed_means.specs.Stages.{Stage}
use Rattle.sc_gen_code.specs.declared.style.Spot.{Spot}
use Rattle.sc_gen_code.specs.Code.{Code, pop, push}
use Rattle.sc_gen_code.specs.Operators.{operate}
use Rattle.sc_gen_code.specs.Styles.{behind}
use Rattle.sc_gen_operand.specs.declared.plans.Plan.TheVariants.{Memory}
use Rattle.sc_gen_operand.specs.declared.plans.Want.TheVariants.{Word as AsWord}
use Rattle.sc_gen_operand.specs.Places.{is_leaf}
use Rattle.sc_gen_operand.specs.Plans.{first_register, is_plain, two, waiting_plan, with_number}
use Rattle.sc_compiled_values.specs.Operators.{IsOperator}
use Rattle.sc_compiled_frames.specs.Frames.{foot}
use Rattle.sc_compiled_expressions.specs.Parts.{End, Family}
use Rattle.sc_compiled_expressions.proofs.Joining.{at_once, in_turn}
use Rattle.sc_compiled_expressions.specs.Standing.{Home, IsWaiting, Keeps, MeansIn, Stands}
use Rattle.sc_compiled_expressions.specs.Good.{GivesPlain, GivesValue, IsDeeper, IsPlaced, Valued, code_of}
use Rattle.sc_compiled_expressions.proofs.Standing.{keeps_then, placed_back, placed_front, placed_same}
use Rattle.sc_compiled_expressions.proofs.Nodes.{valued_leads}
use Rattle.sc_compiled_expressions.proofs.Call.{keeps_nearer}
use Rattle.sc_compiled_expressions.specs.Direct.{Fetched, IsFree}
use Rattle.sc_compiled_expressions.proofs.Fetching.{fetched_keeps}
use Rattle.sc_compiled_expressions.specs.Operands.{GivesPair, PairIn}
use Rattle.sc_compiled_expressions.proofs.Operating as op
use Rattle.sc_compiled_expressions.specs.Waits.{IsTemporary, Pushed, WordWaits}
use Rattle.sc_compiled_expressions.proofs.Getting.{pop_goes}
use Rattle.sc_compiled_expressions.proofs.Pushing.{push_goes}

a1_free : IsFree 11
a1_free = record { small = omega arith; zero = refl; sp = refl; t0 = refl }

not_a1 : (j : ℕ) → (13 + j == 11) ≡ false
not_a1 j = grind (arith, nat_tests)

within : (sp first t k low : ℕ) → first ≤ t → k < 4 → low ≡ (t + 4) % 4294967296 → t + 4 < 4294967296 → (sp + first ≤ sp + t + k) × (sp + t + k < sp + low)
within sp first t k low above lt is small = (omega (arith, above), omega (arith, lt, is, small))

module _ (home : Home) (most deep : ℕ) (a b : CoreExpr) (at : Spot) (few : at.depth ≤ 5) (tmp : IsTemporary home at at.low) (narrow : at.low + 4 < 2 ^ 32) where
  abbrev t : ℕ
  t = at.low

  abbrev ca : Code
  ca = code_of home a at

  abbrev cb : Code
  cb = code_of home b (behind at)

  abbrev left : Code
  left = ca ++ push t

  abbrev right : Code
  right = cb ++ pop 11 t

  -- the word goes on to wait while the right operand is computed
  stays : (d f : Calls) (y z : World) (x : Word) → Keeps home (behind at) d y f z → WordWaits y (foot y + t) x → WordWaits z (foot z + t) x
  stays d f y z x k waits = subst (λ n. WordWaits z (n + t) x) (sym k.foot) (λ i lt.
      let was = waits i lt in
      let near = within (foot y) home.outgoing t i (behind at).low tmp.above lt refl narrow in
      let now = k.bytes (foot y + t + i) (near.0, inl near.1) was.0 in
      (now.0, now.1 ∙ was.1))

  pub pair_remembers : GivesValue home most deep a at → GivesValue home most deep b (behind at) → GivesPair home most deep (left ++ right) a b 11 10 at
  pair_remembers good_a good_b = λ bound dp s c w v pl st.
      let end : ℕ = c.regs.pc + 4 * length (left ++ right) in
      let E : End (Value × Value) = PairIn home at 11 10 end c w in
      let pl_left : IsPlaced home c.regs.pc left = placed_front home c.regs.pc left right pl in
      let pl_right : IsPlaced home (c.regs.pc + 4 * length left) right = placed_back home c.regs.pc left right pl in
      let long = length-append left right in
      let long_left = length-append ca (push t) in
      let long_right = length-append cb (pop 11 t) in
      in_turn most s (Valued home at (c.regs.pc + 4 * length ca) c w) E c w v (λ h m. valued (eval (bound m) h) home.env a v) (λ x u h m. and_then (valued (eval (bound m) h) home.env b u) (λ y o. Done (x, y) o))
      (good_a bound dp s c w v (placed_front home c.regs.pc ca (push t) pl_left) st)
      (λ x u h m. leads_then u (valued (eval (bound m) h) home.env b u) (λ y o. Done (x, y) o) (valued_leads (bound m) h home.env b u) (λ y o. here o))
      (λ q x u d y p.
      let at_d = p.there in
      push_goes home most at few t tmp q d y u p.stands E (λ h m. and_then (valued (eval (bound m) h) home.env b u) (λ k o. Done (x, k) o)) x p.word
      (placed_same home (c.regs.pc + 4 * length ca) d.regs.pc (push t) (push t) (sym at_d) refl (placed_back home c.regs.pc ca (push t) pl_left))
      (λ h m. leads_then u (valued (eval (bound m) h) home.env b u) (λ k o. Done (x, k) o) (valued_leads (bound m) h home.env b u) (λ k o. here o))
      (λ d2 y2 pu.
      let at_d2 = pu.there in
      let from : d2.regs.pc ≡ c.regs.pc + 4 * length left = omega (arith, at_d, at_d2, long_left) in
      in_turn most q (Valued home (behind at) (d2.regs.pc + 4 * length cb) d2 y2) E d2 y2 u (λ h m. valued (eval (bound m) h) home.env b u) (λ k o h m. Done (x, k) o)
      (good_b bound dp q d2 y2 u (placed_same home (c.regs.pc + 4 * length left) d2.regs.pc cb cb (sym from) refl (placed_front home (c.regs.pc + 4 * length left) cb (pop 11 t) pl_right)) pu.stands)
      (λ k o h m. here o)
      (λ q2 k o f z vb.
      let at_f = vb.there in
      let to_f : f.regs.pc ≡ c.regs.pc + 4 * length left + 4 * length cb = omega (arith, at_f, from) in
      let word : Word = register d.regs 10 in
      pop_goes home most at few t tmp q2 f z o vb.stands word p.word.wide (stays d2 f y2 z word vb.keeps pu.waits) E (λ h m. Done (x, k) o) 11 a1_free x (vb.keeps.words word x (pu.keeps.words word x p.word))
      (placed_same home (c.regs.pc + 4 * length left + 4 * length cb) f.regs.pc (pop 11 t) (pop 11 t) (sym to_f) refl (placed_back home (c.regs.pc + 4 * length left) cb (pop 11 t) pl_right)) (λ h m. here o)
      (λ g got.
      let at_g = got.there in
      at_once most q2 E g z o (λ h m. Done (x, k) o) (x, k) (λ h m. refl) (record {
        there = omega (arith, at_g, to_f, long, long_right);
        left = got.word;
        right = subst (λ i. MeansIn z i k) (sym (got.same 10 (omega arith) refl refl)) vb.word;
        stands = got.stands;
        keeps =
            keeps_then home at c f g w z z
            (keeps_then home at c d2 f w y2 z (keeps_then home at c d d2 w y y2 p.keeps pu.keeps) (keeps_nearer home at narrow d2 y2 f z vb.keeps))
            (fetched_keeps home at 11 (f.regs.pc + 4 * length (pop 11 t)) f z q2 x o g z few (λ j lt. not_a1 j) got);
      })))))

-- an operator
pub binary_remembers : (home : Home) (most deep l : ℕ) (t : CType) (o : Op) (e a b : CoreExpr) (at : Spot) → out-CoreExpr e ≡ CoreExpr-F.Binary l t o a b → at.depth ≤ 5 → IsTemporary home at at.low → at.low + 4 < 2 ^ 32 → IsOperator o
    → with_number o (is_plain a) (first_register home.style home.autos AsWord a) b ≡ None → is_leaf home.autos b ≡ false → waiting_plan at b ≡ Memory → GivesValue home most deep a at → GivesValue home most deep b (behind at) → GivesPlain home most (suc deep) e at
binary_remembers home most deep l t o e a b at is few tmp narrow some none leaf plan good_a good_b =
    let ca : Code = code_of home a at ++ push at.low in
    let cb : Code = code_of home b (behind at) ++ pop 11 at.low in
    let co : Code = operate o (is_plain a) 11 10 in
    op.pair_operates home most deep l t o e a b at is 11 10 (ca ++ cb) few some (omega arith) (omega arith)
    (op.code home most deep l t o e a b at is ∙ ap (λ n. op.shape home most deep l t o e a b at is n (op.how home most deep l t o e a b at is n (is_leaf home.autos b))) none ∙ ap (λ f. op.shape home most deep l t o e a b at is None (op.how home most deep l t o e a b at is None f)) leaf
    ∙ ap (λ p. op.shape home most deep l t o e a b at is None (two p AsWord AsWord)) plan ∙ sym (append_assoc ca cb co))
    (pair_remembers home most deep a b at few tmp narrow good_a good_b)
