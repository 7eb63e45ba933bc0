-- Two operands: the right one fetched behind the left one, or computed while the left one waits in a register.
use Rattle.std.proofs.Common.{◌≡◌, ◌⊎◌, inl, inr, ℕ, zero, suc, ◌+◌, ◌*◌, ◌<◌, ◌≤◌, ◌==◌, Bool, true, false, if◌then◌else◌, nat_lt, List, [], ◌∷◌, ◌++◌, length, refl, sym, ap, subst, ◌∙◌, arith, length-append}
use Rattle.sc_core.specs.declared.expression.CoreExpr.{CoreExpr}
use Rattle.sc_emu.specs.Operations.{plain}
use Rattle.sc_emu.specs.Registers.{register}
use Rattle.sc_meaning.specs.Calls.{eval}
use Rattle.sc_meaning.specs.Expressions.{valued}
use Rattle.sc_meaning.specs.Outcomes.{Done, and_then}
use Rattle.sc_meaning.specs.Values.{Value}
use Rattle.sc_meaning.specs.World.{World}
use Rattle.sc_meaning.proofs.Growing.{leads_then}
use Rattle.sc_meaning.proofs.Steps.{here}
use Rattle.sc_mixed.specs.declared.calls.Calls.{Calls}
use Rattle.sc_mixed_means.specs.Stages.{Stage}
use Rattle.sc_gen_code.specs.declared.style.Spot.{Spot}
use Rattle.sc_gen_code.specs.Code.{Code}
use Rattle.sc_gen_code.specs.Styles.{deeper}
use Rattle.sc_compiled_expressions.specs.Parts.{End}
use Rattle.sc_compiled_expressions.proofs.Joining.{at_once, in_turn}
use Rattle.sc_compiled_expressions.specs.Standing.{Home, Keeps, MeansIn, Stands}
use Rattle.sc_compiled_expressions.specs.Good.{GivesValue, IsDeeper, IsPlaced, Valued, code_of}
use Rattle.sc_compiled_expressions.proofs.Standing.{keeps_then, placed_back, placed_front, placed_same}
use Rattle.sc_compiled_expressions.proofs.Nodes.{valued_leads}
use Rattle.sc_compiled_expressions.proofs.Numbers.{index_zero}
use Rattle.sc_compiled_expressions.proofs.Assigning.{deeper_is, last_one, more}
use Rattle.sc_compiled_expressions.specs.Direct.{Fetched}
use Rattle.sc_compiled_expressions.proofs.Fetching.{fetched_keeps}
use Rattle.sc_compiled_expressions.specs.Operands.{GivesBeside, GivesIn, GivesPair, IsApart, Operand, PairIn, both_values}

module _ (home : Home) (most deep : ℕ) (a b : CoreExpr) (at : Spot) (ca cb : Code) (ra rb : ℕ) where
  abbrev Ended : ℕ → Calls → World → End (Value × Value)
  Ended end c w = PairIn home at ra rb end c w

  -- ---- the right one is fetched

  pub pair_beside : at.depth ≤ 5 → IsApart ra rb → ((j : ℕ) → j < at.depth → (13 + j == rb) ≡ false) → GivesIn home most deep ca a ra at → GivesBeside home most deep cb b rb → GivesPair home most deep (ca ++ cb) a b ra rb at
  pair_beside few apart waits good_a good_b = λ bound dp s c w v pl st.
      let end : ℕ = c.regs.pc + 4 * length (ca ++ cb) in
      let long = length-append ca cb in
      in_turn most s (Operand home at ra (c.regs.pc + 4 * length ca) c w) (Ended end c w) c w v (λ h m. valued (eval (bound m) h) home.env a v) (λ x u h m. and_then (valued (eval (bound m) h) home.env b u) (λ y o. Done (x, y) o))
      (good_a bound dp s c w v (placed_front home c.regs.pc ca cb pl) st)
      (λ x u h m. leads_then u (valued (eval (bound m) h) home.env b u) (λ y o. Done (x, y) o) (valued_leads (bound m) h home.env b u) (λ y o. here o))
      (λ t x u d y p.
      let before = p.there in
      in_turn most t (Fetched home rb (d.regs.pc + 4 * length cb) d y) (Ended end c w) d y u (λ h m. valued (eval (bound m) h) home.env b u) (λ k o h m. Done (x, k) o)
      (good_b bound dp t d y u (placed_same home (c.regs.pc + 4 * length ca) d.regs.pc cb cb (sym before) refl (placed_back home c.regs.pc ca cb pl)) p.stands)
      (λ k o h m. here o)
      (λ t2 k o f z q.
      let there = q.there in
      at_once most t2 (Ended end c w) f z o (λ h m. Done (x, k) o) (x, k) (λ h m. refl) (record {
        there = omega (arith, before, there, long);
        left = subst (λ i. MeansIn i (register f.regs ra) x) (sym q.world) (subst (λ i. MeansIn y i x) (sym (stays t x u d y p t2 k o f z q)) p.word);
        right = q.word;
        stands = q.stands;
        keeps = keeps_then home at c d f w y z p.keeps (fetched_keeps home at rb (d.regs.pc + 4 * length cb) d y t2 k o f z few waits q);
      })))
    where
      stays : {end2 end3 : ℕ} {c : Calls} {w : World} (t : Stage) (x : Value) (u : World) (d : Calls) (y : World) → Operand home at ra end2 c w t x u d y → (t2 : Stage) (k : Value) (o : World) (f : Calls) (z : World) → Fetched home rb end3 d y t2 k o f z → register f.regs ra ≡ register d.regs ra
      stays t x u d y p t2 k o f z q = elim apart.2 [
        | inl ne ↦ q.same ra apart.0 apart.1 ne
        | inr none ↦ subst (λ j. register f.regs j ≡ register d.regs j) (sym none) (index_zero f.regs.words q.stands.regs ∙ sym (index_zero d.regs.words p.stands.regs))
      ]

module _ (home : Home) (most deep : ℕ) (a b : CoreExpr) (at : Spot) (ca : Code) where
  abbrev r : ℕ
  r = 13 + at.depth

  abbrev cb : Code
  cb = code_of home b (deeper at)

  -- what waits deeper waits here too
  fewer_wait : nat_lt at.depth 5 ≡ true → (d : Calls) (y : World) (f : Calls) (z : World) → Keeps home (deeper at) d y f z → Keeps home at d y f z
  fewer_wait few d y f z k = record {
    waits = λ j lt. k.waits j (more at.depth (deeper at).depth j (deeper_is at few) lt);
    lower = k.lower;
    given = k.given;
    words = k.words;
    objects = k.objects;
    bytes = k.bytes;
    callers = k.callers;
    foot = k.foot;
  }

  -- ---- the left one waits in a register

  pub pair_waits : nat_lt at.depth 5 ≡ true → GivesIn home most deep ca a (13 + at.depth) at → GivesValue home most deep b (deeper at) → GivesPair home most deep (ca ++ code_of home b (deeper at)) a b (13 + at.depth) 10 at
  pair_waits few good_a good_b = λ bound dp s c w v pl st.
      let end : ℕ = c.regs.pc + 4 * length (ca ++ cb) in
      let E : End (Value × Value) = PairIn home at r 10 end c w in
      let long = length-append ca cb in
      in_turn most s (Operand home at r (c.regs.pc + 4 * length ca) c w) E c w v (λ h m. valued (eval (bound m) h) home.env a v) (λ x u h m. and_then (valued (eval (bound m) h) home.env b u) (λ y o. Done (x, y) o))
      (good_a bound dp s c w v (placed_front home c.regs.pc ca cb pl) st)
      (λ x u h m. leads_then u (valued (eval (bound m) h) home.env b u) (λ y o. Done (x, y) o) (valued_leads (bound m) h home.env b u) (λ y o. here o))
      (λ t x u d y p.
      let before = p.there in
      in_turn most t (Valued home (deeper at) (d.regs.pc + 4 * length cb) d y) E d y u (λ h m. valued (eval (bound m) h) home.env b u) (λ k o h m. Done (x, k) o)
      (good_b bound dp t d y u (placed_same home (c.regs.pc + 4 * length ca) d.regs.pc cb cb (sym before) refl (placed_back home c.regs.pc ca cb pl)) p.stands)
      (λ k o h m. here o)
      (λ t2 k o f z q.
      let there = q.there in
      at_once most t2 E f z o (λ h m. Done (x, k) o) (x, k) (λ h m. refl) (record {
        there = omega (arith, before, there, long);
        left = subst (λ i. MeansIn z i x) (sym (q.keeps.waits at.depth (last_one at.depth (deeper at).depth (deeper_is at few)))) (q.keeps.words (register d.regs r) x p.word);
        right = q.word;
        stands = q.stands;
        keeps = keeps_then home at c d f w y z p.keeps (fewer_wait few d y f z q.keeps);
      })))
