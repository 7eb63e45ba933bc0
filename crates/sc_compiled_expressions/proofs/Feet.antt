-- The foot of what is pointed at is that of the pointer; that of an expression without one of its own is its word.
use Rattle.std.proofs.Common.{◌≡◌, ℕ, zero, suc, ◌+◌, ◌-◌, ◌*◌, ◌%◌, ◌^◌, ◌<◌, ◌≤◌, true, pos, length, refl, sym, ap, subst, ◌∙◌, arith}
use Rattle.sc_base.specs.declared.memory.Word.{Word}
use Rattle.sc_types.specs.declared.ctype.CType.{CType}
use Rattle.sc_core.specs.declared.expression.CoreExpr.{CoreExpr, out-CoreExpr}
use Rattle.sc_core.specs.declared.expression.CoreExpr.TheOpen.{CoreExpr-F}
use Rattle.sc_emu.specs.Operations.{bits_of, sum}
use Rattle.sc_emu.specs.Registers.{register}
use Rattle.sc_meaning.specs.Calls.{eval}
use Rattle.sc_meaning.specs.Expressions.{Answer, Nothing, Part, Place, Plain, at_place, used, valued}
use Rattle.sc_meaning.specs.Laws.{Leads}
use Rattle.sc_meaning.specs.Outcomes.{Done, Outcome, Over, and_then, breach, world_after}
use Rattle.sc_meaning.specs.Values.{Value}
use Rattle.sc_meaning.specs.World.{Work, World, tick}
use Rattle.sc_base.specs.declared.report.Rule.TheVariants.{U13}
use Rattle.sc_meaning.proofs.Growing.{leads_then}
use Rattle.sc_meaning.proofs.Steps.{one_more}
use Rattle.sc_mixed.specs.declared.calls.Calls.{Calls}
use Rattle.sc_mixed_means.specs.Stages.{Stage}
use Rattle.sc_gen_code.specs.declared.style.Spot.{Spot}
use Rattle.sc_gen_code.specs.Code.{Code}
use Rattle.sc_gen_operand.specs.Places.{away}
use Rattle.sc_gen_operand.specs.Plans.{foot}
use Rattle.sc_gen_expr.specs.Expressions.{part_of}
use Rattle.sc_compiled_frames.specs.Means.{IsWord}
use Rattle.sc_compiled_expressions.specs.Parts.{End, Meets}
use Rattle.sc_compiled_expressions.proofs.Joining.{in_turn, same_part, undefined_here, weaker_end}
use Rattle.sc_compiled_expressions.specs.Standing.{Home, Stands, stub, table}
use Rattle.sc_compiled_expressions.specs.Good.{Answered, GivesAnswer, IsDeeper, IsPlaced, code_of}
use Rattle.sc_compiled_expressions.proofs.Standing.{own_step, placed_same, stands_worked}
use Rattle.sc_compiled_expressions.proofs.Nodes.{finish, layer_is, less, opened, used_leads}
use Rattle.sc_compiled_expressions.specs.Footed.{FootIn, GivesFoot}
use Rattle.sc_compiled_expressions.proofs.Passing.{Passes, passed_end}
use Rattle.sc_compiled_expressions.specs.Places.{AnswersNoMembers, IsNoMember, is_no_member}

abbrev pub foot_of : Home → CoreExpr → Spot → Code
foot_of home e at = part_of home.style home.autos e foot e at

-- ---- the word itself

wide_sum : (n : ℕ) → n < 4294967296 → (n + bits_of (pos 0)) % 4294967296 ≡ n
wide_sum n lt = omega (arith, lt)

below : (a b : ℕ) → (a + b) % 4294967296 < 4294967296
below a b = omega arith

-- where a word is one of 32 bits nothing is added to it
plain_word : (w : World) (a : Answer) (x : Word) → IsWord (stub w) (table w) a x → IsWord (stub w) (table w) a (record { bits = sum x.bits (bits_of (pos 0)); tag = x.tag })
plain_word w (Plain v) x m = subst (λ b. IsWord (stub w) (table w) (Plain v) (record { bits = b; tag = x.tag })) (sym (wide_sum x.bits m.wide)) m
plain_word w (Place p) x m = subst (λ b. IsWord (stub w) (table w) (Place p) (record { bits = b; tag = x.tag })) (sym (wide_sum x.bits m.wide)) m
plain_word w (Part p n) x m = (m.0, m.1, wide_sum x.bits (subst (λ b. b < 4294967296) (sym m.2) (below (m.0).bits n)) ∙ m.2, m.3)
plain_word w Nothing x m = tt

pub foot_is_word : (home : Home) (most deep : ℕ) (e : CoreExpr) (at : Spot) → away e ≡ 0 → foot_of home e at ≡ code_of home e at → GivesAnswer home most deep e at → GivesFoot home most deep (foot_of home e at) e 10 at
foot_is_word home most deep e at none same good = λ bound dp s c w v pl st.
    let end : ℕ = c.regs.pc + 4 * length (foot_of home e at) in
    let ends : c.regs.pc + 4 * length (code_of home e at) ≡ end = ap (λ (k : Code). c.regs.pc + 4 * length k) (sym same) in
    weaker_end most s (Answered home at (c.regs.pc + 4 * length (code_of home e at)) c w) (FootIn home at 10 (away e) end c w) c w v (λ h m. eval (bound m) h home.env e v)
    (λ q x u d y p. record {
      there = p.there ∙ ends;
      place = record { bits = sum (register d.regs 10).bits (bits_of (pos 0)); tag = (register d.regs 10).tag };
      word = plain_word y x (register d.regs 10) p.word;
      foot = ap (λ n. sum (register d.regs 10).bits (bits_of (pos n))) none;
      stands = p.stands;
      keeps = p.keeps;
    })
    (good bound dp s c w v (placed_same home c.regs.pc c.regs.pc (foot_of home e at) (code_of home e at) refl same pl) st)

-- ---- *a

regroup : (o : Outcome Answer) → and_then (and_then o used) at_place ≡ and_then o (λ x u. and_then (used x u) at_place)
regroup (Done x u) = refl
regroup (Over f) = refl

no_members : (o : Outcome Answer) → IsNoMember o → Passes is_no_member o
no_members (Done x u) p = p
no_members (Over f) p = tt

module _ (home : Home) (most : ℕ) (at : Spot) (n k end last : ℕ) (c : Calls) (w : World) (far : n ≡ k) (ends : last ≡ end) where
  abbrev E : End Answer
  E = FootIn home at 10 n end c w

  is_pointed : (q : Stage) (x : Answer) (z : Value) (u : World) (d : Calls) (y : World) → (p : FootIn home at 10 k last c w q x u d y) → IsWord (stub y) (table y) (Place z) p.place → E q (Place z) (tick u) d y
  is_pointed q x z u d y p word = record {
    there = p.there ∙ ends;
    place = p.place;
    word = word;
    foot = ap (λ i. sum (register d.regs 10).bits (bits_of (pos i))) far ∙ p.foot;
    stands = stands_worked home q d y u 1 p.stands;
    keeps = p.keeps;
  }

  by_answer : (q : Stage) (x : Answer) (u : World) (d : Calls) (y : World) → FootIn home at 10 k last c w q x u d y → is_no_member x ≡ true → Meets most q E d y u (λ h m. and_then (used x u) at_place)
  by_answer q (Plain z) u d y p e = finish home most q E (Place z) d y u (is_pointed q (Plain z) z u d y p p.word)
  by_answer q (Place z) u d y p e = finish home most q E (Place z) d y u (is_pointed q (Place z) z u d y p p.word)
  by_answer q (Part z j) u d y p e = absurd (cc (e))
  by_answer q Nothing u d y p e = undefined_here most q E d y u (λ h m. and_then (used Nothing u) at_place) (breach U13 u) (own_step (breach U13 u) u p.stands.own) (λ h m. refl)

pub indirection_foot : (home : Home) (most deep l : ℕ) (t : CType) (e a : CoreExpr) (at : Spot) → out-CoreExpr e ≡ CoreExpr-F.Indirection l t a → away e ≡ away a → AnswersNoMembers home.env a → GivesFoot home most deep (foot_of home a at) a 10 at → GivesFoot home most (suc deep) (foot_of home e at) e 10 at
indirection_foot home most deep l t e a at is far whole good = λ bound dp s c w v pl st.
    let code : foot_of home e at ≡ foot_of home a at = layer_is home foot e (CoreExpr-F.Indirection l t a) at is in
    let end : ℕ = c.regs.pc + 4 * length (foot_of home e at) in
    let last : ℕ = c.regs.pc + 4 * length (foot_of home a at) in
    let ends : last ≡ end = ap (λ (k : Code). c.regs.pc + 4 * length k) (sym code) in
    let G : End Answer = FootIn home at 10 (away e) end c w in
    let F : End Answer = FootIn home at 10 (away a) last c w in
    opened home most deep e (CoreExpr-F.Indirection l t a) is s G bound dp c w v refl
    (same_part most s G c w (tick v) _ (λ h m. and_then (eval (bound m - 1) h home.env a (tick v)) (λ x u. and_then (used x u) at_place)) (λ h m. regroup (eval (bound m - 1) h home.env a (tick v)))
    (in_turn most s (λ q x u d y. F q x u d y × (is_no_member x ≡ true)) G c w (tick v) (λ h m. eval (bound m - 1) h home.env a (tick v)) (λ x u h m. and_then (used x u) at_place)
    (passed_end most s F c w (tick v) (λ h m. eval (bound m - 1) h home.env a (tick v)) is_no_member (λ h m. no_members (eval (bound m - 1) h home.env a (tick v)) (whole (bound m - 1) h (tick v))) (λ q x u d y p. p.stands.own)
    (good (λ m. bound m - 1) (less deep bound dp) s c w (tick v) (placed_same home c.regs.pc c.regs.pc (foot_of home e at) (foot_of home a at) refl code pl) (stands_worked home s c w v 1 st)))
    (λ x u h m. leads_then u (used x u) at_place (used_leads x u) (λ z o. one_more (Work 1) o))
    (λ q x u d y p. by_answer home most at (away e) (away a) end last c w far ends q x u d y p.0 p.1)))
