-- Conditions: the truth of a value, !, && and ||. Each leaves out the next word where its truth is the one that is said.
use Rattle.std.proofs.Common.{◌≡◌, ℕ, suc, ◌+◌, ◌-◌, ◌*◌, ◌^◌, ◌<◌, ◌≤◌, ◌==◌, not, Bool, true, false, [], ◌∷◌, ◌++◌, length, Option, Some, None, refl, sym, ap, subst, ◌∙◌, arith, length-append}
use Rattle.std.proofs.lemmas.Bool.Decides.{nat_tests}
use Rattle.std.specs.Prelude.{pos, if◌then◌else◌, nat_lt}
use Rattle.sc_base.specs.declared.integer.Int.TheVariants.{Int as PlainInt}
use Rattle.sc_base.specs.declared.memory.Word.{Word}
use Rattle.sc_base.specs.declared.operator.Op.TheVariants.{Truth}
use Rattle.sc_base.specs.declared.report.Rule.{Rule}
use Rattle.sc_isa.specs.declared.instruction.Instr.TheVariants.{Branch, Jal}
use Rattle.sc_types.specs.declared.ctype.CType.{CType}
use Rattle.sc_core.specs.declared.expression.CoreExpr.{CoreExpr, out-CoreExpr}
use Rattle.sc_core.specs.declared.expression.CoreExpr.TheOpen.{CoreExpr-F}
use Rattle.sc_core.specs.declared.expression.UnaryOperator.TheVariants as op
use Rattle.sc_core.specs.Types.{type_of}
use Rattle.sc_ops.specs.Numbers.{promoted}
use Rattle.sc_ops.specs.Operators.{truth_of}
use Rattle.sc_emu.specs.Operations.{is_taken}
use Rattle.sc_emu.specs.Registers.{register}
use Rattle.sc_meaning.specs.Accesses.{is_true, tested}
use Rattle.sc_meaning.specs.Calls.{eval}
use Rattle.sc_meaning.specs.Expressions.{either, plain, truth, unary, used, valued}
use Rattle.sc_meaning.specs.Laws.{Leads}
use Rattle.sc_meaning.specs.Outcomes.{Breach, Done, Outcome, Over, and_then, operand_breach, unless, world_after}
use Rattle.sc_meaning.specs.Values.{Value, Number, int_of, is_pointer_type, null}
use Rattle.sc_meaning.specs.Violations.{truth_rule}
use Rattle.sc_meaning.specs.World.{World, Work, tick}
use Rattle.sc_meaning.proofs.Growing.{leads_then}
use Rattle.sc_meaning.proofs.Steps.{here, one_more}
use Rattle.sc_mixed.specs.Bridge.{with_registers}
use Rattle.sc_mixed.specs.declared.calls.Calls.{Calls}
use Rattle.sc_mixed_means.specs.Stages.{Stage}
use Rattle.sc_gen_code.specs.declared.style.Spot.{Spot}
use Rattle.sc_gen_code.specs.declared.symbolic.Symbolic.{Symbolic}
use Rattle.sc_gen_code.specs.Code.{Code, over}
use Rattle.sc_gen_operand.specs.Plans.{Skips}
use Rattle.sc_compiled_frames.proofs.Converting.{truth_is}
use Rattle.sc_compiled_expressions.specs.Instructions.{InstrAt, goes_to}
use Rattle.sc_compiled_expressions.specs.Parts.{End, Family, Leading, Meets, followed}
use Rattle.sc_compiled_expressions.proofs.Joining.{at_once, behind_work, in_turn, same_part, undefined_here}
use Rattle.sc_compiled_expressions.proofs.Behind.{behind_over, behind_skip}
use Rattle.sc_compiled_expressions.specs.Standing.{Home, Keeps, MeansIn, Stands, stub, table}
use Rattle.sc_compiled_expressions.specs.Good.{GivesValue, IsDeeper, IsPlaced, TellsTruth, Told, Valued, code_of, is_skipped, skip_op, skips, test_of, told_at}
use Rattle.sc_compiled_expressions.proofs.Standing.{first_at, keeps_at, keeps_then, memory_of, own_step, placed_back, placed_front, placed_same, seated, stands_at, stands_worked, x0_is}
use Rattle.sc_compiled_expressions.proofs.Nodes.{family_opens, layer_is, less, valued_leads}

-- ---- truth values

twice : (t : Bool) → not (not t) ≡ t
twice true = refl
twice false = refl

pub taken : (sense t : Bool) (n : ℕ) → (n == 0) ≡ not t → is_taken (skip_op sense) n 0 ≡ is_skipped sense t
taken true t n e = ap not e ∙ twice t
taken false t n e = e

turned : (sense holds : Bool) → is_skipped (not sense) holds ≡ is_skipped sense (not holds)
turned true holds = refl
turned false holds = sym (twice holds)

-- where a skip ends
skipped_end : (b : Bool) (pc end : ℕ) → pc + 4 ≡ end → (if b then pc + 8 else pc + 4) ≡ (if b then end + 4 else end)
skipped_end true pc end e = omega (arith, e)
skipped_end false pc end e = e

-- the truth of what a truth value gives
number_tests : (te : CType) → is_pointer_type te ≡ false → (n : ℕ) (u : World) → tested te (Number n) u ≡ Done (not (n == 0)) u
number_tests te np n u =
    ap (λ k. unless (truth_rule u.objects k (Number n)) (operand_breach Truth (promoted (int_of te)) (Number n) PlainInt null u) (λ w. Done (not (n == 0)) w) u) np

truth_again : (holds : Bool) → not (truth_of holds == 0) ≡ holds
truth_again true = refl
truth_again false = refl

told_again : (te : CType) → is_pointer_type te ≡ false → (holds : Bool) (u : World) → tested te (Number (truth_of holds)) u ≡ Done holds u
told_again te np holds u = number_tests te np (truth_of holds) u ∙ ap (λ t. Done t u) (truth_again holds)

unless_leads : {A : Type 0} (o : Option Rule) (told : Rule → Breach) (a : A) (u : World) → Leads u (world_after (unless o told (λ w. Done a w) u))
unless_leads None told a u = here u
unless_leads (Some r) told a u = here u

pub tested_leads : (t : CType) (x : Value) (u : World) → Leads u (world_after (tested t x u))
tested_leads t x u = unless_leads (truth_rule u.objects (is_pointer_type t) x) (operand_breach Truth (promoted (int_of t)) x PlainInt null u) (is_true x) u

-- ---- what the meaning of !, && and || comes to, as a condition

not_is : (ta te : CType) → is_pointer_type te ≡ false → (r : Outcome Value)
    → and_then (and_then (and_then r (λ x w. and_then (unary op.Not ta x w) plain)) used) (tested te) ≡ and_then (and_then r (tested ta)) (λ holds u. Done (not holds) (tick u))
not_is ta te np (Over e) = refl
not_is ta te np (Done x w) = by_test (tested ta x w)
  where
    by_test : (q : Outcome Bool) → and_then (and_then (and_then (and_then q (λ holds w. Done (Number (truth_of (not holds))) w)) plain) used) (tested te) ≡ and_then q (λ holds u. Done (not holds) (tick u))
    by_test (Over e) = refl
    by_test (Done holds u) = told_again te np (not holds) (tick u)

truth_is_told : (tb te : CType) → is_pointer_type te ≡ false → (r : Outcome Value) → and_then (and_then (and_then r (truth tb)) used) (tested te) ≡ and_then (and_then r (tested tb)) (λ z u. Done z (tick u))
truth_is_told tb te np (Over e) = refl
truth_is_told tb te np (Done x w) = by_test (tested tb x w)
  where
    by_test : (q : Outcome Bool) → and_then (and_then (and_then q (λ holds w. plain (Number (truth_of holds)) w)) used) (tested te) ≡ and_then q (λ z u. Done z (tick u))
    by_test (Over e) = refl
    by_test (Done holds u) = told_again te np holds (tick u)

-- what stands behind the first condition of && and of ||
abbrev pub second : Bool → Bool → (World → Outcome Bool) → World → Outcome Bool
second f holds go u = if is_skipped f holds then and_then (go u) (λ z w. Done z (tick w)) else Done holds (tick u)

and_is : (ta tb te : CType) → is_pointer_type te ≡ false → (r : Outcome Value) (b : World → Outcome Value)
    → and_then (and_then (and_then r (λ x w. and_then (tested ta x w) (λ holds w. either holds (λ w. and_then (b w) (truth tb)) (plain (Number 0)) w))) used) (tested te)
    ≡ and_then (and_then r (tested ta)) (λ holds u. second true holds (λ w. and_then (b w) (tested tb)) u)
and_is ta tb te np (Over e) b = refl
and_is ta tb te np (Done x w) b = by_test (tested ta x w)
  where
    by_test : (q : Outcome Bool) → and_then (and_then (and_then q (λ holds w. either holds (λ w. and_then (b w) (truth tb)) (plain (Number 0)) w)) used) (tested te) ≡ and_then q (λ holds u. second true holds (λ w. and_then (b w) (tested tb)) u)
    by_test (Over e) = refl
    by_test (Done true u) = truth_is_told tb te np (b u)
    by_test (Done false u) = told_again te np false (tick u)

or_is : (ta tb te : CType) → is_pointer_type te ≡ false → (r : Outcome Value) (b : World → Outcome Value)
    → and_then (and_then (and_then r (λ x w. and_then (tested ta x w) (λ holds w. either holds (plain (Number 1)) (λ w. and_then (b w) (truth tb)) w))) used) (tested te)
    ≡ and_then (and_then r (tested ta)) (λ holds u. second false holds (λ w. and_then (b w) (tested tb)) u)
or_is ta tb te np (Over e) b = refl
or_is ta tb te np (Done x w) b = by_test (tested ta x w)
  where
    by_test : (q : Outcome Bool) → and_then (and_then (and_then q (λ holds w. either holds (plain (Number 1)) (λ w. and_then (b w) (truth tb)) w)) used) (tested te) ≡ and_then q (λ holds u. second false holds (λ w. and_then (b w) (tested tb)) u)
    by_test (Over e) = refl
    by_test (Done true u) = told_again te np true (tick u)
    by_test (Done false u) = truth_is_told tb te np (b u)

module _ (home : Home) (most : ℕ) where
  -- a word is 0 where its value is false
  truth_here : (x : Value) (u : World) (s : Stage) (d : Calls) (y : World) → Stands home s d y u → MeansIn y (register d.regs 10) x → ((register d.regs 10).bits == 0) ≡ not (is_true x)
  truth_here x u s d y st m = truth_is y.beside.functions (stub y) (table y) (register d.regs 10) x st.stubs (seated home s d y u st) m

  -- ---- the truth of a value

  module _ (deep : ℕ) (e : CoreExpr) (at : Spot) (sense : Bool) (bound : ℕ → ℕ) (dp : IsDeeper deep bound) (s : Stage) (c : Calls) (w v : World)
      (code : test_of home sense e at ≡ code_of home e at ++ skips sense ∷ []) (good : GivesValue home most deep e at) (pl : IsPlaced home c.regs.pc (test_of home sense e at)) (st : Stands home s c w v) where
    abbrev cv : Code
    cv = code_of home e at

    abbrev v_end : ℕ
    v_end = c.regs.pc + 4 * length (test_of home sense e at)

    abbrev Ev : End Bool
    Ev = Told home at sense v_end c w

    v_both : IsPlaced home c.regs.pc (cv ++ skips sense ∷ [])
    v_both = placed_same home c.regs.pc c.regs.pc (test_of home sense e at) (cv ++ skips sense ∷ []) refl code pl

    v_last : c.regs.pc + 4 * length cv + 4 ≡ v_end
    v_last = let n = length-append cv (skips sense ∷ []) in let m = ap length code in omega (arith, n, m)

    v_tail : IsPlaced home (c.regs.pc + 4 * length cv) (skips sense ∷ [])
    v_tail = placed_back home c.regs.pc cv (skips sense ∷ []) v_both

    v_rule : (o : Option Rule) (told : Rule → Breach) (x : Value) (u : World) (s : Stage) (q : Calls) (y : World) → Valued home at (c.regs.pc + 4 * length cv) c w s x u q y → Meets most s Ev q y u (λ h m. unless o told (λ w. Done (is_true x) w) u)
    v_rule (Some r) told x u s q y p = undefined_here most s Ev q y u (λ h m. unless (Some r) told (λ w. Done (is_true x) w) u) (told r) (own_step (told r) u p.stands.own) (λ h m. refl)
    v_rule None told x u s q y p =
        let stop = v_tail.near in
        let there = p.there in
        let pc = if is_taken (skip_op sense) (register q.regs 10).bits (register q.regs 0).bits then q.regs.pc + 8 else q.regs.pc + 4 in
        behind_skip most s p.stands.value Ev (skip_op sense) 10 0 q y u (λ h m. Done (is_true x) u) (memory_of home s q y u p.stands) (subst (λ n. InstrAt s.image n (Branch (skip_op sense) 10 0 (pos 8))) (sym there) (first_at home s q y u p.stands (c.regs.pc + 4 * length cv) (skips sense) [] v_tail))
        (omega (arith, stop, there)) (λ h m. here u)
        (at_once most s Ev (with_registers (goes_to pc q.regs) q) y u (λ h m. Done (is_true x) u) (is_true x) (λ h m. refl) (record {
          there =
              ap (λ n. if is_taken (skip_op sense) (register q.regs 10).bits n then q.regs.pc + 8 else q.regs.pc + 4) (ap (λ (z : Word). z.bits) (x0_is q.regs p.stands.regs))
              ∙ ap (λ b. if b then q.regs.pc + 8 else q.regs.pc + 4) (taken sense (is_true x) (register q.regs 10).bits (truth_here x u s q y p.stands p.word))
              ∙ skipped_end (is_skipped sense (is_true x)) q.regs.pc v_end (ap (λ n. n + 4) there ∙ v_last);
          stands = stands_at home s q y u pc p.stands;
          keeps = keeps_then home at c q (with_registers (goes_to pc q.regs) q) w y y p.keeps (keeps_at home at q y pc);
        }))

    value_meets : Meets most s Ev c w v (λ h m. and_then (valued (eval (bound m) h) home.env e v) (tested (type_of e)))
    value_meets =
        in_turn most s (Valued home at (c.regs.pc + 4 * length cv) c w) Ev c w v (λ h m. valued (eval (bound m) h) home.env e v) (λ x u h m. tested (type_of e) x u)
        (good bound dp s c w v (placed_front home c.regs.pc cv (skips sense ∷ []) v_both) st) (λ x u h m. tested_leads (type_of e) x u)
        (λ s x u q y p. v_rule (truth_rule u.objects (is_pointer_type (type_of e)) x) (operand_breach Truth (promoted (int_of (type_of e))) x PlainInt null u) x u s q y p)

  pub value_tells : (deep : ℕ) (e : CoreExpr) (at : Spot) → ((sense : Bool) → test_of home sense e at ≡ code_of home e at ++ skips sense ∷ []) → GivesValue home most deep e at → TellsTruth home most deep e at
  value_tells deep e at code good = λ sense bound dp s c w v pl st. value_meets deep e at sense bound dp s c w v (code sense) good pl st

  -- ---- !a

  module _ (deep l : ℕ) (t : CType) (e a : CoreExpr) (at : Spot) (is : out-CoreExpr e ≡ CoreExpr-F.Unary l t op.Not a) (np : is_pointer_type (type_of e) ≡ false) (good : TellsTruth home most deep a at)
      (sense : Bool) (bound : ℕ → ℕ) (dp : IsDeeper (suc deep) bound) (s : Stage) (c : Calls) (w v : World) (pl : IsPlaced home c.regs.pc (test_of home sense e at)) (st : Stands home s c w v) where
    abbrev E1 : End Bool
    E1 = Told home at sense (c.regs.pc + 4 * length (test_of home sense e at)) c w

    abbrev inner : Family Bool
    inner = λ h m. and_then (valued (eval (bound m - 1) h) home.env a (tick v)) (tested (type_of a))

    abbrev turn : Bool → World → Family Bool
    turn holds u = λ h m. Done (not holds) (tick u)

    code_is_inner : test_of home sense e at ≡ test_of home (not sense) a at
    code_is_inner = layer_is home (Skips sense) e (CoreExpr-F.Unary l t op.Not a) at is

    not_meets : Meets most s E1 c w v (λ h m. and_then (valued (eval (bound m) h) home.env e v) (tested (type_of e)))
    not_meets =
        same_part most s E1 c w v (λ h m. and_then (valued (eval (bound m) h) home.env e v) (tested (type_of e))) (followed inner turn)
        (λ h m. ap (λ r. and_then (and_then r used) (tested (type_of e))) (family_opens deep bound dp home.env e (CoreExpr-F.Unary l t op.Not a) is v h m) ∙ not_is (type_of a) (type_of e) np (valued (eval (bound m - 1) h) home.env a (tick v)))
        (behind_work most s E1 c 1 w v (followed inner turn)
        (in_turn most s (Told home at (not sense) (c.regs.pc + 4 * length (test_of home (not sense) a at)) c w) E1 c w (tick v) inner turn
        (good (not sense) (λ m. bound m - 1) (less deep bound dp) s c w (tick v) (placed_same home c.regs.pc c.regs.pc (test_of home sense e at) (test_of home (not sense) a at) refl code_is_inner pl) (stands_worked home s c w v 1 st))
        (λ holds u h m. one_more (Work 1) u)
        (λ s holds u q y p. behind_work most s E1 q 1 y u (turn holds u) (at_once most s E1 q y (tick u) (turn holds u) (not holds) (λ h m. refl) (record {
          there = p.there ∙ ap (λ b. if b then c.regs.pc + 4 * length (test_of home (not sense) a at) + 4 else c.regs.pc + 4 * length (test_of home (not sense) a at)) (turned sense holds) ∙ ap (λ (k : Code). told_at sense (not holds) (c.regs.pc + 4 * length k)) (sym code_is_inner);
          stands = stands_worked home s q y u 1 p.stands;
          keeps = p.keeps;
        })))))

  pub not_tells : (deep l : ℕ) (t : CType) (e a : CoreExpr) (at : Spot) → out-CoreExpr e ≡ CoreExpr-F.Unary l t op.Not a → is_pointer_type (type_of e) ≡ false → TellsTruth home most deep a at → TellsTruth home most (suc deep) e at
  not_tells deep l t e a at is np good = λ sense bound dp s c w v pl st. not_meets deep l t e a at is np good sense bound dp s c w v pl st

  -- ---- a && b, a || b

  -- how many words more the jump over the second condition leads
  abbrev pub more : Bool → Bool → ℕ
  more f sense = if is_skipped sense (not f) then 1 else 0

  module _ (deep : ℕ) (e a b : CoreExpr) (at : Spot) (f sense : Bool) (bound : ℕ → ℕ) (dp : IsDeeper (suc deep) bound) (s : Stage) (c : Calls) (w v : World)
      (code : test_of home sense e at ≡ test_of home f a at ++ over (length (test_of home sense b at) + more f sense) ∷ test_of home sense b at)
      (good_a : TellsTruth home most deep a at) (good_b : TellsTruth home most deep b at) (pl : IsPlaced home c.regs.pc (test_of home sense e at)) (st : Stands home s c w v) where
    abbrev ca : Code
    ca = test_of home f a at

    abbrev cb : Code
    cb = test_of home sense b at

    abbrev end : ℕ
    end = c.regs.pc + 4 * length (test_of home sense e at)

    abbrev E : End Bool
    E = Told home at sense end c w

    abbrev jump : Symbolic
    jump = over (length cb + more f sense)

    abbrev less_bound : ℕ → ℕ
    less_bound = λ m. bound m - 1

    abbrev first : Family Bool
    first = λ h m. and_then (valued (eval (less_bound m) h) home.env a (tick v)) (tested (type_of a))

    abbrev last : World → Family Bool
    last u = λ h m. and_then (valued (eval (less_bound m) h) home.env b u) (tested (type_of b))

    both : IsPlaced home c.regs.pc (ca ++ jump ∷ cb)
    both = placed_same home c.regs.pc c.regs.pc (test_of home sense e at) (ca ++ jump ∷ cb) refl code pl

    tail : IsPlaced home (c.regs.pc + 4 * length ca) (jump ∷ cb)
    tail = placed_back home c.regs.pc ca (jump ∷ cb) both

    whole : end ≡ c.regs.pc + 4 * length ca + 4 + 4 * length cb
    whole = let n = length-append ca (jump ∷ cb) in let m = ap length code in omega (arith, n, m)

    last_leads : (u : World) → Leading u (last u)
    last_leads u = λ h m. leads_then u (valued (eval (less_bound m) h) home.env b u) (tested (type_of b)) (valued_leads (less_bound m) h home.env b u) (λ x y. tested_leads (type_of b) x y)

    second_leads : (t holds : Bool) (u : World) → is_skipped f holds ≡ t → Leading u (λ h m. if t then and_then (last u h m) (λ z w. Done z (tick w)) else Done holds (tick u))
    second_leads true holds u e = λ h m. leads_then u (last u h m) (λ z w. Done z (tick w)) (last_leads u h m) (λ z y. one_more (Work 1) y)
    second_leads false holds u e = λ h m. one_more (Work 1) u

    -- the second condition is asked
    asked : (holds : Bool) (u : World) (s : Stage) (q : Calls) (y : World) → q.regs.pc ≡ c.regs.pc + 4 * length ca + 4 → Stands home s q y u → Keeps home at c w q y → Meets most s E q y u (λ h m. and_then (last u h m) (λ z w. Done z (tick w)))
    asked holds u s q y there stands keeps =
        in_turn most s (Told home at sense (q.regs.pc + 4 * length cb) q y) E q y u (last u) (λ z r h m. Done z (tick r))
        (good_b sense less_bound (less deep bound dp) s q y u (placed_same home (c.regs.pc + 4 * length ca + 4 * length (jump ∷ [])) q.regs.pc cb cb (pc_is there) refl (placed_back home (c.regs.pc + 4 * length ca) (jump ∷ []) cb tail)) stands)
        (λ z r h m. one_more (Work 1) r)
        (λ s z r k x p. behind_work most s E k 1 x r (λ h m. Done z (tick r)) (at_once most s E k x (tick r) (λ h m. Done z (tick r)) z (λ h m. refl) (record {
          there = p.there ∙ ap (λ n. told_at sense z n) (ap (λ n. n + 4 * length cb) there ∙ sym whole);
          stands = stands_worked home s k x r 1 p.stands;
          keeps = keeps_then home at c q k w y x keeps p.keeps;
        })))
      where
        pc_is : q.regs.pc ≡ c.regs.pc + 4 * length ca + 4 → c.regs.pc + 4 * length ca + 4 * length (jump ∷ []) ≡ q.regs.pc
        pc_is e = omega (arith, e)

    -- it is left out, and the first one decides
    decided : (holds : Bool) (u : World) (s : Stage) (q : Calls) (y : World) → is_skipped f holds ≡ false → q.regs.pc ≡ c.regs.pc + 4 * length ca → Stands home s q y u → Keeps home at c w q y → Meets most s E q y u (λ h m. Done holds (tick u))
    decided holds u s q y other there stands keeps =
        let n = length cb + more f sense in
        let pc = q.regs.pc + (4 * n + 4) in
        behind_over most s stands.value E n q y u (λ h m. Done holds (tick u)) (memory_of home s q y u stands) (subst (λ k. InstrAt s.image k (Jal 0 (if nat_lt n 262143 then pos (4 * n + 4) else pos 0))) (sym there) (first_at home s q y u stands (c.regs.pc + 4 * length ca) jump cb tail))
        (is_short (more f sense) (at_most (is_skipped sense (not f)))) (is_near (more f sense) (at_most (is_skipped sense (not f)))) (λ h m. one_more (Work 1) u)
        (behind_work most s E (with_registers (goes_to pc q.regs) q) 1 y u (λ h m. Done holds (tick u)) (at_once most s E (with_registers (goes_to pc q.regs) q) y (tick u) (λ h m. Done holds (tick u)) holds (λ h m. refl) (record {
          there = lands (is_skipped sense (not f)) there ∙ ap (λ t. if is_skipped sense t then end + 4 else end) (sym (yes_is f holds other));
          stands = stands_worked home s (with_registers (goes_to pc q.regs) q) y u 1 (stands_at home s q y u pc stands);
          keeps = keeps_then home at c q (with_registers (goes_to pc q.regs) q) w y y keeps (keeps_at home at q y pc);
        })))
      where
        at_most : (t : Bool) → (if t then 1 else 0) ≤ 1
        at_most true = omega arith
        at_most false = omega arith

        is_short : (k : ℕ) → k ≤ 1 → nat_lt (length cb + k) 262143 ≡ true
        is_short k le = let a = tail.short in let z : length cb + k < 262143 = omega (arith, a, le) in grind (arith, nat_tests, z)

        is_near : (k : ℕ) → k ≤ 1 → q.regs.pc + (4 * (length cb + k) + 4) < 2 ^ 32
        is_near k le = let a = tail.near in omega (arith, a, le, there)

        lands : (t : Bool) → q.regs.pc ≡ c.regs.pc + 4 * length ca → q.regs.pc + (4 * (length cb + (if t then 1 else 0)) + 4) ≡ (if t then end + 4 else end)
        lands true e = let a = whole in omega (arith, a, e)
        lands false e = let a = whole in omega (arith, a, e)

        yes_is : (f holds : Bool) → is_skipped f holds ≡ false → holds ≡ not f
        yes_is true holds e = e
        yes_is false true e = refl
        yes_is false false e = absurd (cc (e))

    by_first : (t holds : Bool) (u : World) (s : Stage) (q : Calls) (y : World) → is_skipped f holds ≡ t → q.regs.pc ≡ (if t then c.regs.pc + 4 * length ca + 4 else c.regs.pc + 4 * length ca) → Stands home s q y u → Keeps home at c w q y → Meets most s E q y u (λ h m. if t then and_then (last u h m) (λ z w. Done z (tick w)) else Done holds (tick u))
    by_first true holds u s q y e there stands keeps = asked holds u s q y there stands keeps
    by_first false holds u s q y e there stands keeps = decided holds u s q y e there stands keeps

    pub joined_meets : Meets most s E c w (tick v) (followed first (λ holds u h m. second f holds (λ r. last r h m) u))
    joined_meets =
        in_turn most s (Told home at f (c.regs.pc + 4 * length ca) c w) E c w (tick v) first (λ holds u h m. second f holds (λ r. last r h m) u)
        (good_a f less_bound (less deep bound dp) s c w (tick v) (placed_front home c.regs.pc ca (jump ∷ cb) both) (stands_worked home s c w v 1 st))
        (λ holds u. second_leads (is_skipped f holds) holds u refl)
        (λ s holds u q y p. by_first (is_skipped f holds) holds u s q y refl p.there p.stands p.keeps)

  pub and_tells : (deep l : ℕ) (t : CType) (e a b : CoreExpr) (at : Spot) → out-CoreExpr e ≡ CoreExpr-F.And l t a b → is_pointer_type (type_of e) ≡ false → TellsTruth home most deep a at → TellsTruth home most deep b at → TellsTruth home most (suc deep) e at
  and_tells deep l t e a b at is np good_a good_b = λ sense bound dp s c w v pl st.
      let code = layer_is home (Skips sense) e (CoreExpr-F.And l t a b) at is ∙ ap (λ k. test_of home true a at ++ over (length (test_of home sense b at) + (if k then 1 else 0)) ∷ test_of home sense b at) (decides sense) in
      let E = Told home at sense (c.regs.pc + 4 * length (test_of home sense e at)) c w in
      let r : Family Bool = followed (λ h m. and_then (valued (eval (bound m - 1) h) home.env a (tick v)) (tested (type_of a))) (λ holds u h m. second true holds (λ r. and_then (valued (eval (bound m - 1) h) home.env b r) (tested (type_of b))) u) in
      same_part most s E c w v (λ h m. and_then (valued (eval (bound m) h) home.env e v) (tested (type_of e))) r
      (λ h m. ap (λ o. and_then (and_then o used) (tested (type_of e))) (family_opens deep bound dp home.env e (CoreExpr-F.And l t a b) is v h m) ∙ and_is (type_of a) (type_of b) (type_of e) np (valued (eval (bound m - 1) h) home.env a (tick v)) (λ u. valued (eval (bound m - 1) h) home.env b u))
      (behind_work most s E c 1 w v r (joined_meets deep e a b at true sense bound dp s c w v code good_a good_b pl st))
    where
      decides : (sense : Bool) → not sense ≡ is_skipped sense false
      decides true = refl
      decides false = refl

  pub or_tells : (deep l : ℕ) (t : CType) (e a b : CoreExpr) (at : Spot) → out-CoreExpr e ≡ CoreExpr-F.Or l t a b → is_pointer_type (type_of e) ≡ false → TellsTruth home most deep a at → TellsTruth home most deep b at → TellsTruth home most (suc deep) e at
  or_tells deep l t e a b at is np good_a good_b = λ sense bound dp s c w v pl st.
      let code = layer_is home (Skips sense) e (CoreExpr-F.Or l t a b) at is ∙ ap (λ k. test_of home false a at ++ over (length (test_of home sense b at) + (if k then 1 else 0)) ∷ test_of home sense b at) (decides sense) in
      let E = Told home at sense (c.regs.pc + 4 * length (test_of home sense e at)) c w in
      let r : Family Bool = followed (λ h m. and_then (valued (eval (bound m - 1) h) home.env a (tick v)) (tested (type_of a))) (λ holds u h m. second false holds (λ r. and_then (valued (eval (bound m - 1) h) home.env b r) (tested (type_of b))) u) in
      same_part most s E c w v (λ h m. and_then (valued (eval (bound m) h) home.env e v) (tested (type_of e))) r
      (λ h m. ap (λ o. and_then (and_then o used) (tested (type_of e))) (family_opens deep bound dp home.env e (CoreExpr-F.Or l t a b) is v h m) ∙ or_is (type_of a) (type_of b) (type_of e) np (valued (eval (bound m - 1) h) home.env a (tick v)) (λ u. valued (eval (bound m - 1) h) home.env b u))
      (behind_work most s E c 1 w v r (joined_meets deep e a b at false sense bound dp s c w v code good_a good_b pl st))
    where
      decides : (sense : Bool) → sense ≡ is_skipped sense true
      decides true = refl
      decides false = refl
