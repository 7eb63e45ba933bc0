-- A comparison at a loop's end: its branch leads back.
use Rattle.std.proofs.Common.{◌≡◌, ℕ, zero, suc, ◌+◌, ◌-◌, ◌*◌, ◌^◌, ◌<◌, ◌≤◌, ◌==◌, not, Bool, true, false, if◌then◌else◌, ℤ, pos, [], ◌∷◌, ◌++◌, length, Option, Some, None, refl, sym, ap, subst, ◌∙◌, arith, length-append}
use Rattle.std.specs.Prelude.{neg_ℤ}
use Rattle.sc_base.specs.declared.integer.Int.{Int}
use Rattle.sc_base.specs.declared.operator.Op.{Op}
use Rattle.sc_base.specs.declared.report.Rule.{Rule}
use Rattle.sc_base.specs.declared.report.Rule.TheVariants.{U15}
use Rattle.sc_isa.specs.declared.instruction.Instr.TheVariants.{Branch}
use Rattle.sc_types.specs.declared.ctype.CType.{CType}
use Rattle.sc_core.specs.declared.expression.CoreExpr.{CoreExpr, out-CoreExpr}
use Rattle.sc_core.specs.declared.expression.CoreExpr.TheOpen.{CoreExpr-F}
use Rattle.sc_core.specs.Types.{type_of}
use Rattle.sc_ops.specs.Numbers.{promoted}
use Rattle.sc_ops.specs.Operators.{rule_of, value_of}
use Rattle.sc_emu.specs.Operations.{bits_of, is_taken, plain, sum}
use Rattle.sc_emu.specs.Registers.{register}
use Rattle.sc_meaning.specs.Accesses.{computed, tested}
use Rattle.sc_meaning.specs.Calls.{eval}
use Rattle.sc_meaning.specs.Expressions.{Answer, used}
use Rattle.sc_meaning.specs.Expressions as meaning
use Rattle.sc_meaning.specs.Outcomes.{Breach, Done, Outcome, Over, Undefined, and_then, operand_breach, unless, world_after}
use Rattle.sc_meaning.specs.Statements.{condition}
use Rattle.sc_meaning.specs.Values.{FunctionAt, Number, Pointer, Value, int_of, is_pointer_type}
use Rattle.sc_meaning.specs.Versions.{History}
use Rattle.sc_meaning.specs.World.{Work, World, tick}
use Rattle.sc_meaning.proofs.Growing.{leads_then}
use Rattle.sc_meaning.proofs.Steps.{on as on_lead, one_more}
use Rattle.sc_mixed.specs.Bridge.{with_registers}
use Rattle.sc_mixed.specs.declared.calls.Calls.{Calls}
use Rattle.sc_mixed.specs.declared.calls.Next.TheVariants.{Executes}
use Rattle.sc_mixed_means.specs.Stages.{Stage}
use Rattle.sc_gen_code.specs.declared.symbolic.Symbolic.{Symbolic}
use Rattle.sc_gen_code.specs.Code.{Code}
use Rattle.sc_gen_code.specs.Operators.{branch, is_comparison}
use Rattle.sc_gen_operand.specs.Plans.{is_plain}
use Rattle.sc_compiled_values.specs.Operators.{takes}
use Rattle.sc_compiled_values.proofs.Constants.{branches}
use Rattle.sc_compiled_expressions.specs.Instructions.{InstrAt, goes_to}
use Rattle.sc_compiled_expressions.specs.Placing.{WordAt}
use Rattle.sc_compiled_expressions.specs.Parts.{Family, Leading, Means, followed, looking}
use Rattle.sc_compiled_expressions.proofs.Moving.{GoesOneWay, credit_means, lost_means, means_same, quiet_means, worked_means}
use Rattle.sc_compiled_expressions.proofs.Ways.{computes_one_way}
use Rattle.sc_compiled_expressions.specs.Standing.{Home, MeansIn, Stands}
use Rattle.sc_compiled_expressions.specs.Good.{IsDeeper, IsPlaced}
use Rattle.sc_compiled_expressions.proofs.Standing.{first_at, keeps_at, keeps_then, memory_of, own_step, placed_back, placed_front, placed_same, stands_at, stands_worked}
use Rattle.sc_compiled_expressions.proofs.Nodes.{family_opens, less}
use Rattle.sc_compiled_expressions.proofs.Numbers.{index_zero}
use Rattle.sc_compiled_bodies.specs.Good.{Turned, TurnsBack, back_code, spot}
use Rattle.sc_compiled_expressions.specs.Operands.{GivesPair, PairIn, both_values}
use Rattle.sc_compiled_expressions.proofs.Comparing as comparing
use Rattle.sc_compiled_expressions.proofs.Comparing.{IsBranch, any_branch, joins}
use Rattle.sc_compiled_expressions.proofs.Operating.{same_word, two_is}
use Rattle.sc_compiled_expressions.proofs.Straight.{near_next}
use Rattle.sc_compiled_bodies.proofs.Turning.{lands_back}
use Rattle.sc_compiled_expressions.proofs.Joining.{regroup}

module _ (home : Home) (most deep l : ℕ) (t : CType) (o : Op) (e a b : CoreExpr) (is : out-CoreExpr e ≡ CoreExpr-F.Binary l t o a b) (compares : is_comparison o ≡ true) (whole_type : is_pointer_type (type_of e) ≡ false) (top from rx ry : ℕ) (cp : Code)
    (code : back_code home e top from ≡ cp ++ (branch o (is_plain a) true rx ry (neg_ℤ (pos (4 * (from + length cp - top)))) ∷ [])) (low : top ≤ from + length cp) (good : GivesPair home most deep cp a b rx ry (spot home))
    (bound : ℕ → ℕ) (dp : IsDeeper (suc deep) bound) (s : Stage) (c : Calls) (w v : World) (there : c.regs.pc ≡ home.base + 4 * from) (pl : IsPlaced home c.regs.pc (back_code home e top from)) (st : Stands home s c w v)
    (rest : Bool → World → Family Answer) (leads : (holds : Bool) (u : World) → Leading u (rest holds u)) (n : ℕ) (le : suc n ≤ most)
    (again : (q : Stage) (u : World) (d : Calls) (y : World) → Turned home top c w q u d y → Means q n d y u (looking q.look.step (rest true u)))
    (on : (q : Stage) (u : World) (d : Calls) (y : World) → Turned home (from + length (back_code home e top from)) c w q u d y → Means q (suc n) d y u (rest false u)) where
  abbrev k : Int
  k = int_of (type_of a)

  abbrev kb : Int
  kb = int_of (type_of b)

  abbrev here : ℕ
  here = from + length cp

  abbrev back_by : ℤ
  back_by = neg_ℤ (pos (4 * (here - top)))

  abbrev last : Symbolic
  last = branch o (is_plain a) true rx ry back_by

  abbrev test : Value → Value → World → Outcome Bool
  test = comparing.test home most deep l t o e a b (spot home) is compares whole_type

  both : IsPlaced home c.regs.pc (cp ++ (last ∷ []))
  both = placed_same home c.regs.pc c.regs.pc (back_code home e top from) (cp ++ (last ∷ [])) refl code pl

  at_last : IsPlaced home (c.regs.pc + 4 * length cp) (last ∷ [])
  at_last = placed_back home c.regs.pc cp (last ∷ []) both

  -- what comes behind the test
  abbrev behind : Value → Value → World → Family Answer
  behind x z u = λ h m. and_then (test x z u) (λ holds i. rest holds i h m)

  module _ (q : Stage) (u : World) (d : Calls) (y : World) (xz : Value × Value) (p : PairIn home (spot home) rx ry (c.regs.pc + 4 * length cp) c w q xz u d y) where
    here_pc : d.regs.pc ≡ home.base + 4 * here
    here_pc = let at_it = p.there in omega (arith, at_it, there)

    abbrev to : ℕ
    to = sum d.regs.pc (bits_of back_by)

    to_is : to ≡ home.base + 4 * top
    to_is = let near = at_last.near in ap (λ k. sum k (bits_of back_by)) here_pc ∙ lands_back home.base here top low (omega (arith, near, there))

    module _ (i j : ℕ) (is_i : register d.regs rx ≡ plain i) (is_j : register d.regs ry ≡ plain j) (wide : i < 2 ^ 32) (broad : j < 2 ^ 32) where
      abbrev br : IsBranch back_by last
      br = any_branch o (is_plain a) true rx ry back_by

      word : WordAt q.image p.stands.value d.regs.pc last
      word = subst (λ pc. WordAt q.image p.stands.value pc last) (sym p.there) (first_at home q d y u p.stands (c.regs.pc + 4 * length cp) last [] at_last)

      instr : InstrAt q.image d.regs.pc (Branch br.by br.p br.q back_by)
      instr = subst (λ x. WordAt q.image p.stands.value d.regs.pc x) br.is word

      abbrev truth : Bool
      truth = not (value_of o k i j == 0)

      is_told : is_taken br.by (register d.regs br.p).bits (register d.regs br.q).bits ≡ truth
      is_told =
          sym (ap (λ x. takes x (register d.regs)) br.is)
          ∙ ap (λ sign. takes (branch o sign true rx ry back_by) (register d.regs)) (comparing.unsigned_is home most deep l t o e a b (spot home) is compares whole_type)
          ∙ branches (register d.regs) rx ry i j (record { zero = index_zero d.regs.words p.stands.regs; left = is_i; right = is_j; wide = wide; broad = broad }) o k true back_by compares

      goes : (holds : Bool) → truth ≡ holds → GoesOneWay q d (goes_to (if holds then to else sum d.regs.pc 4) d.regs) y
      goes holds f = computes_one_way q.image (Branch br.by br.p br.q back_by) d.regs (goes_to (if holds then to else sum d.regs.pc 4) d.regs) y (memory_of home q d y u p.stands) instr (ap (λ z. Some (goes_to (if z then to else sum d.regs.pc 4) d.regs)) (is_told ∙ f))

      leads_on : (holds : Bool) → Leading u (λ h m. rest holds (tick u) h m)
      leads_on holds = λ h m. on_lead u (tick u) (world_after (rest holds (tick u) h m)) (one_more (Work 1) u) (leads holds (tick u) h m)

      by_branch : (holds : Bool) → truth ≡ holds → Means q (suc n) d y u (λ h m. rest holds (tick u) h m)
      by_branch true f =
          credit_means q n d (goes_to to d.regs) y u (λ h m. rest true (tick u) h m) (leads_on true) (goes true f)
          (worked_means q n Executes (with_registers (goes_to to d.regs) d) 1 y u (looking q.look.step (rest true (tick u)))
          (again q (tick u) (with_registers (goes_to to d.regs) d) y (record {
            there = to_is;
            stands = stands_worked home q (with_registers (goes_to to d.regs) d) y u 1 (stands_at home q d y u to p.stands);
            keeps = keeps_then home (spot home) c d (with_registers (goes_to to d.regs) d) w y y p.keeps (keeps_at home (spot home) d y to);
          })))
      by_branch false f =
          let near = instr.near in
          let next = near_next d.regs.pc near in
          let m = ap length code in
          let g = length-append cp (last ∷ []) in
          let at_it = here_pc in
          let pc : ℕ = sum d.regs.pc 4 in
          quiet_means q (suc n) d (goes_to pc d.regs) y u (λ h i2. rest false (tick u) h i2) (leads_on false) (goes false f)
          (worked_means q (suc n) Executes (with_registers (goes_to pc d.regs) d) 1 y u (rest false (tick u))
          (on q (tick u) (with_registers (goes_to pc d.regs) d) y (record {
            there = next ∙ omega (arith, at_it, m, g);
            stands = stands_worked home q (with_registers (goes_to pc d.regs) d) y u 1 (stands_at home q d y u pc p.stands);
            keeps = keeps_then home (spot home) c d (with_registers (goes_to pc d.regs) d) w y y p.keeps (keeps_at home (spot home) d y pc);
          })))

  lost_here : (q : Stage) (u : World) (d : Calls) (y : World) (r : Family Answer) (g : Breach) → Stands home q d y u → ((h : History) (m : ℕ) → r h m ≡ Over (Undefined g u)) → Means q (suc n) d y u r
  lost_here q u d y r g stands same = lost_means q (suc n) Executes d y u r g (own_step g u stands.own) (λ h live m. same h m)

  at_pair : (q : Stage) (xz : Value × Value) (u : World) (d : Calls) (y : World) → PairIn home (spot home) rx ry (c.regs.pc + 4 * length cp) c w q xz u d y → Means q (suc n) d y u (behind xz.0 xz.1 u)
  at_pair q xz u d y p = by_values xz.0 xz.1 p.left p.right
    where
      by_values : (x z : Value) → MeansIn y (register d.regs rx) x → MeansIn y (register d.regs ry) z → Means q (suc n) d y u (behind x z u)
      by_values (Number i) (Number j) mx mz = by_rule (rule_of o k i j) refl
        where
          by_rule : (r : Option Rule) → rule_of o k i j ≡ r
              → Means q (suc n) d y u (λ h m. and_then (and_then (and_then (and_then (unless r (operand_breach o (promoted k) (Number i) (promoted kb) (Number j) u) (λ f. Done (Number (value_of o k i j)) f) u) meaning.plain) used) (tested (type_of e))) (λ holds f. rest holds f h m))
          by_rule None rule =
              means_same q (suc n) Executes d y u _ (λ h m. rest (not (value_of o k i j == 0)) (tick u) h m)
              (λ h live m. ap (λ g. and_then g (λ holds f. rest holds f h m)) (comparing.true_number home most deep l t o e a b (spot home) is compares whole_type (value_of o k i j) (tick u)))
              (by_branch q u d y xz p i j (same_word (register d.regs rx) i mx.stands.0 mx.stands.1) (same_word (register d.regs ry) j mz.stands.0 mz.stands.1) (subst (λ f. f < 4294967296) mx.stands.0 mx.wide) (subst (λ f. f < 4294967296) mz.stands.0 mz.wide) (not (value_of o k i j == 0)) refl)
          by_rule (Some r) rule = lost_here q u d y _ (operand_breach o (promoted k) (Number i) (promoted kb) (Number j) u r) p.stands (λ h m. refl)
      by_values (FunctionAt key) z mx mz = lost_here q u d y _ (operand_breach o (promoted k) (FunctionAt key) (promoted kb) z u U15) p.stands (λ h m. refl)
      by_values (Pointer g i) z mx mz = lost_here q u d y _ (operand_breach o (promoted k) (Pointer g i) (promoted kb) z u U15) p.stands (λ h m. refl)
      by_values (Number i) (FunctionAt key) mx mz = lost_here q u d y _ (operand_breach o (promoted k) (Number i) (promoted kb) (FunctionAt key) u U15) p.stands (λ h m. refl)
      by_values (Number i) (Pointer g j) mx mz = lost_here q u d y _ (operand_breach o (promoted k) (Number i) (promoted kb) (Pointer g j) u U15) p.stands (λ h m. refl)

  pub compare_turn : Means s (suc n) c w v (followed (λ h m. condition (eval (bound m) h) home.env e v) rest)
  compare_turn =
      means_same s (suc n) Executes c w v (followed (λ h m. condition (eval (bound m) h) home.env e v) rest) (followed (λ h m. both_values (bound m - 1) h home.env a b (tick v)) (λ p u. behind p.0 p.1 u))
      (λ h live m.
      ap (λ r. and_then (and_then (and_then r used) (tested (type_of e))) (λ holds i. rest holds i h m))
      (family_opens deep bound dp home.env e (CoreExpr-F.Binary l t o a b) is v h m ∙ two_is (bound m - 1) h home.env a b (tick v) (λ x z u. and_then (computed o (int_of (type_of a)) x (int_of (type_of b)) z u) meaning.plain))
      ∙ ap (λ r. and_then r (λ holds i. rest holds i h m)) (joins (both_values (bound m - 1) h home.env a b (tick v)) (λ x z u. and_then (computed o (int_of (type_of a)) x (int_of (type_of b)) z u) meaning.plain) (tested (type_of e)))
      ∙ regroup (both_values (bound m - 1) h home.env a b (tick v)) (λ p u. test p.0 p.1 u) (λ holds i. rest holds i h m))
      (worked_means s (suc n) Executes c 1 w v (followed (λ h m. both_values (bound m - 1) h home.env a b (tick v)) (λ p u. behind p.0 p.1 u))
      (good (λ m. bound m - 1) (less deep bound dp) s c w (tick v) (placed_front home c.regs.pc cp (last ∷ []) both) (stands_worked home s c w v 1 st) (λ p u. behind p.0 p.1 u)
      (λ p u h m. leads_then u (test p.0 p.1 u) (λ holds i. rest holds i h m) (comparing.test_leads home most deep l t o e a b (spot home) is compares whole_type p.0 p.1 u) (λ holds i. leads holds i h m)) (suc n) le
      (λ q p u d y i. at_pair q p u d y i)))

pub compare_turns : (home : Home) (most deep l : ℕ) (t : CType) (o : Op) (e a b : CoreExpr) → out-CoreExpr e ≡ CoreExpr-F.Binary l t o a b → is_comparison o ≡ true → is_pointer_type (type_of e) ≡ false → (top from rx ry : ℕ) (cp : Code)
    → back_code home e top from ≡ cp ++ (branch o (is_plain a) true rx ry (neg_ℤ (pos (4 * (from + length cp - top)))) ∷ []) → top ≤ from + length cp → GivesPair home most deep cp a b rx ry (spot home) → TurnsBack home most (suc deep) e top from
compare_turns home most deep l t o e a b is compares whole_type top from rx ry cp code low good = λ bound dp s c w v there pl st rest leads n le again on.
    compare_turn home most deep l t o e a b is compares whole_type top from rx ry cp code low good bound dp s c w v there pl st rest leads n le again on
