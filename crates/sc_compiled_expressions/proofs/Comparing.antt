-- A condition that compares two integers: the operands, and one branch.
use Rattle.std.proofs.Common.{◌≡◌, ◌⊎◌, inl, inr, ℕ, zero, suc, ◌+◌, ◌-◌, ◌*◌, ◌%◌, ◌^◌, ◌<◌, ◌≤◌, ◌==◌, ◌||◌, not, Bool, true, false, if◌then◌else◌, nat_lt, ℤ, pos, List, [], ◌∷◌, ◌++◌, length, Option, Some, None, refl, sym, ap, ap₂, subst, ◌∙◌, arith, append_assoc, length-append}
use Rattle.sc_base.specs.declared.integer.Int.{Int}
use Rattle.sc_base.specs.declared.key.Key.{Key}
use Rattle.sc_base.specs.declared.memory.Word.{Word}
use Rattle.sc_base.specs.declared.operator.Op.{Op}
use Rattle.sc_base.specs.declared.operator.Op.TheVariants as op
use Rattle.sc_base.specs.declared.report.Rule.{Rule}
use Rattle.sc_base.specs.declared.report.Rule.TheVariants.{U15}
use Rattle.sc_isa.specs.declared.instruction.BranchOp.{BranchOp}
use Rattle.sc_isa.specs.declared.instruction.Instr.TheVariants.{Branch}
use Rattle.sc_types.specs.declared.ctype.CType.{CType, out-CType}
use Rattle.sc_core.specs.declared.expression.CoreExpr.{CoreExpr, out-CoreExpr}
use Rattle.sc_core.specs.declared.expression.CoreExpr.TheOpen.{CoreExpr-F}
use Rattle.sc_core.specs.Types.{type_of}
use Rattle.sc_ops.specs.Numbers.{promoted}
use Rattle.sc_ops.specs.Operators.{rule_of, value_of}
use Rattle.sc_emu.specs.Operations.{is_taken, plain}
use Rattle.sc_emu.specs.Registers.{register}
use Rattle.sc_meaning.specs.Accesses.{computed, tested}
use Rattle.sc_meaning.specs.Calls.{eval}
use Rattle.sc_meaning.specs.Expressions.{Answer, used, valued}
use Rattle.sc_meaning.specs.Expressions as meaning
use Rattle.sc_meaning.specs.Laws.{Leads}
use Rattle.sc_meaning.specs.Outcomes.{Done, Outcome, Over, and_then, operand_breach, unless, world_after}
use Rattle.sc_meaning.specs.Values.{FunctionAt, Number, Pointer, Value, int_of, is_pointer_type}
use Rattle.sc_meaning.specs.Versions.{History}
use Rattle.sc_meaning.specs.World.{Work, World, tick}
use Rattle.sc_meaning.proofs.Growing.{leads_then}
use Rattle.sc_meaning.proofs.Steps.{here, one_more}
use Rattle.sc_mixed.specs.declared.calls.Calls.{Calls}
use Rattle.sc_mixed_means.specs.Stages.{Stage}
use Rattle.sc_gen_code.specs.declared.style.Spot.{Spot}
use Rattle.sc_gen_code.specs.declared.symbolic.Symbolic.{Symbolic}
use Rattle.sc_gen_code.specs.declared.symbolic.Symbolic.TheVariants.{Plain}
use Rattle.sc_gen_code.specs.Code.{Code}
use Rattle.sc_gen_code.specs.Operators.{branch, branch_op, is_comparison, is_swapped, is_unsigned, negated}
use Rattle.sc_gen_code.specs.Styles.{deeper}
use Rattle.sc_gen_operand.specs.declared.plans.Operands.{Operands as How}
use Rattle.sc_gen_operand.specs.declared.plans.Plan.{Plan}
use Rattle.sc_gen_operand.specs.declared.plans.Plan.TheVariants.{Late, Register}
use Rattle.sc_gen_operand.specs.declared.plans.Want.TheVariants.{Word as AsWord}
use Rattle.sc_gen_operand.specs.Places.{constant, is_leaf, stands}
use Rattle.sc_gen_operand.specs.Plans.{Skips, first, first_register, into, is_plain, late, late_register, left_code, pair_of, right_code, two, unless as unless_standing, waiting_plan}
use Rattle.sc_gen_operand.specs.Templates.{branched, pair_compared, value_compared}
use Rattle.sc_gen_expr.specs.Expressions.{part_of, word_layer}
use Rattle.sc_compiled_values.specs.Operators.{Operands, takes, told}
use Rattle.sc_compiled_values.proofs.Constants.{branches}
use Rattle.sc_compiled_expressions.specs.Instructions.{InstrAt, goes_to}
use Rattle.sc_compiled_expressions.specs.Placing.{WordAt}
use Rattle.sc_compiled_expressions.specs.Parts.{End, Family, Leading, Meets}
use Rattle.sc_compiled_expressions.proofs.Behind.{behind_skip}
use Rattle.sc_compiled_expressions.proofs.Joining.{at_once, behind_work, in_turn, same_part, undefined_here}
use Rattle.sc_mixed.specs.Bridge.{with_registers}
use Rattle.sc_compiled_expressions.specs.Standing.{Home, Keeps, MeansIn, Stands}
use Rattle.sc_compiled_expressions.specs.Good.{GivesValue, IsDeeper, IsPlaced, TellsTruth, Told, code_of, is_skipped, test_of, told_at}
use Rattle.sc_compiled_expressions.proofs.Standing.{first_at, keeps_at, keeps_then, memory_of, own_step, placed_back, placed_front, placed_same, stands_at, stands_worked}
use Rattle.sc_compiled_expressions.proofs.Conditions.{tested_leads}
use Rattle.sc_compiled_expressions.proofs.Nodes.{family_opens, layer_is, less, used_leads}
use Rattle.sc_compiled_expressions.proofs.Numbers.{index_zero}
use Rattle.sc_compiled_expressions.specs.Direct.{EvaluatesTo, GivesLeaf}
use Rattle.sc_compiled_expressions.proofs.Loading.{machine_is}
use Rattle.sc_compiled_expressions.specs.Operands.{GivesIn, GivesPair, PairIn, both_values}
use Rattle.sc_compiled_expressions.proofs.Operands.{apart_given, first_given, first_is, late_given, late_is, waits_given}
use Rattle.sc_compiled_expressions.proofs.Operating.{computed_leads, same_word, two_is}
use Rattle.sc_compiled_expressions.proofs.Pairs.{pair_beside, pair_waits}

-- the truth that is told is the one by which a word is left out
left_out : (sense : Bool) (n : ℕ) → told sense n ≡ is_skipped sense (not (n == 0))
left_out true n = refl
left_out false n = double (n == 0)
  where
    double : (b : Bool) → b ≡ not (not b)
    double true = refl
    double false = refl

-- a branch as an instruction
pub record IsBranch (z : ℤ) (x : Symbolic) : Type 0 where
  pub by : BranchOp
  pub p : ℕ
  pub q : ℕ
  pub is : x ≡ Plain (Branch by p q z)

branch_is : (swapped : Bool) (b : BranchOp) (x y : ℕ) (z : ℤ) → IsBranch z (Plain (if swapped then Branch b y x z else Branch b x y z))
branch_is true b x y z = record { by = b; p = y; q = x; is = refl }
branch_is false b x y z = record { by = b; p = x; q = y; is = refl }

pub any_branch : (o : Op) (u sense : Bool) (x y : ℕ) (z : ℤ) → IsBranch z (branch o u sense x y z)
any_branch o u sense x y z = branch_is (is_swapped (if sense then o else negated o)) (branch_op (if sense then o else negated o) u) x y z

pub joins : (o : Outcome (Value × Value)) (f : Value → Value → World → Outcome Answer) (g : Value → World → Outcome Bool) → and_then (and_then (and_then o (λ p u. f p.0 p.1 u)) used) g ≡ and_then o (λ p u. and_then (and_then (f p.0 p.1 u) used) g)
joins (Done p u) f g = refl
joins (Over e) f g = refl

module _ (home : Home) (most deep l : ℕ) (t : CType) (o : Op) (e a b : CoreExpr) (at : Spot) (is : out-CoreExpr e ≡ CoreExpr-F.Binary l t o a b) (compares : is_comparison o ≡ true) (whole_type : is_pointer_type (type_of e) ≡ false) where
  abbrev k : Int
  k = int_of (type_of a)

  abbrev j : Int
  j = int_of (type_of b)

  pub unsigned_is : is_plain a ≡ is_unsigned k
  unsigned_is = ap is_unsigned (machine_is (out-CType (type_of a)))

  abbrev pub test : Value → Value → World → Outcome Bool
  test x z u = and_then (and_then (and_then (computed o k x j z u) meaning.plain) used) (tested (type_of e))

  pub test_leads : (x z : Value) (u : World) → Leads u (world_after (test x z u))
  test_leads x z u =
      leads_then u (and_then (and_then (computed o k x j z u) meaning.plain) used) (tested (type_of e))
      (leads_then u (and_then (computed o k x j z u) meaning.plain) used (computed_leads o k x j z u) used_leads) (tested_leads (type_of e))

  pub true_number : (n : ℕ) (u : World) → tested (type_of e) (Number n) u ≡ Done (not (n == 0)) u
  true_number n u = by_test (is_pointer_type (type_of e)) whole_type
    where
      by_test : (p : Bool) → p ≡ false → unless (Rattle.sc_meaning.specs.Violations.truth_rule u.objects p (Number n)) (operand_breach op.Truth (promoted (int_of (type_of e))) (Number n) Rattle.sc_base.specs.declared.integer.Int.TheVariants.Int Rattle.sc_meaning.specs.Values.null u) (λ w. Done (not (n == 0)) w) u ≡ Done (not (n == 0)) u
      by_test false f = refl
      by_test true f = absurd (cc (f))

  -- both operands are there
  module _ (rx ry : ℕ) (sense : Bool) (end : ℕ) (c : Calls) (w : World) where
    abbrev E : End Bool
    E = Told home at sense end c w

    abbrev last : Symbolic
    last = branch o (is_plain a) sense rx ry (pos 8)

    module _ (q : Stage) (d : Calls) (y u : World) (st : Stands home q d y u) (keeps : Keeps home at c w d y) (pl : IsPlaced home d.regs.pc (last ∷ [])) (ends : d.regs.pc + 4 ≡ end) where
      -- the branch
      skips : (n m : ℕ) → register d.regs rx ≡ plain n → register d.regs ry ≡ plain m → n < 2 ^ 32 → m < 2 ^ 32 → Meets most q E d y u (λ h i. Done (not (value_of o k n m == 0)) (tick u))
      skips n m is_n is_m wide broad =
          let br = any_branch o (is_plain a) sense rx ry (pos 8) in
          let holds : Bool = not (value_of o k n m == 0) in
          let word : WordAt q.image st.value d.regs.pc last = first_at home q d y u st d.regs.pc last [] pl in
          let instr : InstrAt q.image d.regs.pc (Branch br.by br.p br.q (pos 8)) = subst (λ x. WordAt q.image st.value d.regs.pc x) br.is word in
          let near = pl.near in
          let taken : Bool = is_taken br.by (register d.regs br.p).bits (register d.regs br.q).bits in
          let is_told : taken ≡ is_skipped sense holds =
          sym (ap (λ x. takes x (register d.regs)) br.is)
          ∙ ap (λ sign. takes (branch o sign sense rx ry (pos 8)) (register d.regs)) unsigned_is
          ∙ branches (register d.regs) rx ry n m (record { zero = index_zero d.regs.words st.regs; left = is_n; right = is_m; wide = wide; broad = broad }) o k sense (pos 8) compares
          ∙ left_out sense (value_of o k n m) in
          let there : (if taken then d.regs.pc + 8 else d.regs.pc + 4) ≡ told_at sense holds end = ap (λ b. if b then d.regs.pc + 8 else d.regs.pc + 4) is_told ∙ at_end (is_skipped sense holds) in
          behind_skip most q st.value E br.by br.p br.q d y u (λ h i. Done holds (tick u)) (memory_of home q d y u st) instr (omega (arith, near)) (λ h i. one_more (Work 1) u)
          (behind_work most q E (with_registers (goes_to (if taken then d.regs.pc + 8 else d.regs.pc + 4) d.regs) d) 1 y u (λ h i. Done holds (tick u))
          (at_once most q E (with_registers (goes_to (if taken then d.regs.pc + 8 else d.regs.pc + 4) d.regs) d) y (tick u) (λ h i. Done holds (tick u)) holds (λ h i. refl) (record {
            there = there;
            stands = stands_worked home q (with_registers (goes_to (if taken then d.regs.pc + 8 else d.regs.pc + 4) d.regs) d) y u 1 (stands_at home q d y u (if taken then d.regs.pc + 8 else d.regs.pc + 4) st);
            keeps = keeps_then home at c d (with_registers (goes_to (if taken then d.regs.pc + 8 else d.regs.pc + 4) d.regs) d) w y y keeps (keeps_at home at d y (if taken then d.regs.pc + 8 else d.regs.pc + 4));
          })))
        where
          at_end : (b : Bool) → (if b then d.regs.pc + 8 else d.regs.pc + 4) ≡ (if b then end + 4 else end)
          at_end true = omega (arith, ends)
          at_end false = ends

      pub tells_here : (x z : Value) → MeansIn y (register d.regs rx) x → MeansIn y (register d.regs ry) z → Meets most q E d y u (λ h i. test x z u)
      tells_here (Number n) (Number m) mx mz = by_rule (rule_of o k n m) refl
        where
          by_rule : (r : Option Rule) → rule_of o k n m ≡ r
              → Meets most q E d y u (λ h i. and_then (and_then (and_then (unless r (operand_breach o (promoted k) (Number n) (promoted j) (Number m) u) (λ f. Done (Number (value_of o k n m)) f) u) meaning.plain) used) (tested (type_of e)))
          by_rule None rule =
              same_part most q E d y u _ (λ h i. Done (not (value_of o k n m == 0)) (tick u)) (λ h i. true_number (value_of o k n m) (tick u))
              (skips n m (same_word (register d.regs rx) n mx.stands.0 mx.stands.1) (same_word (register d.regs ry) m mz.stands.0 mz.stands.1) (subst (λ f. f < 4294967296) mx.stands.0 mx.wide) (subst (λ f. f < 4294967296) mz.stands.0 mz.wide))
          by_rule (Some r) rule = undefined_here most q E d y u _ (operand_breach o (promoted k) (Number n) (promoted j) (Number m) u r) (own_step (operand_breach o (promoted k) (Number n) (promoted j) (Number m) u r) u st.own) (λ h i. refl)
      tells_here (FunctionAt key) z mx mz = undefined_here most q E d y u _ (operand_breach o (promoted k) (FunctionAt key) (promoted j) z u U15) (own_step (operand_breach o (promoted k) (FunctionAt key) (promoted j) z u U15) u st.own) (λ h i. refl)
      tells_here (Pointer g i) z mx mz = undefined_here most q E d y u _ (operand_breach o (promoted k) (Pointer g i) (promoted j) z u U15) (own_step (operand_breach o (promoted k) (Pointer g i) (promoted j) z u U15) u st.own) (λ h i2. refl)
      tells_here (Number n) (FunctionAt key) mx mz = undefined_here most q E d y u _ (operand_breach o (promoted k) (Number n) (promoted j) (FunctionAt key) u U15) (own_step (operand_breach o (promoted k) (Number n) (promoted j) (FunctionAt key) u U15) u st.own) (λ h i. refl)
      tells_here (Number n) (Pointer g i) mx mz = undefined_here most q E d y u _ (operand_breach o (promoted k) (Number n) (promoted j) (Pointer g i) u U15) (own_step (operand_breach o (promoted k) (Number n) (promoted j) (Pointer g i) u U15) u st.own) (λ h i2. refl)

  -- a condition over its operands
  pub pair_tells : (rx ry : ℕ) (cp : Code) → ((sense : Bool) → test_of home sense e at ≡ cp ++ (branch o (is_plain a) sense rx ry (pos 8) ∷ [])) → GivesPair home most deep cp a b rx ry at → TellsTruth home most (suc deep) e at
  pair_tells rx ry cp code good = λ sense bound dp s c w v pl st.
      let last : Symbolic = branch o (is_plain a) sense rx ry (pos 8) in
      let whole : Code = test_of home sense e at in
      let end : ℕ = c.regs.pc + 4 * length whole in
      let E : End Bool = Told home at sense end c w in
      let both : IsPlaced home c.regs.pc (cp ++ (last ∷ [])) = placed_same home c.regs.pc c.regs.pc whole (cp ++ (last ∷ [])) refl (code sense) pl in
      let long = ap length (code sense) in
      let parts = length-append cp (last ∷ []) in
      let fam : Family Bool = λ h m. and_then (both_values (bound m - 1) h home.env a b (tick v)) (λ p u. test p.0 p.1 u) in
      same_part most s E c w v (λ h m. and_then (valued (eval (bound m) h) home.env e v) (tested (type_of e))) fam
      (λ h m.
      ap (λ r. and_then (and_then r used) (tested (type_of e))) (family_opens deep bound dp home.env e (CoreExpr-F.Binary l t o a b) is v h m ∙ two_is (bound m - 1) h home.env a b (tick v) (λ x z u. and_then (computed o k x j z u) meaning.plain))
      ∙ joins (both_values (bound m - 1) h home.env a b (tick v)) (λ x z u. and_then (computed o k x j z u) meaning.plain) (tested (type_of e)))
      (behind_work most s E c 1 w v fam
      (in_turn most s (PairIn home at rx ry (c.regs.pc + 4 * length cp) c w) E c w (tick v) (λ h m. both_values (bound m - 1) h home.env a b (tick v)) (λ p u h m. test p.0 p.1 u)
      (good (λ m. bound m - 1) (less deep bound dp) s c w (tick v) (placed_front home c.regs.pc cp (last ∷ []) both) (stands_worked home s c w v 1 st))
      (λ p u h m. test_leads p.0 p.1 u)
      (λ q p u d y i.
      let there = i.there in
      tells_here rx ry sense end c w q d y u i.stands i.keeps (placed_same home (c.regs.pc + 4 * length cp) d.regs.pc (last ∷ []) (last ∷ []) (sym there) refl (placed_back home c.regs.pc cp (last ∷ []) both)) (omega (arith, there, long, parts)) p.0 p.1 i.left i.right)))

  -- its code
  abbrev how : Bool → How
  how leaf = two (if leaf then Late else waiting_plan at b) AsWord AsWord

  abbrev shape : Bool → How → Bool → Code
  shape cmp h sense =
      (if cmp then left_code home.style home.autos h (part_of home.style home.autos a) a at ++ right_code home.style home.autos h (part_of home.style home.autos b) b at
      else unless_standing (stands home.style home.autos e) (word_layer home.style home.autos (CoreExpr-F.Binary l t o (part_of home.style home.autos a) (part_of home.style home.autos b)) (CoreExpr-F.Binary l t o a b) e at))
      ++ branched (if cmp then pair_compared o (is_plain a) (pair_of home.style home.autos h a b) else value_compared home.style home.autos e) sense (pos 8) ∷ []

  code : (sense : Bool) → test_of home sense e at ≡ shape true (how (is_leaf home.autos b)) sense
  code sense =
      layer_is home (Skips sense) e (CoreExpr-F.Binary l t o a b) at is
      ∙ ap (λ x. (if is_comparison o then left_code home.style home.autos (how (is_leaf home.autos b)) (part_of home.style home.autos a) a at ++ right_code home.style home.autos (how (is_leaf home.autos b)) (part_of home.style home.autos b) b at
      else unless_standing (stands home.style home.autos e) (word_layer home.style home.autos (CoreExpr-F.Binary l t o (part_of home.style home.autos a) (part_of home.style home.autos b)) (CoreExpr-F.Binary l t o a b) e at))
      ++ branched (Rattle.sc_gen_operand.specs.Templates.comparison_layer home.style home.autos x e at) sense (pos 8) ∷ []) is
      ∙ ap (λ cmp. shape cmp (how (is_leaf home.autos b)) sense) compares

  pub compared_late : home.style.kept ≡ [] → at.depth ≤ 5 → is_leaf home.autos b ≡ true → GivesValue home most deep a at → GivesLeaf home most deep b 11
      → ((n : ℕ) → constant a ≡ Some n → EvaluatesTo home deep a n) → ((n : ℕ) → constant b ≡ Some n → EvaluatesTo home deep b n) → TellsTruth home most (suc deep) e at
  compared_late plain_style few leaf good_a good_b number_a number_b =
      let ca : Code = first home.style home.autos AsWord (part_of home.style home.autos a) a at in
      let cb : Code = late home.style home.autos b in
      let rx : ℕ = first_register home.style home.autos AsWord a in
      let ry : ℕ = late_register home.style home.autos b in
      pair_tells rx ry (ca ++ cb) (λ sense. code sense ∙ ap (λ f. shape true (how f) sense) leaf)
      (pair_beside home most deep a b at ca cb rx ry few (apart_given rx ry (first_is home a plain_style) (late_is home b plain_style)) (λ i lt. waits_given ry (late_is home b plain_style) i) (first_given home a plain_style most deep number_a at few good_a) (late_given home b plain_style most deep number_b good_b))

  pub compared_waits : nat_lt at.depth 5 ≡ true → is_leaf home.autos b ≡ false → waiting_plan at b ≡ Register (13 + at.depth) → GivesIn home most deep (into home.style home.autos AsWord (13 + at.depth) (part_of home.style home.autos a) a at) a (13 + at.depth) at
      → GivesValue home most deep b (deeper at) → TellsTruth home most (suc deep) e at
  compared_waits few leaf plan good_a good_b =
      let r : ℕ = 13 + at.depth in
      let ca : Code = into home.style home.autos AsWord r (part_of home.style home.autos a) a at in
      pair_tells r 10 (ca ++ code_of home b (deeper at)) (λ sense. code sense ∙ ap (λ f. shape true (how f) sense) leaf ∙ ap (λ p. shape true (two p AsWord AsWord) sense) plan) (pair_waits home most deep a b at ca few good_a good_b)
