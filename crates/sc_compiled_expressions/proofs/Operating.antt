-- An operator on two integers: with a constant that its instruction holds, and between two registers.
use Rattle.std.proofs.Common.{◌≡◌, ◌⊎◌, inl, inr, ℕ, zero, suc, ◌+◌, ◌-◌, ◌*◌, ◌%◌, ◌^◌, ◌<◌, ◌≤◌, ◌==◌, ◌||◌, Bool, true, false, if◌then◌else◌, nat_lt, List, [], ◌∷◌, ◌++◌, length, Option, Some, None, refl, sym, ap, ap₂, subst, ◌∙◌, arith, append_assoc, length-append}
use Rattle.std.specs.Prelude.{is_some, option_and_then, slice_index_or}
use Rattle.sc_base.specs.declared.integer.Int.{Int}
use Rattle.sc_base.specs.declared.key.Key.{Key}
use Rattle.sc_base.specs.declared.memory.Word.{Word}
use Rattle.sc_base.specs.declared.operator.Op.{Op}
use Rattle.sc_base.specs.declared.report.Rule.{Rule}
use Rattle.sc_base.specs.declared.report.Rule.TheVariants.{U15}
use Rattle.sc_types.specs.declared.ctype.CType.{CType, out-CType}
use Rattle.sc_core.specs.declared.expression.CoreExpr.{CoreExpr, out-CoreExpr}
use Rattle.sc_core.specs.declared.expression.CoreExpr.TheOpen.{CoreExpr-F}
use Rattle.sc_core.specs.Types.{type_of}
use Rattle.sc_ops.specs.Numbers.{promoted}
use Rattle.sc_ops.specs.Operators.{rule_of, value_of}
use Rattle.sc_emu.specs.Operations.{plain}
use Rattle.sc_emu.specs.Registers.{AreRegisters, Registers, register}
use Rattle.sc_meaning.specs.Accesses.{computed}
use Rattle.sc_meaning.specs.Calls.{eval}
use Rattle.sc_meaning.specs.Expressions.{Answer, Env, Plain, finished, valued}
use Rattle.sc_meaning.specs.Expressions as meaning
use Rattle.sc_meaning.specs.Laws.{Leads}
use Rattle.sc_meaning.specs.Outcomes.{Done, Outcome, Over, and_then, operand_breach, unless, world_after}
use Rattle.sc_meaning.specs.Values.{FunctionAt, Number, Pointer, Value, int_of}
use Rattle.sc_meaning.specs.Versions.{History}
use Rattle.sc_meaning.specs.Violations.{bits, integer_rule}
use Rattle.sc_meaning.specs.World.{Work, World, tick}
use Rattle.sc_meaning.proofs.Growing.{leads_then}
use Rattle.sc_meaning.proofs.Steps.{here, one_more}
use Rattle.sc_mixed.specs.Bridge.{with_registers}
use Rattle.sc_mixed.specs.declared.calls.Calls.{Calls}
use Rattle.sc_mixed_means.specs.Stages.{Stage}
use Rattle.sc_gen_code.specs.declared.style.Spot.{Spot}
use Rattle.sc_gen_code.specs.declared.symbolic.Symbolic.{Symbolic}
use Rattle.sc_gen_code.specs.Code.{Code}
use Rattle.sc_gen_code.specs.Operators.{immediate, is_unsigned, machine_type, operate}
use Rattle.sc_gen_code.specs.Styles.{deeper}
use Rattle.sc_gen_operand.specs.declared.plans.Operands.{Operands as How}
use Rattle.sc_gen_operand.specs.declared.plans.Plan.{Plan}
use Rattle.sc_gen_operand.specs.declared.plans.Plan.TheVariants.{Late, Left, Register}
use Rattle.sc_gen_operand.specs.declared.plans.Want.TheVariants.{Word as AsWord}
use Rattle.sc_gen_operand.specs.Places.{constant, is_leaf}
use Rattle.sc_gen_operand.specs.Plans.{first, first_register, into, is_plain, late, late_register, left_code, right_code, two, waiting_plan, with_number, word}
use Rattle.sc_gen_operand.specs.Templates.{operated_by}
use Rattle.sc_gen_expr.specs.Expressions.{part_of}
use Rattle.sc_compiled_values.specs.Operators.{IsOperator, Operands}
use Rattle.sc_compiled_values.specs.Straight.{Words, after}
use Rattle.sc_compiled_values.proofs.Constants.{immediates}
use Rattle.sc_compiled_values.proofs.Operating.{operate_keeps, operates}
use Rattle.sc_compiled_frames.proofs.Values.{number_means}
use Rattle.sc_compiled_expressions.specs.Parts.{End, Family, Leading, Meets}
use Rattle.sc_compiled_expressions.proofs.Joining.{behind_work, in_turn, same_part, undefined_here}
use Rattle.sc_compiled_expressions.specs.Standing.{Home, Keeps, MeansIn, Stands, stub, table}
use Rattle.sc_compiled_expressions.specs.Good.{AnsweredPlain, GivesPlain, GivesValue, IsDeeper, IsPlaced, code_of}
use Rattle.sc_compiled_expressions.proofs.Standing.{keeps_then, keeps_with, own_step, placed_back, placed_front, placed_same, stands_with, stands_worked}
use Rattle.sc_compiled_expressions.proofs.Nodes.{finish, layer_is, less, opened, valued_leads}
use Rattle.sc_compiled_expressions.specs.Straights.{AreStraight}
use Rattle.sc_compiled_expressions.proofs.Numbers.{index_zero, waits_not_a0}
use Rattle.sc_compiled_expressions.proofs.Registers.{straight_goes}
use Rattle.sc_compiled_expressions.specs.Direct.{EvaluatesTo, GivesLeaf}
use Rattle.sc_compiled_expressions.proofs.Loading.{machine_is}
use Rattle.sc_compiled_expressions.specs.Operands.{GivesBeside, GivesIn, GivesPair, Operand, PairIn, both_values}
use Rattle.sc_compiled_expressions.proofs.Operands.{apart_given, first_given, first_is, late_given, late_is, waits_given}
use Rattle.sc_compiled_expressions.proofs.Pairs.{pair_beside, pair_waits}
use Rattle.sc_compiled_expressions.proofs.WordsOperated.{immediate_writes, operate_straight, value_below}

pub same_word : (z : Word) (n : ℕ) → z.bits ≡ n → z.tag ≡ 0 → z ≡ plain n
same_word z n b t = ap₂ (λ x y. record { bits = x; tag = y }) b t

pub computed_leads : (o : Op) (k : Int) (x : Value) (j : Int) (y : Value) (u : World) → Leads u (world_after (and_then (computed o k x j y u) meaning.plain))
computed_leads o k x j y u = by_rule (integer_rule o k x y)
  where
    by_rule : (r : Option Rule) → Leads u (world_after (and_then (unless r (operand_breach o (promoted k) x (promoted j) y u) (λ w. Done (Number (value_of o k (bits x) (bits y))) w) u) meaning.plain))
    by_rule None = one_more (Work 1) u
    by_rule (Some r) = here u

-- ---- both operands are there

module _ (home : Home) (most : ℕ) (at : Spot) (end : ℕ) (c : Calls) (w : World) (few : at.depth ≤ 5) where
  abbrev E : End Answer
  E = AnsweredPlain home at end c w

  module _ (t : Stage) (d : Calls) (y u : World) (code : Code) (st : Stands home t d y u) (keeps : Keeps home at c w d y) (straight : AreStraight code) (others : (j : ℕ) → (j == 10) ≡ false → after code (register d.regs) j ≡ register d.regs j)
      (pl : IsPlaced home d.regs.pc code) (ends : d.regs.pc + 4 * length code ≡ end) where
    in_file : (j : ℕ) → j < at.depth → 13 + j < 32
    in_file j lt = omega (arith, lt, few)

    pub number_done : (n : ℕ) → n < 2 ^ 32 → after code (register d.regs) 10 ≡ plain n → Meets most t E d y u (λ h m. finished (Plain (Number n)) u)
    number_done n small is =
        straight_goes home most t E d y u (λ h m. finished (Plain (Number n)) u) st code straight pl (λ h m. one_more (Work 1) u)
        (λ zs are each.
        let r : Registers = record { pc = d.regs.pc + 4 * length code; words = zs } in
        let f : Calls = with_registers r d in
        finish home most t E (Plain (Number n)) f y u (record {
          of = Number n;
          is = refl;
          valued = record {
            there = ends;
            word = subst (λ z. MeansIn y z (Number n)) (sym (each 10 (omega arith) ∙ is)) (number_means (stub y) (table y) n small);
            stands = stands_worked home t f y u 1 (stands_with home t d r y u are (each 2 (omega arith) ∙ others 2 refl) st);
            keeps = keeps_then home at c d f w y y keeps (keeps_with home at d r y (λ j lt. each (13 + j) (in_file j lt) ∙ others (13 + j) (waits_not_a0 j)));
          };
        }))

    pub computes_here : (o : Op) (k j : Int) (x z : Value) (p q : Word) → MeansIn y p x → MeansIn y q z
        → ((n m : ℕ) → p ≡ plain n → q ≡ plain m → x ≡ Number n → z ≡ Number m → n < 2 ^ 32 → m < 2 ^ 32 → rule_of o k n m ≡ None → after code (register d.regs) 10 ≡ plain (value_of o k n m)) → Meets most t E d y u (λ h m. and_then (computed o k x j z u) meaning.plain)
    computes_here o k j (Number n) (Number m) p q mx mz result = by_rule (rule_of o k n m) refl
      where
        wide : n < 2 ^ 32
        wide = subst (λ b. b < 4294967296) mx.stands.0 mx.wide

        broad : m < 2 ^ 32
        broad = subst (λ b. b < 4294967296) mz.stands.0 mz.wide

        by_rule : (r : Option Rule) → rule_of o k n m ≡ r → Meets most t E d y u (λ h m2. and_then (unless r (operand_breach o (promoted k) (Number n) (promoted j) (Number m) u) (λ i. Done (Number (value_of o k n m)) i) u) meaning.plain)
        by_rule None rule = number_done (value_of o k n m) (value_below o k n m wide broad) (result n m (same_word p n mx.stands.0 mx.stands.1) (same_word q m mz.stands.0 mz.stands.1) refl refl wide broad rule)
        by_rule (Some r) rule = undefined_here most t E d y u _ (operand_breach o (promoted k) (Number n) (promoted j) (Number m) u r) (own_step (operand_breach o (promoted k) (Number n) (promoted j) (Number m) u r) u st.own) (λ h m2. refl)
    computes_here o k j (FunctionAt key) z p q mx mz result = undefined_here most t E d y u _ (operand_breach o (promoted k) (FunctionAt key) (promoted j) z u U15) (own_step (operand_breach o (promoted k) (FunctionAt key) (promoted j) z u U15) u st.own) (λ h m. refl)
    computes_here o k j (Pointer b i) z p q mx mz result = undefined_here most t E d y u _ (operand_breach o (promoted k) (Pointer b i) (promoted j) z u U15) (own_step (operand_breach o (promoted k) (Pointer b i) (promoted j) z u U15) u st.own) (λ h m. refl)
    computes_here o k j (Number n) (FunctionAt key) p q mx mz result = undefined_here most t E d y u _ (operand_breach o (promoted k) (Number n) (promoted j) (FunctionAt key) u U15) (own_step (operand_breach o (promoted k) (Number n) (promoted j) (FunctionAt key) u U15) u st.own) (λ h m. refl)
    computes_here o k j (Number n) (Pointer b i) p q mx mz result = undefined_here most t E d y u _ (operand_breach o (promoted k) (Number n) (promoted j) (Pointer b i) u U15) (own_step (operand_breach o (promoted k) (Number n) (promoted j) (Pointer b i) u U15) u st.own) (λ h m. refl)

-- ---- the code and the meaning of an operator

pub two_is : (n : ℕ) (h : History) (env : Env) (a b : CoreExpr) (v : World) (go : Value → Value → World → Outcome Answer) → and_then (valued (eval n h) env a v) (λ x u. and_then (valued (eval n h) env b u) (go x)) ≡ and_then (both_values n h env a b v) (λ p u. go p.0 p.1 u)
two_is n h env a b v go = by_first (valued (eval n h) env a v)
  where
    by_second : (x : Value) (o : Outcome Value) → and_then o (go x) ≡ and_then (and_then {A = Value} {B = Value × Value} o (λ y i. Done (x, y) i)) (λ p u. go p.0 p.1 u)
    by_second x (Done y i) = refl
    by_second x (Over e) = refl

    by_first : (o : Outcome Value) → and_then o (λ x u. and_then (valued (eval n h) env b u) (go x)) ≡ and_then (and_then {A = Value} {B = Value × Value} o (λ x u. and_then (valued (eval n h) env b u) (λ y i. Done (x, y) i))) (λ p u. go p.0 p.1 u)
    by_first (Done x u) = by_second x (valued (eval n h) env b u)
    by_first (Over e) = refl

module _ (home : Home) (most deep l : ℕ) (t : CType) (o : Op) (e a b : CoreExpr) (at : Spot) (is : out-CoreExpr e ≡ CoreExpr-F.Binary l t o a b) where
  abbrev pub how : Option Symbolic → Bool → How
  how n leaf = if is_some n then two Left AsWord AsWord else two (if leaf then Late else waiting_plan at b) AsWord AsWord

  abbrev pub shape : Option Symbolic → How → Code
  shape n h = left_code home.style home.autos h (part_of home.style home.autos a) a at ++ (right_code home.style home.autos h (part_of home.style home.autos b) b at ++ operated_by home.style home.autos h o a b n)

  pub code : code_of home e at ≡ shape (with_number o (is_plain a) (first_register home.style home.autos AsWord a) b) (how (with_number o (is_plain a) (first_register home.style home.autos AsWord a) b) (is_leaf home.autos b))
  code = layer_is home word e (CoreExpr-F.Binary l t o a b) at is

  abbrev k : Int
  k = int_of (type_of a)

  unsigned_is : is_plain a ≡ is_unsigned k
  unsigned_is = ap is_unsigned (machine_is (out-CType (type_of a)))

  -- between registers
  pub pair_operates : (rx ry : ℕ) (cp : Code) → at.depth ≤ 5 → IsOperator o → rx < 32 → ry < 32 → code_of home e at ≡ cp ++ operate o (is_plain a) rx ry → GivesPair home most deep cp a b rx ry at → GivesPlain home most (suc deep) e at
  pair_operates rx ry cp few some small_x small_y whole good = λ bound dp s c w v pl st.
      let co : Code = operate o (is_plain a) rx ry in
      let end : ℕ = c.regs.pc + 4 * length (code_of home e at) in
      let G : End Answer = AnsweredPlain home at end c w in
      let both : IsPlaced home c.regs.pc (cp ++ co) = placed_same home c.regs.pc c.regs.pc (code_of home e at) (cp ++ co) refl whole pl in
      let long = ap length whole in
      let parts = length-append cp co in
      opened home most deep e (CoreExpr-F.Binary l t o a b) is s G bound dp c w v refl
      (same_part most s G c w (tick v) _ (λ h m. and_then (both_values (bound m - 1) h home.env a b (tick v)) (λ p u. and_then (computed o k p.0 (int_of (type_of b)) p.1 u) meaning.plain))
      (λ h m. two_is (bound m - 1) h home.env a b (tick v) (λ x y u. and_then (computed o k x (int_of (type_of b)) y u) meaning.plain))
      (in_turn most s (PairIn home at rx ry (c.regs.pc + 4 * length cp) c w) G c w (tick v) (λ h m. both_values (bound m - 1) h home.env a b (tick v)) (λ p u h m. and_then (computed o k p.0 (int_of (type_of b)) p.1 u) meaning.plain)
      (good (λ m. bound m - 1) (less deep bound dp) s c w (tick v) (placed_front home c.regs.pc cp co both) (stands_worked home s c w v 1 st))
      (λ p u h m. computed_leads o k p.0 (int_of (type_of b)) p.1 u)
      (λ q p u d y i.
      let there = i.there in
      computes_here home most at end c w few q d y u co i.stands i.keeps (operate_straight rx ry small_x small_y o (is_plain a)) (operate_keeps o (is_plain a) rx ry (register d.regs))
      (placed_same home (c.regs.pc + 4 * length cp) d.regs.pc co co (sym there) refl (placed_back home c.regs.pc cp co both)) (omega (arith, there, long, parts))
      o k (int_of (type_of b)) p.0 p.1 (register d.regs rx) (register d.regs ry) i.left i.right
      (λ n m is_n is_m x_n y_m wide broad rule.
      ap (λ sign. after (operate o sign rx ry) (register d.regs) 10) unsigned_is
      ∙ operates (register d.regs) rx ry n m (record { zero = index_zero d.regs.words i.stands.regs; left = is_n; right = is_m; wide = wide; broad = broad }) o k some rule))))

  -- the right operand is a leaf
  pub binary_late : home.style.kept ≡ [] → at.depth ≤ 5 → IsOperator o → with_number o (is_plain a) (first_register home.style home.autos AsWord a) b ≡ None → is_leaf home.autos b ≡ true → GivesValue home most deep a at → GivesLeaf home most deep b 11
      → ((n : ℕ) → constant a ≡ Some n → EvaluatesTo home deep a n) → ((n : ℕ) → constant b ≡ Some n → EvaluatesTo home deep b n) → GivesPlain home most (suc deep) e at
  binary_late plain_style few some none leaf good_a good_b number_a number_b =
      let ca : Code = first home.style home.autos AsWord (part_of home.style home.autos a) a at in
      let cb : Code = late home.style home.autos b in
      let rx : ℕ = first_register home.style home.autos AsWord a in
      let ry : ℕ = late_register home.style home.autos b in
      let co : Code = operate o (is_plain a) rx ry in
      let apart = apart_given rx ry (first_is home a plain_style) (late_is home b plain_style) in
      pair_operates rx ry (ca ++ cb) few some apart.0 (small ry (late_is home b plain_style)) (code ∙ ap (λ n. shape n (how n (is_leaf home.autos b))) none ∙ ap (λ f. shape None (how None f)) leaf ∙ sym (append_assoc ca cb co))
      (pair_beside home most deep a b at ca cb rx ry few apart (λ j lt. waits_given ry (late_is home b plain_style) j) (first_given home a plain_style most deep number_a at few good_a) (late_given home b plain_style most deep number_b good_b))
    where
      small : (r : ℕ) → (r ≡ 11) ⊎ (r ≡ 0) → r < 32
      small r (inl e) = omega (arith, e)
      small r (inr e) = omega (arith, e)

  -- the left operand waits
  pub binary_waits : at.depth < 5 → nat_lt at.depth 5 ≡ true → IsOperator o → with_number o (is_plain a) (first_register home.style home.autos AsWord a) b ≡ None → is_leaf home.autos b ≡ false → waiting_plan at b ≡ Register (13 + at.depth)
      → GivesIn home most deep (into home.style home.autos AsWord (13 + at.depth) (part_of home.style home.autos a) a at) a (13 + at.depth) at → GivesValue home most deep b (deeper at) → GivesPlain home most (suc deep) e at
  binary_waits few lt some none leaf plan good_a good_b =
      let r : ℕ = 13 + at.depth in
      let ca : Code = into home.style home.autos AsWord r (part_of home.style home.autos a) a at in
      let cb : Code = code_of home b (deeper at) in
      let co : Code = operate o (is_plain a) r 10 in
      pair_operates r 10 (ca ++ cb) (omega (arith, few)) some (omega (arith, few)) (omega arith)
      (code ∙ ap (λ n. shape n (how n (is_leaf home.autos b))) none ∙ ap (λ f. shape None (how None f)) leaf ∙ ap (λ p. shape None (two p AsWord AsWord)) plan ∙ sym (append_assoc ca cb co))
      (pair_waits home most deep a b at ca lt good_a good_b)

  -- a constant that an instruction holds
  module _ (plain_style : home.style.kept ≡ []) (few : at.depth ≤ 5) (i : Symbolic) (m : ℕ) (small : m < 2 ^ 32) (number_b : constant b ≡ Some m) (one : immediate o (is_plain a) (first_register home.style home.autos AsWord a) m ≡ Some i) where
    abbrev ca : Code
    ca = first home.style home.autos AsWord (part_of home.style home.autos a) a at

    abbrev rx : ℕ
    rx = first_register home.style home.autos AsWord a

    rx_small : rx < 32
    rx_small = by (first_is home a plain_style)
      where
        by : (rx ≡ 10) ⊎ (rx ≡ 0) → rx < 32
        by (inl e) = omega (arith, e)
        by (inr e) = omega (arith, e)

    held : with_number o (is_plain a) rx b ≡ Some i
    held = ap (option_and_then (immediate o (is_plain a) rx)) number_b ∙ one

    whole : code_of home e at ≡ ca ++ (i ∷ [])
    whole = code ∙ ap (λ n. shape n (how n (is_leaf home.autos b))) held

    pub binary_held : GivesValue home most deep a at → ((n : ℕ) → constant a ≡ Some n → EvaluatesTo home deep a n) → EvaluatesTo home deep b m → GivesPlain home most (suc deep) e at
    binary_held good_a number_a means = λ bound dp s c w v pl st.
        let end : ℕ = c.regs.pc + 4 * length (code_of home e at) in
        let G : End Answer = AnsweredPlain home at end c w in
        let both : IsPlaced home c.regs.pc (ca ++ (i ∷ [])) = placed_same home c.regs.pc c.regs.pc (code_of home e at) (ca ++ (i ∷ [])) refl whole pl in
        let long = ap length whole in
        let parts = length-append ca (i ∷ []) in
        let wr = immediate_writes o (is_plain a) rx m i rx_small one in
        let dl = less deep bound dp in
        opened home most deep e (CoreExpr-F.Binary l t o a b) is s G bound dp c w v refl
        (in_turn most s (Operand home at rx (c.regs.pc + 4 * length ca) c w) G c w (tick v) (λ h m2. valued (eval (bound m2 - 1) h) home.env a (tick v)) (λ x u h m2. and_then (valued (eval (bound m2 - 1) h) home.env b u) (λ y u2. and_then (computed o k x (int_of (type_of b)) y u2) meaning.plain))
        (first_given home a plain_style most deep number_a at few good_a (λ m2. bound m2 - 1) dl s c w (tick v) (placed_front home c.regs.pc ca (i ∷ []) both) (stands_worked home s c w v 1 st))
        (λ x u h m2. leads_then u (valued (eval (bound m2 - 1) h) home.env b u) (λ y u2. and_then (computed o k x (int_of (type_of b)) y u2) meaning.plain) (valued_leads (bound m2 - 1) h home.env b u) (λ y u2. computed_leads o k x (int_of (type_of b)) y u2))
        (λ q x u d y p.
        let there = p.there in
        let now : Stands home q d y (tick (tick u)) = stands_worked home q d y (tick u) 1 (stands_worked home q d y u 1 p.stands) in
        let go : Family Answer = λ h m2. and_then (computed o k x (int_of (type_of b)) (Number m) (tick (tick u))) meaning.plain in
        same_part most q G d y u _ go (λ h m2. ap (λ r. and_then (and_then r meaning.used) (λ z u2. and_then (computed o k x (int_of (type_of b)) z u2) meaning.plain)) (means (λ m3. bound m3 - 1) dl u h m2))
        (behind_work most q G d 1 y u go (behind_work most q G d 1 y (tick u) go
        (computes_here home most at end c w few q d y (tick (tick u)) (i ∷ []) now p.keeps wr.straight (wr.keeps (register d.regs))
        (placed_same home (c.regs.pc + 4 * length ca) d.regs.pc (i ∷ []) (i ∷ []) (sym there) refl (placed_back home c.regs.pc ca (i ∷ []) both)) (omega (arith, there, long, parts))
        o k (int_of (type_of b)) x (Number m) (register d.regs rx) (plain m) p.word (number_means (stub y) (table y) m small)
        (λ n m2 is_n is_m x_n y_m wide broad rule.
        let same : m ≡ m2 = one_number m m2 y_m in
        immediates (register d.regs) rx n m2 (index_zero d.regs.words p.stands.regs) is_n wide broad o k i rule
        (subst (λ j. immediate o (is_unsigned k) rx j ≡ Some i) same (ap (λ sign. immediate o sign rx m) (sym unsigned_is) ∙ one))))))))
      where
        one_number : (n j : ℕ) → Number n ≡ Number j → n ≡ j
        one_number n j e = cc (e)
