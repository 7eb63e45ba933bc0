-- `+a`, `-a` and `~a`.
use Rattle.std.proofs.Common.{◌≡◌, ℕ, suc, ◌+◌, ◌-◌, ◌*◌, ◌<◌, ◌≤◌, ◌==◌, Bool, true, false, ℤ, pos, negsuc, ◌++◌, length, Option, Some, None, refl, sym, ap, ap₂, subst, ◌∙◌, arith, length-append}
use Rattle.sc_base.specs.declared.integer.Int.{Int}
use Rattle.sc_base.specs.declared.key.Key.{Key}
use Rattle.sc_base.specs.declared.memory.Word.{Word}
use Rattle.sc_base.specs.declared.operator.Op.{Op}
use Rattle.sc_base.specs.declared.operator.Op.TheVariants as op
use Rattle.sc_base.specs.declared.report.Rule.{Rule}
use Rattle.sc_types.specs.declared.ctype.CType.{CType}
use Rattle.sc_core.specs.declared.expression.CoreExpr.{CoreExpr, out-CoreExpr}
use Rattle.sc_core.specs.declared.expression.CoreExpr.TheOpen.{CoreExpr-F}
use Rattle.sc_core.specs.declared.expression.UnaryOperator.{UnaryOperator}
use Rattle.sc_core.specs.declared.expression.UnaryOperator.TheVariants as unary
use Rattle.sc_core.specs.Types.{type_of}
use Rattle.sc_ops.specs.Numbers.{bits_of as bits_in, promoted}
use Rattle.sc_ops.specs.Operators.{exact, operand, truth_of, value_of}
use Rattle.sc_emu.specs.Operations.{plain}
use Rattle.sc_emu.specs.Registers.{Registers, register}
use Rattle.sc_meaning.specs.Calls.{eval}
use Rattle.sc_meaning.specs.Expressions.{Answer, Plain, finished, valued}
use Rattle.sc_meaning.specs.Expressions as meaning
use Rattle.sc_meaning.specs.Outcomes.{Breach, Done, and_then, operand_breach, unless, world_after}
use Rattle.sc_meaning.specs.Laws.{Leads}
use Rattle.sc_meaning.specs.Values.{Value, Number, FunctionAt, Pointer, int_of, null}
use Rattle.sc_meaning.specs.Versions.{History}
use Rattle.sc_meaning.specs.Violations.{bits, integer_rule}
use Rattle.sc_meaning.specs.World.{Work, World, tick}
use Rattle.sc_meaning.proofs.Steps.{here, one_more}
use Rattle.sc_mixed.specs.Bridge.{with_registers}
use Rattle.sc_mixed.specs.declared.calls.Calls.{Calls}
use Rattle.sc_mixed_means.specs.Stages.{Stage}
use Rattle.sc_gen_code.specs.declared.style.Spot.{Spot}
use Rattle.sc_gen_code.specs.Code.{Code}
use Rattle.sc_gen_code.specs.Operators.{unary_of}
use Rattle.sc_gen_operand.specs.Plans.{word}
use Rattle.sc_compiled_values.specs.Operators.{single}
use Rattle.sc_compiled_values.specs.Straight.{Words, after}
use Rattle.sc_compiled_values.proofs.Constants.{singles}
use Rattle.sc_compiled_frames.proofs.Values.{number_means}
use Rattle.sc_compiled_expressions.specs.Parts.{End, Leading, Meets}
use Rattle.sc_compiled_expressions.proofs.Joining.{in_turn, same_part, undefined_here}
use Rattle.sc_compiled_expressions.specs.Standing.{Home, MeansIn, Stands, stub, table}
use Rattle.sc_compiled_expressions.specs.Good.{AnsweredPlain, GivesPlain, GivesValue, IsDeeper, IsPlaced, Valued, code_of}
use Rattle.sc_compiled_expressions.proofs.Standing.{keeps_then, keeps_with, own_step, placed_back, placed_front, placed_same, stands_with, stands_worked}
use Rattle.sc_compiled_expressions.proofs.Nodes.{finish, layer_is, less, opened}
use Rattle.sc_compiled_expressions.specs.Straights.{AreStraight}
use Rattle.sc_compiled_expressions.proofs.Numbers.{index_zero, stays, waits_not_a0}
use Rattle.sc_compiled_expressions.proofs.Registers.{straight_goes}

-- ---- the code

single_straight : (o : UnaryOperator) → AreStraight (unary_of o)
single_straight unary.Plus = tt
single_straight unary.Minus = ((omega arith, omega arith, omega arith), tt)
single_straight unary.Complement = ((omega arith, omega arith), tt)
single_straight unary.Not = ((omega arith, omega arith), tt)

single_keeps : (o : UnaryOperator) (r : Words) (j : ℕ) → (j == 10) ≡ false → after (unary_of o) r j ≡ r j
single_keeps unary.Plus r j e = refl
single_keeps unary.Minus r j e = stays r _ j e
single_keeps unary.Complement r j e = stays r _ j e
single_keeps unary.Not r j e = stays r _ j e

-- ---- numbers of 32 bits

bits_below : (z : ℤ) → bits_in z < 4294967296
bits_below (pos n) = omega arith
bits_below (negsuc n) = omega arith

truth_below : (b : Bool) → truth_of b < 4294967296
truth_below true = omega arith
truth_below false = omega arith

single_wide : (o : UnaryOperator) (k : Int) (n : ℕ) → n < 4294967296 → single o k n < 4294967296
single_wide unary.Plus k n lt = lt
single_wide unary.Minus k n lt = bits_below (exact op.Neg (operand k 0) (operand k n))
single_wide unary.Complement k n lt = omega (arith, lt)
single_wide unary.Not k n lt = truth_below (n == 0)

word_is : (z : Word) (n : ℕ) → z.bits ≡ n → z.tag ≡ 0 → z ≡ plain n
word_is z n b t = ap₂ (λ x y. record { bits = x; tag = y }) b t

-- what the meaning does is an operator on two integers, the first of which is 0
abbrev Operates : UnaryOperator → Op → Type 0
Operates o p = ((k : CType) (x : Value) (u : World) → meaning.unary o k x u ≡ unless (integer_rule p (int_of k) null x) (operand_breach p (promoted (int_of k)) null (promoted (int_of k)) x u) (λ w. Done (Number (value_of p (int_of k) 0 (bits x))) w) u) × ((k : Int) (n : ℕ) → single o k n ≡ value_of p k 0 n)

no_function : (p : Op) (k : Int) (key : Key) → integer_rule p k null (FunctionAt key) ≡ None → ⊥
no_function p k key e = cc (e)

no_pointer : (p : Op) (k : Int) (b i : ℕ) → integer_rule p k null (Pointer b i) ≡ None → ⊥
no_pointer p k b i e = cc (e)

rule_leads : (o : Option Rule) (told : Rule → Breach) (x : Value) (u : World) → Leads u (world_after (and_then (unless o told (λ w. Done x w) u) meaning.plain))
rule_leads None told x u = one_more (Work 1) u
rule_leads (Some r) told x u = here u

module _ (home : Home) (most deep l : ℕ) (t : CType) (o : UnaryOperator) (p : Op) (e a : CoreExpr) (at : Spot) (is : out-CoreExpr e ≡ CoreExpr-F.Unary l t o a) (few : at.depth ≤ 5) (good : GivesValue home most deep a at)
    (code : code_of home e at ≡ code_of home a at ++ unary_of o) (operates : Operates o p)
    (bound : ℕ → ℕ) (dp : IsDeeper (suc deep) bound) (s : Stage) (c : Calls) (w v : World) (pl : IsPlaced home c.regs.pc (code_of home e at)) (st : Stands home s c w v) where
  abbrev ca : Code
  ca = code_of home a at

  abbrev end : ℕ
  end = c.regs.pc + 4 * length (code_of home e at)

  abbrev E : End Answer
  E = AnsweredPlain home at end c w

  abbrev k : Int
  k = int_of (type_of a)

  both : IsPlaced home c.regs.pc (ca ++ unary_of o)
  both = placed_same home c.regs.pc c.regs.pc (code_of home e at) (ca ++ unary_of o) refl code pl

  last : IsPlaced home (c.regs.pc + 4 * length ca) (unary_of o)
  last = placed_back home c.regs.pc ca (unary_of o) both

  whole : end ≡ c.regs.pc + 4 * length ca + 4 * length (unary_of o)
  whole = let n = ap length code in let m = length-append ca (unary_of o) in omega (arith, n, m)

  in_file : (j : ℕ) → j < at.depth → 13 + j < 32
  in_file j lt = omega (arith, lt, few)

  of_number : (n : ℕ) (u : World) (q : Stage) (d : Calls) (y : World) → Valued home at (c.regs.pc + 4 * length ca) c w q (Number n) u d y → Meets most q E d y u (λ h m. finished (Plain (Number (value_of p k 0 n))) u)
  of_number n u q d y ended =
      let there = ended.there in
      let a0_was : register d.regs 10 ≡ plain n = word_is (register d.regs 10) n ended.word.stands.0 ended.word.stands.1 in
      let small : n < 4294967296 = subst (λ x. x < 4294967296) ended.word.stands.0 ended.word.wide in
      straight_goes home most q E d y u (λ h m. finished (Plain (Number (value_of p k 0 n))) u) ended.stands (unary_of o) (single_straight o) (placed_same home (c.regs.pc + 4 * length ca) d.regs.pc (unary_of o) (unary_of o) (sym there) refl last)
      (λ h m. one_more (Work 1) u)
      (λ zs are each.
      let r : Registers = record { pc = d.regs.pc + 4 * length (unary_of o); words = zs } in
      let f : Calls = with_registers r d in
      let a0_is : register r 10 ≡ plain (value_of p k 0 n) = each 10 (omega arith) ∙ singles (register d.regs) n o k (index_zero d.regs.words ended.stands.regs) a0_was small ∙ ap plain (operates.1 k n) in
      let sp_is : register r 2 ≡ register d.regs 2 = each 2 (omega arith) ∙ single_keeps o (register d.regs) 2 refl in
      let all_is = whole in
      finish home most q E (Plain (Number (value_of p k 0 n))) f y u (record {
        of = Number (value_of p k 0 n);
        is = refl;
        valued = record {
          there = omega (arith, there, all_is);
          word = subst (λ z. MeansIn y z (Number (value_of p k 0 n))) (sym a0_is) (number_means (stub y) (table y) (value_of p k 0 n) (subst (λ x. x < 4294967296) (operates.1 k n) (single_wide o k n small)));
          stands = stands_worked home q f y u 1 (stands_with home q d r y u are sp_is ended.stands);
          keeps = keeps_then home at c d f w y y ended.keeps (keeps_with home at d r y (λ j lt. each (13 + j) (in_file j lt) ∙ single_keeps o (register d.regs) (13 + j) (waits_not_a0 j)));
        };
      }))

  of_value : (x : Value) (u : World) (q : Stage) (d : Calls) (y : World) → integer_rule p k null x ≡ None → Valued home at (c.regs.pc + 4 * length ca) c w q x u d y → Meets most q E d y u (λ h m. finished (Plain (Number (value_of p k 0 (bits x)))) u)
  of_value (Number n) u q d y rule ended = of_number n u q d y ended
  of_value (FunctionAt key) u q d y rule ended = absurd (no_function p k key rule)
  of_value (Pointer b i) u q d y rule ended = absurd (no_pointer p k b i rule)

  by_rule : (g : Option Rule) (told : Rule → Breach) (x : Value) (u : World) (q : Stage) (d : Calls) (y : World) → integer_rule p k null x ≡ g → Valued home at (c.regs.pc + 4 * length ca) c w q x u d y
      → Meets most q E d y u (λ h m. and_then (unless g told (λ w. Done (Number (value_of p k 0 (bits x))) w) u) meaning.plain)
  by_rule (Some r) told x u q d y rule ended = undefined_here most q E d y u (λ h m. and_then (unless (Some r) told (λ w. Done (Number (value_of p k 0 (bits x))) w) u) meaning.plain) (told r) (own_step (told r) u ended.stands.own) (λ h m. refl)
  by_rule None told x u q d y rule ended = of_value x u q d y rule ended

  go_leads : (x : Value) (u : World) → Leading u (λ (h : History) (m : ℕ). and_then (meaning.unary o (type_of a) x u) meaning.plain)
  go_leads x u = λ h m. subst (λ r. Leads u (world_after (and_then r meaning.plain))) (sym (operates.0 (type_of a) x u)) (rule_leads (integer_rule p k null x) (operand_breach p (promoted k) null (promoted k) x u) (Number (value_of p k 0 (bits x))) u)

  pub single_meets : Meets most s E c w v (λ h m. eval (bound m) h home.env e v)
  single_meets =
      opened home most deep e (CoreExpr-F.Unary l t o a) is s E bound dp c w v refl
      (in_turn most s (Valued home at (c.regs.pc + 4 * length ca) c w) E c w (tick v) (λ h m. valued (eval (bound m - 1) h) home.env a (tick v)) (λ x u h m. and_then (meaning.unary o (type_of a) x u) meaning.plain)
      (good (λ m. bound m - 1) (less deep bound dp) s c w (tick v) (placed_front home c.regs.pc ca (unary_of o) both) (stands_worked home s c w v 1 st)) go_leads
      (λ q x u d y ended.
      same_part most q E d y u (λ h m. and_then (meaning.unary o (type_of a) x u) meaning.plain) (λ h m. and_then (unless (integer_rule p k null x) (operand_breach p (promoted k) null (promoted k) x u) (λ w. Done (Number (value_of p k 0 (bits x))) w) u) meaning.plain)
      (λ h m. ap (λ r. and_then r meaning.plain) (operates.0 (type_of a) x u))
      (by_rule (integer_rule p k null x) (operand_breach p (promoted k) null (promoted k) x u) x u q d y refl ended)))

pub minus_given : (home : Home) (most deep l : ℕ) (t : CType) (e a : CoreExpr) (at : Spot) → out-CoreExpr e ≡ CoreExpr-F.Unary l t unary.Minus a → at.depth ≤ 5 → GivesValue home most deep a at → GivesPlain home most (suc deep) e at
minus_given home most deep l t e a at is few good = λ bound dp s c w v pl st.
    single_meets home most deep l t unary.Minus op.Neg e a at is few good (layer_is home word e (CoreExpr-F.Unary l t unary.Minus a) at is) (λ k x u. refl, λ k n. refl) bound dp s c w v pl st

pub complement_given : (home : Home) (most deep l : ℕ) (t : CType) (e a : CoreExpr) (at : Spot) → out-CoreExpr e ≡ CoreExpr-F.Unary l t unary.Complement a → at.depth ≤ 5 → GivesValue home most deep a at → GivesPlain home most (suc deep) e at
complement_given home most deep l t e a at is few good = λ bound dp s c w v pl st.
    single_meets home most deep l t unary.Complement op.Not e a at is few good (layer_is home word e (CoreExpr-F.Unary l t unary.Complement a) at is) (λ k x u. refl, λ k n. refl) bound dp s c w v pl st
