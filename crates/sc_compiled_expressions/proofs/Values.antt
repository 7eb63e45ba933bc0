-- Truth values in a register: !a, a && b and a || b.
use Rattle.std.proofs.Common.{◌≡◌, ℕ, suc, ◌+◌, ◌-◌, ◌*◌, ◌^◌, ◌<◌, ◌==◌, not, Bool, true, false, [], ◌∷◌, ◌++◌, length, Option, Some, None, refl, sym, ap, subst, ◌∙◌, arith, length-append}
use Rattle.std.proofs.lemmas.Bool.Decides.{nat_tests}
use Rattle.std.specs.Prelude.{pos, if◌then◌else◌, nat_lt}
use Rattle.sc_base.specs.declared.integer.Int.TheVariants.{Int as PlainInt}
use Rattle.sc_base.specs.declared.memory.Word.{Word}
use Rattle.sc_base.specs.declared.operator.Op.TheVariants.{Truth}
use Rattle.sc_base.specs.declared.report.Rule.{Rule}
use Rattle.sc_isa.specs.declared.instruction.Instr.TheVariants.{Branch, Imm, Jal, Reg}
use Rattle.sc_isa.specs.declared.instruction.ImmOp.TheVariants.{Sltiu}
use Rattle.sc_isa.specs.declared.instruction.RegOp.TheVariants.{Sltu}
use Rattle.sc_types.specs.declared.ctype.CType.{CType}
use Rattle.sc_core.specs.declared.expression.CoreExpr.{CoreExpr, out-CoreExpr}
use Rattle.sc_core.specs.declared.expression.CoreExpr.TheOpen.{CoreExpr-F}
use Rattle.sc_core.specs.declared.expression.UnaryOperator.TheVariants as op
use Rattle.sc_core.specs.Types.{type_of}
use Rattle.sc_ops.specs.Numbers.{promoted}
use Rattle.sc_ops.specs.Operators.{truth_of}
use Rattle.sc_emu.specs.Operations.{is_taken, plain as untagged, truth as told_as}
use Rattle.sc_emu.specs.Registers.{register, with_word}
use Rattle.sc_meaning.specs.Accesses.{is_true, tested}
use Rattle.sc_meaning.specs.Calls.{eval}
use Rattle.sc_meaning.specs.Expressions.{Answer, Plain, either, plain, truth, unary, valued}
use Rattle.sc_meaning.specs.Outcomes.{Breach, Done, Outcome, Over, and_then, operand_breach, unless}
use Rattle.sc_meaning.specs.Values.{Value, Number, int_of, is_pointer_type, null}
use Rattle.sc_meaning.specs.Violations.{truth_rule}
use Rattle.sc_meaning.specs.World.{World, Work, tick}
use Rattle.sc_meaning.proofs.Growing.{leads_then}
use Rattle.sc_meaning.proofs.Steps.{here, one_more}
use Rattle.sc_mixed.specs.Bridge.{with_registers}
use Rattle.sc_mixed.specs.declared.calls.Calls.{Calls}
use Rattle.sc_mixed_means.specs.Stages.{Stage}
use Rattle.sc_gen_code.specs.declared.style.Spot.{Spot}
use Rattle.sc_gen_code.specs.declared.symbolic.Symbolic.{Symbolic}
use Rattle.sc_gen_code.specs.declared.symbolic.Symbolic.TheVariants as symbolic
use Rattle.sc_gen_code.specs.Code.{Code, over}
use Rattle.sc_gen_operand.specs.Plans.{word}
use Rattle.sc_compiled_frames.proofs.Converting.{truth_is}
use Rattle.sc_compiled_frames.proofs.Values.{number_means}
use Rattle.sc_compiled_expressions.specs.Instructions.{InstrAt, goes_to}
use Rattle.sc_compiled_expressions.specs.Parts.{End, Family, Leading, Meets, followed}
use Rattle.sc_compiled_expressions.proofs.Joining.{in_turn, same_part, undefined_here}
use Rattle.sc_compiled_expressions.proofs.Behind.{behind_over, behind_skip, behind_straight}
use Rattle.sc_compiled_expressions.specs.Standing.{Home, Keeps, MeansIn, Stands, stub, table}
use Rattle.sc_compiled_expressions.specs.Good.{AnsweredPlain, GivesPlain, GivesValue, IsDeeper, IsPlaced, Valued, code_of, is_skipped, skip_op, skips}
use Rattle.sc_compiled_expressions.proofs.Standing.{a0_is, first_at, has_code, keeps_a0, keeps_at, keeps_then, memory_of, own_step, placed_back, placed_front, placed_same, seated, stands_a0, stands_at, stands_worked, with_a0, x0_is}
use Rattle.sc_compiled_expressions.proofs.Nodes.{finish, layer_is, less, opened, valued_leads}
use Rattle.sc_compiled_expressions.proofs.Conditions.{taken, tested_leads}

-- ---- what sltiu and sltu make of a word

truth_below : (t : Bool) → truth_of t < 2 ^ 32
truth_below true = omega arith
truth_below false = omega arith

told_same : (t : Bool) → told_as t ≡ truth_of t
told_same true = refl
told_same false = refl

is_zero : (n : ℕ) (t : Bool) → (n == 0) ≡ not t → nat_lt n 1 ≡ not t
is_zero n true e = grind (arith, nat_tests, e)
is_zero n false e = grind (arith, nat_tests, e)

is_more : (n : ℕ) (t : Bool) → (n == 0) ≡ not t → nat_lt 0 n ≡ t
is_more n true e = grind (arith, nat_tests, e)
is_more n false e = grind (arith, nat_tests, e)

module _ (home : Home) (most : ℕ) where
  truth_here : (x : Value) (u : World) (s : Stage) (d : Calls) (y : World) → Stands home s d y u → MeansIn y (register d.regs 10) x → ((register d.regs 10).bits == 0) ≡ not (is_true x)
  truth_here x u s d y st m = truth_is y.beside.functions (stub y) (table y) (register d.regs 10) x st.stubs (seated home s d y u st) m

  -- a0 gets a truth value, and the node ends
  ends_true : (at : Spot) (end pc : ℕ) (c : Calls) (w : World) (t : Bool) (u : World) (s : Stage) (d : Calls) (y : World) (x : Word) → pc ≡ end → x ≡ untagged (truth_of t) → Stands home s d y u → Keeps home at c w d y
      → AnsweredPlain home at end c w s (Plain (Number (truth_of t))) (tick u) (with_a0 pc x d) y
  ends_true at end pc c w t u s d y x there is st keeps = record {
    of = Number (truth_of t);
    is = refl;
    valued = record {
      there = there;
      word = subst (λ z. MeansIn y z (Number (truth_of t))) (sym (a0_is d pc x st.regs ∙ is)) (number_means (stub y) (table y) (truth_of t) (truth_below t));
      stands = stands_worked home s (with_a0 pc x d) y u 1 (stands_a0 home s d y u pc x st);
      keeps = keeps_then home at c d (with_a0 pc x d) w y y keeps (keeps_a0 home at d y pc x);
    };
  }

  -- ---- !a

  abbrev inversion : Symbolic
  inversion = symbolic.Plain (Imm Sltiu 10 10 (pos 1))

  module _ (deep l : ℕ) (t : CType) (e a : CoreExpr) (at : Spot) (is : out-CoreExpr e ≡ CoreExpr-F.Unary l t op.Not a) (good : GivesValue home most deep a at)
      (bound : ℕ → ℕ) (dp : IsDeeper (suc deep) bound) (s : Stage) (c : Calls) (w v : World) (pl : IsPlaced home c.regs.pc (code_of home e at)) (st : Stands home s c w v) where
    abbrev na : Code
    na = code_of home a at

    abbrev n_end : ℕ
    n_end = c.regs.pc + 4 * length (code_of home e at)

    abbrev En : End Answer
    En = AnsweredPlain home at n_end c w

    n_code : code_of home e at ≡ na ++ inversion ∷ []
    n_code = layer_is home word e (CoreExpr-F.Unary l t op.Not a) at is

    n_both : IsPlaced home c.regs.pc (na ++ inversion ∷ [])
    n_both = placed_same home c.regs.pc c.regs.pc (code_of home e at) (na ++ inversion ∷ []) refl n_code pl

    n_last : c.regs.pc + 4 * length na + 4 ≡ n_end
    n_last = let n = length-append na (inversion ∷ []) in let m = ap length n_code in omega (arith, n, m)

    n_rule : (o : Option Rule) (told : Rule → Breach) (x : Value) (u : World) (s : Stage) (q : Calls) (y : World) → Valued home at (c.regs.pc + 4 * length na) c w s x u q y
        → Meets most s En q y u (λ h m. and_then (and_then (unless o told (λ w. Done (is_true x) w) u) (λ holds w. Done (Number (truth_of (not holds))) w)) plain)
    n_rule (Some r) told x u s q y p = undefined_here most s En q y u (λ h m. and_then (and_then (unless (Some r) told (λ w. Done (is_true x) w) u) (λ holds w. Done (Number (truth_of (not holds))) w)) plain) (told r) (own_step (told r) u p.stands.own) (λ h m. refl)
    n_rule None told x u s q y p =
        let there = p.there in
        let made = untagged (told_as (nat_lt (register q.regs 10).bits 1)) in
        let value : made ≡ untagged (truth_of (not (is_true x))) = ap (λ b. untagged (told_as b)) (is_zero (register q.regs 10).bits (is_true x) (truth_here x u s q y p.stands p.word)) ∙ ap untagged (told_same (not (is_true x))) in
        let m = n_last in
        let pc : q.regs.pc + 4 * length (inversion ∷ []) ≡ n_end = omega (arith, there, m) in
        behind_straight most s p.stands.value En (inversion ∷ []) q y u (with_word q.regs.words 10 made) (λ h m. plain (Number (truth_of (not (is_true x)))) u) (memory_of home s q y u p.stands)
        (has_code home s q y u p.stands q.regs.pc (inversion ∷ []) (placed_same home (c.regs.pc + 4 * length na) q.regs.pc (inversion ∷ []) (inversion ∷ []) (sym there) refl (placed_back home c.regs.pc na (inversion ∷ []) n_both))) refl (λ h m. one_more (Work 1) u)
        (finish home most s En (Plain (Number (truth_of (not (is_true x))))) (with_a0 (q.regs.pc + 4 * length (inversion ∷ [])) made q) y u
        (ends_true at n_end (q.regs.pc + 4 * length (inversion ∷ [])) c w (not (is_true x)) u s q y made pc value p.stands p.keeps))

    negation_meets : Meets most s En c w v (λ h m. eval (bound m) h home.env e v)
    negation_meets =
        opened home most deep e (CoreExpr-F.Unary l t op.Not a) is s En bound dp c w v refl
        (in_turn most s (Valued home at (c.regs.pc + 4 * length na) c w) En c w (tick v) (λ h m. valued (eval (bound m - 1) h) home.env a (tick v)) (λ x u h m. and_then (unary op.Not (type_of a) x u) plain)
        (good (λ m. bound m - 1) (less deep bound dp) s c w (tick v) (placed_front home c.regs.pc na (inversion ∷ []) n_both) (stands_worked home s c w v 1 st))
        (λ x u h m. leads_then u (unary op.Not (type_of a) x u) plain (leads_then u (tested (type_of a) x u) (λ holds w. Done (Number (truth_of (not holds))) w) (tested_leads (type_of a) x u) (λ holds w. here w)) (λ n w. one_more (Work 1) w))
        (λ s x u q y p. n_rule (truth_rule u.objects (is_pointer_type (type_of a)) x) (operand_breach Truth (promoted (int_of (type_of a))) x PlainInt null u) x u s q y p))

  pub negation : (deep l : ℕ) (t : CType) (e a : CoreExpr) (at : Spot) → out-CoreExpr e ≡ CoreExpr-F.Unary l t op.Not a → GivesValue home most deep a at → GivesPlain home most (suc deep) e at
  negation deep l t e a at is good = λ bound dp s c w v pl st. negation_meets deep l t e a at is good bound dp s c w v pl st

  -- ---- a && b, a || b

  abbrev setting : Symbolic
  setting = symbolic.Plain (Reg Sltu 10 0 10)

  module _ (deep : ℕ) (e a b : CoreExpr) (at : Spot) (f : Bool) (bound : ℕ → ℕ) (dp : IsDeeper (suc deep) bound) (s : Stage) (c : Calls) (w v : World)
      (code : code_of home e at ≡ code_of home a at ++ (skips f ∷ over (length (code_of home b at)) ∷ (code_of home b at ++ setting ∷ [])))
      (good_a : GivesValue home most deep a at) (good_b : GivesValue home most deep b at) (pl : IsPlaced home c.regs.pc (code_of home e at)) (st : Stands home s c w v) where
    abbrev ca : Code
    ca = code_of home a at

    abbrev cb : Code
    cb = code_of home b at

    abbrev jump : Symbolic
    jump = over (length cb)

    abbrev end : ℕ
    end = c.regs.pc + 4 * length (code_of home e at)

    abbrev E : End Answer
    E = AnsweredPlain home at end c w

    abbrev less_bound : ℕ → ℕ
    less_bound = λ m. bound m - 1

    abbrev pick : Bool → Bool → World → Family Answer
    pick t holds u = λ h m. if t then and_then (valued (eval (less_bound m) h) home.env b u) (truth (type_of b)) else plain (Number (truth_of holds)) u

    all : IsPlaced home c.regs.pc (ca ++ (skips f ∷ jump ∷ (cb ++ setting ∷ [])))
    all = placed_same home c.regs.pc c.regs.pc (code_of home e at) (ca ++ (skips f ∷ jump ∷ (cb ++ setting ∷ []))) refl code pl

    tail : IsPlaced home (c.regs.pc + 4 * length ca) (skips f ∷ jump ∷ (cb ++ setting ∷ []))
    tail = placed_back home c.regs.pc ca (skips f ∷ jump ∷ (cb ++ setting ∷ [])) all

    behind_branch : IsPlaced home (c.regs.pc + 4 * length ca + 4 * length (skips f ∷ [])) (jump ∷ (cb ++ setting ∷ []))
    behind_branch = placed_back home (c.regs.pc + 4 * length ca) (skips f ∷ []) (jump ∷ (cb ++ setting ∷ [])) tail

    inner : IsPlaced home (c.regs.pc + 4 * length ca + 4 * length (skips f ∷ []) + 4 * length (jump ∷ [])) (cb ++ setting ∷ [])
    inner = placed_back home (c.regs.pc + 4 * length ca + 4 * length (skips f ∷ [])) (jump ∷ []) (cb ++ setting ∷ []) behind_branch

    back : IsPlaced home (c.regs.pc + 4 * length ca + 4 * length (skips f ∷ []) + 4 * length (jump ∷ []) + 4 * length cb) (setting ∷ [])
    back = placed_back home (c.regs.pc + 4 * length ca + 4 * length (skips f ∷ []) + 4 * length (jump ∷ [])) cb (setting ∷ []) inner

    whole : end ≡ c.regs.pc + 4 * length ca + 8 + 4 * length cb + 4
    whole = let n = length-append ca (skips f ∷ jump ∷ (cb ++ setting ∷ [])) in let m = ap length code in let k = length-append cb (setting ∷ []) in omega (arith, n, m, k)

    -- the last word makes 0 or 1 of what is in a0
    sets : (t : Bool) (x : Value) (u : World) (s : Stage) (q : Calls) (y : World) → t ≡ is_true x → q.regs.pc ≡ c.regs.pc + 4 * length ca + 8 + 4 * length cb → MeansIn y (register q.regs 10) x → Stands home s q y u → Keeps home at c w q y
        → Meets most s E q y u (λ h m. plain (Number (truth_of t)) u)
    sets t x u s q y same there means stands keeps =
        let all_is = whole in
        let made = untagged (told_as (nat_lt (register q.regs 0).bits (register q.regs 10).bits)) in
        let value : made ≡ untagged (truth_of t) =
        ap (λ (z : Word). untagged (told_as (nat_lt z.bits (register q.regs 10).bits))) (x0_is q.regs stands.regs)
        ∙ ap (λ k. untagged (told_as k)) (is_more (register q.regs 10).bits (is_true x) (truth_here x u s q y stands means) ∙ sym same) ∙ ap untagged (told_same t) in
        let pc : q.regs.pc + 4 * length (setting ∷ []) ≡ end = omega (arith, there, all_is) in
        let from : c.regs.pc + 4 * length ca + 4 * length (skips f ∷ []) + 4 * length (jump ∷ []) + 4 * length cb ≡ q.regs.pc = omega (arith, there) in
        behind_straight most s stands.value E (setting ∷ []) q y u (with_word q.regs.words 10 made) (λ h m. plain (Number (truth_of t)) u) (memory_of home s q y u stands)
        (has_code home s q y u stands q.regs.pc (setting ∷ []) (placed_same home (c.regs.pc + 4 * length ca + 4 * length (skips f ∷ []) + 4 * length (jump ∷ []) + 4 * length cb) q.regs.pc (setting ∷ []) (setting ∷ []) from refl back)) refl (λ h m. one_more (Work 1) u)
        (finish home most s E (Plain (Number (truth_of t))) (with_a0 (q.regs.pc + 4 * length (setting ∷ [])) made q) y u (ends_true at end (q.regs.pc + 4 * length (setting ∷ [])) c w t u s q y made pc value stands keeps))

    -- the second operand is computed
    computes : (holds : Bool) (u : World) (s : Stage) (q : Calls) (y : World) → q.regs.pc ≡ c.regs.pc + 4 * length ca + 8 → Stands home s q y u → Keeps home at c w q y → Meets most s E q y u (pick true holds u)
    computes holds u s q y there stands keeps =
        let from : c.regs.pc + 4 * length ca + 4 * length (skips f ∷ []) + 4 * length (jump ∷ []) ≡ q.regs.pc = omega (arith, there) in
        in_turn most s (Valued home at (q.regs.pc + 4 * length cb) q y) E q y u (λ h m. valued (eval (less_bound m) h) home.env b u) (λ z r h m. truth (type_of b) z r)
        (good_b less_bound (less deep bound dp) s q y u (placed_same home (c.regs.pc + 4 * length ca + 4 * length (skips f ∷ []) + 4 * length (jump ∷ [])) q.regs.pc cb cb from refl (placed_front home (c.regs.pc + 4 * length ca + 4 * length (skips f ∷ []) + 4 * length (jump ∷ [])) cb (setting ∷ []) inner)) stands)
        (λ z r h m. leads_then r (tested (type_of b) z r) (λ t w. plain (Number (truth_of t)) w) (tested_leads (type_of b) z r) (λ t w. one_more (Work 1) w))
        (λ s z r k x p. by_rule (truth_rule r.objects (is_pointer_type (type_of b)) z) (operand_breach Truth (promoted (int_of (type_of b))) z PlainInt null r) z r s k x p)
      where
        by_rule : (o : Option Rule) (told : Rule → Breach) (z : Value) (r : World) (s : Stage) (k : Calls) (x : World) → Valued home at (q.regs.pc + 4 * length cb) q y s z r k x → Meets most s E k x r (λ h m. and_then (unless o told (λ w. Done (is_true z) w) r) (λ t w. plain (Number (truth_of t)) w))
        by_rule (Some n) told z r s k x p = undefined_here most s E k x r (λ h m. and_then (unless (Some n) told (λ w. Done (is_true z) w) r) (λ t w. plain (Number (truth_of t)) w)) (told n) (own_step (told n) r p.stands.own) (λ h m. refl)
        by_rule None told z r s k x p = sets (is_true z) z r s k x refl (p.there ∙ ap (λ n. n + 4 * length cb) there) p.word p.stands (keeps_then home at c q k w y x keeps p.keeps)

    -- it is left out
    leaves_out : (holds : Bool) (x : Value) (u : World) (s : Stage) (q : Calls) (y : World) → holds ≡ is_true x → q.regs.pc ≡ c.regs.pc + 4 * length ca + 4 → MeansIn y (register q.regs 10) x → Stands home s q y u → Keeps home at c w q y → Meets most s E q y u (pick false holds u)
    leaves_out holds x u s q y same there means stands keeps =
        let short = behind_branch.short in
        let near = behind_branch.near in
        let n = length-append cb (setting ∷ []) in
        let small : length cb < 262143 = omega (arith, short, n) in
        let is_small : nat_lt (length cb) 262143 ≡ true = grind (arith, nat_tests, small) in
        let from : c.regs.pc + 4 * length ca + 4 * length (skips f ∷ []) ≡ q.regs.pc = omega (arith, there) in
        let pc = q.regs.pc + (4 * length cb + 4) in
        let d = with_registers (goes_to pc q.regs) q in
        behind_over most s stands.value E (length cb) q y u (pick false holds u) (memory_of home s q y u stands)
        (subst (λ k. InstrAt s.image k (Jal 0 (if nat_lt (length cb) 262143 then pos (4 * length cb + 4) else pos 0))) from (first_at home s q y u stands (c.regs.pc + 4 * length ca + 4 * length (skips f ∷ [])) jump (cb ++ setting ∷ []) behind_branch)) is_small (omega (arith, near, n, there)) (λ h m. one_more (Work 1) u)
        (sets holds x u s d y same (omega (arith, there)) means (stands_at home s q y u pc stands) (keeps_then home at c q d w y y keeps (keeps_at home at q y pc)))

    pick_leads : (t holds : Bool) (u : World) → Leading u (pick t holds u)
    pick_leads true holds u = λ h m. leads_then u (valued (eval (less_bound m) h) home.env b u) (truth (type_of b)) (valued_leads (less_bound m) h home.env b u) (λ z r. leads_then r (tested (type_of b) z r) (λ t w. plain (Number (truth_of t)) w) (tested_leads (type_of b) z r) (λ t w. one_more (Work 1) w))
    pick_leads false holds u = λ h m. one_more (Work 1) u

    by_skip : (t : Bool) (x : Value) (u : World) (s : Stage) (q : Calls) (y : World) (k : Calls) → k ≡ with_registers (goes_to (if t then q.regs.pc + 8 else q.regs.pc + 4) q.regs) q → Valued home at (c.regs.pc + 4 * length ca) c w s x u q y → Meets most s E (with_registers (goes_to (if t then q.regs.pc + 8 else q.regs.pc + 4) q.regs) q) y u (pick t (is_true x) u)
    by_skip true x u s q y k same p = let d = with_registers (goes_to (q.regs.pc + 8) q.regs) q in computes (is_true x) u s d y (ap (λ n. n + 8) p.there) (stands_at home s q y u (q.regs.pc + 8) p.stands) (keeps_then home at c q d w y y p.keeps (keeps_at home at q y (q.regs.pc + 8)))
    by_skip false x u s q y k same p = let d = with_registers (goes_to (q.regs.pc + 4) q.regs) q in leaves_out (is_true x) x u s d y refl (ap (λ n. n + 4) p.there) p.word (stands_at home s q y u (q.regs.pc + 4) p.stands) (keeps_then home at c q d w y y p.keeps (keeps_at home at q y (q.regs.pc + 4)))

    after_first : (o : Option Rule) (told : Rule → Breach) (x : Value) (u : World) (s : Stage) (q : Calls) (y : World) → Valued home at (c.regs.pc + 4 * length ca) c w s x u q y
        → Meets most s E q y u (λ h m. and_then (unless o told (λ w. Done (is_true x) w) u) (λ holds r. pick (is_skipped f holds) holds r h m))
    after_first (Some n) told x u s q y p = undefined_here most s E q y u (λ h m. and_then (unless (Some n) told (λ w. Done (is_true x) w) u) (λ holds r. pick (is_skipped f holds) holds r h m)) (told n) (own_step (told n) u p.stands.own) (λ h m. refl)
    after_first None told x u s q y p =
        let there = p.there in
        let near = tail.near in
        let test : is_taken (skip_op f) (register q.regs 10).bits (register q.regs 0).bits ≡ is_skipped f (is_true x) =
        ap (λ (z : Word). is_taken (skip_op f) (register q.regs 10).bits z.bits) (x0_is q.regs p.stands.regs) ∙ taken f (is_true x) (register q.regs 10).bits (truth_here x u s q y p.stands p.word) in
        behind_skip most s p.stands.value E (skip_op f) 10 0 q y u (pick (is_skipped f (is_true x)) (is_true x) u) (memory_of home s q y u p.stands) (subst (λ n. InstrAt s.image n (Branch (skip_op f) 10 0 (pos 8))) (sym there) (first_at home s q y u p.stands (c.regs.pc + 4 * length ca) (skips f) (jump ∷ (cb ++ setting ∷ [])) tail))
        (omega (arith, near, there)) (pick_leads (is_skipped f (is_true x)) (is_true x) u)
        (subst (λ t. Meets most s E (with_registers (goes_to (if t then q.regs.pc + 8 else q.regs.pc + 4) q.regs) q) y u (pick (is_skipped f (is_true x)) (is_true x) u)) (sym test)
        (by_skip (is_skipped f (is_true x)) x u s q y (with_registers (goes_to (if is_skipped f (is_true x) then q.regs.pc + 8 else q.regs.pc + 4) q.regs) q) refl p))

    pub logical_meets : Meets most s E c w (tick v) (followed (λ h m. valued (eval (less_bound m) h) home.env a (tick v)) (λ x u h m. and_then (tested (type_of a) x u) (λ holds r. pick (is_skipped f holds) holds r h m)))
    logical_meets =
        in_turn most s (Valued home at (c.regs.pc + 4 * length ca) c w) E c w (tick v) (λ h m. valued (eval (less_bound m) h) home.env a (tick v)) (λ x u h m. and_then (tested (type_of a) x u) (λ holds r. pick (is_skipped f holds) holds r h m))
        (good_a less_bound (less deep bound dp) s c w (tick v) (placed_front home c.regs.pc ca (skips f ∷ jump ∷ (cb ++ setting ∷ [])) all) (stands_worked home s c w v 1 st))
        (λ x u h m. leads_then u (tested (type_of a) x u) (λ holds r. pick (is_skipped f holds) holds r h m) (tested_leads (type_of a) x u) (λ holds r. pick_leads (is_skipped f holds) holds r h m))
        (λ s x u q y p. after_first (truth_rule u.objects (is_pointer_type (type_of a)) x) (operand_breach Truth (promoted (int_of (type_of a))) x PlainInt null u) x u s q y p)

  and_picks : (r : Outcome Value) (ta : CType) (go : World → Outcome Answer) → and_then r (λ x w. and_then (tested ta x w) (λ holds w. either holds go (plain (Number 0)) w)) ≡ and_then r (λ x w. and_then (tested ta x w) (λ holds w. if is_skipped true holds then go w else plain (Number (truth_of holds)) w))
  and_picks (Over e) ta go = refl
  and_picks (Done x w) ta go = by_test (tested ta x w)
    where
      by_test : (q : Outcome Bool) → and_then q (λ holds w. either holds go (plain (Number 0)) w) ≡ and_then q (λ holds w. if is_skipped true holds then go w else plain (Number (truth_of holds)) w)
      by_test (Over e) = refl
      by_test (Done true u) = refl
      by_test (Done false u) = refl

  or_picks : (r : Outcome Value) (ta : CType) (go : World → Outcome Answer) → and_then r (λ x w. and_then (tested ta x w) (λ holds w. either holds (plain (Number 1)) go w)) ≡ and_then r (λ x w. and_then (tested ta x w) (λ holds w. if is_skipped false holds then go w else plain (Number (truth_of holds)) w))
  or_picks (Over e) ta go = refl
  or_picks (Done x w) ta go = by_test (tested ta x w)
    where
      by_test : (q : Outcome Bool) → and_then q (λ holds w. either holds (plain (Number 1)) go w) ≡ and_then q (λ holds w. if is_skipped false holds then go w else plain (Number (truth_of holds)) w)
      by_test (Over e) = refl
      by_test (Done true u) = refl
      by_test (Done false u) = refl

  pub conjunction : (deep l : ℕ) (t : CType) (e a b : CoreExpr) (at : Spot) → out-CoreExpr e ≡ CoreExpr-F.And l t a b → GivesValue home most deep a at → GivesValue home most deep b at → GivesPlain home most (suc deep) e at
  conjunction deep l t e a b at is good_a good_b = λ bound dp s c w v pl st.
      let E = AnsweredPlain home at (c.regs.pc + 4 * length (code_of home e at)) c w in
      opened home most deep e (CoreExpr-F.And l t a b) is s E bound dp c w v refl
      (same_part most s E c w (tick v) _ (followed (λ h m. valued (eval (bound m - 1) h) home.env a (tick v)) (λ x u h m. and_then (tested (type_of a) x u) (λ holds r. if is_skipped true holds then and_then (valued (eval (bound m - 1) h) home.env b r) (truth (type_of b)) else plain (Number (truth_of holds)) r)))
      (λ h m. and_picks (valued (eval (bound m - 1) h) home.env a (tick v)) (type_of a) (λ r. and_then (valued (eval (bound m - 1) h) home.env b r) (truth (type_of b))))
      (logical_meets deep e a b at true bound dp s c w v (layer_is home word e (CoreExpr-F.And l t a b) at is) good_a good_b pl st))

  pub disjunction : (deep l : ℕ) (t : CType) (e a b : CoreExpr) (at : Spot) → out-CoreExpr e ≡ CoreExpr-F.Or l t a b → GivesValue home most deep a at → GivesValue home most deep b at → GivesPlain home most (suc deep) e at
  disjunction deep l t e a b at is good_a good_b = λ bound dp s c w v pl st.
      let E = AnsweredPlain home at (c.regs.pc + 4 * length (code_of home e at)) c w in
      opened home most deep e (CoreExpr-F.Or l t a b) is s E bound dp c w v refl
      (same_part most s E c w (tick v) _ (followed (λ h m. valued (eval (bound m - 1) h) home.env a (tick v)) (λ x u h m. and_then (tested (type_of a) x u) (λ holds r. if is_skipped false holds then and_then (valued (eval (bound m - 1) h) home.env b r) (truth (type_of b)) else plain (Number (truth_of holds)) r)))
      (λ h m. or_picks (valued (eval (bound m - 1) h) home.env a (tick v)) (type_of a) (λ r. and_then (valued (eval (bound m - 1) h) home.env b r) (truth (type_of b))))
      (logical_meets deep e a b at false bound dp s c w v (layer_is home word e (CoreExpr-F.Or l t a b) at is) good_a good_b pl st))
