-- A condition at the end of a loop: back to the body where it holds, else on behind it.
use Rattle.std.proofs.Common.{◌≡◌, ℕ, suc, ◌+◌, ◌-◌, ◌*◌, ◌^◌, ◌<◌, ◌≤◌, ◌&&◌, Bool, true, false, [], ◌∷◌, ◌++◌, length, refl, sym, ap, subst, ◌∙◌, arith, length-append}
use Rattle.std.proofs.lemmas.Int.{ints}
use Rattle.std.proofs.lemmas.Bool.Decides.{nat_tests}
use Rattle.std.specs.Prelude.{ℤ, pos, neg_ℤ, ◌-ℤ◌, if◌then◌else◌, nat_lt, Option, Some, None}
use Rattle.sc_base.specs.declared.integer.Int.TheVariants.{Int as PlainInt}
use Rattle.sc_base.specs.declared.memory.Word.{Word}
use Rattle.sc_base.specs.declared.operator.Op.TheVariants.{Truth}
use Rattle.sc_base.specs.declared.report.Rule.{Rule}
use Rattle.sc_isa.specs.declared.instruction.BranchOp.TheVariants.{Bne}
use Rattle.sc_isa.specs.declared.instruction.Instr.TheVariants.{Branch, Jal}
use Rattle.sc_core.specs.declared.expression.CoreExpr.{CoreExpr}
use Rattle.sc_core.specs.Types.{type_of}
use Rattle.sc_ops.specs.Numbers.{promoted}
use Rattle.sc_emu.specs.Operations.{bits_of, is_taken, sum}
use Rattle.sc_emu.specs.Registers.{register}
use Rattle.sc_meaning.specs.Accesses.{is_true, tested}
use Rattle.sc_meaning.specs.Calls.{eval}
use Rattle.sc_meaning.specs.Expressions.{Answer, valued}
use Rattle.sc_meaning.specs.Outcomes.{Breach, Done, Outcome, Over, and_then, operand_breach, unless}
use Rattle.sc_meaning.specs.Values.{Value, int_of, is_pointer_type, null}
use Rattle.sc_meaning.specs.Versions.{History}
use Rattle.sc_meaning.specs.Violations.{truth_rule}
use Rattle.sc_meaning.specs.World.{World}
use Rattle.sc_meaning.proofs.Growing.{leads_then}
use Rattle.sc_mixed.specs.Bridge.{with_registers}
use Rattle.sc_mixed.specs.declared.calls.Calls.{Calls}
use Rattle.sc_mixed.specs.declared.calls.Next.TheVariants.{Executes}
use Rattle.sc_mixed_means.specs.Stages.{Stage}
use Rattle.sc_gen_code.specs.declared.symbolic.Symbolic.{Symbolic}
use Rattle.sc_gen_code.specs.declared.symbolic.Symbolic.TheVariants.{Plain as Word_of}
use Rattle.sc_gen_code.specs.Code.{Code, jump}
use Rattle.sc_gen_expr.specs.Expressions.{condition_of, branch_back}
use Rattle.sc_gen_operand.specs.Templates.{comparison, is_joined}
use Rattle.sc_compiled_expressions.specs.Instructions.{InstrAt, goes_to}
use Rattle.sc_compiled_frames.proofs.Converting.{truth_is}
use Rattle.sc_compiled_expressions.specs.Parts.{Family, Leading, Means, followed, looking}
use Rattle.sc_compiled_expressions.proofs.Moving.{GoesOneWay, credit_means, lost_means, means_same, quiet_means}
use Rattle.sc_compiled_expressions.proofs.Ways.{computes_one_way}
use Rattle.sc_compiled_expressions.specs.Standing.{Home, Stands, stub, table}
use Rattle.sc_compiled_expressions.specs.Good.{GivesValue, IsDeeper, IsPlaced, TellsTruth, Told, Valued, code_of, test_of}
use Rattle.sc_compiled_expressions.proofs.Standing.{first_at, keeps_at, keeps_then, memory_of, own_step, placed_back, placed_front, placed_same, seated, stands_at, x0_is}
use Rattle.sc_compiled_expressions.proofs.Conditions.{taken, tested_leads}
use Rattle.sc_compiled_bodies.specs.Good.{Turned, TurnsBack, back_code, spot}
use Rattle.sc_compiled_expressions.proofs.Straight.{near_next}

-- where a jump of a text leads
lands : (base here top : ℕ) → base + 4 * here < 2 ^ 32 → base + 4 * top < 2 ^ 32 → sum (base + 4 * here) (bits_of (pos (4 * top) -ℤ pos (4 * here))) ≡ base + 4 * top
lands base here top near nearer = grind (arith, ints, nat_tests, near, nearer)

module _ (home : Home) (most deep : ℕ) (e : CoreExpr) (top from : ℕ) (code : back_code home e top from ≡ test_of home false e (spot home) ++ jump (from + length (test_of home false e (spot home))) top ∷ []) (low : (nat_lt (from + length (test_of home false e (spot home))) 262144 && nat_lt top 262144) ≡ true) (good : TellsTruth home most deep e (spot home))
    (bound : ℕ → ℕ) (dp : IsDeeper deep bound) (s : Stage) (c : Calls) (w v : World) (there : c.regs.pc ≡ home.base + 4 * from) (pl : IsPlaced home c.regs.pc (back_code home e top from)) (st : Stands home s c w v) (near_top : home.base + 4 * top < 2 ^ 32) where
  abbrev ct : Code
  ct = test_of home false e (spot home)

  abbrev here : ℕ
  here = from + length ct

  both : IsPlaced home c.regs.pc (ct ++ jump here top ∷ [])
  both = placed_same home c.regs.pc c.regs.pc (back_code home e top from) (ct ++ jump here top ∷ []) refl code pl

  last : IsPlaced home (c.regs.pc + 4 * length ct) (jump here top ∷ [])
  last = placed_back home c.regs.pc ct (jump here top ∷ []) both

  module _ (rest : Bool → World → Family Answer) (leads : (holds : Bool) (u : World) → Leading u (rest holds u)) (n : ℕ)
      (again : (t : Stage) (u : World) (d : Calls) (y : World) → Turned home top c w t u d y → Means t n d y u (looking t.look.step (rest true u)))
      (on : (t : Stage) (u : World) (d : Calls) (y : World) → Turned home (from + length (back_code home e top from)) c w t u d y → Means t (suc n) d y u (rest false u)) where
    by_truth : (t : Stage) (holds : Bool) (u : World) (d : Calls) (y : World) → Told home (spot home) false (c.regs.pc + 4 * length ct) c w t holds u d y → Means t (suc n) d y u (rest holds u)
    by_truth t false u d y p =
        let m = ap length code in
        let k = length-append ct (jump here top ∷ []) in
        let at_end = p.there in
        on t u d y (record { there = omega (arith, at_end, there, m, k); stands = p.stands; keeps = p.keeps })
    by_truth t true u d y p =
        let at_it = p.there in
        let near = last.near in
        let pc : d.regs.pc ≡ home.base + 4 * here = omega (arith, at_it, there) in
        let to : ℕ = sum d.regs.pc (bits_of (pos (4 * top) -ℤ pos (4 * here))) in
        let lands_so : to ≡ home.base + 4 * top = ap (λ k. sum k (bits_of (pos (4 * top) -ℤ pos (4 * here)))) pc ∙ lands home.base here top (omega (arith, near, there)) near_top in
        let instr : InstrAt t.image d.regs.pc (Jal 0 (pos (4 * top) -ℤ pos (4 * here))) =
        subst (λ z. InstrAt t.image d.regs.pc (Jal 0 z)) (ap (λ b. if b then pos (4 * top) -ℤ pos (4 * here) else pos 0) low)
        (subst (λ k. InstrAt t.image k (Jal 0 (if nat_lt here 262144 && nat_lt top 262144 then pos (4 * top) -ℤ pos (4 * here) else pos 0))) (sym at_it) (first_at home t d y u p.stands (c.regs.pc + 4 * length ct) (jump here top) [] last)) in
        credit_means t n d (goes_to to d.regs) y u (rest true u) (leads true u)
        (computes_one_way t.image (Jal 0 (pos (4 * top) -ℤ pos (4 * here))) d.regs (goes_to to d.regs) y (memory_of home t d y u p.stands) instr refl)
        (again t u (with_registers (goes_to to d.regs) d) y (record {
          there = lands_so;
          stands = stands_at home t d y u to p.stands;
          keeps = keeps_then home (spot home) c d (with_registers (goes_to to d.regs) d) w y y p.keeps (keeps_at home (spot home) d y to);
        }))

    turn_means : suc n ≤ most → Means s (suc n) c w v (λ h m. and_then (and_then (valued (eval (bound m) h) home.env e v) (tested (type_of e))) (λ holds u. rest holds u h m))
    turn_means le = good false bound dp s c w v (placed_front home c.regs.pc ct (jump here top ∷ []) both) st rest leads (suc n) le by_truth

-- by a branch that is left out and a jump
pub far_turns : (home : Home) (most deep : ℕ) (e : CoreExpr) (top from : ℕ) → back_code home e top from ≡ test_of home false e (spot home) ++ jump (from + length (test_of home false e (spot home))) top ∷ []
    → (nat_lt (from + length (test_of home false e (spot home))) 262144 && nat_lt top 262144) ≡ true → home.base + 4 * top < 2 ^ 32 → TellsTruth home most deep e (spot home) → TurnsBack home most deep e top from
far_turns home most deep e top from code low near good = λ bound dp s c w v there pl st rest leads n le again on.
    turn_means home most deep e top from code low good bound dp s c w v there pl st near rest leads n again on le

-- of !, && and ||
pub joined_turns : (home : Home) (most deep : ℕ) (e : CoreExpr) (top from : ℕ) → is_joined e ≡ true → (nat_lt (from + length (test_of home false e (spot home))) 262144 && nat_lt top 262144) ≡ true → home.base + 4 * top < 2 ^ 32 → TellsTruth home most deep e (spot home) → TurnsBack home most deep e top from
joined_turns home most deep e top from joins low near good =
    far_turns home most deep e top from
    (ap (λ b. if b then test_of home false e (spot home) ++ jump (from + length (test_of home false e (spot home))) top ∷ [] else condition_of home.style home.autos e (spot home) ++ branch_back (comparison home.style home.autos e (spot home)) true top (from + length (condition_of home.style home.autos e (spot home)))) joins)
    low near good

-- ---- by a branch back

pub lands_back : (base here top : ℕ) → top ≤ here → base + 4 * here < 2 ^ 32 → sum (base + 4 * here) (bits_of (neg_ℤ (pos (4 * (here - top))))) ≡ base + 4 * top
lands_back base here top le near = grind (arith, ints, nat_tests, le, near)

module _ (home : Home) (most deep : ℕ) (e : CoreExpr) (top from : ℕ) (code : back_code home e top from ≡ code_of home e (spot home) ++ Word_of (Branch Bne 10 0 (neg_ℤ (pos (4 * (from + length (code_of home e (spot home)) - top))))) ∷ [])
    (low : top ≤ from + length (code_of home e (spot home))) (good : GivesValue home most deep e (spot home))
    (bound : ℕ → ℕ) (dp : IsDeeper deep bound) (s : Stage) (c : Calls) (w v : World) (there : c.regs.pc ≡ home.base + 4 * from) (pl : IsPlaced home c.regs.pc (back_code home e top from)) (st : Stands home s c w v)
    (rest : Bool → World → Family Answer) (leads : (holds : Bool) (u : World) → Leading u (rest holds u)) (n : ℕ) (le : suc n ≤ most)
    (again : (t : Stage) (u : World) (d : Calls) (y : World) → Turned home top c w t u d y → Means t n d y u (looking t.look.step (rest true u)))
    (on : (t : Stage) (u : World) (d : Calls) (y : World) → Turned home (from + length (back_code home e top from)) c w t u d y → Means t (suc n) d y u (rest false u)) where
  abbrev cv : Code
  cv = code_of home e (spot home)

  abbrev at_branch : ℕ
  at_branch = from + length cv

  abbrev back_by : ℤ
  back_by = neg_ℤ (pos (4 * (at_branch - top)))

  abbrev last_word : Symbolic
  last_word = Word_of (Branch Bne 10 0 back_by)

  near_both : IsPlaced home c.regs.pc (cv ++ last_word ∷ [])
  near_both = placed_same home c.regs.pc c.regs.pc (back_code home e top from) (cv ++ last_word ∷ []) refl code pl

  near_last : IsPlaced home (c.regs.pc + 4 * length cv) (last_word ∷ [])
  near_last = placed_back home c.regs.pc cv (last_word ∷ []) near_both

  module _ (t : Stage) (x : Value) (u : World) (d : Calls) (y : World) (p : Valued home (spot home) (c.regs.pc + 4 * length cv) c w t x u d y) where
    here_pc : d.regs.pc ≡ home.base + 4 * at_branch
    here_pc = let at_it = p.there in omega (arith, at_it, there)

    abbrev to : ℕ
    to = sum d.regs.pc (bits_of back_by)

    to_is : to ≡ home.base + 4 * top
    to_is = let near = near_last.near in ap (λ k. sum k (bits_of back_by)) here_pc ∙ lands_back home.base at_branch top low (omega (arith, near, there))

    instr : InstrAt t.image d.regs.pc (Branch Bne 10 0 back_by)
    instr = subst (λ k. InstrAt t.image k (Branch Bne 10 0 back_by)) (sym p.there) (first_at home t d y u p.stands (c.regs.pc + 4 * length cv) last_word [] near_last)

    is_taken_so : is_taken Bne (register d.regs 10).bits (register d.regs 0).bits ≡ is_true x
    is_taken_so =
        ap (λ k. is_taken Bne (register d.regs 10).bits k) (ap (λ (z : Word). z.bits) (x0_is d.regs p.stands.regs))
        ∙ taken true (is_true x) (register d.regs 10).bits (truth_is y.beside.functions (stub y) (table y) (register d.regs 10) x p.stands.stubs (seated home t d y u p.stands) p.word)

    goes : (holds : Bool) → is_true x ≡ holds → GoesOneWay t d (goes_to (if holds then to else sum d.regs.pc 4) d.regs) y
    goes holds e = computes_one_way t.image (Branch Bne 10 0 back_by) d.regs (goes_to (if holds then to else sum d.regs.pc 4) d.regs) y (memory_of home t d y u p.stands) instr (ap (λ b. Some (goes_to (if b then to else sum d.regs.pc 4) d.regs)) (is_taken_so ∙ e))

    by_branch : (holds : Bool) → is_true x ≡ holds → Means t (suc n) d y u (rest holds u)
    by_branch true e =
        credit_means t n d (goes_to to d.regs) y u (rest true u) (leads true u) (goes true e)
        (again t u (with_registers (goes_to to d.regs) d) y (record {
          there = to_is;
          stands = stands_at home t d y u to p.stands;
          keeps = keeps_then home (spot home) c d (with_registers (goes_to to d.regs) d) w y y p.keeps (keeps_at home (spot home) d y to);
        }))
    by_branch false e =
        let near = instr.near in
        let next = near_next d.regs.pc near in
        let m = ap length code in
        let k = length-append cv (last_word ∷ []) in
        let here = here_pc in
        quiet_means t (suc n) d (goes_to (sum d.regs.pc 4) d.regs) y u (rest false u) (leads false u) (goes false e)
        (on t u (with_registers (goes_to (sum d.regs.pc 4) d.regs) d) y (record {
          there = next ∙ omega (arith, here, m, k);
          stands = stands_at home t d y u (sum d.regs.pc 4) p.stands;
          keeps = keeps_then home (spot home) c d (with_registers (goes_to (sum d.regs.pc 4) d.regs) d) w y y p.keeps (keeps_at home (spot home) d y (sum d.regs.pc 4));
        }))

    by_rule : (o : Option Rule) (told : Rule → Breach) → Means t (suc n) d y u (λ h m. and_then (unless o told (λ z. Done (is_true x) z) u) (λ holds z. rest holds z h m))
    by_rule (Some r) told = lost_means t (suc n) Executes d y u (λ h m. and_then (unless (Some r) told (λ z. Done (is_true x) z) u) (λ holds z. rest holds z h m)) (told r) (own_step (told r) u p.stands.own) (λ h l m. refl)
    by_rule None told = by_branch (is_true x) refl

  value_turn : Means s (suc n) c w v (λ h m. and_then (and_then (valued (eval (bound m) h) home.env e v) (tested (type_of e))) (λ holds u. rest holds u h m))
  value_turn =
      means_same s (suc n) Executes c w v (λ h m. and_then (and_then (valued (eval (bound m) h) home.env e v) (tested (type_of e))) (λ holds u. rest holds u h m))
      (followed (λ h m. valued (eval (bound m) h) home.env e v) (λ x u. λ h m. and_then (tested (type_of e) x u) (λ holds z. rest holds z h m))) (λ h l m. tests (valued (eval (bound m) h) home.env e v) h m)
      (good bound dp s c w v (placed_front home c.regs.pc cv (last_word ∷ []) near_both) st (λ x u. λ h m. and_then (tested (type_of e) x u) (λ holds z. rest holds z h m))
      (λ x u h m. leads_then u (tested (type_of e) x u) (λ holds z. rest holds z h m) (tested_leads (type_of e) x u) (λ holds z. leads holds z h m)) (suc n) le
      (λ t x u d y p. by_rule t x u d y p (truth_rule u.objects (is_pointer_type (type_of e)) x) (operand_breach Truth (promoted (int_of (type_of e))) x PlainInt null u)))
    where
      tests : (r : Outcome Value) (h : History) (m : ℕ) → and_then (and_then r (tested (type_of e))) (λ holds u. rest holds u h m) ≡ and_then r (λ x u. and_then (tested (type_of e) x u) (λ holds z. rest holds z h m))
      tests (Done x u) h m = refl
      tests (Over f) h m = refl

-- of a value that is in a0, near
pub value_turns : (home : Home) (most deep : ℕ) (e : CoreExpr) (top from : ℕ) → back_code home e top from ≡ code_of home e (spot home) ++ Word_of (Branch Bne 10 0 (neg_ℤ (pos (4 * (from + length (code_of home e (spot home)) - top))))) ∷ []
    → top ≤ from + length (code_of home e (spot home)) → GivesValue home most deep e (spot home) → TurnsBack home most deep e top from
value_turns home most deep e top from code low good = λ bound dp s c w v there pl st rest leads n le again on.
    value_turn home most deep e top from code low good bound dp s c w v there pl st rest leads n le again on
