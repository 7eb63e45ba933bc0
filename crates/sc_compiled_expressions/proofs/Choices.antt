-- What is chosen by a condition.
use Rattle.std.proofs.Common.{◌≡◌, ℕ, suc, ◌+◌, ◌-◌, ◌*◌, ◌<◌, Bool, true, false, [], ◌∷◌, ◌++◌, length, refl, sym, ap, subst, arith, length-append}
use Rattle.std.proofs.lemmas.Bool.Decides.{nat_tests}
use Rattle.std.specs.Prelude.{pos, if◌then◌else◌, nat_lt}
use Rattle.sc_isa.specs.declared.instruction.Instr.TheVariants.{Jal}
use Rattle.sc_types.specs.declared.ctype.CType.{CType}
use Rattle.sc_core.specs.declared.expression.CoreExpr.{CoreExpr, out-CoreExpr}
use Rattle.sc_core.specs.declared.expression.CoreExpr.TheOpen.{CoreExpr-F}
use Rattle.sc_core.specs.Types.{type_of}
use Rattle.sc_meaning.specs.Accesses.{tested}
use Rattle.sc_meaning.specs.Calls.{eval}
use Rattle.sc_meaning.specs.Expressions.{Answer, either, finished, valued}
use Rattle.sc_meaning.specs.Outcomes.{Done, Outcome, Over, and_then}
use Rattle.sc_meaning.specs.Values.{Value}
use Rattle.sc_meaning.specs.World.{World, Work, tick}
use Rattle.sc_meaning.proofs.Growing.{eval_leads, leads_then}
use Rattle.sc_meaning.proofs.Steps.{one_more}
use Rattle.sc_mixed.specs.Bridge.{with_registers}
use Rattle.sc_mixed.specs.declared.calls.Calls.{Calls}
use Rattle.sc_mixed_means.specs.Stages.{Stage}
use Rattle.sc_gen_code.specs.declared.style.Spot.{Spot}
use Rattle.sc_gen_code.specs.declared.symbolic.Symbolic.{Symbolic}
use Rattle.sc_gen_code.specs.Code.{Code, over}
use Rattle.sc_gen_operand.specs.Plans.{word}
use Rattle.sc_compiled_expressions.specs.Instructions.{InstrAt, goes_to}
use Rattle.sc_compiled_expressions.specs.Parts.{End, Family, Leading, Meets, followed}
use Rattle.sc_compiled_expressions.proofs.Joining.{in_turn, same_part}
use Rattle.sc_compiled_expressions.proofs.Behind.{behind_over}
use Rattle.sc_compiled_expressions.specs.Standing.{Home, Keeps, Stands}
use Rattle.sc_compiled_expressions.specs.Good.{Answered, GivesAnswer, IsDeeper, IsPlaced, TellsTruth, Told, code_of, test_of}
use Rattle.sc_compiled_expressions.proofs.Standing.{first_at, keeps_at, keeps_then, memory_of, placed_back, placed_front, placed_same, stands_at, stands_worked}
use Rattle.sc_compiled_expressions.proofs.Nodes.{finish, layer_is, less, opened, valued_leads}
use Rattle.sc_compiled_expressions.proofs.Conditions.{tested_leads}

-- a test, and what is chosen, as one part behind the other
chosen_is : (ta : CType) (r : Outcome Value) (go : Bool → World → Outcome Answer) → and_then r (λ x w. and_then (tested ta x w) go) ≡ and_then (and_then r (tested ta)) go
chosen_is ta (Done x w) go = refl
chosen_is ta (Over e) go = refl

module _ (home : Home) (most : ℕ) where
  module _ (deep : ℕ) (e a b d : CoreExpr) (at : Spot) (bound : ℕ → ℕ) (dp : IsDeeper (suc deep) bound) (s : Stage) (c : Calls) (w v : World)
      (code : code_of home e at ≡ test_of home true a at ++ (over (length (code_of home b at) + 1) ∷ (code_of home b at ++ over (length (code_of home d at)) ∷ code_of home d at)))
      (good_a : TellsTruth home most deep a at) (good_b : GivesAnswer home most deep b at) (good_d : GivesAnswer home most deep d at) (pl : IsPlaced home c.regs.pc (code_of home e at)) (st : Stands home s c w v) where
    abbrev ca : Code
    ca = test_of home true a at

    abbrev cb : Code
    cb = code_of home b at

    abbrev cd : Code
    cd = code_of home d at

    abbrev first_jump : Symbolic
    first_jump = over (length cb + 1)

    abbrev last_jump : Symbolic
    last_jump = over (length cd)

    abbrev end : ℕ
    end = c.regs.pc + 4 * length (code_of home e at)

    abbrev E : End Answer
    E = Answered home at end c w

    abbrev less_bound : ℕ → ℕ
    less_bound = λ m. bound m - 1

    abbrev first : Family Bool
    first = λ h m. and_then (valued (eval (less_bound m) h) home.env a (tick v)) (tested (type_of a))

    abbrev choice : Bool → World → Family Answer
    choice holds u = λ h m. and_then (either holds (eval (less_bound m) h home.env b) (eval (less_bound m) h home.env d) u) finished

    -- where the parts stand
    all : IsPlaced home c.regs.pc (ca ++ (first_jump ∷ (cb ++ last_jump ∷ cd)))
    all = placed_same home c.regs.pc c.regs.pc (code_of home e at) (ca ++ (first_jump ∷ (cb ++ last_jump ∷ cd))) refl code pl

    tail : IsPlaced home (c.regs.pc + 4 * length ca) (first_jump ∷ (cb ++ last_jump ∷ cd))
    tail = placed_back home c.regs.pc ca (first_jump ∷ (cb ++ last_jump ∷ cd)) all

    inner : IsPlaced home (c.regs.pc + 4 * length ca + 4 * length (first_jump ∷ [])) (cb ++ last_jump ∷ cd)
    inner = placed_back home (c.regs.pc + 4 * length ca) (first_jump ∷ []) (cb ++ last_jump ∷ cd) tail

    back : IsPlaced home (c.regs.pc + 4 * length ca + 4 * length (first_jump ∷ []) + 4 * length cb) (last_jump ∷ cd)
    back = placed_back home (c.regs.pc + 4 * length ca + 4 * length (first_jump ∷ [])) cb (last_jump ∷ cd) inner

    whole : end ≡ c.regs.pc + 4 * length ca + 4 + 4 * length cb + 4 + 4 * length cd
    whole = let n = length-append ca (first_jump ∷ (cb ++ last_jump ∷ cd)) in let m = ap length code in let k = length-append cb (last_jump ∷ cd) in omega (arith, n, m, k)

    -- the first is chosen, and the jump over the second one follows
    first_chosen : (u : World) (s : Stage) (q : Calls) (y : World) → q.regs.pc ≡ c.regs.pc + 4 * length ca + 4 → Stands home s q y u → Keeps home at c w q y → Meets most s E q y u (choice true u)
    first_chosen u s q y there stands keeps =
        in_turn most s (Answered home at (q.regs.pc + 4 * length cb) q y) E q y u (λ h m. eval (less_bound m) h home.env b u) (λ z r h m. finished z r)
        (good_b less_bound (less deep bound dp) s q y u (placed_same home (c.regs.pc + 4 * length ca + 4 * length (first_jump ∷ [])) q.regs.pc cb cb (there_is there) refl (placed_front home (c.regs.pc + 4 * length ca + 4 * length (first_jump ∷ [])) cb (last_jump ∷ cd) inner)) stands)
        (λ z r h m. one_more (Work 1) r)
        (λ s z r k x p. jumps z r s k x p)
      where
        there_is : q.regs.pc ≡ c.regs.pc + 4 * length ca + 4 → c.regs.pc + 4 * length ca + 4 * length (first_jump ∷ []) ≡ q.regs.pc
        there_is f = omega (arith, f)

        jumps : (z : Answer) (r : World) (s : Stage) (k : Calls) (x : World) → Answered home at (q.regs.pc + 4 * length cb) q y s z r k x → Meets most s E k x r (λ h m. finished z r)
        jumps z r s k x p =
            let there_k = p.there in
            let here : c.regs.pc + 4 * length ca + 4 * length (first_jump ∷ []) + 4 * length cb ≡ k.regs.pc = omega (arith, there_k, there) in
            let short = back.short in
            let near = back.near in
            let small : length cd < 262143 = omega (arith, short) in
            let is_small : nat_lt (length cd) 262143 ≡ true = grind (arith, nat_tests, small) in
            let pc = k.regs.pc + (4 * length cd + 4) in
            let all_is = whole in
            behind_over most s p.stands.value E (length cd) k x r (λ h m. finished z r) (memory_of home s k x r p.stands)
            (subst (λ n. InstrAt s.image n (Jal 0 (if nat_lt (length cd) 262143 then pos (4 * length cd + 4) else pos 0))) here (first_at home s k x r p.stands (c.regs.pc + 4 * length ca + 4 * length (first_jump ∷ []) + 4 * length cb) last_jump cd back)) is_small (omega (arith, near, here)) (λ h m. one_more (Work 1) r)
            (finish home most s E z (with_registers (goes_to pc k.regs) k) x r (record {
              there = omega (arith, all_is, here);
              word = p.word;
              stands = stands_worked home s (with_registers (goes_to pc k.regs) k) x r 1 (stands_at home s k x r pc p.stands);
              keeps = keeps_then home at c k (with_registers (goes_to pc k.regs) k) w x x (keeps_then home at c q k w y x keeps p.keeps) (keeps_at home at k x pc);
            }))

    -- it is left out, and the second is chosen
    second_chosen : (u : World) (s : Stage) (q : Calls) (y : World) → q.regs.pc ≡ c.regs.pc + 4 * length ca → Stands home s q y u → Keeps home at c w q y → Meets most s E q y u (choice false u)
    second_chosen u s q y there stands keeps =
        let short = tail.short in
        let near = tail.near in
        let n = length-append cb (last_jump ∷ cd) in
        let small : length cb + 1 < 262143 = omega (arith, short, n) in
        let is_small : nat_lt (length cb + 1) 262143 ≡ true = grind (arith, nat_tests, small) in
        let pc = q.regs.pc + (4 * (length cb + 1) + 4) in
        let d0 = with_registers (goes_to pc q.regs) q in
        let all_is = whole in
        let from : c.regs.pc + 4 * length ca + 4 * length (first_jump ∷ []) + 4 * length cb + 4 * length (last_jump ∷ []) ≡ pc = omega (arith, there) in
        behind_over most s stands.value E (length cb + 1) q y u (choice false u) (memory_of home s q y u stands)
        (subst (λ n. InstrAt s.image n (Jal 0 (if nat_lt (length cb + 1) 262143 then pos (4 * (length cb + 1) + 4) else pos 0))) (sym there) (first_at home s q y u stands (c.regs.pc + 4 * length ca) first_jump (cb ++ last_jump ∷ cd) tail)) is_small (omega (arith, near, n, there))
        (λ h m. leads_then u (eval (less_bound m) h home.env d u) finished (eval_leads (less_bound m) h home.env d u) (λ z r. one_more (Work 1) r))
        (in_turn most s (Answered home at (pc + 4 * length cd) d0 y) E d0 y u (λ h m. eval (less_bound m) h home.env d u) (λ z r h m. finished z r)
        (good_d less_bound (less deep bound dp) s d0 y u (placed_same home (c.regs.pc + 4 * length ca + 4 * length (first_jump ∷ []) + 4 * length cb + 4 * length (last_jump ∷ [])) pc cd cd from refl (placed_back home (c.regs.pc + 4 * length ca + 4 * length (first_jump ∷ []) + 4 * length cb) (last_jump ∷ []) cd back)) (stands_at home s q y u pc stands))
        (λ z r h m. one_more (Work 1) r)
        (λ s z r k x p.
        let there_k = p.there in
        finish home most s E z k x r (record {
          there = omega (arith, all_is, there_k, there);
          word = p.word;
          stands = stands_worked home s k x r 1 p.stands;
          keeps = keeps_then home at c d0 k w y x (keeps_then home at c q d0 w y y keeps (keeps_at home at q y pc)) p.keeps;
        })))

    by_truth : (holds : Bool) (u : World) (s : Stage) (q : Calls) (y : World) → Told home at true (c.regs.pc + 4 * length ca) c w s holds u q y → Meets most s E q y u (choice holds u)
    by_truth true u s q y p = first_chosen u s q y p.there p.stands p.keeps
    by_truth false u s q y p = second_chosen u s q y p.there p.stands p.keeps

    choice_leads : (holds : Bool) (u : World) → Leading u (choice holds u)
    choice_leads true u = λ h m. leads_then u (eval (less_bound m) h home.env b u) finished (eval_leads (less_bound m) h home.env b u) (λ z r. one_more (Work 1) r)
    choice_leads false u = λ h m. leads_then u (eval (less_bound m) h home.env d u) finished (eval_leads (less_bound m) h home.env d u) (λ z r. one_more (Work 1) r)

    first_leads : Leading (tick v) first
    first_leads = λ h m. leads_then (tick v) (valued (eval (less_bound m) h) home.env a (tick v)) (tested (type_of a)) (valued_leads (less_bound m) h home.env a (tick v)) (λ x y. tested_leads (type_of a) x y)

    pub choice_meets : Meets most s E c w (tick v) (followed first choice)
    choice_meets =
        in_turn most s (Told home at true (c.regs.pc + 4 * length ca) c w) E c w (tick v) first choice
        (good_a true less_bound (less deep bound dp) s c w (tick v) (placed_front home c.regs.pc ca (first_jump ∷ (cb ++ last_jump ∷ cd)) all) (stands_worked home s c w v 1 st)) choice_leads (λ s holds u q y p. by_truth holds u s q y p)

  -- a ? b : d
  pub conditional : (deep l : ℕ) (t : CType) (e a b d : CoreExpr) (at : Spot) → out-CoreExpr e ≡ CoreExpr-F.Conditional l t a b d → TellsTruth home most deep a at → GivesAnswer home most deep b at → GivesAnswer home most deep d at → GivesAnswer home most (suc deep) e at
  conditional deep l t e a b d at is good_a good_b good_d = λ bound dp s c w v pl st.
      let code = layer_is home word e (CoreExpr-F.Conditional l t a b d) at is in
      let E = Answered home at (c.regs.pc + 4 * length (code_of home e at)) c w in
      let go : Bool → World → Family Answer = λ holds u h m. and_then (either holds (eval (bound m - 1) h home.env b) (eval (bound m - 1) h home.env d) u) finished in
      let r : Family Answer = followed (λ h m. and_then (valued (eval (bound m - 1) h) home.env a (tick v)) (tested (type_of a))) go in
      opened home most deep e (CoreExpr-F.Conditional l t a b d) is s E bound dp c w v refl
      (same_part most s E c w (tick v) _ r (λ h m. chosen_is (type_of a) (valued (eval (bound m - 1) h) home.env a (tick v)) (λ holds u. go holds u h m))
      (choice_meets deep e a b d at bound dp s c w v code good_a good_b good_d pl st))
