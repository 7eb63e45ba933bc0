-- Arguments that are leaves are fetched one after another.
use Rattle.std.proofs.Common.{◌≡◌, ◌⊎◌, inl, inr, ℕ, zero, suc, ◌+◌, ◌-◌, ◌*◌, ◌<◌, ◌≤◌, ◌==◌, ◌&&◌, Bool, true, false, if◌then◌else◌, nat_le, nat_lt, List, [], ◌∷◌, ◌++◌, length, Option, Some, None, refl, sym, ap, subst, ◌∙◌, arith, length-append}
use Rattle.std.proofs.lemmas.Bool.Decides.{nat_tests}
use Rattle.std.specs.Prelude.{slice_get}
use Rattle.sc_core.specs.declared.expression.CoreExpr.{CoreExpr}
use Rattle.sc_emu.specs.Registers.{register}
use Rattle.sc_meaning.specs.Calls.{eval}
use Rattle.sc_meaning.specs.Expressions.{Answer, Env, args_then, valued}
use Rattle.sc_meaning.specs.Laws.{Leads}
use Rattle.sc_meaning.specs.Outcomes.{Outcome, and_then, world_after}
use Rattle.sc_meaning.specs.Values.{Value}
use Rattle.sc_meaning.specs.Versions.{History}
use Rattle.sc_meaning.specs.World.{World}
use Rattle.sc_meaning.proofs.Growing.{leads_then}
use Rattle.sc_mixed.specs.declared.calls.Calls.{Calls}
use Rattle.sc_mixed_means.specs.Stages.{Stage}
use Rattle.sc_gen_code.specs.declared.style.Spot.{Spot}
use Rattle.sc_gen_code.specs.Code.{Code}
use Rattle.sc_gen_operand.specs.Places.{fetch}
use Rattle.sc_gen_operand.specs.Templates.{fetched_from}
use Rattle.sc_compiled_expressions.specs.Parts.{End, Family, Leading, Meets}
use Rattle.sc_compiled_expressions.proofs.Joining.{in_turn}
use Rattle.sc_compiled_expressions.specs.Standing.{Home, Keeps, MeansIn, Stands}
use Rattle.sc_compiled_expressions.specs.Good.{IsDeeper, IsPlaced}
use Rattle.sc_compiled_expressions.proofs.Standing.{keeps_then, placed_back, placed_front, placed_same, keeps_with}
use Rattle.sc_compiled_expressions.proofs.Nodes.{valued_leads}
use Rattle.sc_compiled_expressions.specs.Direct.{Fetched, GivesLeaf}
use Rattle.sc_compiled_expressions.proofs.Fetching.{fetched_keeps}
use Rattle.sc_compiled_expressions.proofs.Operands.{leaf_beside}
use Rattle.sc_compiled_expressions.specs.Leaves.{AreLeaves, Hold}

pub args_leads : (n : ℕ) (h : History) (env : Env) (es : List CoreExpr) (vs : List Value) (u : World) (go : List Value → World → Outcome Answer) → ((xs : List Value) (o : World) → Leads o (world_after (go xs o))) → Leads u (world_after (args_then (eval n h) env es vs u go))
args_leads n h env [] vs u go leads = leads vs u
args_leads n h env (e ∷ es) vs u go leads =
    leads_then u (valued (eval n h) env e u) (λ x o. args_then (eval n h) env es (vs ++ x ∷ []) o go) (valued_leads n h env e u) (λ x o. args_leads n h env es (vs ++ x ∷ []) o go leads)

-- a value behind others
get_last : (vs : List Value) (x z : Value) (k : ℕ) → slice_get (vs ++ x ∷ []) k ≡ Some z → ((k < length vs) × (slice_get vs k ≡ Some z)) ⊎ ((k ≡ length vs) × (x ≡ z))
get_last [] x z zero e = inr (refl, cc (e))
get_last [] x z (suc k) e = absurd (cc (e))
get_last (v ∷ vs) x z zero e = inl (omega arith, e)
get_last (v ∷ vs) x z (suc k) e = elim (get_last vs x z k e) [
  | inl p ↦ inl (more k (length vs) p.0, p.1)
  | inr p ↦ inr (ap suc p.0, p.1)
]
  where
    more : (k n : ℕ) → k < n → suc k < suc n
    more k n lt = omega (arith, lt)

module _ (home : Home) (most deep : ℕ) (at : Spot) (calm : at.depth ≡ 0) (E : End Answer) (bound : ℕ → ℕ) (dp : IsDeeper deep bound) (go : List Value → World → Family Answer) (leads : (xs : List Value) (u : World) → Leading u (go xs u)) where
  abbrev fetched : ℕ → List CoreExpr → Code
  fetched i es = fetched_from home.style home.autos 0 i es

  -- where all arguments are there
  abbrev Comes : List CoreExpr → List Value → Calls → World → Type 0
  Comes es vs c w = (t : Stage) (xs : List Value) (u : World) (d : Calls) (y : World) → length xs ≡ length vs + length es → Stands home t d y u → Hold xs d y → Keeps home at c w d y → d.regs.pc ≡ c.regs.pc + 4 * length (fetched (length vs) es) → Meets most t E d y u (go xs u)

  one_code : (i : ℕ) (e : CoreExpr) (es : List CoreExpr) → i < 8 → fetched i (e ∷ es) ≡ fetch home.style home.autos (10 + i) e ++ fetched (i + 1) es
  one_code i e es lt = ap (λ b. (if b then fetch home.style home.autos (10 + i) e else []) ++ fetched (i + 1) es) (test i lt)
    where
      test : (i : ℕ) → i < 8 → (nat_le 0 i && nat_lt i 8) ≡ true
      test i lt = grind (arith, nat_tests, lt)

  pub fetched_go : (es : List CoreExpr) (vs : List Value) → length vs + length es ≤ 8 → AreLeaves home most deep (length vs) es → (s : Stage) (c : Calls) (w v : World) → Stands home s c w v → Hold vs c w → IsPlaced home c.regs.pc (fetched (length vs) es) → Comes es vs c w
      → Meets most s E c w v (λ h m. args_then (eval (bound m) h) home.env es vs v (λ xs u. go xs u h m))
  fetched_go [] vs few leaves s c w v st hold pl comes =
      comes s vs v c w (none (length vs)) st hold (keeps_with home at c c.regs w (λ j lt. refl)) (omega arith)
    where
      none : (n : ℕ) → n ≡ n + 0
      none n = omega arith
  fetched_go (e ∷ es) vs few leaves s c w v st hold pl comes =
      let i : ℕ = length vs in
      let ce : Code = fetch home.style home.autos (10 + i) e in
      let rest : Code = fetched (i + 1) es in
      let small : i < 8 = omega (arith, few) in
      let code : fetched i (e ∷ es) ≡ ce ++ rest = one_code i e es small in
      let both : IsPlaced home c.regs.pc (ce ++ rest) = placed_same home c.regs.pc c.regs.pc (fetched i (e ∷ es)) (ce ++ rest) refl code pl in
      let long = ap length code in
      let parts = length-append ce rest in
      in_turn most s (Fetched home (10 + i) (c.regs.pc + 4 * length ce) c w) E c w v (λ h m. valued (eval (bound m) h) home.env e v) (λ x u h m. args_then (eval (bound m) h) home.env es (vs ++ x ∷ []) u (λ xs o. go xs o h m))
      (leaf_beside home most deep e (10 + i) leaves.0 bound dp s c w v (placed_front home c.regs.pc ce rest both) st)
      (λ x u h m. args_leads (bound m) h home.env es (vs ++ x ∷ []) u (λ xs o. go xs o h m) (λ xs o. leads xs o h m))
      (λ t x u d y p.
      let there = p.there in
      let count : length (vs ++ x ∷ []) ≡ i + 1 = length-append vs (x ∷ []) in
      let next : fetched (length (vs ++ x ∷ [])) es ≡ rest = ap (λ n. fetched n es) count in
      let fits : length (vs ++ x ∷ []) + length es ≤ 8 = omega (arith, few, count) in
      let kept : Keeps home at c w d y = fetched_keeps home at (10 + i) (c.regs.pc + 4 * length ce) c w t x u d y (omega (arith, calm)) (λ j lt. absurd (omega (arith, lt, calm))) p in
      fetched_go es (vs ++ x ∷ []) fits (subst (λ n. AreLeaves home most deep n es) (sym count) leaves.1) t d y u p.stands
      (holds_more vs x c d w y (c.regs.pc + 4 * length ce) t u small hold p)
      (placed_same home (c.regs.pc + 4 * length ce) d.regs.pc rest (fetched (length (vs ++ x ∷ [])) es) (sym there) (sym next) (placed_back home c.regs.pc ce rest both))
      (λ t2 xs o f z all st2 hold2 keeps2 there2.
      let last = ap length next in
      comes t2 xs o f z (omega (arith, all, count)) st2 hold2 (keeps_then home at c d f w y z kept keeps2) (omega (arith, there2, there, long, parts, last))))
    where
      holds_more : (vs : List Value) (x : Value) (c d : Calls) (w y : World) (end : ℕ) (t : Stage) (u : World) → length vs < 8 → Hold vs c w → Fetched home (10 + length vs) end c w t x u d y → Hold (vs ++ x ∷ []) d y
      holds_more vs x c d w y end t u small hold p k z e = elim (get_last vs x z k e) [
        | inl (lt, there) ↦
            subst (λ i. MeansIn i (register d.regs (10 + k)) z) (sym p.world) (subst (λ i. MeansIn w i z) (sym (p.same (10 + k) (in_file k (length vs) lt small) (not_five k) (other k (length vs) lt))) (hold k z there))
        | inr (is, same) ↦ subst (λ j. MeansIn y (register d.regs (10 + j)) z) (sym is) (subst (λ i. MeansIn y (register d.regs (10 + length vs)) i) same p.word)
      ]
        where
          in_file : (k n : ℕ) → k < n → n < 8 → 10 + k < 32
          in_file k n lt small = omega (arith, lt, small)

          not_five : (k : ℕ) → (10 + k == 5) ≡ false
          not_five k = grind (arith, nat_tests)

          other : (k n : ℕ) → k < n → (10 + k == 10 + n) ≡ false
          other k n lt = grind (arith, nat_tests, lt)
