-- Moves that begin some steps earlier, and labels that are added.
use Rattle.std.proofs.Common.{◌≡◌, ℕ, zero, suc, ◌+◌, ◌≤◌, List, refl, sym, ap, subst, ◌∙◌, arith}
use Rattle.sc_meaning.specs.World.{World, tick}
use Rattle.sc_meaning.specs.Versions.{Text}
use Rattle.sc_interp.specs.Steady.{alone, ran, advance}
use Rattle.sc_interp_machine.specs.Runs.{State}
use Rattle.sc_world.specs.Moves.{Silent}
use Rattle.sc_points.specs.Points.{Call, state_at}
use Rattle.sc_points.proofs.Joined.{ran_more}
use Rattle.sc_flat.specs.declared.instruction.Instruction.{Instruction}
use Rattle.sc_flat.specs.declared.instruction.Operation.TheVariants.{Pass}
use Rattle.sc_flat.specs.Instructions.{Went, Goes, Jumps, Breaks, does, operates, ticks, later}
use Rattle.sc_flat.specs.Lists.{Stand, Labels, state_behind, IsThere, IsMove, Slides, Waits, Grow}

-- work and more work
pub ticks_join : (a n : ℕ) (w : World) → ticks (a + n) w ≡ ticks a (ticks n w)
ticks_join a zero w = ap (λ k. ticks k w) (let e : a + zero ≡ a = omega arith in e)
ticks_join a (suc n) w = ap (λ k. ticks k w) (let e : a + suc n ≡ suc (a + n) = omega arith in e) ∙ ticks_join a n (tick w)

module _ (texts : List Text) where
  pub silent_join : (j k : ℕ) (s : State) → Silent j texts s → Silent k texts (ran j (alone texts) texts s) → Silent (j + k) texts s
  silent_join zero k s p q = let e : zero + k ≡ k = omega arith in subst (λ (z : ℕ). Silent z texts s) (sym e) q
  silent_join (suc j) k s (a, b, p) q =
      let e : suc j + k ≡ suc (j + k) = omega arith in
      subst (λ (z : ℕ). Silent z texts s) (sym e) (a, b, silent_join j k (advance (alone texts) texts s) p q)

  -- all but the last of them
  silent_first : (k : ℕ) (s : State) → Silent (suc k) texts s → Silent k texts s
  silent_first zero s p = tt
  silent_first (suc k) s (a, b, p) = (a, b, silent_first k (advance (alone texts) texts s) p)

  -- no step at all
  pub stays : (p : Stand) → Slides texts 0 0 p p
  stays p = record { leads = λ c f w. refl; silent = λ c f w. tt; blocks = refl }

  pub slides_join : (j k m n : ℕ) (p q r : Stand) → Slides texts j m p q → Slides texts k n q r → Slides texts (j + k) (n + m) p r
  slides_join j k m n p q r a b = record {
    leads = λ c f w. ran_more texts j k (state_at c p.point f w) ∙ ap (ran k (alone texts) texts) (a.leads c f w) ∙ b.leads c f (ticks m w) ∙ ap (state_at c r.point f) (sym (ticks_join n m w));
    silent = λ c f w. silent_join j k (state_at c p.point f w) (a.silent c f w) (subst (Silent k texts) (sym (a.leads c f w)) (b.silent c f (ticks m w)));
    blocks = b.blocks ∙ a.blocks;
  }

  -- what waits are such steps
  pub waits_slide : (k work : ℕ) (p q : Stand) → Waits texts k work p q → Slides texts k work p q
  waits_slide zero work p q (e, same) = subst (λ (n : ℕ). Slides texts 0 n p q) (sym e) (subst (λ (r : Stand). Slides texts 0 0 p r) same (stays p))
  waits_slide (suc k) work p q s = s

  -- an instruction that begins some steps earlier does their work too
  pub moves_later : (k work most : ℕ) (ls : Labels) (p q r : Stand) (x : Instruction) → Slides texts k work p q → IsMove texts most ls q r x → IsMove texts (k + most) ls p r (later work x)
  moves_later k work most ls p q r x s m c f w h =
      let (j, small, silent, leads, there) = m c f (ticks work w) (h ∙ sym s.blocks) in
      let same : does c x f (ticks work w) ≡ does c (later work x) f w = ap (operates c x.label x.operation f) (sym (ticks_join x.work work w)) in
      let e : k + suc j ≡ suc (k + j) = omega arith in (
        k + j,
        omega (arith, small),
        silent_join k j (state_at c p.point f w) (s.silent c f w) (subst (Silent j texts) (sym (s.leads c f w)) silent),
        ap (λ z. ran z (alone texts) texts (state_at c p.point f w)) (sym e) ∙ ran_more texts k (suc j) (state_at c p.point f w) ∙ ap (ran (suc j) (alone texts) texts) (s.leads c f w) ∙ leads ∙ ap (state_behind c r ls) same,
        subst (IsThere r ls) same there,
      )

  pub moves_within : (a b : ℕ) (ls : Labels) (p r : Stand) (x : Instruction) → a ≤ b → IsMove texts a ls p r x → IsMove texts b ls p r x
  moves_within a b ls p r x small m c f w h =
      let (j, fits, silent, leads, there) = m c f w h in
      (j, omega (arith, small, fits), silent, leads, there)

  -- the steps that wait are made by an instruction that does nothing else
  pub pass_moves : (k work : ℕ) (ls : Labels) (p q : Stand) → Slides texts (suc k) work p q → IsMove texts (suc k) ls p q (record { work = work; operation = Pass; label = Rattle.std.specs.Prelude.None })
  pass_moves k work ls p q s c f w h = (k, omega arith, silent_first k (state_at c p.point f w) (s.silent c f w), s.leads c f w, h ∙ sym s.blocks)

  -- ---- more labels

  grown_behind : (ls ms : Labels) (c : Call) (r : Stand) (g : Went) → Grow ls ms → IsThere r ls g → (state_behind c r ls g ≡ state_behind c r ms g) × IsThere r ms g
  grown_behind ls ms c r (Goes f w) grow h = (refl, h)
  grown_behind ls ms c r (Jumps l f w) grow (few, h) =
      let e = grow.same l few in
      let more = grow.count in
      (ap (λ (s : Stand). state_at c s.point f w) (sym e), (omega (arith, few, more), h ∙ ap (λ (s : Stand). s.blocks) (sym e)))
  grown_behind ls ms c r (Breaks e) grow h = (refl, tt)

  pub moves_grown : (most : ℕ) (ls ms : Labels) (p r : Stand) (x : Instruction) → Grow ls ms → IsMove texts most ls p r x → IsMove texts most ms p r x
  moves_grown most ls ms p r x grow m c f w h =
      let (j, small, silent, leads, there) = m c f w h in
      let on = grown_behind ls ms c r (does c x f w) grow there in
      (j, small, silent, leads ∙ on.0, on.1)

pub grow_none : (ls : Labels) → Grow ls ls
grow_none ls = record { count = omega arith; same = λ l few. refl }

pub grow_on : (a b c : Labels) → Grow a b → Grow b c → Grow a c
grow_on a b c x y =
    let m = x.count in
    let n = y.count in
    record { count = omega (arith, m, n); same = λ l few. y.same l (omega (arith, few, m)) ∙ x.same l few }
