-- Steps one after another: what slides goes on, and moves are joined.
use Rattle.std.proofs.Common.{◌≡◌, ◌+◌, ℕ, zero, suc, arith, refl, ap, sym, subst, ◌∙◌, List}
use Rattle.sc_meaning.specs.Versions.{Text}
use Rattle.sc_meaning.specs.World.{World}
use Rattle.sc_interp.specs.Shows.{shown}
use Rattle.sc_interp.specs.Steady.{alone, ran, advance}
use Rattle.sc_interp.specs.Steps.{is_over}
use Rattle.sc_interp.specs.declared.stepped.Shown.{Shown}
use Rattle.sc_interp.specs.declared.stepped.Shown.TheVariants.{Nothing}
use Rattle.sc_interp_machine.specs.Runs.{State}
use Rattle.sc_world.specs.Moves.{Silent}
use Rattle.sc_points.specs.Points.{Frame, Point, state_at, Went, Acts, Slides, Tells}

module _ (texts : List Text) where
  -- so many steps, and more
  pub ran_more : (j k : ℕ) (s : State) → ran (j + k) (alone texts) texts s ≡ ran k (alone texts) texts (ran j (alone texts) texts s)
  ran_more zero k s = let e : zero + k ≡ k = omega arith in subst (λ (z : ℕ). ran z (alone texts) texts s ≡ ran k (alone texts) texts s) (sym e) refl
  ran_more (suc j) k s =
      let e : suc j + k ≡ suc (j + k) = omega arith in
      subst (λ (z : ℕ). ran z (alone texts) texts s ≡ ran k (alone texts) texts (ran (suc j) (alone texts) texts s)) (sym e) (ran_more j k (advance (alone texts) texts s))

  -- the last of some steps
  pub ran_last : (k : ℕ) (s : State) → ran (suc k) (alone texts) texts s ≡ advance (alone texts) texts (ran k (alone texts) texts s)
  ran_last zero s = refl
  ran_last (suc k) s = ran_last k (advance (alone texts) texts s)

  -- a step that no instruction makes, before others
  pub slide_acts : (k : ℕ) (p q r : Point) (go : World → World) (does : Frame → World → Went) → Slides texts 1 p go q → Acts texts k q does r → Acts texts (suc k) p (λ f w. does f (go w)) r
  slide_acts k p q r go does s acts c f w = ap (ran k (alone texts) texts) (s c f w) ∙ acts c f (go w)

  -- one step that shows nothing, before a move, makes it a move of one step more
  pub tells_on : (k : ℕ) (p q : Point) (go : World → World) (now : Shown) → Slides texts 1 p go q → Tells texts 0 p Nothing → Tells texts k q now → Tells texts (suc k) p now
  tells_on k p q go now s first rest c f w =
      let there = rest c f (go w) in
      let back : state_at c q f (go w) ≡ advance (alone texts) texts (state_at c p f w) = sym (s c f w) in
      (((first c f w).1, ap is_over (s c f w), subst (λ t. Silent k texts t) back there.0), subst (λ t. shown (alone texts) texts (ran k (alone texts) texts t) ≡ now) back there.1)
