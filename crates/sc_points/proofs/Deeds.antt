-- Laws on points as instructions of a list: the steps, what they show, and the bytes that they touch.
use Rattle.std.proofs.Common.{◌≡◌, ◌+◌, ◌-◌, ◌≤◌, ℕ, zero, suc, Bool, true, false, arith, refl, ap, sym, subst, ◌∙◌, List, [], ◌∷◌, ◌++◌}
use Rattle.sc_meaning.specs.World.{World, Item}
use Rattle.sc_meaning.specs.Outcomes.{Outcome, Done, Over}
use Rattle.sc_meaning.specs.Versions.{Text}
use Rattle.sc_meaning.specs.Laws as meant
use Rattle.sc_meaning.proofs.Trails.{trail-passed}
use Rattle.sc_interp.specs.Shows.{shown}
use Rattle.sc_interp.specs.Steady.{alone, advance, ran}
use Rattle.sc_interp.specs.declared.stepped.Shown.{Shown}
use Rattle.sc_interp.specs.declared.stepped.Shown.TheVariants.{Nothing}
use Rattle.sc_interp.proofs.Unchanged.{quiet, present, same_step}
use Rattle.sc_interp_machine.specs.Runs as runs
use Rattle.sc_interp_machine.specs.Runs.{State, Runs, Makes, Answers, Ends}
use Rattle.sc_interp_world.specs.Outputs.{bytes_moved}
use Rattle.sc_interp_laws.specs.Worlds as course
use Rattle.sc_interp_laws.proofs.RunSteps.{advance_leads}
use Rattle.sc_world.specs.Costs.{bytes_touched, exit_work, touched}
use Rattle.sc_world.specs.Moves.{Silent, touches}
use Rattle.sc_world.specs.Standing.{world_of}
use Rattle.sc_points.specs.Points.{Frame, Point, Call, state_at, Went, Goes, Breaks, state_behind, chosen, point_shown, Acts, Slides, Tells}
use Rattle.sc_points.specs.Lists.{Moves, Deed, state_of, IsMove, IsMade, AreCalm, moved_between, deed, forked}
use Rattle.sc_points.proofs.Joined.{slide_acts, tells_on}
use Rattle.sc_points.proofs.Tells.{point_tells}

moved_append : (is js : List Item) → bytes_moved (is ++ js) ≡ bytes_moved is + bytes_moved js
moved_append [] js = omega arith
moved_append (i ∷ is) js = let e : bytes_moved (is ++ js) ≡ bytes_moved is + bytes_moved js = moved_append is js in omega (arith, e)

sum_more : (a b c : ℕ) → a ≡ b + c → b ≤ a
sum_more a b c e = omega (arith, e)

leads_moved : (w v : World) → meant.Leads w v → bytes_moved w.trail ≤ bytes_moved v.trail
leads_moved w v l = sum_more (bytes_moved v.trail) (bytes_moved w.trail) (bytes_moved l.0) (ap (λ u. bytes_moved u.trail) l.1 ∙ ap bytes_moved (trail-passed l.0 w) ∙ moved_append w.trail l.0)

same_world : (s : State) → bytes_moved (course.world_of s).trail ≡ bytes_moved (world_of s).trail
same_world (Runs doing ss env a cs w) = refl
same_world (Makes t v vs c cs w) = refl
same_world (Answers a cs w) = refl
same_world (Ends e) = refl

between : (a b c x y : ℕ) → x ≡ b - a → y ≡ c - b → a ≤ b → b ≤ c → x + y ≡ c - a
between a b c x y p q l m = omega (arith, p, q, l, m)

none_between : (a : ℕ) → 0 ≡ a - a
none_between a = omega arith

module _ (texts : List Text) where
  step_leads : (s : State) → bytes_moved (world_of s).trail ≤ bytes_moved (world_of (advance (alone texts) texts s)).trail
  step_leads s =
      let t : State = runs.advance (alone texts) s in
      subst (λ x. bytes_moved (world_of s).trail ≤ bytes_moved (world_of x).trail) (same_step (alone texts) texts (quiet texts) (present texts) s)
      (subst (λ n. n ≤ bytes_moved (world_of t).trail) (same_world s) (subst (λ n. bytes_moved (course.world_of s).trail ≤ n) (same_world t) (leads_moved (course.world_of s) (course.world_of t) (advance_leads (alone texts) s))))

  steps_lead : (k : ℕ) (s : State) → bytes_moved (world_of s).trail ≤ bytes_moved (world_of (ran k (alone texts) texts s)).trail
  steps_lead zero s = omega arith
  steps_lead (suc k) s = omega (arith, step_leads s, steps_lead k (advance (alone texts) texts s))

  -- in calm steps the bytes are those of births and copies from the first world to the last
  pub calm_touches : (k : ℕ) (s : State) → AreCalm k texts s → touches k texts s ≡ moved_between (world_of s) (world_of (ran k (alone texts) texts s))
  calm_touches zero s p = none_between (bytes_moved (world_of s).trail)
  calm_touches (suc k) s p =
      let t : State = advance (alone texts) texts s in
      let last : State = ran k (alone texts) texts t in
      between (bytes_moved (world_of s).trail) (bytes_moved (world_of t).trail) (bytes_moved (world_of last).trail) (bytes_touched s t) (touches k texts t)
      (ap (λ b. touched b (world_of s) (exit_work t) (world_of t)) p.0) (calm_touches k t p.1) (step_leads s) (steps_lead k t)

  pub calm_one : (p : Point) (c : Call) (f : Frame) (w : World) → AreCalm 1 texts (state_at c p f w)
  calm_one p c f w = (refl, tt)

  -- ---- steps are joined

  -- one step that shows this
  pub once_moves : (p q : Point) (does : Frame → World → Went) (now : Shown) → Acts texts 1 p does q → point_shown p ≡ now → Moves texts 0 p does now q
  once_moves p q does now acts is = (acts, subst (λ h. Tells texts 0 p h) is (point_tells texts p), λ c f w. calm_one p c f w)

  -- a step that no instruction makes, and shows nothing, is the first of those of the next one
  pub slide_moves : (k : ℕ) (p q r : Point) (go : World → World) (does : Frame → World → Went) (now : Shown) → Slides texts 1 p go q → point_shown p ≡ Nothing → Moves texts k q does now r →
      Moves texts (suc k) p (λ f w. does f (go w)) now r
  slide_moves k p q r go does now s quiet rest = (
    slide_acts texts (suc k) p q r go does s rest.0,
    tells_on texts k p q go now s (subst (λ h. Tells texts 0 p h) quiet (point_tells texts p)) rest.1,
    λ c f w. (refl, subst (λ t. AreCalm (suc k) texts t) (sym (s c f w)) (rest.2 c f (go w))),
  )

  module _ (points : ℕ → Point) where
    deed_state : (c : Call) (i k : ℕ) (now : Shown) (w : World) (x : Went) → state_behind c (points i) x ≡ state_of points (deed c i k now w x).next
    deed_state c i k now w (Goes f v) = refl
    deed_state c i k now w (Breaks e) = refl

    deed_bytes : (c : Call) (i k : ℕ) (now : Shown) (w : World) (x : Went) → moved_between w (world_of (state_behind c (points i) x)) ≡ (deed c i k now w x).bytes
    deed_bytes c i k now w (Goes f v) = refl
    deed_bytes c i k now w (Breaks e) = refl

    deed_does : (s : State) (d : Deed) (k : ℕ) (now : Shown) → d.steps ≡ suc k → d.shown ≡ now → ran (suc k) (alone texts) texts s ≡ state_of points d.next → k ≤ 7 → Silent k texts s →
        shown (alone texts) texts (ran k (alone texts) texts s) ≡ now → touches (suc k) texts s ≡ d.bytes → IsMade texts points s d
    deed_does s d k now steps shows is small silent told bytes = (
      subst (λ n. ran n (alone texts) texts s ≡ state_of points d.next) (sym steps) is,
      subst (λ n. IsMove texts s n d.shown d.bytes) (sym steps) (small, silent, told ∙ sym shows, bytes),
    )

    deed_steps : (c : Call) (i k : ℕ) (now : Shown) (w : World) (x : Went) → (deed c i k now w x).steps ≡ k
    deed_steps c i k now w (Goes f v) = refl
    deed_steps c i k now w (Breaks e) = refl

    deed_shown : (c : Call) (i k : ℕ) (now : Shown) (w : World) (x : Went) → (deed c i k now w x).shown ≡ now
    deed_shown c i k now w (Goes f v) = refl
    deed_shown c i k now w (Breaks e) = refl

    -- some steps from a state to a point, of which the last shows this
    pub moves_to : (s : State) (c : Call) (i k : ℕ) (now : Shown) (w : World) (x : Went) → world_of s ≡ w → k ≤ 7 → ran (suc k) (alone texts) texts s ≡ state_behind c (points i) x → Silent k texts s →
        shown (alone texts) texts (ran k (alone texts) texts s) ≡ now → AreCalm (suc k) texts s → IsMade texts points s (deed c i (suc k) now w x)
    moves_to s c i k now w x here small is silent told calm =
        deed_does s (deed c i (suc k) now w x) k now (deed_steps c i (suc k) now w x) (deed_shown c i (suc k) now w x) (is ∙ deed_state c i (suc k) now w x) small silent told
        (calm_touches (suc k) s calm ∙ ap (λ v. moved_between v (world_of (ran (suc k) (alone texts) texts s))) here ∙ ap (λ t. moved_between w (world_of t)) is ∙ deed_bytes c i (suc k) now w x)

    -- what moves from one point to another is an instruction
    pub moves_made : (k : ℕ) (p : Point) (does : Frame → World → Went) (i : ℕ) (now : Shown) → Moves texts k p does now (points i) → k ≤ 7 →
        (c : Call) (f : Frame) (w : World) → IsMade texts points (state_at c p f w) (deed c i (suc k) now w (does f w))
    moves_made k p does i now moves small c f w = moves_to (state_at c p f w) c i k now w (does f w) refl small (moves.0 c f w) (moves.1 c f w).0 (moves.1 c f w).1 (moves.2 c f w)

    -- and so is what branches
    forks_does : (s : State) (c : Call) (w : World) (i j : ℕ) (on off : World → Went) (o : Outcome Bool) → world_of s ≡ w →
        ran 1 (alone texts) texts s ≡ chosen c (points i) on (points j) off o → shown (alone texts) texts s ≡ Nothing → AreCalm 1 texts s → IsMade texts points s (forked c i on j off w o)
    forks_does s c w i j on off (Done true v) here is told calm = moves_to s c i 0 Nothing w (on v) here (omega arith) is tt told calm
    forks_does s c w i j on off (Done false v) here is told calm = moves_to s c j 0 Nothing w (off v) here (omega arith) is tt told calm
    forks_does s c w i j on off (Over e) here is told calm = moves_to s c i 0 Nothing w (Breaks e) here (omega arith) is tt told calm

    pub branches_does : (p : Point) (c : Call) (f : Frame) (w : World) (i j : ℕ) (on off : World → Went) (o : Outcome Bool) →
        ran 1 (alone texts) texts (state_at c p f w) ≡ chosen c (points i) on (points j) off o → point_shown p ≡ Nothing → IsMade texts points (state_at c p f w) (forked c i on j off w o)
    branches_does p c f w i j on off o is quiet = forks_does (state_at c p f w) c w i j on off o refl is ((point_tells texts p c f w).1 ∙ quiet) (calm_one p c f w)
