-- Moves beside the single steps.
use Rattle.std.proofs.Common.{◌≡◌, ℕ, zero, suc, ◌+◌, ◌*◌, ◌≤◌, List, refl, sym, ap, ◌∙◌, arith}
use Rattle.sc_meaning.specs.Versions.{Text}
use Rattle.sc_interp.specs.Shows.{shown}
use Rattle.sc_interp.specs.Steady.{alone, advance}
use Rattle.sc_world.specs.Costs.{bytes_touched}
use Rattle.sc_world.specs.Goes.{after, stepped}
use Rattle.sc_world.specs.Moves.{moved, touches}
use Rattle.sc_world.specs.Standing.{Standing}

-- two places that differ in their turns alone
abbrev pub Same : Standing → Standing → Type 0
Same m n = (m.state ≡ n.state) × (m.shown ≡ n.shown) × (m.steps ≡ n.steps)

pub same_join : (a b c : Standing) → Same a b → Same b c → Same a c
same_join a b c p q = (p.0 ∙ q.0, p.1 ∙ q.1, p.2 ∙ q.2)

pub same_back : (a b : Standing) → Same a b → Same b a
same_back a b p = (sym p.0, sym p.1, sym p.2)

module _ (texts : List Text) where
  -- a move of one step is that step
  pub one_step : (m : Standing) → moved 0 texts m ≡ stepped texts m
  one_step m =
      let bytes : ℕ = bytes_touched m.state (advance (alone texts) texts m.state) in
      let same : m.turns + (1 + (bytes + 0)) ≡ m.turns + (1 + bytes) = omega arith in
      ap (λ (t : ℕ). record { state = advance (alone texts) texts m.state; shown = shown (alone texts) texts m.state; steps = m.steps + 1; turns = t }) same

  pub same_stepped : (m n : Standing) → Same m n → Same (stepped texts m) (stepped texts n)
  same_stepped m n p = (ap (advance (alone texts) texts) p.0, ap (shown (alone texts) texts) p.0, ap (λ k. k + 1) p.2)

  pub same_after : (k : ℕ) (m n : Standing) → Same m n → Same (after k texts m) (after k texts n)
  same_after zero m n p = p
  same_after (suc k) m n p = same_after k (stepped texts m) (stepped texts n) (same_stepped m n p)

  -- a move of one more step is a step and a move
  pub moved_step : (k : ℕ) (m : Standing) → Same (moved (suc k) texts m) (moved k texts (stepped texts m))
  moved_step k m = (refl, refl, omega arith)

  pub moved_after : (k : ℕ) (m : Standing) → Same (moved k texts m) (after (suc k) texts m)
  moved_after zero m = (refl, refl, omega arith)
  moved_after (suc k) m = same_join (moved (suc k) texts m) (moved k texts (stepped texts m)) (after (suc (suc k)) texts m) (moved_step k m) (moved_after k (stepped texts m))

  -- the steps of a move take no fewer turns than the move
  turns_on : (k a b c : ℕ) → a + (1 + b) + (1 + c) ≤ k → a + (1 + (b + c)) ≤ k
  turns_on k a b c p = omega (arith, p)

  pub moved_turns : (k : ℕ) (m : Standing) → (moved k texts m).turns ≤ (after (suc k) texts m).turns
  moved_turns zero m = omega arith
  moved_turns (suc k) m = turns_on (after (suc (suc k)) texts m).turns m.turns (bytes_touched m.state (advance (alone texts) texts m.state)) (touches (suc k) texts (advance (alone texts) texts m.state)) (moved_turns k (stepped texts m))

  -- at most eight steps a move: so many turns are enough of steps
  pub moved_counted : (k : ℕ) (m : Standing) → k ≤ 7 → m.steps ≤ 8 * m.turns → (moved k texts m).steps ≤ 8 * (moved k texts m).turns
  moved_counted k m p q = counted m.steps m.turns k (touches (suc k) texts m.state) p q where
    counted : (steps turns k bytes : ℕ) → k ≤ 7 → steps ≤ 8 * turns → steps + suc k ≤ 8 * (turns + (1 + bytes))
    counted steps turns k bytes p q = omega (arith, p, q)
