-- The turns of a run are paid by work.
use Rattle.std.proofs.Common.{◌≡◌, ℕ, zero, suc, ◌+◌, ◌-◌, ◌*◌, ◌≤◌, true, List, refl, subst, arith}
use Rattle.sc_meaning.specs.Versions.{Text}
use Rattle.sc_interp_machine.specs.Runs as runs
use Rattle.sc_interp_machine.specs.Runs.{State, Runs, Makes, Answers, Ends}
use Rattle.sc_interp_world.specs.Outputs.{bytes_moved}
use Rattle.sc_interp_laws.specs.Worlds as course
use Rattle.sc_interp_laws.specs.Paid.{done, credit, pays, RunPaid, AllPay}
use Rattle.sc_interp_laws.specs.Moved.{StepBacked}
use Rattle.sc_interp_laws.proofs.Works.{leads_work}
use Rattle.sc_interp_laws.proofs.RunSteps.{advance_leads}
use Rattle.sc_interp_laws.proofs.RunPays.{advance_paid}
use Rattle.sc_interp_laws.proofs.Moves.{advance_backs}
use Rattle.sc_interp.specs.Steady.{alone, advance}
use Rattle.sc_interp.proofs.Unchanged.{quiet, present, same_step}
use Rattle.sc_world.specs.Costs.{bytes_touched, statements_ended}
use Rattle.sc_world.specs.Standing.{Standing, world_of}
use Rattle.sc_world.specs.Goes.{after, stepped}

pub same_world : (s : State) → done (world_of s) ≡ done (course.world_of s)
same_world (Runs mode ss env a cs w) = refl
same_world (Makes t v vs c cs w) = refl
same_world (Answers a cs w) = refl
same_world (Ends e) = refl

-- bytes that are moved are work, and so are those that a call touches
moved_less : (a b m n : ℕ) → b + m ≤ n + a → m ≤ n → (b - a) + m ≤ n
moved_less a b m n p q = omega (arith, p, q)

work_less : (m n e : ℕ) → m ≤ n → (n - m - e) + m ≤ n
work_less m n e p = omega (arith, p)

touched_less : (s t : State) → StepBacked s t → done (course.world_of s) ≤ done (course.world_of t) → bytes_touched s t + done (course.world_of s) ≤ done (course.world_of t)
touched_less (Runs mode ss env a cs w) (Runs mode2 ss2 env2 a2 cs2 v) p q = moved_less (bytes_moved w.trail) (bytes_moved v.trail) (done w) (done v) p q
touched_less (Runs mode ss env a cs w) (Makes t x vs c cs2 v) p q = moved_less (bytes_moved w.trail) (bytes_moved v.trail) (done w) (done v) p q
touched_less (Runs mode ss env a cs w) (Answers b cs2 v) p q = moved_less (bytes_moved w.trail) (bytes_moved v.trail) (done w) (done v) p q
touched_less (Runs mode ss env a cs w) (Ends e) p q = moved_less (bytes_moved w.trail) (bytes_moved (course.world_of (Ends e)).trail) (done w) (done (course.world_of (Ends e))) p q
touched_less (Makes t x vs c cs w) (Runs mode ss env a cs2 v) p q = moved_less (bytes_moved w.trail) (bytes_moved v.trail) (done w) (done v) p q
touched_less (Makes t x vs c cs w) (Makes t2 x2 vs2 c2 cs2 v) p q = moved_less (bytes_moved w.trail) (bytes_moved v.trail) (done w) (done v) p q
touched_less (Makes t x vs c cs w) (Answers a cs2 v) p q = work_less (done w) (done v) 0 q
touched_less (Makes t x vs c cs w) (Ends e) p q = work_less (done w) (done (course.world_of (Ends e))) (statements_ended e) q
touched_less (Answers b cs w) (Runs mode ss env a cs2 v) p q = moved_less (bytes_moved w.trail) (bytes_moved v.trail) (done w) (done v) p q
touched_less (Answers b cs w) (Makes t x vs c cs2 v) p q = moved_less (bytes_moved w.trail) (bytes_moved v.trail) (done w) (done v) p q
touched_less (Answers b cs w) (Answers a cs2 v) p q = moved_less (bytes_moved w.trail) (bytes_moved v.trail) (done w) (done v) p q
touched_less (Answers b cs w) (Ends e) p q = moved_less (bytes_moved w.trail) (bytes_moved (course.world_of (Ends e)).trail) (done w) (done (course.world_of (Ends e))) p q
touched_less (Ends f) (Runs mode ss env a cs2 v) p q = moved_less (bytes_moved (course.world_of (Ends f)).trail) (bytes_moved v.trail) (done (course.world_of (Ends f))) (done v) p q
touched_less (Ends f) (Makes t x vs c cs2 v) p q = moved_less (bytes_moved (course.world_of (Ends f)).trail) (bytes_moved v.trail) (done (course.world_of (Ends f))) (done v) p q
touched_less (Ends f) (Answers a cs2 v) p q = moved_less (bytes_moved (course.world_of (Ends f)).trail) (bytes_moved v.trail) (done (course.world_of (Ends f))) (done v) p q
touched_less (Ends f) (Ends e) p q = moved_less (bytes_moved (course.world_of (Ends f)).trail) (bytes_moved (course.world_of (Ends e)).trail) (done (course.world_of (Ends f))) (done (course.world_of (Ends e))) p q

-- a step of a machine whose program does not change
module _ (texts : List Text) where
  pub there : (s : State) → runs.advance (alone texts) s ≡ advance (alone texts) texts s
  there s = same_step (alone texts) texts (quiet texts) (present texts) s

  paid_there : (s : State) → pays s ≡ true → RunPaid (credit s) (done (course.world_of s)) (advance (alone texts) texts s)
  paid_there s p = subst (λ t. RunPaid (credit s) (done (course.world_of s)) t) (there s) (advance_paid (alone texts) s p)

  pub touched_there : (s : State) → bytes_touched s (advance (alone texts) texts s) + done (course.world_of s) ≤ done (course.world_of (advance (alone texts) texts s))
  touched_there s =
      subst (λ t. bytes_touched s t + done (course.world_of s) ≤ done (course.world_of t)) (there s)
      (touched_less s (runs.advance (alone texts) s) (advance_backs (alone texts) s) (leads_work (course.world_of s) (course.world_of (runs.advance (alone texts) s)) (advance_leads (alone texts) s)))

sum_one : (turns touched c k ws wt vs vt : ℕ) → 1 + c + 4 * ws ≤ k + 4 * wt → touched + ws ≤ wt → vs ≡ ws → vt ≡ wt → turns + (1 + touched) + c + 5 * vs ≤ turns + k + 5 * vt
sum_one turns touched c k ws wt vs vt p q e f = omega (arith, p, q, e, f)

pub step_paid : (texts : List Text) (m : Standing) → pays m.state ≡ true → (stepped texts m).turns + credit (stepped texts m).state + 5 * done (world_of m.state) ≤ m.turns + credit m.state + 5 * done (world_of (stepped texts m).state)
step_paid texts m p =
    let t : State = advance (alone texts) texts m.state in
    sum_one m.turns (bytes_touched m.state t) (credit t) (credit m.state) (done (course.world_of m.state)) (done (course.world_of t)) (done (world_of m.state)) (done (world_of t))
    (paid_there texts m.state p) (touched_there texts m.state) (same_world m.state) (same_world t)

sum_on : (a b c d e f g h i : ℕ) → a + b + 5 * c ≤ d + e + 5 * f → g + h + 5 * f ≤ a + b + 5 * i → g + h + 5 * c ≤ d + e + 5 * i
sum_on a b c d e f g h i p q = omega (arith, p, q)

pub turns_paid : (k : ℕ) (texts : List Text) (m : Standing) → AllPay k (alone texts) m.state → (after k texts m).turns + credit (after k texts m).state + 5 * done (world_of m.state) ≤ m.turns + credit m.state + 5 * done (world_of (after k texts m).state)
turns_paid zero texts m p = omega arith
turns_paid (suc k) texts m p =
    let n : Standing = stepped texts m in
    let o : Standing = after k texts n in
    sum_on n.turns (credit n.state) (done (world_of m.state)) m.turns (credit m.state) (done (world_of n.state)) o.turns (credit o.state) (done (world_of o.state))
    (step_paid texts m p.0) (turns_paid k texts n (subst (λ s. AllPay k (alone texts) s) (there texts m.state) p.1))
