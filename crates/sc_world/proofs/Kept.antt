-- What a run means is kept by each step, and by each go.
use Rattle.std.proofs.Common.{◌≡◌, ℕ, zero, suc, ◌+◌, List, [], ◌∷◌, refl, ap, sym, subst, ◌∙◌, arith, add-one, Option, Some, None}
use Rattle.sc_base.specs.declared.key.Key.{Key}
use Rattle.sc_meaning.specs.Outcomes.{Outcome, Done, Over}
use Rattle.sc_meaning.specs.Versions.{Text, History}
use Rattle.sc_meaning.specs.Changes.{statics_born}
use Rattle.sc_meaning.specs.Behaviour.{Start, first_world}
use Rattle.sc_interp_machine.specs.Runs.{State, Runs, Makes, Answers, Ends, then_goes}
use Rattle.sc_interp.specs.Steady.{alone, advance, ran}
use Rattle.sc_interp.specs.Ends.{start_of}
use Rattle.sc_interp.proofs.Whole.{run_ends, run_answers, births_end}
use Rattle.sc_words.specs.declared.stop.StopAt.{StopAt}
use Rattle.sc_words.specs.declared.stop.Walk.{Walk}
use Rattle.sc_world.specs.declared.halt.Halt.{Halt}
use Rattle.sc_world.specs.Standing.{Standing}
use Rattle.sc_world.specs.Wants.{Want}
use Rattle.sc_world.specs.Goes.{GoneBy, rests_here, moves_on, with_status, Leaves, Goes, want_of, entry_next, started}
use Rattle.sc_world.specs.Moves.{moved}
use Rattle.sc_world.specs.Meant.{IsReached, Stands, IsRunOf}

ran_last : (k : ℕ) (h : History) (texts : List Text) (s : State) → ran (suc k) h texts s ≡ advance h texts (ran k h texts s)
ran_last zero h texts s = refl
ran_last (suc k) h texts s = ran_last k h texts (advance h texts s)

module _ (s : Start) (texts : List Text) (is : s.history ≡ alone texts) where
  -- a place that the call of the entry reached is meant so
  reached : (k : ℕ) (st : State) → IsReached s texts k st → Stands s texts k st
  reached k (Runs doing ss env a cs w) p = p
  reached k (Makes t v vs c cs w) p = p
  reached k (Answers a cs w) p = p
  reached k (Ends e) p = λ n lt. run_ends texts s s.entry k n p.0 e is refl lt p.1 p.2

  further : (k : ℕ) (st : State) → IsReached s texts k st → Stands s texts (k + 1) (advance (alone texts) texts st)
  further k st p =
      reached (k + 1) (advance (alone texts) texts st)
      (p.0, p.1, ap (λ n. ran n (alone texts) texts (entry_next texts s.entry [] p.0)) (add-one k) ∙ ran_last k (alone texts) texts (entry_next texts s.entry [] p.0) ∙ ap (advance (alone texts) texts) p.2)

  step_stands : (k : ℕ) (st : State) → Stands s texts k st → Stands s texts (k + 1) (advance (alone texts) texts st)
  step_stands k (Runs doing ss env a cs w) p = further k (Runs doing ss env a cs w) p
  step_stands k (Makes t v vs c cs w) p = further k (Makes t v vs c cs w) p
  step_stands k (Answers a cs w) p = further k (Answers a cs w) p
  step_stands k (Ends e) p = λ n lt. p n (omega arith)

  closed_stands : (k : ℕ) (st : State) → Stands s texts k st → Stands s texts k (with_status st)
  closed_stands k (Runs doing ss env a cs w) p = p
  closed_stands k (Makes t v vs c cs w) p = p
  closed_stands k (Answers a [] w) p = λ n lt. run_answers texts s s.entry k n p.0 w a is refl lt p.1 p.2
  closed_stands k (Answers a (c ∷ cs) w) p = p
  closed_stands k (Ends e) p = p

  ran_stands : (j k : ℕ) (st : State) → Stands s texts k st → Stands s texts (k + j) (ran j (alone texts) texts st)
  ran_stands zero k st p = let same : k ≡ k + 0 = omega arith in subst (λ n. Stands s texts n st) same p
  ran_stands (suc j) k st p =
      let next : State = advance (alone texts) texts st in
      let same : k + 1 + j ≡ k + suc j = omega arith in
      subst (λ n. Stands s texts n (ran j (alone texts) texts next)) same (ran_stands j (k + 1) next (step_stands k st p))

  move_stands : (j k : ℕ) (st : State) → Stands s texts k st → Stands s texts (k + suc j) (advance (alone texts) texts (ran j (alone texts) texts st))
  move_stands j k st p =
      let before : State = ran j (alone texts) texts st in
      let same : k + j + 1 ≡ k + suc j = omega arith in
      subst (λ n. Stands s texts n (advance (alone texts) texts before)) same (step_stands (k + j) before (ran_stands j k st p))

  go_stands : (want : Want) (halt : Halt) (last m : Standing) → GoneBy texts want halt last m → Stands s texts m.steps m.state → Stands s texts last.steps last.state
  go_stands want halt last x (rests_here m e at) p = subst (λ n. Stands s texts n.steps n.state) (sym at) p
  go_stands want halt last x (moves_on m j small e silent rest) p = go_stands want halt last (moved j texts m) rest (move_stands j m.steps m.state p)

  leaves_run : (want : Want) (m : Standing) (halt : Halt) (new : Option Standing) → Stands s texts m.steps m.state → Leaves texts want m halt new → IsRunOf s texts new
  leaves_run want m halt None p q = tt
  leaves_run want m halt (Some n) p q = subst (λ n. IsRunOf s texts (Some n)) q.2 (is, closed_stands q.0.steps q.0.state (go_stands want halt q.0 m q.1 p))

  births_stand : (r : Outcome (Unit {0})) → statics_born texts (first_world s) ≡ r → Stands s texts 0 (then_goes r (λ _ born. entry_next texts s.entry [] born))
  births_stand (Done _ w) p = reached 0 (entry_next texts s.entry [] w) (w, p, refl)
  births_stand (Over e) p = λ n lt. births_end texts s n e is p

-- a go keeps it
pub keeps : (texts : List Text) (stops : List StopAt) (walk : Walk) (turns : ℕ) (old : Option Standing) (halt : Halt) (new : Option Standing) (s : Start) → Goes texts stops walk turns old halt new → IsRunOf s texts old → IsRunOf s texts new
keeps texts stops walk turns None halt new s p q = subst (λ r. IsRunOf s texts r) (sym p.1) tt
keeps texts stops walk turns (Some m) halt new s p q = leaves_run s texts q.0 (want_of stops walk turns m) m halt new q.1 p

-- a run from its start on
pub begins : (texts : List Text) (key : Key) (stack heap : ℕ) (input : List ℕ) → IsRunOf (start_of texts key stack heap input) texts (Some (started texts key stack heap input))
begins texts key stack heap input =
    let s = start_of texts key stack heap input in
    (refl, births_stand s texts refl (statics_born texts (first_world s)) refl)
