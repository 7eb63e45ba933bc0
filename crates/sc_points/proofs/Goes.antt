-- A go of a list of moves is a go of the machine.
use Rattle.std.proofs.Common.{◌≡◌, ◌+◌, ℕ, zero, suc, true, false, refl, ap, sym, subst, ◌∙◌, List, Some, None}
use Rattle.sc_meaning.specs.Versions.{Text}
use Rattle.sc_interp.specs.Shows.{shown}
use Rattle.sc_interp.specs.Steady.{alone, ran, advance}
use Rattle.sc_interp.specs.Steps.{is_over}
use Rattle.sc_interp.specs.declared.stepped.Shown.{Shown}
use Rattle.sc_interp_machine.specs.Runs.{State}
use Rattle.sc_words.specs.declared.stop.StopAt.{StopAt}
use Rattle.sc_words.specs.declared.stop.Walk.{Walk}
use Rattle.sc_world.specs.declared.halt.Halt.{Halt}
use Rattle.sc_world.specs.declared.halt.Halt.TheVariants.{Paused}
use Rattle.sc_world.specs.Goes as whole
use Rattle.sc_world.specs.Goes.{GoneBy, rests_here, moves_on, closed, want_of}
use Rattle.sc_world.specs.Moves.{moved, touches}
use Rattle.sc_world.specs.Standing.{Standing, world_of}
use Rattle.sc_world.specs.Wants.{Want, halts, taken, wanted, rests}
use Rattle.sc_world.proofs.Stood.{halts_none, over_none, same_halt}
use Rattle.sc_points.specs.Points.{Point, state_at}
use Rattle.sc_points.specs.Lists.{Where, On, Ended, Deed, Instructions, Invariant, state_of, IsMove, IsMade, AreMade, Keeps, Moving, Stand, standing_of, behind, acted, ListGoneBy, stays, goes}
use Rattle.sc_points.proofs.Joined.{ran_last}

behind_at : (x : Stand) (next : Where) (k : ℕ) (now : Shown) (bytes : ℕ) → (behind x next k now bytes).at ≡ next
behind_at x next zero now bytes = refl
behind_at x next (suc k) now bytes = refl

module _ (texts : List Text) (points : ℕ → Point) (want : Want) (halt : Halt) (last : Standing) where
  -- a move, or no step, and a go behind it
  moves_with : (x : Stand) (next : Where) (k : ℕ) (now : Shown) (bytes : ℕ) → rests want (standing_of points x) ≡ None →
      ran k (alone texts) texts (state_of points x.at) ≡ state_of points next → IsMove texts (state_of points x.at) k now bytes →
      GoneBy texts want halt last (standing_of points (behind x next k now bytes)) → GoneBy texts want halt last (standing_of points x)
  moves_with x next zero now bytes none is move go = subst (λ s. GoneBy texts want halt last (record { state = s; shown = x.shown; steps = x.steps; turns = x.turns })) (sym is) go
  moves_with x next (suc k) now bytes none is move go =
      let s : State = state_of points x.at in
      let there : advance (alone texts) texts (ran k (alone texts) texts s) ≡ state_of points next = sym (ran_last texts k s) ∙ is in
      let same : moved k texts (standing_of points x) ≡ standing_of points (behind x next (suc k) now bytes) =
      ap (λ t. record { state = t; shown = shown (alone texts) texts (ran k (alone texts) texts s); steps = x.steps + suc k; turns = x.turns + (1 + touches (suc k) texts s) }) there
      ∙ ap (λ h. record { state = state_of points next; shown = h; steps = x.steps + suc k; turns = x.turns + (1 + touches (suc k) texts s) }) move.2
      ∙ ap (λ b. record { state = state_of points next; shown = now; steps = x.steps + suc k; turns = x.turns + (1 + b) }) move.3 in
      moves_on (standing_of points x) k move.0 none move.1 (subst (λ n. GoneBy texts want halt last n) (sym same) go)

  module _ (holds : Invariant) (does : Instructions) (moving : Moving texts points holds does) where
    acted_keeps : (x : Stand) (at : Where) → Keeps holds at → x.at ≡ at → Keeps holds (acted does at x).at
    acted_keeps x (On c i f w) keep is =
        let d : Deed = does c i f w in
        subst (λ a. Keeps holds a) (sym (behind_at x d.next d.steps d.shown d.bytes)) (moving c i f w keep).1
    acted_keeps x (Ended e) keep is = subst (λ a. Keeps holds a) (sym is) tt

    -- one instruction, and a go behind it
    acts_with : (x : Stand) (at : Where) → x.at ≡ at → Keeps holds at → rests want (standing_of points x) ≡ None →
        GoneBy texts want halt last (standing_of points (acted does at x)) → GoneBy texts want halt last (standing_of points x)
    acts_with x (On c i f w) is keep none go =
        let d : Deed = does c i f w in
        let one : IsMade texts points (state_at c (points i) f w) d = (moving c i f w keep).0 in
        moves_with x d.next d.steps d.shown d.bytes none (ap (λ a. ran d.steps (alone texts) texts (state_of points a)) is ∙ one.0)
        (subst (λ a. IsMove texts (state_of points a) d.steps d.shown d.bytes) (sym is) one.1) go
    acts_with x (Ended e) is keep none go =
        let m : Standing = standing_of points x in
        let over : is_over m.state ≡ false = over_none (wanted want m.shown (world_of m.state).frames) (is_over m.state) (halts_none (halts want m) want.turns (taken want m) none) in
        let end : is_over m.state ≡ true = ap (λ a. is_over (state_of points a)) is in
        absurd (cc)

module _ (texts : List Text) (points : ℕ → Point) (holds : Invariant) (does : Instructions) (moving : Moving texts points holds does) where
  pub list_goes : (want : Want) (halt : Halt) (last x : Stand) → ListGoneBy points does want halt last x → Keeps holds x.at → GoneBy texts want halt (standing_of points last) (standing_of points x)
  list_goes want halt last y (stays x e is) keep = rests_here (standing_of points x) e (ap (standing_of points) is)
  list_goes want halt last y (goes x e rest) keep =
      acts_with texts points want halt (standing_of points last) holds does moving x x.at refl keep e
      (list_goes want halt last (acted does x.at x) rest (acted_keeps texts points want halt (standing_of points last) holds does moving x x.at keep refl))

  -- so many instructions are what the machine does, wherever the invariant holds
  pub moving_made : (n : ℕ) (at : Where) → Keeps holds at → AreMade texts points does n at
  moving_made zero at keep = tt
  moving_made (suc n) (On c i f w) keep = let one = moving c i f w keep in (one.0, moving_made n (does c i f w).next one.1)
  moving_made (suc n) (Ended e) keep = tt

-- the invariant that all instructions from there on are what the machine does
module _ (texts : List Text) (points : ℕ → Point) (does : Instructions) where
  abbrev all_made : Invariant
  all_made c i f w = (n : ℕ) → AreMade texts points does n (On c i f w)

  made_keeps : (at : Where) → ((n : ℕ) → AreMade texts points does n at) → Keeps all_made at
  made_keeps (On c i f w) p = p
  made_keeps (Ended e) p = tt

  made_moves : Moving texts points all_made does
  made_moves c i f w p = ((p 1).0, made_keeps (does c i f w).next (λ n. (p (suc n)).1))

  pub made_goes : (want : Want) (halt : Halt) (last x : Stand) → ((n : ℕ) → AreMade texts points does n x.at) → ListGoneBy points does want halt last x →
      GoneBy texts want halt (standing_of points last) (standing_of points x)
  made_goes want halt last x p go = list_goes texts points all_made does made_moves want halt last x go (made_keeps x.at p)

  -- so what a list leaves is what is asked of a go
  pub made_asked : (stops : List StopAt) (walk : Walk) (turns : ℕ) (halt : Halt) (last x : Stand) → ((n : ℕ) → AreMade texts points does n x.at) →
      ListGoneBy points does (want_of stops walk turns (standing_of points x)) halt last x →
      whole.Goes texts stops walk turns (Some (standing_of points x)) halt (Some (closed (standing_of points last)))
  made_asked stops walk turns halt last x p go = (standing_of points last, made_goes (want_of stops walk turns (standing_of points x)) halt last x p go, refl)

  -- Where it halts before its turns are taken, every go of the machine from there that does so halts too, for the same reason and behind as many steps.
  pub made_place : (want : Want) (g h : Halt) (last x : Stand) (end : Standing) → ((n : ℕ) → AreMade texts points does n x.at) → ListGoneBy points does want g last x →
      GoneBy texts want h end (standing_of points x) → ((t : ℕ) → g ≡ Paused t → ⊥) → ((t : ℕ) → h ≡ Paused t → ⊥) → (g ≡ h) × (state_of points last.at ≡ end.state) × (last.steps ≡ end.steps)
  made_place want g h last x end p go q a b =
      let r = same_halt texts want g h (standing_of points last) end (standing_of points x) (made_goes want g last x p go) q (λ s. a s.0 s.1) (λ s. b s.0 s.1) in
      (r.0, r.1.0, r.1.2)
