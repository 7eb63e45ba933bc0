-- A go of a run of both forms, or a step of one instruction, is a stretch of moves.
use Rattle.std.proofs.Common.{◌≡◌, ℕ, suc, ◌≤◌, Bool, true, false, List, [], ◌∷◌, arith, refl, sym, ap, ◌∙◌, subst, Option, Some, None}
use Rattle.std.specs.Option.{is_some}
use Rattle.std.specs.Prelude.{⊤, Result, Ok, Err}
use Rattle.sc_interp.specs.declared.stepped.Shown.{Shown}
use Rattle.sc_interp.specs.declared.stepped.Shown.TheVariants.{Nothing, Line, Entered}
use Rattle.sc_interp_access.specs.declared.ended.Ended.TheVariants.{NoRoom}
use Rattle.sc_interp_change_laws.specs.Showing.{IsEvent}
use Rattle.sc_isa_image.specs.declared.image.Image.{Image}
use Rattle.sc_meaning.specs.World.{World, Frame}
use Rattle.sc_mixed.specs.Goes.{Goes, Leads, Reaches, halts_in, leads_lost, leads_on, leads_over, lost_at, reaches_further, reaches_here, rested, rested_by, rested_in, rests, rests_at, rests_in, want_from}
use Rattle.sc_mixed.specs.Machine.{Moves}
use Rattle.sc_mixed.specs.Single.{Passes, Settling, StepsOne, passes_none, passes_one, settling_further, settling_here, steps_lost, steps_to}
use Rattle.sc_mixed.specs.Standing.{IsLost, Standing, ended_by, standing_on, standing_over, status_at}
use Rattle.sc_mixed.specs.declared.broken.Break.{Break}
use Rattle.sc_mixed.specs.declared.calls.Calls.{Calls}
use Rattle.sc_mixed.specs.declared.calls.Moved.{Moved}
use Rattle.sc_mixed.specs.declared.calls.Next.{Next}
use Rattle.sc_mixed.specs.declared.course.Course.{Course}
use Rattle.sc_mixed.specs.declared.course.Course.TheVariants.{On, Over}
use Rattle.sc_mixed.specs.declared.ended.MixedEnd.{MixedEnd}
use Rattle.sc_mixed.specs.declared.ended.MixedEnd.TheVariants.{Meant}
use Rattle.sc_mixed_means.specs.Runs.{Gone, Place, gone_moved}
use Rattle.sc_mixed_means.specs.Stages.{Build}
use Rattle.sc_words.specs.declared.stop.StopAt.{StopAt}
use Rattle.sc_words.specs.declared.stop.Walk.TheVariants.{Cont}
use Rattle.sc_world.specs.Wants.{Want, else_over, else_paused, halt_if, wanted}
use Rattle.sc_world.specs.declared.halt.Halt.{Halt}
use Rattle.sc_world.specs.declared.halt.Halt.TheVariants as halt
use Rattle.sc_mixed_goes.specs.Stretches.{HaltsAtShown, Walks, WalksAreMoves, Went, breaks_off, comes_back, finds_no_room, goes_by, halt_of, showing_at, stays_on, steps_by}

-- ---- what halts a go where it goes on

paused_shown : (b : Bool) (took : ℕ) (h : Halt) (now : Shown) → halt_if b (halt.Paused took) ≡ Some h → HaltsAtShown h now
paused_shown true took halt.Entered now e = absurd cc
paused_shown true took halt.AtLine now e = absurd cc
paused_shown true took halt.Ended now e = absurd cc
paused_shown true took (halt.Paused t) now e = tt
paused_shown false took h now e = absurd cc

ended_not : (b : Bool) (x : Halt) → halt_if b x ≡ Some halt.Ended → (x ≡ halt.Ended → ⊥) → ⊥
ended_not true x e other = other cc
ended_not false x e other = absurd cc

line_shown : (want : Want) (line : ℕ) (fs : List Frame) (h : Halt) → wanted want (Line line) fs ≡ Some h → HaltsAtShown h (Line line)
line_shown want line fs halt.Entered e = tt
line_shown want line fs halt.AtLine e = tt
line_shown want line [] halt.Ended e = absurd cc
line_shown want line (f ∷ fs) halt.Ended e = absurd (ended_not _ halt.AtLine e (λ s. cc))
line_shown want line fs (halt.Paused t) e = tt

entry_shows : (want : Want) (fs : List Frame) (h : Halt) → wanted want Entered fs ≡ Some h → HaltsAtShown h Entered
entry_shows want fs halt.Entered e = tt
entry_shows want fs halt.AtLine e = tt
entry_shows want [] halt.Ended e = absurd cc
entry_shows want (f ∷ fs) halt.Ended e = absurd (ended_not _ halt.Entered e (λ s. cc))
entry_shows want fs (halt.Paused t) e = tt

-- what was shown is an event, if it is what halts the go
shown_halts : (want : Want) (fs : List Frame) (now : Shown) (h : Halt) → wanted want now fs ≡ Some h → HaltsAtShown h now
shown_halts want fs Nothing h e = absurd cc
shown_halts want fs (Line line) h e = line_shown want line fs h e
shown_halts want fs Entered h e = entry_shows want fs h e

halts_by : (x : Option Halt) (want : Want) (fs : List Frame) (now : Shown) (took : ℕ) (h : Halt) → wanted want now fs ≡ x → else_paused (else_over x false) want.turns took ≡ Some h → HaltsAtShown h now
halts_by (Some y) want fs now took h is e = shown_halts want fs now h (is ∙ e)
halts_by None want fs now took h is e = paused_shown _ took h now e

-- so it is where the run goes on
on_halts : (want : Want) (c : Calls) (w : World) (next : Next) (now : Shown) (took : ℕ) (h : Halt) → status_at next c ≡ None → rests_in want took c w (On next now) ≡ Some h → HaltsAtShown h now
on_halts want c w next now took h none e =
    halts_by (wanted want now w.frames) want w.frames now took h refl (sym (ap (λ (s : Option ℕ). else_paused (else_over (wanted want now w.frames) (is_some s)) want.turns took) none) ∙ e)

event_then : (h : Halt) (now past : Shown) → (IsEvent now → now ≡ past) → HaltsAtShown h now → HaltsAtShown h past
event_then halt.Entered now past same e = subst IsEvent (same e) e
event_then halt.AtLine now past same e = subst IsEvent (same e) e
event_then halt.Ended now past same e = e
event_then (halt.Paused t) now past same e = tt

-- ---- moves one after another

module _ (first : Place) (b : Build) (bs : List Build) (c : Build) (cs : List Build) (k : ℕ) where
  -- where moves lead
  data Reached (m : Standing) : Type 0 where
    is_on : (j : ℕ) (q : Place) (now : Shown) → k ≤ j → Gone first b bs j q c cs → (IsEvent now → now ≡ q.now) → m ≡ showing_at c.image q now → Reached m
    is_over : (j : ℕ) (q : Place) (broken : Break) (after : Next) (d : Calls) (u : World) → k ≤ j → Gone first b bs j q c cs → Moves c.texts c.image q.next q.calls q.world (Err broken) after d u → m ≡ standing_over c.image d u (ended_by broken) → Reached m
    is_lost : IsLost m → Reached m

  abbrev place_by : Calls → World → Next → Shown → Place
  place_by d v next now = record { next = next; calls = d; world = v; now = now }

  -- the moves from where a run stands
  abbrev MovesIn : Image → Calls → World → Course → Result Moved Break → Next → Calls → World → Type 0
  MovesIn i x w (On next now) result after d v = Moves c.texts i next x w result after d v
  MovesIn i x w (Over end) result after d v = ⊤

  moves_from : (m : Standing) (q : Place) (now : Shown) (result : Result Moved Break) (after : Next) (d : Calls) (v : World) → m ≡ showing_at c.image q now → MovesIn m.image m.calls m.world m.course result after d v → Moves c.texts c.image q.next q.calls q.world result after d v
  moves_from m q now result after d v e p = subst (λ (n : Standing). MovesIn n.image n.calls n.world n.course result after d v) e p

  leads_reached : (turns : ℕ) (m n : Standing) → Leads c.texts turns m n → (j : ℕ) (q : Place) (now : Shown) → k ≤ j → Gone first b bs j q c cs → m ≡ showing_at c.image q now → Reached n
  leads_reached turns m n (leads_on i x d w v next after now moved p) j q was le gone e =
      let z = place_by d v after moved.shown in
      let i_is : i ≡ c.image = ap (λ (s : Standing). s.image) e in
      is_on (suc j) z moved.shown (omega (arith, le)) (gone_moved j q z c cs moved gone (moves_from m q was (Ok moved) after d v e p) refl) (λ event. refl) (ap (λ i. standing_on i d v after moved.shown) i_is)
  leads_reached turns m n (leads_over i x d w v next after now broken p) j q was le gone e =
      let i_is : i ≡ c.image = ap (λ (s : Standing). s.image) e in
      is_over j q broken after d v le gone (moves_from m q was (Err broken) after d v e p) (ap (λ i. standing_over i d v (ended_by broken)) i_is)
  leads_reached turns m n (leads_lost i x d w v next now) j q was le gone e = is_lost refl

  -- from an end nothing leads on
  leads_on_alone : (turns : ℕ) (m n : Standing) → Leads c.texts turns m n → (end : MixedEnd) → m.course ≡ Over end → ⊥
  leads_on_alone turns m n (leads_on i x d w v next after now moved p) end is = cc
  leads_on_alone turns m n (leads_over i x d w v next after now broken p) end is = cc
  leads_on_alone turns m n (leads_lost i x d w v next now) end is = cc

  goes_further : (turns : ℕ) (m n : Standing) → Leads c.texts turns m n → Reached m → Reached n
  goes_further turns m n l (is_on j q now le gone same e) = leads_reached turns m n l j q now le gone e
  goes_further turns m n l (is_over j q broken after d u le gone p e) = absurd (leads_on_alone turns m n l (ended_by broken) (ap (λ (s : Standing). s.course) e))
  goes_further turns m n l (is_lost is) = absurd (leads_on_alone turns m n l (Meant NoRoom) is)

  reaches_reached : (want : Want) (m : Standing) (took : ℕ) (n : Standing) → Reaches c.texts want m took n → Reached m → Reached n
  reaches_reached want m took n reaches_here r = r
  reaches_reached want m took n (reaches_further before turns l x reach free p) r = goes_further turns l x p (reaches_reached want m before l reach r)

  -- ---- where a go rests

  on_rests : (want : Want) (took : ℕ) (h : Halt) (n : Standing) (j : ℕ) (q : Place) (now : Shown) → k ≤ j → Gone first b bs j q c cs → (IsEvent now → now ≡ q.now) → rests_in want took q.calls q.world (On q.next now) ≡ Some h
      → (status : Option ℕ) → status_at q.next q.calls ≡ status → n ≡ rested_by status c.image q.calls q.world q.next → Went first b bs c cs k h n
  on_rests want took h n j q now le gone same halts None is e = stays_on j q le gone (event_then h now q.now same (on_halts want q.calls q.world q.next now took h is halts)) e
  on_rests want took h n j q now le gone same halts (Some status) is e = comes_back j q status le gone is e

  rests_went : (want : Want) (took : ℕ) (h : Halt) (m n : Standing) → Reached m → rests want took m ≡ Some h → n ≡ rested m → Went first b bs c cs k h n
  rests_went want took h m n (is_on j q now le gone same e) halts at =
      on_rests want took h n j q now le gone same (subst (λ (s : Standing). rests want took s ≡ Some h) e halts) (status_at q.next q.calls) refl (at ∙ ap rested e)
  rests_went want took h m n (is_over j q broken after d u le gone p e) halts at = breaks_off j q broken after d u le gone p (at ∙ ap rested e)
  rests_went want took h m n (is_lost is) halts at = finds_no_room (ap (λ (s : Standing). s.course) at ∙ ap (λ (x : Course). (rested_in m.image m.calls m.world x).course) is)

  -- ---- a step of one instruction

  settling_reached : (want : Want) (m n : Standing) → Settling c.texts want m n → Reached m → Reached n
  settling_reached want m n settling_here r = r
  settling_reached want m n (settling_further turns l n' s t p) r = goes_further turns l n p (settling_reached want m l s r)

  passes_reached : (want : Want) (m n : Standing) → Passes c.texts want m n → Reached m → Reached n
  passes_reached want m n (passes_none n' s t) r = settling_reached want m n s.moves r
  passes_reached want m n (passes_one turns l o n' s t p z) r = settling_reached want o n z.moves (goes_further turns l o p (settling_reached want m l s.moves r))

  wants_by : (x : Option Halt) (want : Want) (fs : List Frame) (now : Shown) (h : Halt) → wanted want now fs ≡ x → else_over x false ≡ Some h → HaltsAtShown h now
  wants_by (Some y) want fs now h is e = shown_halts want fs now h (is ∙ e)
  wants_by None want fs now h is e = absurd cc

  step_halts : (want : Want) (d : Calls) (w : World) (next : Next) (now : Shown) (result : Option Halt) → status_at next d ≡ None → halts_in want d w (On next now) ≡ result → HaltsAtShown (halt_of result) now
  step_halts want d w next now None none e = tt
  step_halts want d w next now (Some h) none e =
      wants_by (wanted want now w.frames) want w.frames now h refl (sym (ap (λ (s : Option ℕ). else_over (wanted want now w.frames) (is_some s)) none) ∙ e)

  step_rests_on : (want : Want) (result : Option Halt) (n : Standing) (j : ℕ) (q : Place) (now : Shown) → k ≤ j → Gone first b bs j q c cs → (IsEvent now → now ≡ q.now) → halts_in want q.calls q.world (On q.next now) ≡ result
      → (status : Option ℕ) → status_at q.next q.calls ≡ status → n ≡ rested_by status c.image q.calls q.world q.next → Went first b bs c cs k (halt_of result) n
  step_rests_on want result n j q now le gone same halts None is e = stays_on j q le gone (event_then (halt_of result) now q.now same (step_halts want q.calls q.world q.next now result is halts)) e
  step_rests_on want result n j q now le gone same halts (Some status) is e = comes_back j q status le gone is e

  step_went : (want : Want) (result : Option Halt) (m n : Standing) → Reached m → halts_in want m.calls m.world m.course ≡ result → n ≡ rested m → Went first b bs c cs k (halt_of result) n
  step_went want result m n (is_on j q now le gone same e) halts at =
      step_rests_on want result n j q now le gone same (subst (λ (s : Standing). halts_in want s.calls s.world s.course ≡ result) e halts) (status_at q.next q.calls) refl (at ∙ ap rested e)
  step_went want result m n (is_over j q broken after d u le gone p e) halts at = breaks_off j q broken after d u le gone p (at ∙ ap rested e)
  step_went want result m n (is_lost is) halts at = finds_no_room (ap (λ (s : Standing). s.course) at ∙ ap (λ (x : Course). (rested_in m.image m.calls m.world x).course) is)

  step_left : (want : Want) (m : Standing) (result : Option Halt) (n : Standing) → Reached m → StepsOne c.texts want m result n → Went first b bs c cs k (halt_of result) n
  step_left want m result n r (steps_to l passes halts at) = step_went want result l n (passes_reached want m l passes r) halts at
  step_left want m result n r (steps_lost l h passes halts is lost) = finds_no_room lost

  go_left : (want : Want) (m : Standing) (h : Halt) (n : Standing) → Reached m → Goes c.texts want m h n → Went first b bs c cs k h n
  go_left want m h n r (rests_at took l reach halts at) = rests_went want took h l n (reaches_reached want m took l reach r) halts at
  go_left want m h n r (lost_at took l reach halts lost) = finds_no_room lost

  walk_left : (stops : List StopAt) (m : Standing) (h : Option Halt) (n : Standing) → Reached m → Walks c.texts stops m h n → Went first b bs c cs k (halt_of h) n
  walk_left stops m h n r (goes_by walk turns at is goes) = subst (λ x. Went first b bs c cs k (halt_of x) n) (sym is) (go_left (want_from stops walk turns m) m at n r goes)
  walk_left stops m h n r (steps_by steps) = step_left (want_from stops Cont 0 m) m h n r steps

  from_place : (p : Place) (now : Shown) (stops : List StopAt) (h : Option Halt) (n : Standing) → Gone first b bs k p c cs → (IsEvent now → now ≡ p.now) → Walks c.texts stops (showing_at c.image p now) h n → Went first b bs c cs k (halt_of h) n
  from_place p now stops h n gone same walks = walk_left stops (showing_at c.image p now) h n (is_on k p now (omega arith) gone same refl) walks

pub walks_stretch : WalksAreMoves
walks_stretch first b bs c cs k p now gone same stops h n walks = from_place first b bs c cs k p now stops h n gone same walks
