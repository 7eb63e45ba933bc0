-- Moves one by one: those that lie between two instructions, and an instruction.
use Rattle.std.proofs.Common.{◌≡◌, ◌⊎◌, inl, inr, ◌+◌, ◌-◌, ◌<◌, ◌≤◌, ℕ, zero, suc, Bool, true, false, List, Result, Ok, Err, Option, Some, None, refl, ap, sym, subst, ◌∙◌, arith}
use Rattle.std.specs.Option.{is_some}
use Rattle.std.specs.Prelude.{◌==◌, ◌&&◌, not}
use Rattle.sc_emu.specs.Machine.{return_address}
use Rattle.sc_emu.specs.Registers.{Registers}
use Rattle.sc_interp.specs.declared.stepped.Shown.{Shown}
use Rattle.sc_interp.specs.declared.stepped.Shown.TheVariants.{Nothing}
use Rattle.sc_interp_access.specs.declared.ended.Ended.TheVariants as ended
use Rattle.sc_interp_access.specs.declared.stop.Stop.TheVariants as stop
use Rattle.sc_isa_image.specs.declared.image.Image.{Image}
use Rattle.sc_meaning.specs.Versions.{Text}
use Rattle.sc_meaning.specs.World.{World, ComesBack, pass}
use Rattle.sc_words.specs.declared.stop.StopAt.{StopAt}
use Rattle.sc_words.specs.declared.stop.Walk.TheVariants.{Cont}
use Rattle.sc_world.specs.Wants.{Want, else_over, wanted}
use Rattle.sc_world.specs.declared.halt.Halt.{Halt}
use Rattle.sc_world.specs.declared.halt.Halt.TheVariants.{Ended}
use Rattle.sc_mixed.specs.Adding.{Adds}
use Rattle.sc_mixed.specs.Bridge.{with_registers}
use Rattle.sc_mixed.specs.Goes.{Leads, halts_in, leads_lost, leads_on, leads_over, rested, rested_by, want_from}
use Rattle.sc_mixed.specs.Parts.{ClosesSo, ComesBackSo, ExecutesUpto, LastMoves, LeadsOnce, MovedUpto, MovesUpto, came_to, standing_at}
use Rattle.sc_mixed.specs.Single.{Counts, IsOne, Passes, Settles, Settling, StepsOne, StepsOneTo, between_in, between_next, counts_none, counts_one, counts_other, in_object, instruction_in, instruction_next, is_free, passes_none, passes_one, settling_further, settling_here, steps_lost, steps_to, takes_between, takes_instruction}
use Rattle.sc_mixed.specs.Standing.{IsLost, Standing, ended_by, standing_on, standing_over, status_at}
use Rattle.sc_mixed.specs.declared.broken.Break.{Break}
use Rattle.sc_mixed.specs.declared.broken.Break.TheVariants.{Meant}
use Rattle.sc_mixed.specs.declared.calls.Calls.{Calls}
use Rattle.sc_mixed.specs.declared.calls.Moved.{Moved}
use Rattle.sc_mixed.specs.declared.calls.Next.{Next}
use Rattle.sc_mixed.specs.declared.calls.Next.TheVariants.{Steps, Executes, Serves}
use Rattle.sc_mixed.specs.declared.course.Course.{Course}
use Rattle.sc_mixed.specs.declared.course.Course.TheVariants.{On, Over}
use Rattle.sc_mixed.specs.declared.ended.MixedEnd.{MixedEnd}
use Rattle.sc_mixed.specs.declared.ended.MixedEnd.TheVariants as mixed
use Rattle.sc_mixed.proofs.Growing.{further_lead, leads_lead, rests_lead}
use Rattle.sc_mixed.proofs.Adding.{aside}
use Rattle.sc_mixed.proofs.Resting.{come_back}
use Rattle.sc_mixed.proofs.Running.{ran_nothing}

-- ---- one move

module _ (texts : List Text) (i : Image) (c d : Calls) (w v : World) (after : Next) where
  executed_once : (result : Result Moved Break) → ExecutesUpto i 1 c w result after d v → LastMoves 0 i c w result after d v
  executed_once result p =
      let none : p.count ≡ 0 = omega (arith, p.few) in
      let here = ran_nothing i p.count c.regs p.regs w p.world none p.ran in
      subst (λ (n : ℕ). LastMoves n i c w result after d v) none
      (subst (λ (r : Registers). LastMoves p.count i (with_registers r c) w result after d v) (sym here.0)
      (subst (λ (u : World). LastMoves p.count i (with_registers p.regs c) u result after d v) (sym here.1) p.last))

  on_once : (next : Next) (shown : Shown) (turns : ℕ) (now : Shown) → MovesUpto texts i 1 next c w (Ok (record { shown = shown; turns = turns })) after d v → (n : ℕ) × Leads texts n (standing_on i c w next now) (standing_on i d v after shown)
  on_once (Steps g) shown turns now p = (turns, leads_on i c d w v (Steps g) after now (record { shown = shown; turns = turns }) p)
  on_once (Serves n) shown turns now p = (turns, leads_on i c d w v (Serves n) after now (record { shown = shown; turns = turns }) p)
  on_once Executes shown turns now p =
      let q = executed_once (Ok (record { shown = shown; turns = turns })) p in
      (q.0.turns, subst (λ (x : Shown). Leads texts q.0.turns (standing_on i c w Executes now) (standing_on i d v after x)) (sym (ap (λ (m : Moved). m.shown) q.1)) (leads_on i c d w v Executes after now q.0 q.2))

  over_once : (next : Next) (broken : Break) (now : Shown) → MovesUpto texts i 1 next c w (Err broken) after d v → Leads texts 1 (standing_on i c w next now) (standing_over i d v (ended_by broken))
  over_once (Steps g) broken now p = leads_over i c d w v (Steps g) after now broken p
  over_once (Serves n) broken now p = leads_over i c d w v (Serves n) after now broken p
  over_once Executes broken now p = leads_over i c d w v Executes after now broken (executed_once (Err broken) p)

  lost_once : (next : Next) (broken : Break) (now : Shown) → broken ≡ Meant stop.NoRoom → Leads texts 1 (standing_on i c w next now) (standing_over i d v (ended_by broken))
  lost_once next broken now is =
      subst (λ (b : Break). Leads texts 1 (standing_on i c w next now) (standing_over i d v (ended_by b))) (sym is) (leads_lost i c d w v next now)

  pub moves_once : (next : Next) (took then : ℕ) (result : Result Shown Break) → MovedUpto texts i 1 next c w took result after d v then → LeadsOnce texts i next c w result after d v
  moves_once next took then (Ok shown) p = λ now. on_once next shown p.0 now p.2
  moves_once next took then (Err broken) (inl is) = λ now. (1, lost_once next broken now is)
  moves_once next took then (Err broken) (inr p) = λ now. (1, over_once next broken now p)

-- ---- moves that lie between, and an instruction

pub settles_at_once : (texts : List Text) (want : Want) (m : Standing) → takes_between want m ≡ false → Settles texts want m m
settles_at_once texts want m is = record { moves = settling_here; ends = is }

module _ (texts : List Text) (want : Want) (i : Image) (first : Standing) where
  pub settles_further : (c d : Calls) (w v : World) (next after : Next) (now : Shown) (result : Result Shown Break) → Settling texts want first (standing_on i c w next now) → takes_between want (standing_on i c w next now) ≡ true → LeadsOnce texts i next c w result after d v → Settling texts want first (came_to i result after d v)
  settles_further c d w v next after now result s is lead =
      let q = lead now in settling_further q.0 (standing_on i c w next now) (came_to i result after d v) s is q.1

  pub settles_over : (c d : Calls) (w v : World) (next after : Next) (now : Shown) (result : Result Shown Break) (broken : Break) → Settling texts want first (standing_on i c w next now) → takes_between want (standing_on i c w next now) ≡ true → LeadsOnce texts i next c w result after d v → result ≡ Err broken → Settles texts want first (standing_over i d v (ended_by broken))
  settles_over c d w v next after now result broken s is lead err =
      subst (λ (r : Result Shown Break). (takes_between want (came_to i r after d v) ≡ false) → Settles texts want first (came_to i r after d v)) err
      (λ ends. record { moves = settles_further c d w v next after now result s is lead; ends = ends }) refl

  pub settles_lost : (c : Calls) (w : World) (next : Next) (now : Shown) → Settling texts want first (standing_on i c w next now) → takes_between want (standing_on i c w next now) ≡ true → Settles texts want first (standing_over i c w (mixed.Meant ended.NoRoom))
  settles_lost c w next now s is = record { moves = settling_further 1 (standing_on i c w next now) (standing_over i c w (mixed.Meant ended.NoRoom)) s is (leads_lost i c c w w next now); ends = refl }

  pub passes_by : (c d : Calls) (w v : World) (next after : Next) (now : Shown) (m o : Standing) (result : Result Shown Break) → LeadsOnce texts i next c w result after d v → Settles texts want (came_to i result after d v) o → Settles texts want first m → m ≡ standing_on i c w next now → takes_instruction want m ≡ true → Passes texts want first o
  passes_by c d w v next after now m o result lead settles s is takes =
      let q = lead now in
      passes_one q.0 m (came_to i result after d v) o s takes (subst (λ (x : Standing). Leads texts q.0 x (came_to i result after d v)) (sym is) q.1) settles

-- ---- where a step leaves a run

halted : (event : Option Halt) (status : Option ℕ) (n : ℕ) → status ≡ Some n → (halt : Halt) × (else_over event (is_some status) ≡ Some halt)
halted (Some halt) status n is = (halt, refl)
halted None status n is = (Ended, ap (λ (s : Option ℕ). else_over None (is_some s)) is)

module _ (texts : List Text) (want : Want) (i : Image) (first : Standing) (c : Calls) (w v : World) (next : Next) (now : Shown) (course : Course) (passes : Passes texts want first (standing_on i c w next now)) where
  at_rest : (status : Option ℕ) → status_at next c ≡ status → standing_at i c v course ≡ rested_by status i c w next → StepsOne texts want first (halts_in want c w (On next now)) (standing_at i c v course)
  at_rest status at is =
      steps_to (standing_on i c w next now) passes refl (is ∙ ap (λ (s : Option ℕ). rested_by s i c w next) (sym at))

  over_at : (status : ℕ) → status_at next c ≡ Some status → (standing_at i c v course ≡ rested_by (Some status) i c w next) ⊎ (course ≡ Over (mixed.Meant ended.NoRoom)) → StepsOne texts want first (halts_in want c w (On next now)) (standing_at i c v course)
  over_at status at (inl is) = at_rest (Some status) at is
  over_at status at (inr lost) =
      let h = halted (wanted want now w.frames) (status_at next c) status at in
      steps_lost (standing_on i c w next now) h.0 passes h.1 h.1 lost

  closes_at : (status : Option ℕ) → status_at next c ≡ status → ClosesSo status next w course v → StepsOne texts want first (halts_in want c w (On next now)) (standing_at i c v course)
  closes_at None at p = at_rest None at (ap (λ (x : Course). standing_at i c v x) p.0 ∙ ap (λ (u : World). standing_on i c u next Nothing) p.1)
  closes_at (Some status) at p = over_at status at (come_back status i c w v next course p.0 p.1 p.2)

  pub steps_there : (halt : Option Halt) → halt ≡ halts_in want c w (On next now) → ClosesSo (status_at next c) next w course v → StepsOne texts want first halt (standing_at i c v course)
  steps_there halt is p = subst (λ (h : Option Halt). StepsOne texts want first h (standing_at i c v course)) (sym is) (closes_at (status_at next c) refl p)

-- it is over
pub steps_over : (texts : List Text) (want : Want) (i : Image) (first : Standing) (c : Calls) (w : World) (broken : Break) (end : MixedEnd) → end ≡ ended_by broken → Passes texts want first (standing_over i c w (ended_by broken)) → StepsOne texts want first (Some Ended) (standing_at i c w (Over end))
steps_over texts want i first c w broken end is p =
    steps_to (standing_over i c w (ended_by broken)) p refl (ap (λ (e : MixedEnd). standing_over i c w e) is)

-- a run that is over stays so
pub over_already : (texts : List Text) (want : Want) (i : Image) (c : Calls) (w : World) (course : Course) (end : MixedEnd) → course ≡ Over end → StepsOne texts want (standing_at i c w course) (Some Ended) (standing_at i c w (Over end))
over_already texts want i c w course end is =
    subst (λ (x : Course). StepsOne texts want (standing_at i c w x) (Some Ended) (standing_at i c w (Over end))) (sym is)
    (steps_to (standing_over i c w end) (passes_none (standing_over i c w end) (settles_at_once texts want (standing_over i c w end) refl) refl) refl refl)

-- by what the code has of it
abbrev want_by : List StopAt → ℕ → Want
want_by stops since = record { stops = stops; walk = Cont; since = since; turns = 0; before = 0 }

pub step_so : (texts : List Text) (stops marks : List StopAt) (since : ℕ) (old first last new : Standing) (halt : Option Halt) → marks ≡ stops → since ≡ old.world.enters → first ≡ old → last ≡ new → StepsOne texts (want_by marks since) first halt last → StepsOneTo texts stops old halt new
step_so texts stops marks since old first last new halt same at is so p =
    subst (λ (m : Standing). StepsOne texts (want_from stops Cont 0 old) old halt m) so
    (subst (λ (m : Standing). StepsOne texts (want_from stops Cont 0 old) m halt last) is
    (subst (λ (n : ℕ). StepsOne texts (want_by stops n) first halt last) at
    (subst (λ (xs : List StopAt). StepsOne texts (want_by xs since) first halt last) same p)))

-- ---- what happened is kept

module _ (texts : List Text) (want : Want) (base : Standing) where
  settling_lead : (first m : Standing) → IsLost first ⊎ Adds base.world first.world → Settling texts want first m → IsLost m ⊎ Adds base.world m.world
  settling_lead first m before settling_here = before
  settling_lead first m before (settling_further turns l n s is p) =
      further_lead texts turns base l n p (settling_lead first l before s) (leads_lead texts turns l n p)

  stays_here : IsLost base ⊎ Adds base.world base.world
  stays_here = inr (aside base.world base.world refl refl)

  passes_lead : (m : Standing) → Passes texts want base m → IsLost m ⊎ Adds base.world m.world
  passes_lead m (passes_none m2 s is) = settling_lead base m stays_here s.moves
  passes_lead m (passes_one turns l n o s is p t) =
      settling_lead n m (further_lead texts turns base l n p (settling_lead base l stays_here s.moves) (leads_lead texts turns l n p)) t.moves

  pub steps_lead : (result : Option Halt) (last : Standing) → StepsOne texts want base result last → IsLost last ⊎ Adds base.world last.world
  steps_lead result last (steps_to m p is at) = rests_lead m last base.world at (passes_lead m p)
  steps_lead result last (steps_lost m halt p is so lost) = inl lost

-- ---- one instruction, or none

both_true : (a b : Bool) → a && b ≡ true → b ≡ true
both_true true b p = p
both_true false b p = absurd (cc)

one_false : (a b : Bool) → a ≡ true → a && b ≡ false → b ≡ false
one_false true b is p = p
one_false false b is p = absurd (cc)

other_next : (next : Next) (c : Calls) (w : World) → between_next next c w ≡ true → instruction_next next c ≡ false
other_next Executes c w p = ap not p
other_next (Steps g) c w p = refl
other_next (Serves n) c w p = refl

other_in : (course : Course) (c : Calls) (w : World) → between_in course c w ≡ true → instruction_in course c ≡ false
other_in (On next now) c w p = other_next next c w p
other_in (Over end) c w p = refl

other_there : (want : Want) (m : Standing) → takes_between want m ≡ true → instruction_in m.course m.calls ≡ false
other_there want m is = other_in m.course m.calls m.world (both_true (is_free want m.calls m.world m.course) (between_in m.course m.calls m.world) is)

one_there : (want : Want) (m : Standing) → takes_instruction want m ≡ true → instruction_in m.course m.calls ≡ true
one_there want m is = both_true (is_free want m.calls m.world m.course) (instruction_in m.course m.calls) is

rested_frames : (status : Option ℕ) (i : Image) (c : Calls) (w : World) (next : Next) → (rested_by status i c w next).world.frames ≡ w.frames
rested_frames None i c w next = refl
rested_frames (Some status) i c w next = refl

opposite : (b : Bool) → b ≡ false → not b ≡ false → ⊥
opposite true p q = cc
opposite false p q = cc

interpreted_next : (next : Next) (c : Calls) (w : World) → between_next next c w ≡ false → instruction_next next c ≡ false → in_object w.frames ≡ false
interpreted_next Executes c w p q = absurd (opposite (c.regs.pc == return_address) p q)
interpreted_next (Steps g) c w p q = p
interpreted_next (Serves n) c w p q = absurd (cc)

free_there : (halt : Option Halt) → halt ≡ None → not (is_some halt) ≡ true
free_there halt is = ap (λ (h : Option Halt). not (is_some h)) is

interpreted_in : (want : Want) (i : Image) (c : Calls) (w : World) (course : Course) (last : Standing) → halts_in want c w course ≡ None → between_in course c w ≡ false → instruction_in course c ≡ false → last ≡ rested (standing_at i c w course) → in_object last.world.frames ≡ false
interpreted_in want i c w (On next now) last none p q at =
    ap (λ (m : Standing). in_object m.world.frames) at ∙ ap in_object (rested_frames (status_at next c) i c w next) ∙ interpreted_next next c w p q
interpreted_in want i c w (Over end) last none p q at = absurd (cc)

interpreted_there : (want : Want) (m last : Standing) → halts_in want m.calls m.world m.course ≡ None → takes_between want m ≡ false → takes_instruction want m ≡ false → last ≡ rested m → in_object last.world.frames ≡ false
interpreted_there want m last none p q at =
    let free = free_there (halts_in want m.calls m.world m.course) none in
    interpreted_in want m.image m.calls m.world m.course last none
    (one_false (is_free want m.calls m.world m.course) (between_in m.course m.calls m.world) free p)
    (one_false (is_free want m.calls m.world m.course) (instruction_in m.course m.calls) free q) at

module _ (texts : List Text) (want : Want) (base : Standing) where
  settling_counts : (count : ℕ) (first m : Standing) → Counts texts base count first → Settling texts want first m → Counts texts base count m
  settling_counts count first m before settling_here = before
  settling_counts count first m before (settling_further turns l n s is p) =
      counts_other count turns l n (settling_counts count first l before s) (other_there want l is) p

  counted : (m last : Standing) → Passes texts want base m → halts_in want m.calls m.world m.course ≡ None → last ≡ rested m → IsOne texts base None last
  counted m last (passes_none m2 s is) none at = λ _. inr ((m, settling_counts 0 base m counts_none s.moves, at), interpreted_there want m last none s.ends is at)
  counted m last (passes_one turns l n o s is p t) none at =
      λ _. inl (m, settling_counts 1 n m (counts_one 0 turns l n (settling_counts 0 base l counts_none s.moves) (one_there want l is) p) t.moves, at)

  pub steps_one : (result : Option Halt) (last : Standing) → StepsOne texts want base result last → IsOne texts base result last
  steps_one result last (steps_to m p is at) = λ none. counted m last p (is ∙ none) at refl
  steps_one result last (steps_lost m halt p is so lost) = λ none. absurd (cc)
