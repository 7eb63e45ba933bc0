-- Where a go pauses.
use Rattle.std.proofs.Common.{◌≡◌, ℕ, zero, suc, ◌+◌, Bool, true, false, [], ◌∷◌, List, refl, ap, sym, subst, ◌∙◌, arith, Option, Some, None}
use Rattle.std.proofs.lemmas.Bool.Decides.{nat_tests}
use Rattle.std.specs.Prelude.{◌<◌, ◌≤◌, nat_le}
use Rattle.sc_meaning.specs.World.{Frame}
use Rattle.sc_meaning.specs.Versions.{Text}
use Rattle.sc_interp_machine.specs.Runs.{State, Runs, Makes, Answers, Ends}
use Rattle.sc_interp.specs.declared.stepped.Shown.{Shown}
use Rattle.sc_interp.specs.declared.stepped.Shown.TheVariants as shown
use Rattle.sc_interp.specs.Steps.{is_over}
use Rattle.sc_words.specs.declared.stop.StopAt.{StopAt}
use Rattle.sc_words.specs.declared.stop.Walk.{Walk}
use Rattle.sc_world.specs.declared.halt.Halt.{Halt}
use Rattle.sc_world.specs.declared.halt.Halt.TheVariants.{Entered, AtLine, Ended, Paused}
use Rattle.sc_world.specs.Standing.{Standing, world_of}
use Rattle.sc_world.specs.Wants.{Want, wanted, else_over, halts, halt_if, halt_or, else_paused, rests, taken}
use Rattle.sc_world.specs.Goes.{GoneBy, rests_here, moves_on, seen, closed, with_status, Leaves, Goes, want_of}
use Rattle.sc_world.specs.Moves.{Silent, moved}
use Rattle.sc_world.specs.Pauses.{IsPause}
use Rattle.sc_world.proofs.Courses.{turns_left}

-- no event and no end is a pause
no_pause : (b : Bool) (h : Halt) (n : ℕ) → (h ≡ Paused n → ⊥) → halt_if b h ≡ Some (Paused n) → ⊥
no_pause true h n f p = f (cc)
no_pause false h n f p = absurd (cc)

entered_is_none : (n : ℕ) → Entered ≡ Paused n → ⊥
entered_is_none n p = absurd (cc)

line_is_none : (n : ℕ) → AtLine ≡ Paused n → ⊥
line_is_none n p = absurd (cc)

end_is_none : (n : ℕ) → Ended ≡ Paused n → ⊥
end_is_none n p = absurd (cc)

event_is_none : (want : Want) (x : Shown) (fs : List Frame) (n : ℕ) → wanted want x fs ≡ Some (Paused n) → ⊥
event_is_none want shown.Nothing fs n p = absurd (cc)
event_is_none want (shown.Line line) [] n p = absurd (cc)
event_is_none want (shown.Line line) (f ∷ fs) n p = no_pause _ AtLine n (line_is_none n) p
event_is_none want shown.Entered [] n p = absurd (cc)
event_is_none want shown.Entered (f ∷ fs) n p = no_pause _ Entered n (entered_is_none n) p

halt_is_none : (event : Option Halt) (over : Bool) (n : ℕ) → (event ≡ Some (Paused n) → ⊥) → else_over event over ≡ Some (Paused n) → ⊥
halt_is_none (Some halt) over n f p = f p
halt_is_none None over n f p = no_pause over Ended n (end_is_none n) p

never_paused : (want : Want) (m : Standing) (n : ℕ) → halts want m ≡ Some (Paused n) → ⊥
never_paused want m n p =
    halt_is_none (wanted want m.shown (world_of m.state).frames) (is_over m.state) n (event_is_none want m.shown (world_of m.state).frames n) p

-- where a run is not over, it is closed as it is
over_none : (event : Option Halt) (over : Bool) → else_over event over ≡ None → over ≡ false
over_none (Some halt) over p = absurd (cc)
over_none None true p = absurd (cc)
over_none None false p = refl

not_over : (s : State) → is_over s ≡ false → with_status s ≡ s
not_over (Runs doing ss env a cs w) p = refl
not_over (Makes t v vs c cs w) p = refl
not_over (Answers a [] w) p = absurd (cc)
not_over (Answers a (c ∷ cs) w) p = refl
not_over (Ends e) p = refl

stays_open : (want : Want) (m : Standing) → halts want m ≡ None → closed (seen m) ≡ seen m
stays_open want m p =
    ap (λ s. record (seen m) { state = s }) (not_over m.state (over_none (wanted want m.shown (world_of m.state).frames) (is_over m.state) p))

-- a pause is told by the turns that were taken
paused_if : (b : Bool) (took n : ℕ) → halt_if b (Paused took) ≡ Some (Paused n) → (b ≡ true) × (took ≡ n)
paused_if true took n p = (refl, cc)
paused_if false took n p = absurd (cc)

le_is : (a b : ℕ) → nat_le a b ≡ true → a ≤ b
le_is a b p = grind (arith, nat_tests)

rests_paused : (h : Option Halt) (turns took n : ℕ) → (h ≡ Some (Paused n) → ⊥) → else_paused h turns took ≡ Some (Paused n) → (h ≡ None) × (turns ≤ took) × (took ≡ n)
rests_paused (Some h) turns took n f p = absurd (f p)
rests_paused None turns took n f p = let q = paused_if (nat_le turns took) took n p in (refl, le_is turns took q.0, q.1)

pause_there : (want : Want) (m : Standing) (n : ℕ) → rests want m ≡ Some (Paused n) → (halts want m ≡ None) × (want.turns ≤ taken want m) × (taken want m ≡ n)
pause_there want m n p = rests_paused (halts want m) want.turns (taken want m) n (never_paused want m n) p

-- a pause comes behind a move before which turns were left
abbrev Behind : Want → List Text → Standing → ℕ → Type 0
Behind want texts last n =
    (before : Standing) × (k : ℕ) × (k ≤ 7) × Silent k texts before.state × (taken want before < want.turns) × (last ≡ seen (moved k texts before))
    × (halts want (moved k texts before) ≡ None) × (want.turns ≤ n) × (n ≡ taken want (moved k texts before))

left_before : (want : Want) (m : Standing) → want.before ≤ m.turns → rests want m ≡ None → taken want m < want.turns
left_before want m since p = let q = turns_left want m p in omega (arith, since, q)

later : (want : Want) (m : Standing) (k : ℕ) (texts : List Text) → want.before ≤ m.turns → want.before ≤ (moved k texts m).turns
later want m k texts since = omega (arith, since)

behind : (want : Want) (texts : List Text) (last : Standing) (n : ℕ) (before : Standing) (k : ℕ) → k ≤ 7 → Silent k texts before.state → want.before ≤ before.turns → rests want before ≡ None → (next : Standing) → next ≡ moved k texts before → GoneBy texts want (Paused n) last next → Behind want texts last n
behind want texts last n before k small silent since on next is (rests_here m p at) =
    let q = pause_there want m n p in
    (before, k, small, silent, left_before want before since on, at ∙ ap seen is, ap (halts want) (sym is) ∙ q.0, subst (λ t. want.turns ≤ t) q.2 q.1, sym q.2 ∙ ap (taken want) is)
behind want texts last n before k small silent since on next is (moves_on m j few p quiet rest) =
    behind want texts last n m j few quiet (subst (λ m. want.before ≤ m.turns) (sym is) (later want before k texts since)) p (moved j texts m) refl rest

pause_at : (want : Want) (texts : List Text) (last : Standing) (n : ℕ) (first : Standing) → want.before ≡ first.turns → 0 < want.turns → GoneBy texts want (Paused n) last first → Behind want texts last n
pause_at want texts last n first begins some (rests_here m p at) = let q = pause_there want m n p in absurd (omega (arith, begins, some, q.1))
pause_at want texts last n first begins some (moves_on m j few p quiet rest) = behind want texts last n m j few quiet (omega (arith, begins)) p (moved j texts m) refl rest

pause_of : (want : Want) (texts : List Text) (seen_last last : Standing) (n : ℕ) → closed seen_last ≡ last → Behind want texts seen_last n → IsPause texts want last n
pause_of want texts seen_last last n is b = record {
  before = b.0;
  more = b.1;
  small = b.2;
  silent = b.3;
  last_move = sym is ∙ ap closed b.5 ∙ stays_open want (moved b.1 texts b.0) b.6;
  fewer = b.4;
  took = b.8;
  enough = b.7;
  free = b.6;
}

leaves_pause : (want : Want) (texts : List Text) (first last : Standing) (halt : Halt) (n : ℕ) → want.before ≡ first.turns → 0 < want.turns → halt ≡ Paused n → Leaves texts want first halt (Some last) → IsPause texts want last n
leaves_pause want texts first last halt n begins some paused left =
    pause_of want texts left.0 last n left.2 (pause_at want texts left.0 n first begins some (subst (λ h. GoneBy texts want h left.0 first) paused left.1))

-- a go that pauses
pub pauses : (texts : List Text) (stops : List StopAt) (walk : Walk) (turns : ℕ) (old : Option Standing) (halt : Halt) (new : Option Standing) (first last : Standing) (n : ℕ) → Goes texts stops walk turns old halt new → old ≡ Some first → new ≡ Some last → halt ≡ Paused n → 0 < turns → IsPause texts (want_of stops walk turns first) last n
pauses texts stops walk turns old halt new first last n goes was is paused some =
    leaves_pause (want_of stops walk turns first) texts first last halt n refl some paused
    (subst (λ o. Goes texts stops walk turns o halt (Some last)) was (subst (λ r. Goes texts stops walk turns old halt r) is goes))
