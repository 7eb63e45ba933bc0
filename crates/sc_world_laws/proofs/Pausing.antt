-- A go that pauses has done work for its turns.
use Rattle.std.proofs.Common.{◌≡◌, ◌⊎◌, inl, inr, ℕ, zero, suc, ◌+◌, ◌-◌, ◌*◌, ◌/◌, ◌<◌, ◌≤◌, nat_lt, Bool, true, false, List, [], ◌∷◌, ◌++◌, slice_index_or, refl, sym, ap, ◌∙◌, subst, arith, Option, Some, None}
use Rattle.sc_base.specs.declared.key.Key.{Key}
use Rattle.sc_meaning.specs.World.{World, Item, Event, GoesOut, pass, work, work_of}
use Rattle.sc_meaning.specs.Outcomes.{Outcome, Done, Over}
use Rattle.sc_meaning.specs.Values.{Value}
use Rattle.sc_meaning.specs.Versions.{Text, Callee, Missing, InText, InLibrary, callee_of}
use Rattle.sc_meaning.specs.Changes.{statics_born}
use Rattle.sc_meaning.specs.Behaviour.{first_world}
use Rattle.sc_meaning.specs.Laws.{Leads}
use Rattle.sc_meaning.specs.Calls.{parameters}
use Rattle.sc_meaning.specs.Functions.{library_call}
use Rattle.sc_meaning.specs.Expressions.{Answer}
use Rattle.sc_meaning.proofs.Trails.{trail-passed}
use Rattle.sc_core.specs.declared.module.Fun.{Fun}
use Rattle.sc_interp_machine.specs.Runs as runs
use Rattle.sc_interp_machine.specs.Runs.{State, Runs, Makes, Answers, Ends, then_goes}
use Rattle.sc_interp_laws.specs.Worlds as course
use Rattle.sc_interp_laws.specs.Paid.{done}
use Rattle.sc_interp_laws.specs.Lean.{LeanCallee, LeanStmt, AreLean, IsLean}
use Rattle.sc_interp_laws.specs.Near.{near, RunNears, goes_on}
use Rattle.sc_interp_laws.proofs.RunNears.{advance_nears, near_most}
use Rattle.sc_interp.specs.Steady.{alone, callee_next, begins, enters, with_frame, advance}
use Rattle.sc_interp.specs.Steps.{is_over}
use Rattle.sc_interp.specs.Ends.{start_of}
use Rattle.sc_interp.proofs.Unchanged.{present}
use Rattle.sc_words.specs.declared.stop.StopAt.{StopAt}
use Rattle.sc_words.specs.declared.stop.Walk.{Walk}
use Rattle.sc_world.specs.declared.halt.Halt.{Halt}
use Rattle.sc_world.specs.declared.halt.Halt.TheVariants as halt
use Rattle.sc_world.specs.Standing.{Standing, world_of}
use Rattle.sc_world.specs.Wants.{Want, wanted, else_over, halts, taken, rests}
use Rattle.sc_world.specs.Costs.{bytes_touched}
use Rattle.sc_world.specs.Goes.{GoneBy, rests_here, moves_on, after, stepped, seen, with_status, want_of, Goes, entry_next, started}
use Rattle.sc_world.specs.Moves.{Silent, moved}
use Rattle.sc_world.proofs.Moves.{moved_after, moved_turns}
use Rattle.sc_world_laws.specs.Halts.{total}
use Rattle.sc_world_laws.specs.Told.{event_of, PassedEach}
use Rattle.sc_world_laws.proofs.Halts.{paused, passed_each}
use Rattle.sc_world_laws.proofs.Turns.{same_world, there, touched_there}
use Rattle.sc_world_laws.proofs.Halting.{sel, Chosen, Why, wanted_chosen, why_rests, paused_none, over_ended, left_state}

-- ---- one step

-- the turns so far, and the steps up to the next work, are paid by work
abbrev pub Paid : Standing → Standing → Type 0
Paid m n = (n.turns + near n.state + 9 * done (world_of m.state) ≤ m.turns + near m.state + 9 * done (world_of n.state)) × (done (world_of m.state) ≤ done (world_of n.state))

sum_one : (turns touched n0 n1 ws wt vs vt : ℕ) → 1 + n1 + 8 * ws ≤ n0 + 8 * wt → touched + ws ≤ wt → vs ≡ ws → vt ≡ wt → (turns + (1 + touched) + n1 + 9 * vs ≤ turns + n0 + 9 * vt) × (vs ≤ vt)
sum_one turns touched n0 n1 ws wt vs vt p q e f = (omega (arith, p, q, e, f), omega (arith, q, e, f))

sum_on : (t0 n0 d0 t1 n1 d1 t2 n2 d2 : ℕ) → (t1 + n1 + 9 * d0 ≤ t0 + n0 + 9 * d1) × (d0 ≤ d1) → (t2 + n2 + 9 * d1 ≤ t1 + n1 + 9 * d2) × (d1 ≤ d2) → (t2 + n2 + 9 * d0 ≤ t0 + n0 + 9 * d2) × (d0 ≤ d2)
sum_on t0 n0 d0 t1 n1 d1 t2 n2 d2 p q = let a = p.0 in let b = p.1 in let c = q.0 in let d = q.1 in (omega (arith, a, c), omega (arith, b, d))

less_on : (t u n d e m : ℕ) → u ≤ t → (t + n + 9 * d ≤ m + 9 * e) × (d ≤ e) → (u + n + 9 * d ≤ m + 9 * e) × (d ≤ e)
less_on t u n d e m p q = let a = q.0 in (omega (arith, p, a), q.1)

over_on : (s : State) → is_over s ≡ false → goes_on s ≡ true
over_on (Runs doing ss env a cs w) e = refl
over_on (Makes t v vs c cs w) e = refl
over_on (Answers a [] w) e = absurd (cc)
over_on (Answers a (c ∷ cs) w) e = refl
over_on (Ends end) e = absurd (cc)

module _ (texts : List Text) (lean : AreLean (alone texts)) where
  step_near : (s : State) → IsLean s → goes_on s ≡ true → RunNears (near s) (done (course.world_of s)) (advance (alone texts) texts s)
  step_near s p g = subst (λ t. RunNears (near s) (done (course.world_of s)) t) (there texts s) (advance_nears (alone texts) lean s p g)

  step_paid : (m : Standing) → IsLean m.state → goes_on m.state ≡ true → IsLean (stepped texts m).state × Paid m (stepped texts m)
  step_paid m p g =
      let t : State = advance (alone texts) texts m.state in
      let q = step_near m.state p g in
      (q.0, sum_one m.turns (bytes_touched m.state t) (near m.state) (near t) (done (course.world_of m.state)) (done (course.world_of t)) (done (world_of m.state)) (done (world_of t)) q.1 (touched_there texts m.state) (same_world m.state) (same_world t))

  module _ (want : Want) where
    over_false : (o : Option Halt) (b : Bool) → else_over o b ≡ None → b ≡ false
    over_false (Some h) b p = absurd (cc)
    over_false None true p = absurd (cc)
    over_false None false p = refl

    rests_on : (m : Standing) → rests want m ≡ None → goes_on m.state ≡ true
    rests_on m p = over_on m.state (over_false (wanted want m.shown (world_of m.state).frames) (is_over m.state) (paused_none want (halts want m) want.turns (taken want m) p))

    -- the steps of a move
    after_paid : (k : ℕ) (m : Standing) → IsLean m.state → goes_on m.state ≡ true → Silent k texts m.state → IsLean (after (suc k) texts m).state × Paid m (after (suc k) texts m)
    after_paid zero m p g s = step_paid m p g
    after_paid (suc k) m p g s =
        let n : Standing = stepped texts m in
        let o : Standing = after (suc k) texts n in
        let one = step_paid m p g in
        let rest = after_paid k n one.0 (over_on n.state s.1) s.2 in
        (rest.0, sum_on m.turns (near m.state) (done (world_of m.state)) n.turns (near n.state) (done (world_of n.state)) o.turns (near o.state) (done (world_of o.state)) one.1 rest.1)

    move_paid : (k : ℕ) (m : Standing) → IsLean m.state → goes_on m.state ≡ true → Silent k texts m.state → IsLean (moved k texts m).state × Paid m (moved k texts m)
    move_paid k m p g s =
        let r = after_paid k m p g s in
        let n : Standing = after (suc k) texts m in
        let same : n.state ≡ (moved k texts m).state = sym (moved_after texts k m).0 in (
          subst IsLean same r.0,
          subst (λ x. ((moved k texts m).turns + near x + 9 * done (world_of m.state) ≤ m.turns + near m.state + 9 * done (world_of x)) × (done (world_of m.state) ≤ done (world_of x))) same
              (less_on n.turns (moved k texts m).turns (near n.state) (done (world_of m.state)) (done (world_of n.state)) (m.turns + near m.state) (moved_turns texts k m) r.1),
        )

    -- the last place of a go
    abbrev pub IsPaid : Standing → Halt → Standing → Type 0
    IsPaid m h left = (last : Standing) × (left ≡ seen last) × IsLean last.state × Paid m last × Why want h last

    pub go_paid : (h : Halt) (left m : Standing) → IsLean m.state → GoneBy texts want h left m → IsPaid m h left
    go_paid h left x p (rests_here m e at) = (m, at, p, (omega arith, omega arith), why_rests want (halts want m) m h refl e)
    go_paid h left x p (moves_on m k small e silent rest) =
        let n : Standing = moved k texts m in
        let one = move_paid k m p (rests_on m e) silent in
        let l = go_paid h left n one.0 rest in
        (l.0, l.1, l.2, sum_on m.turns (near m.state) (done (world_of m.state)) n.turns (near n.state) (done (world_of n.state)) l.0.turns (near l.0.state) (done (world_of l.0.state)) one.1 l.3, l.4)

-- ---- behind a go

status_lean : (s : State) → IsLean s → IsLean (with_status s)
status_lean (Runs doing ss env a cs w) p = p
status_lean (Makes t v vs c cs w) p = p
status_lean (Answers a [] w) p = tt
status_lean (Answers a (c ∷ cs) w) p = p
status_lean (Ends e) p = tt

status_same : (s : State) → is_over s ≡ false → with_status s ≡ s
status_same (Runs doing ss env a cs w) e = refl
status_same (Makes t v vs c cs w) e = refl
status_same (Answers a [] w) e = absurd (cc)
status_same (Answers a (c ∷ cs) w) e = refl
status_same (Ends end) e = refl

not_chosen : {P : Type 0} (selected : Event → Bool) (t : ℕ) (es : List Event) → Chosen selected (halt.Paused t) es → P
not_chosen selected t es (e, one, chosen, inl (p, q)) = absurd (cc)
not_chosen selected t es (e, one, chosen, inr (p, q)) = absurd (cc)

not_halted : {P : Type 0} (want : Want) (last : Standing) (t : ℕ) → (wanted want last.shown (world_of last.state).frames ≡ Some (halt.Paused t)) ⊎ ((wanted want last.shown (world_of last.state).frames ≡ None) × (is_over last.state ≡ true) × (halt.Paused t ≡ halt.Ended)) → P
not_halted want last t (inl p) = not_chosen (sel want) t (event_of last.shown (world_of last.state).frames) (wanted_chosen want last.shown (world_of last.state).frames (halt.Paused t) p)
not_halted want last t (inr (p, q, r)) = absurd (cc)

no_pause : {P : Type 0} (want : Want) (last : Standing) (t : ℕ) → halts want last ≡ Some (halt.Paused t) → P
no_pause want last t e = not_halted want last t (over_ended (wanted want last.shown (world_of last.state).frames) (is_over last.state) (halt.Paused t) e)

over_last : (o : Option Halt) (b : Bool) → else_over o b ≡ None → b ≡ false
over_last (Some h) b p = absurd (cc)
over_last None true p = absurd (cc)
over_last None false p = refl

same_pause : (t k : ℕ) → halt.Paused t ≡ halt.Paused k → t ≡ k
same_pause t k e = cc

enough : (turns before near0 near1 d0 d1 t : ℕ) → turns + near1 + 9 * d0 ≤ before + near0 + 9 * d1 → d0 ≤ d1 → near0 ≤ 7 → t ≡ turns - before → t ≤ 7 + 64 * (d1 - d0)
enough turns before near0 near1 d0 d1 t p r q e = omega (arith, p, q, e, r)

-- a go that pauses is not over, and a 64th of its turns is no more than its work
abbrev pub IsLate : Standing → Standing → ℕ → Type 0
IsLate m last t = (t / 64 ≤ done (world_of last.state) - done (world_of m.state)) × (done (world_of m.state) ≤ done (world_of last.state)) × (is_over last.state ≡ false)

paused_at : (want : Want) (m last : Standing) (t : ℕ) → want.before ≡ m.turns → IsLean m.state → Paid m last → Why want (halt.Paused t) last → IsLate m last t
paused_at want m last t b p paid (inl e) = no_pause want last t e
paused_at want m last t b p paid (inr (none, e)) =
    let s : t ≡ last.turns - m.turns = same_pause t (taken want last) e ∙ ap (λ k. last.turns - k) b in (
      paused t 7 (done (world_of last.state) - done (world_of m.state)) (omega arith) (enough last.turns m.turns (near m.state) (near last.state) (done (world_of m.state)) (done (world_of last.state)) t paid.0 paid.1 (near_most m.state p) s),
      paid.1,
      over_last (wanted want last.shown (world_of last.state).frames) (is_over last.state) none,
    )

pub goes_lean : (texts : List Text) (stops : List StopAt) (walk : Walk) (turns : ℕ) (m : Standing) (h : Halt) (n : Standing) → AreLean (alone texts) → IsLean m.state → Goes texts stops walk turns (Some m) h (Some n) → IsLean n.state
goes_lean texts stops walk turns m h n lean p g =
    let want : Want = want_of stops walk turns m in
    let l = go_paid texts lean want h g.0 m p g.1 in
    subst (λ k. IsLean k.state) (left_state l.0 g.0 n l.1 g.2) (status_lean l.0.state l.2)

late : (texts : List Text) (stops : List StopAt) (walk : Walk) (turns : ℕ) (m : Standing) (t : ℕ) (n : Standing) → AreLean (alone texts) → IsLean m.state → Goes texts stops walk turns (Some m) (halt.Paused t) (Some n) → (t / 64 ≤ done (world_of n.state) - done (world_of m.state)) × (done (world_of m.state) ≤ done (world_of n.state))
late texts stops walk turns m t n lean p g =
    let want : Want = want_of stops walk turns m in
    let l = go_paid texts lean want (halt.Paused t) g.0 m p g.1 in
    let q : IsLate m l.0 t = paused_at want m l.0 t refl p l.3 l.4 in
    let same : with_status l.0.state ≡ n.state = ap (λ k. k.state) (left_state l.0 g.0 n l.1 g.2) in
    let there : l.0.state ≡ n.state = sym (status_same l.0.state q.2) ∙ same in
    (subst (λ s. t / 64 ≤ done (world_of s) - done (world_of m.state)) there q.0, subst (λ s. done (world_of m.state) ≤ done (world_of s)) there q.1)

pub pauses_late : (texts : List Text) (stops : List StopAt) (walk : Walk) (turns : ℕ) (m : Standing) (t : ℕ) (n : Standing) → AreLean (alone texts) → IsLean m.state → Goes texts stops walk turns (Some m) (halt.Paused t) (Some n) → t / 64 ≤ work (world_of n.state).trail - work (world_of m.state).trail
pauses_late texts stops walk turns m t n lean p g = (late texts stops walk turns m t n lean p g).0

-- the work of a trail as a sum of weights
work_total : (is : List Item) → work is ≡ total work_of is
work_total [] = refl
work_total (i ∷ is) = ap (λ n. work_of i + n) (work_total is)

split_less : (share old new : ℕ) → share ≤ new - old → old ≤ new → old + share ≤ new
split_less share old new p q = omega (arith, p, q)

pub pauses_passed : (texts : List Text) (stops : List StopAt) (walk : Walk) (turns : ℕ) (m : Standing) (t : ℕ) (n : Standing) (v : World) → AreLean (alone texts) → IsLean m.state → Goes texts stops walk turns (Some m) (halt.Paused t) (Some n) → Leads (world_of n.state) v →
    PassedEach t (world_of m.state).trail (world_of n.state).trail v.trail
pauses_passed texts stops walk turns m t n v lean p g l before later e f =
    let old : List Item = (world_of m.state).trail in
    let new : List Item = (world_of n.state).trail in
    let whole : v.trail ≡ new ++ l.0 = ap (λ u. u.trail) l.1 ∙ trail-passed l.0 (world_of n.state) in
    let q = late texts stops walk turns m t n lean p g in
    let sum : work old + t / 64 ≤ total work_of new = subst (λ k. work old + t / 64 ≤ k) (work_total new) (split_less (t / 64) (work old) (work new) q.0 q.1) in
    passed_each Item work_of (work old) (t / 64) v.trail new l.0 before later whole e sum (subst (λ k. k < work old + t / 64) (work_total before) f)

-- ---- the start of a run is lean

text_lean : (texts : List Text) → AreLean (alone texts) → (key : Key) → LeanCallee (callee_of texts key)
text_lean texts lean key = subst (λ ts. LeanCallee (callee_of ts key)) (present texts 0) (lean 0 key)

begins_lean : (key : Key) (t : Text) (f : Fun) (r : Outcome (List ℕ)) → LeanStmt f.body → IsLean (then_goes r (begins key t f []))
begins_lean key t f (Done ids u) p = (p, (tt, tt), tt)
begins_lean key t f (Over e) p = tt

enters_lean : (b : Bool) (key : Key) (t : Text) (f : Fun) (vs : List Value) (w : World) → LeanStmt f.body → IsLean (enters b key t f vs [] w)
enters_lean true key t f vs w p = tt
enters_lean false key t f vs w p = begins_lean key t f (parameters (slice_index_or f.blocks 0 []) vs [] (with_frame key t f w)) p

library_lean : (r : Outcome Answer) → IsLean (runs.answers [] r)
library_lean (Done a u) = tt
library_lean (Over e) = tt

callee_lean : (texts : List Text) (key : Key) (vs : List Value) (c : Callee) (w : World) → LeanCallee c → IsLean (callee_next (alone texts) key vs c [] w)
callee_lean texts key vs Missing w p = tt
callee_lean texts key vs (InLibrary f) w p = library_lean (library_call (alone texts) f key vs w)
callee_lean texts key vs (InText t f) w p = enters_lean (nat_lt w.stack (w.used + f.cost)) key t f vs w p

from_lean : (texts : List Text) (key : Key) (r : Outcome (Unit {0})) → AreLean (alone texts) → IsLean (then_goes r (λ _ born. entry_next texts key [] born))
from_lean texts key (Done _ born) lean = callee_lean texts key [] (callee_of texts key) (pass GoesOut born) (text_lean texts lean key)
from_lean texts key (Over e) lean = tt

pub starts_lean : (texts : List Text) (key : Key) (stack heap : ℕ) (input : List ℕ) → AreLean (alone texts) → IsLean (started texts key stack heap input).state
starts_lean texts key stack heap input lean = from_lean texts key (statics_born texts (first_world (start_of texts key stack heap input))) lean
