-- The turns of a whole run are paid by its work.
use Rattle.std.proofs.Common.{◌≡◌, ℕ, ◌+◌, ◌*◌, ◌/◌, ◌<◌, ◌≤◌, List, [], ◌∷◌, ◌++◌, refl, ap, ◌∙◌, subst, arith, Some}
use Rattle.sc_base.specs.declared.key.Key.{Key}
use Rattle.sc_meaning.specs.World.{World, Item, ComesBack, work, work_of}
use Rattle.sc_meaning.specs.Versions.{Text}
use Rattle.sc_meaning.specs.Laws.{Leads}
use Rattle.sc_meaning.proofs.Trails.{trail-passed}
use Rattle.sc_interp_machine.specs.Runs.{State, Runs, Makes, Answers, Ends}
use Rattle.sc_interp_laws.specs.Lean.{AreLean, IsLean}
use Rattle.sc_interp_laws.specs.Near.{near}
use Rattle.sc_interp_laws.specs.Paid.{done}
use Rattle.sc_interp_laws.proofs.RunNears.{near_most}
use Rattle.sc_interp_laws.proofs.Works.{leads_work}
use Rattle.sc_interp.specs.Steady.{alone}
use Rattle.sc_words.specs.declared.stop.StopAt.{StopAt}
use Rattle.sc_words.specs.declared.stop.Walk.{Walk}
use Rattle.sc_world.specs.declared.halt.Halt.{Halt}
use Rattle.sc_world.specs.Changing.{changed_standing}
use Rattle.sc_world.specs.Wants.{Want}
use Rattle.sc_world.specs.Goes.{Goes, started, want_of, with_status}
use Rattle.sc_world.specs.Standing.{Standing, world_of}
use Rattle.sc_world_laws.specs.Halts.{total}
use Rattle.sc_world_laws.specs.Told.{PassedEach}
use Rattle.sc_world_laws.proofs.Halts.{paused, passed_each}
use Rattle.sc_world_laws.proofs.Halting.{left_state}
use Rattle.sc_world_laws.proofs.Pausing.{go_paid, starts_lean}
use Rattle.sc_world_change_laws.proofs.Still.{still, still_near}
use Rattle.sc_session_laws.specs.Follows.{Earned}

-- ---- from place to place

more_work : (is js : List Item) → work is ≤ work (is ++ js)
more_work [] js = omega arith
more_work (i ∷ is) js = let later = more_work is js in omega (arith, later)

earned_on : (t0 n0 d0 t1 n1 d1 : ℕ) → t1 + n1 + 9 * d0 ≤ t0 + n0 + 9 * d1 → t0 + n0 ≤ 7 + 9 * d0 → t1 + n1 ≤ 7 + 9 * d1
earned_on t0 n0 d0 t1 n1 d1 p q = omega (arith, p, q)

earned_back : (t d e : ℕ) → d ≤ e → t + 1 ≤ 7 + 9 * d → t + 0 ≤ 7 + 9 * e
earned_back t d e p q = omega (arith, p, q)

status_earned : (t : ℕ) (s : State) → t + near s ≤ 7 + 9 * done (world_of s) → t + near (with_status s) ≤ 7 + 9 * done (world_of (with_status s))
status_earned t (Runs doing ss env a cs w) p = p
status_earned t (Makes f v vs c cs w) p = p
status_earned t (Answers a [] w) p = earned_back t (work w.trail) (work (w.trail ++ ComesBack ∷ [])) (more_work w.trail (ComesBack ∷ [])) p
status_earned t (Answers a (c ∷ cs) w) p = p
status_earned t (Ends e) p = p

pub goes_earned : (texts : List Text) (stops : List StopAt) (walk : Walk) (turns : ℕ) (m : Standing) (h : Halt) (n : Standing) → AreLean (alone texts) → IsLean m.state → Earned m → Goes texts stops walk turns (Some m) h (Some n) → Earned n
goes_earned texts stops walk turns m h n lean p q g =
    let want : Want = want_of stops walk turns m in
    let l = go_paid texts lean want h g.0 m p g.1 in
    let last : Earned l.0 = earned_on m.turns (near m.state) (done (world_of m.state)) l.0.turns (near l.0.state) (done (world_of l.0.state)) l.3.0 q in
    subst Earned (left_state l.0 g.0 n l.1 g.2) (status_earned l.0.turns l.0.state last)

first_earned : (k d : ℕ) → k ≤ 7 → 0 + k ≤ 7 + 9 * d
first_earned k d p = omega (arith, p)

pub starts_earned : (texts : List Text) (key : Key) (stack heap : ℕ) (input : List ℕ) → AreLean (alone texts) → Earned (started texts key stack heap input)
starts_earned texts key stack heap input lean =
    let s : State = (started texts key stack heap input).state in
    first_earned (near s) (done (world_of s)) (near_most s (starts_lean texts key stack heap input lean))

-- ---- what was passed

few_turns : (t k d : ℕ) → t + k ≤ 7 + 9 * d → t ≤ 7 + 64 * d
few_turns t k d p = omega (arith, p)

-- the work of a trail as a sum of weights
work_total : (is : List Item) → work is ≡ total work_of is
work_total [] = refl
work_total (i ∷ is) = ap (λ n. work_of i + n) (work_total is)

from_nothing : (t w : ℕ) → t / 64 ≤ w → 0 + t / 64 ≤ w
from_nothing t w p = omega (arith, p)

-- each event before which the work is below a 64th of all the turns
pub passed_in_all : (n : Standing) (v : World) → Earned n → Leads (world_of n.state) v → PassedEach n.turns [] (world_of n.state).trail v.trail
passed_in_all n v earned l before later e f =
    let new : List Item = (world_of n.state).trail in
    let whole : v.trail ≡ new ++ l.0 = ap (λ u. u.trail) l.1 ∙ trail-passed l.0 (world_of n.state) in
    let sum : 0 + n.turns / 64 ≤ total work_of new = subst (λ k. 0 + n.turns / 64 ≤ k) (work_total new) (from_nothing n.turns (work new) (paused n.turns 7 (work new) (omega arith) (few_turns n.turns (near n.state) (work new) earned))) in
    passed_each Item work_of 0 (n.turns / 64) v.trail new l.0 before later whole e sum (subst (λ k. k < 0 + n.turns / 64) (work_total before) f)

-- ---- a change

change_pays : (t u n0 n1 d0 d1 : ℕ) → u ≡ t → n1 ≤ n0 → d0 ≤ d1 → t + n0 ≤ 7 + 9 * d0 → u + n1 ≤ 7 + 9 * d1
change_pays t u n0 n1 d0 d1 e p q r = omega (arith, e, p, q, r)

-- the turns stay, the next work is no farther, and no work is taken away
pub change_earned : (old new : List Text) (m : Standing) → Earned m → Earned (changed_standing old new m)
change_earned old new m p =
    let n : Standing = changed_standing old new m in
    let s = still old new m in
    change_pays m.turns n.turns (near m.state) (near n.state) (done (world_of m.state)) (done (world_of n.state)) s.turns (still_near old new m) (leads_work (world_of m.state) (world_of n.state) s.leads) p

more_before : (k a b s : ℕ) → a ≤ b → k < a + s → k < b + s
more_before k a b s p q = omega (arith, p, q)

-- what is passed of a go that began behind changes is passed of one that began before them
pub passed_before : (t : ℕ) (w v : World) (new all : List Item) → Leads w v → PassedEach t v.trail new all → PassedEach t w.trail new all
passed_before t w v new all l p before later e f = p before later e (more_before (work before) (work w.trail) (work v.trail) (t / 64) (leads_work w v l) f)
