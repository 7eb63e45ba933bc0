-- Where a run stands, by what the program keeps of it.
use Rattle.std.proofs.Common.{◌≡◌, ℕ, false, List, [], refl, ap, sym, subst, ◌∙◌, Option, Some, None, Result, Err}
use Rattle.sc_base.specs.declared.key.Key.{Key}
use Rattle.sc_meaning.specs.World.{World}
use Rattle.sc_meaning.specs.Outcomes.{Ending}
use Rattle.sc_meaning.specs.Versions.{Text}
use Rattle.sc_meaning.specs.Behaviour.{first_world}
use Rattle.sc_interp_machine.specs.Runs.{Caller, State, Ends}
use Rattle.sc_interp_access.specs.declared.stop.Stop.{Stop}
use Rattle.sc_interp_access.specs.Gives.{ending_of}
use Rattle.sc_interp.specs.declared.going.Going.{Going}
use Rattle.sc_interp.specs.declared.going.Going.TheVariants as going
use Rattle.sc_interp_access.specs.declared.ended.Ended.{Ended}
use Rattle.sc_interp_access.specs.declared.ended.Ended.TheVariants as ended
use Rattle.sc_interp.specs.declared.stepped.Shown.{Shown}
use Rattle.sc_interp.specs.declared.stepped.Shown.TheVariants.{Nothing}
use Rattle.sc_interp.specs.Ends.{start_of, end_of}
use Rattle.sc_interp.specs.Steps.{Steps}
use Rattle.sc_words.specs.declared.stop.StopAt.{StopAt}
use Rattle.sc_words.specs.declared.stop.Walk.{Walk}
use Rattle.sc_world.specs.declared.course.Course.{Course}
use Rattle.sc_world.specs.declared.course.Course.TheVariants.{On, Over}
use Rattle.sc_world.specs.declared.count.Count.{Count}
use Rattle.sc_world.specs.declared.halt.Halt.{Halt}
use Rattle.sc_world.specs.declared.halt.Halt.TheVariants as halt
use Rattle.sc_world.specs.Standing.{Standing, state_of, standing, ended_so, world_in, has_ended, is_ended, EndedSo}
use Rattle.sc_world.specs.Wants.{Want}
use Rattle.sc_world.specs.Goes.{Leaves, Goes, want_of, first_from, first_standing, started}
use Rattle.sc_world.specs.Meant.{IsRunOf}
use Rattle.sc_world.specs.Turns.{standing_at}
use Rattle.sc_world.proofs.Courses.{world_there, over_here}
use Rattle.sc_world.proofs.Kept.{begins}

-- a go of a run that goes on
abbrev want_there : Want → ℕ → ℕ → Want
want_there want since before = record want { since = since; before = before }

pub goes_so : (texts : List Text) (want : Want) (course : Course) (g : Going) (x : Shown) (cs : List Caller) (w : World) (c : Count) (h : Halt) (new : Option Standing) → course ≡ On g x → want.since ≡ w.enters → want.before ≡ c.turns → Leaves texts want (standing_at (state_of g cs w) x c) h new → Goes texts want.stops want.walk want.turns (standing course cs w c) h new
goes_so texts want course g x cs w c h new is at before p =
    subst (λ course. Goes texts want.stops want.walk want.turns (standing course cs w c) h new) (sym is)
    (subst (λ n. Leaves texts (want_there want n c.turns) (standing_at (state_of g cs w) x c) h new) (at ∙ sym (ap (λ v. v.enters) (world_there g cs w)))
    (subst (λ n. Leaves texts (want_there want want.since n) (standing_at (state_of g cs w) x c) h new) before p))

-- a run that is over stays so
over_stays : (texts : List Text) (stops : List StopAt) (walk : Walk) (turns : ℕ) (c : Count) (r : Option Ending) → Goes texts stops walk turns (ended_so c r) halt.Ended (ended_so c r)
over_stays texts stops walk turns c None = (refl, refl)
over_stays texts stops walk turns c (Some e) = (standing_at (Ends e) Nothing c, over_here (want_of stops walk turns (standing_at (Ends e) Nothing c)) texts e c, refl)

pub stays_over : (texts : List Text) (stops : List StopAt) (walk : Walk) (turns : ℕ) (course : Course) (x : Ended) (cs : List Caller) (w : World) (c : Count) → course ≡ Over x → Goes texts stops walk turns (standing course cs w c) halt.Ended (standing (Over x) cs w c)
stays_over texts stops walk turns course x cs w c is =
    subst (λ course. Goes texts stops walk turns (standing course cs w c) halt.Ended (standing (Over x) cs w c)) (sym is) (over_stays texts stops walk turns c (end_of x w))

-- nothing is counted yet
abbrev pub nothing_counted : Count
nothing_counted = record { steps = 0; turns = 0 }

-- a run that ended as it began
pub over_first : (first : Result Going Stop) (x : Stop) (y : Ended) → first ≡ Err x → ((w : World) → (e : Ending) × (ending_of x w ≡ Some e) × (end_of y w ≡ Some e)) → (s : State) (cs : List Caller) (w : World) → Steps s first cs w → standing (Over y) cs w nothing_counted ≡ Some (first_standing s)
over_first first x y is f s cs w p =
    let q = subst (λ r. Steps s r cs w) is p in
    ap (ended_so nothing_counted) (f w).2 ∙ sym (ap (λ s. Some (first_standing s)) (q (f w).0 (f w).1))

-- a run from its start on
pub starts_so : (texts : List Text) (key : Key) (stack heap : ℕ) (input : List ℕ) (first : Result Going Stop) (cs : List Caller) (w v : World) (course : Course) → cs ≡ [] → w ≡ first_world (start_of texts key stack heap input) → Steps (first_from texts key cs w) first cs v → ((s : State) (cs : List Caller) (w : World) → Steps s first cs w → standing course cs w nothing_counted ≡ Some (first_standing s)) → standing course cs v nothing_counted ≡ Some (started texts key stack heap input)
starts_so texts key stack heap input first cs w v course none begun p f =
    f (first_from texts key cs w) cs v p
    ∙ ap (λ cs. Some (first_standing (first_from texts key cs w))) none
    ∙ ap (λ w. Some (first_standing (first_from texts key [] w))) begun

pub meant_so : (texts : List Text) (key : Key) (stack heap : ℕ) (input : List ℕ) (r : Option Standing) → r ≡ Some (started texts key stack heap input) → IsRunOf (start_of texts key stack heap input) texts r
meant_so texts key stack heap input r is = subst (λ r. IsRunOf (start_of texts key stack heap input) texts r) (sym is) (begins texts key stack heap input)

-- the world that a run is in
same : (a b : World) → Some a ≡ Some b → a ≡ b
same a b p = cc

pub in_world : (course : Course) (cs : List Caller) (w : World) (c : Count) (v : World) → world_in (standing course cs w c) ≡ Some v → w ≡ v
in_world (On g x) cs w c v p = sym (world_there g cs w) ∙ same _ v p
in_world (Over (ended.Exit status)) cs w c v p = same w v p
in_world (Over (ended.Undefined b)) cs w c v p = same w v p
in_world (Over (ended.StackFull key)) cs w c v p = same w v p
in_world (Over ended.BirthLimit) cs w c v p = same w v p
in_world (Over ended.OutOfSteps) cs w c v p = absurd (cc)
in_world (Over ended.NoRoom) cs w c v p = absurd (cc)

-- whether it is over
not_ended : (g : Going) (cs : List Caller) (w : World) → has_ended (state_of g cs w) ≡ false
not_ended (going.Runs doing ss env a) cs w = refl
not_ended (going.Makes t v vs c) cs w = refl
not_ended (going.Answers a) cs w = refl

pub goes_on : (course : Course) (g : Going) (x : Shown) (cs : List Caller) (w : World) (c : Count) → course ≡ On g x → is_ended (standing course cs w c) ≡ false
goes_on course g x cs w c is = ap (λ course. is_ended (standing course cs w c)) is ∙ not_ended g cs w

pub is_over : (course : Course) (x : Ended) (cs : List Caller) (w : World) (c : Count) → course ≡ Over x → EndedSo (standing course cs w c) x
is_over course x cs w c is = (w, c, ap (λ course. standing course cs w c) is)
