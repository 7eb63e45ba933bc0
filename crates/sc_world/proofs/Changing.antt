-- Each way out of a change.
use Rattle.std.proofs.Common.{◌≡◌, List, refl, ap, sym, ◌∙◌, Option, Some, None}
use Rattle.sc_meaning.specs.World.{World}
use Rattle.sc_meaning.specs.Outcomes.{Ending, Done}
use Rattle.sc_meaning.specs.Versions.{Text}
use Rattle.sc_meaning.specs.Changes.{changed}
use Rattle.sc_interp_machine.specs.Runs.{Caller}
use Rattle.sc_interp_access.specs.declared.stop.Stop.{Stop}
use Rattle.sc_interp_access.specs.declared.ended.Ended.{Ended}
use Rattle.sc_interp_access.specs.Gives.{ending_of, Stops}
use Rattle.sc_interp.specs.Ends.{end_of}
use Rattle.sc_interp.specs.declared.going.Going.{Going}
use Rattle.sc_interp.specs.declared.going.Going.TheVariants as going
use Rattle.sc_interp.specs.declared.stepped.Shown.{Shown}
use Rattle.sc_world.specs.declared.count.Count.{Count}
use Rattle.sc_world.specs.declared.course.Course.TheVariants.{On, Over}
use Rattle.sc_world.specs.Changing.{changed_to, changed_run}
use Rattle.sc_world.specs.Standing.{standing, state_of, ended_so}
use Rattle.sc_world.specs.Turns.{standing_at}

over_stays : (old new : List Text) (c : Count) (r : Option Ending) → ended_so c r ≡ changed_run old new (ended_so c r)
over_stays old new c None = refl
over_stays old new c (Some e) = refl

-- a run that is over
pub stays_over : (old new : List Text) (ended : Ended) (cs : List Caller) (w : World) (c : Count) → standing (Over ended) cs w c ≡ changed_run old new (standing (Over ended) cs w c)
stays_over old new ended cs w c = over_stays old new c (end_of ended w)

changes_there : (old new : List Text) (g : Going) (x : Shown) (cs : List Caller) (w : World) (c : Count) → changed_run old new (standing (On g x) cs w c) ≡ Some (changed_to (standing_at (state_of g cs w) x c) (changed old new w))
changes_there old new (going.Runs doing ss env a) x cs w c = refl
changes_there old new (going.Makes t v vs k) x cs w c = refl
changes_there old new (going.Answers a) x cs w c = refl

in_another : (g : Going) (x : Shown) (cs : List Caller) (w v : World) (c : Count) → standing (On g x) cs v c ≡ Some (changed_to (standing_at (state_of g cs w) x c) (Done tt v))
in_another (going.Runs doing ss env a) x cs w v c = refl
in_another (going.Makes t y ys k) x cs w v c = refl
in_another (going.Answers a) x cs w v c = refl

-- one that goes on
pub goes_on : (old new : List Text) (g : Going) (x : Shown) (cs : List Caller) (w v : World) (c : Count) → changed old new w ≡ Done tt v → standing (On g x) cs v c ≡ changed_run old new (standing (On g x) cs w c)
goes_on old new g x cs w v c p =
    in_another g x cs w v c
    ∙ sym (ap (λ r. Some (changed_to (standing_at (state_of g cs w) x c) r)) p)
    ∙ sym (changes_there old new g x cs w c)

-- one that the change ends
pub ends : (old new : List Text) (g : Going) (x : Shown) (cs : List Caller) (w v : World) (c : Count) (stop : Stop) (ended : Ended) → Stops (changed old new w) stop v → (e : Ending) × (ending_of stop v ≡ Some e) × (end_of ended v ≡ Some e) → standing (Over ended) cs v c ≡ changed_run old new (standing (On g x) cs w c)
ends old new g x cs w v c stop ended stops q =
    ap (ended_so c) q.2
    ∙ sym (ap (λ r. Some (changed_to (standing_at (state_of g cs w) x c) r)) (stops q.0 q.1))
    ∙ sym (changes_there old new g x cs w c)
