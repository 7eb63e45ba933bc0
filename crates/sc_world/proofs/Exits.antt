-- What each way out of a turn, and of all turns, gives.
use Rattle.std.proofs.Common.{◌≡◌, ◌+◌, ◌-◌, ◌<◌, List, refl, sym, subst, ◌∙◌, Option, Some, None, Result, Ok, Err}
use Rattle.sc_meaning.specs.World.{World}
use Rattle.sc_meaning.specs.Outcomes.{Ending}
use Rattle.sc_meaning.specs.Versions.{Text, History}
use Rattle.sc_interp_machine.specs.Runs.{Caller, State, Ends}
use Rattle.sc_interp_access.specs.declared.stop.Stop.{Stop}
use Rattle.sc_interp_access.specs.Gives.{ending_of}
use Rattle.sc_interp.specs.declared.going.Going.{Going}
use Rattle.sc_interp.specs.declared.stepped.Shown.{Shown}
use Rattle.sc_interp.specs.declared.stepped.Shown.TheVariants.{Nothing}
use Rattle.sc_interp.specs.Shows.{shown, StepsShowing}
use Rattle.sc_interp.specs.Steady.{alone, advance}
use Rattle.sc_interp.specs.Steps.{Is}
use Rattle.sc_interp.proofs.Unchanged.{quiet}
use Rattle.sc_lib.specs.Quiet.{IsQuiet}
use Rattle.sc_world.specs.declared.count.Count.{Count}
use Rattle.sc_world.specs.declared.halt.Halt.{Halt}
use Rattle.sc_world.specs.declared.halt.Halt.TheVariants.{Ended}
use Rattle.sc_world.specs.declared.turn.Turned.TheVariants as turned
use Rattle.sc_world.specs.Standing.{Standing, state_of}
use Rattle.sc_world.specs.Wants.{Want, rests}
use Rattle.sc_world.specs.Goes.{rests_here, stepped, moved_on}
use Rattle.sc_world.specs.Turns.{Onward, Comes, standing_at}
use Rattle.sc_world.proofs.Courses.{is_state, steps_on, steps_last, over_here, goes_on, step_moves, fewer_left, Onto}

-- one step
abbrev Steps : List Text → Going → List Caller → World → Result Shown Stop → Going → List Caller → World → Type 0
Steps texts g cs w r g2 ds v = (h : History) → IsQuiet h → (s : State) → Is s g cs w → StepsShowing (advance h texts s) (shown h texts s) r g2 ds v

steps_alone : (texts : List Text) (g : Going) (cs : List Caller) (w : World) (r : Result Shown Stop) (g2 : Going) (ds : List Caller) (v : World) → Steps texts g cs w r g2 ds v → StepsShowing (advance (alone texts) texts (state_of g cs w)) (shown (alone texts) texts (state_of g cs w)) r g2 ds v
steps_alone texts g cs w r g2 ds v f = f (alone texts) (quiet texts) (state_of g cs w) (is_state g cs w)

pub onward_on : (texts : List Text) (g : Going) (cs : List Caller) (w : World) (given : Result Shown Stop) (now : Shown) (g2 : Going) (ds : List Caller) (v : World) (x : Shown) (c n : Count) (r : Result Shown Stop) → Steps texts g cs w given g2 ds v → given ≡ Ok now → Onward (moved_on (standing_at (state_of g cs w) x c) (state_of g2 ds v) now) r g2 ds v n → Onward (stepped texts (standing_at (state_of g cs w) x c)) r g2 ds v n
onward_on texts g cs w given now g2 ds v x c n r f is q =
    steps_on texts (state_of g cs w) x now c n r g2 ds v
    (subst (λ r. StepsShowing (advance (alone texts) texts (state_of g cs w)) (shown (alone texts) texts (state_of g cs w)) r g2 ds v) is (steps_alone texts g cs w given g2 ds v f)) q

pub onward_last : (texts : List Text) (g : Going) (cs : List Caller) (w : World) (given : Result Shown Stop) (stop last : Stop) (g2 : Going) (ds : List Caller) (v : World) (x : Shown) (c n : Count) → Steps texts g cs w given g2 ds v → given ≡ Err stop → ((e : Ending) → ending_of last v ≡ Some e → ending_of stop v ≡ Some e) → ((e : Ending) → ending_of last v ≡ Some e → moved_on (standing_at (state_of g cs w) x c) (Ends e) Nothing ≡ standing_at (Ends e) Nothing n) → Onward (stepped texts (standing_at (state_of g cs w) x c)) (Err last) g2 ds v n
onward_last texts g cs w given stop last g2 ds v x c n f is same counted =
    steps_last texts (state_of g cs w) x c n stop last g2 ds v
    (subst (λ r. StepsShowing (advance (alone texts) texts (state_of g cs w)) (shown (alone texts) texts (state_of g cs w)) r g2 ds v) is (steps_alone texts g cs w given g2 ds v f)) same counted

-- all turns, where the go ends here
pub comes_here : (want : Want) (texts : List Text) (first : Standing) (g : Going) (x : Shown) (cs : List Caller) (w : World) (c : Count) (r : Option Halt) (halt : Halt) → r ≡ rests want (standing_at (state_of g cs w) x c) → r ≡ Some halt → Onto want texts first (standing_at (state_of g cs w) x c) → Comes texts want first (turned.Rests halt) g cs w c
comes_here want texts first g x cs w c r halt p is onto =
    onto halt (standing_at (state_of g cs w) Nothing c) (rests_here (standing_at (state_of g cs w) x c) (sym p ∙ is) refl)

-- where one more step is done
pub comes_on : (want : Want) (texts : List Text) (first : Standing) (m : Standing) (given : Result Shown Stop) (now : Shown) (g : Going) (cs : List Caller) (w : World) (c : Count) → rests want m ≡ None → Onward (stepped texts m) given g cs w c → given ≡ Ok now → Onto want texts first m → Onto want texts first (standing_at (state_of g cs w) now c)
comes_on want texts first m given now g cs w c p q is onto =
    goes_on want texts first m (standing_at (state_of g cs w) now c) p (subst (λ r. Onward (stepped texts m) r g cs w c) is q) onto

-- and where it ends the run
pub comes_last : (want : Want) (texts : List Text) (first : Standing) (m : Standing) (given : Result Shown Stop) (stop : Stop) (g : Going) (cs : List Caller) (w : World) (c : Count) → rests want m ≡ None → Onward (stepped texts m) given g cs w c → given ≡ Err stop → Onto want texts first m → Comes texts want first (turned.Over stop) g cs w c
comes_last want texts first m given stop g cs w c p q is onto = λ e over.
    onto Ended (standing_at (Ends e) Nothing c)
    (step_moves want texts Ended (standing_at (Ends e) Nothing c) m (standing_at (Ends e) Nothing c) p (subst (λ r. Onward (stepped texts m) r g cs w c) is q e over) (over_here want texts e c))

-- with fewer turns left
pub comes_nearer : (want : Want) (texts : List Text) (m : Standing) (given : Result Shown Stop) (now : Shown) (g : Going) (cs : List Caller) (w : World) (c : Count) → rests want m ≡ None → Onward (stepped texts m) given g cs w c → given ≡ Ok now → want.before + want.turns - c.turns < want.before + want.turns - m.turns
comes_nearer want texts m given now g cs w c p q is =
    fewer_left want texts m (standing_at (state_of g cs w) now c) p (subst (λ r. Onward (stepped texts m) r g cs w c) is q)
