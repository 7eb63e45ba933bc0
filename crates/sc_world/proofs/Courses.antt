-- The program's turns are the machine's.
use Rattle.std.proofs.Common.{◌≡◌, ℕ, zero, suc, ◌+◌, Bool, true, false, List, [], ◌∷◌, refl, ap, sym, subst, ◌∙◌, arith, Option, Some, None, Result, Ok, Err}
use Rattle.std.proofs.lemmas.Bool.Decides.{nat_tests}
use Rattle.std.specs.Prelude.{◌↔◌, IsTrue, ◌-◌, ◌<◌, ◌≤◌, nat_le}
use Rattle.sc_meaning.specs.World.{World}
use Rattle.sc_meaning.specs.Outcomes.{Ending}
use Rattle.sc_meaning.specs.Versions.{Text}
use Rattle.sc_meaning.specs.Expressions.{Answer}
use Rattle.sc_interp_machine.specs.Bodies as body
use Rattle.sc_interp_machine.specs.Runs.{Active, Caller, State, Runs, Makes, Answers, Ends}
use Rattle.sc_interp_access.specs.declared.stop.Stop.{Stop}
use Rattle.sc_interp_access.specs.Gives.{ending_of}
use Rattle.sc_interp.specs.declared.going.Going.{Going}
use Rattle.sc_interp.specs.declared.going.Going.TheVariants as going
use Rattle.sc_interp.specs.declared.stepped.Shown.{Shown}
use Rattle.sc_interp.specs.declared.stepped.Shown.TheVariants.{Nothing}
use Rattle.sc_interp.specs.Shows.{shown, line_shown, entry_shown, StepsShowing}
use Rattle.sc_interp.specs.Steady.{alone, advance, body_next}
use Rattle.sc_interp.specs.Steps.{Is, is_over}
use Rattle.sc_world.specs.declared.count.Count.{Count}
use Rattle.sc_world.specs.declared.halt.Halt.{Halt}
use Rattle.sc_world.specs.declared.halt.Halt.TheVariants.{Ended, Paused}
use Rattle.sc_world.specs.Standing.{Standing, state_of, world_of}
use Rattle.sc_world.specs.Wants.{Want, wanted, else_over, halts, halt_if, halt_or, else_paused, rests, taken}
use Rattle.sc_world.specs.Goes.{GoneBy, rests_here, moves_on, seen, moved_on, stepped}
use Rattle.sc_world.specs.Turns.{Onward, standing_at}
use Rattle.sc_world.proofs.Moves.{one_step}

not_empty : (c : Caller) (cs : List Caller) → c ∷ cs ≡ [] → ⊥
not_empty c cs p = cc

-- an answer is the run's where no caller waits
pub over_if : (a : Answer) (cs : List Caller) (w : World) (b : Bool) → (IsTrue b ↔ (cs ≡ [])) → b ≡ is_over (Answers a cs w)
over_if a [] w b e = e.1 refl
over_if a (c ∷ cs) w true e = absurd (not_empty c cs (e.0 refl))
over_if a (c ∷ cs) w false e = refl

pub over_at : (g : Going) (a : Answer) (cs : List Caller) (w : World) (b : Bool) → g ≡ going.Answers a → (IsTrue b ↔ (cs ≡ [])) → b ≡ is_over (state_of g cs w)
over_at g a cs w b is e = over_if a cs w b e ∙ sym (ap (λ g. is_over (state_of g cs w)) is)

-- what a run does next, and its state
pub world_there : (g : Going) (cs : List Caller) (w : World) → world_of (state_of g cs w) ≡ w
world_there (going.Runs doing ss env a) cs w = refl
world_there (going.Makes t v vs c) cs w = refl
world_there (going.Answers a) cs w = refl

pub is_state : (g : Going) (cs : List Caller) (w : World) → Is (state_of g cs w) g cs w
is_state (going.Runs doing ss env a) cs w = refl
is_state (going.Makes t v vs c) cs w = refl
is_state (going.Answers a) cs w = refl

pub state_is : (s : State) (g : Going) (cs : List Caller) (w : World) → Is s g cs w → s ≡ state_of g cs w
state_is s (going.Runs doing ss env a) cs w p = p
state_is s (going.Makes t v vs c) cs w p = p
state_is s (going.Answers a) cs w p = p

-- what is looked at is the world of the state
halts_there : (want : Want) (g : Going) (x : Shown) (cs : List Caller) (w : World) (c : Count) (event r : Option Halt) (over : Bool) → event ≡ wanted want x w.frames → over ≡ is_over (state_of g cs w) → r ≡ else_over event over → r ≡ halts want (standing_at (state_of g cs w) x c)
halts_there want g x cs w c event r over p q is =
    is ∙ ap (λ h. else_over h over) p ∙ ap (else_over (wanted want x w.frames)) q ∙ ap (λ v. else_over (wanted want x v.frames) (is_over (state_of g cs w))) (sym (world_there g cs w))

pub rests_there : (want : Want) (g : Going) (x : Shown) (cs : List Caller) (w : World) (c : Count) (event halt r : Option Halt) (over : Bool) (took : ℕ) → event ≡ wanted want x w.frames → over ≡ is_over (state_of g cs w) → halt ≡ else_over event over → took ≡ c.turns - want.before → r ≡ else_paused halt want.turns took → r ≡ rests want (standing_at (state_of g cs w) x c)
rests_there want g x cs w c event halt r over took p q is t paused =
    paused ∙ ap (λ h. else_paused h want.turns took) (halts_there want g x cs w c event halt over p q is) ∙ ap (else_paused (halts want (standing_at (state_of g cs w) x c)) want.turns) t

-- a step that ends the run shows nothing
body_ended : (b : body.Advanced) (a : Active) (cs : List Caller) (e : Ending) → body_next b a cs ≡ Ends e → line_shown b ≡ Nothing
body_ended (body.GoesOn doing ss env w) a cs e p = refl
body_ended (body.Lines l doing ss env w) a cs e p = absurd (cc)
body_ended (body.CallsOut t v vs is u ss env w) a cs e p = refl
body_ended (body.Leaves way w) a cs e p = refl
body_ended (body.Breaks e2) a cs e p = refl

end_shows_nothing : (texts : List Text) (s : State) (e : Ending) → advance (alone texts) texts s ≡ Ends e → shown (alone texts) texts s ≡ Nothing
end_shows_nothing texts (Runs doing ss env a cs w) e p = body_ended (body.advance doing ss env w) a cs e p
end_shows_nothing texts (Makes t v vs c cs w) e p = ap entry_shown p
end_shows_nothing texts (Answers a cs w) e p = refl
end_shows_nothing texts (Ends e2) e p = refl

-- one step of the program is one of the machine
pub steps_on : (texts : List Text) (s : State) (x now : Shown) (c n : Count) (r : Result Shown Stop) (g : Going) (cs : List Caller) (w : World) → StepsShowing (advance (alone texts) texts s) (shown (alone texts) texts s) (Ok now) g cs w → Onward (moved_on (standing_at s x c) (state_of g cs w) now) r g cs w n → Onward (stepped texts (standing_at s x c)) r g cs w n
steps_on texts s x now c n r g cs w p q =
    subst (λ y. Onward (moved_on (standing_at s x c) (advance (alone texts) texts s) y) r g cs w n) p.1
    (subst (λ t. Onward (moved_on (standing_at s x c) t now) r g cs w n) (sym (state_is (advance (alone texts) texts s) g cs w p.0)) q)

pub steps_last : (texts : List Text) (s : State) (x : Shown) (c n : Count) (given last : Stop) (g : Going) (cs : List Caller) (w : World) → StepsShowing (advance (alone texts) texts s) (shown (alone texts) texts s) (Err given) g cs w → ((e : Ending) → ending_of last w ≡ Some e → ending_of given w ≡ Some e) → ((e : Ending) → ending_of last w ≡ Some e → moved_on (standing_at s x c) (Ends e) Nothing ≡ standing_at (Ends e) Nothing n) → Onward (stepped texts (standing_at s x c)) (Err last) g cs w n
steps_last texts s x c n given last g cs w p same counted = λ e q.
    let over = p e (same e q) in
    ap (λ t. moved_on (standing_at s x c) t (shown (alone texts) texts s)) over
    ∙ ap (moved_on (standing_at s x c) (Ends e)) (end_shows_nothing texts s e over)
    ∙ counted e q

-- what ends a go where it stands
if_none : (b : Bool) (a : Halt) → halt_if b a ≡ None → b ≡ false
if_none true a p = absurd (cc)
if_none false a p = refl

-- a run that is over rests
pub over_here : (want : Want) (texts : List Text) (e : Ending) (c : Count) → GoneBy texts want Ended (standing_at (Ends e) Nothing c) (standing_at (Ends e) Nothing c)
over_here want texts e c = rests_here (standing_at (Ends e) Nothing c) refl refl

-- turns are left where nothing ends the go
too_few : (turns took : ℕ) → nat_le turns took ≡ false → took < turns
too_few turns took p = grind (arith, nat_tests)

none_there : (h : Option Halt) (turns took : ℕ) → else_paused h turns took ≡ None → took < turns
none_there (Some h) turns took p = absurd (cc)
none_there None turns took p = too_few turns took (if_none (nat_le turns took) (Paused took) p)

pub turns_left : (want : Want) (m : Standing) → rests want m ≡ None → m.turns < want.before + want.turns
turns_left want m p = let q = none_there (halts want m) want.turns (taken want m) p in omega arith

pub costs_a_turn : (texts : List Text) (m next : Standing) → stepped texts m ≡ next → m.turns < next.turns
costs_a_turn texts m next is = let q = ap (λ m. m.turns) is in omega arith

-- What a go from here comes to, one from the beginning comes to.
abbrev pub Onto : Want → List Text → Standing → Standing → Type 0
Onto want texts first m = (halt : Halt) (last : Standing) → GoneBy texts want halt last m → GoneBy texts want halt last first

pub at_first : (want : Want) (texts : List Text) (m : Standing) → Onto want texts m m
at_first want texts m = λ halt last go. go

-- a step is a move
pub step_moves : (want : Want) (texts : List Text) (halt : Halt) (last m next : Standing) → rests want m ≡ None → stepped texts m ≡ next → GoneBy texts want halt last next → GoneBy texts want halt last m
step_moves want texts halt last m next p is go = moves_on m 0 (omega arith) p tt (subst (GoneBy texts want halt last) (sym (one_step texts m ∙ is)) go)

pub goes_on : (want : Want) (texts : List Text) (first m next : Standing) → rests want m ≡ None → stepped texts m ≡ next → Onto want texts first m → Onto want texts first next
goes_on want texts first m next p is onto = λ halt last go. onto halt last (step_moves want texts halt last m next p is go)

-- there is a go from each place
is_le : (a b : ℕ) → a ≤ b → nat_le a b ≡ true
is_le a b p = grind (arith, nat_tests)

at_end : (h : Option Halt) (turns took : ℕ) → turns ≤ took → else_paused h turns took ≡ Some (halt_or h (Paused took))
at_end (Some h) turns took p = refl
at_end None turns took p = ap (λ b. halt_if b (Paused took)) (is_le turns took p)

abbrev Somewhere : Want → List Text → Standing → Type 0
Somewhere want texts m = (halt : Halt) × (last : Standing) × GoneBy texts want halt last m

picked : (want : Want) (texts : List Text) (m : Standing) (r : Option Halt) → rests want m ≡ r → Somewhere want texts (stepped texts m) → Somewhere want texts m
picked want texts m (Some halt) p later = (halt, seen m, rests_here m p refl)
picked want texts m None p later = (later.0, later.1, step_moves want texts later.0 later.1 m (stepped texts m) p refl later.2)

goes_for : (k : ℕ) (want : Want) (texts : List Text) (m : Standing) → want.before + want.turns ≤ m.turns + k → Somewhere want texts m
goes_for zero want texts m p = (halt_or (halts want m) (Paused (taken want m)), seen m, rests_here m (at_end (halts want m) want.turns (taken want m) (omega (arith, p))) refl)
goes_for (suc k) want texts m p = picked want texts m (rests want m) refl (goes_for k want texts (stepped texts m) (let more = costs_a_turn texts m (stepped texts m) refl in omega (arith, p, more)))

pub goes_somewhere : (want : Want) (texts : List Text) (m : Standing) → Somewhere want texts m
goes_somewhere want texts m = goes_for (want.before + want.turns) want texts m (omega arith)

-- fewer turns are left behind a step
pub fewer_left : (want : Want) (texts : List Text) (m next : Standing) → rests want m ≡ None → stepped texts m ≡ next → want.before + want.turns - next.turns < want.before + want.turns - m.turns
fewer_left want texts m next p is = let left = turns_left want m p in let more = costs_a_turn texts m next is in omega arith
