-- Yardstick: to be compared with what it restates (docs/TRUST.md).
-- What a step of a run tells, as an event of the meaning; where a run stands among its events; and where a go halts there.
use Rattle.std.specs.Prelude.{◌≡◌, ℕ, suc, ◌+◌, ◌*◌, ◌≤◌, ◌<◌, ◌/◌, nat_le, Bool, true, false, ◌||◌, List, [], ◌∷◌, ◌++◌, length, take, drop, Some}
use Rattle.sc_meaning.specs.World.{World, Frame, Event, Enter, Leave, At, Out, Item, Happens, events, work}
use Rattle.sc_interp_laws.specs.Inside.{AreHidden}
use Rattle.sc_interp_laws.specs.Events.{IsPrefix}
use Rattle.sc_interp_machine.specs.Runs.{State, Runs, Makes, Answers, Ends}
use Rattle.sc_interp.specs.declared.stepped.Shown.{Shown}
use Rattle.sc_interp.specs.declared.stepped.Shown.TheVariants as shown
use Rattle.sc_words.specs.declared.stop.StopAt.{StopAt}
use Rattle.sc_words.specs.declared.stop.Event.TheVariants as word
use Rattle.sc_words.specs.declared.stop.Walk.{Walk}
use Rattle.sc_words.specs.declared.stop.Walk.TheVariants.{Cont, Step, Next}
use Rattle.sc_words.specs.Stops.{is_matched}
use Rattle.sc_world.specs.declared.halt.Halt.{Halt}
use Rattle.sc_world.specs.declared.halt.Halt.TheVariants as halt
use Rattle.sc_world.specs.Standing.{Standing, world_of}
use Rattle.sc_world_laws.specs.Halts.{first_of, Free}

-- ---- which events halt a go: an At carries the count of the call that it stands in, so no frame is needed

-- a walk to the next line halts in calls that were entered before the go began
abbrev pub walks_to : Walk → ℕ → ℕ → Bool
walks_to Cont since enter = false
walks_to Step since enter = true
walks_to Next since enter = nat_le enter since

-- whether a stop or the walk selects an event, in a go that began as so many calls were entered
abbrev pub selects : List StopAt → Walk → ℕ → Event → Bool
selects stops walk since (Enter key home) = is_matched stops (word.Enter key home)
selects stops walk since Leave = false
selects stops walk since (At home line enter) = is_matched stops (word.At home line) || walks_to walk since enter
selects stops walk since (Out byte) = false

-- ---- what a step tells

-- the event of what was shown in the innermost call
abbrev pub event_of : Shown → List Frame → List Event
event_of shown.Nothing fs = []
event_of (shown.Line line) [] = []
event_of (shown.Line line) (f ∷ fs) = At f.home line f.enter ∷ []
event_of shown.Entered [] = []
event_of shown.Entered (f ∷ fs) = Enter f.key f.home ∷ []

abbrev pub happening : List Event → List Item
happening [] = []
happening (e ∷ es) = Happens e ∷ happening es

-- from one world to another the last thing that happens is this event, if there is one, and before it nothing is told
abbrev pub Tells : List Event → World → World → Type 0
Tells now w v = (is : List Item) × (v.trail ≡ w.trail ++ (is ++ happening now)) × AreHidden (events is)

-- each caller that waits has its frame, and so has a body that runs
abbrev pub IsFramed : State → Type 0
IsFramed (Runs doing ss env a cs w) = length w.frames ≡ suc (length cs)
IsFramed (Makes t v vs c cs w) = length w.frames ≡ suc (length cs)
IsFramed (Answers a cs w) = length w.frames ≡ length cs
IsFramed (Ends e) = Unit {0}

-- ---- where a run stands among its events

-- the event that the last step told, if no go has looked at it yet
abbrev pub now : Standing → List Event
now m = event_of m.shown (world_of m.state).frames

-- The events that the goes so far have looked at are these; the one that the last step told comes behind them, and is the last
-- thing that happened.
pub record IsAt (m : Standing) (old : List Event) : Type 0 where
  pub framed : IsFramed m.state
  pub passed : events (world_of m.state).trail ≡ old ++ now m
  pub last : (front : List Item) × ((world_of m.state).trail ≡ front ++ happening (now m))
  pub counted : m.steps ≤ 8 * m.turns

-- ---- where a go halts

abbrev pub is_entry : Event → Bool
is_entry (Enter key home) = true
is_entry Leave = false
is_entry (At home line enter) = false
is_entry (Out byte) = false

-- Of all events, `old` were passed before and `new` are passed now. The go halted at the first one that is selected behind the
-- old ones, which is the last of the new ones.
abbrev pub IsFirst : (Event → Bool) → Bool → List Event → List Event → List Event → Type 0
IsFirst sel entry old all new =
    (p : ℕ) × (first_of sel (drop (length old) all) ≡ Some p) × (new ≡ take (length old + p) all)
    × ((front : List Event) × (e : Event) × (new ≡ front ++ e ∷ []) × (is_entry e ≡ entry))

-- Or it passed none that is selected, to the end or to where its turns were taken.
abbrev pub HaltsAt : (Event → Bool) → Halt → List Event → List Event → List Event → Type 0
HaltsAt sel halt.Entered old all new = IsFirst sel true old all new
HaltsAt sel halt.AtLine old all new = IsFirst sel false old all new
HaltsAt sel halt.Ended old all new = (new ≡ all) × Free sel (drop (length old) all)
HaltsAt sel (halt.Paused t) old all new = IsPrefix new all × Free sel (drop (length old) new)

-- the last thing that happened is this event of the innermost call
abbrev pub EndsWith : (Frame → Event) → World → Type 0
EndsWith event w = (front : List Item) × (f : Frame) × (callers : List Frame) × (w.frames ≡ f ∷ callers) × (w.trail ≡ front ++ Happens (event f) ∷ [])

-- Where it halted at an event, this is the last thing that happened: the innermost call was entered, or came to its present line.
abbrev pub IsLastAt : Halt → World → Type 0
IsLastAt halt.Entered w = EndsWith (λ f. Enter f.key f.home) w
IsLastAt halt.AtLine w = EndsWith (λ f. At f.home f.line f.enter) w
IsLastAt halt.Ended w = Unit {0}
IsLastAt (halt.Paused t) w = Unit {0}

-- ---- turns and work

-- Each event before which a go's work is below a 64th of its turns was passed: of all that happens, these items had happened as
-- the go began, and these as it paused.
abbrev pub PassedEach : ℕ → List Item → List Item → List Item → Type 0
PassedEach t old new all =
    (before later : List Item) → all ≡ before ++ later → work before < work old + t / 64 → length before < length new
