-- Yardstick: to be compared with what it restates (docs/TRUST.md).
-- What a program does from its start on (ANSI 2.1.2.2, 2.1.2.3).
use Rattle.std.specs.Prelude.{ℕ, List, [], ◌∷◌, replicate, None}
use Rattle.sc_base.specs.declared.key.Key.{Key}
use Rattle.sc_meaning.specs.World.{World, Event, GoesOut, ComesBack, pass, events}
use Rattle.sc_meaning.specs.Beside.{Beside}
use Rattle.sc_meaning.specs.Outcomes.{Outcome, Done, Over, Ending, Exit, and_then, world_at}
use Rattle.sc_meaning.specs.Violations.{bits}
use Rattle.sc_meaning.specs.Versions.{History}
use Rattle.sc_meaning.specs.Changes.{settled}
use Rattle.sc_meaning.specs.Expressions.{Answer, Plain, Place, Part, Nothing}
use Rattle.sc_meaning.specs.Calls.{call}

-- How a run starts: the function that it calls, the bytes of stack and heap, the input, the versions that the run has, and what its
-- machine was told.
pub record Start : Type 0 where
  pub entry : Key
  pub stack : ℕ
  pub heap : ℕ
  pub input : List ℕ
  pub history : History
  pub beside : Beside

-- nothing is there yet; the heap has 29 classes of blocks
abbrev pub first_world : Start → World
first_world s = record {
  stack = s.stack;
  heap = s.heap;
  objects = [];
  used = 0;
  free = replicate 29 0;
  made = 0;
  input = s.input;
  seed = 1;
  frames = [];
  names = [];
  enters = 0;
  count = 0;
  begun = 0;
  trail = [];
  beside = s.beside;
}

-- `main`, the entry of a program's run (ANSI 2.1.2.2)
abbrev pub main_key : Key
main_key = record { «module» = None; name = 109 ∷ 97 ∷ 105 ∷ 110 ∷ [] }

-- the status with which the call of the entry ends the run: 0 where it gives no value
abbrev pub status_of : Answer → ℕ
status_of (Plain v) = bits v
status_of (Place v) = 0
status_of (Part v n) = 0
status_of Nothing = 0

-- the call of the entry goes out, and comes back
abbrev pub entry_called : ℕ → History → Key → World → Outcome Answer
entry_called n h key w = and_then (call n h key [] (pass GoesOut w)) (λ a w. Done a (pass ComesBack w))

-- The objects of static storage duration and the literals are born, as the first version comes, and the entry is called.
abbrev pub started : ℕ → Start → Outcome Answer
started n s = and_then (settled s.history (first_world s)) (λ _ w. entry_called n s.history s.entry w)

abbrev pub ending_of : Outcome Answer → Ending
ending_of (Done a w) = Exit (status_of a) w
ending_of (Over e) = e

-- the end of a run, at most n deep
abbrev pub ending : ℕ → Start → Ending
ending n s = ending_of (started n s)

-- the events of a run, at most n deep
abbrev pub events_upto : ℕ → Start → List Event
events_upto n s = events (world_at (ending n s)).trail
