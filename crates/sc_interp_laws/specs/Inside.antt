-- Inside: plumbing, a representation, an invariant or a promise beside the claim (docs/TRUST.md).
-- What happens inside of the innermost call without a watcher seeing it.
use Rattle.std.specs.Prelude.{◌≡◌, ℕ, Bool, true, false, List, [], ◌∷◌, ◌++◌}
use Rattle.sc_base.specs.declared.key.Key.{Key}
use Rattle.sc_meaning.specs.World.{World, Item, Event, Frame, Happens, Enter, Leave, At, Out, Push, Pop}
use Rattle.sc_interp_laws.specs.Events.{told}
use Rattle.sc_interp_laws.specs.Lawful.{Along}

-- neither is a function entered or left, nor is a line reached
abbrev pub is_hidden : Event → Bool
is_hidden (Enter key home) = false
is_hidden Leave = true
is_hidden (At home line enter) = false
is_hidden (Out byte) = true

abbrev pub inside : Item → Bool
inside (Happens e) = is_hidden e
inside (Push f) = false
inside Pop = false
inside _ = true

abbrev pub IsInside : World → Item → Type 0
IsInside w i = inside i ≡ true

abbrev pub Inside : World → World → Type 0
Inside w v = Along IsInside w v

-- an active call, as an event names it: its function, the module, and how many calls were entered up to it
pub record ActiveCall : Type 0 where
  pub key : Key
  pub home : List ℕ
  pub enter : ℕ

abbrev pub call_in : Frame → ActiveCall
call_in f = record { key = f.key; home = f.home; enter = f.enter }

abbrev pub calls : List Frame → List ActiveCall
calls [] = []
calls (f ∷ fs) = call_in f ∷ calls fs

-- the events that a watcher sees, of some; none of these is one
abbrev pub all_told : List Event → List Event
all_told [] = []
all_told (e ∷ es) = told e ++ all_told es

abbrev pub AreHidden : List Event → Type 0
AreHidden es = all_told es ≡ []
