-- Yardstick: to be compared with what it restates (docs/TRUST.md).
-- How the events that a run counts stand to the meaning's: a run's own world has no event that is not shown.
use Rattle.std.specs.Prelude.{◌≡◌, Bool, true, List}
use Rattle.sc_base.specs.declared.memory.Form.{Form}
use Rattle.sc_meaning.specs.World.{World, Item, Event, Happens, events}
use Rattle.sc_like.specs.Alike.{is_shown, shown_of}

-- the events that a world shows
abbrev pub events_shown : World → List Event
events_shown w = events (shown_of w.trail).items

-- all of its events are
abbrev pub ShowsAll : World → Type 0
ShowsAll w = events w.trail ≡ events_shown w

-- what happens is no line of compiled code
abbrev pub has_no_line : List Form → Item → Bool
has_no_line fs (Happens e) = is_shown fs e
has_no_line fs i = true
