-- Yardstick: to be compared with what it restates (docs/TRUST.md).
-- What the marks in a trail tell: the work of a text without that of its calls, and whose initialiser comes at a line.
use Rattle.std.specs.Prelude.{ℕ, zero, suc, ◌+◌, ◌-◌, ◌==◌, if◌then◌else◌, List, [], ◌∷◌, Option, Some, None}
use Rattle.sc_meaning.specs.World.{World, Frame, Item, GoesOut, ComesBack, Declares, Happens, At, work_of}

-- how many calls are out behind an item
abbrev pub out_after : Item → ℕ → ℕ
out_after GoesOut out = out + 1
out_after ComesBack out = out - 1
out_after _ out = out

-- an item's work where so many calls are out; that a call goes out and comes back is the work of no text
abbrev pub own_of : ℕ → Item → ℕ
own_of zero GoesOut = 0
own_of zero ComesBack = 0
own_of zero i = work_of i
own_of (suc out) i = 0

-- the work of a part of a trail outside of calls, of which so many are out as it begins
abbrev pub own_work : ℕ → List Item → ℕ
own_work out [] = 0
own_work out (i ∷ is) = own_of out i + own_work (out_after i out) is

abbrev pub marked_by : Item → Option ℕ
marked_by (Declares id) = Some id
marked_by _ = None

-- a line that the call with this count reaches is marked or not, and takes the place of an earlier one
abbrev pub at_of : ℕ → Option ℕ → Option ℕ → Item → Option ℕ
at_of enter mark found (Happens (At home line by)) = if by == enter then mark else found
at_of enter mark found _ = found

abbrev pub declares_from : ℕ → Option ℕ → Option ℕ → List Item → Option ℕ
declares_from enter mark found [] = found
declares_from enter mark found (i ∷ is) = declares_from enter (marked_by i) (at_of enter mark found i) is

-- The object whose declarator stands at the last line of an active call, where its initialiser comes there: of its block's
-- names only those up to its own are in scope at this line (3.1.2.1).
abbrev pub declares_in : World → Frame → Option ℕ
declares_in w f = declares_from f.enter None None w.trail
