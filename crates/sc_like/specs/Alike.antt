-- Yardstick: to be compared with what it restates (docs/TRUST.md).
-- Two worlds that differ in nothing but what the forms of modules change: the same objects with the same bytes, the same stack, heap, input,
-- names and active calls, and the same that was shown. What is left out stands in two definitions, `formless` and `shown_of`: all else is equal.
use Rattle.std.specs.Prelude.{◌≡◌, Bool, true, false, List, [], ◌∷◌, ◌++◌, drop, map}
use Rattle.sc_base.specs.declared.memory.Form.{Form}
use Rattle.sc_base.specs.declared.memory.Form.TheVariants as form
use Rattle.sc_meaning.specs.Beside.{nothing_beside}
use Rattle.sc_meaning.specs.Outcomes.{line_in}
use Rattle.sc_meaning.specs.World.{World, Frame, Born, Item, Event, At, Happens, Declares, Push, Pop}

-- the open blocks of a call, where it is interpreted: compiled code does not enter a block without objects
abbrev pub blocks_in : Form → List Born → List Born
blocks_in form.Source blocks = blocks
blocks_in form.Object blocks = []

-- a call without its line and its open blocks, where it is one of compiled code: such calls reach no line that is shown; and without what only its code needs
abbrev pub lineless : Frame → Frame
lineless f = record f { line = line_in f.form f.line; blocks = blocks_in f.form f.blocks; cost = 0; start = 0 }

-- A world without what the forms of modules change: the lines and the open blocks of calls of compiled code, what their frames take of the stack, and where
-- their texts begin; how many events passed, since the lines of such calls
-- are events of the meaning that a run does not show; how many statements have begun, since compiled code has none; all that happened (what of it
-- is shown is told below); and all that stands beside: what the machine was told, and the memory in which it keeps the objects, since compiled
-- code also writes bytes there that are in no object. No definition of the meaning reads what stands beside.
abbrev pub formless : World → World
formless w = record w { frames = map lineless w.frames; count = 0; begun = 0; trail = []; beside = nothing_beside }

-- the forms of the active calls behind an item, innermost first
abbrev pub forms_after : Item → List Form → List Form
forms_after (Push f) fs = f.form ∷ fs
forms_after Pop fs = drop 1 fs
forms_after _ fs = fs

-- whether the innermost call shows the lines that it reaches
abbrev pub shows_lines : List Form → Bool
shows_lines [] = true
shows_lines (form.Source ∷ fs) = true
shows_lines (form.Object ∷ fs) = false

abbrev pub item_if : Bool → Item → List Item
item_if true i = i ∷ []
item_if false i = []

-- An event is shown in every call but for a line of one of compiled code. With a line goes the object that is initialised at it.
abbrev pub is_shown : List Form → Event → Bool
is_shown fs (At home line enter) = shows_lines fs
is_shown fs e = true

abbrev pub item_shown : List Form → Item → List Item
item_shown fs (Happens e) = item_if (is_shown fs e) (Happens e)
item_shown fs (Declares id) = item_if (shows_lines fs) (Declares id)
item_shown fs _ = []

-- what was shown, and the forms of the active calls
pub record Shown : Type 0 where
  pub items : List Item
  pub forms : List Form

abbrev pub with_item : Item → Shown → Shown
with_item i s = record { items = s.items ++ item_shown s.forms i; forms = forms_after i s.forms }

abbrev pub shown_along : List Item → Shown → Shown
shown_along [] s = s
shown_along (i ∷ is) s = shown_along is (with_item i s)

-- what a trail shows from a run's start on
abbrev pub shown_of : List Item → Shown
shown_of is = shown_along is (record { items = []; forms = [] })

pub record Like (w v : World) : Type 0 where
  pub same : formless w ≡ formless v
  pub shown : shown_of w.trail ≡ shown_of v.trail
