-- Yardstick: to be compared with what it restates (docs/TRUST.md).
-- Calls and blocks of compiled code: their objects are born in the slots of the frame's table, and die.
use Rattle.std.specs.Prelude.{ℕ, ◌+◌, ◌-◌, ◌==◌, ◌||◌, nat_lt, Bool, reverse, if◌then◌else◌, List, [], ◌∷◌, ◌++◌, slice_get, Option, Some, None}
use Rattle.sc_base.specs.declared.key.Key.{Key}
use Rattle.sc_isa_image.specs.declared.text.TextAt.{TextAt}
use Rattle.sc_object.specs.declared.object.BlockTable.{BlockTable}
use Rattle.sc_object.specs.declared.object.FrameTable.{FrameTable}
use Rattle.sc_program.specs.declared.frame.Slot.{Slot}
use Rattle.sc_meaning.specs.declared.spot.Spot.TheVariants as spot
use Rattle.sc_meaning.specs.Values.{Value, Pointer}
use Rattle.sc_meaning.specs.World.{World, Frame, Born, Enter, Leave, Happens, Push, Pop, Stack, OpenBlock, CloseBlock, pass}
use Rattle.sc_meaning.specs.Outcomes.{Outcome, Step, Done, Over, StackFull, and_then, went}
use Rattle.sc_meaning.specs.Accesses.{set_at}
use Rattle.sc_meaning.specs.Versions.{Text}
use Rattle.sc_meaning.specs.Changes.{born}
use Rattle.sc_meaning.specs.Statements.{all_dead, auto_kind}
use Rattle.sc_meaning.specs.Calls.{frame_of}

-- an object is born in its slot
abbrev pub slot_born : Slot → World → Outcome ℕ
slot_born s w = born s.size (auto_kind s.constant) (spot.Slot s.offset) w

-- objects of slots are born, in order
abbrev pub slots_born : List Slot → List ℕ → World → Outcome (List ℕ)
slots_born [] ids w = Done ids w
slots_born (s ∷ rest) ids w = and_then (slot_born s w) (λ id v. slots_born rest (ids ++ id ∷ []) v)

-- a parameter is born in its slot, and set
abbrev pub slot_set : Slot → Value → World → Outcome ℕ
slot_set s x w = and_then (slot_born s w) (λ id v. Done id (set_at (Pointer id 0) 0 s.size x v))

abbrev pub slots_set : List Slot → List Value → List ℕ → World → Outcome (List ℕ)
slots_set [] xs ids w = Done ids w
slots_set (s ∷ rest) [] ids w = Done ids w
slots_set (s ∷ rest) (x ∷ xs) ids w = and_then (slot_set s x w) (λ id v. slots_set rest xs (ids ++ id ∷ []) v)

abbrev pub slots_in : Option BlockTable → List Slot
slots_in None = []
slots_in (Some b) = b.slots

abbrev pub slots_of : FrameTable → ℕ → List Slot
slots_of t block = slots_in (slice_get t.blocks block)

abbrev pub opened : ℕ → List ℕ → World → World
opened block ids w = pass (OpenBlock (record { block = block; ids = ids })) w

-- a block is entered
abbrev pub block_entered : ℕ → FrameTable → Step
block_entered block t w = and_then (slots_born (slots_of t block) [] w) (λ ids v. went (opened block ids v))

-- The frame of a call of compiled code takes its room on the stack. It keeps how much that is, and where the text begins that it runs.
abbrev pub frame_at : TextAt → Text → World → Frame
frame_at at t w = record (frame_of at.fun t w) { cost = at.frame.cost; start = at.start }

abbrev pub with_call : TextAt → Text → World → World
with_call at t w = pass (Push (frame_at at t w)) (pass (Stack (w.used + at.frame.cost)) w)

abbrev pub entered : Key → Text → List ℕ → World → World
entered key t ids w = pass (Happens (Enter key t.core.name)) (opened 0 ids w)

-- a call is entered, for which the stack has room
abbrev pub call_entered : TextAt → Text → List Value → Step
call_entered at t xs w =
    and_then (slots_set (slots_of at.frame 0) xs [] (with_call at t w)) (λ ids v. went (entered at.fun t ids v))

-- the objects of an open block die, and it is left, but for the block of the parameters
abbrev pub closed_one : Born → World → World
closed_one o w = if o.block == 0 then all_dead o.ids w else pass CloseBlock (all_dead o.ids w)

-- the leaving of blocks up to one ends with this one
abbrev pub ends_with : ℕ → Born → Bool
ends_with block o = (o.block == 0) || (o.block == block)

-- open blocks are left up to one, of a list that has the innermost first
abbrev pub closed_upto : ℕ → List Born → World → World
closed_upto block [] w = w
closed_upto block (o ∷ os) w = if ends_with block o then closed_one o w else closed_upto block os (closed_one o w)

abbrev pub top_blocks : List Frame → List Born
top_blocks [] = []
top_blocks (f ∷ fs) = f.blocks

-- the blocks of the innermost call are left up to one
abbrev pub block_left : ℕ → World → World
block_left block w = closed_upto block (reverse (top_blocks w.frames)) w

-- what the frame of the innermost call took
abbrev pub top_cost : List Frame → ℕ
top_cost [] = 0
top_cost (f ∷ fs) = f.cost

-- the innermost call is left, whose frame costs so much
abbrev pub left_by : ℕ → World → World
left_by cost w = pass (Happens Leave) (pass (Stack (w.used - cost)) (pass Pop w))

-- a call is entered where the stack has room for it
abbrev pub call_entered_if_room : TextAt → Text → List Value → Step
call_entered_if_room at t xs w =
    if nat_lt w.stack (w.used + at.frame.cost) then Over (StackFull at.fun w) else call_entered at t xs w
