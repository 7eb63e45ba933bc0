-- What happened is kept: each move adds to it.
use Rattle.std.proofs.Common.{◌≡◌, ◌⊎◌, inl, inr, ◌+◌, ◌-◌, ◌==◌, ℕ, zero, suc, Bool, true, false, if◌then◌else◌, List, [], ◌∷◌, ◌++◌, reverse, Result, Ok, Err, Option, Some, None, refl, ap, sym, subst, ◌∙◌}
use Rattle.std.specs.Prelude.{nat_lt}
use Rattle.sc_base.specs.declared.key.Key.{Key}
use Rattle.sc_emu.specs.Registers.{Registers, register}
use Rattle.sc_emu.specs.declared.outcome.Crash.{Crash}
use Rattle.sc_emu.specs.declared.beginning.Need.{Need}
use Rattle.sc_emu.specs.declared.beginning.Need.TheVariants as need
use Rattle.sc_interp.specs.Steady as steady
use Rattle.sc_interp.specs.Steady.{advance, alone, called_next, callee_next}
use Rattle.sc_interp.specs.declared.going.Going.{Going}
use Rattle.sc_interp.specs.declared.going.Going.TheVariants as going
use Rattle.sc_interp.proofs.Unchanged.{callee_step, present, quiet as is_quiet, same_step}
use Rattle.sc_interp_access.specs.Gives.{Stops, ending_of}
use Rattle.sc_interp_access.specs.declared.ended.Ended.TheVariants as ended
use Rattle.sc_interp_access.specs.declared.stop.Stop.{Stop}
use Rattle.sc_interp_access.specs.declared.stop.Stop.TheVariants as stop
use Rattle.sc_interp_laws.proofs.ExprMeans.{then_leads}
use Rattle.sc_interp_laws.proofs.RunSteps.{advance_leads, callee_go}
use Rattle.sc_interp_laws.specs.Worlds as course
use Rattle.sc_interp_machine.specs.Runs as machine
use Rattle.sc_interp_machine.specs.Runs.{Caller, State, Runs, Makes, Answers, Ends}
use Rattle.sc_isa_image.specs.Lookups.{text_at}
use Rattle.sc_isa_image.specs.declared.image.Image.{Image}
use Rattle.sc_isa_image.specs.declared.text.TextAt.{TextAt}
use Rattle.sc_emu.specs.Operations.{difference}
use Rattle.sc_meaning.specs.Accesses.{set_at}
use Rattle.sc_meaning.specs.Changes.{born}
use Rattle.sc_meaning.specs.Laws.{Leads as Happen}
use Rattle.sc_meaning.specs.Outcomes.{Outcome, Done, Over, Ending, StackFull, and_then, went, world_after, world_at}
use Rattle.sc_meaning.specs.Statements.{all_dead, auto_kind}
use Rattle.sc_meaning.specs.Values.{Value, Number, FunctionAt, Pointer}
use Rattle.sc_meaning.specs.Versions.{Text, Callee, Missing, InText, InLibrary, callee_of}
use Rattle.sc_meaning.specs.World.{World, Born, CloseBlock, ComesBack, Copy, Enter, Happens, Leave, OpenBlock, Pop, Push, Put, Stack, pass}
use Rattle.sc_meaning.specs.declared.spot.Spot.TheVariants as spot
use Rattle.sc_meaning.proofs.Growing.{Going as Growth}
use Rattle.sc_meaning.proofs.Leaves.{born_goes, set_leads}
use Rattle.sc_meaning.proofs.StatementsGo.{deaths_lead}
use Rattle.sc_meaning.proofs.Steps.{here, on, one_more, and_more}
use Rattle.sc_object.specs.declared.object.FrameTable.{FrameTable}
use Rattle.sc_program.specs.declared.frame.Slot.{Slot}
use Rattle.sc_services.specs.Blocks.{block_entered, block_left, call_entered, call_entered_if_room, closed_one, closed_upto, ends_with, entered, frame_at, left_by, opened, slot_born, slot_set, slots_born, slots_of, slots_set, top_blocks, top_cost, with_call}
use Rattle.sc_services.specs.Copying.{Copies, CopiesBytes, InObjects, ByBytes}
use Rattle.sc_services.specs.Entering.{Enters, EntersAt, EntersBlock, EntersCall, EntersFirst, EntersIn, EntersText, is_first, may_enter}
use Rattle.sc_services.specs.Frames.{is_on_stack}
use Rattle.sc_services.specs.Leaving.{Leaves}
use Rattle.sc_services.specs.Writing.{AreWritten, BesideAll, CellBeside, CellInObject, InObject, Writes, Written, written}
use Rattle.sc_services.proofs.Passing.{all_write}
use Rattle.sc_services.proofs.Writing.{puts_write, stores_write}
use Rattle.sc_services.specs.declared.copying.Copied.TheVariants as copied
use Rattle.sc_services.specs.declared.entering.Entered.{Entered}
use Rattle.sc_services.specs.declared.entering.Entered.TheVariants as entering
use Rattle.sc_services.specs.declared.leaving.Left.{Left}
use Rattle.sc_services.specs.declared.leaving.Left.TheVariants as leaving
use Rattle.sc_world.specs.Standing.{state_of, world_of}
use Rattle.sc_world.specs.Wants.{Want}
use Rattle.sc_world.specs.declared.halt.Halt.{Halt}
use Rattle.sc_world.proofs.Courses.{world_there}
use Rattle.sc_mixed.specs.Adding.{Adds}
use Rattle.sc_mixed.proofs.Adding.{adds_or, aside, beside_one, cell_room, happened, kept_room, on_adds}
use Rattle.sc_mixed.specs.Bridge.{Calling, Returns, with_registers}
use Rattle.sc_mixed.specs.Goes.{Goes, Leads, Reaches, leads_lost, leads_on, leads_over, lost_at, reaches_further, reaches_here, rested, rested_by, rested_in, rests, rests_at}
use Rattle.sc_mixed.specs.Instructions.{EndsSo, Instruction, Loads, Stores}
use Rattle.sc_mixed.specs.Machine.{CallsCode, CallsOut, CallsValue, Executed, Fails, Follows, GoesBy, IsEntered, LeavesWith, Moves, ServedBy, StepsFrom, called_state, way, with_caller}
use Rattle.sc_mixed.specs.Serving.{service}
use Rattle.sc_mixed.specs.Standing.{IsLost, Standing, ended_by, standing_on, standing_over, status_at}
use Rattle.sc_mixed.specs.declared.broken.Break.{Break}
use Rattle.sc_mixed.specs.declared.broken.Break.TheVariants.{Meant, Crashed}
use Rattle.sc_mixed.specs.declared.calls.Calls.{Calls}
use Rattle.sc_mixed.specs.declared.calls.Moved.{Moved}
use Rattle.sc_mixed.specs.declared.calls.Next.{Next}
use Rattle.sc_mixed.specs.declared.calls.Next.TheVariants.{Steps, Executes, Serves}
use Rattle.sc_mixed.specs.declared.course.Course.{Course}
use Rattle.sc_mixed.specs.declared.course.Course.TheVariants.{On, Over as IsOver}
use Rattle.sc_mixed.specs.declared.ended.MixedEnd.{MixedEnd}
use Rattle.sc_mixed.specs.declared.ended.MixedEnd.TheVariants as mixed
use Rattle.sc_mixed.specs.declared.execute.Went.{Went}
use Rattle.sc_mixed.specs.declared.execute.Went.TheVariants as how
use Rattle.sc_mixed.specs.declared.moves.Way.{Way}
use Rattle.sc_mixed.specs.declared.moves.Way.TheVariants.{Stays, ToCode, Back}
use Rattle.sc_mixed.specs.declared.service.Service.{Service}
use Rattle.sc_mixed.specs.declared.service.Service.TheVariants as serving

same : (w v : World) → v ≡ w → Happen w v
same w v is = ([], is)

stays : (w v : World) → v ≡ w → Adds w v
stays w v is = happened w v (same w v is)

-- the world of an outcome that is this one
done_at : {A : Type 0} (w v : World) (r : Outcome A) (a : A) → r ≡ Done a v → Happen w (world_after r) → Happen w v
done_at {A = A} w v r a is l = subst (λ (x : Outcome A). Happen w (world_after x)) is l

over_at : {A : Type 0} (w : World) (r : Outcome A) (e : Ending) → r ≡ Over e → Happen w (world_after r) → Happen w (world_at e)
over_at {A = A} w r e is l = subst (λ (x : Outcome A). Happen w (world_after x)) is l

-- ---- what the services do

one_written : (p : Written) (w : World) → Adds w (written p w)
one_written (InObject id offset cells) w = happened w (pass (Put id offset cells) w) (one_more (Put id offset cells) w)
one_written (BesideAll at size word) w = aside w (written (BesideAll at size word) w) refl (kept_room at size word w.beside.memory)
one_written (CellInObject id offset byte at cell) w = beside_one (Put id offset (byte ∷ [])) w (written (CellInObject id offset byte at cell) w) refl (cell_room at cell w.beside.memory)
one_written (CellBeside at cell) w = aside w (written (CellBeside at cell) w) refl (cell_room at cell w.beside.memory)

are_written : (ps : List Written) (w v : World) → AreWritten ps w v → Adds w v
are_written [] w v is = stays w v is
are_written (p ∷ ps) w v (can, more) = on_adds w (written p w) v (one_written p w) (are_written ps (written p w) v more)

writes_lead : (w v : World) → Writes w v → Adds w v
writes_lead w v p = are_written p.bytes w v p.are

copies_lead : (target source n : ℕ) (w v : World) → Copies target source n w v → Adds w v
copies_lead target source n w v (InObjects to at from off p q is) = happened w v (Copy to at from off n ∷ [], is)
copies_lead target source n w v (ByBytes cells are p) = writes_lead w v (puts_write cells target w v p)

slots_born_lead : (slots : List Slot) (ids : List ℕ) (w : World) → Happen w (world_after (slots_born slots ids w))
slots_born_lead [] ids w = here w
slots_born_lead (s ∷ rest) ids w =
    then_leads w (slot_born s w) _ (born_goes Growth s.size (auto_kind s.constant) (spot.Slot s.offset) w) (λ id u. slots_born_lead rest (ids ++ id ∷ []) u)

slot_set_leads : (s : Slot) (x : Value) (w : World) → Happen w (world_after (slot_set s x w))
slot_set_leads s x w =
    then_leads w (slot_born s w) _ (born_goes Growth s.size (auto_kind s.constant) (spot.Slot s.offset) w) (λ id u. set_leads (Pointer id 0) 0 s.size x u)

slots_set_lead : (slots : List Slot) (xs : List Value) (ids : List ℕ) (w : World) → Happen w (world_after (slots_set slots xs ids w))
slots_set_lead [] xs ids w = here w
slots_set_lead (s ∷ rest) [] ids w = here w
slots_set_lead (s ∷ rest) (x ∷ xs) ids w =
    then_leads w (slot_set s x w) _ (slot_set_leads s x w) (λ id u. slots_set_lead rest xs (ids ++ id ∷ []) u)

block_lead : (block : ℕ) (t : FrameTable) (w : World) → Happen w (world_after (block_entered block t w))
block_lead block t w =
    then_leads w (slots_born (slots_of t block) [] w) _ (slots_born_lead (slots_of t block) [] w) (λ ids u. one_more (OpenBlock (record { block = block; ids = ids })) u)

call_lead : (at : TextAt) (t : Text) (xs : List Value) (w : World) → Happen w (world_after (call_entered at t xs w))
call_lead at t xs w =
    let v : World = with_call at t w in
    let slots : List Slot = slots_of at.frame 0 in
    then_leads w (slots_set slots xs [] v) _
    (on w v (world_after (slots_set slots xs [] v)) (and_more (Push (frame_at at t w)) w (pass (Stack (w.used + at.frame.cost)) w) (one_more (Stack (w.used + at.frame.cost)) w)) (slots_set_lead slots xs [] v))
    (λ ids u. and_more (Happens (Enter at.fun t.core.name)) u (opened 0 ids u) (one_more (OpenBlock (record { block = 0; ids = ids })) u))

if_room : (b : Bool) (w : World) (e : Ending) (r : Outcome (Unit {0})) → world_at e ≡ w → Happen w (world_after r) → Happen w (world_after (if b then Over e else r))
if_room true w e r is l = same w (world_at e) is
if_room false w e r is l = l

call_if_room_lead : (at : TextAt) (t : Text) (xs : List Value) (w : World) → Happen w (world_after (call_entered_if_room at t xs w))
call_if_room_lead at t xs w = if_room (nat_lt w.stack (w.used + at.frame.cost)) w (StackFull at.fun w) (call_entered at t xs w) refl (call_lead at t xs w)

if_closed : (b : Bool) (w v u : World) → Happen w v → Happen w u → Happen w (if b then v else u)
if_closed true w v u p q = p
if_closed false w v u p q = q

closed_one_lead : (o : Born) (w : World) → Happen w (closed_one o w)
closed_one_lead o w = if_closed (o.block == 0) w (all_dead o.ids w) (pass CloseBlock (all_dead o.ids w)) (deaths_lead o.ids w) (and_more CloseBlock w (all_dead o.ids w) (deaths_lead o.ids w))

closed_upto_lead : (block : ℕ) (os : List Born) (w : World) → Happen w (closed_upto block os w)
closed_upto_lead block [] w = here w
closed_upto_lead block (o ∷ os) w =
    if_closed (ends_with block o) w (closed_one o w) (closed_upto block os (closed_one o w)) (closed_one_lead o w)
    (on w (closed_one o w) (closed_upto block os (closed_one o w)) (closed_one_lead o w) (closed_upto_lead block os (closed_one o w)))

left_lead : (block cost : ℕ) (w : World) → Happen w (left_by cost (block_left block w))
left_lead block cost w =
    let v : World = block_left block w in
    and_more (Happens Leave) w (pass (Stack (v.used - cost)) (pass Pop v)) (and_more (Stack (v.used - cost)) w (pass Pop v) (and_more Pop w v (closed_upto_lead block (reverse (top_blocks w.frames)) w)))

leaves_lead : (block : ℕ) (w v : World) (left : Left) → Leaves block w left v → Happen w v
leaves_lead block w v leaving.Refused p = same w v p.1
leaves_lead block w v leaving.Block p = subst (λ (u : World). Happen w u) (sym p.2) (closed_upto_lead block (reverse (top_blocks w.frames)) w)
leaves_lead block w v leaving.Call p = subst (λ (u : World). Happen w u) (sym p.2) (left_lead block (top_cost w.frames) w)

module _ (texts : List Text) (i : Image) (r : Registers) (w v : World) where
  enters_call_lead : (at : TextAt) (t : Text) (what : Entered) → EntersCall at t r w (Ok what) v → Happen w v
  enters_call_lead at t entering.Refused p = same w v p.1
  enters_call_lead at t entering.Block p = absurd p
  enters_call_lead at t entering.Call p = done_at w v (call_entered_if_room at t p.0 w) tt p.2 (call_if_room_lead at t p.0 w)

  enters_first_lead : (b : Bool) (at : TextAt) (t : Text) (what : Entered) → EntersFirst b at t r w (Ok what) v → Happen w v
  enters_first_lead true at t what p = enters_call_lead at t what p
  enters_first_lead false at t what p = same w v p.1

  enters_text_lead : (callee : Callee) (at : TextAt) (what : Entered) → EntersText callee i at r w (Ok what) v → Happen w v
  enters_text_lead Missing at what p = same w v p.1
  enters_text_lead (InLibrary f) at what p = same w v p.1
  enters_text_lead (InText t f) at what p = enters_first_lead (is_first i r at) at t what p

  enters_inner_lead : (test : Bool) (block : ℕ) (at : TextAt) (what : Entered) → Enters test (block_entered block at.frame w) entering.Block w (Ok what) v → Happen w v
  enters_inner_lead test block at entering.Refused p = same w v p.1
  enters_inner_lead test block at entering.Call p = done_at w v (block_entered block at.frame w) tt p.2 (block_lead block at.frame w)
  enters_inner_lead test block at entering.Block p = done_at w v (block_entered block at.frame w) tt p.2 (block_lead block at.frame w)

  enters_block_lead : (b : Bool) (block : ℕ) (at : TextAt) (what : Entered) → EntersBlock b block texts i at r w (Ok what) v → Happen w v
  enters_block_lead true block at what p = enters_text_lead (callee_of texts at.fun) at what p
  enters_block_lead false block at what p = enters_inner_lead (may_enter block at w.frames) block at what p

  enters_in_lead : (b : Bool) (text : Option TextAt) (what : Entered) → EntersIn b text texts i r w (Ok what) v → Happen w v
  enters_in_lead true (Some at) what p = enters_block_lead ((register r 6).bits == 0) (register r 6).bits at what p
  enters_in_lead true None what p = same w v p.1
  enters_in_lead false text what p = same w v p.1

  enters_lead : (what : Entered) → EntersAt texts i r w (Ok what) v → Happen w v
  enters_lead what p = enters_in_lead (is_on_stack r w) (text_at i (difference r.pc 4)) what p

-- ---- interpreted calls

same_world : (s : State) → course.world_of s ≡ world_of s
same_world (Runs doing ss env a cs w) = refl
same_world (Makes t v vs c cs w) = refl
same_world (Answers a cs w) = refl
same_world (Ends e) = refl

step_lead : (texts : List Text) (s : State) → Happen (world_of s) (world_of (advance (alone texts) texts s))
step_lead texts s =
    let t : State = machine.advance (alone texts) s in
    subst (λ (t : State). Happen (world_of s) (world_of t)) (same_step (alone texts) texts (is_quiet texts) (present texts) s)
    (subst (λ (v : World). Happen (world_of s) v) (same_world t)
    (subst (λ (w : World). Happen w (course.world_of t)) (same_world s) (advance_leads (alone texts) s)))

callee_lead : (texts : List Text) (key : Key) (xs : List Value) (f : Callee) (cs : List Caller) (w : World) → Happen w (world_of (callee_next (alone texts) key xs f cs w))
callee_lead texts key xs f cs w =
    let s : State = machine.callee_next (alone texts) key xs f cs w in
    subst (λ (t : State). Happen w (world_of t)) (callee_step (alone texts) texts (is_quiet texts) (present texts) key xs f cs w)
    (subst (λ (v : World). Happen w v) (same_world s) (callee_go (alone texts) key xs f cs w))

called_by_lead : (texts : List Text) (key : Key) (xs : List Value) (f : Callee) (cs : List Caller) (w : World) → Happen w (world_of (called_next (alone texts) key xs f cs w))
called_by_lead texts key xs Missing cs w = same w w refl
called_by_lead texts key xs (InLibrary g) cs w = callee_lead texts key xs (InLibrary g) cs w
called_by_lead texts key xs (InText t g) cs w = callee_lead texts key xs (InText t g) cs w

called_lead : (texts : List Text) (key : Key) (xs : List Value) (cs : List Caller) (w : World) → Happen w (world_of (called_state texts key xs cs w))
called_lead texts key xs cs w = called_by_lead texts key xs (callee_of texts key) cs w

goes_there : (w v : World) (g : Going) (cs : List Caller) (s : State) → s ≡ state_of g cs v → Happen w (world_of s) → Happen w v
goes_there w v g cs s is l = subst (λ (u : World). Happen w u) (ap world_of is ∙ world_there g cs v) l

from_there : (w v : World) (g : Going) (cs : List Caller) → Happen (world_of (state_of g cs w)) v → Happen w v
from_there w v g cs l = subst (λ (u : World). Happen u v) (world_there g cs w) l

ends_there : (w : World) (s : State) (e : Ending) → s ≡ Ends e → Happen w (world_of s) → Happen w (world_at e)
ends_there w s e is l = subst (λ (t : State). Happen w (world_of t)) is l

-- ---- a move behind which the run goes on

calls_value_lead : (i : Image) (x : Value) (xs : List Value) (c : Calls) (w : World) (next : Next) (d : Calls) (v : World) → CallsValue i x xs c w next d v → Adds w v
calls_value_lead i (FunctionAt key) xs c w next d v p = writes_lead w v (all_write 0 xs w v p.stores)
calls_value_lead i (Number n) xs c w next d v p = absurd p
calls_value_lead i (Pointer o n) xs c w next d v p = absurd p

calls_code_lead : (i : Image) (g : Going) (c : Calls) (w : World) (next : Next) (d : Calls) (v : World) → CallsCode i g c w next d v → Adds w v
calls_code_lead i (going.Makes t x xs caller) c w next d v p = calls_value_lead i x xs (with_caller caller c) w next d v p
calls_code_lead i (going.Runs doing ss env a) c w next d v p = absurd p
calls_code_lead i (going.Answers a) c w next d v p = absurd p

goes_by_lead : (y : Way) (texts : List Text) (i : Image) (g : Going) (c : Calls) (w : World) (moved : Moved) (next : Next) (d : Calls) (v : World) → GoesBy y texts i g c w (Ok moved) next d v → Adds w v
goes_by_lead Stays texts i g c w moved next d v p =
    happened w v (from_there w v g c.callers (goes_there (world_of (state_of g c.callers w)) v p.going d.callers (advance (alone texts) texts (state_of g c.callers w)) p.state (step_lead texts (state_of g c.callers w))))
goes_by_lead ToCode texts i g c w moved next d v p = calls_code_lead i g c w next d v p.1
goes_by_lead Back texts i g c w moved next d v p = stays w v p.1.1

ends_lead : (need : Need) (middle : Registers) (w : World) (what : Went) (s : Registers) (v : World) → (what ≡ how.NoRoom → ⊥) → EndsSo need middle w what s v → Adds w v
ends_lead (need.Done step) middle w what s v some p = stays w v p.2
ends_lead (need.Load op rd at) middle w how.On s v some p = stays w v p.1
ends_lead (need.Load op rd at) middle w (how.Stopped crash) s v some p = stays w v p.3
ends_lead (need.Load op rd at) middle w (how.Asks n) s v some p = absurd p
ends_lead (need.Load op rd at) middle w how.Returned s v some p = absurd p
ends_lead (need.Load op rd at) middle w how.NoRoom s v some p = absurd p
ends_lead (need.Store size at word) middle w how.On s v some p = writes_lead w v (stores_write at size word w v p.2)
ends_lead (need.Store size at word) middle w (how.Stopped crash) s v some p = stays w v p.3
ends_lead (need.Store size at word) middle w how.NoRoom s v some p = absurd (some refl)
ends_lead (need.Store size at word) middle w (how.Asks n) s v some p = absurd p
ends_lead (need.Store size at word) middle w how.Returned s v some p = absurd p

instruction_lead : (i : Image) (r s : Registers) (w v : World) (what : Went) → (what ≡ how.NoRoom → ⊥) → Instruction i r w what s v → Adds w v
instruction_lead i r s w v what some p = ends_lead p.need p.middle w what s v some p.ends

follows_some : (what : Went) (r : Registers) (c : Calls) (v : World) (next : Next) (d : Calls) → Follows what r c v next d → what ≡ how.NoRoom → ⊥
follows_some how.On r c v next d p is = cc
follows_some (how.Asks n) r c v next d p is = cc
follows_some how.Returned r c v next d p is = cc
follows_some (how.Stopped cause) r c v next d p is = cc
follows_some how.NoRoom r c v next d p is = p

executed_lead : (i : Image) (c : Calls) (w : World) (moved : Moved) (next : Next) (d : Calls) (v : World) → Executed i c w (Ok moved) next d v → Adds w v
executed_lead i c w moved next d v p = instruction_lead i c.regs p.1.1 w v p.1.0 (follows_some p.1.0 p.1.1 c v next d p.1.3) p.1.2

served_lead : (kind : Service) (texts : List Text) (i : Image) (c : Calls) (w : World) (moved : Moved) (next : Next) (d : Calls) (v : World) → ServedBy kind texts i c w (Ok moved) next d v → Adds w v
served_lead serving.Call texts i c w moved next d v p =
    happened w v (goes_there w v p.going c.callers (called_state texts p.key p.arguments c.callers w) p.state (called_lead texts p.key p.arguments c.callers w))
served_lead serving.Enter texts i c w moved next d v p = happened w v (enters_lead texts i c.regs w v p.0.0 p.0.1)
served_lead serving.Leave texts i c w moved next d v p = happened w v (leaves_lead (register c.regs 6).bits w v p.0.2.1.0 p.0.2.1.1)
served_lead serving.Tag texts i c w moved next d v p = stays w v p.1
served_lead serving.Copy texts i c w moved next d v p = copies_lead (register c.regs 10).bits (register c.regs 11).bits p.0.0 w v p.0.1.2
served_lead serving.Fall texts i c w moved next d v p = happened w v (leaves_lead 0 w v p.0.1.0 p.0.1.1)
served_lead serving.Unknown texts i c w moved next d v p = absurd p.0

pub moves_lead : (texts : List Text) (i : Image) (next after : Next) (c d : Calls) (w v : World) (moved : Moved) → Moves texts i next c w (Ok moved) after d v → Adds w v
moves_lead texts i (Steps g) after c d w v moved p = goes_by_lead (way texts g c) texts i g c w moved after d v p
moves_lead texts i Executes after c d w v moved p = executed_lead i c w moved after d v p
moves_lead texts i (Serves n) after c d w v moved p = served_lead (service n) texts i c w moved after d v p

-- ---- a move that ends the run

stop_tells : (stopped : Stop) (v : World) → (stopped ≡ stop.NoRoom) ⊎ ((e : Ending) × (ending_of stopped v ≡ Some e) × (world_at e ≡ v))
stop_tells stop.NoRoom v = inl refl
stop_tells (stop.Undefined b) v = inr (_, refl, refl)
stop_tells (stop.Exit status) v = inr (_, refl, refl)
stop_tells (stop.StackFull key) v = inr (_, refl, refl)
stop_tells stop.BirthLimit v = inr (_, refl, refl)

-- what ends in a world, where each end that is told is one to which things lead
stops_lead : (w v : World) (stopped : Stop) → ((e : Ending) → ending_of stopped v ≡ Some e → Happen w (world_at e)) → (stopped ≡ stop.NoRoom) ⊎ Happen w v
stops_lead w v stopped p = elim (stop_tells stopped v) [ inl q ↦ inl q | inr q ↦ inr (subst (λ (u : World). Happen w u) q.2 (p q.0 q.1)) ]

broken_so : (w v : World) (stopped : Stop) → (stopped ≡ stop.NoRoom) ⊎ Happen w v → (Meant stopped ≡ Meant stop.NoRoom) ⊎ Happen w v
broken_so w v stopped (inl p) = inl (ap (λ (s : Stop). Meant s) p)
broken_so w v stopped (inr p) = inr p

module _ (texts : List Text) (i : Image) (r : Registers) (w v : World) (stopped : Stop) (e : Ending) (is : ending_of stopped v ≡ Some e) where
  call_stops : (at : TextAt) (t : Text) → EntersCall at t r w (Err stopped) v → Happen w (world_at e)
  call_stops at t p = let q = p e is in over_at w (call_entered_if_room at t q.0 w) e q.2 (call_if_room_lead at t q.0 w)

  first_stops : (b : Bool) (at : TextAt) (t : Text) → EntersFirst b at t r w (Err stopped) v → Happen w (world_at e)
  first_stops true at t p = call_stops at t p
  first_stops false at t p = absurd (cc)

  text_stops : (callee : Callee) (at : TextAt) → EntersText callee i at r w (Err stopped) v → Happen w (world_at e)
  text_stops Missing at p = absurd (cc)
  text_stops (InLibrary f) at p = absurd (cc)
  text_stops (InText t f) at p = first_stops (is_first i r at) at t p

  block_stops : (b : Bool) (block : ℕ) (at : TextAt) → EntersBlock b block texts i at r w (Err stopped) v → Happen w (world_at e)
  block_stops true block at p = text_stops (callee_of texts at.fun) at p
  block_stops false block at p = over_at w (block_entered block at.frame w) e (p e is) (block_lead block at.frame w)

  in_stops : (b : Bool) (text : Option TextAt) → EntersIn b text texts i r w (Err stopped) v → Happen w (world_at e)
  in_stops true (Some at) p = block_stops ((register r 6).bits == 0) (register r 6).bits at p
  in_stops true None p = absurd (cc)
  in_stops false text p = absurd (cc)

  enters_stops : EntersAt texts i r w (Err stopped) v → Happen w (world_at e)
  enters_stops p = in_stops (is_on_stack r w) (text_at i (difference r.pc 4)) p

goes_by_ends : (y : Way) (texts : List Text) (i : Image) (g : Going) (c : Calls) (w : World) (broken : Break) (next : Next) (d : Calls) (v : World) → GoesBy y texts i g c w (Err broken) next d v → (broken ≡ Meant stop.NoRoom) ⊎ Happen w v
goes_by_ends Stays texts i g c w (Meant stopped) next d v p =
    broken_so w v stopped (stops_lead w v stopped (λ e is.
    from_there w (world_at e) g c.callers (ends_there (world_of (state_of g c.callers w)) (advance (alone texts) texts (state_of g c.callers w)) e (p e is) (step_lead texts (state_of g c.callers w)))))
goes_by_ends Stays texts i g c w (Crashed pc cause) next d v p = absurd p
goes_by_ends ToCode texts i g c w broken next d v p = inl p
goes_by_ends Back texts i g c w broken next d v p = inl p

fails_some : (what : Went) (r : Registers) (c : Calls) (v : World) (pc : ℕ) (crash : Crash) (d : Calls) → Fails what r c v pc crash d → what ≡ how.NoRoom → ⊥
fails_some how.On r c v pc crash d p is = cc
fails_some (how.Asks n) r c v pc crash d p is = cc
fails_some how.Returned r c v pc crash d p is = cc
fails_some (how.Stopped cause) r c v pc crash d p is = cc
fails_some how.NoRoom r c v pc crash d p is = p

executed_ends : (i : Image) (c : Calls) (w : World) (broken : Break) (next : Next) (d : Calls) (v : World) → Executed i c w (Err broken) next d v → (broken ≡ Meant stop.NoRoom) ⊎ Adds w v
executed_ends i c w (Meant stopped) next d v p = inl (ap (λ (s : Stop). Meant s) p)
executed_ends i c w (Crashed pc crash) next d v p = inr (instruction_lead i c.regs p.1 w v p.0 (fails_some p.0 p.1 c v pc crash d p.3) p.2)

served_ends : (kind : Service) (texts : List Text) (i : Image) (c : Calls) (w : World) (broken : Break) (next : Next) (d : Calls) (v : World) → ServedBy kind texts i c w (Err broken) next d v → (broken ≡ Meant stop.NoRoom) ⊎ Happen w v
served_ends serving.Call texts i c w (Meant stopped) next d v p =
    broken_so w v stopped (stops_lead w v stopped (λ e is. let q = p e is in ends_there w (called_state texts q.0 q.1 c.callers w) e q.3 (called_lead texts q.0 q.1 c.callers w)))
served_ends serving.Call texts i c w (Crashed pc cause) next d v p = inr (same w v p.2)
served_ends serving.Enter texts i c w (Meant stopped) next d v p =
    broken_so w v stopped (stops_lead w v stopped (λ e is. enters_stops texts i c.regs w v stopped e is (p.0 e is)))
served_ends serving.Enter texts i c w (Crashed pc cause) next d v p = inr (enters_lead texts i c.regs w v entering.Refused p.0.0)
served_ends serving.Leave texts i c w (Meant stopped) next d v p = inl (ap (λ (s : Stop). Meant s) p.0)
served_ends serving.Leave texts i c w (Crashed pc cause) next d v p = inr (leaves_lead (register c.regs 6).bits w v leaving.Refused p.0.2.0)
served_ends serving.Tag texts i c w broken next d v p = inr (same w v p.1)
served_ends serving.Copy texts i c w (Meant stopped) next d v p = inl (ap (λ (s : Stop). Meant s) p.0)
served_ends serving.Copy texts i c w (Crashed pc cause) next d v p = inr (same w v p.0.0.1)
served_ends serving.Fall texts i c w (Meant stopped) next d v p = inl (ap (λ (s : Stop). Meant s) p.0)
served_ends serving.Fall texts i c w (Crashed pc cause) next d v p = inr (leaves_lead 0 w v leaving.Refused p.0.0)
served_ends serving.Unknown texts i c w broken next d v p = inr (same w v p.1)

pub moves_end : (texts : List Text) (i : Image) (next after : Next) (c d : Calls) (w v : World) (broken : Break) → Moves texts i next c w (Err broken) after d v → (broken ≡ Meant stop.NoRoom) ⊎ Adds w v
moves_end texts i (Steps g) after c d w v broken p = adds_or w v (goes_by_ends (way texts g c) texts i g c w broken after d v p)
moves_end texts i Executes after c d w v broken p = executed_ends i c w broken after d v p
moves_end texts i (Serves n) after c d w v broken p = adds_or w v (served_ends (service n) texts i c w broken after d v p)

-- ---- a go

lost_or : (i : Image) (c d : Calls) (w v : World) (broken : Break) → (broken ≡ Meant stop.NoRoom) ⊎ Adds w v → IsLost (standing_over i d v (ended_by broken)) ⊎ Adds w v
lost_or i c d w v broken (inl is) = inl (ap (λ (b : Break). IsOver (ended_by b)) is)
lost_or i c d w v broken (inr l) = inr l

pub leads_lead : (texts : List Text) (turns : ℕ) (m n : Standing) → Leads texts turns m n → IsLost n ⊎ Adds m.world n.world
leads_lead texts turns m n (leads_on i c d w v next after now moved p) = inr (moves_lead texts i next after c d w v moved p)
leads_lead texts turns m n (leads_over i c d w v next after now broken p) = lost_or i c d w v broken (moves_end texts i next after c d w v broken p)
leads_lead texts turns m n (leads_lost i c d w v next now) = inl refl

not_over : (texts : List Text) (turns : ℕ) (m n : Standing) → Leads texts turns m n → IsLost m → ⊥
not_over texts turns m n (leads_on i c d w v next after now moved p) is = cc
not_over texts turns m n (leads_over i c d w v next after now broken p) is = cc
not_over texts turns m n (leads_lost i c d w v next now) is = cc

pub further_lead : (texts : List Text) (turns : ℕ) (first m n : Standing) → Leads texts turns m n → IsLost m ⊎ Adds first.world m.world → IsLost n ⊎ Adds m.world n.world → IsLost n ⊎ Adds first.world n.world
further_lead texts turns first m n p (inl is) q = absurd (not_over texts turns m n p is)
further_lead texts turns first m n p (inr l) (inl is) = inl is
further_lead texts turns first m n p (inr l) (inr k) = inr (on_adds first.world m.world n.world l k)

pub reaches_lead : (texts : List Text) (want : Want) (first : Standing) (took : ℕ) (m : Standing) → Reaches texts want first took m → IsLost m ⊎ Adds first.world m.world
reaches_lead texts want first took m reaches_here = inr (stays first.world first.world refl)
reaches_lead texts want first took m (reaches_further before turns l n reach free p) =
    further_lead texts turns first l n p (reaches_lead texts want first before l reach) (leads_lead texts turns l n p)

rested_by_lead : (status : Option ℕ) (i : Image) (c : Calls) (w : World) (next : Next) → Happen w (rested_by status i c w next).world
rested_by_lead None i c w next = here w
rested_by_lead (Some status) i c w next = one_more ComesBack w

rested_lead : (i : Image) (c : Calls) (w : World) (course : Course) → Happen w (rested_in i c w course).world
rested_lead i c w (On next now) = rested_by_lead (status_at next c) i c w next
rested_lead i c w (IsOver end) = here w

rested_lost : (i : Image) (c : Calls) (w : World) (course : Course) → course ≡ IsOver (mixed.Meant ended.NoRoom) → IsLost (rested_in i c w course)
rested_lost i c w course is = ap (λ (x : Course). (rested_in i c w x).course) is

pub rests_lead : (m last : Standing) (w : World) → last ≡ rested m → IsLost m ⊎ Adds w m.world → IsLost last ⊎ Adds w last.world
rests_lead m last w is (inl lost) = inl (ap (λ (n : Standing). n.course) is ∙ rested_lost m.image m.calls m.world m.course lost)
rests_lead m last w is (inr l) = inr (subst (λ (n : Standing). Adds w n.world) (sym is) (on_adds w m.world (rested m).world l (happened m.world (rested m).world (rested_lead m.image m.calls m.world m.course))))

pub goes_lead : (texts : List Text) (want : Want) (first : Standing) (halt : Halt) (last : Standing) → Goes texts want first halt last → IsLost last ⊎ Adds first.world last.world
goes_lead texts want first halt last (rests_at took m reach is at) = rests_lead m last first.world at (reaches_lead texts want first took m reach)
goes_lead texts want first halt last (lost_at took m reach is lost) = inl lost
