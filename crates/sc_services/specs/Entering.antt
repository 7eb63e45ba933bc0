-- Yardstick: to be compared with what it restates (docs/TRUST.md).
-- A call of compiled code is entered, or a block of it.
use Rattle.std.specs.Prelude.{◌≡◌, ℕ, ◌+◌, ◌&&◌, ◌==◌, nat_lt, not, Bool, true, false, List, length, Result, Ok, Err, Option, Some, None}
use Rattle.sc_emu.specs.Operations.{difference}
use Rattle.sc_emu.specs.Registers.{Registers, register}
use Rattle.sc_isa_image.specs.Lookups.{target_of, text_at}
use Rattle.sc_isa_image.specs.declared.image.Image.{Image}
use Rattle.sc_isa_image.specs.declared.text.TextAt.{TextAt}
use Rattle.sc_meaning.specs.Outcomes.{Outcome, Done, Over, Ending}
use Rattle.sc_meaning.specs.Values.{Value}
use Rattle.sc_meaning.specs.Versions.{Text, Callee, Missing, InText, InLibrary, callee_of}
use Rattle.sc_meaning.specs.World.{World, Frame}
use Rattle.sc_interp_access.specs.declared.stop.Stop.{Stop}
use Rattle.sc_interp_access.specs.Gives.{Stops, ending_of}
use Rattle.sc_services.specs.Arguments.{AreArguments, are_inside}
use Rattle.sc_services.specs.Blocks.{block_entered, call_entered_if_room, slots_of}
use Rattle.sc_services.specs.Frames.{is_call_at, is_on_stack, is_open_here}
use Rattle.sc_services.specs.declared.entering.Entered.{Entered}
use Rattle.sc_services.specs.declared.entering.Entered.TheVariants.{Block, Call, Refused}

-- a block of a text may be entered: it is in the table, the innermost call is of this text, and the block is not open
abbrev pub may_enter : ℕ → TextAt → List Frame → Bool
may_enter block at fs = nat_lt block (length at.frame.blocks) && is_call_at at.start fs && not (is_open_here block fs)

-- the service comes to this outcome where its test holds; else it is refused, and nothing is done
abbrev pub Enters : Bool → Outcome (Unit {0}) → Entered → World → Result Entered Stop → World → Type 0
Enters test out now w (Ok Refused) v = (test ≡ false) × (v ≡ w)
Enters test out now w (Ok entered) v = (test ≡ true) × (entered ≡ now) × (out ≡ Done tt v)
Enters test out now w (Err stop) v = Stops out stop v

-- The `ecall` is the third word of a text, to which the stub of its function leads.
abbrev pub leads_to : Option ℕ → ℕ → Bool
leads_to None start = false
leads_to (Some at) start = at == start

abbrev pub is_first : Image → Registers → TextAt → Bool
is_first i r at = (at.start + 12 == r.pc) && leads_to (target_of i at.fun) at.start

abbrev pub parameter_slots : TextAt → ℕ
parameter_slots at = length (slots_of at.frame 0)

-- a call is entered with these arguments, or the run ends in it
abbrev pub EntersWith : TextAt → Text → List Value → World → Result Entered Stop → World → Type 0
EntersWith at t xs w (Ok Refused) v = ⊥
EntersWith at t xs w (Ok Block) v = ⊥
EntersWith at t xs w (Ok Call) v = call_entered_if_room at t xs w ≡ Done tt v
EntersWith at t xs w (Err stop) v = Stops (call_entered_if_room at t xs w) stop v

-- A call is entered with the arguments that are there, or the run ends in it. It is refused, and nothing is done, exactly where those past
-- the eighth are not inside the stack.
abbrev pub EntersCall : TextAt → Text → Registers → World → Result Entered Stop → World → Type 0
EntersCall at t r w (Ok Refused) v = (are_inside (parameter_slots at) w ≡ false) × (v ≡ w)
EntersCall at t r w (Ok Block) v = ⊥
EntersCall at t r w (Ok Call) v = (xs : List Value) × AreArguments (parameter_slots at) r w xs × (call_entered_if_room at t xs w ≡ Done tt v)
EntersCall at t r w (Err stop) v = (e : Ending) → ending_of stop v ≡ Some e → (xs : List Value) × AreArguments (parameter_slots at) r w xs × (call_entered_if_room at t xs w ≡ Over e)

-- it is refused where the function is not there, or the `ecall` does not begin the call of it
abbrev pub EntersFirst : Bool → TextAt → Text → Registers → World → Result Entered Stop → World → Type 0
EntersFirst true at t r w result v = EntersCall at t r w result v
EntersFirst false at t r w result v = (result ≡ Ok Refused) × (v ≡ w)

abbrev pub EntersText : Callee → Image → TextAt → Registers → World → Result Entered Stop → World → Type 0
EntersText Missing i at r w result v = (result ≡ Ok Refused) × (v ≡ w)
EntersText (InLibrary f) i at r w result v = (result ≡ Ok Refused) × (v ≡ w)
EntersText (InText t f) i at r w result v = EntersFirst (is_first i r at) at t r w result v

-- a call is entered, or another block of the innermost call
abbrev pub EntersBlock : Bool → ℕ → List Text → Image → TextAt → Registers → World → Result Entered Stop → World → Type 0
EntersBlock true block texts i at r w result v = EntersText (callee_of texts at.fun) i at r w result v
EntersBlock false block texts i at r w result v = Enters (may_enter block at w.frames) (block_entered block at.frame w) Block w result v

-- the service: it is refused where the stack pointer is not at the low end of the stack, and where no text is
abbrev pub EntersIn : Bool → Option TextAt → List Text → Image → Registers → World → Result Entered Stop → World → Type 0
EntersIn true (Some at) texts i r w result v = EntersBlock ((register r 6).bits == 0) (register r 6).bits texts i at r w result v
EntersIn true None texts i r w result v = (result ≡ Ok Refused) × (v ≡ w)
EntersIn false text texts i r w result v = (result ≡ Ok Refused) × (v ≡ w)

abbrev pub EntersAt : List Text → Image → Registers → World → Result Entered Stop → World → Type 0
EntersAt texts i r w result v = EntersIn (is_on_stack r w) (text_at i (difference r.pc 4)) texts i r w result v
