-- Parameters without arguments, and calls that are entered with some.
use Rattle.std.proofs.Common.{◌≡◌, ◌<◌, ℕ, List, [], ◌∷◌, length, refl, Result, Ok, Err, arith}
use Rattle.sc_program.specs.declared.frame.Slot.{Slot}
use Rattle.sc_isa_image.specs.declared.text.TextAt.{TextAt}
use Rattle.sc_meaning.specs.Values.{Value}
use Rattle.sc_meaning.specs.World.{World}
use Rattle.sc_meaning.specs.Outcomes.{Done}
use Rattle.sc_meaning.specs.Versions.{Text}
use Rattle.sc_interp_access.specs.declared.stop.Stop.{Stop}
use Rattle.sc_services.specs.Blocks.{call_entered_if_room, slots_set}
use Rattle.sc_emu.specs.Registers.{Registers}
use Rattle.sc_services.specs.Arguments.{AreArguments}
use Rattle.sc_services.specs.Entering.{EntersWith, EntersCall, parameter_slots}
use Rattle.sc_services.specs.declared.entering.Entered.{Entered}
use Rattle.sc_services.specs.declared.entering.Entered.TheVariants.{Block, Call, Refused}

-- the slots behind the last argument stay without an object
pub slots_end : (slots : List Slot) (xs : List Value) (ids : List ℕ) (w : World) → length xs < 1 → slots_set slots xs ids w ≡ Done ids w
slots_end [] xs ids w h = refl
slots_end (s ∷ rest) [] ids w h = refl
slots_end (s ∷ rest) (x ∷ xs) ids w h = absurd (omega (arith, h))

pub entered_with : (at : TextAt) (t : Text) (r : Registers) (xs : List Value) (w v : World) (result : Result Entered Stop) → AreArguments (parameter_slots at) r w xs → EntersWith at t xs w result v → EntersCall at t r w result v
entered_with at t r xs w v (Ok Refused) p h = absurd h
entered_with at t r xs w v (Ok Call) p h = (xs, p, h)
entered_with at t r xs w v (Ok Block) p h = h
entered_with at t r xs w v (Err stop) p h = λ e is. (xs, p, h e is)
