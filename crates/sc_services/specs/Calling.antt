-- Yardstick: to be compared with what it restates (docs/TRUST.md).
-- What compiled code calls, and with which arguments.
use Rattle.std.specs.Prelude.{◌≡◌, ℕ, ◌&&◌, Bool, true, false, List, Option, Some, None}
use Rattle.sc_base.specs.declared.key.Key.{Key}
use Rattle.sc_emu.specs.Operations.{difference}
use Rattle.sc_emu.specs.Registers.{Registers}
use Rattle.sc_isa_image.specs.declared.image.Image.{Image}
use Rattle.sc_isa_image.specs.Lookups.{key_of}
use Rattle.sc_meaning.specs.Versions.{Text, callee_of}
use Rattle.sc_meaning.specs.World.{World}
use Rattle.sc_services.specs.Arguments.{AreArguments, are_inside, argument_count}
use Rattle.sc_services.specs.Frames.{is_in_code, is_on_stack}
use Rattle.sc_services.specs.declared.calling.Asked.{Asked}
use Rattle.sc_services.specs.declared.calling.Asked.TheVariants.{Call, Refused}

-- the innermost call is of compiled code, and the stack pointer at the low end of the stack that is used
abbrev pub may_call : Registers → World → Bool
may_call r w = is_in_code w.frames && is_on_stack r w

-- a function that takes so many arguments is called with them; it is refused exactly where those past the eighth are not inside the stack
abbrev pub CallsWith : Key → ℕ → Registers → World → Asked → Type 0
CallsWith key count r w (Call k xs) = (k ≡ key) × AreArguments count r w xs
CallsWith key count r w Refused = are_inside count w ≡ false

abbrev pub CallsBy : Key → Option ℕ → Registers → World → Asked → Type 0
CallsBy key None r w asked = asked ≡ Refused
CallsBy key (Some count) r w asked = CallsWith key count r w asked

-- it is refused where the call may not go out
abbrev pub CallsIf : Bool → Key → List Text → Registers → World → Asked → Type 0
CallsIf true key texts r w asked = CallsBy key (argument_count r (callee_of texts key)) r w asked
CallsIf false key texts r w asked = asked ≡ Refused

-- and where no function's stub is there
abbrev pub CallsAt : Option Key → List Text → Registers → World → Asked → Type 0
CallsAt None texts r w asked = asked ≡ Refused
CallsAt (Some key) texts r w asked = CallsIf (may_call r w) key texts r w asked

-- What is called is the function whose stub's second word the `ecall` is.
abbrev pub AsksFor : Image → List Text → Registers → World → Asked → Type 0
AsksFor i texts r w asked = CallsAt (key_of i (difference r.pc 8)) texts r w asked
