-- Yardstick: to be compared with what it restates (docs/TRUST.md).
-- The innermost call of a world as the services test it.
use Rattle.std.specs.Prelude.{ℕ, ◌-◌, ◌==◌, ◌&&◌, ◌||◌, Bool, true, false, List, [], ◌∷◌}
use Rattle.sc_base.specs.declared.memory.Form.{Form}
use Rattle.sc_base.specs.declared.memory.Form.TheVariants as form
use Rattle.sc_meaning.specs.World.{World, Frame, Born}
use Rattle.sc_emu.specs.Registers.{Registers, register}

-- the low end of the stack that is used, and of the innermost frame
abbrev pub stack_top : World → ℕ
stack_top w = 0x20000000 - w.used

-- the stack pointer is there
abbrev pub is_on_stack : Registers → World → Bool
is_on_stack r w = (register r 2).bits == stack_top w

abbrev pub is_object : Form → Bool
is_object form.Source = false
is_object form.Object = true

-- the innermost call is of compiled code
abbrev pub is_in_code : List Frame → Bool
is_in_code [] = false
is_in_code (f ∷ fs) = is_object f.form

-- the same, and of the text that begins at this address
abbrev pub is_call_at : ℕ → List Frame → Bool
is_call_at start [] = false
is_call_at start (f ∷ fs) = is_object f.form && (f.start == start)

-- a block is one of those that were entered
abbrev pub is_open : ℕ → List Born → Bool
is_open block [] = false
is_open block (o ∷ os) = (o.block == block) || is_open block os

abbrev pub is_open_here : ℕ → List Frame → Bool
is_open_here block [] = false
is_open_here block (f ∷ fs) = is_open block f.blocks
