-- Yardstick: to be compared with what it restates (docs/TRUST.md).
-- The services by their numbers, and where the test of one fails.
use Rattle.std.specs.Prelude.{◌≡◌, ℕ, ◌==◌, if◌then◌else◌}
use Rattle.sc_emu.specs.Operations.{difference}
use Rattle.sc_emu.specs.Registers.{Registers}
use Rattle.sc_emu.specs.declared.outcome.Crash.{Crash}
use Rattle.sc_emu.specs.declared.outcome.Crash.TheVariants as crash
use Rattle.sc_mixed.specs.declared.service.Service.{Service}
use Rattle.sc_mixed.specs.declared.service.Service.TheVariants.{Call, Enter, Leave, Tag, Copy, Fall, Unknown}

-- the service with a number
abbrev pub service : ℕ → Service
service n =
    if n == 1 then Call
    else if n == 2 then Enter
    else if n == 3 then Leave
    else if n == 4 then Tag
    else if n == 5 then Copy
    else if n == 6 then Fall
    else Unknown

-- a crash at the `ecall` behind which the registers stand
abbrev pub IsHere : Registers → ℕ → Crash → Type 0
IsHere r pc cause = (pc ≡ difference r.pc 4) × (cause ≡ crash.Service)
