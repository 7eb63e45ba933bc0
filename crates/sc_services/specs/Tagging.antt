-- Yardstick: to be compared with what it restates (docs/TRUST.md).
-- A number gets the tag of what stands at its address.
use Rattle.std.specs.Prelude.{◌≡◌, ℕ, IfSome, Option, Some, None}
use Rattle.sc_emu.specs.Registers.{Registers, register, with_word}
use Rattle.sc_mem_store.specs.Living.{IsTagAt}
use Rattle.sc_meaning.specs.World.{World}
use Rattle.sc_services.specs.declared.served.Served.{Served}
use Rattle.sc_services.specs.declared.served.Served.TheVariants.{Done, Refused}

-- the tag of what stands at an address in the memory of a run, or that nothing has one there
abbrev pub IsTagIn : World → ℕ → Option ℕ → Type 0
IsTagIn w at tag = IfSome w.beside.memory (λ m. IsTagAt w.beside.functions m.flat.objects at tag)

-- a0 has this tag, and all else is as it was
abbrev pub tagged : ℕ → Registers → Registers
tagged tag r = record { pc = r.pc; words = with_word r.words 10 (record { bits = (register r 10).bits; tag = tag }) }

-- a0 gets the tag of what stands there; it is refused exactly where nothing does, and then nothing is done
abbrev pub Tags : Registers → World → Served → Registers → Type 0
Tags old w Done new = (tag : ℕ) × IsTagIn w (register old 10).bits (Some tag) × (new ≡ tagged tag old)
Tags old w Refused new = IsTagIn w (register old 10).bits None × (new ≡ old)
