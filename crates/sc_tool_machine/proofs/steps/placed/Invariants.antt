use Rattle.std.proofs.Common.{◌≡◌, ℕ, ◌+◌, ◌*◌, ◌≤◌, None}
use Rattle.sc_isa_image.specs.Lookups.{text_at}
use Rattle.sc_tool_machine.proofs.steps.placed.Given as goal

abbrev pub invariant-loop-n : goal.invariant-loop-n
invariant-loop-n l = (pc : ℕ) → 0x00100000 + 16 * l.n ≤ pc → text_at l.image pc ≡ None
