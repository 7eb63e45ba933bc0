use Rattle.std.proofs.Common.{◌≡◌, replicate}
use Rattle.sc_core.specs.declared.module.Init.TheVariants as init
use Rattle.sc_interp_changes.proofs.contents.zero_bytes.Given as goal

abbrev pub invariant-loop : goal.invariant-loop
invariant-loop l = l.bytes ≡ replicate l.counter (init.Byte 0)
