use Rattle.std.proofs.Common.{◌≡◌, drop}
use Rattle.sc_meaning.specs.Expressions as spec
use Rattle.sc_interp_parts.proofs.names.automatic_in.Given as goal

abbrev pub invariant-loop-o : goal.invariant-loop-o
invariant-loop-o l = spec.automatic_in (drop l.o-index l.blocks) l.b l.i ≡ spec.automatic_in l.blocks l.b l.i
