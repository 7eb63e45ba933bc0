use Rattle.std.proofs.Common.{◌≡◌, drop}
use Rattle.sc_gen_operand.specs.Templates as spec
use Rattle.sc_gen_operand.proofs.templates.last_computed.Given as goal

abbrev pub invariant-loop-i : goal.invariant-loop-i
invariant-loop-i l = spec.last_computed l.slots l.i (drop l.i l.args) l.n ≡ spec.last_computed l.slots 0 l.args 0
