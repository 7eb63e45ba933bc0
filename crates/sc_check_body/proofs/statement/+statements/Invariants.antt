-- What the rest gives from here is what all give from the beginning.
use Rattle.std.proofs.Common.{◌≡◌, drop, map}
use Rattle.sc_check_body.specs.Blocks.{standing, statements}
use Rattle.sc_check_body.proofs.statement.+statements.Given as goal

abbrev pub invariant-listed-loop-s : goal.invariant-listed-loop-s
invariant-listed-loop-s l = statements l.around l.switched (map standing (drop l.s-index l.statements)) l.done (l.m, l.f) ≡ statements l.around l.switched (map standing l.statements) l.fn.before (l.fn.m, l.fn.f)
