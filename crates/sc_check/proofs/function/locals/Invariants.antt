-- What the rest gives from here is what all give from the beginning.
use Rattle.std.proofs.Common.{◌≡◌, [], drop}
use Rattle.sc_check.specs.Functions.{locals}
use Rattle.sc_check.proofs.function.locals.Given as goal

abbrev pub invariant-loop-p : goal.invariant-loop-p
invariant-loop-p l = locals (drop l.p-index l.list) l.done l.st ≡ locals l.list [] l.st
