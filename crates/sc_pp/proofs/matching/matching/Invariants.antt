use Rattle.std.proofs.Common.{◌≡◌, [], length}
use Rattle.sc_pp.specs.Lines as spec
use Rattle.sc_pp.proofs.matching.matching.Given as goal

abbrev pub invariant-lines : goal.invariant-lines
invariant-lines l = spec.matching l.count l.done l.lines ≡ spec.matching 0 [] l.fn.lines

abbrev pub decreases-lines : goal.decreases-lines
decreases-lines l = length l.lines
