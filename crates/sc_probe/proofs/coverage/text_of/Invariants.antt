use Rattle.std.proofs.Common.{◌≡◌, ◌++◌}
use Rattle.sc_probe.specs.Covered as spec
use Rattle.sc_probe.proofs.coverage.text_of.Given as goal

abbrev pub invariant-loop-line : goal.invariant-loop-line
invariant-loop-line l = (l.text.items ++ spec.coverage_text l.line-iterator) ≡ spec.coverage_text l.lines.entries
