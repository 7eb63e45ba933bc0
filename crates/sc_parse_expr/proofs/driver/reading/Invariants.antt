-- What is left of the tokens gives what all of them give.
use Rattle.std.proofs.Common.{◌≡◌, ◌≤◌, ◌+◌, length}
use Rattle.std.specs.Prelude.{All}
use Rattle.sc_parse_grammar.specs.Steps.{IsSymbol}
use Rattle.sc_parse_expr.specs.Reading as spec
use Rattle.sc_parse_expr.proofs.driver.reading.Given as goal

abbrev pub invariant-reading : goal.invariant-reading
invariant-reading l = record {
  rest : spec.read l.depth l.last l.taken (l.names, (l.frames, l.state)) l.left ≡ spec.read 0 1 0 (spec.start l.fn.names) l.fn.symbols;
  shallow : l.depth ≤ 500;
  count : l.taken + length l.left ≡ length l.fn.symbols;
  symbols : All IsSymbol l.left;
}

abbrev pub decreases-reading : goal.decreases-reading
decreases-reading l = length l.left
