-- What is left gives what the whole gives.
use Rattle.std.proofs.Common.{◌≡◌, ◌≤◌, length}
use Rattle.std.specs.Prelude.{All}
use Rattle.sc_parse_grammar.specs.Steps.{IsSymbol}
use Rattle.sc_parse_unit.specs.Machine.{start}
use Rattle.sc_parse_unit.specs.Parse.{answer}
use Rattle.sc_parse.proofs.whole.read.Given as goal

abbrev pub invariant-symbols : goal.invariant-symbols
invariant-symbols l = record {
  whole : answer l.count l.line (l.names, (l.around, l.stage)) l.left ≡ answer 0 1 start l.fn.symbols;
  few : l.count ≤ 500;
  named : All IsSymbol l.left;
}

abbrev pub decreases-symbols : goal.decreases-symbols
decreases-symbols l = length l.left
