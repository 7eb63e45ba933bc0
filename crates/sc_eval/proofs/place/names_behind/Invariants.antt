-- What is left gives what the whole gives.
use Rattle.std.proofs.Common.{◌≡◌, length}
use Rattle.std.specs.Prelude.{All}
use Rattle.sc_parse_grammar.specs.Steps.{IsSymbol}
use Rattle.sc_parse_unit.specs.Machine.{run, start}
use Rattle.sc_eval.proofs.place.names_behind.Given as goal

abbrev pub invariant-symbols : goal.invariant-symbols
invariant-symbols l = record {
  whole : run (l.names, (l.around, l.stage)) l.left ≡ run start l.fn.symbols;
  named : All IsSymbol l.left;
}

abbrev pub decreases-symbols : goal.decreases-symbols
decreases-symbols l = length l.left
