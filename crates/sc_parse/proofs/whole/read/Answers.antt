-- One token more, a token that is refused, and the end.
use Rattle.std.proofs.Common.{rules, ◌≡◌, [], ◌∷◌}
use Rattle.sc_parse_unit.specs.Machine.{start}
use Rattle.sc_parse_unit.specs.Parse.{answer}
use Rattle.sc_parse.proofs.Turns.{reading_on, reading_stops, reading_ends, all_rest, first_is, none_left}
use Rattle.sc_parse.proofs.whole.read.Goals as goal

pub take-requires : goal.take-requires
take-requires c =
    let left : c.symbols.left.now ≡ c.in-Some.symbol.now ∷ c.in-Some.rest.now = search rules in
    record {
      symbol = first_is c.symbols.left.now c.in-Some.symbol.now c.in-Some.rest.now c.symbols.invariant.named left;
      few = c.symbols.invariant.few;
    }

pub symbols-preserved : goal.symbols-preserved
symbols-preserved c =
    let left : c.symbols.left.now ≡ c.in-Some.symbol.now ∷ c.in-Some.rest.now = search rules in
    record {
      whole = rw c.opens_with-count.ensures (reading_on (answer 0 1 start c.args.symbols.now) c.symbols.count c.symbols.line (c.symbols.names, (c.symbols.around, c.symbols.stage))
          c.symbols.left.now c.in-Some.symbol.now c.in-Some.rest.now c.take.new.names c.take.new.around c.in-Ok.next c.symbols.invariant.whole left c.in-Ok.ensures.turns);
      few = search rules;
      named = all_rest c.symbols.left.now c.in-Some.symbol.now c.in-Some.rest.now c.symbols.invariant.named left;
    }

pub returns-in-Err : goal.returns-in-Err
returns-in-Err c =
    let left : c.symbols.left.now ≡ c.in-Some.symbol.now ∷ c.in-Some.rest.now = search rules in
    reading_stops (answer 0 1 start c.args.symbols.now) c.symbols.count c.symbols.line (c.symbols.names, (c.symbols.around, c.symbols.stage))
    c.symbols.left.now c.in-Some.symbol.now c.in-Some.rest.now c.in-Err.fault c.take.new.names c.take.new.around c.symbols.invariant.whole left c.in-Err.ensures.turns

pub returns : goal.returns
returns c =
    let left : c.symbols.left.now ≡ [] = none_left c.symbols.left.now c.in_default.ensures.cases in
    reading_ends (answer 0 1 start c.args.symbols.now) c.symbols.count c.symbols.line (c.symbols.names, (c.symbols.around, c.symbols.stage))
    c.symbols.left.now c.finish.result c.symbols.invariant.whole left c.finish.ensures
