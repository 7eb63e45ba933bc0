-- One token more, and the end.
use Rattle.std.proofs.Common.{rules, ◌≡◌, [], ◌∷◌}
use Rattle.sc_parse_expr.specs.Reading as spec
use Rattle.sc_parse_expr.proofs.Turns.{reading_on, reading_ends, all_rest, none_left}
use Rattle.sc_parse_expr.proofs.driver.reading.Goals as goal

pub reading-preserved : goal.reading-preserved
reading-preserved c =
    let left : c.reading.left.now ≡ c.in-Some.symbol.now ∷ c.in-Some.rest.now = search rules in
    let depth = c.opens_with-depth.ensures in
    record {
      rest = rw depth (reading_on (spec.read 0 1 0 (spec.start c.args.names.now) c.args.symbols.now) c.reading.depth c.reading.last c.reading.taken (c.reading.names, (c.reading.frames, c.reading.state))
          c.reading.left.now c.in-Some.symbol.now c.in-Some.rest.now c.in_ok-x.field-0 c.one_token.new.names c.one_token.new.frames c.in-Open.next c.reading.invariant.rest left c.in_ok-x.ensures.turns c.in-Open.is);
      shallow = search rules;
      count = search rules;
      symbols = all_rest c.reading.left.now c.in-Some.symbol.now c.in-Some.rest.now c.reading.invariant.symbols left;
    }

pub returns : goal.returns
returns c =
    let left : c.reading.left.now ≡ [] = none_left c.reading.left.now c.in_default.ensures.cases in
    reading_ends (spec.read 0 1 0 (spec.start c.args.names.now) c.args.symbols.now) c.reading.depth c.reading.last c.reading.taken (c.reading.names, (c.reading.frames, c.reading.state))
    c.reading.left.now c.at_end.result c.at_end.new.names c.reading.invariant.rest left (c.at_end.ensures c.reading.depth)
