-- One symbol more.
use Rattle.std.proofs.Common.{rules, ◌≡◌, ◌∷◌}
use Rattle.sc_parse_unit.specs.Machine.{run, start}
use Rattle.sc_parse.proofs.Turns.{all_rest}
use Rattle.sc_eval.proofs.Scopes.{reads_on}
use Rattle.sc_eval.proofs.place.names_behind.Goals as goal

pub symbols-preserved : goal.symbols-preserved
symbols-preserved c =
    let left : c.symbols.left.now ≡ c.in-Some.symbol.now ∷ c.in-Some.rest.now = search rules in
    record {
      whole = reads_on (run start c.args.symbols.now) (c.symbols.names, (c.symbols.around, c.symbols.stage)) (c.advance.new.names, (c.advance.new.around, c.in-Ok.next)) c.symbols.left.now c.in-Some.rest.now
          c.in-Some.symbol.now c.symbols.invariant.whole left c.in-Ok.ensures;
      named = all_rest c.symbols.left.now c.in-Some.symbol.now c.in-Some.rest.now c.symbols.invariant.named left;
    }
