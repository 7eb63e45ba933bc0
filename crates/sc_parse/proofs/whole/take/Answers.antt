-- A token that is taken, one that is refused, and one bracket too many.
use Rattle.std.proofs.Common.{arith}
use Rattle.sc_parse.proofs.Turns.{turn_ok, turn_err, turn_deep}
use Rattle.sc_parse.proofs.whole.take.Goals as goal

pub returns-then-open-gt-MAX_OPEN : goal.returns-then-open-gt-MAX_OPEN
returns-then-open-gt-MAX_OPEN c = record {
  within = tt;
  turns = turn_deep c.args.count c.args.before (c.args.names.now, (c.args.around.now, c.args.stage)) c.args.token.now c.args.names.now c.args.around.now c.too_high.result (omega arith) c.too_high.ensures;
}

pub returns-in-Ok : goal.returns-in-Ok
returns-in-Ok c = record {
  within = omega arith;
  turns = turn_ok c.args.count c.args.before (c.args.names.now, (c.args.around.now, c.args.stage)) c.args.token.now c.advance.new.names c.advance.new.around c.in-Ok.next (omega arith) c.in-Ok.ensures;
}

pub returns-in-Err : goal.returns-in-Err
returns-in-Err c = record {
  within = tt;
  turns = turn_err c.args.count c.args.before (c.args.names.now, (c.args.around.now, c.args.stage)) c.args.token.now c.advance.new.names c.advance.new.around c.in-Err.obstacle c.refusal.result (omega arith) c.in-Err.ensures
      c.refusal.ensures.gives c.refusal.ensures.memory;
}
