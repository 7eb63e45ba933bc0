-- What the machine makes of the end.
use Rattle.sc_parse.proofs.Turns.{finish_ok}
use Rattle.sc_parse.proofs.whole.finish.Goals as goal

pub returns-in-Ok : goal.returns-in-Ok
returns-in-Ok c =
    finish_ok c.args.count c.args.before (c.args.names.now, (c.args.around.now, c.args.stage)) c.end_symbol-end.result c.advance.new.names c.advance.new.around c.in-Ok.next c.ended.result
    c.end_symbol-end.ensures c.in-Ok.ensures (c.ended.ensures c.advance.new.names)
