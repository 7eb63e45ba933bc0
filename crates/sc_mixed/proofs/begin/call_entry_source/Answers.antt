use Rattle.sc_mixed.proofs.Starts.{entry_ends, entry_so}
use Rattle.sc_mixed.proofs.begin.call_entry_source.Goals as goal

pub returns-in-Ok : goal.returns-in-Ok
returns-in-Ok c = entry_so c.args.texts.now c.args.key.now c.args.calls.now c.args.world.now c.call_entry.new.world c.in-Ok.going c.call_entry.result c.entry-shown.result c.call_entry.ensures c.in-Ok.is c.entry-shown.ensures

pub returns-in-Err : goal.returns-in-Err
returns-in-Err c = entry_ends c.args.texts.now c.args.key.now c.args.calls.now c.args.world.now c.call_entry.new.world c.in-Err.stop c.call_entry.result c.call_entry.ensures c.in-Err.is
