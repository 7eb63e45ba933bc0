use Rattle.sc_mixed.proofs.Telling.{after_kept}
use Rattle.sc_mixed.proofs.moves.after.Goals as goal

pub returns-in-Returned-clause-last : goal.returns-in-Returned-clause-last
returns-in-Returned-clause-last c =
    after_kept c.args.done.went c.args.done.count c.args.calls.now c.args.world.now c.leave_code.new.self c.after_return.result c.after_return.new.next c.after_return.new.calls
    c.in-Returned.is c.leave_code.ensures c.after_return.ensures
