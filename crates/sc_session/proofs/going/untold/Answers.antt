use Rattle.sc_session.proofs.SendingLemmas.{known_open}
use Rattle.sc_session.proofs.going.untold.Goals as goal

pub returns : goal.returns
returns c =
    known_open c.args.run.now c.world.result.now c.args.before c.args.halted.sent c.args.within c.stays_in_line.result c.between-sent.result.now c.output.result.now
    (c.is_known.ensures c.if-not-is_known.false) c.world.ensures c.output.ensures c.between-sent.ensures c.stays_in_line.ensures
