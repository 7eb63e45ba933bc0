use Rattle.sc_types.proofs.Members.{padded_too_large}
use Rattle.sc_types.proofs.layout.ended.Goals as goal

pub returns-in-None-clause-same : goal.returns-in-None-clause-same
returns-in-None-clause-same c = padded_too_large c.args.is_union c.args.s.now c.args.members.now c.in-None.ensures.same
