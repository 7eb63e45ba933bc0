use Rattle.sc_session.proofs.MixingLemmas.{some_mixed}
use Rattle.sc_session.proofs.session.Session.mixed_value.Goals as goal

pub returns-in-Err : goal.returns-in-Err
returns-in-Err c = let there = some_mixed c.args.self.now.state c.requires in (there.0, there.1, tt)
