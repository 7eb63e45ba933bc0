use Rattle.std.proofs.Common.{rules}
use Rattle.sc_session.proofs.TakenLemmas.{joins}
use Rattle.sc_session.proofs.session.Session.take.Goals as goal

pub returns : goal.returns
returns c = joins c.args.self.now c.args.built c.in-Some.loaded c.in-Ok.new c.add.result c.add.new.self (search rules) (search rules) c.add.ensures
