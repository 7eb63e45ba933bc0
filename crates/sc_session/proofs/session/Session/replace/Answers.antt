use Rattle.std.proofs.Common.{rules}
use Rattle.sc_session.proofs.TakenLemmas.{takes_place}
use Rattle.sc_session.proofs.session.Session.replace.Goals as goal

pub returns : goal.returns
returns c = takes_place c.args.self.now c.args.built c.in-Some.loaded c.in-Ok.new c.put.result c.put.new.self (search rules) (search rules) c.put.ensures
