use Rattle.std.proofs.Common.{refl, subst}
use Rattle.sc_base.specs.declared.key.Key.{Key}
use Rattle.sc_meaning.specs.Behaviour.{main_key}
use Rattle.sc_session.specs.Going.{BeginsOut}
use Rattle.sc_session.proofs.SendingLemmas.{begin_unbegun}
use Rattle.sc_session.proofs.session.Session.start_main.Goals as goal

pub returns-in-Ok-clause-begins : goal.returns-in-Ok-clause-begins
returns-in-Ok-clause-begins g c =
    subst (λ (k : Key). BeginsOut (g.K.Sink.written c.args.out.now) (g.K.Sink.written c.start.new.out) c.args.self.now k c.args.input c.start.result c.start.new.self) c.in-Ok.ensures c.start.ensures.begins

pub returns-in-Err-clause-begins : goal.returns-in-Err-clause-begins
returns-in-Err-clause-begins g c = begin_unbegun (g.K.Sink.written c.args.out.now) c.args.self.now c.args.self.now main_key c.args.input refl
