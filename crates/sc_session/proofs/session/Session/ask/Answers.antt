use Rattle.std.proofs.Common.{ap, sym, ◌∙◌}
use Rattle.sc_session.specs.Asking.{go_command}
use Rattle.sc_session.specs.Transcript.{asked}
use Rattle.sc_session.proofs.AskingLemmas.{walk_asks}
use Rattle.sc_session.proofs.session.Session.ask.Goals as goal

pub returns-in-Walk : goal.returns-in-Walk
returns-in-Walk c = sym (ap (λ g. asked (go_command g) c.args.self.now) c.in-Walk.is ∙ walk_asks _ c.args.self.now)

pub returns-in-One : goal.returns-in-One
returns-in-One c = sym (ap (λ g. asked (go_command g) c.args.self.now) c.in-One.is)
