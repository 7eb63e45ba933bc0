use Rattle.sc_session.specs.Asking.{go_command}
use Rattle.sc_session.specs.Transcript.{moment}
use Rattle.sc_session.proofs.AskingLemmas.{go_goes}
use Rattle.sc_session.proofs.SendingLemmas.{goes_so, refused_so}
use Rattle.sc_session.proofs.session.Session.let_go.Goals as goal

pub returns-in-Some-clause-step : goal.returns-in-Some-clause-step
returns-in-Some-clause-step g c =
    refused_so (moment c.args.self.now (g.F.Files.held c.args.files.now) (g.F.Files.faults c.args.files.now)) (go_command c.args.go) c.ask.new.self c.going_denied.result c.ask.ensures c.going_denied.ensures
    (g.K.Sink.written c.args.out.now) c.in-Some.denied c.in-Some.is

pub returns-in-None-clause-step : goal.returns-in-None-clause-step
returns-in-None-clause-step g c =
    goes_so (moment c.args.self.now (g.F.Files.held c.args.files.now) (g.F.Files.faults c.args.files.now)) (go_command c.args.go) c.ask.new.self c.going_denied.result c.ask.ensures c.going_denied.ensures
    (moment c.go_on.new.self (g.F.Files.held c.go_on.new.files) (g.F.Files.faults c.go_on.new.files)) c.in-None.is (g.K.Sink.written c.args.out.now) (g.K.Sink.written c.go_on.new.out) c.go_on.result
    (go_goes c.args.go) c.go_on.ensures.held c.go_on.ensures.step
