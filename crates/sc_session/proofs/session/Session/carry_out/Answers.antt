use Rattle.sc_session.specs.Transcript.{moment}
use Rattle.sc_session.proofs.AskingLemmas.{deed_named, deed_said, go_named, go_said, never_said}
use Rattle.sc_session.proofs.FileLemmas.{keeps_none, keeps_same}
use Rattle.sc_session.proofs.session.Session.carry_out.Goals as goal

pub returns-in-Go-clause-step : goal.returns-in-Go-clause-step
returns-in-Go-clause-step g c =
    go_said (g.K.Sink.written c.args.out.now) (g.K.Sink.written c.let_go.new.out) (moment c.args.self.now (g.F.Files.held c.args.files.now) (g.F.Files.faults c.args.files.now)) c.args.command c.ask_for.result c.in-Go.go c.let_go.result
    (moment c.let_go.new.self (g.F.Files.held c.let_go.new.files) (g.F.Files.faults c.let_go.new.files)) c.ask_for.ensures c.in-Go.is c.let_go.ensures.step

pub returns-in-Do-clause-step : goal.returns-in-Do-clause-step
returns-in-Do-clause-step g c =
    deed_said (g.K.Sink.written c.args.out.now) (moment c.args.self.now (g.F.Files.held c.args.files.now) (g.F.Files.faults c.args.files.now)) c.args.command c.ask_for.result c.in-Do.deed c.undertake.result
    (moment c.undertake.new.self (g.F.Files.held c.undertake.new.files) (g.F.Files.faults c.undertake.new.files)) c.ask_for.ensures c.in-Do.is c.undertake.ensures.step

pub returns-in-Refused-clause-step : goal.returns-in-Refused-clause-step
returns-in-Refused-clause-step g c =
    never_said (g.K.Sink.written c.args.out.now) (moment c.args.self.now (g.F.Files.held c.args.files.now) (g.F.Files.faults c.args.files.now)) c.args.command c.ask_for.result c.in-Refused.denied c.ask_for.ensures c.in-Refused.is

pub returns-in-Go-clause-sources : goal.returns-in-Go-clause-sources
returns-in-Go-clause-sources g c = keeps_same (g.F.Files.held c.args.files.now) (g.F.Files.held c.let_go.new.files) c.let_go.ensures.held

pub returns-in-Refused-clause-sources : goal.returns-in-Refused-clause-sources
returns-in-Refused-clause-sources g c = keeps_none (g.F.Files.held c.args.files.now)

pub let_go-requires : goal.let_go-requires
let_go-requires g c = record { named = go_named c.args.command c.ask_for.result c.in-Go.go c.ask_for.ensures c.in-Go.is c.requires.named }

pub undertake-requires : goal.undertake-requires
undertake-requires g c = record { named = deed_named c.args.command c.ask_for.result c.in-Do.deed c.ask_for.ensures c.in-Do.is c.requires.named }
