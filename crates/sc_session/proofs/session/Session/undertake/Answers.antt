use Rattle.std.proofs.Common.{refl}
use Rattle.sc_session.specs.Asking.{deed_command}
use Rattle.sc_session.specs.Transcript.{moment}
use Rattle.sc_session.proofs.AskingLemmas.{deed_done, deed_refused}
use Rattle.sc_session.proofs.FileLemmas.{does_keep, keeps_none}
use Rattle.sc_session.proofs.session.Session.undertake.Goals as goal

pub returns-in-Some-clause-step : goal.returns-in-Some-clause-step
returns-in-Some-clause-step g c = deed_refused (moment c.args.self.now (g.F.Files.held c.args.files.now) (g.F.Files.faults c.args.files.now)) c.args.deed c.deed_denied.result c.in-Some.denied c.deed_denied.ensures c.in-Some.is

pub returns-in-None-clause-step : goal.returns-in-None-clause-step
returns-in-None-clause-step g c =
    deed_done (moment c.args.self.now (g.F.Files.held c.args.files.now) (g.F.Files.faults c.args.files.now)) (moment c.carry.new.self (g.F.Files.held c.carry.new.files) (g.F.Files.faults c.carry.new.files)) c.args.deed c.deed_denied.result c.carry.result
    c.deed_denied.ensures c.in-None.is c.carry.ensures.step

pub returns-in-Some-clause-sources : goal.returns-in-Some-clause-sources
returns-in-Some-clause-sources g c = keeps_none (g.F.Files.held c.args.files.now)

pub returns-in-None-clause-sources : goal.returns-in-None-clause-sources
returns-in-None-clause-sources g c =
    does_keep (moment c.args.self.now (g.F.Files.held c.args.files.now) (g.F.Files.faults c.args.files.now)) (moment c.carry.new.self (g.F.Files.held c.carry.new.files) (g.F.Files.faults c.carry.new.files))
    (deed_command c.args.deed) c.carry.result c.requires.named c.carry.ensures.step
