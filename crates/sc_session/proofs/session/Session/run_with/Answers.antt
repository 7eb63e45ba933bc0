use Rattle.std.proofs.Common.{refl}
use Rattle.sc_session.specs.Transcript.{moment}
use Rattle.sc_session.proofs.SendingLemmas.{begun_so, run_denied, run_unbegun}
use Rattle.sc_session.proofs.session.Session.run_with.Goals as goal

pub returns-in-Bytes-clause-runs : goal.returns-in-Bytes-clause-runs
returns-in-Bytes-clause-runs g c =
    begun_so (g.K.Sink.written c.args.out.now) (g.K.Sink.written c.start_main.new.out) (moment c.args.self.now (g.F.Files.held c.args.files.now) (g.F.Files.faults c.args.files.now)) c.args.file c.in-Bytes.bytes
    (g.F.Files.faults c.input_of.new.files) (g.F.Files.held c.input_of.new.files) c.start_main.new.self c.start_main.result c.requires.main c.in-Bytes.ensures.finds c.input_of.ensures.held c.start_main.ensures.begins

pub returns-in-Denied-clause-runs : goal.returns-in-Denied-clause-runs
returns-in-Denied-clause-runs g c =
    run_denied (g.K.Sink.written c.args.out.now) (moment c.args.self.now (g.F.Files.held c.args.files.now) (g.F.Files.faults c.args.files.now)) c.args.file
    (g.F.Files.faults c.input_of.new.files) (g.F.Files.held c.input_of.new.files) c.in-Denied.denied c.requires.main c.input_of.ensures.held c.in-Denied.ensures.finds

pub returns-clause-runs : goal.returns-clause-runs
returns-clause-runs g c =
    run_unbegun (g.K.Sink.written c.args.out.now) (moment c.args.self.now (g.F.Files.held c.args.files.now) (g.F.Files.faults c.args.files.now)) c.args.file c.args.self.now
    (g.F.Files.faults c.input_of.new.files) (g.F.Files.held c.input_of.new.files) refl c.input_of.ensures.held
