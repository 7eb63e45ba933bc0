use Rattle.sc_session.specs.Transcript.{moment}
use Rattle.sc_session.proofs.MixingLemmas.{mixed_begun, mixed_denied}
use Rattle.sc_session.proofs.session.Session.run_mixed_with.Goals as goal

pub returns-in-Bytes-clause-runs : goal.returns-in-Bytes-clause-runs
returns-in-Bytes-clause-runs g c =
    mixed_begun (moment c.args.self.now (g.F.Files.held c.args.files.now) (g.F.Files.faults c.args.files.now)) c.args.file c.in-Bytes.bytes
    (g.F.Files.faults c.input_of.new.files) (g.F.Files.held c.input_of.new.files) c.start_main_mixed.new.self c.requires.main c.in-Bytes.ensures.finds c.input_of.ensures.held c.start_main_mixed.result c.start_main_mixed.ensures

pub returns-in-Denied-clause-runs : goal.returns-in-Denied-clause-runs
returns-in-Denied-clause-runs g c =
    mixed_denied (moment c.args.self.now (g.F.Files.held c.args.files.now) (g.F.Files.faults c.args.files.now)) c.args.file
    (g.F.Files.faults c.input_of.new.files) (g.F.Files.held c.input_of.new.files) c.in-Denied.denied c.requires.main c.input_of.ensures.held c.in-Denied.ensures.finds
