use Rattle.std.proofs.Common.{refl}
use Rattle.sc_session_forms.specs.Forms.{are_sources}
use Rattle.sc_session.specs.Modules.{texts}
use Rattle.sc_session.specs.Transcript.{moment}
use Rattle.sc_session.proofs.MixingLemmas.{runs_neither}
use Rattle.sc_session.proofs.session.Session.run.Goals as goal

pub returns-in_default-clause-runs : goal.returns-in_default-clause-runs
returns-in_default-clause-runs g c =
    runs_neither (g.K.Sink.written c.args.out.now) (are_sources (texts c.args.self.now.modules)) (moment c.args.self.now (g.F.Files.held c.args.files.now) (g.F.Files.faults c.args.files.now)) c.args.file c.args.self.now refl
