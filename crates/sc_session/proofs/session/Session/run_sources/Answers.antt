use Rattle.std.proofs.Common.{refl, ap, ◌∙◌}
use Rattle.sc_session.specs.Modules.{texts}
use Rattle.sc_session.specs.Transcript.{moment}
use Rattle.sc_session.proofs.SendingLemmas.{no_main, run_unbegun, run_without_main}
use Rattle.sc_session.proofs.session.Session.run_sources.Goals as goal

pub returns-in-Ok-true-clause-runs : goal.returns-in-Ok-true-clause-runs
returns-in-Ok-true-clause-runs g c = c.run_with.ensures.runs

pub returns-in-Ok-false-clause-runs : goal.returns-in-Ok-false-clause-runs
returns-in-Ok-false-clause-runs g c =
    run_without_main (g.K.Sink.written c.args.out.now) (moment c.args.self.now (g.F.Files.held c.args.files.now) (g.F.Files.faults c.args.files.now)) c.args.file c.args.self.now refl
    (no_main c.in-Ok-false.field-0 (texts c.as_slice.result.now) (texts c.args.self.now.modules) c.in-Ok-false.ensures (cc c.in-Ok-false.field-0-test) (ap texts (c.as_slice.ensures.value ∙ ap (λ p. p.modules) c.self.view_is)))

pub returns-in-Err-clause-runs : goal.returns-in-Err-clause-runs
returns-in-Err-clause-runs g c =
    run_unbegun (g.K.Sink.written c.args.out.now) (moment c.args.self.now (g.F.Files.held c.args.files.now) (g.F.Files.faults c.args.files.now)) c.args.file c.args.self.now (g.F.Files.faults c.args.files.now) (g.F.Files.held c.args.files.now) refl refl
