use Rattle.sc_session.specs.Transcript.{moment}
use Rattle.sc_session.proofs.AskingLemmas.{eval_said, one_said, run_said, walk_said}
use Rattle.sc_session.proofs.EvaluatingLemmas.{named_there}
use Rattle.sc_session.proofs.SingleLemmas.{mixed_there}
use Rattle.sc_session.proofs.session.Session.go_on.Goals as goal

pub returns-in-Run-clause-step : goal.returns-in-Run-clause-step
returns-in-Run-clause-step g c =
    run_said (g.K.Sink.written c.args.out.now) (g.K.Sink.written c.run.new.out) (moment c.args.self.now (g.F.Files.held c.args.files.now) (g.F.Files.faults c.args.files.now)) (moment c.run.new.self (g.F.Files.held c.run.new.files) (g.F.Files.faults c.run.new.files))
    c.args.go c.in-Run.file c.run.result c.in-Run.is c.run.ensures.runs

pub returns-in-Walk-clause-step : goal.returns-in-Walk-clause-step
returns-in-Walk-clause-step g c =
    walk_said (g.K.Sink.written c.args.out.now) (g.K.Sink.written c.walk.new.out) c.args.self.now c.walk.new.self (g.F.Files.held c.args.files.now) (g.F.Files.faults c.args.files.now)
    c.args.go c.in-Walk.walk c.walk.result c.in-Walk.is c.walk.ensures.walks

pub returns-in-One-clause-step : goal.returns-in-One-clause-step
returns-in-One-clause-step g c =
    one_said (g.K.Sink.written c.args.out.now) c.args.self.now c.step_one.new.self (g.F.Files.held c.args.files.now) (g.F.Files.faults c.args.files.now) c.args.go c.step_one.result c.in-One.is c.step_one.ensures

pub step_one-requires : goal.step_one-requires
step_one-requires g c = mixed_there c.args.self.now c.args.go c.in-One.is c.requires.allowed

pub returns-in-Eval-clause-step : goal.returns-in-Eval-clause-step
returns-in-Eval-clause-step g c =
    eval_said (g.K.Sink.written c.args.out.now) (g.K.Sink.written c.eval.new.out) c.args.self.now c.eval.new.self (g.F.Files.held c.args.files.now) (g.F.Files.faults c.args.files.now)
    c.args.go c.in-Eval.name c.in-Eval.line c.eval.result c.in-Eval.is c.eval.ensures.evaluates

pub eval-requires : goal.eval-requires
eval-requires g c = named_there c.args.self.now c.args.go c.in-Eval.name c.in-Eval.line c.in-Eval.is c.requires.allowed
