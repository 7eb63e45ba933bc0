use Rattle.std.proofs.Common.{length, subst}
use Rattle.sc_session_forms.specs.Stepped.{StepTells}
use Rattle.sc_session_forms.proofs.stepped.step_gone.Goals as goal

pub returns-in-Ok : goal.returns-in-Ok
returns-in-Ok c = record {
  steps = c.step_one-halt.ensures.steps;
  tells = subst (λ bytes. StepTells c.args.valued (length bytes) c.step_one-halt.result c.step_one-halt.new.self c.in-Ok.text) c.output-before.ensures c.in-Ok.ensures;
}
