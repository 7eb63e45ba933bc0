use Rattle.std.proofs.Common.{length, subst}
use Rattle.sc_session_forms.specs.Halts.{MixedTells}
use Rattle.sc_session_forms.proofs.halts.mixed_gone.Goals as goal

pub returns-in-Ok : goal.returns-in-Ok
returns-in-Ok c = record {
  goes = c.go-halt.ensures.goes;
  tells = subst (λ bytes. MixedTells c.args.valued (length bytes) c.go-halt.result c.go-halt.new.self c.in-Ok.text) c.output-before.ensures c.in-Ok.ensures;
}
