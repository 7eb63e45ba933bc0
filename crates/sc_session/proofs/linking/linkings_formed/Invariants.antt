use Rattle.std.proofs.Common.{◌≡◌, ◌++◌, drop, map}
use Rattle.sc_base.specs.declared.memory.Form.TheVariants as form
use Rattle.sc_session.specs.Linking as spec
use Rattle.sc_session.proofs.linking.linkings_formed.Given as goal

abbrev pub invariant-loop-p : goal.invariant-loop-p
invariant-loop-p l = l.all ++ map spec.linking_of (spec.with_form l.name form.Object l.choice (drop l.p-index l.modules)) ≡ map spec.linking_of (spec.with_form l.name form.Object l.choice l.modules)
