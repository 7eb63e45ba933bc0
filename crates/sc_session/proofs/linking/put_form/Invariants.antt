use Rattle.std.proofs.Common.{◌≡◌, ◌++◌, drop, take}
use Rattle.sc_session.specs.Linking as spec
use Rattle.sc_session.proofs.linking.put_form.Given as goal

-- the modules before this place have the form
abbrev pub invariant-loop-p : goal.invariant-loop-p
invariant-loop-p l = take l.p-index l.p-items ++ spec.with_form l.name l.form l.choice (drop l.p-index l.p-items) ≡ spec.with_form l.name l.form l.choice l.fn.modules.items
