use Rattle.std.proofs.Common.{rules, sym, ◌∙◌}
use Rattle.sc_session_conflicts.proofs.Missing.{none_internal, none_missing}
use Rattle.sc_session_conflicts.proofs.clash.some_shared.Goals as goal

pub returns-then-is_internal : goal.returns-then-is_internal
returns-then-is_internal c = λ are. sym (none_internal c.args.test c.args.a.now c.args.d.now c.args.b.now c.args.b.now.declared (sym c.is_internal.ensures ∙ c.if-is_internal.true))

pub returns-then-not-contains : goal.returns-then-not-contains
returns-then-not-contains c = λ are. sym (none_missing c.args.test c.args.a.now c.args.d.now c.args.b.now c.args.external.now.keys are (search rules))
