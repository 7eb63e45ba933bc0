use Rattle.std.proofs.lemmas.Result.{err_from_is_err_and}
use Rattle.sc_check_declare.proofs.Steps.{step-taken, step-refused}
use Rattle.sc_check_declare.specs.Declarators.{declarator}
use Rattle.sc_check_declare.proofs.derivation.declarator.Goals as goal

pub returns-in_err-made : goal.returns-in_err-made
returns-in_err-made c =
    let p = err_from_is_err_and c.from_residual.result c.from_residual.ensures.1 in
    rw (p.1, p.2) (
    step-refused c.args.structs.now c.args.line (declarator c.args.structs.now c.args.line c.args.steps c.args.base) c.loop-step.steps c.pop.new.self c.in-Some.step c.loop-step.made c.in_err-made.field-0.0
    c.in-Some.ensures c.in_err-made.ensures c.loop-step.invariant)

pub loop-step-preserved : goal.loop-step-preserved
loop-step-preserved c =
    step-taken c.args.structs.now c.args.line (declarator c.args.structs.now c.args.line c.args.steps c.args.base) c.loop-step.steps c.pop.new.self c.in-Some.step c.loop-step.made c.in_ok-made.made
    c.in-Some.ensures c.in_ok-made.ensures c.loop-step.invariant
