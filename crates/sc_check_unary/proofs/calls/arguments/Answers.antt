use Rattle.std.proofs.Common.{[]}
use Rattle.sc_check_unary.specs.Calls.{arguments}
use Rattle.sc_check_unary.proofs.Arguments.{goes_on, stops, passed_up}
use Rattle.sc_check_unary.proofs.calls.arguments.Goals as goal

pub returns-in_err-value : goal.returns-in_err-value
returns-in_err-value c =
    let whole = arguments c.args.structs.now c.args.line c.args.params.now 0 [] c.args.args.now in
    passed_up whole c.from_residual-in_err-value.result c.in_err-value.field-0.0 c.from_residual-in_err-value.ensures.1
    (stops c.args.structs.now c.args.line c.args.params.now c.loop-i.i c.loop-i.done c.args.args.now c.index-args-i.result c.in_ok-e.e c.loop-i-test.true c.index-args-i.is c.in_ok-e.ensures c.in_err-value.field-0.0 whole c.in_err-value.ensures c.loop-i.invariant)

pub loop-i-preserved : goal.loop-i-preserved
loop-i-preserved c =
    let whole = arguments c.args.structs.now c.args.line c.args.params.now 0 [] c.args.args.now in
    goes_on c.args.structs.now c.args.line c.args.params.now c.loop-i.i c.loop-i.done c.args.args.now c.index-args-i.result c.in_ok-e.e c.loop-i-test.true c.index-args-i.is c.in_ok-e.ensures c.in_ok-value.value c.push.new.self whole c.in_ok-value.ensures c.in_ok-push.ensures.ok c.loop-i.invariant
