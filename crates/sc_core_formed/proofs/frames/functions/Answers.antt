use Rattle.std.proofs.Common.{◌≡◌, true, false, sym, ◌∙◌}
use Rattle.sc_core_formed.specs.Frames.{is_function}
use Rattle.sc_core_formed.proofs.Bodies.{fails, goes_on}
use Rattle.sc_core_formed.proofs.frames.functions.Goals as goal

pub returns-then-not-branch : goal.returns-then-not-branch
returns-then-not-branch c =
    let core = c.args.m.now.core.now in
    let wrong : is_function core c.get.result.now ≡ false = sym c.in_ok-is_function.ensures ∙ c.if-not-branch.true in
    fails core c.args.funs.now c.loop-f.f-index c.f-item.result c.get.result.now c.loop-f-test.true c.f-item.is c.get.ensures c.loop-f.invariant wrong

pub loop-f-preserved : goal.loop-f-preserved
loop-f-preserved c =
    let core = c.args.m.now.core.now in
    let right : is_function core c.get.result.now ≡ true = sym c.in_ok-is_function.ensures ∙ c.if-not-branch.false in
    goes_on core c.args.funs.now c.loop-f.f-index c.f-item.result c.get.result.now c.loop-f-test.true c.f-item.is c.get.ensures c.loop-f.invariant right
