use Rattle.sc_session.proofs.PlacingLemmas.{modules_begin, modules_end, modules_lack, modules_more, rest_none, rest_of}
use Rattle.sc_session.proofs.placing.modules_placed.Goals as goal

pub loop-p-init : goal.loop-p-init
loop-p-init c = modules_begin c.args.old.now c.args.functions.now c.args.kept.now c.args.new.now c.args.placed.now c.in-Ok.same c.in-Ok.ensures

pub loop-p-preserved : goal.loop-p-preserved
loop-p-preserved c =
    modules_more c.args.old.now c.args.functions.now c.args.kept.now c.args.new.now c.args.placed.now c.loop-p.next c.p-item.result _ _ c.in-Ok-module_placed.more
    (rest_of c.args.new.now c.loop-p.p-index c.p-item.result c.p-item.is c.loop-p-test.true) c.in-Ok-module_placed.ensures.ok c.loop-p.invariant

pub returns-in-Err-clause-short : goal.returns-in-Err-clause-short
returns-in-Err-clause-short c =
    modules_lack c.args.old.now c.args.functions.now c.args.kept.now c.args.new.now c.args.placed.now c.loop-p.next c.p-item.result _ _ c.in-Err.fault
    (rest_of c.args.new.now c.loop-p.p-index c.p-item.result c.p-item.is c.loop-p-test.true) c.loop-p.invariant c.in-Err.ensures.short

pub returns-clause-ok : goal.returns-clause-ok
returns-clause-ok c =
    modules_end c.args.old.now c.args.functions.now c.args.kept.now c.args.new.now c.args.placed.now c.loop-p.next _ (rest_none c.args.new.now c.loop-p.p-index c.loop-p-test.false) c.loop-p.invariant
