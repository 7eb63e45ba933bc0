use Rattle.sc_world.proofs.Places.{starts_so, meant_so}
use Rattle.sc_world.proofs.run.Run.start.Goals as goal

pub returns-clause-starts : goal.returns-clause-starts
returns-clause-starts c =
    starts_so c.args.texts.now c.args.key.now c.args.stack c.args.heap c.args.input c.begun-first.result c.new-callers.result _ c.begun-first.new.world _
    c.new-callers.ensures c.in_ok-world.ensures c.begun-first.ensures c.in_ok-course.ensures

pub returns-clause-meant : goal.returns-clause-meant
returns-clause-meant c =
    meant_so c.args.texts.now c.args.key.now c.args.stack c.args.heap c.args.input _
    (starts_so c.args.texts.now c.args.key.now c.args.stack c.args.heap c.args.input c.begun-first.result c.new-callers.result _ c.begun-first.new.world _
    c.new-callers.ensures c.in_ok-world.ensures c.begun-first.ensures c.in_ok-course.ensures)
