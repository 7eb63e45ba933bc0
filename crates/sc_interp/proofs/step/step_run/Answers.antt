use Rattle.std.proofs.Common.{Ok, Err, subst}
use Rattle.sc_interp_machine.specs.Runs as runs
use Rattle.sc_interp.specs.declared.going.Going.TheVariants as going
use Rattle.sc_interp.specs.declared.stepped.Ran.TheVariants as ran
use Rattle.sc_interp.specs.Ran.{RunsTo}
use Rattle.sc_interp.specs.Shows as shows
use Rattle.sc_interp.specs.Steady as steady
use Rattle.sc_interp.specs.Steps.{Is}
use Rattle.sc_interp.proofs.Runs.{ran_there}
use Rattle.sc_interp.proofs.step.step_run.Goals as goal

pub returns-in-Ok-On : goal.returns-in-Ok-On
returns-in-Ok-On c = λ h q s i.
    ran_there h c.args.texts.now s (runs.Runs c.in-Runs.doing c.in-Runs.stmts c.in-Runs.env c.in-Runs.active c.args.callers.now c.args.world.now)
    (Ok (ran.On c.in-Ok-On.shown)) (going.Runs c.runs.new.doing c.runs.new.stmts c.runs.new.env c.in-Runs.active) c.args.callers.now c.runs.new.world
    (subst (λ g. Is s g c.args.callers.now c.args.world.now) c.in-Runs.is i) (subst (λ x. RunsTo (steady.advance h c.args.texts.now (runs.Runs c.in-Runs.doing c.in-Runs.stmts c.in-Runs.env c.in-Runs.active c.args.callers.now c.args.world.now)) (shows.shown h c.args.texts.now (runs.Runs c.in-Runs.doing c.in-Runs.stmts c.in-Runs.env c.in-Runs.active c.args.callers.now c.args.world.now)) (Ok x) (going.Runs c.runs.new.doing c.runs.new.stmts c.runs.new.env c.in-Runs.active) c.args.callers.now c.runs.new.world) c.in-Ok-On.field-0-is (c.in-Ok-On.ensures h c.args.texts.now))

pub returns-in-Ok-Calls : goal.returns-in-Ok-Calls
returns-in-Ok-Calls c = λ h q s i.
    let p = ran_there h c.args.texts.now s (runs.Runs c.in-Runs.doing c.in-Runs.stmts c.in-Runs.env c.in-Runs.active c.args.callers.now c.args.world.now)
    (Ok ran.Calls) (going.Runs c.runs.new.doing c.runs.new.stmts c.runs.new.env c.in-Runs.active) c.args.callers.now c.runs.new.world
    (subst (λ g. Is s g c.args.callers.now c.args.world.now) c.in-Runs.is i) (subst (λ x. RunsTo (steady.advance h c.args.texts.now (runs.Runs c.in-Runs.doing c.in-Runs.stmts c.in-Runs.env c.in-Runs.active c.args.callers.now c.args.world.now)) (shows.shown h c.args.texts.now (runs.Runs c.in-Runs.doing c.in-Runs.stmts c.in-Runs.env c.in-Runs.active c.args.callers.now c.args.world.now)) (Ok x) (going.Runs c.runs.new.doing c.runs.new.stmts c.runs.new.env c.in-Runs.active) c.args.callers.now c.runs.new.world) c.in-Ok-Calls.field-0-is (c.in-Ok-Calls.ensures h c.args.texts.now)) in
    c.sends.ensures (steady.advance h c.args.texts.now s) (shows.shown h c.args.texts.now s) p.0 p.1

pub returns-in-Ok-Leaves : goal.returns-in-Ok-Leaves
returns-in-Ok-Leaves c = λ h q s i.
    let p = ran_there h c.args.texts.now s (runs.Runs c.in-Runs.doing c.in-Runs.stmts c.in-Runs.env c.in-Runs.active c.args.callers.now c.args.world.now)
    (Ok ran.Leaves) (going.Runs c.runs.new.doing c.runs.new.stmts c.runs.new.env c.in-Runs.active) c.args.callers.now c.runs.new.world
    (subst (λ g. Is s g c.args.callers.now c.args.world.now) c.in-Runs.is i) (subst (λ x. RunsTo (steady.advance h c.args.texts.now (runs.Runs c.in-Runs.doing c.in-Runs.stmts c.in-Runs.env c.in-Runs.active c.args.callers.now c.args.world.now)) (shows.shown h c.args.texts.now (runs.Runs c.in-Runs.doing c.in-Runs.stmts c.in-Runs.env c.in-Runs.active c.args.callers.now c.args.world.now)) (Ok x) (going.Runs c.runs.new.doing c.runs.new.stmts c.runs.new.env c.in-Runs.active) c.args.callers.now c.runs.new.world) c.in-Ok-Leaves.field-0-is (c.in-Ok-Leaves.ensures h c.args.texts.now)) in
    c.leaves.ensures (steady.advance h c.args.texts.now s) (shows.shown h c.args.texts.now s) p.0 p.1

pub returns-in-Err : goal.returns-in-Err
returns-in-Err c = λ h q s i e ending.
    (ran_there h c.args.texts.now s (runs.Runs c.in-Runs.doing c.in-Runs.stmts c.in-Runs.env c.in-Runs.active c.args.callers.now c.args.world.now)
    (Err c.in-Err.stop) (going.Runs c.runs.new.doing c.runs.new.stmts c.runs.new.env c.in-Runs.active) c.args.callers.now c.runs.new.world
    (subst (λ g. Is s g c.args.callers.now c.args.world.now) c.in-Runs.is i) (c.in-Err.ensures h c.args.texts.now)) e ending
