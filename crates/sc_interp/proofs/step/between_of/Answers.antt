use Rattle.std.proofs.Common.{subst}
use Rattle.sc_interp_machine.specs.Runs as runs
use Rattle.sc_interp.specs.Steady as steady
use Rattle.sc_interp.specs.Steps.{Is}
use Rattle.sc_interp.proofs.Whole.{from_there, makes_there}
use Rattle.sc_interp.proofs.step.between_of.Goals as goal

pub returns-in-Makes : goal.returns-in-Makes
returns-in-Makes c = λ h q s i.
    makes_there h c.args.texts.now s c.in-Makes.t c.in-Makes.v c.as_slice.result.now c.in-Makes.vs c.in-Makes.caller c.args.callers.now c.makes-given.new.callers c.args.world.now c.makes-given.new.world
    c.makes-given.result c.entered.result c.entered.new.going (subst (λ g. Is s g c.args.callers.now c.args.world.now) c.in-Makes.is i) c.as_slice.ensures (c.makes-given.ensures h q) c.entered.ensures

pub returns-in-Answers : goal.returns-in-Answers
returns-in-Answers c = λ h q s i.
    from_there h c.args.texts.now s (runs.Answers c.in-Answers.a c.args.callers.now c.args.world.now)
    c.quietly.result c.quietly.new.going c.answers-given.new.callers c.args.world.now (subst (λ g. Is s g c.args.callers.now c.args.world.now) c.in-Answers.is i)
    (c.quietly.ensures (steady.advance h c.args.texts.now (runs.Answers c.in-Answers.a c.args.callers.now c.args.world.now)) c.answers-given.new.callers c.args.world.now (c.answers-given.ensures h c.args.texts.now))
