use Rattle.std.proofs.Common.{◌≡◌, subst, Ok}
use Rattle.sc_interp.specs.Steady as steady
use Rattle.sc_interp.specs.Steady.{alone}
use Rattle.sc_interp.specs.Steps.{Brings}
use Rattle.sc_interp.proofs.Unchanged.{quiet}
use Rattle.sc_interp.proofs.Whole.{answer_finishes, call_finishes, finishes_here, first_of, steps_used_up}
use Rattle.sc_interp.proofs.running.started.Goals as goal

pub returns-in_err-a : goal.returns-in_err-a
returns-in_err-a c = λ s is at begins.
    finishes_here s c.args.steps c.from_residual-in_err-a.result c.in_err-a.field-0.0 c.entry_called.new.world c.from_residual-in_err-a.ensures.1
    (call_finishes c.args.texts.now s c.args.key.now c.args.steps c.args.world.now c.statics_born.new.world c.entry_called.new.world c.in_err-a.field-0.0 is at begins c.in_ok-statics_born.ensures
    (c.in_err-a.ensures (alone c.args.texts.now) (quiet c.args.texts.now)))

pub returns-in_ok-comes_back-in-Answer : goal.returns-in_ok-comes_back-in-Answer
returns-in_ok-comes_back-in-Answer c = λ s is at begins.
    answer_finishes c.args.texts.now s c.args.key.now c.args.steps c.args.world.now c.statics_born.new.world c.entry_called.new.world c.comes_back.new.self c.in-Answer.a c.status_of.result is at begins
    c.in_ok-statics_born.ensures
    (subst (λ r. Brings (steady.ran c.args.steps (alone c.args.texts.now) c.args.texts.now (first_of c.args.texts.now c.args.key.now c.statics_born.new.world)) (Ok r) c.entry_called.new.world) c.in-Answer.is
    (c.in_ok-a.ensures (alone c.args.texts.now) (quiet c.args.texts.now)))
    c.status_of.ensures c.in_ok-comes_back-in-Answer.ensures

pub returns-in-Nowhere : goal.returns-in-Nowhere
returns-in-Nowhere c = λ s is at begins.
    steps_used_up c.args.texts.now s c.args.key.now c.args.steps c.args.world.now c.statics_born.new.world c.entry_called.new.world is at begins c.in_ok-statics_born.ensures
    (subst (λ r. Brings (steady.ran c.args.steps (alone c.args.texts.now) c.args.texts.now (first_of c.args.texts.now c.args.key.now c.statics_born.new.world)) (Ok r) c.entry_called.new.world) c.in-Nowhere.is
    (c.in_ok-a.ensures (alone c.args.texts.now) (quiet c.args.texts.now)))
