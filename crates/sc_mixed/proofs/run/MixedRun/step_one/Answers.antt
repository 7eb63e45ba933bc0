use Rattle.std.proofs.Common.{ap, sym, ◌∙◌}
use Rattle.sc_mixed.specs.Goes.{want_from}
use Rattle.sc_mixed.specs.Parts.{standing_at}
use Rattle.sc_mixed.proofs.Singles.{step_so, steps_lead, steps_one}
use Rattle.sc_words.specs.declared.stop.Walk.TheVariants.{Cont}
use Rattle.sc_mixed.proofs.run.MixedRun.step_one.Goals as goal

pub returns-clause-steps : goal.returns-clause-steps
returns-clause-steps c =
    step_so c.args.texts.now c.args.stops.now c.new.result c.enters.result c.args.self.now
    (standing_at c.self.inside.image c.self.inside.calls c.self.inside.world c.replace-course.result)
    (standing_at c.self.inside.image c.steps_from-stepped.new.calls c.steps_from-stepped.new.world c.steps_from-stepped.result.course)
    (standing_at c.self.inside.image c.steps_from-stepped.new.calls c.steps_from-stepped.new.world c.replace.new.dest)
    c.steps_from-stepped.result.halt c.new.ensures
    (c.enters.ensures ∙ ap (λ m. m.world.enters) c.self.view_is)
    (ap (λ x. standing_at c.self.inside.image c.self.inside.calls c.self.inside.world x) c.replace-course.ensures.value ∙ c.self.view_is)
    (ap (λ x. standing_at c.self.inside.image c.steps_from-stepped.new.calls c.steps_from-stepped.new.world x) (sym c.replace.ensures.after))
    c.steps_from-stepped.ensures

pub returns-clause-adds : goal.returns-clause-adds
returns-clause-adds c =
    steps_lead c.args.texts.now (want_from c.args.stops.now Cont 0 c.args.self.now) c.args.self.now c.steps_from-stepped.result.halt
    (standing_at c.self.inside.image c.steps_from-stepped.new.calls c.steps_from-stepped.new.world c.replace.new.dest) (returns-clause-steps c)

pub returns-clause-one : goal.returns-clause-one
returns-clause-one c =
    steps_one c.args.texts.now (want_from c.args.stops.now Cont 0 c.args.self.now) c.args.self.now c.steps_from-stepped.result.halt
    (standing_at c.self.inside.image c.steps_from-stepped.new.calls c.steps_from-stepped.new.world c.replace.new.dest) (returns-clause-steps c)
