use Rattle.std.proofs.Common.{ap, refl, sym, subst, ◌∙◌, ◌⊎◌}
use Rattle.sc_mixed.specs.Goes.{GoesTo, want_from}
use Rattle.sc_mixed.specs.Parts.{standing_at}
use Rattle.sc_mixed.proofs.Growing.{goes_lead}
use Rattle.sc_mixed.proofs.Resting.{go_so}
use Rattle.sc_mixed.proofs.run.MixedRun.go.Goals as goal

pub returns-clause-goes : goal.returns-clause-goes
returns-clause-goes c =
    go_so c.args.texts.now c.args.stops.now c.new.result c.args.walk c.args.turns c.enters.result c.args.self.now
    (standing_at c.self.inside.image c.self.inside.calls c.self.inside.world c.replace-course.result)
    (standing_at c.self.inside.image c.goes_from-rested.new.calls c.goes_from-rested.new.world c.goes_from-rested.result.course)
    (standing_at c.self.inside.image c.goes_from-rested.new.calls c.goes_from-rested.new.world c.replace.new.dest)
    c.goes_from-rested.result.halt c.new.ensures
    (c.enters.ensures ∙ ap (λ m. m.world.enters) c.self.view_is)
    (ap (λ x. standing_at c.self.inside.image c.self.inside.calls c.self.inside.world x) c.replace-course.ensures.value ∙ c.self.view_is)
    (ap (λ x. standing_at c.self.inside.image c.goes_from-rested.new.calls c.goes_from-rested.new.world x) (sym c.replace.ensures.after))
    c.goes_from-rested.ensures.goes

pub returns-clause-adds : goal.returns-clause-adds
returns-clause-adds c =
    goes_lead c.args.texts.now (want_from c.args.stops.now c.args.walk c.args.turns c.args.self.now) c.args.self.now c.goes_from-rested.result.halt
    (standing_at c.self.inside.image c.goes_from-rested.new.calls c.goes_from-rested.new.world c.replace.new.dest) (returns-clause-goes c)
