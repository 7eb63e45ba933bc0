use Rattle.std.proofs.Common.{sym, ◌∙◌}
use Rattle.sc_mixed.specs.Parts.{standing_at}
use Rattle.sc_mixed.proofs.Changing.{changed_where}
use Rattle.sc_mixed.proofs.run.MixedRun.change.Goals as goal

pub returns-in-Ok-clause-changes : goal.returns-in-Ok-clause-changes
returns-in-Ok-clause-changes c =
    changed_where c.follow.result c.args.old.now c.args.new.now (standing_at c.self.inside.image c.self.inside.calls c.self.inside.world c.self.inside.course) c.args.self.now c.follow.new.self c.place_anew.new.world
    c.self.view_is (sym c.goes_on.ensures ∙ c.if-not-goes_on.false) c.in-Ok.ensures c.follow.ensures.changes
