use Rattle.sc_mixed.specs.Parts.{standing_at}
use Rattle.sc_mixed.proofs.Changing.{follow_ends}
use Rattle.sc_mixed.proofs.run.MixedRun.follow.Goals as goal

pub returns-in-Err-clause-changes : goal.returns-in-Err-clause-changes
returns-in-Err-clause-changes c =
    follow_ends c.stopped.result c.args.old.now c.args.new.now (standing_at c.self.inside.image c.self.inside.calls c.self.inside.world c.self.inside.course) c.args.self.now c.stopped.new.self c.change.new.world c.in-Err.stop
    c.self.view_is c.in-Err.ensures c.stopped.ensures.short c.stopped.ensures.ends
