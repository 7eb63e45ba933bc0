use Rattle.std.proofs.Common.{ap, sym, ◌∙◌}
use Rattle.sc_world.proofs.Changing.{ends}
use Rattle.sc_world.specs.Changing.{changed_run}
use Rattle.sc_world.specs.Standing.{standing}
use Rattle.sc_world.proofs.change.changed.Goals as goal

pub returns-in_ok-ended_by-in-Err : goal.returns-in_ok-ended_by-in-Err
returns-in_ok-ended_by-in-Err c = λ cs count.
    ends c.args.old.now c.args.new.now c.in-On.going c.in-On.shown cs c.args.world.now c.change.new.world count c.in-Err.stop c.in_ok-ended_by-in-Err.field-0 c.in-Err.ensures (c.in_ok-ended_by-in-Err.ensures c.change.new.world)
    ∙ ap (λ course. changed_run c.args.old.now c.args.new.now (standing course cs c.args.world.now count)) (sym c.in-On.is)
