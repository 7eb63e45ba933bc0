use Rattle.std.proofs.Common.{◌∙◌, ap}
use Rattle.sc_check.specs.Units.{with_objects}
use Rattle.sc_check.proofs.Objects.{one_more}
use Rattle.sc_check.proofs.unit.add_objects.Goals as goal

pub loop-given-preserved : goal.loop-given-preserved
loop-given-preserved c =
    ap (with_objects c.args.declared.now) c.in_ok-add_given.ensures
    ∙ one_more c.args.declared.now c.loop-given.m c.pop.new.self c.in-Some.given c.in-Some.ensures
    ∙ c.loop-given.invariant
