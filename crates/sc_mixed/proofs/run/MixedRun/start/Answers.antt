use Rattle.std.proofs.Common.{◌∙◌}
use Rattle.sc_mixed.proofs.Starts.{starts_there}
use Rattle.sc_mixed.proofs.run.MixedRun.start.Goals as goal

pub returns : goal.returns
returns c =
    starts_there c.args.texts.now c.args.image c.args.key.now c.args.stack c.args.heap c.args.input c.in_ok-layout.layout.functions c.in_ok-layout.layout.places c.begun-first.result c.no_calls-calls.result c.begun-first.new.calls c.name_entry.new.self c.begun-first.new.world c.in_ok-course.course
    c.no_calls-calls.ensures (c.name_entry.ensures ∙ c.in_ok-world.ensures) c.begun-first.ensures c.in_ok-course.ensures
