use Rattle.sc_mixed.proofs.Changing.{is_taken}
use Rattle.sc_mixed.proofs.change.taken.Goals as goal

pub returns : goal.returns
returns c =
    is_taken c.args.run c.args.image c.apart-course.result.course c.apart-course.result.callers c.apart-course.result.world c.reveal.new.self c.apart-course.result.count c.taken_calls.result c.course_of-course.result
    c.apart-course.ensures c.reveal.ensures c.taken_calls.ensures c.course_of-course.ensures
