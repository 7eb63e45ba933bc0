use Rattle.sc_world.proofs.Courses.{over_at}
use Rattle.sc_world.proofs.turn.is_over.Goals as goal

pub returns-in-Answers : goal.returns-in-Answers
returns-in-Answers c = λ w. over_at c.args.going.now c.in-Answers.field-0 c.args.callers.now w c.is_empty.result c.in-Answers.is c.is_empty.ensures
