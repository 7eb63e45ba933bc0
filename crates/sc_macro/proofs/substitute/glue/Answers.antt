use Rattle.sc_macro.proofs.Glue.{glue_nothing}
use Rattle.sc_macro.proofs.substitute.glue.Goals as goal

pub returns-in-None : goal.returns-in-None
returns-in-None c = glue_nothing c.args.name.now c.args.left c.as_slice.result.now c.args.right c.in-None.ensures.cases c.as_slice.ensures
