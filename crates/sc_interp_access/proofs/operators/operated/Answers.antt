use Rattle.sc_ops.specs.Operators.{rule_of, value_of}
use Rattle.sc_interp_access.proofs.Operations.{answered}
use Rattle.sc_interp_access.proofs.operators.operated.Goals as goal

pub returns : goal.returns
returns c =
    rw c.arith.ensures
    (answered (rule_of c.args.op c.args.i c.args.a c.args.b) (value_of c.args.op c.args.i c.args.a c.args.b))
