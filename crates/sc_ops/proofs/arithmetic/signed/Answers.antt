-- What the signed operations give is what the operator gives on the same bits.
use Rattle.std.proofs.Common.{rules}
use Rattle.sc_ops.proofs.Ints.{taken, difference_is, product_is, quotient_is, remainder_is}
use Rattle.sc_ops.proofs.arithmetic.signed.Goals as goal

pub returns-in-Sub : goal.returns-in-Sub
returns-in-Sub c = difference_is c.args.op c.args.a c.args.b _ _ (taken _ _ (search rules) c.cast_signed-x.ensures) (taken _ _ (search rules) c.cast_signed-y.ensures) _ c.in-Sub.is c.difference.ensures

pub returns-in-Mul : goal.returns-in-Mul
returns-in-Mul c = product_is c.args.op c.args.a c.args.b _ _ (taken _ _ (search rules) c.cast_signed-x.ensures) (taken _ _ (search rules) c.cast_signed-y.ensures) _ c.in-Mul.is c.product.ensures

pub returns-in-Div : goal.returns-in-Div
returns-in-Div c = quotient_is c.args.op c.args.a c.args.b _ _ (taken _ _ (search rules) c.cast_signed-x.ensures) (taken _ _ (search rules) c.cast_signed-y.ensures) _ (search rules) c.in-Div.is c.quotient.ensures

pub returns-in-Rem : goal.returns-in-Rem
returns-in-Rem c = remainder_is c.args.op c.args.a c.args.b _ _ (taken _ _ (search rules) c.cast_signed-x.ensures) (taken _ _ (search rules) c.cast_signed-y.ensures) _ (search rules) c.in-Rem.is c.remainder.ensures
