use Rattle.sc_fmt.proofs.Writing.{digits_text-more}
use Rattle.sc_fmt.proofs.numbers.digits.Goals as goal

pub loop-rest-preserved : goal.loop-rest-preserved
loop-rest-preserved c =
    digits_text-more c.args.p.now c.args.n c.loop-rest.rest c.base-base.result c.digit.result c.loop-rest.digits.items _
    c.base-base.ensures.base c.base-base.ensures.low c.loop-rest-test.true c.digit.ensures c.loop-rest.invariant c.in_ok-push.ensures.items
