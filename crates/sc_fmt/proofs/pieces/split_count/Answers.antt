use Rattle.sc_fmt.proofs.Reading.{digits_pass}
use Rattle.sc_fmt.proofs.pieces.split_count.Goals as goal

pub capped-requires : goal.capped-requires
capped-requires c = digits_pass c.args.rest.now c.split_digits.result.0.now c.split_digits.ensures.digits
