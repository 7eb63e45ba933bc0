use Rattle.std.proofs.Common.{rules, get_or, refl}
use Rattle.sc_fmt.proofs.Reading.{capped_more, digit_at}
use Rattle.sc_fmt.proofs.pieces.capped.Goals as goal

pub loop-c-preserved : goal.loop-c-preserved
loop-c-preserved c =
    capped_more c.args.digits.now c.loop-c.c-index c.saturating_mul.result c.loop-c.n c.saturating_add-n.result (get_or c.args.digits.now c.loop-c.c-index 0) (search rules) refl
    (digit_at c.args.digits.now c.loop-c.c-index (search rules) c.requires) c.loop-c.invariant c.saturating_mul.ensures (search (rules, c.saturating_add-n.ensures, c.from.ensures))
