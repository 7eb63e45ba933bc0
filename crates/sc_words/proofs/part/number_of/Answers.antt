use Rattle.std.proofs.Common.{◌<◌, length, get_or, refl, arith}
use Rattle.sc_words.proofs.NumberLemmas.{Step, step_of}
use Rattle.sc_words.proofs.part.number_of.Goals as goal

pub overflow_mul-number : goal.overflow_mul-number
overflow_mul-number c =
    let digits = c.args.digits.now in
    let lt : c.loop-digit.digit-index < length digits = omega arith in
    let s : Step digits c.loop-digit.digit-index c.loop-digit.number (get_or digits c.loop-digit.digit-index 0) = step_of _ _ _ _ c.requires lt c.loop-digit.invariant refl in
    omega arith

pub overflow_add-number : goal.overflow_add-number
overflow_add-number c =
    let digits = c.args.digits.now in
    let lt : c.loop-digit.digit-index < length digits = omega arith in
    let s : Step digits c.loop-digit.digit-index c.loop-digit.number (get_or digits c.loop-digit.digit-index 0) = step_of _ _ _ _ c.requires lt c.loop-digit.invariant refl in
    omega arith

pub loop-digit-preserved : goal.loop-digit-preserved
loop-digit-preserved c =
    let digits = c.args.digits.now in
    let lt : c.loop-digit.digit-index < length digits = omega arith in
    let s : Step digits c.loop-digit.digit-index c.loop-digit.number (get_or digits c.loop-digit.digit-index 0) = step_of _ _ _ _ c.requires lt c.loop-digit.invariant refl in
    omega arith
