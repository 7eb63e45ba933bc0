use Rattle.std.proofs.Common.{rules, ◌∙◌, sym, refl}
use Rattle.sc_fmt.proofs.Reading.{chained, written}
use Rattle.sc_fmt.proofs.pieces.conversion.Goals as goal

pub returns-in-Some : goal.returns-in-Some
returns-in-Some c =
    written c.args.from.now c.split_flags.result.0.now c.split_flags.result.1.now c.split_count-width.result.1.now c.split_precision-precision.result.1.now c.split_modifier-half.result.1.now
    _ _ c.contains.ensures.value c.contains-in-Some.ensures.value c.contains-in-Some-2.ensures.value c.contains-in-Some-3.ensures.value c.contains-in-Some-4.ensures.value
    c.split_count-width.ensures.count c.split_precision-precision.ensures.count c.split_modifier-half.ensures.half (search rules) (sym c.is_kind.ensures ∙ c.if-is_kind.true) refl
    ∙ chained c.args.from.now _ _ _ _ _ c.split_at.result.1.now c.split_at.ensures.back c.split_flags.ensures.flags c.split_flags.ensures.rest
    c.split_count-width.ensures.rest c.split_precision-precision.ensures.rest c.split_modifier-half.ensures.rest
