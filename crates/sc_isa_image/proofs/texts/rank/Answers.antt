use Rattle.std.proofs.Common.{◌≡◌, ◌+◌, ◌-◌, ◌/◌, ◌<◌, ◌∙◌, length, get_or, ap, Some, arith}
use Rattle.std.specs.List.{slice_get}
use Rattle.sc_isa_image.proofs.Order.{get-index, passed-low, passed-high}
use Rattle.sc_isa_image.proofs.texts.rank.Goals as goal

pub search-preserved-then-texts-middle : goal.search-preserved-then-texts-middle
search-preserved-then-texts-middle c =
    let m = c.search.low + (c.search.high - c.search.low) / 2 in
    let lt : m < length c.args.texts.now = omega arith in
    let x = get_or c.args.texts.now m c.index-texts-middle.result in
    let at : slice_get c.args.texts.now m ≡ Some x = get-index c.args.texts.now m c.index-texts-middle.result c.index-texts-middle.is lt ∙ ap Some c.index-texts-middle.is in
    record {
      order = omega arith;
      bound = c.search.invariant.bound;
      below = passed-low c.args.texts.now m x c.args.pc c.requires at c.if-texts-middle.true;
      above = c.search.invariant.above;
    }

pub search-preserved : goal.search-preserved
search-preserved c =
    let m = c.search.low + (c.search.high - c.search.low) / 2 in
    let lt : m < length c.args.texts.now = omega arith in
    let x = get_or c.args.texts.now m c.index-texts-middle.result in
    let at : slice_get c.args.texts.now m ≡ Some x = get-index c.args.texts.now m c.index-texts-middle.result c.index-texts-middle.is lt ∙ ap Some c.index-texts-middle.is in
    record {
      order = omega arith;
      bound = omega arith;
      below = c.search.invariant.below;
      above = passed-high c.args.texts.now m x c.args.pc c.requires at c.if-texts-middle.false;
    }
