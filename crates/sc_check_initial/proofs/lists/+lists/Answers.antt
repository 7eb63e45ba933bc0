-- The item has no place, so its list is refused behind the expressions that are left.
use Rattle.std.proofs.Common.{map}
use Rattle.sc_check_initial.specs.Lists.{item, items}
use Rattle.sc_check_initial.proofs.Placeless.{unplaced}
use Rattle.sc_check_initial.proofs.lists.+lists.Goals as goal

pub put_items-returns-in-Err : goal.put_items-returns-in-Err
put_items-returns-in-Err t c =
    unplaced c.args.items.now c.loop-i.i c.index-items-i.result (c.loop-i.fill, c.loop-i.st) (items (map item c.args.items.now) (c.args.fill.now, c.args.st.now))
    c.in-Err.failure c.without_place.result c.loop-i-test.true c.index-items-i.is c.loop-i.invariant c.in-Err.ensures c.without_place.ensures
