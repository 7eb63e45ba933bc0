use Rattle.std.proofs.Common.{◌<◌, arith, rules}
use Rattle.sc_places.specs.Layout.{behind_statics}
use Rattle.sc_places.proofs.Growing.{static-grows}
use Rattle.sc_image.proofs.adding.static_start.Goals as goal

pub returns-then-statics-from : goal.returns-then-statics-from
returns-then-statics-from c =
    let l : 0x08100000 < behind_statics c.args.list.now = search rules in
    let g = static-grows (behind_statics c.args.list.now) c.args.object.now.sections c.args.kept.now in
    omega arith
