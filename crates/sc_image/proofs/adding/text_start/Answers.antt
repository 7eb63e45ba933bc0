use Rattle.std.proofs.Common.{◌<◌, arith, rules}
use Rattle.sc_link.specs.Entries.{is_object}
use Rattle.sc_places.specs.Layout.{behind_texts}
use Rattle.sc_places.proofs.Growing.{text-grows}
use Rattle.sc_image.proofs.adding.text_start.Goals as goal

pub returns-then-text-from : goal.returns-then-text-from
returns-then-text-from c =
    let l : 0x04100000 < behind_texts c.args.list.now = search rules in
    let g = text-grows (is_object c.args.form) (behind_texts c.args.list.now) c.args.object.now.sections in
    omega arith
