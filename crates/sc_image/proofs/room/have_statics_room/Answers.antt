use Rattle.std.proofs.Common.{◌≡◌, ◌<◌, length, refl, rules, subst}
use Rattle.std.specs.List.{slice_get}
use Rattle.std.specs.Prelude.{Some}
use Rattle.std.proofs.lemmas.Option.{slice_get_read}
use Rattle.sc_image.proofs.Rooms.{statics-beyond}
use Rattle.sc_image.proofs.room.have_statics_room.Goals as goal

pub returns-in-None : goal.returns-in-None
returns-in-None c =
    let xs = c.placing.left.now in
    let first : slice_get xs 0 ≡ Some c.first-item.result = slice_get_read xs (length xs) 0 c.first-item.result refl (search rules) c.first-item.is in
    subst (λ n. 0x08100000 < n) c.placing.invariant.0 (statics-beyond c.placing.statics xs c.first-item.result 0x08100000 first c.in-None.ensures)
