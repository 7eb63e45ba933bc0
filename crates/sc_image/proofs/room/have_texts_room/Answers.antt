use Rattle.std.proofs.Common.{◌≡◌, ◌<◌, length, refl, rules, subst}
use Rattle.std.specs.List.{slice_get}
use Rattle.std.specs.Prelude.{Some}
use Rattle.std.proofs.lemmas.Option.{slice_get_read}
use Rattle.sc_image.proofs.Rooms.{texts-beyond}
use Rattle.sc_image.proofs.room.have_texts_room.Goals as goal

pub returns-in-None : goal.returns-in-None
returns-in-None c =
    let xs = c.placing.left.now in
    let first : slice_get xs 0 ≡ Some c.first-item.result = slice_get_read xs (length xs) 0 c.first-item.result refl (search rules) c.first-item.is in
    subst (λ n. 0x04100000 < n) c.placing.invariant.0 (texts-beyond c.placing.text xs c.first-item.result 0x04100000 first c.in-None.ensures)
