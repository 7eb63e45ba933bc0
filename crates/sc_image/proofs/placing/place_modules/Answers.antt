use Rattle.std.proofs.Common.{◌≡◌, length, refl, rules}
use Rattle.std.specs.List.{slice_get}
use Rattle.std.specs.Prelude.{Some}
use Rattle.std.proofs.lemmas.Option.{slice_get_read}
use Rattle.sc_image.proofs.Rooms.{statics-fit, texts-fit}
use Rattle.sc_image.proofs.placing.place_modules.Goals as goal

pub entry_at-requires : goal.entry_at-requires
entry_at-requires c =
    let xs = c.placing.left.now in
    let first : slice_get xs 0 ≡ Some c.first-item.result = slice_get_read xs (length xs) 0 c.first-item.result refl (search rules) c.first-item.is in
    record {
      texts = (texts-fit c.placing.text xs c.first-item.result 0x04100000 first c.placing.invariant.1.0).1;
      statics = (statics-fit c.placing.statics xs c.first-item.result 0x08100000 first c.placing.invariant.1.1).1;
    }

pub text_behind-text-requires : goal.text_behind-text-requires
text_behind-text-requires c =
    let xs = c.placing.left.now in
    let first : slice_get xs 0 ≡ Some c.first-item.result = slice_get_read xs (length xs) 0 c.first-item.result refl (search rules) c.first-item.is in
    let f = texts-fit c.placing.text xs c.first-item.result 0x04100000 first c.placing.invariant.1.0 in
    record { low = f.0; fits = f.1 }

pub static_behind-statics-requires : goal.static_behind-statics-requires
static_behind-statics-requires c =
    let xs = c.placing.left.now in
    let first : slice_get xs 0 ≡ Some c.first-item.result = slice_get_read xs (length xs) 0 c.first-item.result refl (search rules) c.first-item.is in
    let f = statics-fit c.placing.statics xs c.first-item.result 0x08100000 first c.placing.invariant.1.1 in
    record { low = f.0; fits = f.1 }
