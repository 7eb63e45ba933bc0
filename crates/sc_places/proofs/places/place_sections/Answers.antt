use Rattle.std.proofs.Common.{◌≡◌, ◌≤◌, length, refl, rules, subst, sym}
use Rattle.std.specs.List.{slice_get}
use Rattle.std.specs.Prelude.{Some}
use Rattle.std.proofs.lemmas.Option.{slice_get_read}
use Rattle.sc_places.specs.Layout.{static_after}
use Rattle.sc_places.proofs.Growing.{fits-first, static-fits-first}
use Rattle.sc_places.proofs.places.place_sections.Goals as goal

pub behind_text-text-requires : goal.behind_text-text-requires
behind_text-text-requires c =
    let xs = c.placing.left.now in
    let first : slice_get xs 0 ≡ Some c.section-item.result = slice_get_read xs (length xs) 0 c.section-item.result refl (search rules) c.section-item.is in
    let f = fits-first c.args.object c.placing.text xs c.section-item.result 0x04100000 first c.placing.invariant.1.0 in
    record { low = f.0; fits = f.1 }

pub behind_static-statics-requires : goal.behind_static-statics-requires
behind_static-statics-requires c =
    let xs = c.placing.left.now in
    let first : slice_get xs 0 ≡ Some c.section-item.result = slice_get_read xs (length xs) 0 c.section-item.result refl (search rules) c.section-item.is in
    let f = static-fits-first c.placing.statics xs c.placing.keeps.now c.section-item.result 0x08100000 first c.placing.invariant.1.1 in
    record { low = f.0; fits = subst (λ k. static_after c.placing.statics c.section-item.result k ≤ 0x08100000) (sym c.first_kept-keep.ensures) f.1 }
