use Rattle.std.proofs.Common.{◌≡◌, ◌<◌, length, refl, rules, subst}
use Rattle.std.specs.List.{slice_get}
use Rattle.std.specs.Prelude.{Some}
use Rattle.std.proofs.lemmas.Option.{slice_get_read}
use Rattle.sc_places.proofs.Growing.{beyond-first}
use Rattle.sc_places.proofs.ends.text_end.Goals as goal

pub returns-in-None : goal.returns-in-None
returns-in-None c =
    let xs = c.placing.left.now in
    let first : slice_get xs 0 ≡ Some c.section-item.result = slice_get_read xs (length xs) 0 c.section-item.result refl (search rules) c.section-item.is in
    subst (λ n. 0x04100000 < n) c.placing.invariant.0 (beyond-first c.args.object c.placing.end xs c.section-item.result 0x04100000 first c.in-None.ensures)
