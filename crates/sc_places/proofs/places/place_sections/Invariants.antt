use Rattle.std.proofs.Common.{◌≡◌, ◌≤◌, ◌++◌, length}
use Rattle.sc_places.specs.Layout.{places_from, static_end, text_end}
use Rattle.sc_places.proofs.places.place_sections.Given as goal

abbrev pub invariant-placing : goal.invariant-placing
invariant-placing l =
    (l.places ++ places_from l.object l.text l.statics l.left l.keeps ≡ places_from l.object l.initial.text l.initial.statics l.sections l.kept)
    × ((text_end l.object l.text l.left ≤ 0x04100000) × (static_end l.statics l.left l.keeps ≤ 0x08100000))

abbrev pub decreases-placing : goal.decreases-placing
decreases-placing l = length l.left
