use Rattle.std.proofs.Common.{◌≡◌, ◌≤◌, ◌++◌, length}
use Rattle.sc_image.specs.Placing.{placed_from, placed_modules, statics_behind, texts_behind}
use Rattle.sc_image.proofs.placing.place_modules.Given as goal

abbrev pub invariant-placing : goal.invariant-placing
invariant-placing l =
    (l.placed ++ placed_from l.text l.statics l.left ≡ placed_modules l.modules)
    × ((texts_behind l.text l.left ≤ 0x04100000) × (statics_behind l.statics l.left ≤ 0x08100000))

abbrev pub decreases-placing : goal.decreases-placing
decreases-placing l = length l.left
