use Rattle.std.proofs.Common.{◌≡◌, ◌≤◌, length}
use Rattle.sc_image.specs.Placing.{statics_behind}
use Rattle.sc_image.proofs.room.have_statics_room.Given as goal

abbrev pub invariant-placing : goal.invariant-placing
invariant-placing l = (statics_behind l.statics l.left ≡ statics_behind 0x08000000 l.modules) × (l.statics ≤ 0x08100000)

abbrev pub decreases-placing : goal.decreases-placing
decreases-placing l = length l.left
