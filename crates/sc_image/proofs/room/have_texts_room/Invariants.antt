use Rattle.std.proofs.Common.{◌≡◌, ◌≤◌, length}
use Rattle.sc_image.specs.Placing.{texts_behind}
use Rattle.sc_image.proofs.room.have_texts_room.Given as goal

abbrev pub invariant-placing : goal.invariant-placing
invariant-placing l = (texts_behind l.text l.left ≡ texts_behind 0x00100000 l.modules) × (l.text ≤ 0x04100000)

abbrev pub decreases-placing : goal.decreases-placing
decreases-placing l = length l.left
