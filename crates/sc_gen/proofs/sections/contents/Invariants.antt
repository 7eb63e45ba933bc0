use Rattle.std.proofs.Common.{◌≡◌, take}
use Rattle.std.specs.Prelude.{flat_map}
use Rattle.sc_gen.specs.Sections.{init_bytes}
use Rattle.sc_gen.proofs.sections.contents.Given as goal

abbrev pub invariant-loop-piece : goal.invariant-loop-piece
invariant-loop-piece l = l.bytes.items ≡ flat_map init_bytes (take l.piece-index l.pieces)
