use Rattle.std.proofs.Common.{◌≡◌, ◌++◌, take}
use Rattle.std.specs.Prelude.{flat_map}
use Rattle.sc_gen_body.specs.Frames.{frame_of}
use Rattle.sc_gen_body.specs.Initializers as spec
use Rattle.sc_gen_body.proofs.initializers.pieces.Given as goal

abbrev pub invariant-loop-p : goal.invariant-loop-p
invariant-loop-p l = l.code ≡ l.initial.code ++ flat_map (spec.piece_code (frame_of l.frame) l.at) (take l.p-index l.all)
