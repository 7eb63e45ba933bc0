use Rattle.std.proofs.Common.{◌≡◌, drop}
use Rattle.sc_core_formed.specs.Contents.{fills}
use Rattle.sc_core_formed.proofs.contents.is_filled_to.Given as goal

-- what is to come decides
abbrev pub invariant-loop-piece : goal.invariant-loop-piece
invariant-loop-piece l = fills l.m.core.now l.at l.size (drop l.piece-index l.init) ≡ fills l.m.core.now 0 l.size l.init
