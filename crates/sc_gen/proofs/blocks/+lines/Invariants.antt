use Rattle.std.proofs.Common.{◌≡◌, ◌++◌, map, take}
use Rattle.sc_gen.specs.Blocks.{joined, lines_of}
use Rattle.sc_gen.proofs.blocks.+lines.Given as goal

abbrev pub invariant-lines_in-loop-s : goal.invariant-lines_in-loop-s
invariant-lines_in-loop-s l = l.all ≡ l.initial.all ++ joined (map lines_of (take l.s-index l.items))
