use Rattle.std.proofs.Common.{◌≡◌, ◌++◌, length}
use Rattle.sc_link.specs.Relocation.{words}
use Rattle.sc_link.proofs.relocation.words_of.Given as goal

abbrev pub invariant-words : goal.invariant-words
invariant-words l = l.words.items ++ words l.left ≡ words l.initial.left

abbrev pub decreases-words : goal.decreases-words
decreases-words l = length l.left
