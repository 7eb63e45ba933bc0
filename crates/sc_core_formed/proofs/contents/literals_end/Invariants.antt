use Rattle.std.proofs.Common.{◌≡◌, drop}
use Rattle.sc_core_formed.specs.Contents.{literals_end}
use Rattle.sc_core_formed.proofs.contents.literals_end.Given as goal

-- what is to come decides
abbrev pub invariant-loop-text : goal.invariant-loop-text
invariant-loop-text l = literals_end (drop l.text-index l.literals) ≡ literals_end l.literals
