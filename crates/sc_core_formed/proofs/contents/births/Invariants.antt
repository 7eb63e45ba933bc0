use Rattle.std.proofs.Common.{◌≡◌, drop}
use Rattle.sc_core_formed.specs.Contents.{births}
use Rattle.sc_core_formed.proofs.contents.births.Given as goal

-- what is to come decides
abbrev pub invariant-loop-what : goal.invariant-loop-what
invariant-loop-what l = births l.m.core.now (drop l.what-index l.births) ≡ births l.m.core.now l.births
