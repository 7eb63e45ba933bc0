use Rattle.std.proofs.Common.{◌≡◌, drop}
use Rattle.sc_core_formed.specs.Contents.{objects}
use Rattle.sc_core_formed.proofs.contents.objects.Given as goal

-- what is to come decides
abbrev pub invariant-loop-x : goal.invariant-loop-x
invariant-loop-x l = objects l.m.core.now (drop l.x-index l.objects) ≡ objects l.m.core.now l.objects
