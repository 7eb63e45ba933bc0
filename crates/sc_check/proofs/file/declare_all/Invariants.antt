-- What the rest gives from here is what all give from the beginning.
use Rattle.std.proofs.Common.{◌≡◌, drop}
use Rattle.sc_check.specs.Files.{declarators}
use Rattle.sc_check.proofs.file.declare_all.Given as goal

abbrev pub invariant-loop-d : goal.invariant-loop-d
invariant-loop-d l = declarators l.class l.base (drop l.d-index l.list) l.m ≡ declarators l.class l.base l.list l.fn.m
