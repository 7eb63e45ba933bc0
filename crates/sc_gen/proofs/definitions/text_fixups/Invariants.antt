use Rattle.std.proofs.Common.{◌≡◌, ◌++◌, drop}
use Rattle.sc_gen.specs.Definitions as spec
use Rattle.sc_gen.proofs.definitions.text_fixups.Given as goal

-- those to come stand behind those that are there
abbrev pub invariant-loop-n : goal.invariant-loop-n
invariant-loop-n l = l.fixups ++ spec.text_fixups l.n (drop l.n l.code) ≡ spec.text_fixups 0 l.code
