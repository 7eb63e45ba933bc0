use Rattle.std.proofs.Common.{◌≡◌, take}
use Rattle.sc_gen.specs.Sections as spec
use Rattle.sc_gen.proofs.sections.text_bytes.Given as goal

abbrev pub invariant-loop-s : goal.invariant-loop-s
invariant-loop-s l = l.bytes.items ≡ spec.text_bytes (take l.s-index l.code)
