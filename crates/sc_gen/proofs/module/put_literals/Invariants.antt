use Rattle.std.proofs.Common.{◌≡◌, ◌++◌, drop}
use Rattle.sc_gen.specs.Sections.{literal_sections}
use Rattle.sc_gen.specs.Definitions.{literal_definitions}
use Rattle.sc_gen.proofs.module.put_literals.Given as goal

abbrev pub invariant-loop-n : goal.invariant-loop-n
invariant-loop-n l = record {
  sections_are : l.all.sections ++ literal_sections l.n (drop l.n l.texts) ≡ l.initial.all.sections ++ literal_sections 0 l.texts;
  definitions_are : l.all.definitions ++ literal_definitions l.n (drop l.n l.texts) ≡ l.initial.all.definitions ++ literal_definitions 0 l.texts;
}
