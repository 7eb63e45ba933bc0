use Rattle.std.proofs.Common.{◌≡◌, ◌++◌, map, take}
use Rattle.sc_gen.specs.Sections.{object_section}
use Rattle.sc_gen.specs.Definitions.{object_definition}
use Rattle.sc_gen.proofs.module.put_objects.Given as goal

abbrev pub invariant-loop-x : goal.invariant-loop-x
invariant-loop-x l = record {
  sections_are : l.all.sections ≡ l.initial.all.sections ++ map object_section (take l.x-index l.objects);
  definitions_are : l.all.definitions ≡ l.initial.all.definitions ++ map (object_definition l.literals.all.now) (take l.x-index l.objects);
}
