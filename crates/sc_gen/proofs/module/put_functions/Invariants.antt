use Rattle.std.proofs.Common.{◌≡◌, ◌++◌, drop, map, take}
use Rattle.sc_gen.specs.Limits.{first_long, plain_code}
use Rattle.sc_gen.specs.Sections.{function_section}
use Rattle.sc_gen.specs.Definitions.{function_definition}
use Rattle.sc_gen.proofs.module.put_functions.Given as goal

-- no text so far is too long
abbrev pub invariant-loop-f : goal.invariant-loop-f
invariant-loop-f l = record {
  short : first_long plain_code (drop l.f-index l.funs) ≡ first_long plain_code l.funs;
  sections_are : l.all.sections ≡ l.initial.all.sections ++ map (function_section plain_code) (take l.f-index l.funs);
  definitions_are : l.all.definitions ≡ l.initial.all.definitions ++ map (function_definition plain_code l.home) (take l.f-index l.funs);
}
