use Rattle.std.proofs.Common.{◌≡◌, drop}
use Rattle.std.specs.Prelude.{flat_map}
use Rattle.sc_gen.specs.Objects as spec
use Rattle.sc_gen.proofs.symbols.name_definitions.Given as goal

abbrev pub invariant-loop-d : goal.invariant-loop-d
invariant-loop-d l =
    spec.named_all l.global l.targets (flat_map spec.mentions (drop l.d-index l.all)) ≡ spec.named_all l.global l.initial.targets (flat_map spec.mentions l.all)
