use Rattle.std.proofs.Common.{◌≡◌, drop, map}
use Rattle.sc_gen.specs.declared.definitions.Fixup.{Fixup}
use Rattle.sc_gen.specs.Objects as spec
use Rattle.sc_gen.proofs.symbols.name_mentions.Given as goal

abbrev pub invariant-loop-x : goal.invariant-loop-x
invariant-loop-x l =
    spec.named_all l.global l.targets (map (λ (x : Fixup). x.target) (drop l.x-index l.d.fixups))
    ≡ spec.named_all l.global l.initial.targets (map (λ (x : Fixup). x.target) l.d.fixups)
