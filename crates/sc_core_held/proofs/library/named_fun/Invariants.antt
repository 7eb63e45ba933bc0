use Rattle.std.proofs.Common.{◌≡◌, drop, map}
use Rattle.sc_meaning.specs.Names as spec
use Rattle.sc_core_held.proofs.library.named_fun.Given as goal

abbrev pub invariant-loop-f : goal.invariant-loop-f
invariant-loop-f l = spec.named_fun (map (λ f. (f.0.now, f.1)) (drop l.f-index l.funs)) l.name ≡ spec.named_fun (map (λ f. (f.0.now, f.1)) l.funs) l.name
