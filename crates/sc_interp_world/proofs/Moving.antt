-- Where objects are born in the memory of a run.
use Rattle.std.proofs.Common.{◌≡◌, ℕ, List, refl, sym, ap, Option, Some, None, option_map}
use Rattle.std.specs.Prelude.{IfSome}
use Rattle.sc_base.specs.declared.memory.Kind.{Kind}
use Rattle.sc_mem.specs.Safe.{Store}
use Rattle.sc_meaning.specs.Beside.{born_in}

pub born_there : (size : ℕ) (kind : Kind) (base : ℕ) (at : Option ℕ) (memory : Option Store) → IfSome memory (λ _. at ≡ Some base) → option_map (born_in size kind (Some base)) memory ≡ option_map (born_in size kind at) memory
born_there size kind base at None h = refl
born_there size kind base at (Some m) h = ap (λ (a : Option ℕ). Some (born_in size kind a m)) (sym h)
