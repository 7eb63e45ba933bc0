-- Inside: plumbing, a representation, an invariant or a promise beside the claim (docs/TRUST.md).
-- How a checked write ends that writes nothing.
use Rattle.std.specs.Prelude.{◌≡◌, Option, None, Some}
use Rattle.sc_base.specs.declared.report.Rule.{Rule}
use Rattle.sc_mem.specs.declared.fault.StoreFault.{StoreFault}
use Rattle.sc_mem.specs.declared.fault.StoreFault.TheVariants.{Broken, NoMemory}

-- the fault is the first rule that the write breaks; want of memory is said only where it breaks none
abbrev pub IsFaultOf : Option Rule → StoreFault → Type 0
IsFaultOf rule (Broken r) = rule ≡ Some r
IsFaultOf rule NoMemory = rule ≡ None
