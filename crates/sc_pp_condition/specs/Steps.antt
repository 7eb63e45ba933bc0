-- Inside: plumbing, a representation, an invariant or a promise beside the claim (docs/TRUST.md).
-- What a step of the code does, against a step of the machine.
use Rattle.std.specs.Prelude.{◌≡◌, List, Option, Some, None, Result, Ok, Err}
use Rattle.sc_pp_condition.specs.declared.machine.Frame.{Frame}
use Rattle.sc_pp_condition.specs.declared.machine.State.{State}
use Rattle.sc_pp_condition.specs.declared.machine.State.TheVariants.{Done}
use Rattle.sc_pp_condition.specs.declared.operand.Operand.{Operand}
use Rattle.sc_pp_condition.specs.declared.machine.Trouble.{Trouble}
use Rattle.sc_pp_condition.specs.declared.machine.Trouble.TheVariants as trouble
use Rattle.sc_pp_condition.specs.Machine.{Config}

-- the step, unless memory ran out
abbrev pub Steps : Option Config → Result State Trouble → List Frame → Type 0
Steps outcome (Ok state) frames = outcome ≡ Some (frames, state)
Steps outcome (Err trouble.Syntax) frames = outcome ≡ None
Steps outcome (Err trouble.NoMemory) frames = Unit {0}

-- the last step
abbrev pub Finishes : Option Config → Result Operand Trouble → Type 0
Finishes outcome (Ok x) = (fs : List Frame) × (outcome ≡ Some (fs, Done x))
Finishes outcome (Err trouble.Syntax) = (x : Operand) (fs : List Frame) → outcome ≡ Some (fs, Done x) → ⊥
Finishes outcome (Err trouble.NoMemory) = Unit {0}
