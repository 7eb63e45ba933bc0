use Rattle.std.proofs.Common.{refl, ap}
use Rattle.sc_meaning.specs.Outcomes.{Undefined, Exit, StackFull, BirthLimit}
use Rattle.sc_interp_access.specs.Gives.{ending_of}
use Rattle.sc_world.proofs.change.ended_by.Goals as goal

pub returns-in-Undefined : goal.returns-in-Undefined
returns-in-Undefined c = λ w. (Undefined c.in-Undefined.told w, ap (λ s. ending_of s w) c.in-Undefined.is, refl)

pub returns-in-Exit : goal.returns-in-Exit
returns-in-Exit c = λ w. (Exit c.in-Exit.status w, ap (λ s. ending_of s w) c.in-Exit.is, refl)

pub returns-in-StackFull : goal.returns-in-StackFull
returns-in-StackFull c = λ w. (StackFull c.in-StackFull.key w, ap (λ s. ending_of s w) c.in-StackFull.is, refl)

pub returns-in-BirthLimit : goal.returns-in-BirthLimit
returns-in-BirthLimit c = λ w. (BirthLimit w, ap (λ s. ending_of s w) c.in-BirthLimit.is, refl)
