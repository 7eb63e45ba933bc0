use Rattle.std.proofs.Common.{◌∙◌, ap, refl, Err}
use Rattle.sc_meaning.specs.Outcomes.{Undefined, Exit, StackFull, BirthLimit}
use Rattle.sc_interp_access.specs.declared.stop.Stop.TheVariants as stop
use Rattle.sc_interp_access.specs.declared.ended.Ended.TheVariants as ended
use Rattle.sc_world.proofs.Places.{over_first}
use Rattle.sc_world.proofs.begin.course_of.Goals as goal

pub returns-in-Err-Undefined : goal.returns-in-Err-Undefined
returns-in-Err-Undefined c = over_first c.args.first (stop.Undefined c.in-Err-Undefined.told) (ended.Undefined c.in-Err-Undefined.told) (c.in-Err-Undefined.is ∙ ap (λ e. Err e) c.in-Err-Undefined.field-0-is) (λ w. (Undefined c.in-Err-Undefined.told w, refl, refl))

pub returns-in-Err-Exit : goal.returns-in-Err-Exit
returns-in-Err-Exit c = over_first c.args.first (stop.Exit c.in-Err-Exit.status) (ended.Exit c.in-Err-Exit.status) (c.in-Err-Exit.is ∙ ap (λ e. Err e) c.in-Err-Exit.field-0-is) (λ w. (Exit c.in-Err-Exit.status w, refl, refl))

pub returns-in-Err-StackFull : goal.returns-in-Err-StackFull
returns-in-Err-StackFull c = over_first c.args.first (stop.StackFull c.in-Err-StackFull.key) (ended.StackFull c.in-Err-StackFull.key) (c.in-Err-StackFull.is ∙ ap (λ e. Err e) c.in-Err-StackFull.field-0-is) (λ w. (StackFull c.in-Err-StackFull.key w, refl, refl))

pub returns-in-Err-BirthLimit : goal.returns-in-Err-BirthLimit
returns-in-Err-BirthLimit c = over_first c.args.first stop.BirthLimit ended.BirthLimit (c.in-Err-BirthLimit.is ∙ ap (λ e. Err e) c.in-Err-BirthLimit.field-0-is) (λ w. (BirthLimit w, refl, refl))
