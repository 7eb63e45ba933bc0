use Rattle.std.proofs.Common.{◌∙◌, subst, sym}
use Rattle.std.specs.List.{slice_get}
use Rattle.sc_link.specs.Steps.{Relocates}
use Rattle.sc_incr.specs.Parts.{fixes_at_position}
use Rattle.sc_incr.proofs.Keys.{none-some, same-some}
use Rattle.sc_incr.proofs.patching.patch_nth.Goals as goal

pub returns-in-Some : goal.returns-in-Some
returns-in-Some c = λ value at h e.
    subst (λ x. Relocates value (fixes_at_position c.args.entry.now x) c.args.image.now c.patch_position.new.image)
    (same-some c.in-Some.at.now at (c.in-Some.ensures ∙ e))
    (c.patch_position.ensures value (λ r g. h c.in-Some.at.now r (c.args.n, sym c.in-Some.ensures) g))

pub returns-in-None : goal.returns-in-None
returns-in-None c = λ value at h e. absurd (none-some (slice_get c.args.positions.now c.args.n) at (sym c.in-None.ensures) e)
