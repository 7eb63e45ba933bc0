use Rattle.std.proofs.Common.{◌≡◌, ◌∙◌, arith, flat_map, length, refl, rules, subst, take}
use Rattle.std.proofs.lemmas.Grind.{common_steps}
use Rattle.std.proofs.lemmas.Option.{slice_get_read}
use Rattle.sc_link.specs.Entries.{fixes_if}
use Rattle.sc_link.specs.Steps.{Relocates}
use Rattle.sc_link.proofs.Fixes.{relocates-more}
use Rattle.sc_link.proofs.relocating.relocate.Goals as goal

pub loop-entry-preserved : goal.loop-entry-preserved
loop-entry-preserved c = λ value h.
    let xs = c.args.placed.now in
    relocates-more value fixes_if xs c.loop-entry.entry-index c.entry-item.result c.args.image.now c.loop-entry.image c.relocate_entry.new.image
    (slice_get_read xs (length xs) c.loop-entry.entry-index c.entry-item.result refl (search rules) c.entry-item.is)
    (c.loop-entry.invariant value h)
    (c.in_ok-relocate_entry.ensures value (λ k. (c.loop-entry.invariant value h).values k ∙ h k))

pub returns : goal.returns
returns c = λ value h.
    let e : take c.loop-entry.entry-index c.args.placed.now ≡ c.args.placed.now = grind (arith, common_steps) in
    subst (λ es. Relocates value (flat_map fixes_if es) c.args.image.now c.loop-entry.image) e (c.loop-entry.invariant value h)
