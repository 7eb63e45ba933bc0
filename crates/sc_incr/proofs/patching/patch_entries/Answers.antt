use Rattle.std.proofs.Common.{◌≡◌, arith, flat_map, length, refl, rules, subst, take}
use Rattle.std.proofs.lemmas.Grind.{common_steps}
use Rattle.std.proofs.lemmas.Option.{slice_get_read}
use Rattle.sc_link.specs.Steps.{Relocates}
use Rattle.sc_incr.specs.Uses.{fixes_naming}
use Rattle.sc_incr.proofs.Relocating.{relocates-more}
use Rattle.sc_incr.proofs.patching.patch_entries.Goals as goal

pub loop-entry-preserved : goal.loop-entry-preserved
loop-entry-preserved c = λ value h.
    let xs = c.args.entries.now in
    relocates-more value (fixes_naming c.args.key.now) xs c.loop-entry.entry-index c.entry-item.result c.args.image.now c.loop-entry.image c.patch_entry.new.image
    (slice_get_read xs (length xs) c.loop-entry.entry-index c.entry-item.result refl (search rules) c.entry-item.is)
    (c.loop-entry.invariant value h)
    (c.patch_entry.ensures value h)

pub returns : goal.returns
returns c = λ value h.
    let e : take c.loop-entry.entry-index c.args.entries.now ≡ c.args.entries.now = grind (arith, common_steps) in
    subst (λ ks. Relocates value (flat_map (fixes_naming c.args.key.now) ks) c.args.image.now c.loop-entry.image) e (c.loop-entry.invariant value h)
