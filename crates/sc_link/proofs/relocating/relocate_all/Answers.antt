use Rattle.std.proofs.Common.{◌≡◌, arith, flat_map, length, refl, rules, subst, take}
use Rattle.std.proofs.lemmas.Grind.{common_steps}
use Rattle.std.proofs.lemmas.Option.{slice_get-get_or}
use Rattle.sc_link.specs.Entries.{fixes_of}
use Rattle.sc_link.specs.Steps.{Relocates}
use Rattle.sc_link.proofs.Fixes.{base-at, relocates-more}
use Rattle.sc_link.proofs.relocating.relocate_all.Goals as goal

pub loop-reloc-preserved : goal.loop-reloc-preserved
loop-reloc-preserved c = λ value h.
    let xs = c.as_slice-reloc-items.result.now in
    relocates-more value (fixes_of c.args.entry.now) xs c.loop-reloc.reloc-index _ c.args.image.now c.loop-reloc.image c.relocate_one.new.image
    (slice_get-get_or xs c.loop-reloc.reloc-index _ (search rules))
    (c.loop-reloc.invariant value h)
    (c.relocate_one.ensures value (base-at c.args.entry.now c.args.entry.now.object.symbols value c.args.bases.now _ c.base_at-base.result h c.base_at-base.ensures))

pub returns : goal.returns
returns c = λ value h.
    let e : take c.loop-reloc.reloc-index c.as_slice-reloc-items.result.now ≡ c.args.entry.now.object.relocs = grind (arith, common_steps) in
    subst (λ rs. Relocates value (flat_map (fixes_of c.args.entry.now) rs) c.args.image.now c.loop-reloc.image) e (c.loop-reloc.invariant value h)
