use Rattle.std.proofs.Common.{◌≡◌, ◌∙◌, arith, flat_map, rules, subst, take}
use Rattle.std.proofs.lemmas.Grind.{common_steps}
use Rattle.std.proofs.lemmas.Option.{slice_get-get_or}
use Rattle.sc_link.specs.Entries.{fixes_of}
use Rattle.sc_link.specs.Steps.{Relocates}
use Rattle.sc_incr.proofs.Relocating.{relocates-more}
use Rattle.sc_incr.proofs.patching.relocate_all.Goals as goal

pub loop-reloc-preserved : goal.loop-reloc-preserved
loop-reloc-preserved c = λ value h.
    let xs = c.as_slice-reloc-items.result.now in
    relocates-more value (fixes_of c.args.entry.now) xs c.loop-reloc.reloc-index _ c.args.image.now c.loop-reloc.image c.relocate_keyed.new.image
    (slice_get-get_or xs c.loop-reloc.reloc-index _ (search rules))
    (c.loop-reloc.invariant value h)
    (c.relocate_keyed.ensures value (λ k. (c.loop-reloc.invariant value h).values k ∙ h k))

pub returns : goal.returns
returns c = λ value h.
    let e : take c.loop-reloc.reloc-index c.as_slice-reloc-items.result.now ≡ c.args.entry.now.object.relocs = grind (arith, common_steps) in
    subst (λ rs. Relocates value (flat_map (fixes_of c.args.entry.now) rs) c.args.image.now c.loop-reloc.image) e (c.loop-reloc.invariant value h)
