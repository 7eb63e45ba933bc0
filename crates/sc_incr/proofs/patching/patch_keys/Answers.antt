use Rattle.std.proofs.Common.{◌≡◌, ◌∙◌, arith, flat_map, length, refl, rules, subst, take}
use Rattle.std.proofs.lemmas.Grind.{common_steps}
use Rattle.std.proofs.lemmas.Option.{slice_get_read}
use Rattle.sc_link.specs.Steps.{Relocates}
use Rattle.sc_incr.specs.Parts.{fixes_for}
use Rattle.sc_incr.proofs.Relocating.{relocates-more}
use Rattle.sc_incr.proofs.patching.patch_keys.Goals as goal

pub loop-key-preserved : goal.loop-key-preserved
loop-key-preserved c = λ value h.
    let xs = c.args.keys.now in
    relocates-more value (fixes_for c.args.entries.now) xs c.loop-key.key-index c.key-item.result c.args.image.now c.loop-key.image c.patch_key.new.image
    (slice_get_read xs (length xs) c.loop-key.key-index c.key-item.result refl (search rules) c.key-item.is)
    (c.loop-key.invariant value h)
    (c.patch_key.ensures value (λ k. (c.loop-key.invariant value h).values k ∙ h k))

pub returns : goal.returns
returns c = λ value h.
    let e : take c.loop-key.key-index c.args.keys.now ≡ c.args.keys.now = grind (arith, common_steps) in
    subst (λ ks. Relocates value (flat_map (fixes_for c.args.entries.now) ks) c.args.image.now c.loop-key.image) e (c.loop-key.invariant value h)
