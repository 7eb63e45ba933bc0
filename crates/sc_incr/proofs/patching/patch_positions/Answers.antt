use Rattle.std.proofs.Common.{◌≡◌, arith, flat_map, rules, subst, take}
use Rattle.std.proofs.lemmas.Grind.{common_steps}
use Rattle.sc_link.specs.Steps.{Relocates}
use Rattle.sc_incr.specs.Parts.{fixes_at_position}
use Rattle.sc_incr.proofs.Elements.{some-at}
use Rattle.sc_incr.proofs.Relocating.{relocates-more}
use Rattle.sc_incr.proofs.patching.patch_positions.Goals as goal

pub loop-n-preserved : goal.loop-n-preserved
loop-n-preserved c = λ value h.
    let xs = c.args.positions.now in
    let e = some-at xs c.loop-n.n (search rules) in
    relocates-more value (fixes_at_position c.args.entry.now) xs c.loop-n.n e.0 c.args.image.now c.loop-n.image c.patch_nth.new.image e.1 (c.loop-n.invariant value h) (c.patch_nth.ensures value e.0 h e.1)

pub returns : goal.returns
returns c = λ value h.
    let e : take c.loop-n.n c.args.positions.now ≡ c.args.positions.now = grind (arith, common_steps) in
    subst (λ ks. Relocates value (flat_map (fixes_at_position c.args.entry.now) ks) c.args.image.now c.loop-n.image) e (c.loop-n.invariant value h)
