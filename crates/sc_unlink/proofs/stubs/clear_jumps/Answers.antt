use Rattle.std.proofs.Common.{◌≡◌, ◌∷◌, [], arith, length, refl, rules, subst, sym, take}
use Rattle.std.proofs.lemmas.Grind.{common_steps}
use Rattle.std.proofs.lemmas.Option.{slice_get_read}
use Rattle.sc_unlink.specs.Taking.{ClearsJumps}
use Rattle.sc_unlink.proofs.Lists.{take-more}
use Rattle.sc_unlink.proofs.Clearing.{clears-none, clears-then, stubs-kept}
use Rattle.sc_unlink.proofs.stubs.clear_jumps.Goals as goal

pub loop-jump-init : goal.loop-jump-init
loop-jump-init c = clears-none c.args.image.now

pub loop-jump-preserved : goal.loop-jump-preserved
loop-jump-preserved c =
    let xs = c.args.jumps.now in
    subst (λ js. ClearsJumps js c.args.image.now c.clear_jump.new.image)
    (sym (take-more xs c.loop-jump.jump-index c.jump-item.result (slice_get_read xs (length xs) c.loop-jump.jump-index c.jump-item.result refl (search rules) c.jump-item.is)))
    (clears-then (take c.loop-jump.jump-index xs) (c.jump-item.result ∷ []) c.args.image.now c.loop-jump.image c.clear_jump.new.image c.loop-jump.invariant c.clear_jump.ensures)

pub clear_jump-requires : goal.clear_jump-requires
clear_jump-requires c = stubs-kept (take c.loop-jump.jump-index c.args.jumps.now) c.args.image.now c.loop-jump.image c.requires c.loop-jump.invariant

pub returns : goal.returns
returns c =
    let e : take c.loop-jump.jump-index c.args.jumps.now ≡ c.args.jumps.now = grind (arith, common_steps) in
    subst (λ js. ClearsJumps js c.args.image.now c.loop-jump.image) e c.loop-jump.invariant
