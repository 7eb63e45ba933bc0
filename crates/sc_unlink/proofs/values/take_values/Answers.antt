use Rattle.std.proofs.Common.{◌≡◌, ◌∷◌, [], arith, length, refl, rules, subst, sym, take}
use Rattle.std.proofs.lemmas.Grind.{common_steps}
use Rattle.std.proofs.lemmas.Option.{slice_get_read}
use Rattle.sc_unlink.specs.Taking.{TakesValues}
use Rattle.sc_unlink.proofs.Lists.{take-more}
use Rattle.sc_unlink.proofs.Clearing.{values-none, values-then}
use Rattle.sc_unlink.proofs.values.take_values.Goals as goal

pub loop-object-init : goal.loop-object-init
loop-object-init c = values-none c.args.image.now

pub loop-object-preserved : goal.loop-object-preserved
loop-object-preserved c =
    let xs = c.args.objects.now in
    subst (λ js. TakesValues js c.args.image.now c.take_value.new.image)
    (sym (take-more xs c.loop-object.object-index c.object-item.result (slice_get_read xs (length xs) c.loop-object.object-index c.object-item.result refl (search rules) c.object-item.is)))
    (values-then (take c.loop-object.object-index xs) (c.object-item.result ∷ []) c.args.image.now c.loop-object.image c.take_value.new.image c.loop-object.invariant c.take_value.ensures)

pub returns : goal.returns
returns c =
    let e : take c.loop-object.object-index c.args.objects.now ≡ c.args.objects.now = grind (arith, common_steps) in
    subst (λ js. TakesValues js c.args.image.now c.loop-object.image) e c.loop-object.invariant
