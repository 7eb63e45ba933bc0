use Rattle.std.proofs.Common.{◌≡◌, ◌∙◌, ap, arith, flat_map, length, refl, rules, subst, take}
use Rattle.std.proofs.lemmas.Grind.{common_steps}
use Rattle.std.proofs.lemmas.Option.{slice_get_read}
use Rattle.std.specs.Prelude.{option_to_list}
use Rattle.sc_object.specs.declared.object.Object.{Object}
use Rattle.sc_link.specs.Entries.{text_of}
use Rattle.sc_unlink.specs.Taking.{TakesTexts}
use Rattle.sc_unlink.proofs.Gone.{frames-more, frames-turn, texts-none}
use Rattle.sc_unlink.proofs.texts.take_all.Goals as goal

pub loop-frame-init : goal.loop-frame-init
loop-frame-init c = λ ts h l. texts-none c.args.image.now

pub loop-frame-preserved : goal.loop-frame-preserved
loop-frame-preserved c = λ ts h l.
    let xs = c.as_slice-frame-items.result.now in
    frames-turn c.args.entry.now xs c.loop-frame.frame-index c.frame-item.result ts c.args.image.now c.loop-frame.image c.take_text.new.image
    (slice_get_read xs (length xs) c.loop-frame.frame-index c.frame-item.result refl (search rules) c.frame-item.is) (frames-more c.args.entry.now xs (c.as_slice-frame-items.ensures ∙ ap (λ (o : Object). o.frames) c.get.ensures) ts l) h (c.loop-frame.invariant ts h l) (c.take_text.ensures ts)

pub returns : goal.returns
returns c = λ ts h l.
    let e : take c.loop-frame.frame-index c.as_slice-frame-items.result.now ≡ c.args.entry.now.object.frames = grind (arith, common_steps) in
    subst (λ fs. TakesTexts (flat_map (λ f. option_to_list (text_of c.args.entry.now f)) fs) c.args.image.now c.loop-frame.image) e (c.loop-frame.invariant ts h l)
