use Rattle.std.proofs.Common.{arith, ◌∙◌, subst, sym}
use Rattle.sc_incr.specs.Stands.{Has, IsOpen}
use Rattle.sc_incr.proofs.Entering.{linked-entered}
use Rattle.sc_incr.proofs.parts.enter.Goals as goal

pub put_parts-requires : goal.put_parts-requires
put_parts-requires c = record {
  stands = (c.requires.left.value, c.requires.left.stands);
  follows = c.requires.follows;
  statics = c.requires.parts.statics;
  texts = c.requires.parts.texts;
  jumps = c.requires.parts.jumps;
  literals = c.requires.parts.literals;
  texts_room = c.requires.room.texts;
  statics_room = c.requires.room.statics;
  literals_room = let a = c.requires.room.literals in omega arith;
  functions_room = c.requires.room.functions;
}

pub relocate_new-requires : goal.relocate_new-requires
relocate_new-requires c = c.as_slice.ensures.value ∙ c.requires.parts.symbols

pub returns : goal.returns
returns c =
    let e = c.as_slice-2.ensures.value in
    let left = subst (λ ks. IsOpen c.args.entries.now c.args.funs.now ks c.args.image.now) (sym e) c.requires.left in
    linked-entered c.patches_over.ensures c.args.entries.now c.args.funs.now c.args.entry.now c.args.parts.functions.items c.as_slice-2.result.now c.args.image.now c.put_parts.new.image c.relocate_new.new.image c.patch_keys.new.image c.requires.follows
    left (c.put_parts.ensures left.value left.stands) (λ q h. subst (λ ks. Has q ks) (sym e) (c.requires.parts.changed q h)) c.relocate_new.ensures c.patch_keys.ensures
