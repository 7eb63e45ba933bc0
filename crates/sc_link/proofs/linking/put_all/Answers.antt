use Rattle.std.proofs.Common.{arith}
use Rattle.sc_link.proofs.Parts.{bare-new, parts-free, parts-functions, parts-jumps, parts-literals, parts-place, parts-statics, parts-stubs, parts-texts}
use Rattle.sc_link.proofs.linking.put_all.Goals as goal

pub put_functions-requires : goal.put_functions-requires
put_functions-requires c = record {
  room = c.requires.functions_room;
  few = let a = c.requires.bare.count in let b = c.requires.few in omega arith;
  new = bare-new c.args.keys.items c.args.image.now c.requires.bare c.requires.functions;
}

pub put_statics-requires : goal.put_statics-requires
put_statics-requires c = let a = c.requires.statics_room in let b = c.put_functions.ensures.room.for_values in omega arith

pub put_texts-requires : goal.put_texts-requires
put_texts-requires c =
    let p = parts-functions c.args.keys.items c.args.image.now c.put_functions.new.image c.requires.bare c.requires.functions c.requires.few c.put_functions.ensures in
    let q = parts-statics c.args.keys.items c.args.statics.items c.put_functions.new.image c.put_statics.new.image p c.put_statics.ensures in
    record {
      room = let a = c.requires.texts_room in let b = c.put_functions.ensures.room.for_texts in let d = c.put_statics.ensures.room.for_texts in omega arith;
      free = parts-free c.args.keys.items c.args.statics.items c.args.texts.items c.put_statics.new.image q c.requires.apart c.requires.inside;
    }

pub set_jumps-requires : goal.set_jumps-requires
set_jumps-requires c =
    let p = parts-functions c.args.keys.items c.args.image.now c.put_functions.new.image c.requires.bare c.requires.functions c.requires.few c.put_functions.ensures in
    let q = parts-statics c.args.keys.items c.args.statics.items c.put_functions.new.image c.put_statics.new.image p c.put_statics.ensures in
    let f = parts-free c.args.keys.items c.args.statics.items c.args.texts.items c.put_statics.new.image q c.requires.apart c.requires.inside in
    let r = parts-texts c.args.keys.items c.args.statics.items c.args.texts.items c.put_statics.new.image c.put_texts.new.image q f c.put_texts.ensures in
    parts-stubs c.args.keys.items c.args.statics.items c.args.texts.items c.put_texts.new.image r c.requires.functions c.requires.few

pub put_literals-requires : goal.put_literals-requires
put_literals-requires c =
    let p = parts-functions c.args.keys.items c.args.image.now c.put_functions.new.image c.requires.bare c.requires.functions c.requires.few c.put_functions.ensures in
    let q = parts-statics c.args.keys.items c.args.statics.items c.put_functions.new.image c.put_statics.new.image p c.put_statics.ensures in
    let f = parts-free c.args.keys.items c.args.statics.items c.args.texts.items c.put_statics.new.image q c.requires.apart c.requires.inside in
    let r = parts-texts c.args.keys.items c.args.statics.items c.args.texts.items c.put_statics.new.image c.put_texts.new.image q f c.put_texts.ensures in
    let s = parts-jumps c.args.keys.items c.args.statics.items c.args.jumps.items c.args.texts.items c.put_texts.new.image c.set_jumps.new.image c.requires.few r c.set_jumps.ensures in
    record {
      room = let a = c.requires.literals_room in let b = c.put_functions.ensures.room.for_literals in let d = c.put_statics.ensures.room.for_literals in let e = c.put_texts.ensures.room.for_literals in let g = c.set_jumps.ensures.room.for_literals in omega arith;
      free = parts-place c.args.keys.items c.args.statics.items c.args.jumps.items c.args.texts.items c.args.literals.items c.set_jumps.new.image s c.requires.one;
    }

pub returns : goal.returns
returns c =
    let p = parts-functions c.args.keys.items c.args.image.now c.put_functions.new.image c.requires.bare c.requires.functions c.requires.few c.put_functions.ensures in
    let q = parts-statics c.args.keys.items c.args.statics.items c.put_functions.new.image c.put_statics.new.image p c.put_statics.ensures in
    let f = parts-free c.args.keys.items c.args.statics.items c.args.texts.items c.put_statics.new.image q c.requires.apart c.requires.inside in
    let r = parts-texts c.args.keys.items c.args.statics.items c.args.texts.items c.put_statics.new.image c.put_texts.new.image q f c.put_texts.ensures in
    let s = parts-jumps c.args.keys.items c.args.statics.items c.args.jumps.items c.args.texts.items c.put_texts.new.image c.set_jumps.new.image c.requires.few r c.set_jumps.ensures in
    parts-literals c.args.keys.items c.args.statics.items c.args.jumps.items c.args.texts.items c.args.literals.items c.set_jumps.new.image c.put_literals.new.image s c.put_literals.ensures
