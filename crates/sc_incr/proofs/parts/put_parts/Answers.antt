use Rattle.std.proofs.Common.{arith}
use Rattle.sc_incr.proofs.Stages.{few-then, free-then, functions-then, jumps-then, literals-apart, literals-then, new-then, statics-then, stubs-then, texts-then}
use Rattle.sc_incr.proofs.parts.put_parts.Goals as goal

pub put_functions-requires : goal.put_functions-requires
put_functions-requires c = record {
  room = c.requires.functions_room;
  few = few-then c.args.entries.now c.args.funs.now c.requires.stands.0 c.args.entry.now c.args.functions.items c.requires.follows c.args.image.now c.requires.stands.1;
  new = new-then c.args.entries.now c.args.funs.now c.requires.stands.0 c.args.entry.now c.args.functions.items c.requires.follows c.args.image.now c.requires.stands.1;
}

pub put_statics-requires : goal.put_statics-requires
put_statics-requires c = let a = c.requires.statics_room in let b = c.put_functions.ensures.room.for_values in omega arith

pub put_texts-requires : goal.put_texts-requires
put_texts-requires c =
    let s1 = functions-then c.args.entries.now c.args.funs.now c.requires.stands.0 c.args.entry.now c.args.functions.items c.requires.follows c.args.image.now c.put_functions.new.image c.requires.stands.1 c.put_functions.ensures in
    let s2 = statics-then c.args.entries.now c.args.funs.now c.requires.stands.0 c.args.entry.now c.args.functions.items c.requires.follows c.args.statics.items c.put_functions.new.image c.put_statics.new.image c.requires.statics s1 c.put_statics.ensures in
    record {
      room = let a = c.requires.texts_room in let b = c.put_functions.ensures.room.for_texts in let d = c.put_statics.ensures.room.for_texts in omega arith;
      free = free-then c.args.entries.now c.args.funs.now c.requires.stands.0 c.args.entry.now c.args.functions.items c.requires.follows c.args.texts.items c.put_statics.new.image c.requires.texts s2;
    }

pub set_jumps-requires : goal.set_jumps-requires
set_jumps-requires c =
    let s1 = functions-then c.args.entries.now c.args.funs.now c.requires.stands.0 c.args.entry.now c.args.functions.items c.requires.follows c.args.image.now c.put_functions.new.image c.requires.stands.1 c.put_functions.ensures in
    let s2 = statics-then c.args.entries.now c.args.funs.now c.requires.stands.0 c.args.entry.now c.args.functions.items c.requires.follows c.args.statics.items c.put_functions.new.image c.put_statics.new.image c.requires.statics s1 c.put_statics.ensures in
    let s3 = texts-then c.args.entries.now c.args.funs.now c.requires.stands.0 c.args.entry.now c.args.functions.items c.requires.follows c.args.texts.items c.put_statics.new.image c.put_texts.new.image c.requires.texts s2 c.put_texts.ensures in
    stubs-then c.args.entries.now c.args.funs.now c.requires.stands.0 c.args.entry.now c.args.functions.items c.requires.follows c.put_texts.new.image s3

pub put_literals-requires : goal.put_literals-requires
put_literals-requires c =
    let s1 = functions-then c.args.entries.now c.args.funs.now c.requires.stands.0 c.args.entry.now c.args.functions.items c.requires.follows c.args.image.now c.put_functions.new.image c.requires.stands.1 c.put_functions.ensures in
    let s2 = statics-then c.args.entries.now c.args.funs.now c.requires.stands.0 c.args.entry.now c.args.functions.items c.requires.follows c.args.statics.items c.put_functions.new.image c.put_statics.new.image c.requires.statics s1 c.put_statics.ensures in
    let s3 = texts-then c.args.entries.now c.args.funs.now c.requires.stands.0 c.args.entry.now c.args.functions.items c.requires.follows c.args.texts.items c.put_statics.new.image c.put_texts.new.image c.requires.texts s2 c.put_texts.ensures in
    let s4 = jumps-then c.args.entries.now c.args.funs.now c.requires.stands.0 c.args.entry.now c.args.functions.items c.requires.follows c.args.jumps.items c.put_texts.new.image c.set_jumps.new.image c.requires.jumps s3 c.set_jumps.ensures in
    record {
      room = let a = c.requires.literals_room in let b = c.put_functions.ensures.room.for_literals in let d = c.put_statics.ensures.room.for_literals in let e = c.put_texts.ensures.room.for_literals in let g = c.set_jumps.ensures.room.for_literals in omega arith;
      free = literals-apart c.args.entries.now c.args.funs.now c.requires.stands.0 c.args.entry.now c.args.functions.items c.requires.follows c.args.literals.items c.set_jumps.new.image c.requires.literals s4;
    }

pub returns : goal.returns
returns c = λ v h.
    let s1 = functions-then c.args.entries.now c.args.funs.now v c.args.entry.now c.args.functions.items c.requires.follows c.args.image.now c.put_functions.new.image h c.put_functions.ensures in
    let s2 = statics-then c.args.entries.now c.args.funs.now v c.args.entry.now c.args.functions.items c.requires.follows c.args.statics.items c.put_functions.new.image c.put_statics.new.image c.requires.statics s1 c.put_statics.ensures in
    let s3 = texts-then c.args.entries.now c.args.funs.now v c.args.entry.now c.args.functions.items c.requires.follows c.args.texts.items c.put_statics.new.image c.put_texts.new.image c.requires.texts s2 c.put_texts.ensures in
    let s4 = jumps-then c.args.entries.now c.args.funs.now v c.args.entry.now c.args.functions.items c.requires.follows c.args.jumps.items c.put_texts.new.image c.set_jumps.new.image c.requires.jumps s3 c.set_jumps.ensures in
    literals-then c.args.entries.now c.args.funs.now v c.args.entry.now c.args.functions.items c.requires.follows c.args.literals.items c.set_jumps.new.image c.put_literals.new.image c.requires.literals s4 c.put_literals.ensures
