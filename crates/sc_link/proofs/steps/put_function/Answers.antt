use Rattle.std.proofs.Common.{refl}
use Rattle.sc_link.proofs.steps.put_function.Goals as goal

pub put_fun-requires : goal.put_fun-requires
put_fun-requires c = record { room = c.requires.room; few = c.requires.few; new = c.requires.new.unknown 0 c.args.key refl; absent = c.requires.new.absent 0 c.args.key refl }

pub returns : goal.returns
returns c = record {
  count = c.put_fun.ensures.count;
  keys = c.put_fun.ensures.keys;
  values = c.put_fun.ensures.values;
  words = c.put_fun.ensures.words;
  texts = c.put_fun.ensures.texts;
  literals = c.put_fun.ensures.literals;
  room = c.put_fun.ensures.room;
}
