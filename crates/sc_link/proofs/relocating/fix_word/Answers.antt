use Rattle.sc_link.proofs.Fixes.{fixes-done, fixes-missing}
use Rattle.sc_link.proofs.relocating.fix_word.Goals as goal

pub returns-in-Some : goal.returns-in-Some
returns-in-Some c = record {
  words = fixes-done c.args.image.now c.set_word.new.self c.args.at c.args.kind c.args.second c.args.target c.in-Some.word c.relocated-word.result c.in-Some.ensures c.relocated-word.ensures c.set_word.ensures.words;
  count = c.set_word.ensures.count;
  keys = c.set_word.ensures.keys;
  values = c.set_word.ensures.values;
  texts = c.set_word.ensures.texts;
  literals = c.set_word.ensures.literals;
  room = c.set_word.ensures.room;
}

pub returns-in-None : goal.returns-in-None
returns-in-None c = fixes-missing c.args.image.now c.args.at c.args.kind c.args.second c.args.target c.in-None.ensures
