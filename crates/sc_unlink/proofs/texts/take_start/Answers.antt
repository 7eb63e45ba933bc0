use Rattle.std.proofs.Common.{◌∙◌, sym}
use Rattle.sc_unlink.proofs.Gone.{takes-none}
use Rattle.sc_unlink.proofs.texts.take_start.Goals as goal

pub returns-then-begins : goal.returns-then-begins
returns-then-begins c = λ ts h. record {
  words = c.take_text.ensures.words;
  texts = c.take_text.ensures.texts;
  count = c.take_text.ensures.count;
  keys = c.take_text.ensures.keys;
  values = c.take_text.ensures.values;
  literals = c.take_text.ensures.literals;
  room = c.take_text.ensures.room;
}

pub returns-else-begins : goal.returns-else-begins
returns-else-begins c = λ ts h. takes-none ts c.args.start c.args.image.now h (sym c.begins.ensures ∙ c.if-begins.false)
