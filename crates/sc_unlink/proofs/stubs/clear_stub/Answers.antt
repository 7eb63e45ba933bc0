use Rattle.std.proofs.Common.{◌∙◌}
use Rattle.sc_unlink.proofs.Lists.{spends-then}
use Rattle.sc_unlink.proofs.Clearing.{second-there, stub-written}
use Rattle.sc_unlink.proofs.stubs.clear_stub.Goals as goal

pub set_word-requires-2 : goal.set_word-requires-2
set_word-requires-2 c = second-there c.args.image.now c.set_word.new.self c.args.stub c.first_word.result c.set_word.ensures.words c.requires.second

pub returns : goal.returns
returns c = record {
  words = stub-written c.args.image.now c.set_word.new.self c.set_word-2.new.self c.args.stub c.first_word.result c.second_word.result c.first_word.ensures c.second_word.ensures c.set_word.ensures.words c.set_word-2.ensures.words;
  count = c.set_word-2.ensures.count ∙ c.set_word.ensures.count;
  keys = λ a. c.set_word-2.ensures.keys a ∙ c.set_word.ensures.keys a;
  values = λ k. c.set_word-2.ensures.values k ∙ c.set_word.ensures.values k;
  texts = λ a. c.set_word-2.ensures.texts a ∙ c.set_word.ensures.texts a;
  literals = λ a. c.set_word-2.ensures.literals a ∙ c.set_word.ensures.literals a;
  room = spends-then c.args.image.now c.set_word.new.self c.set_word-2.new.self c.set_word.ensures.room c.set_word-2.ensures.room;
}
