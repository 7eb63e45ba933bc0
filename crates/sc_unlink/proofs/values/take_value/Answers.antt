use Rattle.std.proofs.Common.{◌∙◌, sym}
use Rattle.sc_isa_image.specs.Lookups.{value_of}
use Rattle.sc_unlink.proofs.Clearing.{value-absent, value-taken}
use Rattle.sc_unlink.proofs.values.take_value.Goals as goal

pub returns-in-Some : goal.returns-in-Some
returns-in-Some c = record {
  values = λ q. c.take_value.ensures.values q ∙ value-taken c.args.object.now q (value_of c.args.image.now q);
  count = c.take_value.ensures.count;
  keys = c.take_value.ensures.keys;
  words = c.take_value.ensures.words;
  texts = c.take_value.ensures.texts;
  literals = c.take_value.ensures.literals;
  room = c.take_value.ensures.room;
}

pub returns-in-None : goal.returns-in-None
returns-in-None c = value-absent c.args.image.now c.args.object.now (sym c.in-None.ensures)
