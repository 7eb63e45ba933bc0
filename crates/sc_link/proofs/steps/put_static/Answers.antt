use Rattle.std.proofs.Common.{sym}
use Rattle.sc_isa_image.specs.Lookups.{value_of}
use Rattle.sc_link.proofs.Sequences.{static-kept, value-put}
use Rattle.sc_link.proofs.steps.put_static.Goals as goal

pub put_value-requires : goal.put_value-requires
put_value-requires c = record { room = c.requires.room; absent = sym c.in-None.ensures }

pub returns-in-None : goal.returns-in-None
returns-in-None c = record {
  values = λ q. value-put c.args.object.0 q c.args.object.1 (value_of c.args.image.now) (value_of c.put_value.new.self) (sym c.in-None.ensures) (c.put_value.ensures.values q);
  count = c.put_value.ensures.count;
  keys = c.put_value.ensures.keys;
  words = c.put_value.ensures.words;
  texts = c.put_value.ensures.texts;
  literals = c.put_value.ensures.literals;
  room = c.put_value.ensures.room;
}

pub returns-in-Some : goal.returns-in-Some
returns-in-Some c = static-kept c.args.object c.args.image.now _ (sym c.in-Some.ensures)
