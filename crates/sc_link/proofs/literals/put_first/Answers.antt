use Rattle.sc_link.proofs.LiteralPlaces.{changes-put, free-place, literal-puts, not-there}
use Rattle.sc_link.proofs.literals.put_first.Goals as goal

pub put_literal-requires : goal.put_literal-requires
put_literal-requires c = record {
  room = c.requires.room;
  free = free-place c.args.literal c.args.image.now c.requires.free c.requires.absent;
  absent = not-there c.args.literal c.args.image.now c.requires.absent;
}

pub returns : goal.returns
returns c =
    literal-puts c.args.literal c.args.image.now c.put_literal.new.self
    (changes-put c.args.literal c.args.image.now c.put_literal.new.self c.requires.free c.requires.absent c.put_literal.ensures.literals)
    c.put_literal.ensures.count c.put_literal.ensures.keys c.put_literal.ensures.values c.put_literal.ensures.words c.put_literal.ensures.texts c.put_literal.ensures.room
