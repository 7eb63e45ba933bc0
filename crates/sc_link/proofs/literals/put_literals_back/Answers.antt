use Rattle.sc_link.proofs.Turns.{literals-end, literals-turn, place-one, place-turn, room-some, room-turn}
use Rattle.sc_link.proofs.literals.put_literals_back.Goals as goal

pub putting-init : goal.putting-init
putting-init c = record { later = λ f h. h; room = c.requires.room; free = c.requires.free }

pub putting-preserved : goal.putting-preserved
putting-preserved c =
    let e = c.in-Some.ensures in
    record {
      later = λ f h. c.putting.invariant.later f (literals-turn c.putting.literals c.pop.new.self c.in-Some.literal c.putting.image c.put_literal.new.image f e c.put_literal.ensures h);
      room = room-turn c.putting.literals c.pop.new.self c.in-Some.literal _ _ e c.putting.invariant.room c.put_literal.ensures.room.for_literals;
      free = place-turn c.putting.literals c.pop.new.self c.in-Some.literal c.putting.image c.put_literal.new.image e c.putting.invariant.free c.put_literal.ensures;
    }

pub returns : goal.returns
returns c = c.putting.invariant.later c.putting.image (literals-end c.putting.literals c.putting.image c.in_default.ensures.0)

pub put_literal-requires : goal.put_literal-requires
put_literal-requires c = record {
  room = room-some c.putting.literals c.pop.new.self c.in-Some.literal _ c.in-Some.ensures c.putting.invariant.room;
  free = place-one c.putting.literals c.pop.new.self c.in-Some.literal c.putting.image c.in-Some.ensures c.putting.invariant.free;
}
