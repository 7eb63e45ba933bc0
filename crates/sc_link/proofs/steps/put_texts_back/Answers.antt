use Rattle.sc_link.proofs.Turns.{free-one, free-turn, room-some, room-turn, texts-end, texts-turn}
use Rattle.sc_link.proofs.steps.put_texts_back.Goals as goal

pub putting-init : goal.putting-init
putting-init c = record { later = λ f h. h; room = c.requires.room; free = c.requires.free }

pub putting-preserved : goal.putting-preserved
putting-preserved c =
    let e = c.in-Some.ensures in
    record {
      later = λ f h. c.putting.invariant.later f (texts-turn c.putting.texts c.pop.new.self c.in-Some.text c.putting.image c.put_text.new.image f e c.put_text.ensures h);
      room = room-turn c.putting.texts c.pop.new.self c.in-Some.text _ _ e c.putting.invariant.room c.put_text.ensures.room.for_texts;
      free = free-turn c.putting.texts c.pop.new.self c.in-Some.text c.putting.image c.put_text.new.image e c.putting.invariant.free c.put_text.ensures;
    }

pub returns : goal.returns
returns c = c.putting.invariant.later c.putting.image (texts-end c.putting.texts c.putting.image c.in_default.ensures.0)

pub put_text-requires : goal.put_text-requires
put_text-requires c = record {
  room = room-some c.putting.texts c.pop.new.self c.in-Some.text _ c.in-Some.ensures c.putting.invariant.room;
  free = free-one c.putting.texts c.pop.new.self c.in-Some.text c.putting.image c.in-Some.ensures c.putting.invariant.free;
}
