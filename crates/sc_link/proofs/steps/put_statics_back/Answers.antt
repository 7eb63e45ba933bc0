use Rattle.sc_link.proofs.Turns.{room-some, room-turn, statics-end, statics-turn}
use Rattle.sc_link.proofs.steps.put_statics_back.Goals as goal

pub putting-init : goal.putting-init
putting-init c = record { later = λ f h. h; room = c.requires.room }

pub putting-preserved : goal.putting-preserved
putting-preserved c =
    let e = c.in-Some.ensures in
    record {
      later = λ f h. c.putting.invariant.later f (statics-turn c.putting.statics c.pop.new.self c.in-Some.object c.putting.image c.put_static.new.image f e c.put_static.ensures h);
      room = room-turn c.putting.statics c.pop.new.self c.in-Some.object _ _ e c.putting.invariant.room c.put_static.ensures.room.for_values;
    }

pub returns : goal.returns
returns c = c.putting.invariant.later c.putting.image (statics-end c.putting.statics c.putting.image c.in_default.ensures.0)

pub put_static-requires : goal.put_static-requires
put_static-requires c = record { room = room-some c.putting.statics c.pop.new.self c.in-Some.object _ c.in-Some.ensures c.putting.invariant.room }
