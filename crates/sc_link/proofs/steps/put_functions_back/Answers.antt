use Rattle.sc_link.proofs.Turns.{few-some, few-turn, functions-end, functions-turn, new-one, new-turn, room-some, room-turn}
use Rattle.sc_link.proofs.steps.put_functions_back.Goals as goal

pub putting-init : goal.putting-init
putting-init c = record { later = λ f h. h; room = c.requires.room; few = c.requires.few; new = c.requires.new }

pub putting-preserved : goal.putting-preserved
putting-preserved c =
    let e = c.in-Some.ensures in
    record {
      later = λ f h. c.putting.invariant.later f (functions-turn c.putting.keys c.pop.new.self c.in-Some.key c.putting.image c.put_function.new.image f e c.put_function.ensures h);
      room = room-turn c.putting.keys c.pop.new.self c.in-Some.key _ _ e c.putting.invariant.room c.put_function.ensures.room.for_functions;
      few = few-turn c.putting.keys c.pop.new.self c.in-Some.key _ _ e c.putting.invariant.few c.put_function.ensures.count;
      new = new-turn c.putting.keys c.pop.new.self c.in-Some.key c.putting.image c.put_function.new.image e c.putting.invariant.new c.put_function.ensures;
    }

pub returns : goal.returns
returns c = c.putting.invariant.later c.putting.image (functions-end c.putting.keys c.putting.image c.in_default.ensures.0)

pub put_function-requires : goal.put_function-requires
put_function-requires c =
    let e = c.in-Some.ensures in
    record {
      room = room-some c.putting.keys c.pop.new.self c.in-Some.key _ e c.putting.invariant.room;
      few = few-some c.putting.keys c.pop.new.self c.in-Some.key _ e c.putting.invariant.few;
      new = new-one c.putting.keys c.pop.new.self c.in-Some.key c.putting.image e c.putting.invariant.new;
    }
