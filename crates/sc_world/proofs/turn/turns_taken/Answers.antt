use Rattle.std.proofs.Common.{◌∙◌, sym, subst, arith, ◌<◌, ◌+◌, length}
use Rattle.sc_interp_world.specs.Outputs.{output}
use Rattle.sc_world.specs.Posts.{Posted, PostedSome}
use Rattle.sc_world.specs.Standing.{state_of}
use Rattle.sc_world.specs.Turns.{standing_at}
use Rattle.sc_world.proofs.Courses.{at_first}
use Rattle.sc_world.proofs.Exits.{comes_here, comes_on, comes_last, comes_nearer}
use Rattle.sc_world.proofs.Sending.{posts_first, posts_step, posts_last, posts_cut}
use Rattle.sc_world.proofs.turn.turns_taken.Goals as goal

pub turning-init : goal.turning-init
turning-init g c = record {
  onto = at_first c.args.want.now c.args.texts.now (standing_at (state_of c.args.going.now c.args.callers.now c.args.world.now) c.args.first c.args.count.now);
  posted = λ at. posts_first (g.K.Sink.written c.args.out.now) c.args.sent.now (output c.args.world.now.trail) at;
  few = λ at. omega (arith, at);
  later = omega arith;
}

pub returns-in-Some-clause-comes : goal.returns-in-Some-clause-comes
returns-in-Some-clause-comes g c =
    comes_here c.args.want.now c.args.texts.now (standing_at (state_of c.args.going.now c.args.callers.now c.args.world.now) c.args.first c.args.count.now)
    c.turning.going c.turning.shown c.turning.callers c.turning.world c.turning.count c.rests.result c.in-Some.halt c.rests.ensures c.in-Some.is c.turning.invariant.onto

pub returns-in-Some-clause-sends : goal.returns-in-Some-clause-sends
returns-in-Some-clause-sends g c = λ at. c.turning.invariant.posted at

pub returns-in-Some-clause-few : goal.returns-in-Some-clause-few
returns-in-Some-clause-few g c = λ at. c.turning.invariant.few at

pub turning-smaller : goal.turning-smaller
turning-smaller g c =
    comes_nearer c.args.want.now c.args.texts.now (standing_at (state_of c.turning.going c.turning.callers c.turning.world) c.turning.shown c.turning.count)
    c.onward.result c.in-Ok.next c.onward.new.going c.onward.new.callers c.onward.new.world c.onward.new.count (sym c.rests.ensures ∙ c.in-None.is) (c.onward.ensures c.turning.shown) c.in-Ok.is

pub turning-preserved : goal.turning-preserved
turning-preserved g c = record {
  onto =
      comes_on c.args.want.now c.args.texts.now (standing_at (state_of c.args.going.now c.args.callers.now c.args.world.now) c.args.first c.args.count.now) (standing_at (state_of c.turning.going c.turning.callers c.turning.world) c.turning.shown c.turning.count)
      c.onward.result c.in-Ok.next c.onward.new.going c.onward.new.callers c.onward.new.world c.onward.new.count (sym c.rests.ensures ∙ c.in-None.is) (c.onward.ensures c.turning.shown) c.in-Ok.is c.turning.invariant.onto;
  posted = λ at.
      subst (Posted (g.K.Sink.written c.args.out.now) (g.K.Sink.written c.post.new.out) (length (output c.args.world.now.trail)) c.post.new.sent) c.output.ensures
      (c.in-Ok-post.ensures.posts (g.K.Sink.written c.args.out.now) (length (output c.args.world.now.trail))
      (subst (Posted (g.K.Sink.written c.args.out.now) (g.K.Sink.written c.turning.out) (length (output c.args.world.now.trail)) c.turning.sent) (sym c.output.ensures)
      (posts_step (g.K.Sink.written c.args.out.now) (g.K.Sink.written c.turning.out) (length (output c.args.world.now.trail)) c.turning.sent c.args.texts.now c.turning.going c.turning.shown c.turning.callers c.turning.world c.turning.count
      c.onward.result c.in-Ok.next c.onward.new.going c.onward.new.callers c.onward.new.world c.onward.new.count (c.onward.ensures c.turning.shown) c.in-Ok.is (c.turning.invariant.posted at))));
  few = λ at. subst (λ bytes. length bytes < c.post.new.sent + 4096) c.output.ensures c.in-Ok-post.ensures.few;
  later = omega (arith, c.post.ensures.later, c.turning.invariant.later);
}

pub returns-in-Err-post-clause-sends : goal.returns-in-Err-post-clause-sends
returns-in-Err-post-clause-sends g c = λ at.
    let first = standing_at (state_of c.args.going.now c.args.callers.now c.args.world.now) c.args.first c.args.count.now in
    let posted = posts_step (g.K.Sink.written c.args.out.now) (g.K.Sink.written c.turning.out) (length (output c.args.world.now.trail)) c.turning.sent c.args.texts.now c.turning.going c.turning.shown c.turning.callers c.turning.world c.turning.count
    c.onward.result c.in-Ok.next c.onward.new.going c.onward.new.callers c.onward.new.world c.onward.new.count (c.onward.ensures c.turning.shown) c.in-Ok.is (c.turning.invariant.posted at) in
    posts_cut (g.K.Sink.written c.args.out.now) (g.K.Sink.written c.turning.out) (g.K.Sink.written c.post.new.out) (length (output c.args.world.now.trail)) c.turning.sent c.args.want.now c.args.texts.now first
    c.onward.new.going c.in-Ok.next c.onward.new.callers c.onward.new.world c.onward.new.count
    (comes_on c.args.want.now c.args.texts.now first (standing_at (state_of c.turning.going c.turning.callers c.turning.world) c.turning.shown c.turning.count)
    c.onward.result c.in-Ok.next c.onward.new.going c.onward.new.callers c.onward.new.world c.onward.new.count (sym c.rests.ensures ∙ c.in-None.is) (c.onward.ensures c.turning.shown) c.in-Ok.is c.turning.invariant.onto)
    posted
    (subst (PostedSome (g.K.Sink.written c.args.out.now) (g.K.Sink.written c.post.new.out) (length (output c.args.world.now.trail))) c.output.ensures
    (c.in-Err-post.ensures.posts (g.K.Sink.written c.args.out.now) (length (output c.args.world.now.trail))
    (subst (Posted (g.K.Sink.written c.args.out.now) (g.K.Sink.written c.turning.out) (length (output c.args.world.now.trail)) c.turning.sent) (sym c.output.ensures) posted)))

pub returns-in-Err-clause-comes : goal.returns-in-Err-clause-comes
returns-in-Err-clause-comes g c =
    comes_last c.args.want.now c.args.texts.now (standing_at (state_of c.args.going.now c.args.callers.now c.args.world.now) c.args.first c.args.count.now) (standing_at (state_of c.turning.going c.turning.callers c.turning.world) c.turning.shown c.turning.count)
    c.onward.result c.in-Err.stop c.onward.new.going c.onward.new.callers c.onward.new.world c.onward.new.count (sym c.rests.ensures ∙ c.in-None.is) (c.onward.ensures c.turning.shown) c.in-Err.is c.turning.invariant.onto

pub returns-in-Err-clause-sends : goal.returns-in-Err-clause-sends
returns-in-Err-clause-sends g c = λ at.
    posts_last (g.K.Sink.written c.args.out.now) (g.K.Sink.written c.turning.out) (length (output c.args.world.now.trail)) c.turning.sent c.args.want.now c.args.texts.now
    (standing_at (state_of c.args.going.now c.args.callers.now c.args.world.now) c.args.first c.args.count.now)
    c.turning.going c.turning.shown c.turning.callers c.turning.world c.turning.count
    c.onward.result c.in-Err.stop c.onward.new.going c.onward.new.callers c.onward.new.world c.onward.new.count
    c.turning.invariant.onto (c.onward.ensures c.turning.shown) c.in-Err.is (c.turning.invariant.posted at)
