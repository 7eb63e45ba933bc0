use Rattle.std.proofs.Common.{sym, ◌∙◌, ap}
use Rattle.sc_lex.specs.Automaton.{kind_of}
use Rattle.sc_lex.specs.Pieces.{bytes_of}
use Rattle.sc_lex.proofs.Runs.{dead}
use Rattle.sc_lex.proofs.Longest.{length_bytes, here, next, stops, run_marks}
use Rattle.sc_lex.proofs.piece.longest.Goals as goal
use Rattle.sc_lex.proofs.piece.longest.Goals.{in-Some, in-None}

pub returns-then-is_dead-clause-best : goal.returns-then-is_dead-clause-best
returns-then-is_dead-clause-best c =
    let on = run_marks c.args.marks.now c.loop-i.i c.loop-i-test.true c.loop-i.state c.step-next.result c.loop-i.invariant.state _ c.step-next.ensures in
    c.loop-i.invariant.best ∙ sym (stops c.loop-i.i (bytes_of c.args.marks.now) (rw (length_bytes c.args.marks.now) c.loop-i-test.true) (sym on ∙ dead c.step-next.result (sym c.is_dead.ensures ∙ c.if-is_dead.true)))

pub loop-i-preserved : goal.loop-i-preserved
loop-i-preserved c =
    let on = run_marks c.args.marks.now c.loop-i.i c.loop-i-test.true c.loop-i.state c.step-next.result c.loop-i.invariant.state _ c.step-next.ensures in
    record {
      state = on;
      alive = sym c.is_dead.ensures ∙ c.if-is_dead.false;
      best = elim c.match-kind_of.branch [
        | in-Some w ↦ w.best-is ∙ sym (here c.loop-i.i (bytes_of c.args.marks.now) w.in-Some.kind (sym (ap kind_of on) ∙ sym c.kind_of.ensures ∙ w.in-Some.is))
        | in-None w ↦ w.best-is ∙ c.loop-i.invariant.best ∙ sym (next c.loop-i.i (bytes_of c.args.marks.now) (sym (ap kind_of on) ∙ sym c.kind_of.ensures ∙ w.in-None.is))
      ];
    }
