use Rattle.sc_lex.proofs.Runs.{run_next}
use Rattle.sc_lex.proofs.automaton.token_kind.Goals as goal

pub loop-b-preserved : goal.loop-b-preserved
loop-b-preserved c = run_next c.args.text.now c.loop-b.b-index c.loop-b-test.true c.loop-b.state c.step-state.result c.loop-b.invariant c.step-state.ensures
