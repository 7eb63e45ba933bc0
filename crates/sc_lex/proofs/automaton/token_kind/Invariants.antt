use Rattle.std.proofs.Common.{◌≡◌, take}
use Rattle.sc_lex.specs.Automaton.{run}
use Rattle.sc_lex.specs.declared.automaton.State.TheVariants.{Start}
use Rattle.sc_lex.proofs.automaton.token_kind.Given as goal

abbrev pub invariant-loop-b : goal.invariant-loop-b
invariant-loop-b l = l.state ≡ run Start (take l.b-index l.text)
