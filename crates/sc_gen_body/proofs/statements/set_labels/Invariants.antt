use Rattle.std.proofs.Common.{◌≡◌, ◌+◌, length, drop}
use Rattle.sc_gen_body.specs.Jumps.{with_jumps, start_of}
use Rattle.sc_gen_body.proofs.statements.set_labels.Given as goal

abbrev pub invariant-loop-l : goal.invariant-loop-l
invariant-loop-l l = record {
  jumps : with_jumps l.code l.at (start_of l.first l.starts) (drop l.l-index l.labels) ≡ with_jumps l.initial.code l.first (start_of l.first l.starts) l.labels;
  at_is : l.at ≡ l.first + l.l-index;
  same : length l.code ≡ length l.initial.code;
}
