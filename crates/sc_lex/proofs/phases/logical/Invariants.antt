use Rattle.std.proofs.Common.{◌≡◌, ◌+◌, ◌≤◌, ◌++◌, length}
use Rattle.sc_lex.specs.Phases.{without_returns, trigraphs, numbered, joined, logical}
use Rattle.sc_lex.proofs.phases.logical.Given as goal

-- what was written, and what the bytes that are left give, is the whole
abbrev pub invariant-bytes : goal.invariant-bytes
invariant-bytes l = record {
  whole : l.out ++ joined (numbered l.line (trigraphs (without_returns l.left))) ≡ logical l.fn.text;
  few : l.line + length l.left ≤ length l.fn.text + 1;
}

abbrev pub decreases-bytes : goal.decreases-bytes
decreases-bytes l = length l.left
