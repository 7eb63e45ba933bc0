use Rattle.std.proofs.Common.{◌≡◌, ◌++◌, length, drop, None}
use Rattle.sc_gen_body.specs.Jumps.{start_of}
use Rattle.sc_gen_body.specs.Statements.{cases_code}
use Rattle.sc_gen_body.proofs.statements.cases.Given as goal

-- the comparisons to come stand behind those that are there
abbrev pub invariant-loop-l : goal.invariant-loop-l
invariant-loop-l l =
    l.code ++ cases_code l.block (start_of l.top l.starts) (length l.code) l.default (drop l.l-index l.labels)
    ≡ l.initial.code ++ cases_code l.block (start_of l.top l.starts) (length l.initial.code) None l.labels
