use Rattle.std.proofs.Common.{◌≡◌, ◌++◌, replicate}
use Rattle.sc_fmt.proofs.numbers.fill.Given as goal

-- as many bytes were appended as the loop has turns behind it
abbrev pub invariant-loop : goal.invariant-loop
invariant-loop l = l.out.items ≡ l.initial.out.items ++ replicate l.counter l.byte
