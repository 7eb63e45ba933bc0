use Rattle.std.proofs.Common.{◌≡◌, ◌++◌, take}
use Rattle.sc_check_initial.specs.Contents.{bytes}
use Rattle.sc_check_initial.proofs.contents.put_bytes.Given as goal

abbrev pub invariant-loop-b : goal.invariant-loop-b
invariant-loop-b l = l.items ≡ l.fn.items ++ bytes (take l.b-index l.bytes)
