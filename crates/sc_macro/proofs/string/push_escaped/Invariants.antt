use Rattle.std.proofs.Common.{◌≡◌, ◌++◌, take}
use Rattle.sc_macro.specs.Strings.{escaped}
use Rattle.sc_macro.proofs.string.push_escaped.Given as goal

abbrev pub invariant-loop-byte : goal.invariant-loop-byte
invariant-loop-byte l = l.out.items ≡ l.fn.out.items ++ escaped (take l.byte-index l.text)
