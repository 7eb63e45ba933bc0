use Rattle.std.proofs.Common.{◌≡◌, length}
use Rattle.sc_macro.specs.Define.{same_tokens}
use Rattle.sc_macro.proofs.redefine.same_tokens.Given as goal

abbrev pub invariant-comparing : goal.invariant-comparing
invariant-comparing l = same_tokens l.left l.right ≡ same_tokens l.fn.left l.fn.right

abbrev pub decreases-comparing : goal.decreases-comparing
decreases-comparing l = length l.left
