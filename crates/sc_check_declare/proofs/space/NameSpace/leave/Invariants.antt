use Rattle.std.proofs.Common.{◌≡◌, ◌-◌, length, drop}
use Rattle.sc_check_declare.proofs.space.NameSpace.leave.Given as goal

abbrev pub invariant-loop-self : goal.invariant-loop-self
invariant-loop-self g l = drop (length l.self - l.began) l.self ≡ drop (length l.fn.self - l.began) l.fn.self

abbrev pub decreases-loop-self : goal.decreases-loop-self
decreases-loop-self g l = length l.self
