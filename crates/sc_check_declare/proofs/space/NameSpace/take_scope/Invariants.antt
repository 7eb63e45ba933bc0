use Rattle.std.proofs.Common.{◌≡◌, ◌-◌, ◌++◌, length, take, drop}
use Rattle.sc_check_declare.proofs.space.NameSpace.take_scope.Given as goal

-- what is taken and what is to be taken are the scope, and what is below stays
abbrev pub invariant-loop-alloc : goal.invariant-loop-alloc
invariant-loop-alloc g l =
    (l.rows ++ take (length l.self - l.began) l.self ≡ take (length l.fn.self - l.began) l.fn.self)
    × (drop (length l.self - l.began) l.self ≡ drop (length l.fn.self - l.began) l.fn.self)

abbrev pub decreases-loop-alloc : goal.decreases-loop-alloc
decreases-loop-alloc g l = length l.self
