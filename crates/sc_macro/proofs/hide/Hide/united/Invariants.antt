use Rattle.std.proofs.Common.{◌≡◌, take, not, filter}
use Rattle.sc_macro.specs.Hides.{among}
use Rattle.sc_macro.proofs.hide.Hide.united.Given as goal

abbrev pub invariant-loop-n : goal.invariant-loop-n
invariant-loop-n l = l.items.items ≡ filter (λ x. not (among x l.other)) (take l.n-index l.self)
