use Rattle.std.proofs.Common.{arith}
use Rattle.sc_isa_image.proofs.Listed.{listed-without}
use Rattle.sc_isa_image.proofs.literals.forget.Goals as goal

pub returns-in-Some-place_in-clause-others : goal.returns-in-Some-place_in-clause-others
returns-in-Some-place_in-clause-others c = λ p ne listed.
    let old = c.args.others.now in
    let new = c.swap_remove.new.self in
    let here = rw c.as_slice.ensures.value at c.in-Some-place_in.ensures.1 in
    listed-without old.items new.items old.len c.in-Some-place_in.i c.args.at p old.ok.0 (omega (arith, new.ok.0, c.swap_remove.ensures.len)) (omega arith) here c.swap_remove.ensures.by_index.0 c.swap_remove.ensures.by_index.1 ne listed
