use Rattle.sc_world.proofs.Found.{found_behind, found_alone}
use Rattle.sc_world.proofs.marks.has_function.Goals as goal

pub returns-then-behind : goal.returns-then-behind
returns-then-behind c = λ stops found.
    found_behind c.args.key.now c.args.home.now stops c.has_behind-behind.result c.if-behind.true (c.has_behind-behind.ensures stops found)

pub returns : goal.returns
returns c = λ stops found.
    found_alone c.args.key.now c.args.home.now stops c.has_behind-behind.result c.has_external.result c.if-behind.false (c.has_behind-behind.ensures stops found) (c.has_external.ensures stops found)
