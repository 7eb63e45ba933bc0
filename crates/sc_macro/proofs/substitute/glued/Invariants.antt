use Rattle.std.proofs.Common.{◌≡◌, [], length}
use Rattle.sc_macro.specs.Substitute.{glued}
use Rattle.sc_macro.proofs.substitute.glued.Given as goal

abbrev pub invariant-gluing : goal.invariant-gluing
invariant-gluing l = glued l.name l.arguments l.out l.parts ≡ glued l.name l.arguments [] l.fn.parts

abbrev pub decreases-gluing : goal.decreases-gluing
decreases-gluing l = length l.parts
