use Rattle.std.proofs.Common.{◌≡◌, [], length}
use Rattle.sc_pp.specs.declared.asking.Asking.TheVariants.{Nothing}
use Rattle.sc_pp.specs.Conditionals.{answered}
use Rattle.sc_pp.proofs.asking.answered.Given as goal

abbrev pub invariant-asking : goal.invariant-asking
invariant-asking l = answered l.env l.asking l.out l.left ≡ answered l.env Nothing [] l.fn.tokens

abbrev pub decreases-asking : goal.decreases-asking
decreases-asking l = length l.left
