-- Inside: plumbing, a representation, an invariant or a promise beside the claim (docs/TRUST.md).
-- How a statement is left, as the meaning has it.
use Rattle.sc_meaning_values.specs.declared.way.Exit.{Exit}
use Rattle.sc_meaning_values.specs.declared.way.Exit.TheVariants as exit
use Rattle.sc_meaning.specs.Statements.{Way, Normal, Broke, Continued, Jumped, Returned}

abbrev pub way_of : Exit → Way
way_of exit.Normal = Normal
way_of exit.Broke = Broke
way_of exit.Continued = Continued
way_of (exit.Jumped k) = Jumped k
way_of (exit.Returned a) = Returned a
