-- Inside: plumbing, a representation, an invariant or a promise beside the claim (docs/TRUST.md).
-- An answer of the program, as the meaning has it.
use Rattle.sc_meaning_values.specs.declared.answer.Held.{Held}
use Rattle.sc_meaning_values.specs.declared.answer.Held.TheVariants as held
use Rattle.sc_meaning.specs.Expressions.{Answer, Plain, Place, Part, Nothing}

abbrev pub answer_of : Held → Answer
answer_of (held.Plain v) = Plain v
answer_of (held.Place p) = Place p
answer_of (held.Part p n) = Part p n
answer_of held.Nothing = Nothing
