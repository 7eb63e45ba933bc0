-- Inside: plumbing, a representation, an invariant or a promise beside the claim (docs/TRUST.md).
-- A value of the program, as the meaning has it.
use Rattle.sc_meaning_values.specs.declared.value.Shape.{Shape}
use Rattle.sc_meaning_values.specs.declared.value.Shape.TheVariants as shape
use Rattle.sc_meaning.specs.Values.{Value, Number, FunctionAt, Pointer}

abbrev pub value_of : Shape → Value
value_of (shape.Number n) = Number n
value_of (shape.FunctionAt key) = FunctionAt key
value_of (shape.Pointer o i) = Pointer o i
