use Rattle.sc_compiled_expressions.proofs.Converting.{cast_given, converted_given, plus_given}
use Rattle.sc_compiled_expressions.proofs.binary.conversions_give_values.Goals as goal

pub returns-clause-casts : goal.returns-clause-casts
returns-clause-casts c = cast_given

pub returns-clause-plus : goal.returns-clause-plus
returns-clause-plus c = plus_given

pub returns-clause-converts : goal.returns-clause-converts
returns-clause-converts c = converted_given
