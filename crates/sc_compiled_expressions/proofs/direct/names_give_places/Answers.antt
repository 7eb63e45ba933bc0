use Rattle.sc_compiled_expressions.proofs.Places.{automatic_found, static_found, member_found}
use Rattle.sc_compiled_expressions.proofs.direct.names_give_places.Goals as goal

pub returns-clause-automatic : goal.returns-clause-automatic
returns-clause-automatic c = automatic_found

pub returns-clause-by_name : goal.returns-clause-by_name
returns-clause-by_name c = static_found

pub returns-clause-member : goal.returns-clause-member
returns-clause-member c = member_found
