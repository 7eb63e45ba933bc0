use Rattle.sc_compiled_frames.proofs.words.conversions_give_values_of_the_type.Goals as goal
use Rattle.sc_compiled_frames.proofs.Converting.{type_converts, type_reconverts, as_type_canonical}

pub returns-clause-converts : goal.returns-clause-converts
returns-clause-converts c = type_converts

pub returns-clause-reconverts : goal.returns-clause-reconverts
returns-clause-reconverts c = type_reconverts

pub returns-clause-canonical : goal.returns-clause-canonical
returns-clause-canonical c = as_type_canonical
