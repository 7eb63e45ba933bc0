use Rattle.sc_check_binary.proofs.Formed as formed
use Rattle.sc_check_binary.proofs.law.makes_formed.Goals as goal

pub returns : goal.returns
returns c = record {
  values = formed.valued-formed;
  taken = formed.assigned-formed;
  constants = formed.constant-formed;
  literals = formed.literal-formed;
  automatics = formed.automatic-formed;
  statics = formed.static-formed;
  functions = formed.function-formed;
  sizes = formed.size-formed;
  offsets = formed.offset-formed;
  elements = formed.index-formed;
  members = formed.member-formed;
  arrows = formed.arrow-formed;
  steps = formed.step-formed;
  calls = formed.call-formed;
  addresses = formed.address-formed;
  indirections = formed.indirection-formed;
  unaries = formed.unary-formed;
  casts = formed.cast-formed;
  binaries = formed.binary-formed;
  commas = formed.comma-formed;
  conditionals = formed.conditional-formed;
  assignments = formed.assignment-formed;
  compounds = formed.compound-formed;
}
