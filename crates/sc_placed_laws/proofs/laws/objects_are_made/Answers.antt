use Rattle.sc_placed_laws.proofs.Made.{plain_made, styled_made}
use Rattle.sc_placed_laws.proofs.laws.objects_are_made.Goals as goal

pub returns-clause-plain : goal.returns-clause-plain
returns-clause-plain c = plain_made

pub returns-clause-styled : goal.returns-clause-styled
returns-clause-styled c = styled_made
