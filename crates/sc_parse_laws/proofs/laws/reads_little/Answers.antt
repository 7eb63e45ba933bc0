-- The law is a lemma on derivations.
use Rattle.sc_parse_laws.proofs.Rooms.{little_room}
use Rattle.sc_parse_laws.proofs.laws.reads_little.Goals as goal

pub returns : goal.returns
returns c = record { room = λ names after tokens r v. little_room names after tokens r v }
