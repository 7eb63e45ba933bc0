-- Inside: plumbing, a representation, an invariant or a promise beside the claim (docs/TRUST.md).
-- What is claimed of the sizes of an expression that is read.
use Rattle.std.specs.Prelude.{◌≤◌, List}
use Rattle.sc_tree.specs.Room.{room_of}
use Rattle.sc_parse_names.specs.declared.kind.Symbol.{Symbol}
use Rattle.sc_parse_names.specs.Names.{Names}
use Rattle.sc_parse_expr.specs.declared.driver.Found.{Found}
use Rattle.sc_parse_expr.specs.Reading.{IsFound}

-- What is found has a room of at most 6,600: 33 for each level of its height.
abbrev pub NeedsLittleRoom : Type 0
NeedsLittleRoom = (names after : Names) (tokens : List Symbol) (r : Found) → IsFound names after tokens r → room_of r.tree ≤ 6600
