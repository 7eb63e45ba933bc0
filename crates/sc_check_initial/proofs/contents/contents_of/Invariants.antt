-- What the rest gives from here is what all give from the beginning.
use Rattle.std.proofs.Common.{◌≡◌, drop}
use Rattle.sc_check_initial.specs.Contents.{pieces, nothing}
use Rattle.sc_check_initial.proofs.contents.contents_of.Given as goal

abbrev pub invariant-loop-piece : goal.invariant-loop-piece
invariant-loop-piece l = pieces l.home l.literals l.line (drop l.piece-index l.pieces) l.done ≡ pieces l.home l.literals l.line l.pieces nothing
