use Rattle.std.proofs.Common.{◌≡◌, map, length}
use Rattle.std.specs.Prelude.{string_bytes}
use Rattle.sc_words.specs.Options.{is_listed, all, given}
use Rattle.sc_words.proofs.listed.are_listed.Given as goal

abbrev pub invariant-options : goal.invariant-options
invariant-options l = is_listed l.left (given (map string_bytes l.rest)) ≡ is_listed all (given (map string_bytes l.fn.words))

abbrev pub decreases-options : goal.decreases-options
decreases-options l = length l.rest
