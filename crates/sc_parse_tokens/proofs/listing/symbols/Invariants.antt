-- The symbols so far and those of what is left are the symbols of all.
use Rattle.std.proofs.Common.{◌≡◌, ◌++◌, length}
use Rattle.sc_parse_tokens.specs.Symbols as spec
use Rattle.sc_parse_tokens.proofs.listing.symbols.Given as goal

abbrev pub invariant-tokens : goal.invariant-tokens
invariant-tokens l = l.all ++ spec.symbols_from l.long l.left ≡ spec.symbols l.fn.tokens

abbrev pub decreases-tokens : goal.decreases-tokens
decreases-tokens l = length l.left
