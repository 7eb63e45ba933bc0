-- The symbols so far are among those of all tokens.
use Rattle.sc_parse_tokens.proofs.Named.{first_named}
use Rattle.sc_parse_tokens.proofs.listing.symbols.Goals as goal

pub returns-clause-named : goal.returns-clause-named
returns-clause-named c = first_named c.tokens.all c.tokens.long c.tokens.left.now c.args.tokens.now c.tokens.invariant
