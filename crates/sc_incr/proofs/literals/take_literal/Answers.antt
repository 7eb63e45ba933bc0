use Rattle.sc_link.specs.Symbols as symbols
use Rattle.sc_incr.proofs.Holding.{literal-none, literal-some}
use Rattle.sc_incr.proofs.literals.take_literal.Goals as goal

pub returns-in-Some : goal.returns-in-Some
returns-in-Some c = literal-some c.args.rest.now c.args.entry.now.home c.in-Some.section.now (symbols.literal_of c.args.entry.now c.args.symbol.now) c.args.image.now c.take_unheld.new.image c.in-Some.ensures c.take_unheld.ensures

pub returns-in-None : goal.returns-in-None
returns-in-None c = literal-none c.args.rest.now (symbols.literal_of c.args.entry.now c.args.symbol.now) c.args.image.now c.in-None.ensures
