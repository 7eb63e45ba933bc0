-- No further string.
use Rattle.sc_parse_grammar.proofs.Others.{texts_else}
use Rattle.sc_parse_grammar.proofs.expression.texts.Goals as goal

pub returns-in_default : goal.returns-in_default
returns-in_default c = texts_else c.args.token.now c.args.token.now.kind c.args.frames.now c.args.line c.args.text c.text_ends.result c.text_ends.new.frames c.in_default.not-Text c.text_ends.ensures
