-- No body behind the tag.
use Rattle.sc_parse_expr.proofs.Others.{tagged_structure_else}
use Rattle.sc_parse_expr.proofs.body.tagged_structure.Goals as goal

pub returns-in_default : goal.returns-in_default
returns-in_default c =
    tagged_structure_else c.args.typed c.args.token.now c.args.frames.now c.args.v c.args.line c.args.union c.args.tag c.args.token.now.kind c.words_behind.result c.words_behind.new.frames c.in_default.not-LeftBrace c.words_behind.ensures
