-- An expression.
use Rattle.sc_parse_parts.proofs.Others.{initial_else}
use Rattle.sc_parse_parts.proofs.expression.initial.Goals as goal

pub returns-in_default : goal.returns-in_default
returns-in_default c =
    initial_else c.args.token.now c.args.names.now c.args.around.now c.args.token.now.kind c.begin.result c.begin.new.names c.begin.new.around c.in_default.not-LeftBrace c.in_default.not-RightBrace c.begin.ensures
