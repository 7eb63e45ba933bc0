-- An expression.
use Rattle.sc_parse.proofs.Others.{statement_else}
use Rattle.sc_parse.proofs.stating.statement.Goals as goal

pub returns-in_default : goal.returns-in_default
returns-in_default c =
    statement_else c.args.token.now c.args.names.now c.args.around.now c.args.token.now.kind c.expression_begins.result c.expression_begins.new.names c.expression_begins.new.around c.in_default.not-Name c.in_default.not-LeftBrace c.in_default.not-Semicolon c.in_default.not-Break c.in_default.not-Case c.in_default.not-Continue c.in_default.not-Default c.in_default.not-Do c.in_default.not-For c.in_default.not-Goto c.in_default.not-If c.in_default.not-Return c.in_default.not-Switch c.in_default.not-While c.expression_begins.ensures
