-- No end of a block.
use Rattle.sc_parse.proofs.Others.{statement_due_else}
use Rattle.sc_parse.proofs.stating.statement_due.Goals as goal

pub returns-in_default : goal.returns-in_default
returns-in_default c =
    statement_due_else c.args.token.now c.args.names.now c.args.around.now c.args.token.now.kind c.shallow_statement.result c.shallow_statement.new.names c.shallow_statement.new.around c.in_default.not-RightBrace c.shallow_statement.ensures
