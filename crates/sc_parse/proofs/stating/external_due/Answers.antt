-- Not the end.
use Rattle.sc_parse.proofs.Others.{external_due_else}
use Rattle.sc_parse.proofs.stating.external_due.Goals as goal

pub returns-in_default : goal.returns-in_default
returns-in_default c = external_due_else c.args.token.now c.args.names.now c.args.around.now c.args.token.now.kind c.specifiers.result c.specifiers.new.names c.specifiers.new.around c.in_default.not-End c.specifiers.ensures
