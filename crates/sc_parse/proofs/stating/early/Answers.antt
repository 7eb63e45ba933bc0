-- No name of a type.
use Rattle.sc_parse.proofs.Others.{early_else}
use Rattle.sc_parse.proofs.stating.early.Goals as goal

pub returns-in_default : goal.returns-in_default
returns-in_default c = early_else c.args.token.now c.args.names.now c.args.around.now c.args.token.now.kind c.specifiers.result c.specifiers.new.names c.specifiers.new.around c.in_default.not-Name c.specifiers.ensures
