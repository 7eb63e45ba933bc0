-- An assignment operator, and neither that nor a block.
use Rattle.sc_parse_parts.proofs.Others.{declared_assign, declared_else}
use Rattle.sc_parse_parts.proofs.declaring.declared_by.Goals as goal

pub returns-in-Assign : goal.returns-in-Assign
returns-in-Assign c =
    declared_assign c.args.token.now c.args.token.now.kind c.args.names.now c.args.around.now c.args.v c.args.all c.args.whole c.assigned.result c.assigned.new.around c.in-Assign.op c.in-Assign.is (c.assigned.ensures c.args.token.now c.args.names.now)

pub returns-in_default : goal.returns-in_default
returns-in_default c =
    declared_else c.args.token.now c.args.token.now.kind c.args.names.now c.args.around.now c.args.v c.args.all c.args.whole c.bare.result c.bare.new.around c.in_default.not-LeftBrace c.in_default.not-Assign (c.bare.ensures c.args.names.now)
