-- No label.
use Rattle.sc_parse_parts.proofs.Others.{type_else}
use Rattle.sc_parse_parts.proofs.naming.behind_type.Goals as goal

pub returns-in_default : goal.returns-in_default
returns-in_default c =
    type_else c.args.token.now c.args.token.now.kind c.args.names.now c.args.around.now c.args.line c.args.name c.type_goes_on.result c.type_goes_on.new.names c.type_goes_on.new.around c.in_default.not-Colon c.type_goes_on.ensures
