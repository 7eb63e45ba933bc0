-- No name.
use Rattle.std.proofs.Common.{rules, ◌≡◌}
use Rattle.sc_parse_expr.proofs.Others.{in_group_else}
use Rattle.sc_parse_expr.proofs.declarator.in_group.Goals as goal

pub returns-in_default : goal.returns-in_default
returns-in_default c = in_group_else c.args.token.now c.args.token.now.kind c.args.frames.now c.args.mode c.begin.result c.begin.new.frames c.in_default.not-Name c.begin.ensures
