-- Neither a name nor a parenthesis.
use Rattle.std.proofs.Common.{rules, ◌≡◌}
use Rattle.sc_parse_expr.proofs.Others.{direct_else}
use Rattle.sc_parse_expr.proofs.declarator.direct.Goals as goal

pub returns-in_default : goal.returns-in_default
returns-in_default c = direct_else c.args.token.now c.args.token.now.kind c.args.frames.now c.args.line c.args.mode c.args.stars c.without_name.result c.without_name.new.frames c.in_default.not-Name c.in_default.not-LeftParen c.without_name.ensures
