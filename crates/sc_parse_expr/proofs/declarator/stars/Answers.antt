-- Neither a star nor `const`.
use Rattle.std.proofs.Common.{rules, ◌≡◌}
use Rattle.sc_parse_expr.proofs.Others.{stars_else}
use Rattle.sc_parse_expr.proofs.declarator.stars.Goals as goal

pub returns-in_default : goal.returns-in_default
returns-in_default c = stars_else c.args.token.now c.args.token.now.kind c.args.frames.now c.args.line c.args.mode c.args.before c.direct.result c.direct.new.frames c.in_default.not-Star c.in_default.not-Const c.direct.ensures
