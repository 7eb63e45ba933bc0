-- At most one tree.
use Rattle.std.proofs.Common.{rules, ◌≡◌}
use Rattle.sc_parse_expr.proofs.Fronts.{one_tree}
use Rattle.sc_parse_expr.proofs.driver.expression.Goals as goal

pub returns-clause-one : goal.returns-clause-one
returns-clause-one c = one_tree c.args.names.now c.args.symbols.now
