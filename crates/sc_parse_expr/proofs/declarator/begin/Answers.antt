-- No star.
use Rattle.std.proofs.Common.{rules, ◌≡◌, List, Bool, subst}
use Rattle.sc_parse_grammar.specs.Machine as spec
use Rattle.sc_parse_grammar.specs.Steps.{Steps}
use Rattle.sc_parse_expr.proofs.Others.{begin_else}
use Rattle.sc_parse_expr.proofs.declarator.begin.Goals as goal

pub returns-in_default : goal.returns-in_default
returns-in_default c =
    let P : List Bool → Type 0 = λ cs. Steps (spec.direct c.args.token.now c.args.token.now.kind c.args.frames.now c.args.token.now.line c.args.mode cs) c.direct.result c.direct.new.frames in
    begin_else c.args.token.now c.args.token.now.kind c.args.frames.now c.args.mode c.direct.result c.direct.new.frames c.in_default.not-Star (subst P c.new.ensures c.direct.ensures)
