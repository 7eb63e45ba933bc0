-- Neither a parenthesis nor a comma.
use Rattle.std.proofs.Common.{rules, ◌≡◌, List, ◌∷◌, subst}
use Rattle.sc_parse_grammar.specs.declared.frame.Frame.{Frame}
use Rattle.sc_parse_grammar.specs.Machine as spec
use Rattle.sc_parse_grammar.specs.Steps.{Steps}
use Rattle.sc_parse_expr.proofs.Others.{inner_else}
use Rattle.sc_parse_expr.proofs.words.inner_specified.Goals as goal

pub returns-in_ok-push-in_default : goal.returns-in_ok-push-in_default
returns-in_ok-push-in_default c =
    let P : List Frame → Type 0 = λ fs. Steps (spec.begin c.args.token.now c.args.token.now.kind fs c.args.mode) c.begin.result c.begin.new.frames in
    inner_else c.args.token.now c.args.token.now.kind c.args.frames.now c.args.v c.args.mode c.begin.result c.begin.new.frames c.in_default.not-RightParen c.in_default.not-Comma
    (subst P c.in_ok-push-in_default.ensures.ok c.begin.ensures)
