-- Inside: plumbing, a representation, an invariant or a promise beside the claim (docs/TRUST.md).
-- The places where the machine of expressions goes on.
use Rattle.std.specs.Prelude.{List}
use Rattle.sc_parse_grammar.specs.declared.frame.Frame.{Frame}
use Rattle.sc_parse_grammar.specs.declared.frame.State.{State}
use Rattle.sc_parse_unit.specs.declared.around.Stage.{Stage}
use Rattle.sc_parse_unit.specs.declared.around.Stage.TheVariants as at

-- inside an expression, the specifiers of a declaration, and a declarator
pub data Part : Type 0 where
  in_expressions : Part
  in_heads : Part
  in_declarators : Part

abbrev pub stage_of : Part → List Frame → State → Stage
stage_of in_expressions frames state = at.Expression frames state
stage_of in_heads frames state = at.Specifiers frames state
stage_of in_declarators frames state = at.Declarator frames state
