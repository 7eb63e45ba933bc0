-- A step of the machine of expressions that fails.
use Rattle.std.proofs.Common.{◌≡◌, List, Result, Ok, Err, refl, ap}
use Rattle.sc_parse_names.specs.declared.kind.Symbol.{Symbol}
use Rattle.sc_parse_names.specs.Names.{Names}
use Rattle.sc_parse_grammar.specs.declared.frame.Frame.{Frame}
use Rattle.sc_parse_grammar.specs.declared.trouble.Trouble.{Trouble}
use Rattle.sc_parse_grammar.specs.declared.trouble.Trouble.TheVariants as trouble
use Rattle.sc_parse_grammar.specs.Machine.{Config}
use Rattle.sc_parse_grammar.specs.Steps.{Moves}
use Rattle.sc_parse_unit.specs.declared.around.Around.{Around}
use Rattle.sc_parse_unit.specs.declared.obstacle.Obstacle.TheVariants as no
use Rattle.sc_parse_unit.specs.Machine.{in_expression, in_specifiers, in_declarator}
use Rattle.sc_parse_unit.specs.Steps.{Goes}

-- The three kinds of place fail alike.
pub expression_err : (t : Symbol) (fs gs : List Around) (outcome : Result Config Trouble) (o : Trouble) (names before : Names) (frames : List Frame) →
    Moves outcome (Err o) before frames → Goes (in_expression t fs outcome) (Err (no.Inner o)) names gs
expression_err t fs gs outcome trouble.NoMemory names before frames h = tt
expression_err t fs gs outcome trouble.Syntax names before frames h = ap (in_expression t fs) h
expression_err t fs gs outcome (trouble.LeftOut which) names before frames h = ap (in_expression t fs) h
expression_err t fs gs outcome (trouble.Limit which) names before frames h = ap (in_expression t fs) h

pub specifiers_err : (t : Symbol) (fs gs : List Around) (outcome : Result Config Trouble) (o : Trouble) (names before : Names) (frames : List Frame) →
    Moves outcome (Err o) before frames → Goes (in_specifiers t fs outcome) (Err (no.Inner o)) names gs
specifiers_err t fs gs outcome trouble.NoMemory names before frames h = tt
specifiers_err t fs gs outcome trouble.Syntax names before frames h = ap (in_specifiers t fs) h
specifiers_err t fs gs outcome (trouble.LeftOut which) names before frames h = ap (in_specifiers t fs) h
specifiers_err t fs gs outcome (trouble.Limit which) names before frames h = ap (in_specifiers t fs) h

pub declarator_err : (t : Symbol) (fs gs : List Around) (outcome : Result Config Trouble) (o : Trouble) (names before : Names) (frames : List Frame) →
    Moves outcome (Err o) before frames → Goes (in_declarator t fs outcome) (Err (no.Inner o)) names gs
declarator_err t fs gs outcome trouble.NoMemory names before frames h = tt
declarator_err t fs gs outcome trouble.Syntax names before frames h = ap (in_declarator t fs) h
declarator_err t fs gs outcome (trouble.LeftOut which) names before frames h = ap (in_declarator t fs) h
declarator_err t fs gs outcome (trouble.Limit which) names before frames h = ap (in_declarator t fs) h
