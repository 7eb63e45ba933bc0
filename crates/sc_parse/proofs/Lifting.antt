-- A token that is left out.
use Rattle.std.proofs.Common.{◌≡◌, List, Ok, Err, refl, ap}
use Rattle.sc_parse_names.specs.declared.kind.Mark.{Mark}
use Rattle.sc_parse_names.specs.declared.kind.Kind.{Kind}
use Rattle.sc_parse_names.specs.declared.kind.Kind.TheVariants as k
use Rattle.sc_parse_names.specs.Names.{Names}
use Rattle.sc_parse_grammar.specs.declared.trouble.Trouble.{Trouble}
use Rattle.sc_parse_grammar.specs.declared.trouble.Trouble.TheVariants as trouble
use Rattle.sc_parse_grammar.specs.declared.trouble.Limit.{Limit}
use Rattle.sc_parse_unit.specs.declared.around.Around.{Around}
use Rattle.sc_parse_unit.specs.declared.around.Stage.{Stage}
use Rattle.sc_parse_unit.specs.declared.obstacle.Obstacle.{Obstacle}
use Rattle.sc_parse_unit.specs.declared.obstacle.Obstacle.TheVariants as no
use Rattle.sc_parse_unit.specs.Machine.{Move, marked, mark_on}
use Rattle.sc_parse_unit.specs.Steps.{Goes}

pub marks_ok : (kd : Kind) (move : Move) (stage : Stage) (names : Names) (fs : List Around) → Goes move (Ok stage) names fs → Goes (marked kd move) (Ok stage) names fs
marks_ok kd move stage names fs h = ap (marked kd) h

syntax_marked : (kd : Kind) (names : Names) (fs : List Around) → Goes (Err (mark_on kd (no.Inner trouble.Syntax))) (Err (mark_on kd (no.Inner trouble.Syntax))) names fs
syntax_marked (k.LeftOut which) names fs = refl
syntax_marked _ names fs = refl

same_mark : (kd : Kind) (o : Obstacle) (move : Move) (names : Names) (fs : List Around) → move ≡ Err o → Goes (Err (mark_on kd o)) (Err (mark_on kd o)) names fs → Goes (marked kd move) (Err (mark_on kd o)) names fs
same_mark kd o move names fs h g = rw h g

nesting_marked : (kd : Kind) (names : Names) (fs : List Around) → Goes (Err (mark_on kd no.Nesting)) (Err (mark_on kd no.Nesting)) names fs
nesting_marked (k.LeftOut which) names fs = refl
nesting_marked _ names fs = refl

memory_marked : (kd : Kind) (move : Move) (names : Names) (fs : List Around) → Goes (marked kd move) (Err (mark_on kd (no.Inner trouble.NoMemory))) names fs
memory_marked (k.LeftOut which) move names fs = tt
memory_marked _ move names fs = tt

limit_marked : (kd : Kind) (l : Limit) (names : Names) (fs : List Around) → Goes (Err (mark_on kd (no.Inner (trouble.Limit l)))) (Err (mark_on kd (no.Inner (trouble.Limit l)))) names fs
limit_marked (k.LeftOut which) l names fs = refl
limit_marked _ l names fs = refl

mark_marked : (kd : Kind) (m : Mark) (names : Names) (fs : List Around) → Goes (Err (mark_on kd (no.Inner (trouble.LeftOut m)))) (Err (mark_on kd (no.Inner (trouble.LeftOut m)))) names fs
mark_marked (k.LeftOut which) m names fs = refl
mark_marked _ m names fs = refl

pub marks_err : (kd : Kind) (move : Move) (o : Obstacle) (names : Names) (fs : List Around) → Goes move (Err o) names fs → Goes (marked kd move) (Err (mark_on kd o)) names fs
marks_err kd move no.Nesting names fs h = same_mark kd no.Nesting move names fs h (nesting_marked kd names fs)
marks_err kd move (no.Inner trouble.NoMemory) names fs h = memory_marked kd move names fs
marks_err kd move (no.Inner trouble.Syntax) names fs h = same_mark kd (no.Inner trouble.Syntax) move names fs h (syntax_marked kd names fs)
marks_err kd move (no.Inner (trouble.LeftOut m)) names fs h = same_mark kd (no.Inner (trouble.LeftOut m)) move names fs h (mark_marked kd m names fs)
marks_err kd move (no.Inner (trouble.Limit l)) names fs h = same_mark kd (no.Inner (trouble.Limit l)) move names fs h (limit_marked kd l names fs)
