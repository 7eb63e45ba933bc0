-- Inside: plumbing, a representation, an invariant or a promise beside the claim (docs/TRUST.md).
-- A loop as a list: `while (x) ;` on an automatic integer that is kept in memory.
use Rattle.std.specs.Prelude.{ℕ, zero, suc, List, [], ◌∷◌}
use Rattle.sc_types.specs.declared.ctype.CType.{CType}
use Rattle.sc_core.specs.declared.expression.CoreExpr.{CoreExpr}
use Rattle.sc_core.specs.declared.statement.CoreStmt.{CoreStmt}
use Rattle.sc_core.specs.Types.{type_of}
use Rattle.sc_meaning.specs.World.{World, Begin, End, pass, tick}
use Rattle.sc_meaning.specs.Accesses.{tested}
use Rattle.sc_meaning.specs.Expressions.{Place, automatic_in, conversion}
use Rattle.sc_meaning.specs.Statements.{Normal}
use Rattle.sc_interp.specs.Steady.{on_line}
use Rattle.sc_interp.specs.declared.stepped.Shown.TheVariants.{Nothing, Line}
use Rattle.sc_interp_machine.specs.declared.body.Use.TheVariants.{While}
use Rattle.sc_interp_machine.specs.declared.body.Pending.{Pending}
use Rattle.sc_interp_machine.specs.declared.body.Pending.TheVariants as pending
use Rattle.sc_points.specs.Points.{Call, Frame, Point, Purpose, Uses, Begins, Holds, Does, Leaves, at, Goes, puts}
use Rattle.sc_points.specs.declared.held.Held.TheVariants.{In}
use Rattle.sc_points.specs.Lists.{Deed, On, deed, forked}

-- the loop with the statement that it repeats, its condition and the name in it; their lines; the types of the condition and of the name;
-- and the block of the name's object, with its place there
pub record Loop : Type 0 where
  pub whole : CoreStmt
  pub part : CoreStmt
  pub condition : CoreExpr
  pub name : CoreExpr
  pub line : ℕ
  pub part_line : ℕ
  pub type : CType
  pub block : ℕ
  pub slot : ℕ

abbrev pub tests : Loop → Purpose
tests x = Uses (While (type_of x.condition) x.whole x.part)

abbrev pub points : Loop → List Pending → ℕ → Point
points x ss zero = at ss (Does x.whole)
points x ss (suc zero) = at ss (Begins x.condition [] (tests x))
points x ss (suc (suc zero)) = at ss (Holds (In 0) [] (tests x))
points x ss (suc (suc (suc zero))) = at (pending.Again x.whole ∷ ss) (Does x.part)
points x ss (suc (suc (suc (suc zero)))) = at (pending.End ∷ pending.Again x.whole ∷ ss) (Leaves Normal)
points x ss (suc (suc (suc (suc (suc n))))) = at ss (Leaves Normal)

-- its line, the name's value, the branch; the line of its part; the end of this, and the loop's line again; behind it, nothing
abbrev pub does : Loop → Call → ℕ → Frame → World → Deed
does x c zero f w = deed c 1 2 (Line x.line) w (Goes f (on_line x.line (pass Begin w)))
does x c (suc zero) f w = deed c 2 3 Nothing w (puts 0 f (conversion (type_of x.name) x.type (Place (automatic_in f.blocks x.block x.slot)) (tick (tick w))))
does x c (suc (suc zero)) f w = forked c 3 (Goes f) 5 (λ v. Goes f (pass End v)) w (tested (type_of x.condition) (f.regs 0) w)
does x c (suc (suc (suc zero))) f w = deed c 4 1 (Line x.part_line) w (Goes f (on_line x.part_line (pass Begin w)))
does x c (suc (suc (suc (suc zero)))) f w = deed c 1 3 (Line x.line) w (Goes f (on_line x.line (pass End w)))
does x c (suc (suc (suc (suc (suc n))))) f w = record { next = On c 5 f w; steps = 0; shown = Nothing; bytes = 0 }

-- nothing has to be kept
abbrev pub free : Call → ℕ → Frame → World → Type 0
free c n f w = Unit {0}
