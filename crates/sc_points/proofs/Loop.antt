-- A part of a function as a list: `while (x) ;` on an automatic integer that is kept in memory. Its instructions are moves.
use Rattle.std.proofs.Common.{◌≡◌, ℕ, zero, suc, Bool, arith, refl, ap, List, [], ◌∷◌}
use Rattle.sc_base.specs.declared.integer.Int.{Int}
use Rattle.sc_types.specs.declared.ctype.CType.{CType, out-CType}
use Rattle.sc_types.specs.declared.ctype.CType.TheOpen.{CType-F}
use Rattle.sc_core.specs.declared.expression.CoreExpr.{out-CoreExpr}
use Rattle.sc_core.specs.declared.expression.CoreExpr.TheOpen.{CoreExpr-F}
use Rattle.sc_core.specs.declared.statement.CoreStmt.{out-CoreStmt}
use Rattle.sc_core.specs.declared.statement.CoreStmt.TheOpen.{CoreStmt-F}
use Rattle.sc_core.specs.Types.{type_of}
use Rattle.sc_meaning.specs.World.{World, pass, End, tick}
use Rattle.sc_meaning.specs.Accesses.{tested}
use Rattle.sc_meaning.specs.Versions.{Text}
use Rattle.sc_meaning.specs.Expressions.{Place, conversion, automatic_in}
use Rattle.sc_meaning.specs.Statements.{Normal}
use Rattle.sc_interp.specs.Steady.{on_line}
use Rattle.sc_interp.specs.declared.stepped.Shown.TheVariants.{Nothing, Line}
use Rattle.sc_interp_machine.specs.declared.body.Pending.{Pending}
use Rattle.sc_interp_machine.specs.declared.body.Pending.TheVariants as pending
use Rattle.sc_points.specs.Points.{Frame, at_first_line, Leaves, Point, at, Call, Went, Goes, puts, state_at, first_shown}
use Rattle.sc_points.specs.declared.held.Held.TheVariants.{In}
use Rattle.sc_points.specs.Lists.{Where, On, Ended, IsMade, AreMade, Keeps, Moves, Moving}
use Rattle.sc_points.specs.Loop.{Loop, tests, points, does, free}
use Rattle.sc_points.proofs.Frames.{while_branches}
use Rattle.sc_points.proofs.Lines.{empty_acts, end_slides}
use Rattle.sc_points.proofs.Shapes.{load_shaped}
use Rattle.sc_points.proofs.Goes.{moving_made}
use Rattle.sc_points.proofs.Deeds.{once_moves, slide_moves, moves_made, branches_does}
use Rattle.sc_points.proofs.Whole.{load_moves, while_moves, again_moves}

module _ (texts : List Text) (x : Loop) (ss : List Pending) (k j : ℕ) (t : CType) (int : Int) (constant : Bool)
    (is_loop : out-CoreStmt x.whole ≡ CoreStmt-F.While x.line x.condition x.part) (is_empty : out-CoreStmt x.part ≡ CoreStmt-F.Empty x.part_line)
    (is_value : out-CoreExpr x.condition ≡ CoreExpr-F.Convert k x.type x.name) (is_name : out-CoreExpr x.name ≡ CoreExpr-F.Automatic j t x.block x.slot)
    (is_int : out-CType (type_of x.name) ≡ CType-F.Int int constant) where
  abbrev loads : Frame → World → Went
  loads f w = puts 0 f (conversion (type_of x.name) x.type (Place (automatic_in f.blocks x.block x.slot)) (tick (tick w)))

  abbrev part_ends : Point
  part_ends = at (pending.Again x.whole ∷ ss) (Leaves Normal)

  -- the line of the loop, the name's value, the line of its part, the end of this and the loop's line again
  first : Moves texts 1 (points x ss 0) (at_first_line x.line) (Line x.line) (points x ss 1)
  first = while_moves texts ss x.whole x.part x.line x.condition is_loop

  load : Moves texts 2 (points x ss 1) loads Nothing (points x ss 2)
  load = load_moves texts ss (tests x) 0 [] refl (λ f v. refl) x.condition x.name k j x.type t x.block x.slot is_value is_name (λ f w. load_shaped (type_of x.name) x.type int constant (automatic_in f.blocks x.block x.slot) w is_int)

  part : Moves texts 0 (points x ss 3) (at_first_line x.part_line) (Line x.part_line) (points x ss 4)
  part = once_moves texts (points x ss 3) (points x ss 4) (at_first_line x.part_line) (Line x.part_line) (empty_acts texts (pending.Again x.whole ∷ ss) x.part x.part_line is_empty) (ap first_shown is_empty)

  again : Moves texts 2 (points x ss 4) (λ f w. Goes f (on_line x.line (pass End w))) (Line x.line) (points x ss 1)
  again =
      slide_moves texts 1 (points x ss 4) part_ends (points x ss 1) (pass End) (λ f w. Goes f (on_line x.line w)) (Line x.line) (end_slides texts (pending.Again x.whole ∷ ss) Normal) refl
      (again_moves texts ss x.whole x.part x.line x.condition is_loop)

  loop_does : (c : Call) (n : ℕ) (f : Frame) (w : World) → IsMade texts (points x ss) (state_at c (points x ss n) f w) (does x c n f w)
  loop_does c zero f w = moves_made texts (points x ss) 1 (points x ss 0) (at_first_line x.line) 1 (Line x.line) first (omega arith) c f w
  loop_does c (suc zero) f w = moves_made texts (points x ss) 2 (points x ss 1) loads 2 Nothing load (omega arith) c f w
  loop_does c (suc (suc zero)) f w =
      branches_does texts (points x ss) (points x ss 2) c f w 3 5 (Goes f) (λ v. Goes f (pass End v)) (tested (type_of x.condition) (f.regs 0) w)
      (while_branches texts ss (In 0) tt (type_of x.condition) x.whole x.part c f w) refl
  loop_does c (suc (suc (suc zero))) f w = moves_made texts (points x ss) 0 (points x ss 3) (at_first_line x.part_line) 4 (Line x.part_line) part (omega arith) c f w
  loop_does c (suc (suc (suc (suc zero)))) f w = moves_made texts (points x ss) 2 (points x ss 4) (λ f w. Goes f (on_line x.line (pass End w))) 1 (Line x.line) again (omega arith) c f w
  loop_does c (suc (suc (suc (suc (suc n))))) f w = (refl, tt)

  keeps : (at : Where) → Keeps free at
  keeps (On c n f w) = tt
  keeps (Ended e) = tt

  pub loop_moves : Moving texts (points x ss) free (does x)
  loop_moves c n f w p = (loop_does c n f w, keeps (does x c n f w).next)

  pub loop_made : (n : ℕ) (c : Call) (i : ℕ) (f : Frame) (w : World) → AreMade texts (points x ss) (does x) n (On c i f w)
  loop_made n c i f w = moving_made texts (points x ss) free (does x) loop_moves n (On c i f w) tt
