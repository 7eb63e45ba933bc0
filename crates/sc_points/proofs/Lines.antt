-- Statements that begin on their line or are none of their own, and ways through what is pending.
use Rattle.std.proofs.Common.{◌≡◌, ℕ, refl, ap, List, [], ◌∷◌, Some, None, Option}
use Rattle.sc_core.specs.declared.expression.CoreExpr.{CoreExpr}
use Rattle.sc_core.specs.declared.statement.CoreStmt.{CoreStmt, out-CoreStmt}
use Rattle.sc_core.specs.declared.statement.CoreStmt.TheOpen.{CoreStmt-F}
use Rattle.sc_core.specs.declared.statement.SwitchLabel.{SwitchLabel}
use Rattle.sc_core.specs.Types.{type_of}
use Rattle.sc_meaning.specs.World.{Begin, End, pass}
use Rattle.sc_meaning.specs.Versions.{Text}
use Rattle.sc_meaning.specs.Statements.{Way, Normal, Broke, Continued, Jumped}
use Rattle.sc_interp.specs.Steady.{on_line}
use Rattle.sc_interp_machine.specs.declared.body.Use.TheVariants as uses
use Rattle.sc_interp_machine.specs.declared.body.Pending.{Pending}
use Rattle.sc_interp_machine.specs.declared.body.Pending.TheVariants as pending
use Rattle.sc_points.specs.Points.{at_first_line, Uses, Begins, Does, Turns, Leaves, Returns, at, Goes, Acts, Slides}
use Rattle.sc_points.specs.declared.held.Held.{Held}
use Rattle.sc_points.specs.declared.held.Held.TheVariants.{Void}
use Rattle.sc_points.proofs.Frames.{begun, turned}

module _ (texts : List Text) (ss : List Pending) (s : CoreStmt) where
  -- ---- statements that do nothing but leave

  pub empty_acts : (l : ℕ) → out-CoreStmt s ≡ CoreStmt-F.Empty l → Acts texts 1 (at ss (Does s)) (at_first_line l) (at (pending.End ∷ ss) (Leaves Normal))
  empty_acts l is c f w = ap (begun c f w ss s) is

  pub break_acts : (l : ℕ) → out-CoreStmt s ≡ CoreStmt-F.Break l → Acts texts 1 (at ss (Does s)) (at_first_line l) (at (pending.End ∷ ss) (Leaves Broke))
  break_acts l is c f w = ap (begun c f w ss s) is

  pub continue_acts : (l : ℕ) → out-CoreStmt s ≡ CoreStmt-F.Continue l → Acts texts 1 (at ss (Does s)) (at_first_line l) (at (pending.End ∷ ss) (Leaves Continued))
  continue_acts l is c f w = ap (begun c f w ss s) is

  pub goto_acts : (l k : ℕ) → out-CoreStmt s ≡ CoreStmt-F.Goto l k → Acts texts 1 (at ss (Does s)) (at_first_line l) (at (pending.End ∷ ss) (Leaves (Jumped k)))
  goto_acts l k is c f w = ap (begun c f w ss s) is

  pub return_nothing_acts : (l : ℕ) → out-CoreStmt s ≡ CoreStmt-F.Return l None → Acts texts 1 (at ss (Does s)) (at_first_line l) (at (pending.End ∷ ss) (Returns Void))
  return_nothing_acts l is c f w = ap (begun c f w ss s) is

  -- ---- statements with an expression on their line

  pub if_line_acts : (l : ℕ) (e : CoreExpr) (a : CoreStmt) (b : Option CoreStmt) → out-CoreStmt s ≡ CoreStmt-F.If l e a b →
      Acts texts 1 (at ss (Does s)) (at_first_line l) (at ss (Begins e [] (Uses (uses.If (type_of e) a b))))
  if_line_acts l e a b is c f w = ap (begun c f w ss s) is

  pub switch_line_acts : (l : ℕ) (e : CoreExpr) (ls : List SwitchLabel) (a : CoreStmt) → out-CoreStmt s ≡ CoreStmt-F.Switch l e ls a →
      Acts texts 1 (at ss (Does s)) (at_first_line l) (at ss (Begins e [] (Uses (uses.Switch ls a))))
  switch_line_acts l e ls a is c f w = ap (begun c f w ss s) is

  pub first_acts : (l : ℕ) (e : CoreExpr) (o x : Option CoreExpr) (a : CoreStmt) → out-CoreStmt s ≡ CoreStmt-F.For l (Some e) o x a →
      Acts texts 1 (at ss (Does s)) (at_first_line l) (at ss (Begins e [] (Uses (uses.Turns s))))
  first_acts l e o x a is c f w = ap (begun c f w ss s) is

  -- ---- statements without a line of their own

  pub no_first_slides : (l : ℕ) (o x : Option CoreExpr) (a : CoreStmt) → out-CoreStmt s ≡ CoreStmt-F.For l None o x a → Slides texts 1 (at ss (Does s)) (pass Begin) (at ss (Turns s))
  no_first_slides l o x a is c f w = ap (begun c f w ss s) is

  pub do_begins : (l m : ℕ) (e : CoreExpr) (a : CoreStmt) → out-CoreStmt s ≡ CoreStmt-F.Do l a m e → Slides texts 1 (at ss (Does s)) (pass Begin) (at ss (Turns s))
  do_begins l m e a is c f w = ap (begun c f w ss s) is

  pub case_slides : (l : ℕ) (a : CoreStmt) → out-CoreStmt s ≡ CoreStmt-F.Case l a → Slides texts 1 (at ss (Does s)) (pass Begin) (at (pending.End ∷ ss) (Does a))
  case_slides l a is c f w = ap (begun c f w ss s) is

  pub default_slides : (l : ℕ) (a : CoreStmt) → out-CoreStmt s ≡ CoreStmt-F.Default l a → Slides texts 1 (at ss (Does s)) (pass Begin) (at (pending.End ∷ ss) (Does a))
  default_slides l a is c f w = ap (begun c f w ss s) is

  pub label_slides : (l : ℕ) (a : CoreStmt) → out-CoreStmt s ≡ CoreStmt-F.Label l a → Slides texts 1 (at ss (Does s)) (pass Begin) (at (pending.End ∷ ss) (Does a))
  label_slides l a is c f w = ap (begun c f w ss s) is

  -- ---- the turns of a `while`, each of which is on its line

  pub while_begins : (l : ℕ) (e : CoreExpr) (a : CoreStmt) → out-CoreStmt s ≡ CoreStmt-F.While l e a → Slides texts 1 (at ss (Does s)) (pass Begin) (at ss (Turns s))
  while_begins l e a is c f w = ap (begun c f w ss s) is

  pub while_acts : (l : ℕ) (e : CoreExpr) (a : CoreStmt) → out-CoreStmt s ≡ CoreStmt-F.While l e a →
      Acts texts 1 (at ss (Turns s)) (λ f w. Goes f (on_line l w)) (at ss (Begins e [] (Uses (uses.While (type_of e) s a))))
  while_acts l e a is c f w = ap (turned c f w ss s) is

  pub loop_goes_round : Slides texts 1 (at (pending.Again s ∷ ss) (Leaves Normal)) (λ w. w) (at ss (Turns s))
  loop_goes_round c f w = refl

  -- ---- a `for` without its condition, and without its third expression

  pub endless_slides : (l : ℕ) (o x : Option CoreExpr) (a : CoreStmt) → out-CoreStmt s ≡ CoreStmt-F.For l o None x a →
      Slides texts 1 (at ss (Turns s)) (λ w. w) (at (pending.Third x s ∷ ss) (Does a))
  endless_slides l o x a is c f w = ap (turned c f w ss s) is

  pub no_third_slides : Slides texts 1 (at (pending.Third None s ∷ ss) (Leaves Normal)) (λ w. w) (at ss (Turns s))
  no_third_slides c f w = refl

  -- `continue` goes on as the body's end does
  pub continue_third_slides : (e : CoreExpr) → Slides texts 1 (at (pending.Third (Some e) s ∷ ss) (Leaves Continued)) (λ w. w) (at ss (Begins e [] (Uses (uses.Turns s))))
  continue_third_slides e c f w = refl

  pub continue_check_acts : (l : ℕ) (e : CoreExpr) → Acts texts 1 (at (pending.Check l e s ∷ ss) (Leaves Continued)) (λ f w. Goes f (on_line l w)) (at ss (Begins e [] (Uses (uses.Repeat (type_of e) s))))
  continue_check_acts l e c f w = refl

  pub break_third_slides : (x : Option CoreExpr) → Slides texts 1 (at (pending.Third x s ∷ ss) (Leaves Broke)) (pass End) (at ss (Leaves Normal))
  break_third_slides x c f w = refl

  pub break_check_slides : (l : ℕ) (e : CoreExpr) → Slides texts 1 (at (pending.Check l e s ∷ ss) (Leaves Broke)) (pass End) (at ss (Leaves Normal))
  break_check_slides l e c f w = refl

  -- ---- the statements of a list

  pub list_goes_on : (q : CoreStmt) (qs : List CoreStmt) → Slides texts 1 (at (pending.Rest s (q ∷ qs) ∷ ss) (Leaves Normal)) (λ w. w) (at (pending.Rest s qs ∷ ss) (Does q))
  list_goes_on q qs c f w = refl

  pub list_ends : Slides texts 1 (at (pending.Rest s [] ∷ ss) (Leaves Normal)) (λ w. w) (at ss (Leaves Normal))
  list_ends c f w = refl

  pub break_leaves_list : (qs : List CoreStmt) → Slides texts 1 (at (pending.Rest s qs ∷ ss) (Leaves Broke)) (λ w. w) (at ss (Leaves Broke))
  break_leaves_list qs c f w = refl

  pub continue_leaves_list : (qs : List CoreStmt) → Slides texts 1 (at (pending.Rest s qs ∷ ss) (Leaves Continued)) (λ w. w) (at ss (Leaves Continued))
  continue_leaves_list qs c f w = refl

  pub return_leaves_list : (qs : List CoreStmt) (h : Held) → Slides texts 1 (at (pending.Rest s qs ∷ ss) (Returns h)) (λ w. w) (at ss (Returns h))
  return_leaves_list qs h c f w = refl

  -- ---- a return out of loops

  pub return_leaves_loop : (h : Held) → Slides texts 1 (at (pending.Again s ∷ ss) (Returns h)) (pass End) (at ss (Returns h))
  return_leaves_loop h c f w = refl

  pub return_leaves_third : (x : Option CoreExpr) (h : Held) → Slides texts 1 (at (pending.Third x s ∷ ss) (Returns h)) (pass End) (at ss (Returns h))
  return_leaves_third x h c f w = refl

  pub return_leaves_check : (l : ℕ) (e : CoreExpr) (h : Held) → Slides texts 1 (at (pending.Check l e s ∷ ss) (Returns h)) (pass End) (at ss (Returns h))
  return_leaves_check l e h c f w = refl

-- a statement ends, in whatever way
pub end_slides : (texts : List Text) (ss : List Pending) (way : Way) → Slides texts 1 (at (pending.End ∷ ss) (Leaves way)) (pass End) (at ss (Leaves way))
end_slides texts ss way c f w = refl

pub return_end_slides : (texts : List Text) (ss : List Pending) (h : Held) → Slides texts 1 (at (pending.End ∷ ss) (Returns h)) (pass End) (at ss (Returns h))
return_end_slides texts ss h c f w = refl
