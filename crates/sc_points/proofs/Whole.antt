-- Instructions of several steps as a whole: the value of a name, and a loop's line as it begins and behind a turn.
use Rattle.std.proofs.Common.{◌≡◌, ℕ, true, refl, ap, List, [], ◌∷◌}
use Rattle.std.specs.Prelude.{◌==◌}
use Rattle.sc_types.specs.declared.ctype.CType.{CType}
use Rattle.sc_core.specs.declared.expression.CoreExpr.{CoreExpr, out-CoreExpr}
use Rattle.sc_core.specs.declared.expression.CoreExpr.TheOpen.{CoreExpr-F}
use Rattle.sc_core.specs.declared.statement.CoreStmt.{CoreStmt, out-CoreStmt}
use Rattle.sc_core.specs.declared.statement.CoreStmt.TheOpen.{CoreStmt-F}
use Rattle.sc_core.specs.Types.{type_of}
use Rattle.sc_meaning.specs.World.{World, Begin, pass, tick}
use Rattle.sc_meaning.specs.Versions.{Text}
use Rattle.sc_meaning.specs.Expressions.{Place, automatic_in, conversion}
use Rattle.sc_meaning.specs.Statements.{Normal}
use Rattle.sc_interp.specs.Steady.{on_line}
use Rattle.sc_interp.specs.declared.stepped.Shown.TheVariants.{Line, Nothing}
use Rattle.sc_interp_machine.specs.declared.pending.Single.TheVariants as single
use Rattle.sc_interp_machine.specs.declared.body.Use.TheVariants.{While}
use Rattle.sc_interp_machine.specs.declared.body.Pending.{Pending}
use Rattle.sc_interp_machine.specs.declared.body.Pending.TheVariants as pending
use Rattle.sc_points.specs.Points.{Frame, answer_of, Waiting, Purpose, Uses, Begins, Holds, Does, Turns, Leaves, Point, at, Went, Goes, puts, at_first_line, AsValue, Shaped, Apart, first_shown, turn_shown}
use Rattle.sc_points.specs.declared.held.Held.TheVariants.{In, Named}
use Rattle.sc_points.specs.Lists.{Moves}
use Rattle.sc_points.proofs.Steps.{convert_slides, named_slides, single_acts}
use Rattle.sc_points.proofs.Lines.{while_begins, while_acts, loop_goes_round}
use Rattle.sc_points.proofs.Deeds.{once_moves, slide_moves}

module _ (texts : List Text) (ss : List Pending) where
  -- the value of an automatic object that is kept in memory: three steps, of which the last reads it
  module _ (u : Purpose) (d : ℕ) (ws : List Waiting) (same : (d == d) ≡ true) (apart : Apart d ws) where
    abbrev reads : CType → CType → ℕ → ℕ → Frame → World → Went
    reads s t b i f w = puts d f (conversion s t (Place (automatic_in f.blocks b i)) w)

    pub load_moves : (e a : CoreExpr) (l m : ℕ) (t s : CType) (b i : ℕ) → out-CoreExpr e ≡ CoreExpr-F.Convert l t a → out-CoreExpr a ≡ CoreExpr-F.Automatic m s b i →
        ((f : Frame) (w : World) → Shaped AsValue (conversion (type_of a) t (answer_of f (Named b i)) w)) →
        Moves texts 2 (at ss (Begins e ws u)) (λ f w. puts d f (conversion (type_of a) t (Place (automatic_in f.blocks b i)) (tick (tick w)))) Nothing (at ss (Holds (In d) ws u))
    load_moves e a l m t s b i is name shaped =
        let there : List Waiting = Waiting.Alone (single.Convert (type_of a) t) ∷ ws in
        let naming : Point = at ss (Begins a there u) in
        let named : Point = at ss (Holds (Named b i) there u) in
        let end : Point = at ss (Holds (In d) ws u) in
        slide_moves texts 1 (at ss (Begins e ws u)) naming end (λ w. w) (λ f w. reads (type_of a) t b i f (tick (tick w))) Nothing (convert_slides texts u ss e a l t ws is) refl
        (slide_moves texts 0 naming named end (λ w. tick (tick w)) (reads (type_of a) t b i) Nothing (named_slides texts u ss a m s b i there name) refl
        (once_moves texts named end (reads (type_of a) t b i) Nothing (single_acts texts u ss d ws same apart AsValue (single.Convert (type_of a) t) (Named b i) shaped) refl))

  module _ (s a : CoreStmt) (l : ℕ) (e : CoreExpr) (is : out-CoreStmt s ≡ CoreStmt-F.While l e a) where
    abbrev tested_there : Point
    tested_there = at ss (Begins e [] (Uses (While (type_of e) s a)))

    abbrev on : Frame → World → Went
    on f w = Goes f (on_line l w)

    turns : Moves texts 0 (at ss (Turns s)) on (Line l) tested_there
    turns = once_moves texts (at ss (Turns s)) tested_there on (Line l) (while_acts texts ss s l e a is) (ap turn_shown is)

    -- a loop begins
    pub while_moves : Moves texts 1 (at ss (Does s)) (at_first_line l) (Line l) (at ss (Begins e [] (Uses (While (type_of e) s a))))
    while_moves = slide_moves texts 0 (at ss (Does s)) (at ss (Turns s)) tested_there (pass Begin) on (Line l) (while_begins texts ss s l e a is) (ap first_shown is) turns

    -- its back edge: its body is left, and the line of the condition is reached again
    pub again_moves : Moves texts 1 (at (pending.Again s ∷ ss) (Leaves Normal)) (λ f w. Goes f (on_line l w)) (Line l) (at ss (Begins e [] (Uses (While (type_of e) s a))))
    again_moves = slide_moves texts 0 (at (pending.Again s ∷ ss) (Leaves Normal)) (at ss (Turns s)) tested_there (λ w. w) on (Line l) (loop_goes_round texts ss s) refl turns
