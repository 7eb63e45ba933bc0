-- The other loops and branches, a static object's name, and a return with a value.
use Rattle.std.proofs.Common.{◌≡◌, ℕ, Bool, true, false, refl, ap, ◌∙◌, List, [], ◌∷◌, Option, Some, None}
use Rattle.std.specs.Prelude.{◌==◌}
use Rattle.sc_base.specs.declared.key.Key.{Key}
use Rattle.sc_program.specs.declared.storage.StaticId.TheVariants as id
use Rattle.sc_types.specs.declared.ctype.CType.{CType}
use Rattle.sc_core.specs.declared.expression.CoreExpr.{CoreExpr, out-CoreExpr}
use Rattle.sc_core.specs.declared.expression.CoreExpr.TheOpen.{CoreExpr-F}
use Rattle.sc_core.specs.declared.statement.CoreStmt.{CoreStmt, out-CoreStmt}
use Rattle.sc_core.specs.declared.statement.CoreStmt.TheOpen.{CoreStmt-F}
use Rattle.sc_core.specs.Types.{type_of}
use Rattle.sc_meaning.specs.Values.{Number}
use Rattle.sc_meaning.specs.World.{World, pass, End, tick, named_in}
use Rattle.sc_meaning.specs.Outcomes.{Outcome, Done, Over}
use Rattle.sc_meaning.specs.Accesses.{tested}
use Rattle.sc_meaning.specs.Versions.{Text}
use Rattle.sc_meaning.specs.Expressions.{plain, static_at}
use Rattle.sc_meaning.specs.Statements.{Normal, Broke, Continued}
use Rattle.sc_interp.specs.Steady.{alone, ran, body_next, on_line}
use Rattle.sc_interp_machine.specs.Machine as expr
use Rattle.sc_interp_machine.specs.Bodies as body
use Rattle.sc_interp_machine.specs.declared.pending.Single.TheVariants as single
use Rattle.sc_interp_machine.specs.declared.pending.Item.TheVariants as item
use Rattle.sc_interp_machine.specs.declared.body.Use.TheVariants as uses
use Rattle.sc_interp_machine.specs.declared.body.Pending.{Pending}
use Rattle.sc_interp_machine.specs.declared.body.Pending.TheVariants as pending
use Rattle.sc_points.specs.Points.{Frame, at_first_line, value_of, IsThere, Waiting, items_of, Purpose, Uses, use_of, Begins, Holds, Does, Turns, Leaves, Returns, at, Call, env_of, state_at, Goes, puts, chosen, AsValue, AsPlace, Shaped, Apart, Acts, Slides, with_register}
use Rattle.sc_points.specs.declared.held.Held.{Held}
use Rattle.sc_points.specs.declared.held.Held.TheVariants.{In, At}
use Rattle.sc_points.proofs.Steps.{used_there, began, given, gives}
use Rattle.sc_points.proofs.Frames.{begun, turned}

pub static_shaped : (key : Key) (o : Option ℕ) (w : World) → Shaped AsPlace (static_at key o w)
static_shaped key None w = tt
static_shaped key (Some o) w = refl

module _ (texts : List Text) (ss : List Pending) where
  -- ---- a test of a whole expression, for each use

  module _ (g : Held) (there : IsThere g) (t : CType) where
    repeat_chosen : (c : Call) (f : Frame) (s : CoreStmt) (o : Outcome Bool) →
        body_next (body.then_goes o (λ yes w. body.whether yes (body.turns s ss (env_of c f)) (body.ends Normal ss (env_of c f)) w)) c.active c.callers
        ≡ chosen c (at ss (Turns s)) (Goes f) (at ss (Leaves Normal)) (λ v. Goes f (pass End v)) o
    repeat_chosen c f s (Done true w) = refl
    repeat_chosen c f s (Done false w) = refl
    repeat_chosen c f s (Over e) = refl

    pub repeat_branches : (s : CoreStmt) (c : Call) (f : Frame) (w : World) →
        ran 1 (alone texts) texts (state_at c (at ss (Holds g [] (Uses (uses.Repeat t s)))) f w) ≡ chosen c (at ss (Turns s)) (Goes f) (at ss (Leaves Normal)) (λ v. Goes f (pass End v)) (tested t (value_of f g) w)
    repeat_branches s c f w =
        ap (λ o. body_next (body.then_goes o (λ v w. body.then_goes (tested t v w) (λ yes w. body.whether yes (body.turns s ss (env_of c f)) (body.ends Normal ss (env_of c f)) w))) c.active c.callers) (used_there f g w there)
        ∙ repeat_chosen c f s (tested t (value_of f g) w)

    for_chosen : (c : Call) (f : Frame) (s q : CoreStmt) (x : Option CoreExpr) (o : Outcome Bool) →
        body_next (body.then_goes o (λ yes w. body.whether yes (body.execs q (pending.Third x s ∷ ss) (env_of c f)) (body.ends Normal ss (env_of c f)) w)) c.active c.callers
        ≡ chosen c (at (pending.Third x s ∷ ss) (Does q)) (Goes f) (at ss (Leaves Normal)) (λ v. Goes f (pass End v)) o
    for_chosen c f s q x (Done true w) = refl
    for_chosen c f s q x (Done false w) = refl
    for_chosen c f s q x (Over e) = refl

    pub for_branches : (s q : CoreStmt) (x : Option CoreExpr) (c : Call) (f : Frame) (w : World) →
        ran 1 (alone texts) texts (state_at c (at ss (Holds g [] (Uses (uses.For t s x q)))) f w) ≡ chosen c (at (pending.Third x s ∷ ss) (Does q)) (Goes f) (at ss (Leaves Normal)) (λ v. Goes f (pass End v)) (tested t (value_of f g) w)
    for_branches s q x c f w =
        ap (λ o. body_next (body.then_goes o (λ v w. body.then_goes (tested t v w) (λ yes w. body.whether yes (body.execs q (pending.Third x s ∷ ss) (env_of c f)) (body.ends Normal ss (env_of c f)) w))) c.active c.callers) (used_there f g w there)
        ∙ for_chosen c f s q x (tested t (value_of f g) w)

  -- ---- `do` and `for`

  pub do_slides : (s a : CoreStmt) (l m : ℕ) (e : CoreExpr) → out-CoreStmt s ≡ CoreStmt-F.Do l a m e → Slides texts 1 (at ss (Turns s)) (λ w. w) (at (pending.Check m e s ∷ ss) (Does a))
  do_slides s a l m e is c f w = ap (turned c f w ss s) is

  pub check_acts : (s : CoreStmt) (l : ℕ) (e : CoreExpr) → Acts texts 1 (at (pending.Check l e s ∷ ss) (Leaves Normal)) (λ f w. Goes f (on_line l w)) (at ss (Begins e [] (Uses (uses.Repeat (type_of e) s))))
  check_acts s l e c f w = refl

  pub for_acts : (s a : CoreStmt) (l : ℕ) (first x : Option CoreExpr) (e : CoreExpr) → out-CoreStmt s ≡ CoreStmt-F.For l first (Some e) x a →
      Acts texts 1 (at ss (Turns s)) (λ f w. Goes f (on_line l w)) (at ss (Begins e [] (Uses (uses.For (type_of e) s x a))))
  for_acts s a l first x e is c f w = ap (turned c f w ss s) is

  pub third_slides : (s : CoreStmt) (e : CoreExpr) → Slides texts 1 (at (pending.Third (Some e) s ∷ ss) (Leaves Normal)) (λ w. w) (at ss (Begins e [] (Uses (uses.Turns s))))
  third_slides s e c f w = refl

  pub turns_slides : (s : CoreStmt) (h : Held) → Slides texts 1 (at ss (Holds h [] (Uses (uses.Turns s)))) (λ w. w) (at ss (Turns s))
  turns_slides s h c f w = refl

  pub break_slides : (s : CoreStmt) → Slides texts 1 (at (pending.Again s ∷ ss) (Leaves Broke)) (pass End) (at ss (Leaves Normal))
  break_slides s c f w = refl

  pub continue_slides : (s : CoreStmt) → Slides texts 1 (at (pending.Again s ∷ ss) (Leaves Continued)) (λ w. w) (at ss (Turns s))
  continue_slides s c f w = refl

  -- ---- a return with a value

  pub return_line_acts : (s : CoreStmt) (l : ℕ) (e : CoreExpr) → out-CoreStmt s ≡ CoreStmt-F.Return l (Some e) → Acts texts 1 (at ss (Does s)) (at_first_line l) (at ss (Begins e [] (Uses uses.Return)))
  return_line_acts s l e is c f w = ap (begun c f w ss s) is

  pub returned_slides : (r : ℕ) → Slides texts 1 (at ss (Holds (In r) [] (Uses uses.Return))) (pass End) (at ss (Returns (In r)))
  returned_slides r c f w = refl

  module _ (u : Purpose) (d : ℕ) (ws : List Waiting) (same : (d == d) ≡ true) (apart : Apart d ws) where
    -- ---- a static object's place is found as its name begins

    pub static_acts : (e : CoreExpr) (l : ℕ) (t : CType) (key : Key) → out-CoreExpr e ≡ CoreExpr-F.Static l t key →
        Acts texts 1 (at ss (Begins e ws u)) (λ f w. puts d f (static_at key (named_in (tick w).names (id.Named key)) (tick w))) (at ss (Holds (At d) ws u))
    static_acts e l t key is c f w =
        ap (began c f w ws u ss) is ∙ gives texts u ss d ws same apart AsPlace c f (static_at key (named_in (tick w).names (id.Named key)) (tick w)) (static_shaped key (named_in (tick w).names (id.Named key)) (tick w))

    -- ---- `||` and `? :`

    or_chosen : (c : Call) (f : Frame) (t : CType) (b : CoreExpr) (o : Outcome Bool) →
        body_next (body.expr_next (expr.then_goes o (λ yes w. expr.whether yes (λ w. expr.gives (items_of f ws) (plain (Number 1) w)) (expr.evals b (item.Alone (single.Truth t) ∷ items_of f ws)) w)) (use_of f u) ss (env_of c f)) c.active c.callers
        ≡ chosen c (at ss (Holds (In d) ws u)) (λ v. Goes (with_register d (Number 1) f) (tick v)) (at ss (Begins b (Waiting.Alone (single.Truth t) ∷ ws) u)) (Goes f) o
    or_chosen c f t b (Done true w) = given texts u ss d ws same apart AsValue c f (Number 1) (tick w)
    or_chosen c f t b (Done false w) = refl
    or_chosen c f t b (Over e) = refl

    pub or_branches : (g : Held) (s t : CType) (b : CoreExpr) (c : Call) (f : Frame) (w : World) → IsThere g →
        ran 1 (alone texts) texts (state_at c (at ss (Holds g (Waiting.Or s t b ∷ ws) u)) f w)
        ≡ chosen c (at ss (Holds (In d) ws u)) (λ v. Goes (with_register d (Number 1) f) (tick v)) (at ss (Begins b (Waiting.Alone (single.Truth t) ∷ ws) u)) (Goes f) (tested s (value_of f g) w)
    or_branches g s t b c f w there =
        ap (λ o. body_next (body.expr_next (expr.then_goes o (λ x w. expr.then_goes (tested s x w) (λ yes w. expr.whether yes (λ w. expr.gives (items_of f ws) (plain (Number 1) w)) (expr.evals b (item.Alone (single.Truth t) ∷ items_of f ws)) w))) (use_of f u) ss (env_of c f)) c.active c.callers) (used_there f g w there)
        ∙ or_chosen c f t b (tested s (value_of f g) w)

    choice_chosen : (c : Call) (f : Frame) (a b : CoreExpr) (o : Outcome Bool) →
        body_next (body.expr_next (expr.then_goes o (λ yes w. expr.whether yes (expr.evals a (item.Alone single.Whole ∷ items_of f ws)) (expr.evals b (item.Alone single.Whole ∷ items_of f ws)) w)) (use_of f u) ss (env_of c f)) c.active c.callers
        ≡ chosen c (at ss (Begins a (Waiting.Alone single.Whole ∷ ws) u)) (Goes f) (at ss (Begins b (Waiting.Alone single.Whole ∷ ws) u)) (Goes f) o
    choice_chosen c f a b (Done true w) = refl
    choice_chosen c f a b (Done false w) = refl
    choice_chosen c f a b (Over e) = refl

    pub choice_branches : (g : Held) (t : CType) (a b : CoreExpr) (c : Call) (f : Frame) (w : World) → IsThere g →
        ran 1 (alone texts) texts (state_at c (at ss (Holds g (Waiting.Choice t a b ∷ ws) u)) f w)
        ≡ chosen c (at ss (Begins a (Waiting.Alone single.Whole ∷ ws) u)) (Goes f) (at ss (Begins b (Waiting.Alone single.Whole ∷ ws) u)) (Goes f) (tested t (value_of f g) w)
    choice_branches g t a b c f w there =
        ap (λ o. body_next (body.expr_next (expr.then_goes o (λ x w. expr.then_goes (tested t x w) (λ yes w. expr.whether yes (expr.evals a (item.Alone single.Whole ∷ items_of f ws)) (expr.evals b (item.Alone single.Whole ∷ items_of f ws)) w))) (use_of f u) ss (env_of c f)) c.active c.callers) (used_there f g w there)
        ∙ choice_chosen c f a b (tested t (value_of f g) w)
