-- A literal's name and a function's; a whole structure that is copied; the comma.
use Rattle.std.proofs.Common.{◌≡◌, ℕ, true, refl, ap, ◌∙◌, List, ◌∷◌}
use Rattle.std.specs.Prelude.{◌==◌, slice_get}
use Rattle.sc_base.specs.declared.key.Key.{Key}
use Rattle.sc_types.specs.declared.ctype.CType.{CType}
use Rattle.sc_core.specs.declared.expression.CoreExpr.{CoreExpr, out-CoreExpr}
use Rattle.sc_core.specs.declared.expression.CoreExpr.TheOpen.{CoreExpr-F}
use Rattle.sc_meaning.specs.Values.{FunctionAt}
use Rattle.sc_meaning.specs.World.{World, Work, pass, tick}
use Rattle.sc_meaning.specs.Outcomes.{Outcome, Done, Over, and_then, went}
use Rattle.sc_meaning.specs.Accesses.{copied}
use Rattle.sc_meaning.specs.Versions.{Text}
use Rattle.sc_meaning.specs.Expressions.{base_of, further_of, finished, literal_of}
use Rattle.sc_interp.specs.Steady.{alone, ran, body_next}
use Rattle.sc_interp_machine.specs.Machine as expr
use Rattle.sc_interp_machine.specs.Bodies as body
use Rattle.sc_interp_machine.specs.declared.pending.Single.TheVariants as single
use Rattle.sc_interp_machine.specs.declared.body.Pending.{Pending}
use Rattle.sc_points.specs.Points.{Frame, with_register, answer_of, Waiting, items_of, Purpose, use_of, Begins, Holds, at, Call, env_of, state_at, Goes, changes, state_behind, AsPlace, Apart, Acts, Slides}
use Rattle.sc_points.specs.declared.held.Held.{Held}
use Rattle.sc_points.specs.declared.held.Held.TheVariants.{At}
use Rattle.sc_points.proofs.Steps.{began, given}

module _ (texts : List Text) (u : Purpose) (ss : List Pending) (ws : List Waiting) where
  module _ (d : ℕ) (same : (d == d) ≡ true) (apart : Apart d ws) (e : CoreExpr) (l : ℕ) (t : CType) where
    -- the place of a literal of the call's text
    pub literal_acts : (i : ℕ) → out-CoreExpr e ≡ CoreExpr-F.Literal l t i → (c : Call) (f : Frame) (w : World) →
        ran 1 (alone texts) texts (state_at c (at ss (Begins e ws u)) f w)
        ≡ state_at c (at ss (Holds (At d) ws u)) (with_register d (literal_of c.text (slice_get c.text.core.literals i) (tick w)) f) (tick (tick w))
    literal_acts i is c f w =
        ap (began c f w ws u ss) is ∙ given texts u ss d ws same apart AsPlace c f (literal_of c.text (slice_get c.text.core.literals i) (tick w)) (tick (tick w))

    -- a function is the place of itself
    pub function_acts : (key : Key) → out-CoreExpr e ≡ CoreExpr-F.Function l t key →
        Acts texts 1 (at ss (Begins e ws u)) (λ f w. Goes (with_register d (FunctionAt key) f) (tick (tick w))) (at ss (Holds (At d) ws u))
    function_acts key is c f w = ap (began c f w ws u ss) is ∙ given texts u ss d ws same apart AsPlace c f (FunctionAt key) (tick (tick w))

  -- ---- the copy of a structure, which gives the place of its left side

  pub structure_slides : (n : ℕ) (b : CoreExpr) (g : Held) →
      Slides texts 1 (at ss (Holds g (Waiting.StructureRight n b ∷ ws) u)) (λ w. w) (at ss (Begins b (Waiting.StructureNow n g ∷ ws) u))
  structure_slides n b g c f w = refl

  structure_done : (n : ℕ) (g : Held) (c : Call) (f : Frame) (o : Outcome (Unit {0})) →
      body_next (body.expr_next (expr.gives (items_of f ws) (and_then o (λ _ w. finished (answer_of f g) (pass (Work n) w)))) (use_of f u) ss (env_of c f)) c.active c.callers
      ≡ state_behind c (at ss (Holds g ws u)) (changes f (and_then o (λ _ w. went (tick (pass (Work n) w)))))
  structure_done n g c f (Done x w) = refl
  structure_done n g c f (Over e) = refl

  pub structure_acts : (n : ℕ) (g h : Held) →
      Acts texts 1 (at ss (Holds h (Waiting.StructureNow n g ∷ ws) u))
      (λ f w. changes f (and_then (copied (base_of (answer_of f g)) (further_of (answer_of f g)) (base_of (answer_of f h)) (further_of (answer_of f h)) n w) (λ _ w. went (tick (pass (Work n) w)))))
      (at ss (Holds g ws u))
  structure_acts n g h c f w =
      structure_done n g c f (copied (base_of (answer_of f g)) (further_of (answer_of f g)) (base_of (answer_of f h)) (further_of (answer_of f h)) n w)

  -- ---- the comma: the left answer is let go, and the right one is that of the whole

  pub then_slides : (b : CoreExpr) (h : Held) → Slides texts 1 (at ss (Holds h (Waiting.Then b ∷ ws) u)) (λ w. w) (at ss (Begins b (Waiting.Alone single.Whole ∷ ws) u))
  then_slides b h c f w = refl

  pub whole_slides : (h : Held) → Slides texts 1 (at ss (Holds h (Waiting.Alone single.Whole ∷ ws) u)) tick (at ss (Holds h ws u))
  whole_slides h c f w = refl
