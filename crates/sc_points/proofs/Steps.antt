-- Instructions on expressions: a constant, a name, an operator, a store.
use Rattle.std.proofs.Common.{◌≡◌, ℕ, true, refl, ap, sym, ◌∙◌, List, ◌∷◌}
use Rattle.std.specs.Prelude.{◌==◌, if◌then◌else◌}
use Rattle.sc_types.specs.declared.ctype.CType.{CType}
use Rattle.sc_core.specs.declared.expression.CoreExpr.{CoreExpr, out-CoreExpr}
use Rattle.sc_core.specs.declared.expression.CoreExpr.TheOpen.{CoreExpr-F}
use Rattle.sc_core.specs.Types.{type_of}
use Rattle.sc_meaning.specs.Values.{Value, Number}
use Rattle.sc_meaning.specs.World.{World, tick}
use Rattle.sc_meaning.specs.Outcomes.{Outcome, Done, Over}
use Rattle.sc_meaning.specs.Versions.{Text}
use Rattle.sc_meaning.specs.Expressions.{Answer, Plain, Place, Part, used, base_of, begun}
use Rattle.sc_interp.specs.Steady.{body_next}
use Rattle.sc_interp_machine.specs.Machine as expr
use Rattle.sc_interp_machine.specs.Machine.{single_of, pair_of, store_of}
use Rattle.sc_interp_machine.specs.Bodies as body
use Rattle.sc_interp_machine.specs.Runs.{State, Runs}
use Rattle.sc_interp_machine.specs.declared.pending.Single.{Single}
use Rattle.sc_interp_machine.specs.declared.pending.Single.TheVariants as single
use Rattle.sc_interp_machine.specs.declared.pending.Pair.{Pair}
use Rattle.sc_interp_machine.specs.declared.pending.Store.{Store}
use Rattle.sc_interp_machine.specs.declared.pending.Item.TheVariants as item
use Rattle.sc_interp_machine.specs.declared.pending.Mode.TheVariants.{Give}
use Rattle.sc_interp_machine.specs.declared.body.Pending.{Pending}
use Rattle.sc_interp_machine.specs.declared.body.Doing.TheVariants.{Within}
use Rattle.sc_points.specs.Points.{Frame, with_register, answer_of, value_of, IsThere, Waiting, items_of, Purpose, Uses, Sets, Copies, use_of, Begins, Holds, at, Call, env_of, state_at, Goes, puts, state_behind, Form, AsValue, AsPlace, AsPart, AsNothing, formed, held_in, Shaped, Apart, Acts, Slides}
use Rattle.sc_points.specs.declared.held.Held.{Held}
use Rattle.sc_points.specs.declared.held.Held.TheVariants.{In, At, Beyond, Named, NamedBeyond, Void}

-- what is there is used
pub used_there : (f : Frame) (h : Held) (w : World) → IsThere h → used (answer_of f h) w ≡ Done (value_of f h) w
used_there f (In r) w p = refl
used_there f (At r) w p = refl
used_there f (Beyond r n) w p = refl
used_there f (Named b i) w p = refl
used_there f (NamedBeyond b i n) w p = refl
used_there f Void w p = elim p [ ]

-- an expression begins: the state behind its first step
abbrev pub began : Call → Frame → World → List Waiting → Purpose → List Pending → CoreExpr-F CoreExpr → State
began c f w ws u ss x = body_next (body.expr_next (expr.expr_next (env_of c f) x (items_of f ws) (begun x w)) (use_of f u) ss (env_of c f)) c.active c.callers

-- no purpose looks at a register
use_apart : (d : ℕ) (v : Value) (f : Frame) (u : Purpose) → use_of (with_register d v f) u ≡ use_of f u
use_apart d v f (Uses u) = refl
use_apart d v f (Sets b i at t is) = refl
use_apart d v f (Copies b i size is) = refl

module _ (texts : List Text) (u : Purpose) (ss : List Pending) where
  -- ---- steps without an instruction

  pub right_slides : (p : Pair) (b : CoreExpr) (g : Held) (ws : List Waiting) → IsThere g → Slides texts 1 (at ss (Holds g (Waiting.Right p b ∷ ws) u)) (λ w. w) (at ss (Begins b (Waiting.Now p g ∷ ws) u))
  right_slides p b g ws there c f w =
      ap (λ o. body_next (body.expr_next (expr.then_goes o (λ x w. expr.evals b (item.Now p x ∷ items_of f ws) w)) (use_of f u) ss (env_of c f)) c.active c.callers) (used_there f g w there)

  pub store_slides : (s : Store) (b : CoreExpr) (g : Held) (ws : List Waiting) → Slides texts 1 (at ss (Holds g (Waiting.StoreRight s b ∷ ws) u)) (λ w. w) (at ss (Begins b (Waiting.StoreNow s g ∷ ws) u))
  store_slides s b g ws c f w = refl

  pub member_slides : (b i n : ℕ) (ws : List Waiting) → Slides texts 1 (at ss (Holds (Named b i) (Waiting.Alone (single.Member n) ∷ ws) u)) tick (at ss (Holds (NamedBeyond b i n) ws u))
  member_slides b i n ws c f w = refl

  pub named_slides : (e : CoreExpr) (l : ℕ) (t : CType) (b i : ℕ) (ws : List Waiting) → out-CoreExpr e ≡ CoreExpr-F.Automatic l t b i → Slides texts 1 (at ss (Begins e ws u)) (λ w. tick (tick w)) (at ss (Holds (Named b i) ws u))
  named_slides e l t b i ws is c f w = ap (began c f w ws u ss) is

  pub convert_slides : (e a : CoreExpr) (l : ℕ) (t : CType) (ws : List Waiting) → out-CoreExpr e ≡ CoreExpr-F.Convert l t a → Slides texts 1 (at ss (Begins e ws u)) (λ w. w) (at ss (Begins a (Waiting.Alone (single.Convert (type_of a) t) ∷ ws) u))
  convert_slides e a l t ws is c f w = ap (began c f w ws u ss) is

  -- ---- what an operation gives goes into a register

  module _ (d : ℕ) (ws : List Waiting) (same : (d == d) ≡ true) (apart : Apart d ws) where
    put : (f : Frame) (v : Value) → (with_register d v f).regs d ≡ v
    put f v = ap (λ b. if b then v else f.regs d) same

    put_form : (form : Form) (f : Frame) (v : Value) → answer_of (with_register d v f) (held_in form d) ≡ formed form v
    put_form AsValue f v = ap Plain (put f v)
    put_form AsPlace f v = ap Place (put f v)
    put_form (AsPart n) f v = ap (λ x. Part x n) (put f v)
    put_form AsNothing f v = refl

    pub given : (form : Form) (c : Call) (f : Frame) (v : Value) (w : World) →
        Runs (Within (Give (formed form v)) (items_of f ws) (use_of f u)) ss (env_of c f) c.active c.callers w ≡ state_at c (at ss (Holds (held_in form d) ws u)) (with_register d v f) w
    given form c f v w =
        let g : Frame = with_register d v f in
        sym (
        ap (λ a. Runs (Within (Give a) (items_of g ws) (use_of g u)) ss (env_of c f) c.active c.callers w) (put_form form f v)
        ∙ ap (λ is. Runs (Within (Give (formed form v)) is (use_of g u)) ss (env_of c f) c.active c.callers w) (apart f v)
        ∙ ap (λ x. Runs (Within (Give (formed form v)) (items_of f ws) x) ss (env_of c f) c.active c.callers w) (use_apart d v f u))

    pub gives : (form : Form) (c : Call) (f : Frame) (r : Outcome Answer) → Shaped form r →
        body_next (body.expr_next (expr.gives (items_of f ws) r) (use_of f u) ss (env_of c f)) c.active c.callers ≡ state_behind c (at ss (Holds (held_in form d) ws u)) (puts d f r)
    gives form c f (Done a w) p = ap (λ a. Runs (Within (Give a) (items_of f ws) (use_of f u)) ss (env_of c f) c.active c.callers w) p ∙ given form c f (base_of a) w
    gives form c f (Over e) p = refl

    -- a constant
    pub constant_acts : (e : CoreExpr) (l : ℕ) (t : CType) (n : ℕ) → out-CoreExpr e ≡ CoreExpr-F.Number l t n →
        Acts texts 1 (at ss (Begins e ws u)) (λ f w. Goes (with_register d (Number n) f) (tick (tick w))) (at ss (Holds (In d) ws u))
    constant_acts e l t n is c f w = ap (began c f w ws u ss) is ∙ given AsValue c f (Number n) (tick (tick w))

    -- an operator on one answer
    pub single_acts : (form : Form) (s : Single) (h : Held) → ((f : Frame) (w : World) → Shaped form (single_of s (answer_of f h) w)) →
        Acts texts 1 (at ss (Holds h (Waiting.Alone s ∷ ws) u)) (λ f w. puts d f (single_of s (answer_of f h) w)) (at ss (Holds (held_in form d) ws u))
    single_acts form s h shaped c f w = gives form c f (single_of s (answer_of f h) w) (shaped f w)

    -- on two values
    pub pair_acts : (form : Form) (p : Pair) (g h : Held) → IsThere h → ((f : Frame) (w : World) → Shaped form (pair_of p (value_of f g) (value_of f h) w)) →
        Acts texts 1 (at ss (Holds h (Waiting.Now p g ∷ ws) u)) (λ f w. puts d f (pair_of p (value_of f g) (value_of f h) w)) (at ss (Holds (held_in form d) ws u))
    pair_acts form p g h there shaped c f w =
        ap (λ o. body_next (body.expr_next (expr.then_goes o (λ y w. expr.gives (items_of f ws) (pair_of p (value_of f g) y w))) (use_of f u) ss (env_of c f)) c.active c.callers) (used_there f h w there)
        ∙ gives form c f (pair_of p (value_of f g) (value_of f h) w) (shaped f w)

    -- a store
    pub store_acts : (s : Store) (g h : Held) → IsThere h → ((f : Frame) (w : World) → Shaped AsValue (store_of s (answer_of f g) (value_of f h) w)) →
        Acts texts 1 (at ss (Holds h (Waiting.StoreNow s g ∷ ws) u)) (λ f w. puts d f (store_of s (answer_of f g) (value_of f h) w)) (at ss (Holds (In d) ws u))
    store_acts s g h there shaped c f w =
        ap (λ o. body_next (body.expr_next (expr.then_goes o (λ v w. expr.gives (items_of f ws) (store_of s (answer_of f g) v w))) (use_of f u) ss (env_of c f)) c.active c.callers) (used_there f h w there)
        ∙ gives AsValue c f (store_of s (answer_of f g) (value_of f h) w) (shaped f w)
