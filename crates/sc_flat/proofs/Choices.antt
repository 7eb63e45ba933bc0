-- Expressions of whose operands not all are evaluated (ANSI 3.3.13, 3.3.14, 3.3.15), and the comma (3.3.17).
use Rattle.std.proofs.Common.{◌≡◌, ℕ, suc, ◌<◌, Bool, true, false, List, ◌∷◌, length, refl, sym, ap, subst, ◌∙◌, Some, arith}
use Rattle.sc_types.specs.declared.ctype.CType.{CType}
use Rattle.sc_core.specs.declared.expression.CoreExpr.{CoreExpr}
use Rattle.sc_meaning.specs.Accesses.{tested}
use Rattle.sc_meaning.specs.Values.{Value, Number}
use Rattle.sc_meaning.specs.World.{World, tick}
use Rattle.sc_meaning.specs.Outcomes.{Outcome, Done, Over}
use Rattle.sc_meaning.specs.Versions.{Text}
use Rattle.sc_meaning.specs.Expressions.{plain}
use Rattle.sc_interp.specs.Steady.{body_next}
use Rattle.sc_interp_machine.specs.Machine as expr
use Rattle.sc_interp_machine.specs.Machine.{single_of}
use Rattle.sc_interp_machine.specs.Bodies as body
use Rattle.sc_interp_machine.specs.declared.pending.Item.TheVariants as item
use Rattle.sc_interp_machine.specs.declared.pending.Single.TheVariants as single
use Rattle.sc_points.specs.Points.{use_of, Frame, with_register, answer_of, value_of, IsThere, Waiting, items_of, Begins, Holds, Call, env_of, state_at}
use Rattle.sc_points.specs.declared.held.Held.{Held}
use Rattle.sc_points.specs.declared.held.Held.TheVariants.{In, At, Beyond, Named, NamedBeyond, Void}
use Rattle.sc_points.proofs.Steps as steps
use Rattle.sc_points.specs.Points.{held_in, AsValue, Shaped}
use Rattle.sc_points.proofs.Steps.{used_there}
use Rattle.sc_flat.specs.declared.instruction.Operation.{Operation}
use Rattle.sc_flat.specs.Instructions.{Went, Goes, fills, decides, does}
use Rattle.sc_flat.specs.declared.instruction.Operation.TheVariants as op
use Rattle.sc_flat.specs.Lists as lists
use Rattle.sc_flat.specs.Lists.{form_of, Stand, Labels, IsMove, Draft, Carries, Extends, Place, begins_at, holds_at, AreFree, IsWritten, state_behind}
use Rattle.sc_flat.specs.Written.{Slid, Pushed, Labelled, Marked, with_label, plainly, BeginsWith}
use Rattle.sc_flat.proofs.Moves.{grow_on}
use Rattle.sc_flat.proofs.Drafts.{eq_self, extends_on, slid_extends, label_grows, new_stands}
use Rattle.sc_flat.proofs.Singles.{held_free, alone_free, begins_slide, holds_slide, alone_move, Fits}

module _ (texts : List Text) (at : Place) where
  -- ---- where a test leads

  module _ (ls : Labels) (l d : ℕ) (ws : List Waiting) (few : l < ls.count) (here : ls.stands l ≡ holds_at at (held_in AsValue d) ws) (fits : Fits texts at d ws) (t : CType) (y : CoreExpr) where
    abbrev next : Stand
    next = begins_at at y (Waiting.Alone (single.Truth t) ∷ ws)

    abbrev decided : Frame → Value → World → Went
    decided f v w = fills (Some l) d f (plain v w)

    given_there : (c : Call) (f : Frame) (n : ℕ) (w : World) → state_at c (holds_at at (held_in AsValue d) ws).point (with_register d (Number n) f) w ≡ state_at c (ls.stands l).point (with_register d (Number n) f) w
    given_there c f n w = ap (λ (s : Stand). state_at c s.point (with_register d (Number n) f) w) (sym here)

    blocks_there : (f : Frame) → length f.blocks ≡ at.blocks → length f.blocks ≡ (ls.stands l).blocks
    blocks_there f h = h ∙ ap (λ (s : Stand). s.blocks) (sym here)

    and_state : (c : Call) (f : Frame) (o : Outcome Bool) →
        body_next (body.expr_next (expr.then_goes o (λ yes w. expr.whether yes (expr.evals y (item.Alone (single.Truth t) ∷ items_of f ws)) (λ w. expr.gives (items_of f ws) (plain (Number 0) w)) w)) (use_of f at.user) at.stmts (env_of c f)) c.active c.callers
        ≡ state_behind c next ls (decides o (λ w. Goes f w) (λ w. fills (Some l) d f (plain (Number 0) w)))
    and_state c f (Done true w) = refl
    and_state c f (Done false w) = steps.given texts at.user at.stmts d ws (eq_self d) fits AsValue c f (Number 0) (tick w) ∙ given_there c f 0 (tick w)
    and_state c f (Over e) = refl

    and_there : (f : Frame) (o : Outcome Bool) → length f.blocks ≡ at.blocks → lists.IsThere next ls (decides o (λ w. Goes f w) (λ w. fills (Some l) d f (plain (Number 0) w)))
    and_there f (Done true w) h = h
    and_there f (Done false w) h = (few, blocks_there f h)
    and_there f (Over e) h = tt

    pub and_move : (s : CType) (g : Held) → IsThere g → IsMove texts 1 ls (holds_at at g (Waiting.And s t y ∷ ws)) next (plainly 0 (op.And d s g l))
    and_move s g there c f w h = (
      0,
      omega arith,
      tt,
      ap (λ o. body_next (body.expr_next (expr.then_goes o (λ x w. expr.then_goes (tested s x w) (λ yes w. expr.whether yes (expr.evals y (item.Alone (single.Truth t) ∷ items_of f ws)) (λ w. expr.gives (items_of f ws) (plain (Number 0) w)) w))) (use_of f at.user) at.stmts (env_of c f)) c.active c.callers) (used_there f g w there)
          ∙ and_state c f (tested s (value_of f g) w),
      and_there f (tested s (value_of f g) w) h,
    )

    or_state : (c : Call) (f : Frame) (o : Outcome Bool) →
        body_next (body.expr_next (expr.then_goes o (λ yes w. expr.whether yes (λ w. expr.gives (items_of f ws) (plain (Number 1) w)) (expr.evals y (item.Alone (single.Truth t) ∷ items_of f ws)) w)) (use_of f at.user) at.stmts (env_of c f)) c.active c.callers
        ≡ state_behind c next ls (decides o (λ w. fills (Some l) d f (plain (Number 1) w)) (λ w. Goes f w))
    or_state c f (Done true w) = steps.given texts at.user at.stmts d ws (eq_self d) fits AsValue c f (Number 1) (tick w) ∙ given_there c f 1 (tick w)
    or_state c f (Done false w) = refl
    or_state c f (Over e) = refl

    or_there : (f : Frame) (o : Outcome Bool) → length f.blocks ≡ at.blocks → lists.IsThere next ls (decides o (λ w. fills (Some l) d f (plain (Number 1) w)) (λ w. Goes f w))
    or_there f (Done true w) h = (few, blocks_there f h)
    or_there f (Done false w) h = h
    or_there f (Over e) h = tt

    pub or_move : (s : CType) (g : Held) → IsThere g → IsMove texts 1 ls (holds_at at g (Waiting.Or s t y ∷ ws)) next (plainly 0 (op.Or d s g l))
    or_move s g there c f w h = (
      0,
      omega arith,
      tt,
      ap (λ o. body_next (body.expr_next (expr.then_goes o (λ x w. expr.then_goes (tested s x w) (λ yes w. expr.whether yes (λ w. expr.gives (items_of f ws) (plain (Number 1) w)) (expr.evals y (item.Alone (single.Truth t) ∷ items_of f ws)) w))) (use_of f at.user) at.stmts (env_of c f)) c.active c.callers) (used_there f g w there)
          ∙ or_state c f (tested s (value_of f g) w),
      or_there f (tested s (value_of f g) w) h,
    )

-- ---- the forms

pub truth_shaped : (t : CType) (f : Frame) (h : Held) (w : World) → IsThere h → Shaped AsValue (single_of (single.Truth t) (answer_of f h) w)
truth_shaped t f h w there = subst (λ o. Shaped AsValue (Rattle.sc_meaning.specs.Outcomes.and_then o (Rattle.sc_meaning.specs.Expressions.truth t))) (sym (used_there f h w there)) (by (tested t (value_of f h) w)) where
  by : (o : Outcome Bool) → Shaped AsValue (Rattle.sc_meaning.specs.Outcomes.and_then o (λ truly w. plain (Number (Rattle.sc_ops.specs.Operators.truth_of truly)) w))
  by (Done b w) = refl
  by (Over e) = tt

pub whole_shaped : (f : Frame) (h : Held) (w : World) → Shaped (form_of h) (single_of single.Whole (answer_of f h) w)
whole_shaped f (In r) w = refl
whole_shaped f (At r) w = refl
whole_shaped f (Beyond r n) w = refl
whole_shaped f (Named b i) w = refl
whole_shaped f (NamedBeyond b i n) w = refl
whole_shaped f Void w = refl

pub and_free : (n : ℕ) (s t : CType) (y : CoreExpr) (ws : List Waiting) → AreFree n ws → AreFree n (Waiting.And s t y ∷ ws)
and_free n s t y ws free d few f v = ap (λ is. item.And s t y ∷ is) (free d few f v)

pub or_free : (n : ℕ) (s t : CType) (y : CoreExpr) (ws : List Waiting) → AreFree n ws → AreFree n (Waiting.Or s t y ∷ ws)
or_free n s t y ws free d few f v = ap (λ is. item.Or s t y ∷ is) (free d few f v)

pub choice_free : (n : ℕ) (t : CType) (y z : CoreExpr) (ws : List Waiting) → AreFree n ws → AreFree n (Waiting.Choice t y z ∷ ws)
choice_free n t y z ws free d few f v = ap (λ is. item.Choice t y z ∷ is) (free d few f v)

then_free : (n : ℕ) (y : CoreExpr) (ws : List Waiting) → AreFree n ws → AreFree n (Waiting.Then y ∷ ws)
then_free n y ws free d few f v = ap (λ is. item.Then y ∷ is) (free d few f v)

module _ (texts : List Text) where
  -- a label that was just made
  pub label_here : (ls : Labels) (d : Draft) (p q s : Stand) (l : ℕ) → Carries texts ls d p q → l ≡ length d.places → ((with_label ls s).stands l ≡ s) × (l < (with_label ls s).count)
  label_here ls d p q s l c number =
      let n = c.count in
      (ap (with_label ls s).stands (number ∙ n) ∙ new_stands texts ls s, omega (arith, number, n))

  module _ (old a b b1 c m n new : Draft) (e x y : CoreExpr) (i : Waiting) (t : CType) (d next last l : ℕ) (g h : Held) (o : Operation)
      (first : BeginsWith texts e x i 1) (slid : Slid texts old a 1) (one : IsWritten texts a b x d next g)
      (label : Labelled texts b b1 l) (test : Pushed texts b1 c (plainly 0 o)) (two : IsWritten texts c m y d last h) (there : IsThere h)
      (push : Pushed texts m n (plainly 0 (op.Alone d (single.Truth t) h))) (mark : Marked texts n new l)
      (waits : (ws : List Waiting) → AreFree d ws → AreFree d (i ∷ ws))
      (move : (at : Place) (ls : Labels) (ws : List Waiting) → l < ls.count → ls.stands l ≡ holds_at at (held_in AsValue d) ws → Fits texts at d ws → IsMove texts 1 ls (holds_at at g (i ∷ ws)) (begins_at at y (Waiting.Alone (single.Truth t) ∷ ws)) (plainly 0 o)) where
    -- the second operand is evaluated where the first does not decide
    pub short_written : IsWritten texts old new e d (suc d) (held_in AsValue d)
    short_written = record { grows = omega arith; free = held_free AsValue d; leads = leads_there } where
      leads_there : (at : Place) (ws : List Waiting) → AreFree d ws → Extends texts old new (begins_at at e ws) (holds_at at (held_in AsValue d) ws)
      leads_there at ws free ls p c0 =
          let s0 = begins_at at e ws in
          let s1 = begins_at at x (i ∷ ws) in
          let s2 = holds_at at g (i ∷ ws) in
          let s3 = begins_at at y (Waiting.Alone (single.Truth t) ∷ ws) in
          let s4 = holds_at at h (Waiting.Alone (single.Truth t) ∷ ws) in
          let end = holds_at at (held_in AsValue d) ws in
          let c1 = slid ls p s0 s1 c0 (begins_slide texts at e x i ws 1 first) in
          let (ls1, g1, c2) = one.leads at (i ∷ ws) (waits ws free) ls p c1 in
          let ls2 = with_label ls1 end in
          let c3 = label.leads ls1 p s2 end c2 in
          let (here, few) = label_here ls1 b p s2 end l c2 label.number in
          let c4 = test ls2 p s2 s3 c3 (move at ls2 ws few here (free d (omega arith))) in
          let (ls3, g3, c5) = two.leads at (Waiting.Alone (single.Truth t) ∷ ws) (alone_free d (single.Truth t) ws free) ls2 p c4 in
          let c6 = push ls3 p s4 end c5 (alone_move texts at AsValue d ws (free d (omega arith)) (single.Truth t) h (λ f w. truth_shaped t f h w there) ls3) in
          let c7 = mark ls3 p end c6 (g3.same l few ∙ here) in
          (ls3, grow_on ls ls1 ls3 g1 (grow_on ls1 ls2 ls3 (label_grows texts ls1 end) g3), c7)

  -- the comma
  pub comma_written : (old a b m n new : Draft) (e x y : CoreExpr) (d next last : ℕ) (g h : Held) →
      BeginsWith texts e x (Waiting.Then y) 1 → Slid texts old a 1 → IsWritten texts a b x d next g → Slid texts b m 0 → IsWritten texts m n y d last h → Slid texts n new 1 → IsWritten texts old new e d last h
  comma_written old a b m n new e x y d next last g h first slid one slid_on two done = record {
    grows = two.grows;
    free = two.free;
    leads = λ at ws free.
        let s0 = begins_at at e ws in
        let s1 = begins_at at x (Waiting.Then y ∷ ws) in
        let s2 = holds_at at g (Waiting.Then y ∷ ws) in
        let s3 = begins_at at y (Waiting.Alone single.Whole ∷ ws) in
        let s4 = holds_at at h (Waiting.Alone single.Whole ∷ ws) in
        let s5 = holds_at at h ws in
        extends_on texts old a new s0 s1 s5 (slid_extends texts old a 1 s0 s1 slid (begins_slide texts at e x (Waiting.Then y) ws 1 first))
        (extends_on texts a b new s1 s2 s5 (one.leads at (Waiting.Then y ∷ ws) (then_free d y ws free))
        (extends_on texts b m new s2 s3 s5 (slid_extends texts b m 0 s2 s3 slid_on (holds_slide texts at g (Waiting.Then y ∷ ws) (Begins y (Waiting.Alone single.Whole ∷ ws) at.user) 0 (λ c f w. refl)))
        (extends_on texts m n new s3 s4 s5 (two.leads at (Waiting.Alone single.Whole ∷ ws) (alone_free d single.Whole ws free))
        (slid_extends texts n new 1 s4 s5 done (holds_slide texts at h (Waiting.Alone single.Whole ∷ ws) (Holds h ws at.user) 1 (λ c f w. refl))))));
  }
