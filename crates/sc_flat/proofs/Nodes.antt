-- Names, literals and functions; what needs no instruction; copies of structures; and the conditional expression.
use Rattle.std.proofs.Common.{◌≡◌, ℕ, suc, ◌<◌, ◌≤◌, Bool, true, false, List, ◌∷◌, length, refl, sym, ap, ◌∙◌, Option, Some, None, arith}
use Rattle.std.specs.Prelude.{slice_get}
use Rattle.sc_base.specs.declared.key.Key.{Key}
use Rattle.sc_program.specs.declared.storage.StaticId.TheVariants as id
use Rattle.sc_types.specs.declared.ctype.CType.{CType}
use Rattle.sc_core.specs.declared.expression.CoreExpr.{CoreExpr, out-CoreExpr}
use Rattle.sc_core.specs.declared.expression.CoreExpr.TheOpen.{CoreExpr-F}
use Rattle.sc_meaning.specs.Accesses.{copied, tested}
use Rattle.sc_meaning.specs.Values.{Value, FunctionAt}
use Rattle.sc_meaning.specs.World.{World, tick, pass, Work, named_in}
use Rattle.sc_meaning.specs.Outcomes.{Outcome, Done, Over, and_then}
use Rattle.sc_meaning.specs.Versions.{Text}
use Rattle.sc_meaning.specs.Expressions.{Answer, at_place, literal_of, static_at, base_of, further_of, finished}
use Rattle.sc_interp.specs.Steady.{alone, ran, body_next}
use Rattle.sc_interp_machine.specs.Machine as expr
use Rattle.sc_interp_machine.specs.Machine.{single_of}
use Rattle.sc_interp_machine.specs.Bodies as body
use Rattle.sc_interp_machine.specs.declared.pending.Item.TheVariants as item
use Rattle.sc_interp_machine.specs.declared.pending.Single.{Single}
use Rattle.sc_interp_machine.specs.declared.pending.Single.TheVariants as single
use Rattle.sc_points.specs.Points.{use_of, Frame, with_register, answer_of, value_of, IsThere, Waiting, items_of, Begins, Holds, Call, env_of, state_at}
use Rattle.sc_points.specs.declared.held.Held.{Held}
use Rattle.sc_points.specs.declared.held.Held.TheVariants.{Named}
use Rattle.sc_points.proofs.Steps as steps
use Rattle.sc_points.specs.Points.{Form, held_in, AsPlace, Shaped}
use Rattle.sc_points.proofs.Steps.{used_there}
use Rattle.sc_flat.specs.declared.instruction.Instruction.{Instruction}
use Rattle.sc_flat.specs.Instructions.{Goes, Jumps, fills, decides, does, ticks}
use Rattle.sc_flat.specs.declared.instruction.Operation.TheVariants as op
use Rattle.sc_flat.specs.Instructions as deeds
use Rattle.sc_flat.specs.Lists as lists
use Rattle.sc_flat.specs.Lists.{form_of, Stand, Labels, IsMove, Slides, Draft, Extends, Place, begins_at, holds_at, IsFree, AreFree, IsWritten, state_behind}
use Rattle.sc_flat.specs.Written.{Slid, Pushed, Labelled, Marked, with_label, plainly, BeginsWith}
use Rattle.sc_flat.proofs.Moves.{grow_on}
use Rattle.sc_flat.proofs.Drafts.{eq_self, extends_on, slid_extends, pushed_extends, label_grows, old_stands}
use Rattle.sc_flat.proofs.Singles.{held_free, alone_free, begins_slide, holds_slide, fills_move, alone_move, Fits}
use Rattle.sc_flat.proofs.Choices.{whole_shaped, choice_free, label_here}

module _ (texts : List Text) where
  -- ---- what needs no instruction

  -- the name of an automatic object
  pub named_written : (old new : Draft) (e : CoreExpr) (l : ℕ) (t : CType) (b i d : ℕ) → out-CoreExpr e ≡ CoreExpr-F.Automatic l t b i → Slid texts old new 2 → IsWritten texts old new e d d (Named b i)
  named_written old new e l t b i d is slid = record {
    grows = omega arith;
    free = λ r few f v. refl;
    leads = λ at ws free. slid_extends texts old new 2 (begins_at at e ws) (holds_at at (Named b i) ws) slid (by at ws);
  } where
    by : (at : Place) (ws : List Waiting) → Slides texts 1 2 (begins_at at e ws) (holds_at at (Named b i) ws)
    by at ws = Rattle.sc_flat.proofs.Singles.begins_to texts at e ws (Holds (Named b i) ws at.user) 2 (steps.named_slides texts at.user at.stmts e l t b i ws is)

  -- an operator that gives what is there already
  pub kept_written : (old a b new : Draft) (e x : CoreExpr) (s : Single) (work more d next : ℕ) (g h : Held) →
      BeginsWith texts e x (Waiting.Alone s) work → Slid texts old a work → IsWritten texts a b x d next g → Slid texts b new more →
      ((f : Frame) (w : World) → single_of s (answer_of f g) w ≡ Done (answer_of f h) (ticks more w)) → IsFree next h → IsWritten texts old new e d next h
  kept_written old a b new e x s work more d next g h first slid one done same free_h = record {
    grows = one.grows;
    free = free_h;
    leads = λ at ws free.
        let s0 = begins_at at e ws in
        let s1 = begins_at at x (Waiting.Alone s ∷ ws) in
        let s2 = holds_at at g (Waiting.Alone s ∷ ws) in
        let s3 = holds_at at h ws in
        extends_on texts old a new s0 s1 s3 (slid_extends texts old a work s0 s1 slid (begins_slide texts at e x (Waiting.Alone s) ws work first))
        (extends_on texts a b new s1 s2 s3 (one.leads at (Waiting.Alone s ∷ ws) (alone_free d s ws free))
        (slid_extends texts b new more s2 s3 done (holds_slide texts at g (Waiting.Alone s ∷ ws) (Holds h ws at.user) more
        (λ c f w. ap (λ o. body_next (body.expr_next (expr.gives (items_of f ws) o) (use_of f at.user) at.stmts (env_of c f)) c.active c.callers) (same f w)))));
  }

  -- ---- places that a register gets

  place_shaped : (v : Value) (w : World) → Shaped AsPlace (at_place v w)
  place_shaped v w = refl

  static_shaped : (key : Key) (o : Option ℕ) (w : World) → Shaped AsPlace (static_at key o w)
  static_shaped key None w = tt
  static_shaped key (Some n) w = refl

  -- a name's place, which its first step gives
  at_move : (at : Place) (d : ℕ) (ws : List Waiting) → Fits texts at d ws → (e : CoreExpr) (x : Instruction) (o : Call → Frame → World → Outcome Answer) →
      ((c : Call) (f : Frame) (w : World) → does c x f w ≡ fills None d f (o c f w)) → ((c : Call) (f : Frame) (w : World) → Shaped AsPlace (o c f w)) →
      ((c : Call) (f : Frame) (w : World) → ran 1 (alone texts) texts (state_at c (begins_at at e ws).point f w) ≡ body_next (body.expr_next (expr.gives (items_of f ws) (o c f w)) (use_of f at.user) at.stmts (env_of c f)) c.active c.callers) →
      (ls : Labels) → IsMove texts 1 ls (begins_at at e ws) (holds_at at (held_in AsPlace d) ws) x
  at_move at d ws fits e x o is shaped leads =
      fills_move texts at (Begins e ws at.user) (Holds (held_in AsPlace d) ws at.user) d x o is
      (λ c f w. leads c f w ∙ steps.gives texts at.user at.stmts d ws (eq_self d) fits AsPlace c f (o c f w) (shaped c f w))

  at_written : (old new : Draft) (e : CoreExpr) (d : ℕ) (x : Instruction) → Pushed texts old new x → ((at : Place) (ws : List Waiting) → Fits texts at d ws → (ls : Labels) → IsMove texts 1 ls (begins_at at e ws) (holds_at at (held_in AsPlace d) ws) x) → IsWritten texts old new e d (suc d) (held_in AsPlace d)
  at_written old new e d x push move = record {
    grows = omega arith;
    free = held_free AsPlace d;
    leads = λ at ws free. pushed_extends texts old new x (begins_at at e ws) (holds_at at (held_in AsPlace d) ws) push (move at ws (free d (omega arith)));
  }

  pub literal_written : (old new : Draft) (e : CoreExpr) (l i d : ℕ) (t : CType) → out-CoreExpr e ≡ CoreExpr-F.Literal l t i → Pushed texts old new (plainly 1 (op.Literal d i)) → IsWritten texts old new e d (suc d) (held_in AsPlace d)
  literal_written old new e l i d t is push =
      at_written old new e d (plainly 1 (op.Literal d i)) push (λ at ws fits.
      at_move at d ws fits e (plainly 1 (op.Literal d i)) (λ c f w. at_place (literal_of c.text (slice_get c.text.core.literals i) (tick w)) (tick w)) (λ c f w. refl) (λ c f w. refl)
      (λ c f w. ap (steps.began c f w ws at.user at.stmts) is))

  pub static_written : (old new : Draft) (e : CoreExpr) (l d : ℕ) (t : CType) (key : Key) → out-CoreExpr e ≡ CoreExpr-F.Static l t key → Pushed texts old new (plainly 1 (op.Static d key)) → IsWritten texts old new e d (suc d) (held_in AsPlace d)
  static_written old new e l d t key is push =
      at_written old new e d (plainly 1 (op.Static d key)) push (λ at ws fits.
      at_move at d ws fits e (plainly 1 (op.Static d key)) (λ c f w. static_at key (named_in (tick w).names (id.Named key)) (tick w)) (λ c f w. refl) (λ c f w. static_shaped key (named_in (tick w).names (id.Named key)) (tick w))
      (λ c f w. ap (steps.began c f w ws at.user at.stmts) is))

  pub function_written : (old new : Draft) (e : CoreExpr) (l d : ℕ) (t : CType) (key : Key) → out-CoreExpr e ≡ CoreExpr-F.Function l t key → Pushed texts old new (plainly 1 (op.Function d key)) → IsWritten texts old new e d (suc d) (held_in AsPlace d)
  function_written old new e l d t key is push =
      at_written old new e d (plainly 1 (op.Function d key)) push (λ at ws fits.
      at_move at d ws fits e (plainly 1 (op.Function d key)) (λ c f w. at_place (FunctionAt key) (tick w)) (λ c f w. refl) (λ c f w. refl)
      (λ c f w. ap (steps.began c f w ws at.user at.stmts) is))

  -- ---- a structure is copied; what it gives is the place on the left

  module _ (at : Place) (c : Call) (f : Frame) (ls : Labels) (g : Held) (ws : List Waiting) (size : ℕ) {X : Type 0} where
    abbrev behind : Outcome X → Outcome Answer
    behind o = and_then o (λ _ w. finished (answer_of f g) (pass (Work size) w))

    copied_state : (o : Outcome X) → body_next (body.expr_next (expr.gives (items_of f ws) (behind o)) (use_of f at.user) at.stmts (env_of c f)) c.active c.callers ≡ state_behind c (holds_at at g ws) ls (deeds.keeps None f (behind o))
    copied_state (Done x w) = refl
    copied_state (Over e) = refl

    copied_there : (o : Outcome X) → length f.blocks ≡ at.blocks → lists.IsThere (holds_at at g ws) ls (deeds.keeps None f (behind o))
    copied_there (Done x w) h = h
    copied_there (Over e) h = tt

  copies_move : (at : Place) (ws : List Waiting) (size : ℕ) (g h : Held) (ls : Labels) → IsMove texts 1 ls (holds_at at h (Waiting.StructureNow size g ∷ ws)) (holds_at at g ws) (plainly 0 (op.Copies size g h))
  copies_move at ws size g h ls c f w blocks =
      let o = copied (base_of (answer_of f g)) (further_of (answer_of f g)) (base_of (answer_of f h)) (further_of (answer_of f h)) size w in
      (0, omega arith, tt, copied_state at c f ls g ws size o, copied_there at c f ls g ws size o blocks)

  structure_right_free : (n size : ℕ) (y : CoreExpr) (ws : List Waiting) → AreFree n ws → AreFree n (Waiting.StructureRight size y ∷ ws)
  structure_right_free n size y ws free d few f v = ap (λ is. item.StructureRight size y ∷ is) (free d few f v)

  structure_now_free : (m n size : ℕ) (h : Held) (ws : List Waiting) → m ≤ n → AreFree m ws → IsFree n h → AreFree n (Waiting.StructureNow size h ∷ ws)
  structure_now_free m n size h ws small free other d few f v =
      ap (λ x. item.StructureNow size x ∷ items_of (with_register d v f) ws) (other d few f v) ∙ ap (λ is. item.StructureNow size (answer_of f h) ∷ is) (free d (omega (arith, small, few)) f v)

  pub copies_written : (old a b m n new : Draft) (e x y : CoreExpr) (size d next last : ℕ) (g h : Held) →
      BeginsWith texts e x (Waiting.StructureRight size y) 1 → Slid texts old a 1 → IsWritten texts a b x d next g → Slid texts b m 0 → IsWritten texts m n y next last h → Pushed texts n new (plainly 0 (op.Copies size g h)) →
      IsWritten texts old new e d next g
  copies_written old a b m n new e x y size d next last g h first slid one slid_on two push = record {
    grows = one.grows;
    free = one.free;
    leads = λ at ws free.
        let s0 = begins_at at e ws in
        let s1 = begins_at at x (Waiting.StructureRight size y ∷ ws) in
        let s2 = holds_at at g (Waiting.StructureRight size y ∷ ws) in
        let s3 = begins_at at y (Waiting.StructureNow size g ∷ ws) in
        let s4 = holds_at at h (Waiting.StructureNow size g ∷ ws) in
        let s5 = holds_at at g ws in
        extends_on texts old a new s0 s1 s5 (slid_extends texts old a 1 s0 s1 slid (begins_slide texts at e x (Waiting.StructureRight size y) ws 1 first))
        (extends_on texts a b new s1 s2 s5 (one.leads at (Waiting.StructureRight size y ∷ ws) (structure_right_free d size y ws free))
        (extends_on texts b m new s2 s3 s5 (slid_extends texts b m 0 s2 s3 slid_on (holds_slide texts at g (Waiting.StructureRight size y ∷ ws) (Begins y (Waiting.StructureNow size g ∷ ws) at.user) 0 (λ c f w. refl)))
        (extends_on texts m n new s3 s4 s5 (two.leads at (Waiting.StructureNow size g ∷ ws) (structure_now_free d next size g ws one.grows free one.free))
        (pushed_extends texts n new (plainly 0 (op.Copies size g h)) s4 s5 push (copies_move at ws size g h)))));
  }

  -- ---- the conditional expression

  module _ (at : Place) (ls : Labels) (l : ℕ) (ws : List Waiting) (t : CType) (y z : CoreExpr) (few : l < ls.count) (here : ls.stands l ≡ begins_at at z (Waiting.Alone single.Whole ∷ ws)) where
    abbrev next : Stand
    next = begins_at at y (Waiting.Alone single.Whole ∷ ws)

    choice_state : (c : Call) (f : Frame) (o : Outcome Bool) →
        body_next (body.expr_next (expr.then_goes o (λ truly w. expr.whether truly (expr.evals y (item.Alone single.Whole ∷ items_of f ws)) (expr.evals z (item.Alone single.Whole ∷ items_of f ws)) w)) (use_of f at.user) at.stmts (env_of c f)) c.active c.callers
        ≡ state_behind c next ls (decides o (λ w. Goes f w) (λ w. Jumps l f w))
    choice_state c f (Done true w) = refl
    choice_state c f (Done false w) = ap (λ (s : Stand). state_at c s.point f w) (sym here)
    choice_state c f (Over e) = refl

    choice_there : (f : Frame) (o : Outcome Bool) → length f.blocks ≡ at.blocks → lists.IsThere next ls (decides o (λ w. Goes f w) (λ w. Jumps l f w))
    choice_there f (Done true w) h = h
    choice_there f (Done false w) h = (few, h ∙ ap (λ (s : Stand). s.blocks) (sym here))
    choice_there f (Over e) h = tt

    choice_move : (g : Held) → IsThere g → IsMove texts 1 ls (holds_at at g (Waiting.Choice t y z ∷ ws)) next (plainly 0 (op.Choice t g l))
    choice_move g there c f w h = (
      0,
      omega arith,
      tt,
      ap (λ o. body_next (body.expr_next (expr.then_goes o (λ x w. expr.then_goes (tested t x w) (λ truly w. expr.whether truly (expr.evals y (item.Alone single.Whole ∷ items_of f ws)) (expr.evals z (item.Alone single.Whole ∷ items_of f ws)) w))) (use_of f at.user) at.stmts (env_of c f)) c.active c.callers) (used_there f g w there)
          ∙ choice_state c f (tested t (value_of f g) w),
      choice_there f (tested t (value_of f g) w) h,
    )

  -- its value goes into a register, and the list goes on at a label
  whole_move : (at : Place) (ls : Labels) (l d : ℕ) (ws : List Waiting) (h : Held) (next : Stand) → l < ls.count → ls.stands l ≡ holds_at at (held_in (form_of h) d) ws → Fits texts at d ws → IsMove texts 1 ls (holds_at at h (Waiting.Alone single.Whole ∷ ws)) next (record { work = 0; operation = op.Alone d single.Whole h; label = Some l })
  whole_move at ls l d ws h next few here fits c f w blocks = (
    0,
    omega arith,
    tt,
    steps.single_acts texts at.user at.stmts d ws (eq_self d) fits (form_of h) single.Whole h (λ f w. whole_shaped f h w) c f w
        ∙ ap (λ (s : Stand). state_at c s.point (with_register d (base_of (answer_of f h)) f) (tick w)) (sym here),
    (few, blocks ∙ ap (λ (s : Stand). s.blocks) (sym here)),
  )

  module _ (old a b b1 b2 c m m1 m2 n n1 new : Draft) (e x y z : CoreExpr) (t : CType) (d next last more other end : ℕ) (g h k : Held)
      (first : BeginsWith texts e x (Waiting.Choice t y z) 1) (slid : Slid texts old a 1) (one : IsWritten texts a b x d next g) (there : IsThere g)
      (first_label : Labelled texts b b1 other) (last_label : Labelled texts b1 b2 end) (test : Pushed texts b2 c (plainly 0 (op.Choice t g other)))
      (two : IsWritten texts c m y d last h) (jump : Pushed texts m m1 (record { work = 0; operation = op.Alone d single.Whole h; label = Some end })) (mark : Marked texts m1 m2 other)
      (three : IsWritten texts m2 n z d more k) (push : Pushed texts n n1 (plainly 0 (op.Alone d single.Whole k))) (mark_end : Marked texts n1 new end) (same : form_of h ≡ form_of k) where
    pub choice_written : IsWritten texts old new e d (suc d) (held_in (form_of k) d)
    choice_written = record { grows = omega arith; free = held_free (form_of k) d; leads = leads_there } where
      leads_there : (at : Place) (ws : List Waiting) → AreFree d ws → Extends texts old new (begins_at at e ws) (holds_at at (held_in (form_of k) d) ws)
      leads_there at ws free ls p c0 =
          let s0 = begins_at at e ws in
          let s1 = begins_at at x (Waiting.Choice t y z ∷ ws) in
          let s2 = holds_at at g (Waiting.Choice t y z ∷ ws) in
          let s3 = begins_at at y (Waiting.Alone single.Whole ∷ ws) in
          let s4 = holds_at at h (Waiting.Alone single.Whole ∷ ws) in
          let s5 = begins_at at z (Waiting.Alone single.Whole ∷ ws) in
          let s6 = holds_at at k (Waiting.Alone single.Whole ∷ ws) in
          let done = holds_at at (held_in (form_of k) d) ws in
          let fits = free d (omega arith) in
          let c1 = slid ls p s0 s1 c0 (begins_slide texts at e x (Waiting.Choice t y z) ws 1 first) in
          let (ls1, g1, c2) = one.leads at (Waiting.Choice t y z ∷ ws) (choice_free d t y z ws free) ls p c1 in
          let ls2 = with_label ls1 s5 in
          let c3 = first_label.leads ls1 p s2 s5 c2 in
          let (other_here, other_few) = label_here texts ls1 b p s2 s5 other c2 first_label.number in
          let ls3 = with_label ls2 done in
          let c4 = last_label.leads ls2 p s2 done c3 in
          let (end_here, end_few) = label_here texts ls2 b1 p s2 done end c3 last_label.number in
          let other_on : ls3.stands other ≡ s5 = old_stands texts ls2 done other other_few ∙ other_here in
          let c5 = test ls3 p s2 s3 c4 (choice_move at ls3 other ws t y z (omega (arith, other_few)) other_on g there) in
          let (ls4, g4, c6) = two.leads at (Waiting.Alone single.Whole ∷ ws) (alone_free d single.Whole ws free) ls3 p c5 in
          let more4 = g4.count in
          let end_form : ls4.stands end ≡ holds_at at (held_in (form_of h) d) ws = g4.same end end_few ∙ end_here ∙ ap (λ (form : Form). holds_at at (held_in form d) ws) (sym same) in
          let c7 = jump ls4 p s4 s5 c6 (whole_move at ls4 end d ws h s5 (omega (arith, end_few, more4)) end_form fits) in
          let c8 = mark ls4 p s5 c7 (g4.same other (omega (arith, other_few)) ∙ other_on) in
          let (ls5, g5, c9) = three.leads at (Waiting.Alone single.Whole ∷ ws) (alone_free d single.Whole ws free) ls4 p c8 in
          let c10 = push ls5 p s6 done c9 (alone_move texts at (form_of k) d ws fits single.Whole k (λ f w. whole_shaped f k w) ls5) in
          let c11 = mark_end ls5 p done c10 (g5.same end (omega (arith, end_few, more4)) ∙ g4.same end end_few ∙ end_here) in
          (ls5, grow_on ls ls1 ls5 g1 (grow_on ls1 ls2 ls5 (label_grows texts ls1 s5) (grow_on ls2 ls3 ls5 (label_grows texts ls2 done) (grow_on ls3 ls4 ls5 g4 g5))), c11)
