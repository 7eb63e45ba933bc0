-- Expressions with one operand and with two, by those of their operands.
use Rattle.std.proofs.Common.{◌≡◌, ℕ, suc, ◌≤◌, true, List, ◌∷◌, length, refl, sym, ap, subst, ◌∙◌, None, arith}
use Rattle.std.specs.Prelude.{◌==◌, if◌then◌else◌}
use Rattle.sc_types.specs.declared.ctype.CType.{CType}
use Rattle.sc_core.specs.declared.expression.CoreExpr.{CoreExpr, out-CoreExpr}
use Rattle.sc_core.specs.declared.expression.CoreExpr.TheOpen.{CoreExpr-F}
use Rattle.sc_meaning.specs.Values.{Value, Number}
use Rattle.sc_meaning.specs.World.{World, tick}
use Rattle.sc_meaning.specs.Outcomes.{Outcome, Done, Over}
use Rattle.sc_meaning.specs.Versions.{Text}
use Rattle.sc_meaning.specs.Expressions.{Answer, base_of}
use Rattle.sc_interp.specs.Shows.{shown}
use Rattle.sc_interp.specs.Steady.{alone, ran}
use Rattle.sc_interp.specs.Steps.{is_over}
use Rattle.sc_interp.specs.declared.stepped.Shown.TheVariants.{Nothing}
use Rattle.sc_interp_machine.specs.Machine.{single_of, pair_of, store_of}
use Rattle.sc_interp_machine.specs.declared.pending.Mode.TheVariants.{Eval, Give}
use Rattle.sc_interp_machine.specs.declared.pending.Item.TheVariants as item
use Rattle.sc_interp_machine.specs.declared.pending.Single.{Single}
use Rattle.sc_interp_machine.specs.declared.pending.Pair.{Pair}
use Rattle.sc_interp_machine.specs.declared.pending.Store.{Store}
use Rattle.sc_points.specs.Points as points
use Rattle.sc_points.specs.Points.{use_of, Frame, with_register, answer_of, value_of, IsThere, Waiting, items_of, Focus, Begins, Holds, Call, env_of, state_at, puts}
use Rattle.sc_points.specs.declared.held.Held.{Held}
use Rattle.sc_points.proofs.Steps as steps
use Rattle.sc_points.specs.Points.{Form, held_in, AsValue, AsPlace, AsPart, AsNothing, Shaped}
use Rattle.sc_points.proofs.Silence.{within_silent}
use Rattle.sc_flat.specs.declared.instruction.Instruction.{Instruction}
use Rattle.sc_flat.specs.Instructions.{fills, does, ticks}
use Rattle.sc_flat.specs.declared.instruction.Operation.TheVariants as op
use Rattle.sc_flat.specs.Lists as lists
use Rattle.sc_flat.specs.Lists.{Stand, Labels, IsMove, Slides, Draft, Place, stand_at, begins_at, holds_at, IsFree, AreFree, IsWritten, state_behind}
use Rattle.sc_flat.specs.Written.{Slid, Pushed, plainly, BeginsWith}
use Rattle.sc_flat.proofs.Drafts.{eq_self, eq_not, extends_on, slid_extends, pushed_extends}

-- ---- registers

pub held_free : (form : Form) (d : ℕ) → IsFree (suc d) (held_in form d)
held_free form d r few f v = by form where
  other : (with_register r v f).regs d ≡ f.regs d
  other = ap (λ b. if b then v else f.regs d) (eq_not d r (λ e. omega (arith, few, e)))

  by : (form : Form) → answer_of (with_register r v f) (held_in form d) ≡ answer_of f (held_in form d)
  by AsValue = ap Rattle.sc_meaning.specs.Expressions.Plain other
  by AsPlace = ap Rattle.sc_meaning.specs.Expressions.Place other
  by (AsPart n) = ap (λ x. Rattle.sc_meaning.specs.Expressions.Part x n) other
  by AsNothing = refl

pub free_later : (m n : ℕ) (h : Held) → m ≤ n → IsFree m h → IsFree n h
free_later m n h small free d few f v = free d (omega (arith, small, few)) f v

pub alone_free : (n : ℕ) (s : Single) (ws : List Waiting) → AreFree n ws → AreFree n (Waiting.Alone s ∷ ws)
alone_free n s ws free d few f v = ap (λ is. item.Alone s ∷ is) (free d few f v)

pub right_free : (n : ℕ) (p : Pair) (b : CoreExpr) (ws : List Waiting) → AreFree n ws → AreFree n (Waiting.Right p b ∷ ws)
right_free n p b ws free d few f v = ap (λ is. item.Right p b ∷ is) (free d few f v)

pub now_free : (m n : ℕ) (p : Pair) (h : Held) (ws : List Waiting) → m ≤ n → AreFree m ws → IsFree n h → AreFree n (Waiting.Now p h ∷ ws)
now_free m n p h ws small free other d few f v =
    ap (λ x. item.Now p x ∷ items_of (with_register d v f) ws) (ap base_of (other d few f v)) ∙ ap (λ is. item.Now p (value_of f h) ∷ is) (free d (omega (arith, small, few)) f v)

pub store_right_free : (n : ℕ) (s : Store) (b : CoreExpr) (ws : List Waiting) → AreFree n ws → AreFree n (Waiting.StoreRight s b ∷ ws)
store_right_free n s b ws free d few f v = ap (λ is. item.StoreRight s b ∷ is) (free d few f v)

pub store_now_free : (m n : ℕ) (s : Store) (h : Held) (ws : List Waiting) → m ≤ n → AreFree m ws → IsFree n h → AreFree n (Waiting.StoreNow s h ∷ ws)
store_now_free m n s h ws small free other d few f v =
    ap (λ x. item.StoreNow s x ∷ items_of (with_register d v f) ws) (other d few f v) ∙ ap (λ is. item.StoreNow s (answer_of f h) ∷ is) (free d (omega (arith, small, few)) f v)

module _ (texts : List Text) (at : Place) where
  abbrev state : Focus → Call → Frame → World → Rattle.sc_interp_machine.specs.Runs.State
  state focus c f w = state_at c (stand_at at focus).point f w

  -- ---- a step that no instruction makes

  slides_one : (p q : Focus) (n : ℕ) → ((c : Call) (f : Frame) (w : World) → ran 1 (alone texts) texts (state p c f w) ≡ state q c f (ticks n w)) → ((c : Call) (f : Frame) (w : World) → shown (alone texts) texts (state p c f w) ≡ Nothing) → Slides texts 1 n (stand_at at p) (stand_at at q)
  slides_one p q n leads silent = record { leads = leads; silent = λ c f w. (silent c f w, ap is_over (leads c f w), tt); blocks = refl }

  pub begins_to : (e : CoreExpr) (ws : List Waiting) (q : Focus) (n : ℕ) → ((c : Call) (f : Frame) (w : World) → ran 1 (alone texts) texts (state (Begins e ws at.user) c f w) ≡ state q c f (ticks n w)) → Slides texts 1 n (begins_at at e ws) (stand_at at q)
  begins_to e ws q n leads = slides_one (Begins e ws at.user) q n leads (λ c f w. within_silent at.stmts (env_of c f) (Eval e) (items_of f ws) (use_of f at.user) w)

  pub begins_slide : (e a : CoreExpr) (i : Waiting) (ws : List Waiting) (n : ℕ) → BeginsWith texts e a i n → Slides texts 1 n (begins_at at e ws) (begins_at at a (i ∷ ws))
  begins_slide e a i ws n by = begins_to e ws (Begins a (i ∷ ws) at.user) n (by at ws)

  pub holds_slide : (h : Held) (ws : List Waiting) (q : Focus) (n : ℕ) → ((c : Call) (f : Frame) (w : World) → ran 1 (alone texts) texts (state (Holds h ws at.user) c f w) ≡ state q c f (ticks n w)) → Slides texts 1 n (holds_at at h ws) (stand_at at q)
  holds_slide h ws q n leads = slides_one (Holds h ws at.user) q n leads (λ c f w. within_silent at.stmts (env_of c f) (Give (answer_of f h)) (items_of f ws) (use_of f at.user) w)

  pub right_slide : (p : Pair) (b : CoreExpr) (g : Held) (ws : List Waiting) → IsThere g → Slides texts 1 0 (holds_at at g (Waiting.Right p b ∷ ws)) (begins_at at b (Waiting.Now p g ∷ ws))
  right_slide p b g ws there = holds_slide g (Waiting.Right p b ∷ ws) (Begins b (Waiting.Now p g ∷ ws) at.user) 0 (steps.right_slides texts at.user at.stmts p b g ws there)

  pub store_slide : (s : Store) (b : CoreExpr) (g : Held) (ws : List Waiting) → Slides texts 1 0 (holds_at at g (Waiting.StoreRight s b ∷ ws)) (begins_at at b (Waiting.StoreNow s g ∷ ws))
  store_slide s b g ws = holds_slide g (Waiting.StoreRight s b ∷ ws) (Begins b (Waiting.StoreNow s g ∷ ws) at.user) 0 (steps.store_slides texts at.user at.stmts s b g ws)

  -- ---- an instruction of one step that fills a register

  filled : (c : Call) (q : Stand) (ls : Labels) (d : ℕ) (f : Frame) (o : Outcome Answer) → points.state_behind c q.point (puts d f o) ≡ state_behind c q ls (fills None d f o)
  filled c q ls d f (Done a w) = refl
  filled c q ls d f (Over e) = refl

  filled_there : (q : Stand) (ls : Labels) (d : ℕ) (f : Frame) (o : Outcome Answer) → length f.blocks ≡ q.blocks → lists.IsThere q ls (fills None d f o)
  filled_there q ls d f (Done a w) h = h
  filled_there q ls d f (Over e) h = tt

  pub fills_move : (p q : Focus) (d : ℕ) (x : Instruction) (o : Call → Frame → World → Outcome Answer) → ((c : Call) (f : Frame) (w : World) → does c x f w ≡ fills None d f (o c f w)) → ((c : Call) (f : Frame) (w : World) → ran 1 (alone texts) texts (state p c f w) ≡ points.state_behind c (stand_at at q).point (puts d f (o c f w))) → (ls : Labels) → IsMove texts 1 ls (stand_at at p) (stand_at at q) x
  fills_move p q d x o is leads ls c f w h = (
    0,
    omega arith,
    tt,
    leads c f w ∙ filled c (stand_at at q) ls d f (o c f w) ∙ ap (state_behind c (stand_at at q) ls) (sym (is c f w)),
    subst (lists.IsThere (stand_at at q) ls) (sym (is c f w)) (filled_there (stand_at at q) ls d f (o c f w) h),
  )

  abbrev pub Fits : ℕ → List Waiting → Type 0
  Fits d ws = (f : Frame) (v : Value) → items_of (with_register d v f) ws ≡ items_of f ws

  self : (d : ℕ) → (d == d) ≡ true
  self d = eq_self d

  pub constant_move : (d : ℕ) (ws : List Waiting) → Fits d ws → (e : CoreExpr) (l : ℕ) (t : CType) (n : ℕ) → out-CoreExpr e ≡ CoreExpr-F.Number l t n → (ls : Labels) → IsMove texts 1 ls (begins_at at e ws) (holds_at at (held_in AsValue d) ws) (plainly 1 (op.Constant d n))
  constant_move d ws fits e l t n is =
      fills_move (Begins e ws at.user) (Holds (held_in AsValue d) ws at.user) d (plainly 1 (op.Constant d n)) (λ c f w. Rattle.sc_meaning.specs.Expressions.plain (Number n) (tick w)) (λ c f w. refl)
      (λ c f w. steps.constant_acts texts at.user at.stmts d ws (self d) fits e l t n is c f w)

  pub alone_move : (form : Form) (d : ℕ) (ws : List Waiting) → Fits d ws → (s : Single) (h : Held) → ((f : Frame) (w : World) → Shaped form (single_of s (answer_of f h) w)) → (ls : Labels) → IsMove texts 1 ls (holds_at at h (Waiting.Alone s ∷ ws)) (holds_at at (held_in form d) ws) (plainly 0 (op.Alone d s h))
  alone_move form d ws fits s h shaped =
      fills_move (Holds h (Waiting.Alone s ∷ ws) at.user) (Holds (held_in form d) ws at.user) d (plainly 0 (op.Alone d s h)) (λ c f w. single_of s (answer_of f h) w) (λ c f w. refl)
      (λ c f w. steps.single_acts texts at.user at.stmts d ws (self d) fits form s h shaped c f w)

  pub both_move : (form : Form) (d : ℕ) (ws : List Waiting) → Fits d ws → (p : Pair) (g h : Held) → IsThere h → ((f : Frame) (w : World) → Shaped form (pair_of p (value_of f g) (value_of f h) w)) → (ls : Labels) → IsMove texts 1 ls (holds_at at h (Waiting.Now p g ∷ ws)) (holds_at at (held_in form d) ws) (plainly 0 (op.Both d p g h))
  both_move form d ws fits p g h there shaped =
      fills_move (Holds h (Waiting.Now p g ∷ ws) at.user) (Holds (held_in form d) ws at.user) d (plainly 0 (op.Both d p g h)) (λ c f w. pair_of p (value_of f g) (value_of f h) w) (λ c f w. refl)
      (λ c f w. steps.pair_acts texts at.user at.stmts d ws (self d) fits form p g h there shaped c f w)

  pub store_move : (d : ℕ) (ws : List Waiting) → Fits d ws → (s : Store) (g h : Held) → IsThere h → ((f : Frame) (w : World) → Shaped AsValue (store_of s (answer_of f g) (value_of f h) w)) → (ls : Labels) → IsMove texts 1 ls (holds_at at h (Waiting.StoreNow s g ∷ ws)) (holds_at at (held_in AsValue d) ws) (plainly 0 (op.Stores d s g h))
  store_move d ws fits s g h there shaped =
      fills_move (Holds h (Waiting.StoreNow s g ∷ ws) at.user) (Holds (held_in AsValue d) ws at.user) d (plainly 0 (op.Stores d s g h)) (λ c f w. store_of s (answer_of f g) (value_of f h) w) (λ c f w. refl)
      (λ c f w. steps.store_acts texts at.user at.stmts d ws (self d) fits s g h there shaped c f w)

-- ---- whole expressions

module _ (texts : List Text) where
  -- a constant
  pub constant_written : (old new : Draft) (e : CoreExpr) (l : ℕ) (t : CType) (n d : ℕ) → out-CoreExpr e ≡ CoreExpr-F.Number l t n → Pushed texts old new (plainly 1 (op.Constant d n)) → IsWritten texts old new e d (suc d) (held_in AsValue d)
  constant_written old new e l t n d is push = record {
    grows = omega arith;
    free = held_free AsValue d;
    leads = λ at ws free. pushed_extends texts old new (plainly 1 (op.Constant d n)) (begins_at at e ws) (holds_at at (held_in AsValue d) ws) push (constant_move texts at d ws (free d (omega arith)) e l t n is);
  }

  -- an operator on one answer
  pub alone_written : (form : Form) (old a b new : Draft) (e x : CoreExpr) (s : Single) (work d next : ℕ) (h : Held) →
      BeginsWith texts e x (Waiting.Alone s) work → Slid texts old a work → IsWritten texts a b x d next h → Pushed texts b new (plainly 0 (op.Alone d s h)) →
      ((f : Frame) (w : World) → Shaped form (single_of s (answer_of f h) w)) → IsWritten texts old new e d (suc d) (held_in form d)
  alone_written form old a b new e x s work d next h first slid one push shaped = record {
    grows = omega arith;
    free = held_free form d;
    leads = λ at ws free.
        extends_on texts old a new (begins_at at e ws) (begins_at at x (Waiting.Alone s ∷ ws)) (holds_at at (held_in form d) ws)
        (slid_extends texts old a work (begins_at at e ws) (begins_at at x (Waiting.Alone s ∷ ws)) slid (begins_slide texts at e x (Waiting.Alone s) ws work first))
        (extends_on texts a b new (begins_at at x (Waiting.Alone s ∷ ws)) (holds_at at h (Waiting.Alone s ∷ ws)) (holds_at at (held_in form d) ws)
        (one.leads at (Waiting.Alone s ∷ ws) (alone_free d s ws free))
        (pushed_extends texts b new (plainly 0 (op.Alone d s h)) (holds_at at h (Waiting.Alone s ∷ ws)) (holds_at at (held_in form d) ws) push (alone_move texts at form d ws (free d (omega arith)) s h shaped)));
  }

  -- one on two values
  pub both_written : (form : Form) (old a b m n new : Draft) (e x y : CoreExpr) (p : Pair) (d next last : ℕ) (g h : Held) →
      BeginsWith texts e x (Waiting.Right p y) 1 → Slid texts old a 1 → IsWritten texts a b x d next g → IsThere g → Slid texts b m 0 → IsWritten texts m n y next last h → IsThere h →
      Pushed texts n new (plainly 0 (op.Both d p g h)) → ((f : Frame) (w : World) → Shaped form (pair_of p (value_of f g) (value_of f h) w)) → IsWritten texts old new e d (suc d) (held_in form d)
  both_written form old a b m n new e x y p d next last g h first slid one there slid_on two here push shaped = record {
    grows = omega arith;
    free = held_free form d;
    leads = λ at ws free.
        let s0 = begins_at at e ws in
        let s1 = begins_at at x (Waiting.Right p y ∷ ws) in
        let s2 = holds_at at g (Waiting.Right p y ∷ ws) in
        let s3 = begins_at at y (Waiting.Now p g ∷ ws) in
        let s4 = holds_at at h (Waiting.Now p g ∷ ws) in
        let s5 = holds_at at (held_in form d) ws in
        extends_on texts old a new s0 s1 s5 (slid_extends texts old a 1 s0 s1 slid (begins_slide texts at e x (Waiting.Right p y) ws 1 first))
        (extends_on texts a b new s1 s2 s5 (one.leads at (Waiting.Right p y ∷ ws) (right_free d p y ws free))
        (extends_on texts b m new s2 s3 s5 (slid_extends texts b m 0 s2 s3 slid_on (right_slide texts at p y g ws there))
        (extends_on texts m n new s3 s4 s5 (two.leads at (Waiting.Now p g ∷ ws) (now_free d next p g ws one.grows free one.free))
        (pushed_extends texts n new (plainly 0 (op.Both d p g h)) s4 s5 push (both_move texts at form d ws (free d (omega arith)) p g h here shaped)))));
  }

  -- a store
  pub store_written : (old a b m n new : Draft) (e x y : CoreExpr) (s : Store) (d next last : ℕ) (g h : Held) →
      BeginsWith texts e x (Waiting.StoreRight s y) 1 → Slid texts old a 1 → IsWritten texts a b x d next g → Slid texts b m 0 → IsWritten texts m n y next last h → IsThere h →
      Pushed texts n new (plainly 0 (op.Stores d s g h)) → ((f : Frame) (w : World) → Shaped AsValue (store_of s (answer_of f g) (value_of f h) w)) → IsWritten texts old new e d (suc d) (held_in AsValue d)
  store_written old a b m n new e x y s d next last g h first slid one slid_on two here push shaped = record {
    grows = omega arith;
    free = held_free AsValue d;
    leads = λ at ws free.
        let s0 = begins_at at e ws in
        let s1 = begins_at at x (Waiting.StoreRight s y ∷ ws) in
        let s2 = holds_at at g (Waiting.StoreRight s y ∷ ws) in
        let s3 = begins_at at y (Waiting.StoreNow s g ∷ ws) in
        let s4 = holds_at at h (Waiting.StoreNow s g ∷ ws) in
        let s5 = holds_at at (held_in AsValue d) ws in
        extends_on texts old a new s0 s1 s5 (slid_extends texts old a 1 s0 s1 slid (begins_slide texts at e x (Waiting.StoreRight s y) ws 1 first))
        (extends_on texts a b new s1 s2 s5 (one.leads at (Waiting.StoreRight s y ∷ ws) (store_right_free d s y ws free))
        (extends_on texts b m new s2 s3 s5 (slid_extends texts b m 0 s2 s3 slid_on (store_slide texts at s y g ws))
        (extends_on texts m n new s3 s4 s5 (two.leads at (Waiting.StoreNow s g ∷ ws) (store_now_free d next s g ws one.grows free one.free))
        (pushed_extends texts n new (plainly 0 (op.Stores d s g h)) s4 s5 push (store_move texts at d ws (free d (omega arith)) s g h here shaped)))));
  }
