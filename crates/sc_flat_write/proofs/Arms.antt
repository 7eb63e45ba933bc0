-- An expression is written where its parts are: one lemma for each form.
use Rattle.std.proofs.Common.{◌≡◌, ℕ, ◌+◌, List, refl, sym, ap, subst, Some, arith}
use Rattle.sc_types.specs.declared.ctype.CType.{CType, out-CType}
use Rattle.sc_types.specs.declared.ctype.CType.TheOpen.{CType-F}
use Rattle.sc_types.specs.declared.ctype.Signature.{Signature}
use Rattle.sc_core.specs.declared.expression.CoreExpr.{CoreExpr, out-CoreExpr}
use Rattle.sc_core.specs.declared.expression.CoreExpr.TheOpen.{CoreExpr-F}
use Rattle.sc_core.specs.Types.{type_of}
use Rattle.sc_meaning.specs.Values.{Value}
use Rattle.sc_meaning.specs.World.{World}
use Rattle.sc_meaning.specs.Outcomes.{Outcome, Done, Over, and_then}
use Rattle.sc_meaning.specs.Versions.{Text}
use Rattle.sc_meaning.specs.Accesses.{loaded}
use Rattle.sc_meaning.specs.Expressions.{Answer, Plain, Place, Part, address, as_answer, base_of, layer_read, conversion}
use Rattle.sc_interp_machine.specs.Machine.{single_of, pair_of, store_of}
use Rattle.sc_interp_machine.specs.declared.pending.Single.{Single}
use Rattle.sc_interp_machine.specs.declared.pending.Single.TheVariants as single
use Rattle.sc_interp_machine.specs.declared.pending.Pair.{Pair}
use Rattle.sc_interp_machine.specs.declared.pending.Store.{Store}
use Rattle.sc_base.specs.declared.key.Key.{Key}
use Rattle.sc_interp_machine.specs.declared.body.Pending.{Pending}
use Rattle.sc_points.specs.Points.{Firsts, Purpose, Frame, answer_of, value_of, IsThere, Waiting, Form, held_in, AsValue, Shaped}
use Rattle.sc_points.proofs.Steps.{convert_slides}
use Rattle.sc_points.specs.declared.held.Held.{Held}
use Rattle.sc_points.specs.declared.held.Held.TheVariants.{In, At, Beyond, Named, NamedBeyond, Void}
use Rattle.sc_flat.specs.declared.instruction.Operation.TheVariants as op
use Rattle.sc_flat.specs.Instructions.{ticks}
use Rattle.sc_flat.specs.Lists.{Draft, IsFree, IsWritten, form_of}
use Rattle.sc_flat.specs.Written.{Slid, Pushed, Labelled, Marked, plainly, BeginsWith}
use Rattle.sc_flat.proofs.Singles.{alone_written, both_written, constant_written, store_written}
use Rattle.sc_flat.proofs.Choices.{and_free, and_move, comma_written, or_free, or_move, short_written}
use Rattle.sc_flat.proofs.Nodes.{choice_written, copies_written, function_written, kept_written, literal_written, named_written, static_written}
use Rattle.sc_flat_write.specs.Parts.{PartWritten, member_of, arrow_of, target_of, is_read, layer_is_read, IsNoValue}
use Rattle.sc_flat_write.specs.declared.parts.Written.{Written}

-- what was written fills the next register, in this form
abbrev pub IsFilled : Held → ℕ → Written → Type 0
IsFilled h d w = (w.held ≡ h) × (w.next ≡ d + 1)

filled_so : (texts : List Text) (old new : Draft) (e : CoreExpr) (d : ℕ) (h : Held) (w : Written) → IsFilled h d w → IsWritten texts old new e d (Rattle.std.specs.Prelude.suc d) h → IsWritten texts old new e d w.next w.held
filled_so texts old new e d h w (held, next) one =
    let n : Rattle.std.specs.Prelude.suc d ≡ w.next = omega (arith, next) in
    subst (λ k. IsWritten texts old new e d k w.held) n (subst (λ g. IsWritten texts old new e d (Rattle.std.specs.Prelude.suc d) g) (sym held) one)

module _ (texts : List Text) where
  -- an operator on one answer
  pub alone_arm : (form : Form) (old b new : Draft) (e x : CoreExpr) (s : Single) (work d : ℕ) (v w : Written) →
      BeginsWith texts e x (Waiting.Alone s) work → PartWritten texts old b work x d v → ((f : Frame) (u : World) → IsThere v.held → Shaped form (single_of s (answer_of f v.held) u)) → IsThere v.held →
      IsFilled (held_in form d) d w → Pushed texts b new (plainly 0 (op.Alone d s v.held)) → IsWritten texts old new e d w.next w.held
  alone_arm form old b new e x s work d v w first (a, slid, one) shaped there filled push =
      filled_so texts old new e d (held_in form d) w filled
      (alone_written texts form old a b new e x s work d v.next v.held first slid one push (λ f u. shaped f u there))

  -- an operator on two values
  pub both_arm : (form : Form) (old b n new : Draft) (e x y : CoreExpr) (p : Pair) (d : ℕ) (u v w : Written) →
      BeginsWith texts e x (Waiting.Right p y) 1 → PartWritten texts old b 1 x d u → PartWritten texts b n 0 y u.next v → ((a b : Value) (z : World) → Shaped form (pair_of p a b z)) → IsThere u.held × IsThere v.held →
      IsFilled (held_in form d) d w → Pushed texts n new (plainly 0 (op.Both d p u.held v.held)) → IsWritten texts old new e d w.next w.held
  both_arm form old b n new e x y p d u v w first (a, slid, one) (m, slid_on, two) shaped there filled push =
      filled_so texts old new e d (held_in form d) w filled
      (both_written texts form old a b m n new e x y p d u.next v.next u.held v.held first slid one there.0 slid_on two there.1 push (λ f z. shaped (value_of f u.held) (value_of f v.held) z))

  -- a store
  pub store_arm : (old b n new : Draft) (e x y : CoreExpr) (s : Store) (d : ℕ) (u v w : Written) →
      BeginsWith texts e x (Waiting.StoreRight s y) 1 → PartWritten texts old b 1 x d u → PartWritten texts b n 0 y u.next v → ((a : Answer) (b : Value) (z : World) → Shaped AsValue (store_of s a b z)) → IsThere v.held →
      IsFilled (In d) d w → Pushed texts n new (plainly 0 (op.Stores d s u.held v.held)) → IsWritten texts old new e d w.next w.held
  store_arm old b n new e x y s d u v w first (a, slid, one) (m, slid_on, two) shaped there filled push =
      filled_so texts old new e d (In d) w filled
      (store_written texts old a b m n new e x y s d u.next v.next u.held v.held first slid one slid_on two there push (λ f z. shaped (answer_of f u.held) (value_of f v.held) z))

  -- what needs no instruction
  pub keep_arm : (old b new : Draft) (e x : CoreExpr) (s : Single) (work more d : ℕ) (h : Held) (v w : Written) →
      BeginsWith texts e x (Waiting.Alone s) work → PartWritten texts old b work x d v → ((f : Frame) (u : World) → single_of s (answer_of f v.held) u ≡ Done (answer_of f h) (ticks more u)) →
      ((n : ℕ) → IsFree n v.held → IsFree n h) → (w.held ≡ h) × (w.next ≡ v.next) → Slid texts b new more → IsWritten texts old new e d w.next w.held
  keep_arm old b new e x s work more d h v w first (a, slid, one) same free (held, next) done =
      subst (λ k. IsWritten texts old new e d k w.held) (sym next) (subst (λ g. IsWritten texts old new e d v.next g) (sym held)
      (kept_written texts old a b new e x s work more d v.next v.held h first slid one done same (free v.next one.free)))

  -- a structure's copy
  pub copies_arm : (old b n new : Draft) (e x y : CoreExpr) (size d : ℕ) (u v w : Written) →
      BeginsWith texts e x (Waiting.StructureRight size y) 1 → PartWritten texts old b 1 x d u → PartWritten texts b n 0 y u.next v → w ≡ u → Pushed texts n new (plainly 0 (op.Copies size u.held v.held)) → IsWritten texts old new e d w.next w.held
  copies_arm old b n new e x y size d u v w first (a, slid, one) (m, slid_on, two) same push =
      subst (λ (z : Written). IsWritten texts old new e d z.next z.held) (sym same) (copies_written texts old a b m n new e x y size d u.next v.next u.held v.held first slid one slid_on two push)

  -- the comma
  pub comma_arm : (old b n new : Draft) (e x y : CoreExpr) (d : ℕ) (u v w : Written) →
      BeginsWith texts e x (Waiting.Then y) 1 → PartWritten texts old b 1 x d u → PartWritten texts b n 0 y d v → (w.held ≡ v.held) × (w.next ≡ v.next) → Slid texts n new 1 → IsWritten texts old new e d w.next w.held
  comma_arm old b n new e x y d u v w first (a, slid, one) (m, slid_on, two) (held, next) done =
      subst (λ k. IsWritten texts old new e d k w.held) (sym next) (subst (λ g. IsWritten texts old new e d v.next g) (sym held)
      (comma_written texts old a b m n new e x y d u.next v.next u.held v.held first slid one slid_on two done))

-- ---- forms of answers

pub member_same : (n : ℕ) (h : Held) (f : Frame) (w : World) → single_of (single.Member n) (answer_of f h) w ≡ Done (answer_of f (member_of n h)) (ticks 1 w)
member_same n (In r) f w = refl
member_same n (At r) f w = refl
member_same n (Beyond r m) f w = refl
member_same n (Named b i) f w = refl
member_same n (NamedBeyond b i m) f w = refl
member_same n Void f w = refl

pub arrow_same : (n : ℕ) (h : Held) (f : Frame) (w : World) → IsThere h → single_of (single.Arrow n) (answer_of f h) w ≡ Done (answer_of f (arrow_of n h)) (ticks 1 w)
arrow_same n (In r) f w there = refl
arrow_same n (At r) f w there = refl
arrow_same n (Beyond r m) f w there = refl
arrow_same n (Named b i) f w there = refl
arrow_same n (NamedBeyond b i m) f w there = refl
arrow_same n Void f w there = elim there [ ]

pub target_same : (h : Held) (f : Frame) (w : World) → IsThere h → single_of single.Indirection (answer_of f h) w ≡ Done (answer_of f (target_of h)) (ticks 1 w)
target_same (In r) f w there = refl
target_same (At r) f w there = refl
target_same (Beyond r m) f w there = refl
target_same (Named b i) f w there = refl
target_same (NamedBeyond b i m) f w there = refl
target_same Void f w there = elim there [ ]

pub void_same : (t : CType) (h : Held) (f : Frame) (w : World) → Rattle.sc_meaning.specs.Expressions.is_void t ≡ Rattle.std.specs.Prelude.true → single_of (single.Cast t) (answer_of f h) w ≡ Done (answer_of f Void) (ticks 1 w)
void_same t h f w is = ap (λ b. Rattle.sc_meaning.specs.Expressions.cast b t (answer_of f h) w) is

pub place_same : (from to : CType) (h : Held) (f : Frame) (w : World) → is_read from ≡ Rattle.std.specs.Prelude.false → IsNoValue h → single_of (single.Convert from to) (answer_of f h) w ≡ Done (answer_of f h) (ticks 0 w)
place_same from to h f w is place = by (out-CType from) is h place where
  by : (x : CType-F CType Signature) → layer_is_read x ≡ Rattle.std.specs.Prelude.false → (h : Held) → IsNoValue h → and_then (layer_read x from (answer_of f h) w) (λ a w. Done (as_answer to a) w) ≡ Done (answer_of f h) w
  by (CType-F.Void c) is (In r) place = elim place [ ]
  by (CType-F.Void c) is (At r) place = refl
  by (CType-F.Void c) is (Beyond r m) place = refl
  by (CType-F.Void c) is (Named b i) place = refl
  by (CType-F.Void c) is (NamedBeyond b i m) place = refl
  by (CType-F.Void c) is Void place = refl
  by (CType-F.Int i c) is h place = absurd (cc)
  by (CType-F.Pointer p c) is h place = absurd (cc)
  by (CType-F.Array e n) is h place = absurd (cc)
  by (CType-F.Struct s c) is (In r) place = elim place [ ]
  by (CType-F.Struct s c) is (At r) place = refl
  by (CType-F.Struct s c) is (Beyond r m) place = refl
  by (CType-F.Struct s c) is (Named b i) place = refl
  by (CType-F.Struct s c) is (NamedBeyond b i m) place = refl
  by (CType-F.Struct s c) is Void place = refl
  by (CType-F.Function g) is h place = absurd (cc)

-- ---- what does not look at a register

pub same_free : (h : Held) (n : ℕ) → IsFree n h → IsFree n h
same_free h n free = free

pub member_free : (k : ℕ) (h : Held) (n : ℕ) → IsFree n h → IsFree n (member_of k h)
member_free k (In r) n free d few f v = ap (λ (a : Answer). Part (base_of a) k) (free d few f v)
member_free k (At r) n free d few f v = ap (λ (a : Answer). Part (base_of a) k) (free d few f v)
member_free k (Beyond r m) n free d few f v = ap (λ (a : Answer). Part (base_of a) (m + k)) (free d few f v)
member_free k (Named b i) n free d few f v = refl
member_free k (NamedBeyond b i m) n free d few f v = refl
member_free k Void n free d few f v = refl

pub arrow_free : (k : ℕ) (h : Held) (n : ℕ) → IsFree n h → IsFree n (arrow_of k h)
arrow_free k (In r) n free d few f v = ap (λ (a : Answer). Part (base_of a) k) (free d few f v)
arrow_free k (At r) n free d few f v = ap (λ (a : Answer). Part (base_of a) k) (free d few f v)
arrow_free k (Beyond r m) n free d few f v = ap (λ (a : Answer). Part (base_of a) k) (free d few f v)
arrow_free k (Named b i) n free d few f v = refl
arrow_free k (NamedBeyond b i m) n free d few f v = refl
arrow_free k Void n free d few f v = refl

pub target_free : (h : Held) (n : ℕ) → IsFree n h → IsFree n (target_of h)
target_free (In r) n free d few f v = ap (λ (a : Answer). Place (base_of a)) (free d few f v)
target_free (At r) n free d few f v = ap (λ (a : Answer). Place (base_of a)) (free d few f v)
target_free (Beyond r m) n free d few f v = ap (λ (a : Answer). Place (base_of a)) (free d few f v)
target_free (Named b i) n free d few f v = refl
target_free (NamedBeyond b i m) n free d few f v = refl
target_free Void n free d few f v = refl

pub void_free : (h : Held) (n : ℕ) → IsFree n h → IsFree n Void
void_free h n free d few f v = refl

-- ---- the form in which a place that is read gives its value

read_so : (to : CType) (o : Outcome Value) → Shaped AsValue (and_then (and_then o (λ v w. Done (Plain v) w)) (λ a w. Done (as_answer to a) w))
read_so to (Done v w) = refl
read_so to (Over e) = tt

pub convert_shaped : (from to : CType) (h : Held) (f : Frame) (w : World) → is_read from ≡ Rattle.std.specs.Prelude.true → IsThere h → Shaped AsValue (single_of (single.Convert from to) (answer_of f h) w)
convert_shaped from to h f w is there = by (out-CType from) is h there where
  read : (h : Held) → IsThere h → Shaped AsValue (and_then (Rattle.sc_meaning.specs.Expressions.read from (answer_of f h) w) (λ a w. Done (as_answer to a) w))
  read (In r) there = refl
  read (At r) there = read_so to (loaded from (f.regs r) 0 w)
  read (Beyond r n) there = read_so to (loaded from (f.regs r) n w)
  read (Named b i) there = read_so to (loaded from (Rattle.sc_meaning.specs.Expressions.automatic_in f.blocks b i) 0 w)
  read (NamedBeyond b i n) there = read_so to (loaded from (Rattle.sc_meaning.specs.Expressions.automatic_in f.blocks b i) n w)
  read Void there = elim there [ ]

  by : (x : CType-F CType Signature) → layer_is_read x ≡ Rattle.std.specs.Prelude.true → (h : Held) → IsThere h → Shaped AsValue (and_then (layer_read x from (answer_of f h) w) (λ a w. Done (as_answer to a) w))
  by (CType-F.Void c) is h there = absurd (cc)
  by (CType-F.Int i c) is h there = read h there
  by (CType-F.Pointer p c) is h there = read h there
  by (CType-F.Array e n) is h there = read_so to (address (answer_of f h) w)
  by (CType-F.Struct s c) is h there = absurd (cc)
  by (CType-F.Function g) is h there = read_so to (address (answer_of f h) w)

-- ---- expressions of whose operands not all are evaluated

module _ (texts : List Text) where
  pub and_arm : (old b c m new : Draft) (e x y : CoreExpr) (s t : CType) (d l : ℕ) (u v w : Written) →
      BeginsWith texts e x (Waiting.And s t y) 1 → PartWritten texts old b 1 x d u → IsThere u.held → ((k : Draft) × Labelled texts b k l × Pushed texts k c (plainly 0 (op.And d s u.held l))) →
      IsWritten texts c m y d v.next v.held → IsThere v.held → IsFilled (In d) d w → ((k : Draft) × Pushed texts m k (plainly 0 (op.Alone d (single.Truth t) v.held)) × Marked texts k new l) → IsWritten texts old new e d w.next w.held
  and_arm old b c m new e x y s t d l u v w first (a, slid, one) there (k, label, test) two here filled (n, push, mark) =
      filled_so texts old new e d (In d) w filled
      (short_written texts old a b k c m n new e x y (Waiting.And s t y) t d u.next v.next l u.held v.held (op.And d s u.held l) first slid one label test two here push mark
      (λ ws free. and_free d s t y ws free) (λ at ls ws few is fits. and_move texts at ls l d ws few is fits t y s u.held there))

  pub or_arm : (old b c m new : Draft) (e x y : CoreExpr) (s t : CType) (d l : ℕ) (u v w : Written) →
      BeginsWith texts e x (Waiting.Or s t y) 1 → PartWritten texts old b 1 x d u → IsThere u.held → ((k : Draft) × Labelled texts b k l × Pushed texts k c (plainly 0 (op.Or d s u.held l))) →
      IsWritten texts c m y d v.next v.held → IsThere v.held → IsFilled (In d) d w → ((k : Draft) × Pushed texts m k (plainly 0 (op.Alone d (single.Truth t) v.held)) × Marked texts k new l) → IsWritten texts old new e d w.next w.held
  or_arm old b c m new e x y s t d l u v w first (a, slid, one) there (k, label, test) two here filled (n, push, mark) =
      filled_so texts old new e d (In d) w filled
      (short_written texts old a b k c m n new e x y (Waiting.Or s t y) t d u.next v.next l u.held v.held (op.Or d s u.held l) first slid one label test two here push mark
      (λ ws free. or_free d s t y ws free) (λ at ls ws few is fits. or_move texts at ls l d ws few is fits t y s u.held there))

  pub choice_arm : (old b c m m2 n new : Draft) (e x y z : CoreExpr) (t : CType) (d other end : ℕ) (u v p w : Written) →
      BeginsWith texts e x (Waiting.Choice t y z) 1 → PartWritten texts old b 1 x d u → IsThere u.held →
      ((j k : Draft) × Labelled texts b j other × Labelled texts j k end × Pushed texts k c (plainly 0 (op.Choice t u.held other))) →
      IsWritten texts c m y d v.next v.held → ((k : Draft) × Pushed texts m k (record { work = 0; operation = op.Alone d single.Whole v.held; label = Some end }) × Marked texts k m2 other) →
      IsWritten texts m2 n z d p.next p.held → form_of v.held ≡ form_of p.held → IsFilled (held_in (form_of p.held) d) d w →
      ((k : Draft) × Pushed texts n k (plainly 0 (op.Alone d single.Whole p.held)) × Marked texts k new end) → IsWritten texts old new e d w.next w.held
  choice_arm old b c m m2 n new e x y z t d other end u v p w first (a, slid, one) there (j, k, first_label, last_label, test) two (m1, jump, mark) three same filled (n1, push, mark_end) =
      filled_so texts old new e d (held_in (form_of p.held) d) w filled
      (choice_written texts old a b j k c m m1 m2 n n1 new e x y z t d u.next v.next p.next other end u.held v.held p.held first slid one there first_label last_label test two jump mark three push mark_end same)

-- ---- names and constants, and operators whose types were copied

-- an expression with one part begins with it
pub begins_one : (texts : List Text) (e x : CoreExpr) (i : Waiting) → ((u : Purpose) (ss : List Pending) (ws : List Waiting) → Firsts texts ss u ws e x i) → BeginsWith texts e x i 1
begins_one texts e x i by at ws c f w = by at.user at.stmts ws c f w

module _ (texts : List Text) (old new : Draft) (e : CoreExpr) (l d : ℕ) (t : CType) (w : Written) where
  pub number_arm : (n : ℕ) → out-CoreExpr e ≡ CoreExpr-F.Number l t n → IsFilled (In d) d w → Pushed texts old new (plainly 1 (op.Constant d n)) → IsWritten texts old new e d w.next w.held
  number_arm n is filled push = filled_so texts old new e d (In d) w filled (constant_written texts old new e l t n d is push)

  pub literal_arm : (i : ℕ) → out-CoreExpr e ≡ CoreExpr-F.Literal l t i → IsFilled (At d) d w → Pushed texts old new (plainly 1 (op.Literal d i)) → IsWritten texts old new e d w.next w.held
  literal_arm i is filled push = filled_so texts old new e d (At d) w filled (literal_written texts old new e l i d t is push)

  pub static_arm : (key k : Key) → k ≡ key → out-CoreExpr e ≡ CoreExpr-F.Static l t key → IsFilled (At d) d w → Pushed texts old new (plainly 1 (op.Static d k)) → IsWritten texts old new e d w.next w.held
  static_arm key k same is filled push = filled_so texts old new e d (At d) w filled (static_written texts old new e l d t key is (subst (λ (q : Key). Pushed texts old new (plainly 1 (op.Static d q))) same push))

  pub function_arm : (key k : Key) → k ≡ key → out-CoreExpr e ≡ CoreExpr-F.Function l t key → IsFilled (At d) d w → Pushed texts old new (plainly 1 (op.Function d k)) → IsWritten texts old new e d w.next w.held
  function_arm key k same is filled push = filled_so texts old new e d (At d) w filled (function_written texts old new e l d t key is (subst (λ (q : Key). Pushed texts old new (plainly 1 (op.Function d q))) same push))

  pub named_arm : (b i : ℕ) → out-CoreExpr e ≡ CoreExpr-F.Automatic l t b i → (w.held ≡ Named b i) × (w.next ≡ d) → Slid texts old new 2 → IsWritten texts old new e d w.next w.held
  named_arm b i is (held, next) slid =
      subst (λ k. IsWritten texts old new e d k w.held) (sym next) (subst (λ g. IsWritten texts old new e d d g) (sym held) (named_written texts old new e l t b i d is slid))

module _ (texts : List Text) (old b n new : Draft) (e x y : CoreExpr) (d : ℕ) (u v w : Written) (s t : CType) (left : s ≡ type_of x) (right : t ≡ type_of y) where
  pub both_typed : (form : Form) (of : CType → CType → Pair) → BeginsWith texts e x (Waiting.Right (of (type_of x) (type_of y)) y) 1 → PartWritten texts old b 1 x d u → PartWritten texts b n 0 y u.next v →
      ((a b : Value) (z : World) → Shaped form (pair_of (of (type_of x) (type_of y)) a b z)) → IsThere u.held × IsThere v.held → IsFilled (held_in form d) d w → Pushed texts n new (plainly 0 (op.Both d (of s t) u.held v.held)) → IsWritten texts old new e d w.next w.held
  both_typed form of first one two shaped there filled push =
      both_arm texts form old b n new e x y (of (type_of x) (type_of y)) d u v w first one two shaped there filled
      (subst (λ (q : CType). Pushed texts n new (plainly 0 (op.Both d (of (type_of x) q) u.held v.held))) right (subst (λ (p : CType). Pushed texts n new (plainly 0 (op.Both d (of p t) u.held v.held))) left push))

  pub store_typed : (of : CType → CType → Store) → BeginsWith texts e x (Waiting.StoreRight (of (type_of x) (type_of y)) y) 1 → PartWritten texts old b 1 x d u → PartWritten texts b n 0 y u.next v →
      ((a : Answer) (b : Value) (z : World) → Shaped AsValue (store_of (of (type_of x) (type_of y)) a b z)) → IsThere v.held → IsFilled (In d) d w → Pushed texts n new (plainly 0 (op.Stores d (of s t) u.held v.held)) → IsWritten texts old new e d w.next w.held
  store_typed of first one two shaped there filled push =
      store_arm texts old b n new e x y (of (type_of x) (type_of y)) d u v w first one two shaped there filled
      (subst (λ (q : CType). Pushed texts n new (plainly 0 (op.Stores d (of (type_of x) q) u.held v.held))) right (subst (λ (p : CType). Pushed texts n new (plainly 0 (op.Stores d (of p t) u.held v.held))) left push))

module _ (texts : List Text) (old b new : Draft) (e x : CoreExpr) (work d : ℕ) (v w : Written) (r s : CType) (same : r ≡ s) where
  pub alone_typed : (of : CType → Single) → BeginsWith texts e x (Waiting.Alone (of s)) work → PartWritten texts old b work x d v → ((f : Frame) (z : World) → IsThere v.held → Shaped AsValue (single_of (of s) (answer_of f v.held) z)) → IsThere v.held →
      IsFilled (In d) d w → Pushed texts b new (plainly 0 (op.Alone d (of r) v.held)) → IsWritten texts old new e d w.next w.held
  alone_typed of first one shaped there filled push =
      alone_arm texts AsValue old b new e x (of s) work d v w first one shaped there filled (subst (λ (q : CType). Pushed texts b new (plainly 0 (op.Alone d (of q) v.held))) same push)

-- an expression begins whose parts' types were copied
pub begins_typed : (texts : List Text) (e x : CoreExpr) (of : CType → CType → Waiting) (p q s t : CType) → s ≡ p → t ≡ q → BeginsWith texts e x (of p q) 1 → BeginsWith texts e x (of s t) 1
begins_typed texts e x of p q s t left right first =
    subst (λ (b : CType). BeginsWith texts e x (of s b) 1) (sym right) (subst (λ (a : CType). BeginsWith texts e x (of a q) 1) (sym left) first)

-- a conversion, whose beginning is no work
pub convert_arm : (texts : List Text) (old b new : Draft) (e x : CoreExpr) (l d : ℕ) (t s r : CType) (v w : Written) → out-CoreExpr e ≡ CoreExpr-F.Convert l t x → s ≡ type_of x → r ≡ t → is_read (type_of x) ≡ Rattle.std.specs.Prelude.true →
    PartWritten texts old b 0 x d v → IsThere v.held → IsFilled (In d) d w → Pushed texts b new (plainly 0 (op.Alone d (single.Convert s r) v.held)) → IsWritten texts old new e d w.next w.held
convert_arm texts old b new e x l d t s r v w is from same read one there filled push =
    alone_arm texts AsValue old b new e x (single.Convert (type_of x) t) 0 d v w (λ at ws. convert_slides texts at.user at.stmts e x l t ws is) one (λ f z there. convert_shaped (type_of x) t v.held f z read there) there filled
    (subst (λ (q : CType). Pushed texts b new (plainly 0 (op.Alone d (single.Convert (type_of x) q) v.held))) same (subst (λ (p : CType). Pushed texts b new (plainly 0 (op.Alone d (single.Convert p r) v.held))) from push))

-- one of a place that stays as it is
pub place_arm : (texts : List Text) (old b new : Draft) (e x : CoreExpr) (l d : ℕ) (t : CType) (v w : Written) → out-CoreExpr e ≡ CoreExpr-F.Convert l t x → is_read (type_of x) ≡ Rattle.std.specs.Prelude.false →
    PartWritten texts old b 0 x d v → IsNoValue v.held → w ≡ v → Slid texts b new 0 → IsWritten texts old new e d w.next w.held
place_arm texts old b new e x l d t v w is read one place same done =
    keep_arm texts old b new e x (single.Convert (type_of x) t) 0 0 d v.held v w (λ at ws. convert_slides texts at.user at.stmts e x l t ws is) one (λ f z. place_same (type_of x) t v.held f z read place) (same_free v.held)
    (ap (λ (z : Written). z.held) same, ap (λ (z : Written). z.next) same) done
