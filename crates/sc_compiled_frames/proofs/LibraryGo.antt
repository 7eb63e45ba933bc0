-- What library functions share, and `printf`, are related.
use Rattle.std.proofs.Common.{◌≡◌, refl, ℕ, zero, suc, ◌+◌, ◌==◌, Bool, true, false, not, nat_lt, List, [], ◌∷◌, length, drop, slice_get, Option, Some, None, nat_abs, int_lt, pos}
use Rattle.sc_base.specs.declared.key.Key.{Key}
use Rattle.sc_base.specs.declared.memory.Kind.TheVariants.{Heap}
use Rattle.sc_fmt.specs.declared.conversion.Conv.{Conv}
use Rattle.sc_fmt.specs.declared.conversion.Count.{Count}
use Rattle.sc_fmt.specs.declared.conversion.Count.TheVariants.{Fixed, Star}
use Rattle.sc_fmt.specs.declared.conversion.Piece.{Piece}
use Rattle.sc_fmt.specs.declared.conversion.Piece.TheVariants as piece
use Rattle.sc_fmt.specs.Format.{piece_of}
use Rattle.sc_meaning.specs.Values.{Value, Number, FunctionAt, Pointer}
use Rattle.sc_meaning.specs.World.{World, pass, Work, Out, TakeFree, TakeNew, Death, tick, free_of}
use Rattle.sc_meaning.specs.declared.spot.Spot.TheVariants.{Block}
use Rattle.sc_meaning.specs.Outcomes.{Outcome}
use Rattle.sc_meaning.specs.Violations.{load_rule, store_rule, free_rule, is_overlapping}
use Rattle.sc_meaning.specs.Accesses.{set_at}
use Rattle.sc_meaning.specs.Versions.{History}
use Rattle.sc_meaning.specs.Changes.{born, happened}
use Rattle.sc_meaning.specs.Expressions.{Plain}
use Rattle.sc_meaning.specs.Classes.{block_size, class_of}
use Rattle.sc_meaning.specs.Library.{gives, value_at, out_of_range, byte_read, text_upto, past, text_at, writable, bytes_set, bytes_written, apart, shown, allocated, taken, given, given_back, block_size_at, block_tested}
use Rattle.sc_meaning.specs.Printf.{Printed, argument_in, argument, is_wrong, refused, greatest, signed, width_of, precision_of, counts_of, text_of, conversion_text, converted, piece_text, formatted, printf}
use Rattle.sc_meaning.specs.World.{Frame, Event}
use Rattle.sc_compiled_frames.specs.Kept.{Kept, Leaves}
use Rattle.sc_compiled_frames.proofs.Steps.{is_quiet_event, here, on, and_more, and_dies, done, then_go, same_done, passes, after_one, unless_goes, either_goes, over}
use Rattle.sc_compiled_frames.proofs.Leaves.{born_goes, set_leads}
use Rattle.std.proofs.Common.{ap, ◌∙◌, ◌&&◌}
use Rattle.sc_rules.specs.Tests as tests
use Rattle.sc_rules.specs.Orders as orders
use Rattle.sc_meaning.specs.World.{Object, Give, object_at}
use Rattle.sc_meaning.specs.Violations.{of_object}
use Rattle.sc_meaning.specs.Laws.{KeepsObjects}
use Rattle.sc_compiled_frames.specs.Kept.{Holds}

-- blocks of the heap
abbrev pub BlockAt : List Object → Value → Type 0
BlockAt objects (Number n) = Unit {0}
BlockAt objects (FunctionAt k) = Unit {0}
BlockAt objects (Pointer o i) = (x : Object) × (object_at objects o ≡ Some x) × (tests.is_heap x.kind ≡ true)

no_block_held : (w : World) (o j n : ℕ) → (x : Object) × (object_at w.objects o ≡ Some x) × (tests.is_heap x.kind ≡ true) → Holds w j n → o ≡ j → ⊥
no_block_held w o j n b h q =
    let there : object_at w.objects o ≡ Some h.object = ap (object_at w.objects) q ∙ h.there in
    let found : object_at w.objects o ≡ Some b.0 = b.1 in
    let heap = b.2 in
    let other = h.heap in
    absurd (cc)

pub block_on : (old new : List Object) (p : Value) → KeepsObjects old new → BlockAt old p → BlockAt new p
block_on old new (Number n) s h = tt
block_on old new (FunctionAt k) s h = tt
block_on old new (Pointer o i) s h = let q = s o h.0 h.1 in (q.0, q.1, ap tests.is_heap q.2.kind ∙ h.2)

no_block : (live heap place : Bool) → not (live && heap && place) ≡ false → heap ≡ true
no_block true true place h = refl
no_block true false place h = absurd (cc)
no_block false heap place h = absurd (cc)

is_block : (objects : List Object) (o i : ℕ) (x : Option Object) → object_at objects o ≡ x → of_object true (λ b. tests.is_no_block b.live b.kind 0 i) x ≡ false → BlockAt objects (Pointer o i)
is_block objects o i None e h = absurd (cc)
is_block objects o i (Some b) e h = (b, e, no_block b.live (tests.is_heap b.kind) (i == 0) h)

free_passed : (unallocated : Bool) → orders.free unallocated ≡ None → unallocated ≡ false
free_passed true h = absurd (cc)
free_passed false h = refl

pub block_at : (objects : List Object) (p : Value) → free_rule objects p ≡ None → BlockAt objects p
block_at objects (Number n) h = tt
block_at objects (FunctionAt k) h = tt
block_at objects (Pointer o i) h = is_block objects o i (object_at objects o) refl (free_passed (of_object true (λ b. tests.is_no_block b.live b.kind 0 i) (object_at objects o)) h)

module _ (R : List Frame → List Frame) where
  pub set_all_lead : (p : Value) (i : ℕ) (bs : List ℕ) (w : World) → Kept R w (bytes_set p i bs w)
  set_all_lead p i [] w = here R w
  set_all_lead p i (b ∷ bs) w =
      let v : World = set_at p i 1 (Number b) w in
      on R w (tick v) (bytes_set p (i + 1) bs (tick v)) (and_more R (Work 1) refl w v (set_leads R p i 1 (Number b) w)) (set_all_lead p (i + 1) bs (tick v))

  given_leads : (p : Value) (size : ℕ) (w : World) → BlockAt w.objects p → Kept R w (given p size w)
  given_leads (Number n) size w b = here R w
  given_leads (FunctionAt k) size w b = here R w
  given_leads (Pointer o i) size w b =
      and_more R (Give (class_of size)) refl w (pass (Death o) w) (and_dies R o w w (here R w) (λ j n h q. no_block_held w o j n b h q))

  pub back_leads : (p : Value) (w : World) → BlockAt w.objects p → Kept R w (given_back p w)
  back_leads p w b = given_leads p (block_size_at w p) w b

  pub gives_goes : (v : Value) (w : World) → Leaves R w (gives v w)
  gives_goes v w = same_done R (Plain v) w

  pub range_goes : {A : Type 0} (key : Key) (vs : List Value) (i : ℕ) (w : World) → Leaves {A = A} R w (out_of_range key vs i w)
  range_goes key vs i w = over R w _

  pub byte_goes : (p : Value) (i : ℕ) (w : World) → Leaves R w (byte_read p i w)
  byte_goes p i w = unless_goes R (load_rule w.objects p i 1 false) _ _ w (passes R _ (Work 1) refl w)

  pub upto_goes : (n : ℕ) (p : Value) (i : ℕ) (w : World) → Leaves R w (text_upto n p i w)
  upto_goes zero p i w = same_done R [] w
  upto_goes (suc n) p i w =
      then_go R w (byte_read p i w) _ (byte_goes p i w) (λ b u.
      either_goes R (b == 0) _ _ u (same_done R [] u) (then_go R u (text_upto n p (i + 1) u) _ (upto_goes n p (i + 1) u) (λ bs v. same_done R (b ∷ bs) v)))

  pub text_goes : (p : Value) (w : World) → Leaves R w (text_at p w)
  text_goes p w = upto_goes (past w p) p 0 w

  writable_goes : (n : ℕ) (p : Value) (i : ℕ) (w : World) → Leaves R w (writable n p i w)
  writable_goes zero p i w = same_done R tt w
  writable_goes (suc n) p i w = unless_goes R (store_rule w.objects p i 1) _ _ w (writable_goes n p (i + 1) w)

  pub written_goes : (p : Value) (i : ℕ) (bs : List ℕ) (w : World) → Leaves R w (bytes_written p i bs w)
  written_goes p i bs w =
      then_go R w (writable (length bs) p i w) _ (writable_goes (length bs) p i w) (λ x u. done R tt u (bytes_set p i bs u) (set_all_lead p i bs u))

  pub apart_goes : (to : Value) (n : ℕ) (from : Value) (m : ℕ) (w : World) → Leaves R w (apart to n from m w)
  apart_goes to n from m w = either_goes R (is_overlapping to n from m) _ _ w (over R w _) (same_done R tt w)

  allocated_goes : (n : ℕ) (w : World) → Leaves R w (allocated n w)
  allocated_goes n w = then_go R w (born n Heap Block w) _ (born_goes R n Heap Block w) (λ o u. same_done R (Some o) u)

  pub taken_goes : (n : ℕ) (w : World) → Leaves R w (taken n w)
  taken_goes n w =
      either_goes R (not (free_of w.free (class_of n) == 0)) _ _ w (after_one R (TakeFree (class_of n)) refl w _ (allocated_goes n (pass (TakeFree (class_of n)) w))) (either_goes R (nat_lt w.heap (w.made + block_size (class_of n))) _ _ w (same_done R None w) (after_one R (TakeNew (block_size (class_of n))) refl w _ (allocated_goes n (pass (TakeNew (block_size (class_of n))) w))))

  pub block_goes : (p : Value) (w : World) → Leaves R w (block_tested p w)
  block_goes p w = unless_goes R (free_rule w.objects p) _ _ w (same_done R tt w)

  refused_goes : {A : Type 0} (g : Printed) (i : ℕ) (w : World) → Leaves {A = A} R w (refused g i w)
  refused_goes g i w = over R w _

  in_goes : (g : Printed) (k : ℕ) (b : Bool) (v : Option Value) (w : World) → Leaves R w (argument_in g k b v w)
  in_goes g k b None w = refused_goes g (k + 1) w
  in_goes g k b (Some v) w = either_goes R (is_wrong b v) _ _ w (refused_goes g (k + 1) w) (same_done R v w)

  argument_goes : (g : Printed) (k : ℕ) (b : Bool) (w : World) → Leaves R w (argument g k b w)
  argument_goes g k b w = in_goes g k b (slice_get g.args k) w

  width_goes : (g : Printed) (c : Conv) (k : ℕ) (n : Option Count) (w : World) → Leaves R w (width_of g c k n w)
  width_goes g c k None w = same_done R _ w
  width_goes g c k (Some (Fixed n)) w = either_goes R (nat_lt greatest n) _ _ w (refused_goes g 1 w) (same_done R _ w)
  width_goes g c k (Some Star) w =
      then_go R w (argument g k false w) _ (argument_goes g k false w) (λ v u. either_goes R (nat_lt greatest (nat_abs (signed v))) _ _ u (refused_goes g (k + 1) u) (same_done R _ u))

  precision_goes : (g : Printed) (c : Conv) (k : ℕ) (n : Option Count) (w : World) → Leaves R w (precision_of g c k n w)
  precision_goes g c k None w = same_done R _ w
  precision_goes g c k (Some (Fixed n)) w = either_goes R (nat_lt greatest n) _ _ w (refused_goes g 1 w) (same_done R _ w)
  precision_goes g c k (Some Star) w =
      then_go R w (argument g k false w) _ (argument_goes g k false w) (λ v u. either_goes R (int_lt (pos greatest) (signed v)) _ _ u (refused_goes g (k + 1) u) (same_done R _ u))

  counts_go : (g : Printed) (c : Conv) (k : ℕ) (w : World) → Leaves R w (counts_of g c k w)
  counts_go g c k w =
      then_go R w (width_of g c k c.width w) _ (width_goes g c k c.width w) (λ f u. precision_goes g f.conv f.used f.conv.precision u)

  precise_goes : (n : Option Count) (p : Value) (w : World) → Leaves R w (text_of n p w)
  precise_goes None p w = text_goes p w
  precise_goes (Some (Fixed n)) p w = upto_goes n p 0 w
  precise_goes (Some Star) p w = text_goes p w

  conversion_goes : (g : Printed) (c : Conv) (k : ℕ) (w : World) → Leaves R w (conversion_text g c k w)
  conversion_goes g c k w =
      either_goes R (c.kind == 37) _ _ w (same_done R _ w) (either_goes R (c.kind == 99) _ _ w (then_go R w (argument g k false w) _ (argument_goes g k false w) (λ v u. same_done R _ u)) (either_goes R (c.kind == 115) _ _ w (then_go R w (argument g k true w) _ (argument_goes g k true w) (λ p u. then_go R u (text_of c.precision p u) _ (precise_goes c.precision p u) (λ bs v. same_done R _ v))) (then_go R w (argument g k false w) _ (argument_goes g k false w) (λ v u. same_done R _ u))))

  converted_goes : (g : Printed) (c : Conv) (k : ℕ) (w : World) → Leaves R w (converted g c k w)
  converted_goes g c k w = then_go R w (counts_of g c k w) _ (counts_go g c k w) (λ f u. conversion_goes g f.conv f.used u)

  piece_goes : (g : Printed) (k : ℕ) (rest : List ℕ) (later : ℕ → List ℕ → World → Outcome (List ℕ)) (x : Piece) (w : World) → ((n : ℕ) (bs : List ℕ) (u : World) → Leaves R u (later n bs u)) → Leaves R w (piece_text g k rest later x w)
  piece_goes g k rest later (piece.Text n) w q = then_go R w (later k (drop n rest) w) _ (q k (drop n rest) w) (λ more u. same_done R _ u)
  piece_goes g k rest later (piece.Conv c n) w q =
      then_go R w (converted g c k w) _ (converted_goes g c k w) (λ t u. then_go R u (later t.used (drop n rest) u) _ (q t.used (drop n rest) u) (λ more v. same_done R _ v))
  piece_goes g k rest later piece.End w q = same_done R [] w
  piece_goes g k rest later piece.Wrong w q = refused_goes g 1 w

  formatted_goes : (n : ℕ) (g : Printed) (k : ℕ) (rest : List ℕ) (w : World) → Leaves R w (formatted n g k rest w)
  formatted_goes zero g k rest w = same_done R [] w
  formatted_goes (suc n) g k rest w = piece_goes g k rest (formatted n g) (piece_of rest) w (formatted_goes n g)

module _ (R : List Frame → List Frame) (h : History) (H : (e : Event) → is_quiet_event e ≡ true → (w : World) → Leaves R w (happened h e w)) where
  pub shown_goes : (bs : List ℕ) (w : World) → Leaves R w (shown h bs w)
  shown_goes [] w = same_done R tt w
  shown_goes (b ∷ bs) w =
      then_go R w (happened h (Out b) (tick w)) _ (after_one R (Work 1) refl w _ (H (Out b) refl (tick w))) (λ x u. shown_goes bs u)

  pub printf_goes : (key : Key) (vs : List Value) (w : World) → Leaves R w (printf h key vs w)
  printf_goes key vs w =
      let g : Printed = record { key = key; args = vs } in
      then_go R w (text_at (value_at vs 0) w) _ (text_goes R (value_at vs 0) w) (λ format u.
      then_go R u (formatted (length format + 1) g 1 format u) _ (formatted_goes R (length format + 1) g 1 format u) (λ bs v.
      then_go R v (shown h bs v) _ (shown_goes bs v) (λ x y. gives_goes R _ y)))
