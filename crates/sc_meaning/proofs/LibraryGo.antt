-- What library functions share, and `printf`, are related.
use Rattle.std.proofs.Common.{ℕ, zero, suc, ◌+◌, ◌==◌, Bool, true, false, not, nat_lt, List, [], ◌∷◌, length, drop, slice_get, Option, Some, None, nat_abs, int_lt, pos}
use Rattle.sc_base.specs.declared.key.Key.{Key}
use Rattle.sc_base.specs.declared.memory.Kind.TheVariants.{Heap}
use Rattle.sc_fmt.specs.declared.conversion.Conv.{Conv}
use Rattle.sc_fmt.specs.declared.conversion.Count.{Count}
use Rattle.sc_fmt.specs.declared.conversion.Count.TheVariants.{Fixed, Star}
use Rattle.sc_fmt.specs.declared.conversion.Piece.{Piece}
use Rattle.sc_fmt.specs.declared.conversion.Piece.TheVariants as piece
use Rattle.sc_fmt.specs.Format.{piece_of}
use Rattle.sc_meaning.specs.Values.{Value, Number, FunctionAt, Pointer}
use Rattle.sc_meaning.specs.World.{World, pass, Work, Out, TakeFree, TakeNew, Death, tick, free_of}
use Rattle.sc_meaning.specs.declared.spot.Spot.TheVariants.{Block}
use Rattle.sc_meaning.specs.Outcomes.{Outcome}
use Rattle.sc_meaning.specs.Violations.{load_rule, store_rule, free_rule, is_overlapping}
use Rattle.sc_meaning.specs.Accesses.{set_at}
use Rattle.sc_meaning.specs.Versions.{History}
use Rattle.sc_meaning.specs.Changes.{born, happened}
use Rattle.sc_meaning.specs.Expressions.{Plain}
use Rattle.sc_meaning.specs.Classes.{block_size, class_of}
use Rattle.sc_meaning.specs.Library.{gives, value_at, out_of_range, byte_read, text_upto, past, text_at, writable, bytes_set, bytes_written, apart, shown, allocated, taken, given, given_back, block_size_at, block_tested}
use Rattle.sc_meaning.specs.Printf.{Printed, argument_in, argument, is_wrong, refused, greatest, signed, width_of, precision_of, counts_of, text_of, conversion_text, converted, piece_text, formatted, printf}
use Rattle.sc_meaning.specs.Laws.{Leads}
use Rattle.sc_meaning.proofs.Relation.{Relation, Histories}
use Rattle.sc_meaning.proofs.Steps.{here, on, one_more, and_more, same_done, passes, after_one, stops, unless_goes, either_goes}
use Rattle.sc_meaning.proofs.Leaves.{born_goes, set_leads}

pub set_all_lead : (p : Value) (i : ℕ) (bs : List ℕ) (w : World) → Leads w (bytes_set p i bs w)
set_all_lead p i [] w = here w
set_all_lead p i (b ∷ bs) w =
    let v : World = set_at p i 1 (Number b) w in
    on w (tick v) (bytes_set p (i + 1) bs (tick v)) (and_more (Work 1) w v (set_leads p i 1 (Number b) w)) (set_all_lead p (i + 1) bs (tick v))

given_leads : (p : Value) (size : ℕ) (w : World) → Leads w (given p size w)
given_leads (Number n) size w = here w
given_leads (FunctionAt k) size w = here w
given_leads (Pointer o i) size w = and_more _ w (pass (Death o) w) (one_more (Death o) w)

pub back_leads : (p : Value) (w : World) → Leads w (given_back p w)
back_leads p w = given_leads p (block_size_at w p) w

module _ (R : Relation) where
  pub gives_goes : (v : Value) (w : World) → R.Rel w (gives v w) (gives v w)
  gives_goes v w = same_done R (Plain v) w

  pub range_goes : {A : Type 0} (key : Key) (vs : List Value) (i : ℕ) (w : World) → R.Rel {A = A} w (out_of_range key vs i w) (out_of_range key vs i w)
  range_goes key vs i w = stops R _ w

  pub byte_goes : (p : Value) (i : ℕ) (w : World) → R.Rel w (byte_read p i w) (byte_read p i w)
  byte_goes p i w = unless_goes R (load_rule w.objects p i 1 false) _ _ _ w (passes R _ (Work 1) w)

  pub upto_goes : (n : ℕ) (p : Value) (i : ℕ) (w : World) → R.Rel w (text_upto n p i w) (text_upto n p i w)
  upto_goes zero p i w = same_done R [] w
  upto_goes (suc n) p i w =
      R.bind w (byte_read p i w) (byte_read p i w) _ _ (byte_goes p i w) (λ b u.
      either_goes R (b == 0) _ _ _ _ u (same_done R [] u) (R.bind u (text_upto n p (i + 1) u) (text_upto n p (i + 1) u) _ _ (upto_goes n p (i + 1) u) (λ bs v. same_done R (b ∷ bs) v)))

  pub text_goes : (p : Value) (w : World) → R.Rel w (text_at p w) (text_at p w)
  text_goes p w = upto_goes (past w p) p 0 w

  writable_goes : (n : ℕ) (p : Value) (i : ℕ) (w : World) → R.Rel w (writable n p i w) (writable n p i w)
  writable_goes zero p i w = same_done R tt w
  writable_goes (suc n) p i w = unless_goes R (store_rule w.objects p i 1) _ _ _ w (writable_goes n p (i + 1) w)

  pub written_goes : (p : Value) (i : ℕ) (bs : List ℕ) (w : World) → R.Rel w (bytes_written p i bs w) (bytes_written p i bs w)
  written_goes p i bs w =
      R.bind w (writable (length bs) p i w) (writable (length bs) p i w) _ _ (writable_goes (length bs) p i w) (λ x u. R.done tt u (bytes_set p i bs u) (set_all_lead p i bs u))

  pub apart_goes : (to : Value) (n : ℕ) (from : Value) (m : ℕ) (w : World) → R.Rel w (apart to n from m w) (apart to n from m w)
  apart_goes to n from m w = either_goes R (is_overlapping to n from m) _ _ _ _ w (stops R _ w) (same_done R tt w)

  allocated_goes : (n : ℕ) (w : World) → R.Rel w (allocated n w) (allocated n w)
  allocated_goes n w = R.bind w (born n Heap Block w) (born n Heap Block w) _ _ (born_goes R n Heap Block w) (λ o u. same_done R (Some o) u)

  pub taken_goes : (n : ℕ) (w : World) → R.Rel w (taken n w) (taken n w)
  taken_goes n w =
      either_goes R (not (free_of w.free (class_of n) == 0)) _ _ _ _ w (after_one R (TakeFree (class_of n)) w _ _ (allocated_goes n (pass (TakeFree (class_of n)) w)))
      (either_goes R (nat_lt w.heap (w.made + block_size (class_of n))) _ _ _ _ w (same_done R None w) (after_one R (TakeNew (block_size (class_of n))) w _ _ (allocated_goes n (pass (TakeNew (block_size (class_of n))) w))))

  pub block_goes : (p : Value) (w : World) → R.Rel w (block_tested p w) (block_tested p w)
  block_goes p w = unless_goes R (free_rule w.objects p) _ _ _ w (same_done R tt w)

  refused_goes : {A : Type 0} (g : Printed) (i : ℕ) (w : World) → R.Rel {A = A} w (refused g i w) (refused g i w)
  refused_goes g i w = stops R _ w

  in_goes : (g : Printed) (k : ℕ) (b : Bool) (v : Option Value) (w : World) → R.Rel w (argument_in g k b v w) (argument_in g k b v w)
  in_goes g k b None w = refused_goes g (k + 1) w
  in_goes g k b (Some v) w = either_goes R (is_wrong b v) _ _ _ _ w (refused_goes g (k + 1) w) (same_done R v w)

  argument_goes : (g : Printed) (k : ℕ) (b : Bool) (w : World) → R.Rel w (argument g k b w) (argument g k b w)
  argument_goes g k b w = in_goes g k b (slice_get g.args k) w

  width_goes : (g : Printed) (c : Conv) (k : ℕ) (n : Option Count) (w : World) → R.Rel w (width_of g c k n w) (width_of g c k n w)
  width_goes g c k None w = same_done R _ w
  width_goes g c k (Some (Fixed n)) w = either_goes R (nat_lt greatest n) _ _ _ _ w (refused_goes g 1 w) (same_done R _ w)
  width_goes g c k (Some Star) w =
      R.bind w (argument g k false w) (argument g k false w) _ _ (argument_goes g k false w) (λ v u. either_goes R (nat_lt greatest (nat_abs (signed v))) _ _ _ _ u (refused_goes g (k + 1) u) (same_done R _ u))

  precision_goes : (g : Printed) (c : Conv) (k : ℕ) (n : Option Count) (w : World) → R.Rel w (precision_of g c k n w) (precision_of g c k n w)
  precision_goes g c k None w = same_done R _ w
  precision_goes g c k (Some (Fixed n)) w = either_goes R (nat_lt greatest n) _ _ _ _ w (refused_goes g 1 w) (same_done R _ w)
  precision_goes g c k (Some Star) w =
      R.bind w (argument g k false w) (argument g k false w) _ _ (argument_goes g k false w) (λ v u. either_goes R (int_lt (pos greatest) (signed v)) _ _ _ _ u (refused_goes g (k + 1) u) (same_done R _ u))

  counts_go : (g : Printed) (c : Conv) (k : ℕ) (w : World) → R.Rel w (counts_of g c k w) (counts_of g c k w)
  counts_go g c k w =
      R.bind w (width_of g c k c.width w) (width_of g c k c.width w) _ _ (width_goes g c k c.width w) (λ f u. precision_goes g f.conv f.used f.conv.precision u)

  precise_goes : (n : Option Count) (p : Value) (w : World) → R.Rel w (text_of n p w) (text_of n p w)
  precise_goes None p w = text_goes p w
  precise_goes (Some (Fixed n)) p w = upto_goes n p 0 w
  precise_goes (Some Star) p w = text_goes p w

  conversion_goes : (g : Printed) (c : Conv) (k : ℕ) (w : World) → R.Rel w (conversion_text g c k w) (conversion_text g c k w)
  conversion_goes g c k w =
      either_goes R (c.kind == 37) _ _ _ _ w (same_done R _ w)
      (either_goes R (c.kind == 99) _ _ _ _ w (R.bind w (argument g k false w) (argument g k false w) _ _ (argument_goes g k false w) (λ v u. same_done R _ u))
      (either_goes R (c.kind == 115) _ _ _ _ w
      (R.bind w (argument g k true w) (argument g k true w) _ _ (argument_goes g k true w) (λ p u. R.bind u (text_of c.precision p u) (text_of c.precision p u) _ _ (precise_goes c.precision p u) (λ bs v. same_done R _ v)))
      (R.bind w (argument g k false w) (argument g k false w) _ _ (argument_goes g k false w) (λ v u. same_done R _ u))))

  converted_goes : (g : Printed) (c : Conv) (k : ℕ) (w : World) → R.Rel w (converted g c k w) (converted g c k w)
  converted_goes g c k w = R.bind w (counts_of g c k w) (counts_of g c k w) _ _ (counts_go g c k w) (λ f u. conversion_goes g f.conv f.used u)

  piece_goes : (g : Printed) (k : ℕ) (rest : List ℕ) (later : ℕ → List ℕ → World → Outcome (List ℕ)) (x : Piece) (w : World) → ((n : ℕ) (bs : List ℕ) (u : World) → R.Rel u (later n bs u) (later n bs u)) → R.Rel w (piece_text g k rest later x w) (piece_text g k rest later x w)
  piece_goes g k rest later (piece.Text n) w q = R.bind w (later k (drop n rest) w) (later k (drop n rest) w) _ _ (q k (drop n rest) w) (λ more u. same_done R _ u)
  piece_goes g k rest later (piece.Conv c n) w q =
      R.bind w (converted g c k w) (converted g c k w) _ _ (converted_goes g c k w) (λ t u. R.bind u (later t.used (drop n rest) u) (later t.used (drop n rest) u) _ _ (q t.used (drop n rest) u) (λ more v. same_done R _ v))
  piece_goes g k rest later piece.End w q = same_done R [] w
  piece_goes g k rest later piece.Wrong w q = refused_goes g 1 w

  formatted_goes : (n : ℕ) (g : Printed) (k : ℕ) (rest : List ℕ) (w : World) → R.Rel w (formatted n g k rest w) (formatted n g k rest w)
  formatted_goes zero g k rest w = same_done R [] w
  formatted_goes (suc n) g k rest w = piece_goes g k rest (formatted n g) (piece_of rest) w (formatted_goes n g)

module _ (R : Relation) (h k : History) (H : Histories R h k) where
  pub shown_goes : (bs : List ℕ) (w : World) → R.Rel w (shown h bs w) (shown k bs w)
  shown_goes [] w = same_done R tt w
  shown_goes (b ∷ bs) w =
      R.bind w (happened h (Out b) (tick w)) (happened k (Out b) (tick w)) _ _ (after_one R (Work 1) w _ _ (H.happens (Out b) (tick w))) (λ x u. shown_goes bs u)

  pub printf_goes : (key : Key) (vs : List Value) (w : World) → R.Rel w (printf h key vs w) (printf k key vs w)
  printf_goes key vs w =
      let g : Printed = record { key = key; args = vs } in
      R.bind w (text_at (value_at vs 0) w) (text_at (value_at vs 0) w) _ _ (text_goes R (value_at vs 0) w) (λ format u.
      R.bind u (formatted (length format + 1) g 1 format u) (formatted (length format + 1) g 1 format u) _ _ (formatted_goes R (length format + 1) g 1 format u) (λ bs v.
      R.bind v (shown h bs v) (shown k bs v) _ _ (shown_goes bs v) (λ x y. gives_goes R _ y)))
