-- What library functions share, and `printf`, give the same in worlds that are alike.
use Rattle.std.proofs.Common.{◌≡◌, ℕ, zero, suc, ◌+◌, ◌==◌, Bool, true, false, not, nat_lt, List, [], ◌∷◌, length, drop, slice_get, Option, Some, None, nat_abs, int_lt, pos, refl, ap, subst}
use Rattle.sc_base.specs.declared.key.Key.{Key}
use Rattle.sc_base.specs.declared.memory.Kind.TheVariants.{Heap}
use Rattle.sc_base.specs.declared.report.Rule.TheVariants.{U16, U18}
use Rattle.sc_fmt.specs.declared.conversion.Conv.{Conv}
use Rattle.sc_fmt.specs.declared.conversion.Count.{Count}
use Rattle.sc_fmt.specs.declared.conversion.Count.TheVariants.{Fixed, Star}
use Rattle.sc_fmt.specs.declared.conversion.Piece.{Piece}
use Rattle.sc_fmt.specs.declared.conversion.Piece.TheVariants as piece
use Rattle.sc_fmt.specs.Format.{piece_of}
use Rattle.sc_meaning.specs.Values.{Value, Number, FunctionAt, Pointer, number_of_cells}
use Rattle.sc_meaning.specs.World.{World, pass, Work, Out, Give, TakeFree, TakeNew, Death, tick, free_of}
use Rattle.sc_meaning.specs.declared.spot.Spot.TheVariants.{Block}
use Rattle.sc_meaning.specs.Outcomes.{Outcome, Breach}
use Rattle.sc_meaning.specs.Violations.{load_rule, store_rule, free_rule, is_overlapping, cells_read}
use Rattle.sc_meaning.specs.Versions.{History}
use Rattle.sc_meaning.specs.Changes.{born, happened}
use Rattle.sc_meaning.specs.Expressions.{Plain}
use Rattle.sc_meaning.specs.Classes.{class_of, block_size}
use Rattle.sc_meaning.specs.Library.{gives, value_at, argument_breach, out_of_range, byte_read, text_upto, past, text_at, writable, bytes_set, bytes_written, apart, shown, allocated, taken, given, given_back, block_size_at, block_tested}
use Rattle.sc_meaning.specs.Printf.{Printed, argument_in, argument, is_wrong, refused, greatest, signed, width_of, precision_of, counts_of, text_of, conversion_text, converted, piece_text, formatted, printf}
use Rattle.sc_like.proofs.Pairs.{Pairs, Histories, read, objects_same, breach_same, access_same, same_done, done_as, stops, unless_goes, either_goes, either_as}
use Rattle.sc_like.proofs.Leaves.{born_goes, set_alike}

module _ (P : Pairs) where
  pub past_same : (p : Value) (w w' : World) → P.L w w' → past w p ≡ past w' p
  past_same p w w' l = read P (λ u. past u p) (λ u. refl) w w' l

  pub size_same : (p : Value) (w w' : World) → P.L w w' → block_size_at w p ≡ block_size_at w' p
  size_same p w w' l = read P (λ u. block_size_at u p) (λ u. refl) w w' l

  pub argument_same : (key : Key) (vs : List Value) (i : ℕ) (w w' : World) → P.L w w' → argument_breach key vs i w ≡ argument_breach key vs i w'
  argument_same key vs i w w' l = ap (λ (b : Breach). record b { left = (argument_breach key vs i w).left; right = Number (length vs); name = Some key; argument = i }) (breach_same P U16 w w' l)

  pub set_all_alike : (p : Value) (i : ℕ) (bs : List ℕ) (w w' : World) → P.L w w' → P.L (bytes_set p i bs w) (bytes_set p i bs w')
  set_all_alike p i [] w w' l = l
  set_all_alike p i (b ∷ bs) w w' l = set_all_alike p (i + 1) bs _ _ (P.passes (Work 1) _ _ (set_alike P p i 1 (Number b) w w' l))

  given_alike : (p : Value) (size : ℕ) (w w' : World) → P.L w w' → P.L (given p size w) (given p size w')
  given_alike (Number n) size w w' l = l
  given_alike (FunctionAt k) size w w' l = l
  given_alike (Pointer o i) size w w' l = P.passes (Give (class_of size)) _ _ (P.passes (Death o) w w' l)

  pub back_alike : (p : Value) (w w' : World) → P.L w w' → P.L (given_back p w) (given_back p w')
  back_alike p w w' l = subst (λ n. P.L (given_back p w) (given p n w')) (size_same p w w' l) (given_alike p (block_size_at w p) w w' l)

  pub gives_goes : (v : Value) (w w' : World) → P.L w w' → P.Rel (gives v w) (gives v w')
  gives_goes v w w' l = same_done P (Plain v) w w' l

  pub range_goes : {A : Type 0} (key : Key) (vs : List Value) (i : ℕ) (w w' : World) → P.L w w' → P.Rel {A = A} (out_of_range key vs i w) (out_of_range key vs i w')
  range_goes key vs i w w' l = stops P _ _ w w' (argument_same key vs i w w' l) l

  pub byte_goes : (p : Value) (i : ℕ) (w w' : World) → P.L w w' → P.Rel (byte_read p i w) (byte_read p i w')
  byte_goes p i w w' l =
      let o : w.objects ≡ w'.objects = objects_same P w w' l in
      unless_goes P (load_rule w.objects p i 1 false) (load_rule w'.objects p i 1 false) _ _ _ _ w w' (ap (λ os. load_rule os p i 1 false) o) (access_same P p i 1 w w' l) l
      (done_as P _ _ (tick w) (tick w') (ap (λ os. number_of_cells (cells_read os p i 1)) o) (P.passes (Work 1) w w' l))

  pub upto_goes : (n : ℕ) (p : Value) (i : ℕ) (w w' : World) → P.L w w' → P.Rel (text_upto n p i w) (text_upto n p i w')
  upto_goes zero p i w w' l = same_done P [] w w' l
  upto_goes (suc n) p i w w' l =
      P.bind (byte_read p i w) (byte_read p i w') _ _ (byte_goes p i w w' l) (λ b u u' m.
      either_goes P (b == 0) _ _ _ _ u u' (same_done P [] u u' m) (P.bind (text_upto n p (i + 1) u) (text_upto n p (i + 1) u') _ _ (upto_goes n p (i + 1) u u' m) (λ bs v v' o. same_done P (b ∷ bs) v v' o)))

  pub text_goes : (p : Value) (w w' : World) → P.L w w' → P.Rel (text_at p w) (text_at p w')
  text_goes p w w' l = subst (λ n. P.Rel (text_at p w) (text_upto n p 0 w')) (past_same p w w' l) (upto_goes (past w p) p 0 w w' l)

  writable_goes : (n : ℕ) (p : Value) (i : ℕ) (w w' : World) → P.L w w' → P.Rel (writable n p i w) (writable n p i w')
  writable_goes zero p i w w' l = same_done P tt w w' l
  writable_goes (suc n) p i w w' l = unless_goes P (store_rule w.objects p i 1) (store_rule w'.objects p i 1) _ _ _ _ w w' (ap (λ os. store_rule os p i 1) (objects_same P w w' l)) (access_same P p i 1 w w' l) l (writable_goes n p (i + 1) w w' l)

  pub written_goes : (p : Value) (i : ℕ) (bs : List ℕ) (w w' : World) → P.L w w' → P.Rel (bytes_written p i bs w) (bytes_written p i bs w')
  written_goes p i bs w w' l =
      P.bind (writable (length bs) p i w) (writable (length bs) p i w') _ _ (writable_goes (length bs) p i w w' l) (λ x u u' m. P.done tt (bytes_set p i bs u) (bytes_set p i bs u') (set_all_alike p i bs u u' m))

  pub apart_goes : (to : Value) (n : ℕ) (from : Value) (m : ℕ) (w w' : World) → P.L w w' → P.Rel (apart to n from m w) (apart to n from m w')
  apart_goes to n from m w w' l = either_goes P (is_overlapping to n from m) _ _ _ _ w w' (stops P _ _ w w' (ap (λ (b : Breach). record b { at = to; size = n; left = from }) (breach_same P U18 w w' l)) l) (same_done P tt w w' l)

  allocated_goes : (n : ℕ) (w w' : World) → P.L w w' → P.Rel (allocated n w) (allocated n w')
  allocated_goes n w w' l = P.bind (born n Heap Block w) (born n Heap Block w') _ _ (born_goes P n Heap Block w w' l) (λ o u u' m. same_done P (Some o) u u' m)

  pub taken_goes : (n : ℕ) (w w' : World) → P.L w w' → P.Rel (taken n w) (taken n w')
  taken_goes n w w' l =
      either_as P _ _ _ _ _ _ w w' (read P (λ u. not (free_of u.free (class_of n) == 0)) (λ u. refl) w w' l) (allocated_goes n (pass (TakeFree (class_of n)) w) (pass (TakeFree (class_of n)) w') (P.passes (TakeFree (class_of n)) w w' l))
      (either_as P _ _ _ _ _ _ w w' (read P (λ u. nat_lt u.heap (u.made + block_size (class_of n))) (λ u. refl) w w' l) (same_done P None w w' l) (allocated_goes n (pass (TakeNew (block_size (class_of n))) w) (pass (TakeNew (block_size (class_of n))) w') (P.passes (TakeNew (block_size (class_of n))) w w' l)))

  pub block_goes : (p : Value) (w w' : World) → P.L w w' → P.Rel (block_tested p w) (block_tested p w')
  block_goes p w w' l =
      unless_goes P (free_rule w.objects p) (free_rule w'.objects p) _ _ _ _ w w' (ap (λ os. free_rule os p) (objects_same P w w' l)) (λ r. ap (λ (b : Breach). record b { left = p }) (breach_same P r w w' l)) l (same_done P tt w w' l)

  refused_goes : {A : Type 0} (g : Printed) (i : ℕ) (w w' : World) → P.L w w' → P.Rel {A = A} (refused g i w) (refused g i w')
  refused_goes g i w w' l = stops P _ _ w w' (ap (λ (b : Breach). record b { at = value_at g.args 0 }) (argument_same g.key g.args i w w' l)) l

  in_goes : (g : Printed) (k : ℕ) (b : Bool) (v : Option Value) (w w' : World) → P.L w w' → P.Rel (argument_in g k b v w) (argument_in g k b v w')
  in_goes g k b None w w' l = refused_goes g (k + 1) w w' l
  in_goes g k b (Some v) w w' l = either_goes P (is_wrong b v) _ _ _ _ w w' (refused_goes g (k + 1) w w' l) (same_done P v w w' l)

  argument_goes : (g : Printed) (k : ℕ) (b : Bool) (w w' : World) → P.L w w' → P.Rel (argument g k b w) (argument g k b w')
  argument_goes g k b w w' l = in_goes g k b (slice_get g.args k) w w' l

  width_goes : (g : Printed) (c : Conv) (k : ℕ) (n : Option Count) (w w' : World) → P.L w w' → P.Rel (width_of g c k n w) (width_of g c k n w')
  width_goes g c k None w w' l = same_done P _ w w' l
  width_goes g c k (Some (Fixed n)) w w' l = either_goes P (nat_lt greatest n) _ _ _ _ w w' (refused_goes g 1 w w' l) (same_done P _ w w' l)
  width_goes g c k (Some Star) w w' l =
      P.bind (argument g k false w) (argument g k false w') _ _ (argument_goes g k false w w' l) (λ v u u' m. either_goes P (nat_lt greatest (nat_abs (signed v))) _ _ _ _ u u' (refused_goes g (k + 1) u u' m) (same_done P _ u u' m))

  precision_goes : (g : Printed) (c : Conv) (k : ℕ) (n : Option Count) (w w' : World) → P.L w w' → P.Rel (precision_of g c k n w) (precision_of g c k n w')
  precision_goes g c k None w w' l = same_done P _ w w' l
  precision_goes g c k (Some (Fixed n)) w w' l = either_goes P (nat_lt greatest n) _ _ _ _ w w' (refused_goes g 1 w w' l) (same_done P _ w w' l)
  precision_goes g c k (Some Star) w w' l =
      P.bind (argument g k false w) (argument g k false w') _ _ (argument_goes g k false w w' l) (λ v u u' m. either_goes P (int_lt (pos greatest) (signed v)) _ _ _ _ u u' (refused_goes g (k + 1) u u' m) (same_done P _ u u' m))

  counts_go : (g : Printed) (c : Conv) (k : ℕ) (w w' : World) → P.L w w' → P.Rel (counts_of g c k w) (counts_of g c k w')
  counts_go g c k w w' l =
      P.bind (width_of g c k c.width w) (width_of g c k c.width w') _ _ (width_goes g c k c.width w w' l) (λ f u u' m. precision_goes g f.conv f.used f.conv.precision u u' m)

  precise_goes : (n : Option Count) (p : Value) (w w' : World) → P.L w w' → P.Rel (text_of n p w) (text_of n p w')
  precise_goes None p w w' l = text_goes p w w' l
  precise_goes (Some (Fixed n)) p w w' l = upto_goes n p 0 w w' l
  precise_goes (Some Star) p w w' l = text_goes p w w' l

  conversion_goes : (g : Printed) (c : Conv) (k : ℕ) (w w' : World) → P.L w w' → P.Rel (conversion_text g c k w) (conversion_text g c k w')
  conversion_goes g c k w w' l =
      either_goes P (c.kind == 37) _ _ _ _ w w' (same_done P _ w w' l)
      (either_goes P (c.kind == 99) _ _ _ _ w w' (P.bind (argument g k false w) (argument g k false w') _ _ (argument_goes g k false w w' l) (λ v u u' m. same_done P _ u u' m))
      (either_goes P (c.kind == 115) _ _ _ _ w w'
      (P.bind (argument g k true w) (argument g k true w') _ _ (argument_goes g k true w w' l) (λ p u u' m. P.bind (text_of c.precision p u) (text_of c.precision p u') _ _ (precise_goes c.precision p u u' m) (λ bs v v' o. same_done P _ v v' o)))
      (P.bind (argument g k false w) (argument g k false w') _ _ (argument_goes g k false w w' l) (λ v u u' m. same_done P _ u u' m))))

  converted_goes : (g : Printed) (c : Conv) (k : ℕ) (w w' : World) → P.L w w' → P.Rel (converted g c k w) (converted g c k w')
  converted_goes g c k w w' l = P.bind (counts_of g c k w) (counts_of g c k w') _ _ (counts_go g c k w w' l) (λ f u u' m. conversion_goes g f.conv f.used u u' m)

  piece_goes : (g : Printed) (k : ℕ) (rest : List ℕ) (later : ℕ → List ℕ → World → Outcome (List ℕ)) (x : Piece) (w w' : World) → P.L w w' → ((n : ℕ) (bs : List ℕ) (u u' : World) → P.L u u' → P.Rel (later n bs u) (later n bs u')) → P.Rel (piece_text g k rest later x w) (piece_text g k rest later x w')
  piece_goes g k rest later (piece.Text n) w w' l q = P.bind (later k (drop n rest) w) (later k (drop n rest) w') _ _ (q k (drop n rest) w w' l) (λ more u u' m. same_done P _ u u' m)
  piece_goes g k rest later (piece.Conv c n) w w' l q =
      P.bind (converted g c k w) (converted g c k w') _ _ (converted_goes g c k w w' l) (λ t u u' m. P.bind (later t.used (drop n rest) u) (later t.used (drop n rest) u') _ _ (q t.used (drop n rest) u u' m) (λ more v v' o. same_done P _ v v' o))
  piece_goes g k rest later piece.End w w' l q = same_done P [] w w' l
  piece_goes g k rest later piece.Wrong w w' l q = refused_goes g 1 w w' l

  formatted_goes : (n : ℕ) (g : Printed) (k : ℕ) (rest : List ℕ) (w w' : World) → P.L w w' → P.Rel (formatted n g k rest w) (formatted n g k rest w')
  formatted_goes zero g k rest w w' l = same_done P [] w w' l
  formatted_goes (suc n) g k rest w w' l = piece_goes g k rest (formatted n g) (piece_of rest) w w' l (formatted_goes n g)

module _ (P : Pairs) (h k : History) (H : Histories P h k) where
  pub shown_goes : (bs : List ℕ) (w w' : World) → P.L w w' → P.Rel (shown h bs w) (shown k bs w')
  shown_goes [] w w' l = same_done P tt w w' l
  shown_goes (b ∷ bs) w w' l =
      P.bind (happened h (Out b) (tick w)) (happened k (Out b) (tick w')) _ _ (H.happens (Out b) (tick w) (tick w') (P.passes (Work 1) w w' l)) (λ x u u' m. shown_goes bs u u' m)

  pub printf_goes : (key : Key) (vs : List Value) (w w' : World) → P.L w w' → P.Rel (printf h key vs w) (printf k key vs w')
  printf_goes key vs w w' l =
      let g : Printed = record { key = key; args = vs } in
      P.bind (text_at (value_at vs 0) w) (text_at (value_at vs 0) w') _ _ (text_goes P (value_at vs 0) w w' l) (λ format u u' m.
      P.bind (formatted (length format + 1) g 1 format u) (formatted (length format + 1) g 1 format u') _ _ (formatted_goes P (length format + 1) g 1 format u u' m) (λ bs v v' n.
      P.bind (shown h bs v) (shown k bs v') _ _ (shown_goes bs v v' n) (λ x y y' o. gives_goes P _ y y' o)))
