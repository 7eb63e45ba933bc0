-- Bytes on their way to a sink.
use Rattle.std.proofs.Common.{◌≡◌, ◌≤◌, ℕ, ◌+◌, List, [], ◌++◌, length, length-append, refl, ap, sym, subst, ◌∙◌, arith, append_assoc, Option, Some, None}
use Rattle.std.specs.Prelude.{drop}
use Rattle.std.proofs.lemmas.List.{append-nil, drop-append-le}
use Rattle.std.proofs.Math.Seq.{drop-length}
use Rattle.std.specs.Io.KnownBytes.{Appends}
use Rattle.sc_outside.specs.Streams.{AppendsSome}
use Rattle.sc_world.specs.Posts.{Posted, PostedSome}

pub appends_none : (known : Option (List ℕ)) → Appends known known []
appends_none None = tt
appends_none (Some bytes) = sym (append-nil bytes)

appends_more : (a b c : Option (List ℕ)) (xs ys : List ℕ) → Appends a b xs → Appends b c ys → Appends a c (xs ++ ys)
appends_more None b c xs ys p q = tt
appends_more (Some a) None c xs ys p q = absurd p
appends_more (Some a) (Some b) None xs ys p q = absurd q
appends_more (Some a) (Some b) (Some c) xs ys p q = q ∙ ap (λ r. r ++ ys) p ∙ append_assoc a xs ys

-- nothing was posted yet
pub posted_none : (known : Option (List ℕ)) (at : ℕ) (bytes : List ℕ) → at ≤ length bytes → Posted known known at at bytes
posted_none known at bytes le = record { front = []; gains = appends_none known; whole = refl; order = omega arith; inside = le }

further : (n : ℕ) (bytes more : List ℕ) → n ≤ length bytes → n ≤ length (bytes ++ more)
further n bytes more le = let e : length (bytes ++ more) ≡ length bytes + length more = length-append bytes more in omega (arith, e, le)

-- the bytes grow behind what was posted
pub posted_grows : (old new : Option (List ℕ)) (from to : ℕ) (bytes more : List ℕ) → Posted old new from to bytes → Posted old new from to (bytes ++ more)
posted_grows old new from to bytes more p =
    let order : from ≤ to = p.order in
    let inside : to ≤ length bytes = p.inside in
    record {
      front = p.front;
      gains = p.gains;
      whole =
          drop-append-le from bytes more (omega (arith, order, inside)) ∙ ap (λ r. r ++ more) p.whole
          ∙ append_assoc p.front (drop to bytes) more ∙ ap (λ r. p.front ++ r) (sym (drop-append-le to bytes more inside));
      order = order;
      inside = further to bytes more inside;
    }

pub some_grows : (old new : Option (List ℕ)) (from : ℕ) (bytes more : List ℕ) → from ≤ length bytes → PostedSome old new from bytes → PostedSome old new from (bytes ++ more)
some_grows old new from bytes more le (front, rest, whole, gains) =
    (front, rest ++ more, drop-append-le from bytes more le ∙ ap (λ r. r ++ more) whole ∙ append_assoc front rest more, gains)

-- what was posted is some of it
pub posted_some : (old new : Option (List ℕ)) (from to : ℕ) (bytes : List ℕ) → Posted old new from to bytes → PostedSome old new from bytes
posted_some old new from to bytes p = (p.front, drop to bytes, p.whole, p.gains)

-- all that waited was written
posted_all : (first old new : Option (List ℕ)) (from to : ℕ) (bytes : List ℕ) → Posted first old from to bytes → Appends old new (drop to bytes) → Posted first new from (length bytes) bytes
posted_all first old new from to bytes p gains =
    let order : from ≤ to = p.order in
    let inside : to ≤ length bytes = p.inside in
    record {
      front = p.front ++ drop to bytes;
      gains = appends_more first old new p.front (drop to bytes) p.gains gains;
      whole = p.whole ∙ sym (append-nil (p.front ++ drop to bytes)) ∙ ap (λ r. (p.front ++ drop to bytes) ++ r) (sym (drop-length bytes));
      order = omega (arith, order, inside);
      inside = omega arith;
    }

-- or some of it
posted_part : (first old new : Option (List ℕ)) (from to : ℕ) (bytes : List ℕ) → Posted first old from to bytes → AppendsSome old new (drop to bytes) → PostedSome first new from bytes
posted_part first old new from to bytes p (front, rest, whole, gains) = (
  p.front ++ front,
  rest,
  p.whole ∙ ap (λ r. p.front ++ r) whole ∙ sym (append_assoc p.front front rest),
  appends_more first old new p.front front p.gains gains,
)

pub writes_done : (first old new : Option (List ℕ)) (from to : ℕ) (bytes waiting : List ℕ) → waiting ≡ drop to bytes → Posted first old from to bytes → Appends old new waiting → Posted first new from (length bytes) bytes
writes_done first old new from to bytes waiting is p gains = posted_all first old new from to bytes p (subst (Appends old new) is gains)

pub writes_some : (first old new : Option (List ℕ)) (from to : ℕ) (bytes waiting : List ℕ) → waiting ≡ drop to bytes → Posted first old from to bytes → AppendsSome old new waiting → PostedSome first new from bytes
writes_some first old new from to bytes waiting is p gains = posted_part first old new from to bytes p (subst (AppendsSome old new) is gains)
