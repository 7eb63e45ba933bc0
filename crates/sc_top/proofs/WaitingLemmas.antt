-- Bytes on their way to a sink, by way of those that wait.
use Rattle.std.proofs.Common.{ℕ, List, [], ◌++◌, refl, ap, sym, ◌∙◌, append_assoc, subst, Option, Some, None}
use Rattle.std.proofs.lemmas.List.{append-nil}
use Rattle.std.specs.Io.KnownBytes.{Appends}
use Rattle.sc_outside.specs.Streams.{AppendsSome, Writes}
use Rattle.sc_outside.specs.declared.sink.Sent.{Sent}
use Rattle.sc_outside.specs.declared.sink.Sent.TheVariants as sent
use Rattle.sc_top.specs.Waiting.{IsOnItsWay, IsPartlyOnItsWay, Posts}

pub appends_none : (known : Option (List ℕ)) → Appends known known []
appends_none None = tt
appends_none (Some bytes) = sym (append-nil bytes)

pub appends_more : (a b c : Option (List ℕ)) (xs ys : List ℕ) → Appends a b xs → Appends b c ys → Appends a c (xs ++ ys)
appends_more None b c xs ys p q = tt
appends_more (Some a) None c xs ys p q = absurd p
appends_more (Some a) (Some b) None xs ys p q = absurd q
appends_more (Some a) (Some b) (Some c) xs ys p q = q ∙ ap (λ r. r ++ ys) p ∙ append_assoc a xs ys

-- nothing was written yet
pub waits_all : (known : Option (List ℕ)) (waiting : List ℕ) → IsOnItsWay known known waiting waiting
waits_all known waiting = ([], refl, appends_none known)

pub partly : (old new : Option (List ℕ)) (waiting text : List ℕ) → IsOnItsWay old new waiting text → IsPartlyOnItsWay old new waiting text
partly old new waiting text (front, whole, gains) = (front, [], whole ∙ sym (append-nil (front ++ waiting)), gains)

-- all that waited was written
all_written : (old new : Option (List ℕ)) (text : List ℕ) → Appends old new text → IsOnItsWay old new [] text
all_written old new text gains = (text, sym (append-nil text), gains)

some_written : (old new : Option (List ℕ)) (text : List ℕ) → AppendsSome old new text → IsPartlyOnItsWay old new [] text
some_written old new text (front, rest, whole, gains) = (front, rest, whole ∙ ap (λ r. r ++ rest) (sym (append-nil front)), gains)

-- A write that stopped short of what waits did not come to the text behind it.
pub partly_more : (old new : Option (List ℕ)) (waiting text more : List ℕ) → IsPartlyOnItsWay old new waiting text → IsPartlyOnItsWay old new waiting (text ++ more)
partly_more old new waiting text more (front, rest, whole, gains) =
    (front, rest ++ more, ap (λ r. r ++ more) whole ∙ append_assoc (front ++ waiting) rest more, gains)

pub posts-writes : (result : Sent) (old new : Option (List ℕ)) (text : List ℕ) → Writes old new result text → Posts old new [] result text
posts-writes sent.Done old new text gains = all_written old new text gains
posts-writes sent.Failed old new text gains = some_written old new text gains
posts-writes sent.NoMemory old new text gains = some_written old new text gains

-- what waited was written, as far as the write came, and nothing of the text behind it
pub partly-writes : (result : Sent) (old new : Option (List ℕ)) (text more : List ℕ) → Writes old new result text → IsPartlyOnItsWay old new [] (text ++ more)
partly-writes sent.Done old new text more gains = (text, more, ap (λ r. r ++ more) (sym (append-nil text)), gains)
partly-writes sent.Failed old new text more gains = partly_more old new [] text more (some_written old new text gains)
partly-writes sent.NoMemory old new text more gains = partly_more old new [] text more (some_written old new text gains)

some_through : (old mid new : Option (List ℕ)) (waiting text : List ℕ) → Appends old mid waiting → AppendsSome mid new text → AppendsSome old new (waiting ++ text)
some_through old mid new waiting text p (front, rest, whole, q) =
    (waiting ++ front, rest, ap (λ r. waiting ++ r) whole ∙ sym (append_assoc waiting front rest), appends_more old mid new waiting front p q)

-- what waited was written, and then this text
pub posts-through : (result : Sent) (old mid new : Option (List ℕ)) (waiting text : List ℕ) → Appends old mid waiting → Writes mid new result text → Posts old new [] result (waiting ++ text)
posts-through sent.Done old mid new waiting text p q = all_written old new (waiting ++ text) (appends_more old mid new waiting text p q)
posts-through sent.Failed old mid new waiting text p q = some_written old new (waiting ++ text) (some_through old mid new waiting text p q)
posts-through sent.NoMemory old mid new waiting text p q = some_written old new (waiting ++ text) (some_through old mid new waiting text p q)

-- a text on its way, and a further one behind what waits
pub behind : (old new : Option (List ℕ)) (waiting text more : List ℕ) → IsOnItsWay old new waiting text → IsOnItsWay old new (waiting ++ more) (text ++ more)
behind old new waiting text more (front, whole, gains) = (front, ap (λ r. r ++ more) whole ∙ append_assoc front waiting more, gains)

-- what waited is itself on its way
pub on_its_way : (old mid new : Option (List ℕ)) (waited waiting text : List ℕ) → IsOnItsWay old mid waited text → IsOnItsWay mid new waiting waited → IsOnItsWay old new waiting text
on_its_way old mid new waited waiting text (front, whole, p) (next, rest, q) =
    (front ++ next, whole ∙ ap (λ r. front ++ r) rest ∙ sym (append_assoc front next waiting), appends_more old mid new front next p q)

pub partly_on_its_way : (old mid new : Option (List ℕ)) (waited waiting text : List ℕ) → IsOnItsWay old mid waited text → IsPartlyOnItsWay mid new waiting waited → IsPartlyOnItsWay old new waiting text
partly_on_its_way old mid new waited waiting text (front, whole, p) (next, lost, rest, q) = (
  front ++ next,
  lost,
  whole ∙ ap (λ r. front ++ r) rest ∙ sym (append_assoc front (next ++ waiting) lost) ∙ ap (λ r. r ++ lost) (sym (append_assoc front next waiting)),
  appends_more old mid new front next p q,
)

-- a text on its way, once what waits is written
pub writes_rest : (old mid new : Option (List ℕ)) (waiting text : List ℕ) → IsOnItsWay old mid waiting text → Appends mid new waiting → Appends old new text
writes_rest old mid new waiting text (front, whole, p) q = subst (λ r. Appends old new r) (sym whole) (appends_more old mid new front waiting p q)

pub writes_part : (old mid new : Option (List ℕ)) (waiting text : List ℕ) → IsPartlyOnItsWay old mid waiting text → Appends mid new waiting → AppendsSome old new text
writes_part old mid new waiting text (front, rest, whole, p) q = (front ++ waiting, rest, whole, appends_more old mid new front waiting p q)

-- a text of which a part is on its way, where a part of what waits is written
pub writes_some : (old mid new : Option (List ℕ)) (waiting text : List ℕ) → IsPartlyOnItsWay old mid waiting text → AppendsSome mid new waiting → AppendsSome old new text
writes_some old mid new waiting text (front, rest, whole, p) (next, lost, split, q) = (
  front ++ next,
  lost ++ rest,
  whole ∙ ap (λ r. front ++ r ++ rest) split ∙ ap (λ r. r ++ rest) (sym (append_assoc front next lost)) ∙ append_assoc (front ++ next) lost rest,
  appends_more old mid new front next p q,
)
