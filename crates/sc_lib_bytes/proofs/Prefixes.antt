-- Bytes that are there already, before those that come.
use Rattle.std.proofs.Common.{◌≡◌, ℕ, List, [], ◌∷◌, ◌++◌, refl, sym, ap, append_assoc}
use Rattle.sc_meaning.specs.Outcomes.{Outcome, Done, Over, and_then}
use Rattle.sc_meaning.specs.Library.{put_before}
use Rattle.sc_lib_bytes.specs.Texts.{before}

pub put_again : (done : List ℕ) (b : ℕ) (r : Outcome (List ℕ)) → and_then (and_then r (put_before b)) (before done) ≡ and_then r (before (done ++ b ∷ []))
put_again done b (Done bs w) = ap (λ (l : List ℕ). Done l w) (sym (append_assoc done (b ∷ []) bs))
put_again done b (Over e) = refl
