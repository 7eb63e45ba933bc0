-- Bytes that are there already, before those that come.
use Rattle.std.proofs.Common.{◌≡◌, ℕ, List, ◌++◌, refl, sym, ap, append_assoc}
use Rattle.sc_meaning.specs.Outcomes.{Outcome, Done, Over, and_then}
use Rattle.sc_meaning.specs.Printf.{put_in_front}
use Rattle.sc_lib_bytes.specs.Texts.{before}

pub in_front_again : (done bs : List ℕ) (r : Outcome (List ℕ)) → and_then (and_then r (put_in_front bs)) (before done) ≡ and_then r (before (done ++ bs))
in_front_again done bs (Done more w) = ap (λ (l : List ℕ). Done l w) (sym (append_assoc done bs more))
in_front_again done bs (Over e) = refl
