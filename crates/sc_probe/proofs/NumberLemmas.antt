-- A number of notes grows by one at most with each note.
use Rattle.std.proofs.Common.{◌≡◌, ℕ, ◌+◌, Bool, true, false, cond, List, [], ◌∷◌, ◌++◌, ap, ◌∙◌, count_by, min, arith}
use Rattle.std.specs.Prelude.{if◌then◌else◌}
use Rattle.std.proofs.lemmas.List.Sums.{sum_by_push}
use Rattle.sc_base.specs.declared.note.Note.{Note}
use Rattle.sc_probe.specs.Numbers.{within_64_bits, number_of, one_more_if}
use Rattle.sc_probe.specs.Counted.{counts_of, counted, has_kind}

-- one more of a number that stays at m
one_more : (m n : ℕ) (b : Bool) → min (n + cond b 1 0) m ≡ (if b then min (min n m + 1) m else min n m)
one_more m n true = omega arith
one_more m n false = omega arith

pub number_of-push : (test : Note → Bool) (notes : List Note) (n : Note) → number_of test (notes ++ n ∷ []) ≡ one_more_if (test n) (number_of test notes)
number_of-push test notes n = ap within_64_bits (sum_by_push (λ x. cond (test x) 1 0) notes n) ∙ one_more 18446744073709551615 (count_by test notes) (test n)

pub counts_of-push : (notes : List Note) (n : Note) → counts_of (notes ++ n ∷ []) ≡ counted n (counts_of notes)
counts_of-push notes n = λ t. record {
  start = number_of-push (has_kind 0) notes n t;
  call = number_of-push (has_kind 1) notes n t;
  back = number_of-push (has_kind 2) notes n t;
  enter = number_of-push (has_kind 3) notes n t;
  leave = number_of-push (has_kind 4) notes n t;
  at = number_of-push (has_kind 5) notes n t;
  exec = number_of-push (has_kind 6) notes n t;
  put = number_of-push (has_kind 7) notes n t;
  birth = number_of-push (has_kind 8) notes n t;
  death = number_of-push (has_kind 9) notes n t;
  copy = number_of-push (has_kind 10) notes n t;
  setreg = number_of-push (has_kind 11) notes n t;
  tag = number_of-push (has_kind 12) notes n t;
  lib = number_of-push (has_kind 13) notes n t;
}
