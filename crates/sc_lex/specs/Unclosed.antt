-- Inside: plumbing, a representation, an invariant or a promise beside the claim (docs/TRUST.md).
-- Quotes of which it is known that no literal begins with them.
use Rattle.std.specs.Prelude.{ℕ, ◌+◌, ◌<◌, ◌≡◌, List, length, drop, slice_index, None}
use Rattle.sc_lex.specs.declared.mark.Mark.{Mark}
use Rattle.sc_lex.specs.declared.unclosed.Unclosed.{Unclosed}
use Rattle.sc_lex.specs.Pieces.{bytes_of, longest}

-- no token begins with this quote where more than this number of bytes are left
abbrev pub AreUnclosed : ℕ → ℕ → List Mark → Type 0
AreUnclosed quote most marks = (n : ℕ) → most + n < length marks → slice_index (bytes_of marks) n ≡ quote → longest (drop n (bytes_of marks)) ≡ None

abbrev pub Holds : Unclosed → List Mark → Type 0
Holds u marks = AreUnclosed 34 u.strings marks × AreUnclosed 39 u.chars marks
