-- Inside: plumbing, a representation, an invariant or a promise beside the claim (docs/TRUST.md).
-- Placed texts in the order of their addresses.
use Rattle.std.specs.Prelude.{◌≡◌, ℕ, ◌+◌, ◌-◌, ◌*◌, ◌/◌, ◌%◌, ◌==◌, ◌&&◌, ◌<◌, ◌≤◌, Bool, false, nat_lt, nat_le, if◌then◌else◌, List, length, slice_get, slice_set, find, Option, None, Some}
use Rattle.std.specs.Option.{option_map}
use Rattle.sc_isa_image.specs.declared.text.Text.{Text}
use Rattle.sc_isa_image.specs.declared.text.TextAt.{TextAt}

-- the texts, and how many more can be put without memory
pub record Table : Type 0 where
  pub texts : List Text
  pub room : ℕ

-- the address behind a text's last byte
abbrev pub end_of : Text → ℕ
end_of t = t.at.start + 4 * length t.words

-- a byte of the text is at this address
abbrev pub holds : ℕ → Text → Bool
holds pc t = nat_le t.at.start pc && nat_lt pc (end_of t)

-- the text that holds an address
abbrev pub text_holding : List Text → ℕ → Option Text
text_holding texts pc = find (holds pc) texts

-- a range begins and ends before another one begins
abbrev pub Before : ℕ → ℕ → ℕ → Type 0
Before start end other = (start < other) × (end ≤ other)

-- each text has words, and begins and ends before the next one begins
pub record IsOrdered (texts : List Text) : Type 0 where
  pub some : (i : ℕ) (t : Text) → slice_get texts i ≡ Some t → 0 < length t.words
  pub pairs : (i j : ℕ) (t u : Text) → slice_get texts i ≡ Some t → slice_get texts j ≡ Some u → i < j → Before t.at.start (end_of t) u.at.start

-- no text holds an address of the range
abbrev pub IsFree : List Text → ℕ → ℕ → Type 0
IsFree texts start end = (pc : ℕ) → start ≤ pc → pc < end → text_holding texts pc ≡ None

-- the word at an address of a text, at each fourth byte from its start on
abbrev pub word_in : ℕ → Text → Option ℕ
word_in pc t = if (pc - t.at.start) % 4 == 0 then slice_get t.words ((pc - t.at.start) / 4) else None

abbrev pub word_in_found : ℕ → Option Text → Option ℕ
word_in_found pc None = None
word_in_found pc (Some t) = word_in pc t

-- the word at an address
abbrev pub text_word : List Text → ℕ → Option ℕ
text_word texts pc = word_in_found pc (text_holding texts pc)

-- what was found, without its words
abbrev pub place_of : Option Text → Option TextAt
place_of found = option_map (λ t. t.at) found

-- how many words has what was found
abbrev pub count_of : Option Text → ℕ
count_of None = 0
count_of (Some t) = length t.words

-- what was found, but for the text that begins there
abbrev pub without : ℕ → Option Text → Option Text
without start None = None
without start (Some t) = if t.at.start == start then None else Some t

-- the text with another word at an address
abbrev pub with_word : Text → ℕ → ℕ → Text
with_word t pc word = record { at = t.at; words = slice_set t.words ((pc - t.at.start) / 4) word }

abbrev pub text_with : TextAt → List ℕ → Text
text_with at words = record { at = at; words = words }

-- what was found begins there
abbrev pub starts_at : ℕ → Option TextAt → Bool
starts_at start None = false
starts_at start (Some t) = t.start == start
