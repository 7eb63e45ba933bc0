-- Yardstick: to be compared with what it restates (docs/TRUST.md).
-- What `machine` shows: the address of the next instruction and the count of those that were carried out, and the registers, four on
-- a line, each with its tag.
use Rattle.std.specs.Prelude.{ℕ, ◌+◌, List, [], ◌++◌, slice_get, Option, Some, None, codes, decimal}
use Rattle.sc_base.specs.declared.memory.Word.{Word}
use Rattle.sc_interp_world.specs.declared.recorder.Machine.{Machine}
use Rattle.sc_session_forms.specs.Halts.{hexadecimal}

abbrev pub word_or_zero : Option Word → Word
word_or_zero None = record { bits = 0; tag = 0 }
word_or_zero (Some w) = w

abbrev pub numbered : List ℕ → ℕ → List ℕ
numbered front n = front ++ decimal n

abbrev pub word_text : ℕ → Word → List ℕ
word_text r w = numbered (codes " x") r ++ codes " " ++ hexadecimal w.bits ++ numbered (codes " ") w.tag

abbrev pub register_text : List Word → ℕ → List ℕ
register_text words r = word_text r (word_or_zero (slice_get words r))

-- the four registers from one on
unfoldable pub four : List Word → ℕ → List ℕ
four words r = codes ">" ++ register_text words r ++ register_text words (r + 1) ++ register_text words (r + 2) ++ register_text words (r + 3) ++ codes "\n"

abbrev pub first_line : ℕ → ℕ → List ℕ
first_line pc executed = codes "> pc " ++ hexadecimal pc ++ numbered (codes " exec ") executed ++ codes "\n"

abbrev pub lower : List Word → List ℕ
lower words = four words 0 ++ four words 4 ++ four words 8 ++ four words 12

abbrev pub upper : List Word → List ℕ
upper words = four words 16 ++ four words 20 ++ four words 24 ++ four words 28

abbrev pub machine_lines : Machine → List ℕ
machine_lines m = first_line m.pc m.executed ++ lower m.words ++ upper m.words
