-- Yardstick: to be compared with what it restates (docs/TRUST.md).
-- The notes of a run's record. Bytes that were all put with one value are one entry and many notes.
use Rattle.std.specs.Prelude.{ℕ, zero, suc, ◌+◌, ◌-◌, ◌*◌, ◌/◌, ◌%◌, ◌^◌, ◌++◌, ◌∷◌, [], List, min}
use Rattle.sc_base.specs.declared.memory.Word.{Word}
use Rattle.sc_base.specs.declared.note.Note.{Note}
use Rattle.sc_base.specs.declared.note.Note.TheVariants.{Put}
use Rattle.sc_interp_world.specs.declared.recorder.Entry.{Entry}
use Rattle.sc_interp_world.specs.declared.recorder.Entry.TheVariants.{One, Fill}

-- a number of stores of one size and one value, one behind the other
abbrev pub puts : ℕ → ℕ → ℕ → Word → List Note
puts at size zero word = []
puts at size (suc n) word = Put at size word ∷ puts ((at + size) % 2 ^ 32) size n word

-- how many bytes stand in front of the first multiple of four
abbrev pub ragged : ℕ → ℕ → ℕ
ragged at count = min ((4 - at % 4) % 4) count

-- bytes up to a multiple of four, then four at once, then the last bytes
abbrev pub filled : ℕ → ℕ → ℕ → List Note
filled at count byte =
    let head = ragged at count in
    let words = (count - head) / 4 in
    puts at 1 head (record { bits = byte; tag = 0 })
    ++ (puts ((at + head) % 2 ^ 32) 4 words (record { bits = byte * 16843009; tag = 0 })
    ++ puts ((at + head + 4 * words) % 2 ^ 32) 1 ((count - head) % 4) (record { bits = byte; tag = 0 }))

abbrev pub spread : Entry → List Note
spread (One n) = n ∷ []
spread (Fill at count byte) = filled at count byte

-- the notes of all these entries, in order
abbrev pub notes_of : List Entry → List Note
notes_of [] = []
notes_of (e ∷ es) = spread e ++ notes_of es
