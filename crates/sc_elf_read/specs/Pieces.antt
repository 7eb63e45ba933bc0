-- Machine: the program once more; a theorem ties it to a yardstick (docs/TRUST.md).
-- What a reading takes from the front of the bytes: the sections of a file, without their names.
use Rattle.std.specs.Prelude.{ℕ, zero, suc, ◌+◌, ◌-◌, ◌%◌, ◌==◌, if◌then◌else◌, not, Bool, List, [], ◌∷◌, take, drop}
use Rattle.std.specs.List.{prefix_len}
use Rattle.sc_object.specs.Reading.{word_at}
use Rattle.sc_elf_read.specs.declared.piece.Piece.{Piece}

-- NOBITS has no bytes in the file
abbrev pub held_by : ℕ → ℕ → ℕ
held_by kind size = if kind == 8 then 0 else size

-- up to the next multiple of 4
abbrev pub filled : ℕ → ℕ
filled n = n + (4 - n % 4) % 4

-- the section with the header at the front of the headers, whose contents stand at the front of the contents
abbrev pub piece_in : List ℕ → List ℕ → Piece
piece_in headers contents = record {
  kind = word_at headers 4;
  flags = word_at headers 8;
  bytes = take (held_by (word_at headers 4) (word_at headers 20)) contents;
  size = word_at headers 20;
  info = word_at headers 28;
}

abbrev pub behind_piece : Piece → List ℕ → List ℕ
behind_piece p contents = drop (filled (held_by p.kind p.size)) contents

-- so many sections
abbrev pub pieces_in : ℕ → List ℕ → List ℕ → List Piece
pieces_in zero headers contents = []
pieces_in (suc n) headers contents =
    piece_in headers contents ∷ pieces_in n (drop 40 headers) (behind_piece (piece_in headers contents) contents)

abbrev pub is_set : ℕ → Bool
is_set b = not (b == 0)

-- how many bytes stand before the first zero byte
abbrev pub text_len : List ℕ → ℕ
text_len bytes = prefix_len is_set bytes

abbrev pub text : List ℕ → List ℕ
text bytes = take (text_len bytes) bytes

abbrev pub behind_text : List ℕ → List ℕ
behind_text bytes = drop (text_len bytes + 1) bytes
