-- Machine: the program once more; a theorem ties it to a yardstick (docs/TRUST.md).
-- What a reading takes from the tables of a file.
use Rattle.std.specs.Prelude.{ℕ, zero, suc, ◌+◌, ◌-◌, ◌*◌, ◌/◌, ◌%◌, ◌==◌, ◌&&◌, if◌then◌else◌, nat_lt, nat_le, List, [], ◌∷◌, ◌++◌, length, drop, flat_map, Option, None, Some, option_map, option_and_then, slice_index}
use Rattle.std.specs.Int.{w32, cast_signed}
use Rattle.sc_program.specs.declared.frame.Slot.{Slot}
use Rattle.sc_object.specs.declared.object.SectionKind.{SectionKind}
use Rattle.sc_object.specs.declared.object.SectionKind.TheVariants.{Text, Data, Rodata, Bss}
use Rattle.sc_object.specs.declared.object.Section.{Section}
use Rattle.sc_object.specs.declared.object.Symbol.{Symbol}
use Rattle.sc_object.specs.declared.object.Reloc.{Reloc}
use Rattle.sc_object.specs.declared.object.BlockTable.{BlockTable}
use Rattle.sc_object.specs.declared.object.FrameTable.{FrameTable}
use Rattle.sc_object.specs.Parts.{prefix}
use Rattle.sc_object.specs.Reading.{half_at, word_at}
use Rattle.sc_elf_read.specs.declared.piece.Piece.{Piece}
use Rattle.sc_elf_read.specs.Pieces.{text, behind_text}

-- so many rows of the same width
abbrev pub rows : {A : Type 0} → (List ℕ → A) → ℕ → ℕ → List ℕ → List A
rows f width zero bytes = []
rows f width (suc n) bytes = f bytes ∷ rows f width n (drop width bytes)

abbrev pub kind_of : ℕ → ℕ → Option SectionKind
kind_of kind flags =
    if kind == 1 && flags == 6 then Some Text
    else if kind == 1 && flags == 3 then Some Data
    else if kind == 1 && flags == 2 then Some Rodata
    else if kind == 8 && flags == 3 then Some Bss
    else None

abbrev pub section_in : SectionKind → Piece → List ℕ → Section
section_in kind p name = record { name = name; kind = kind; bytes = p.bytes; size = p.size }

-- the names from the front of a section's own on
abbrev pub named : SectionKind → List ℕ → List ℕ
named kind names = drop (length (prefix kind)) names

-- the sections behind those before, with their names from the front of the names
abbrev pub sections_in : List Section → List Piece → List ℕ → List Section
sections_in all [] names = all
sections_in all (p ∷ ps) names =
    elim (kind_of p.kind p.flags) [
      | None ↦ sections_in all ps names
      | Some kind ↦ sections_in (all ++ section_in kind p (text (named kind names)) ∷ []) ps (behind_text (named kind names))
    ]

abbrev pub reloc_in : ℕ → List ℕ → Reloc
reloc_in section bytes = record {
  section = section;
  at = word_at bytes 0;
  kind = word_at bytes 4 % 256;
  symbol = word_at bytes 4 / 256 - 1;
  addend = cast_signed w32 (word_at bytes 8);
}

-- the relocations of a section that holds any
abbrev pub relocs_of : Piece → List Reloc
relocs_of p = if p.kind == 4 then rows (reloc_in (p.info - 1)) 12 (length p.bytes / 12) p.bytes else []

abbrev pub relocs_in : List Piece → List Reloc
relocs_in ps = flat_map relocs_of ps

abbrev pub section_at : ℕ → Option ℕ
section_at n = if n == 0 then None else Some (n - 1)

abbrev pub symbol_in : List ℕ → List ℕ → Symbol
symbol_in bytes name = record {
  name = name;
  section = section_at (half_at bytes 14);
  global = nat_le 16 (slice_index bytes 12);
  kind = slice_index bytes 12 % 16;
  size = word_at bytes 8;
}

-- so many symbols, with their names from the front of the names
abbrev pub symbols_in : ℕ → List ℕ → List ℕ → List Symbol
symbols_in zero bytes names = []
symbols_in (suc n) bytes names = symbol_in bytes (text names) ∷ symbols_in n (drop 16 bytes) (behind_text names)

abbrev pub slot_in : List ℕ → Slot
slot_in bytes = record { offset = word_at bytes 0; size = word_at bytes 4; constant = word_at bytes 8 == 1 }

-- so many values behind those before, where each gives the bytes behind it
abbrev pub many : {A : Type 0} → (List ℕ → Option (A × List ℕ)) → ℕ → List A → List ℕ → Option (List A × List ℕ)
many f zero all bytes = Some (all, bytes)
many f (suc n) all bytes = option_and_then (λ p. many f n (all ++ p.0 ∷ []) p.1) (f bytes)

-- the bytes of a block before its slots
abbrev pub head_len : ℕ → ℕ
head_len version = if version == 1 then 4 else 8

abbrev pub line_in : ℕ → List ℕ → ℕ
line_in version bytes = if version == 1 then 0 else word_at bytes 0

abbrev pub slot_count : ℕ → List ℕ → ℕ
slot_count version bytes = if version == 1 then word_at bytes 0 else word_at bytes 4

abbrev pub block_len : ℕ → List ℕ → ℕ
block_len version bytes = head_len version + 12 * slot_count version bytes

abbrev pub block_of : ℕ → List ℕ → BlockTable
block_of version bytes = record {
  line = line_in version bytes;
  slots = rows slot_in 12 (slot_count version bytes) (drop (head_len version) bytes);
}

abbrev pub block_in : ℕ → List ℕ → Option (BlockTable × List ℕ)
block_in version bytes =
    if nat_lt (length bytes) (block_len version bytes)
    then None
    else Some (block_of version bytes, drop (block_len version bytes) bytes)

abbrev pub frame_of : List ℕ → List BlockTable → FrameTable
frame_of bytes blocks = record { symbol = word_at bytes 0 - 1; cost = word_at bytes 4; blocks = blocks }

abbrev pub frame_in : ℕ → List ℕ → Option (FrameTable × List ℕ)
frame_in version bytes =
    if nat_lt (length bytes) 12
    then None
    else option_map (λ p. (frame_of bytes p.0, p.1)) (many (block_in version) (word_at bytes 8) [] (drop 12 bytes))

abbrev pub frames_in : ℕ → List ℕ → Option (List FrameTable)
frames_in version bytes =
    if nat_lt (length bytes) 8
    then None
    else option_map (λ p. p.0) (many (frame_in version) (word_at bytes 4) [] (drop 8 bytes))
