-- Machine: the program once more; a theorem ties it to a yardstick (docs/TRUST.md).
-- The object that a reading finds, before it is written again and compared.
use Rattle.std.specs.Prelude.{ℕ, ◌+◌, ◌-◌, ◌/◌, List, [], ◌∷◌, length, take, drop, Option, None, option_map}
use Rattle.sc_object.specs.declared.object.FrameTable.{FrameTable}
use Rattle.sc_object.specs.declared.object.Object.{Object}
use Rattle.sc_object.specs.Reading.{half_at, word_at}
use Rattle.sc_elf_read.specs.declared.piece.Piece.{Piece}
use Rattle.sc_elf_read.specs.Pieces.{pieces_in}
use Rattle.sc_elf_read.specs.Tables.{sections_in, relocs_in, symbols_in, frames_in}

-- the sections of a file but for the null section
abbrev pub file_pieces : List ℕ → List Piece
file_pieces bytes = pieces_in (half_at bytes 48 - 1) (drop (word_at bytes 32 + 40) bytes) (drop 52 bytes)

-- the object of the sections before the last four, and of these
abbrev pub object_of : List Piece → Piece → Piece → Piece → List FrameTable → Object
object_of ps symbols strings names frames = record {
  sections = sections_in [] ps (drop 1 names.bytes);
  symbols = symbols_in (length (drop 16 symbols.bytes) / 16) (drop 16 symbols.bytes) (drop 1 strings.bytes);
  relocs = relocs_in ps;
  frames = frames;
}

abbrev pub object_in : ℕ → List Piece → Piece → Piece → Piece → Piece → Option Object
object_in version ps saber symbols strings names =
    option_map (object_of ps symbols strings names) (frames_in version saber.bytes)

-- the object of the sections before the last four, and of these
abbrev pub object_from : ℕ → List Piece → List Piece → Option Object
object_from version front [] = None
object_from version front (a ∷ []) = None
object_from version front (a ∷ b ∷ []) = None
object_from version front (a ∷ b ∷ c ∷ []) = None
object_from version front (a ∷ b ∷ c ∷ d ∷ []) = object_in version front a b c d
object_from version front (a ∷ b ∷ c ∷ d ∷ e ∷ more) = None

abbrev pub parsed_pieces : ℕ → List Piece → Option Object
parsed_pieces version ps = object_from version (take (length ps - 4) ps) (drop (length ps - 4) ps)

abbrev pub parsed : ℕ → List ℕ → Option Object
parsed version bytes = parsed_pieces version (file_pieces bytes)
