-- Yardstick: to be compared with what it restates (docs/TRUST.md).
-- The fields that a reading refuses, and when it may.
use Rattle.std.specs.Prelude.{◌≡◌, ◌≢◌, ℕ, ◌+◌, ◌-◌, List, length, take}
use Rattle.sc_object.specs.declared.object.Object.{Object}
use Rattle.sc_object.specs.Spelling.{spelled}
use Rattle.sc_object.specs.Reading.{IsSpellable, end_of}
use Rattle.sc_elf_read.specs.declared.field.Field.{Field}
use Rattle.sc_elf_read.specs.declared.field.Field.TheVariants.{Ident, «Type», Machine, Version, Entry, ProgramHeaders, Flags, HeaderSize, ProgramEntrySize, ProgramCount, SectionEntrySize, SectionEntry, End}

-- where a field stands: in the header (gABI, "ELF Header"), or at the end of the bytes or of the section headers
abbrev pub place : List ℕ → Field → ℕ
place bytes Ident = 0
place bytes «Type» = 16
place bytes Machine = 18
place bytes Version = 20
place bytes Entry = 24
place bytes ProgramHeaders = 28
place bytes Flags = 36
place bytes HeaderSize = 40
place bytes ProgramEntrySize = 42
place bytes ProgramCount = 44
place bytes SectionEntrySize = 46
place bytes SectionEntry = length bytes - 4
place bytes End = end_of bytes

-- how many bytes it has there; the bytes behind the last section header are one field
abbrev pub width : List ℕ → Field → ℕ → ℕ
width bytes Ident at = 16
width bytes «Type» at = 2
width bytes Machine at = 2
width bytes Version at = 4
width bytes Entry at = 4
width bytes ProgramHeaders at = 4
width bytes Flags at = 4
width bytes HeaderSize at = 2
width bytes ProgramEntrySize at = 2
width bytes ProgramCount at = 2
width bytes SectionEntrySize at = 2
width bytes SectionEntry at = 4
width bytes End at = length bytes - at

-- this is a field's place, and no file begins as these bytes do through the end of the field
pub record IsWrong (bytes : List ℕ) (f : Field) (at : ℕ) : Type 0 where
  pub placed : at ≡ place bytes f
  pub none : (o : Object) → IsSpellable o → take (at + width bytes f at) (spelled o) ≢ take (at + width bytes f at) bytes
