-- Machine: the program once more; a theorem ties it to a yardstick (docs/TRUST.md).
-- The tests by which a reading refuses a field.
use Rattle.std.specs.Prelude.{ℕ, ◌-◌, Bool, if◌then◌else◌, nat_lt, List, [], ◌∷◌, length, take, drop, Option, None, Some}
use Rattle.std.specs.Str.{bytes_eq}
use Rattle.sc_object.specs.Words.{half, word}
use Rattle.sc_object.specs.Spelling.{ident}
use Rattle.sc_object.specs.Reading.{end_of}
use Rattle.sc_elf_read.specs.declared.field.ElfFault.{ElfFault}
use Rattle.sc_elf_read.specs.declared.field.ElfFault.TheVariants.{Truncated, BadField}
use Rattle.sc_elf_read.specs.declared.field.Field.{Field}
use Rattle.sc_elf_read.specs.declared.field.Field.TheVariants.{Ident, «Type», Machine, Version, Entry, ProgramHeaders, Flags, HeaderSize, ProgramEntrySize, ProgramCount, SectionEntrySize, SectionEntry, End}

-- a field of the header that is the same in each file
pub record Fixed : Type 0 where
  pub field : Field
  pub at : ℕ
  pub bytes : List ℕ

abbrev pub fixed : Field → ℕ → List ℕ → Fixed
fixed f at bytes = record { field = f; at = at; bytes = bytes }

-- those before the place of the section headers
abbrev pub fixed_before : List Fixed
fixed_before =
    fixed Ident 0 ident ∷ fixed «Type» 16 (half 1) ∷ fixed Machine 18 (half 243) ∷ fixed Version 20 (word 1) ∷ fixed Entry 24 (word 0)
    ∷ fixed ProgramHeaders 28 (word 0) ∷ []

-- those behind it
abbrev pub fixed_behind : List Fixed
fixed_behind =
    fixed Flags 36 (word 0) ∷ fixed HeaderSize 40 (half 52) ∷ fixed ProgramEntrySize 42 (half 0) ∷ fixed ProgramCount 44 (half 0)
    ∷ fixed SectionEntrySize 46 (half 40) ∷ []

-- whether these bytes stand at a place
abbrev pub has : List ℕ → ℕ → List ℕ → Bool
has bytes at expected = bytes_eq (take (length expected) (drop at bytes)) expected

-- the first of these fields that is another one, and its place
abbrev pub wrong_of : List Fixed → List ℕ → Option (Field × ℕ)
wrong_of [] bytes = None
wrong_of (r ∷ rs) bytes = if has bytes r.at r.bytes then wrong_of rs bytes else Some (r.field, r.at)

abbrev pub or_else : Option (Field × ℕ) → Option (Field × ℕ) → Option (Field × ℕ)
or_else (Some r) other = Some r
or_else None other = other

-- the first fixed field of the header that is another one, and its place
abbrev pub wrong_field : List ℕ → Option (Field × ℕ)
wrong_field bytes = or_else (wrong_of fixed_before bytes) (wrong_of fixed_behind bytes)

abbrev pub too_short : List ℕ → ℕ → Option ElfFault
too_short bytes n = if nat_lt (length bytes) n then Some (Truncated (length bytes)) else None

abbrev pub wrong_fields : List ℕ → Option (Field × ℕ) → Option ElfFault
wrong_fields bytes None = too_short bytes (end_of bytes)
wrong_fields bytes (Some r) = Some (BadField r.0 r.1)

-- what is wrong with the header alone, or with the number of bytes
abbrev pub wrong_header : List ℕ → Option ElfFault
wrong_header bytes = if nat_lt (length bytes) 52 then Some (Truncated (length bytes)) else wrong_fields bytes (wrong_field bytes)

-- what is wrong with bytes that are no file and whose header is right
abbrev pub wrong_rest : List ℕ → ElfFault
wrong_rest bytes = if nat_lt (end_of bytes) (length bytes) then BadField End (end_of bytes) else BadField SectionEntry (length bytes - 4)
