-- Yardstick: to be compared with what it restates (docs/TRUST.md).
-- The bytes of an object's file (ELF gABI; RISC-V psABI).
use Rattle.std.specs.Prelude.{ℕ, ◌+◌, ◌-◌, ◌%◌, List, [], ◌∷◌, ◌++◌, length, fold, replicate, codes}
use Rattle.sc_object.specs.declared.object.Object.{Object}
use Rattle.sc_object.specs.declared.part.Part.{Part}
use Rattle.sc_object.specs.declared.part.Laid.{Laid}
use Rattle.sc_object.specs.Words.{half, word}
use Rattle.sc_object.specs.Parts.{parts, strings_part}

-- e_ident: the mark, 32 bits, lowest byte first, version 1
abbrev pub ident : List ℕ
ident = 0x7f ∷ 0x45 ∷ 0x4c ∷ 0x46 ∷ 1 ∷ 1 ∷ 1 ∷ replicate 9 0

-- e_type to e_phoff: relocatable, RISC-V, version 1, no entry, no program headers
abbrev pub before_shoff : List ℕ
before_shoff = half 1 ++ half 243 ++ word 1 ++ word 0 ++ word 0

-- e_flags to e_shentsize
abbrev pub behind_shoff : List ℕ
behind_shoff = word 0 ++ half 52 ++ half 0 ++ half 0 ++ half 40

-- the file's header, by the place and the number of the section headers
abbrev pub header : ℕ → ℕ → List ℕ
header shoff shnum = (((ident ++ before_shoff) ++ word shoff) ++ behind_shoff) ++ half shnum ++ half (shnum - 1)

-- zero bytes up to the next multiple of 4
abbrev pub padded : List ℕ → List ℕ
padded bytes = bytes ++ replicate ((4 - length bytes % 4) % 4) 0

-- the first and the last five words of a section's header
abbrev pub header_front : Part → ℕ → ℕ → List ℕ
header_front p name place = word name ++ word p.kind ++ word p.flags ++ word 0 ++ word place

abbrev pub header_back : Part → List ℕ
header_back p = word p.size ++ word p.link ++ word p.info ++ word p.align ++ word p.entry

abbrev pub section_header : Part → ℕ → ℕ → List ℕ
section_header p name place = header_front p name place ++ header_back p

-- the contents stand behind the header's 52 bytes
abbrev pub with_part : Laid → Part → Laid
with_part l p = record {
  contents = padded l.contents ++ p.bytes;
  headers = l.headers ++ section_header p (length l.names) (length (padded l.contents) + 52);
  names = l.names ++ p.name ++ 0 ∷ [];
}

-- the null section has a header of zero bytes
abbrev pub nothing_laid : Laid
nothing_laid = record { contents = []; headers = replicate 40 0; names = 0 ∷ [] }

-- the last part holds the names of all parts, its own too
abbrev pub names_part : List ℕ → Part
names_part names = strings_part (codes ".shstrtab") (names ++ codes ".shstrtab" ++ 0 ∷ [])

abbrev pub with_names : Laid → Laid
with_names l = with_part l (names_part l.names)

-- the header, the contents, and so many section headers
abbrev pub file_of : ℕ → Laid → List ℕ
file_of count l = (header (length (padded l.contents) + 52) count ++ padded l.contents) ++ l.headers

-- the file of these parts, with the null section and that of the names
abbrev pub file_of_parts : List Part → List ℕ
file_of_parts ps = file_of (length ps + 2) (with_names (fold with_part nothing_laid ps))

-- the file with frame tables of this version
abbrev pub spelled_as : ℕ → Object → List ℕ
spelled_as version o = file_of_parts (parts version o)

abbrev pub spelled : Object → List ℕ
spelled o = spelled_as 2 o
