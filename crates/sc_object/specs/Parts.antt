-- Yardstick: to be compared with what it restates (docs/TRUST.md).
-- The sections of an object's file, in the order of the file, but for the last one.
use Rattle.std.specs.Prelude.{ℕ, ◌+◌, ◌*◌, ◌%◌, ◌==◌, Bool, not, if◌then◌else◌, List, [], ◌∷◌, ◌++◌, length, take, drop, fold, filter, flat_map, map, replicate, codes, Option, None, Some}
use Rattle.std.specs.Int.{w32, cast_unsigned}
use Rattle.std.specs.List.{prefix_len}
use Rattle.sc_program.specs.declared.frame.Slot.{Slot}
use Rattle.sc_object.specs.declared.object.SectionKind.{SectionKind}
use Rattle.sc_object.specs.declared.object.SectionKind.TheVariants.{Text, Data, Rodata, Bss}
use Rattle.sc_object.specs.declared.object.Section.{Section}
use Rattle.sc_object.specs.declared.object.Symbol.{Symbol}
use Rattle.sc_object.specs.declared.object.Reloc.{Reloc}
use Rattle.sc_object.specs.declared.object.BlockTable.{BlockTable}
use Rattle.sc_object.specs.declared.object.FrameTable.{FrameTable}
use Rattle.sc_object.specs.declared.object.Object.{Object}
use Rattle.sc_object.specs.declared.part.Part.{Part}
use Rattle.sc_object.specs.declared.part.Rela.{Rela}
use Rattle.sc_object.specs.declared.part.SymbolTable.{SymbolTable}
use Rattle.sc_object.specs.Words.{half, word}

abbrev pub prefix : SectionKind → List ℕ
prefix Text = codes ".text."
prefix Data = codes ".data."
prefix Rodata = codes ".rodata."
prefix Bss = codes ".bss."

-- PROGBITS, or NOBITS
abbrev pub type_of : SectionKind → ℕ
type_of Text = 1
type_of Data = 1
type_of Rodata = 1
type_of Bss = 8

-- WRITE is 1, ALLOC 2, EXECINSTR 4
abbrev pub flags_of : SectionKind → ℕ
flags_of Text = 6
flags_of Data = 3
flags_of Rodata = 2
flags_of Bss = 3

-- a part that points to no other
abbrev pub plain_part : List ℕ → ℕ → ℕ → List ℕ → ℕ → ℕ → Part
plain_part name kind flags bytes size align = record {
  name = name;
  kind = kind;
  flags = flags;
  bytes = bytes;
  size = size;
  link = 0;
  info = 0;
  align = align;
  entry = 0;
}

abbrev pub section_part : Section → Part
section_part s = plain_part (prefix s.kind ++ s.name) (type_of s.kind) (flags_of s.kind) s.bytes s.size 4

-- the symbol in the file's numbers, and the type
abbrev pub reloc_info : Reloc → ℕ
reloc_info r = (r.symbol + 1) * 256 + r.kind

-- an entry of relocations: the place, that, the addend
abbrev pub entry_of : Reloc → List ℕ
entry_of r = word r.at ++ word (reloc_info r) ++ word (cast_unsigned w32 r.addend)

abbrev pub entries : List Reloc → List ℕ
entries rs = flat_map entry_of rs

abbrev pub is_of : ℕ → Reloc → Bool
is_of n r = r.section == n

-- how many relocations from the front on are of section n
abbrev pub group_len : ℕ → List Reloc → ℕ
group_len n rs = prefix_len (is_of n) rs

abbrev pub rela_of : Section → ℕ → List Reloc → Rela
rela_of s number group = record { name = codes ".rela" ++ prefix s.kind ++ s.name; number = number; bytes = entries group }

-- a section with no relocation has no part of them
abbrev pub with_group : List Rela → Section → ℕ → List Reloc → List Rela
with_group all s n group = if length group == 0 then all else all ++ rela_of s (n + 1) group ∷ []

-- the relocations of the sections from number n on, behind those before
abbrev pub relas : List Reloc → List Rela → ℕ → List Section → List Rela
relas rs all n [] = all
relas rs all n (s ∷ ss) = relas (drop (group_len n rs) rs) (with_group all s n (take (group_len n rs) rs)) (n + 1) ss

abbrev pub rela_part : ℕ → Rela → Part
rela_part symbols r = record {
  name = r.name;
  kind = 4;
  flags = 0x40;
  bytes = r.bytes;
  size = length r.bytes;
  link = symbols;
  info = r.number;
  align = 4;
  entry = 12;
}

abbrev pub slot_words : Slot → List ℕ
slot_words s = word s.offset ++ word s.size ++ word (if s.constant then 1 else 0)

-- version 1 has no lines
abbrev pub line_words : ℕ → ℕ → List ℕ
line_words version line = if version == 1 then [] else word line

abbrev pub block_words : ℕ → BlockTable → List ℕ
block_words version b = line_words version b.line ++ word (length b.slots) ++ flat_map slot_words b.slots

abbrev pub frame_head : FrameTable → List ℕ
frame_head f = word (f.symbol + 1) ++ word f.cost ++ word (length f.blocks)

abbrev pub frame_words : ℕ → FrameTable → List ℕ
frame_words version f = frame_head f ++ flat_map (block_words version) f.blocks

abbrev pub saber_words : ℕ → List FrameTable → List ℕ
saber_words version fs = word version ++ word (length fs) ++ flat_map (frame_words version) fs

abbrev pub saber_part : List ℕ → Part
saber_part bytes = plain_part (codes ".saber") 1 0 bytes (length bytes) 4

-- a binding of 1 in the upper half is global
abbrev pub info_of : Symbol → ℕ
info_of s = if s.global then 16 + s.kind % 16 else s.kind % 16

abbrev pub number_of : Option ℕ → ℕ
number_of None = 0
number_of (Some n) = n + 1

abbrev pub symbol_entry : ℕ → Symbol → List ℕ
symbol_entry name s = word name ++ word 0 ++ word s.size ++ info_of s ∷ 0 ∷ half (number_of s.section)

abbrev pub with_symbol : SymbolTable → Symbol → SymbolTable
with_symbol t s = record { entries = t.entries ++ symbol_entry (length t.names) s; names = t.names ++ s.name ++ 0 ∷ [] }

-- a null entry, and a zero byte before the first name
abbrev pub symbol_table : List Symbol → SymbolTable
symbol_table ss = fold with_symbol (record { entries = replicate 16 0; names = 0 ∷ [] }) ss

abbrev pub is_local : Symbol → Bool
is_local s = not s.global

abbrev pub symbols_part : ℕ → ℕ → List ℕ → Part
symbols_part strings locals bytes = record {
  name = codes ".symtab";
  kind = 2;
  flags = 0;
  bytes = bytes;
  size = length bytes;
  link = strings;
  info = locals + 1;
  align = 4;
  entry = 16;
}

abbrev pub strings_part : List ℕ → List ℕ → Part
strings_part name bytes = plain_part name 3 0 bytes (length bytes) 1

-- the table of symbols, which points to the names with this number, and the names
abbrev pub symbol_parts : ℕ → List Symbol → List Part
symbol_parts strings ss =
    symbols_part strings (length (filter is_local ss)) (symbol_table ss).entries
    ∷ strings_part (codes ".strtab") (symbol_table ss).names
    ∷ []

-- the three parts behind the sections and their relocations; the table of symbols has this number
abbrev pub tables : ℕ → ℕ → Object → List Part
tables version symbols o = saber_part (saber_words version o.frames) ∷ symbol_parts (symbols + 1) o.symbols

abbrev pub all_relas : Object → List Rela
all_relas o = relas o.relocs [] 0 o.sections

-- the table of symbols stands behind the null section, the sections, their relocations and `.saber`
abbrev pub symbols_at : Object → ℕ
symbols_at o = length o.sections + length (all_relas o) + 2

abbrev pub parts : ℕ → Object → List Part
parts version o = (map section_part o.sections ++ map (rela_part (symbols_at o)) (all_relas o)) ++ tables version (symbols_at o) o
