-- Inside: plumbing, a representation, an invariant or a promise beside the claim (docs/TRUST.md).
-- Which objects have a file, and what bytes are read as one.
use Rattle.std.specs.Prelude.{◌≡◌, ◌≢◌, ◌⊎◌, ◌<◌, ℕ, ℤ, ◌+◌, ◌*◌, ◌^◌, ◌==◌, ◌&&◌, ◌||◌, Bool, true, not, if◌then◌else◌, nat_lt, nat_le, IsTrue, List, [], ◌∷◌, ◌++◌, length, take, drop, Option, None, Some}
use Rattle.std.specs.Int.{w32, cast_signed, cast_unsigned}
use Rattle.std.specs.List.{list_all, prefix_len}
use Rattle.std.specs.Ordering.{int_eq}
use Rattle.sc_program.specs.declared.frame.Slot.{Slot}
use Rattle.sc_object.specs.declared.object.SectionKind.{SectionKind}
use Rattle.sc_object.specs.declared.object.SectionKind.TheVariants.{Text, Data, Rodata, Bss}
use Rattle.sc_object.specs.declared.object.Section.{Section}
use Rattle.sc_object.specs.declared.object.Symbol.{Symbol}
use Rattle.sc_object.specs.declared.object.Reloc.{Reloc}
use Rattle.sc_object.specs.declared.object.BlockTable.{BlockTable}
use Rattle.sc_object.specs.declared.object.FrameTable.{FrameTable}
use Rattle.sc_object.specs.declared.object.Object.{Object}
use Rattle.sc_object.specs.Parts.{is_local, all_relas}
use Rattle.sc_object.specs.Spelling.{ident, before_shoff, behind_shoff, spelled_as}

-- a name ends at its first zero byte
abbrev pub is_name : List ℕ → Bool
is_name name = list_all (λ b. not (b == 0)) name

-- how many bytes of a section stand in the file
abbrev pub held : SectionKind → ℕ → ℕ
held Text size = size
held Data size = size
held Rodata size = size
held Bss size = 0

-- a number of 32 bits
abbrev pub is_word : ℕ → Bool
is_word n = nat_lt n (2 ^ 32)

abbrev pub is_section : Section → Bool
is_section s = is_name s.name && length s.bytes == held s.kind s.size && is_word s.size

abbrev pub is_below : ℕ → Option ℕ → Bool
is_below n None = true
is_below n (Some k) = nat_lt k n

abbrev pub is_symbol : ℕ → Symbol → Bool
is_symbol sections s = is_name s.name && is_below sections s.section && nat_lt s.kind 3 && is_word s.size

abbrev pub is_global : Symbol → Bool
is_global s = s.global

-- behind the local symbols at the front all are global
abbrev pub locals_first : List Symbol → Bool
locals_first ss = list_all is_global (drop (prefix_len is_local ss) ss)

-- R_RISCV_32, CALL_PLT, HI20, LO12_I, LO12_S
abbrev pub is_kind : ℕ → Bool
is_kind n = n == 1 || n == 19 || n == 26 || n == 27 || n == 28

-- a signed number of 32 bits
abbrev pub is_addend : ℤ → Bool
is_addend z = int_eq (cast_signed w32 (cast_unsigned w32 z)) z

abbrev pub is_reloc : ℕ → ℕ → Reloc → Bool
is_reloc sections symbols r =
    nat_lt r.section sections && is_word r.at && is_kind r.kind && nat_lt r.symbol symbols && is_addend r.addend

-- the relocations stand by sections, from section n on
abbrev pub by_sections : ℕ → List Reloc → Bool
by_sections n [] = true
by_sections n (r ∷ rs) = nat_le n r.section && by_sections r.section rs

abbrev pub is_slot : Slot → Bool
is_slot s = is_word s.offset && is_word s.size

-- version 1 has no lines
abbrev pub line_fits : ℕ → ℕ → Bool
line_fits version line = not (version == 1) || line == 0

abbrev pub is_block : ℕ → BlockTable → Bool
is_block version b = line_fits version b.line && is_word b.line && is_word (length b.slots) && list_all is_slot b.slots

abbrev pub is_frame : ℕ → ℕ → FrameTable → Bool
is_frame version symbols f =
    nat_lt f.symbol symbols && is_word f.cost && is_word (length f.blocks) && list_all (is_block version) f.blocks

-- the numbers of sections end at 65,280, those of symbols in relocations at 2 ^ 24, and places at 2 ^ 32
abbrev pub fits : Object → ℕ → Bool
fits o len =
    nat_lt (length o.sections + length (all_relas o) + 5) 65280 && nat_lt (length o.symbols + 1) (2 ^ 24)
    && is_word (length o.frames) && is_word len

-- the object has a file, where the bytes of its file are so many
abbrev pub is_spellable_in : ℕ → Object → ℕ → Bool
is_spellable_in version o len =
    list_all is_section o.sections && list_all (is_symbol (length o.sections)) o.symbols && locals_first o.symbols
    && list_all (is_reloc (length o.sections) (length o.symbols)) o.relocs
    && by_sections 0 o.relocs
    && list_all (is_frame version (length o.symbols)) o.frames
    && fits o len

abbrev pub is_spellable : ℕ → Object → Bool
is_spellable version o = is_spellable_in version o (length (spelled_as version o))

abbrev pub IsSpellable : Object → Type 0
IsSpellable o = IsTrue (is_spellable 2 o)

-- the bytes are the file of this object, with frame tables of this version
abbrev pub IsFileOf : ℕ → Object → List ℕ → Type 0
IsFileOf version o bytes = IsTrue (is_spellable version o) × (spelled_as version o ≡ bytes)

-- the number that bytes make, the lowest first
abbrev pub value_of : List ℕ → ℕ
value_of [] = 0
value_of (b ∷ bs) = b + 2 ^ 8 * value_of bs

abbrev pub half_at : List ℕ → ℕ → ℕ
half_at bytes at = value_of (take 2 (drop at bytes))

abbrev pub word_at : List ℕ → ℕ → ℕ
word_at bytes at = value_of (take 4 (drop at bytes))

-- the fields of the header that are the same in each file
pub record HasFixedFields (bytes : List ℕ) : Type 0 where
  pub before : take 32 bytes ≡ ident ++ before_shoff
  pub behind : take 12 (drop 36 bytes) ≡ behind_shoff

-- the end of the section headers by e_shoff and e_shnum
abbrev pub end_of : List ℕ → ℕ
end_of bytes = word_at bytes 32 + 40 * half_at bytes 48

-- bytes that end too early
abbrev pub IsShort : List ℕ → Type 0
IsShort bytes = (length bytes < 52) ⊎ (HasFixedFields bytes × (length bytes < end_of bytes))
