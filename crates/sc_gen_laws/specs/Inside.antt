-- Yardstick: to be compared with what it restates (docs/TRUST.md).
-- What an object refers to, it has: symbols name its sections, relocations and frames its symbols; local symbols and the relocations of
-- earlier sections stand first (ELF gABI, "Symbol Table").
use Rattle.std.specs.Prelude.{◌≡◌, ℕ, Bool, true, ◌&&◌, nat_lt, length}
use Rattle.std.specs.List.{list_all}
use Rattle.sc_object.specs.declared.object.Symbol.{Symbol}
use Rattle.sc_object.specs.declared.object.Reloc.{Reloc}
use Rattle.sc_object.specs.declared.object.FrameTable.{FrameTable}
use Rattle.sc_object.specs.declared.object.Object.{Object}
use Rattle.sc_object.specs.Reading.{is_below, is_word, is_kind, locals_first, by_sections}

-- the section of a symbol, its type and its size
abbrev pub symbol_refers : ℕ → Symbol → Bool
symbol_refers sections s = is_below sections s.section && (nat_lt s.kind 3 && is_word s.size)

-- the section that a relocation changes, its place, its type and its symbol
abbrev pub reloc_refers : ℕ → ℕ → Reloc → Bool
reloc_refers sections symbols r = nat_lt r.section sections && (is_word r.at && (is_kind r.kind && nat_lt r.symbol symbols))

-- the symbol of a function's frame
abbrev pub frame_refers : ℕ → FrameTable → Bool
frame_refers symbols f = nat_lt f.symbol symbols

pub record RefersInside (o : Object) : Type 0 where
  pub symbols_refer : list_all (symbol_refers (length o.sections)) o.symbols ≡ true
  pub locals_come_first : locals_first o.symbols ≡ true
  pub relocs_refer : list_all (reloc_refers (length o.sections) (length o.symbols)) o.relocs ≡ true
  pub relocs_are_ordered : by_sections 0 o.relocs ≡ true
  pub frames_refer : list_all (frame_refers (length o.symbols)) o.frames ≡ true
