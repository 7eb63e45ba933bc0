-- The file of an object is read as that object.
use Rattle.std.proofs.Common.{◌≡◌, ◌<◌, ◌^◌, ◌/◌, ◌+◌, ◌&&◌, ℕ, Bool, true, nat_lt, List, [], ◌∷◌, ◌++◌, length, drop, map, replicate, Some, codes, sym, ap, ◌∙◌, subst, arith, refl}
use Rattle.std.specs.Prelude.{flat_map, filter, option_map}
use Rattle.std.specs.List.{list_all}
use Rattle.std.proofs.lemmas.Bool.{and_parts, ltb-true}
use Rattle.std.proofs.lemmas.List.{append_assoc, append-nil, length-append, length-map, length_push, map-append}
use Rattle.std.proofs.lemmas.List.Concat.{flat_map-append}
use Rattle.sc_object.specs.declared.object.Section.{Section}
use Rattle.sc_object.specs.declared.object.BlockTable.{BlockTable}
use Rattle.sc_object.specs.declared.object.Object.{Object}
use Rattle.sc_object.specs.declared.part.Part.{Part}
use Rattle.sc_object.specs.declared.part.Rela.{Rela}
use Rattle.sc_object.specs.declared.part.SymbolTable.{SymbolTable}
use Rattle.sc_object.specs.Parts.{section_part, rela_part, block_words, saber_words, saber_part, symbol_table, is_local, symbols_part, strings_part, tables, all_relas, symbols_at, parts}
use Rattle.sc_object.specs.Spelling.{names_part, nothing_laid, spelled_as}
use Rattle.sc_object.specs.Reading.{is_section, is_symbol, locals_first, is_reloc, by_sections, is_block, is_frame, is_word, fits, is_spellable, end_of}
use Rattle.sc_elf_read.specs.declared.piece.Piece.{Piece}
use Rattle.sc_elf_read.specs.Tables.{block_in, sections_in, relocs_in, symbols_in}
use Rattle.sc_elf_read.specs.Parsed.{file_pieces, object_of, object_in}
use Rattle.sc_elf_read.proofs.Words.{value_word}
use Rattle.sc_elf_read.proofs.FramesRead.{frames_back}
use Rattle.sc_elf_read.proofs.Laying.{piece_of, with_zero, names_are, Within, within, AllHeld, more_contents}
use Rattle.sc_elf_read.proofs.SectionsRead.{section_held, sections_back}
use Rattle.sc_elf_read.proofs.SymbolsRead.{more_entries, name_of, entries_are, symbol_names_are, entries_length, symbols_back}
use Rattle.sc_elf_read.proofs.Relocs.{relocs_back}
use Rattle.sc_elf_read.proofs.Files.{laid_of, file, contents_small, file_back, all_of, file_is, ends}

again : (a b c d e : List ℕ) → (((a ++ b) ++ c) ++ d) ++ e ≡ a ++ ((b ++ c) ++ (d ++ e))
again a b c d e = simp append_assoc

held_append : (xs ys : List Part) → AllHeld xs → AllHeld ys → AllHeld (xs ++ ys)
held_append [] ys h k = k
held_append (x ∷ xs) ys h k = (h.0, held_append xs ys h.1 k)

within_left : (n : ℕ) (xs ys : List Part) → Within n (xs ++ ys) → Within n xs
within_left n [] ys h = tt
within_left n (x ∷ xs) ys h = (h.0, within_left n xs ys h.1)

within_right : (n : ℕ) (xs ys : List Part) → Within n (xs ++ ys) → Within n ys
within_right n [] ys h = h
within_right n (x ∷ xs) ys h = within_right n xs ys h.1

sections_held : (ss : List Section) → list_all is_section ss ≡ true → AllHeld (map section_part ss)
sections_held [] h = tt
sections_held (s ∷ ss) h = let t = and_parts (is_section s) (list_all is_section ss) h in (section_held s t.0, sections_held ss t.1)

relas_held : (n table : ℕ) (rs : List Rela) → n < 2 ^ 32 → Within n (map (rela_part table) rs) → AllHeld (map (rela_part table) rs)
relas_held n table [] small w = tt
relas_held n table (r ∷ rs) small w = (sym (value_word (length r.bytes) (omega (arith, w.0))), relas_held n table rs small w.1)

module _ (version : ℕ) (block_back : (b : BlockTable) (more : List ℕ) → is_block version b ≡ true → block_in version (block_words version b ++ more) ≡ Some (b, more)) (o : Object) (ok : is_spellable version o ≡ true) where
  abbrev pub front_parts : List Part
  front_parts = map section_part o.sections ++ map (rela_part (symbols_at o)) (all_relas o)

  abbrev pub front : List Piece
  front = map piece_of (map section_part o.sections) ++ map piece_of (map (rela_part (symbols_at o)) (all_relas o))

  abbrev pub saber : Part
  saber = saber_part (saber_words version o.frames)

  abbrev pub symtab : Part
  symtab = symbols_part (symbols_at o + 1) (length (filter is_local o.symbols)) (symbol_table o.symbols).entries

  abbrev pub strtab : Part
  strtab = strings_part (codes ".strtab") (symbol_table o.symbols).names

  abbrev pub shstrtab : Part
  shstrtab = names_part (laid_of (parts version o)).names

  abbrev all : List Part
  all = all_of (parts version o)

  fits_is : fits o (length (spelled_as version o)) ≡ true
  fits_is = (and_parts (list_all is_section o.sections && list_all (is_symbol (length o.sections)) o.symbols && locals_first o.symbols && list_all (is_reloc (length o.sections) (length o.symbols)) o.relocs && by_sections 0 o.relocs && list_all (is_frame version (length o.symbols)) o.frames) (fits o (length (spelled_as version o))) ok).1

  before_fits : (list_all is_section o.sections && list_all (is_symbol (length o.sections)) o.symbols && locals_first o.symbols && list_all (is_reloc (length o.sections) (length o.symbols)) o.relocs && by_sections 0 o.relocs && list_all (is_frame version (length o.symbols)) o.frames) ≡ true
  before_fits = (and_parts (list_all is_section o.sections && list_all (is_symbol (length o.sections)) o.symbols && locals_first o.symbols && list_all (is_reloc (length o.sections) (length o.symbols)) o.relocs && by_sections 0 o.relocs && list_all (is_frame version (length o.symbols)) o.frames) (fits o (length (spelled_as version o))) ok).0

  frames_ok : list_all (is_frame version (length o.symbols)) o.frames ≡ true
  frames_ok = (and_parts (list_all is_section o.sections && list_all (is_symbol (length o.sections)) o.symbols && locals_first o.symbols && list_all (is_reloc (length o.sections) (length o.symbols)) o.relocs && by_sections 0 o.relocs) (list_all (is_frame version (length o.symbols)) o.frames) before_fits).1

  before_frames : (list_all is_section o.sections && list_all (is_symbol (length o.sections)) o.symbols && locals_first o.symbols && list_all (is_reloc (length o.sections) (length o.symbols)) o.relocs && by_sections 0 o.relocs) ≡ true
  before_frames = (and_parts (list_all is_section o.sections && list_all (is_symbol (length o.sections)) o.symbols && locals_first o.symbols && list_all (is_reloc (length o.sections) (length o.symbols)) o.relocs && by_sections 0 o.relocs) (list_all (is_frame version (length o.symbols)) o.frames) before_fits).0

  sorted : by_sections 0 o.relocs ≡ true
  sorted = (and_parts (list_all is_section o.sections && list_all (is_symbol (length o.sections)) o.symbols && locals_first o.symbols && list_all (is_reloc (length o.sections) (length o.symbols)) o.relocs) (by_sections 0 o.relocs) before_frames).1

  before_sorted : (list_all is_section o.sections && list_all (is_symbol (length o.sections)) o.symbols && locals_first o.symbols && list_all (is_reloc (length o.sections) (length o.symbols)) o.relocs) ≡ true
  before_sorted = (and_parts (list_all is_section o.sections && list_all (is_symbol (length o.sections)) o.symbols && locals_first o.symbols && list_all (is_reloc (length o.sections) (length o.symbols)) o.relocs) (by_sections 0 o.relocs) before_frames).0

  relocs_ok : list_all (is_reloc (length o.sections) (length o.symbols)) o.relocs ≡ true
  relocs_ok = (and_parts (list_all is_section o.sections && list_all (is_symbol (length o.sections)) o.symbols && locals_first o.symbols) (list_all (is_reloc (length o.sections) (length o.symbols)) o.relocs) before_sorted).1

  before_relocs : (list_all is_section o.sections && list_all (is_symbol (length o.sections)) o.symbols) ≡ true
  before_relocs = (and_parts (list_all is_section o.sections && list_all (is_symbol (length o.sections)) o.symbols) (locals_first o.symbols) (and_parts (list_all is_section o.sections && list_all (is_symbol (length o.sections)) o.symbols && locals_first o.symbols) (list_all (is_reloc (length o.sections) (length o.symbols)) o.relocs) before_sorted).0).0

  sections_ok : list_all is_section o.sections ≡ true
  sections_ok = (and_parts (list_all is_section o.sections) (list_all (is_symbol (length o.sections)) o.symbols) before_relocs).0

  symbols_ok : list_all (is_symbol (length o.sections)) o.symbols ≡ true
  symbols_ok = (and_parts (list_all is_section o.sections) (list_all (is_symbol (length o.sections)) o.symbols) before_relocs).1

  abbrev numbers : Bool
  numbers = nat_lt (length o.sections + length (all_relas o) + 5) 65280

  abbrev symbol_numbers : Bool
  symbol_numbers = nat_lt (length o.symbols + 1) (2 ^ 24)

  whole_small : length (spelled_as version o) < 2 ^ 32
  whole_small = ltb-true (length (spelled_as version o)) (2 ^ 32) (and_parts (numbers && symbol_numbers && is_word (length o.frames)) (is_word (length (spelled_as version o))) fits_is).1

  frames_few : is_word (length o.frames) ≡ true
  frames_few = (and_parts (numbers && symbol_numbers) (is_word (length o.frames)) (and_parts (numbers && symbol_numbers && is_word (length o.frames)) (is_word (length (spelled_as version o))) fits_is).0).1

  both_few : (numbers && symbol_numbers) ≡ true
  both_few = (and_parts (numbers && symbol_numbers) (is_word (length o.frames)) (and_parts (numbers && symbol_numbers && is_word (length o.frames)) (is_word (length (spelled_as version o))) fits_is).0).0

  sections_few : length o.sections + length (all_relas o) + 5 < 65280
  sections_few = ltb-true (length o.sections + length (all_relas o) + 5) 65280 (and_parts numbers symbol_numbers both_few).0

  symbols_few : length o.symbols + 1 < 2 ^ 24
  symbols_few = ltb-true (length o.symbols + 1) (2 ^ 24) (and_parts numbers symbol_numbers both_few).1

  parts_length : length (parts version o) ≡ length o.sections + length (all_relas o) + 3
  parts_length =
      length-append front_parts (tables version (symbols_at o) o)
      ∙ ap (λ k. k + 3) (length-append (map section_part o.sections) (map (rela_part (symbols_at o)) (all_relas o))
      ∙ (λ i. length-map o.sections section_part i + length-map (all_relas o) (rela_part (symbols_at o)) i))

  all_few : length all + 1 < 2 ^ 16
  all_few = omega (arith, length_push (parts version o) shstrtab, parts_length, sections_few)

  file_small : length (file all) < 2 ^ 32
  file_small = subst (λ z. length z < 2 ^ 32) (file_is (parts version o)) whole_small

  all_within : Within (length (more_contents nothing_laid all)) all
  all_within = within (length (more_contents nothing_laid all)) nothing_laid all (omega arith)

  held : AllHeld all
  held =
      let n : ℕ = length (more_contents nothing_laid all) in
      let small : n < 2 ^ 32 = contents_small all file_small all_few in
      let w : Within n (parts version o) = within_left n (parts version o) (shstrtab ∷ []) all_within in
      let last : Within n (shstrtab ∷ []) = within_right n (parts version o) (shstrtab ∷ []) all_within in
      let t : Within n (tables version (symbols_at o) o) = within_right n front_parts (tables version (symbols_at o) o) w in
      let f : Within n front_parts = within_left n front_parts (tables version (symbols_at o) o) w in
      let r : Within n (map (rela_part (symbols_at o)) (all_relas o)) = within_right n (map section_part o.sections) (map (rela_part (symbols_at o)) (all_relas o)) f in
      let a : AllHeld front_parts =
      held_append (map section_part o.sections) (map (rela_part (symbols_at o)) (all_relas o)) (sections_held o.sections sections_ok) (relas_held n (symbols_at o) (all_relas o) small r) in
      let b : AllHeld (tables version (symbols_at o) o) =
      (sym (value_word (length saber.bytes) (omega (arith, t.0))), (sym (value_word (length symtab.bytes) (omega (arith, t.1.0))), (sym (value_word (length strtab.bytes) (omega (arith, t.1.1.0))), tt))) in
      let c : AllHeld (shstrtab ∷ []) = (sym (value_word (length shstrtab.bytes) (omega (arith, last.0))), tt) in
      held_append (parts version o) (shstrtab ∷ []) (held_append front_parts (tables version (symbols_at o) o) a b) c

  pub whole_ends : end_of (spelled_as version o) ≡ length (spelled_as version o)
  whole_ends = subst (λ z. end_of z ≡ length z) (sym (file_is (parts version o))) (ends all file_small all_few)

  -- the sections of the file
  pub pieces_are : file_pieces (spelled_as version o) ≡ front ++ piece_of saber ∷ piece_of symtab ∷ piece_of strtab ∷ piece_of shstrtab ∷ []
  pieces_are =
      ap file_pieces (file_is (parts version o))
      ∙ file_back all file_small all_few held
      ∙ map-append piece_of (parts version o) (shstrtab ∷ [])
      ∙ ap (λ z. z ++ piece_of shstrtab ∷ []) (map-append piece_of front_parts (tables version (symbols_at o) o))
      ∙ ap (λ z. (z ++ map piece_of (tables version (symbols_at o) o)) ++ piece_of shstrtab ∷ []) (map-append piece_of (map section_part o.sections) (map (rela_part (symbols_at o)) (all_relas o)))
      ∙ append_assoc front (map piece_of (tables version (symbols_at o) o)) (piece_of shstrtab ∷ [])

  section_names : (more : List ℕ) × (drop 1 shstrtab.bytes ≡ flat_map with_zero (map section_part o.sections) ++ more)
  section_names =
      let sections : List Part = map section_part o.sections in
      let relas : List Part = map (rela_part (symbols_at o)) (all_relas o) in
      let rest : List Part = tables version (symbols_at o) o in
      let own : List ℕ = codes ".shstrtab" in
      let names : (laid_of (parts version o)).names ≡ (0 ∷ []) ++ ((flat_map with_zero sections ++ flat_map with_zero relas) ++ flat_map with_zero rest) =
      names_are nothing_laid (parts version o)
      ∙ ap (λ z. (0 ∷ []) ++ z) (flat_map-append with_zero front_parts rest ∙ ap (λ z. z ++ flat_map with_zero rest) (flat_map-append with_zero sections relas)) in (
        (flat_map with_zero relas ++ flat_map with_zero rest) ++ (own ++ 0 ∷ []),
        ap (λ z. drop 1 ((z ++ own) ++ 0 ∷ [])) names ∙ again (flat_map with_zero sections) (flat_map with_zero relas) (flat_map with_zero rest) own (0 ∷ []),
      )

  sections_are : sections_in [] front (drop 1 shstrtab.bytes) ≡ o.sections
  sections_are =
      ap (sections_in [] front) section_names.1 ∙ sections_back [] o.sections (symbols_at o) (all_relas o) section_names.0 sections_ok

  symbols_are : symbols_in (length (drop 16 symtab.bytes) / 16) (drop 16 symtab.bytes) (drop 1 strtab.bytes) ≡ o.symbols
  symbols_are =
      let t : SymbolTable = record { entries = replicate 16 0; names = 0 ∷ [] } in
      let more : List ℕ = more_entries t o.symbols in
      let entries : drop 16 symtab.bytes ≡ more ++ [] = ap (drop 16) (entries_are t o.symbols) ∙ sym (append-nil more) in
      let names : drop 1 strtab.bytes ≡ flat_map name_of o.symbols ++ [] = ap (drop 1) (symbol_names_are t o.symbols) ∙ sym (append-nil (flat_map name_of o.symbols)) in
      let count : length (more ++ []) / 16 ≡ length o.symbols = omega (arith, ap length (append-nil more), entries_length t o.symbols) in
      ap (λ z. symbols_in (length z / 16) z (drop 1 strtab.bytes)) entries
      ∙ ap (symbols_in (length (more ++ []) / 16) (more ++ [])) names
      ∙ ap (λ k. symbols_in k (more ++ []) (flat_map name_of o.symbols ++ [])) count
      ∙ symbols_back (length o.sections) t o.symbols [] [] (omega (arith, sections_few)) symbols_ok

  relocs_are : relocs_in front ≡ o.relocs
  relocs_are =
      relocs_back (length o.sections) (length o.symbols) (symbols_at o) o.sections o.relocs (omega (arith, symbols_few)) (omega (arith, sections_few)) refl relocs_ok sorted

  pub object_back : object_in version front (piece_of saber) (piece_of symtab) (piece_of strtab) (piece_of shstrtab) ≡ Some o
  object_back =
      ap (option_map (object_of front (piece_of symtab) (piece_of strtab) (piece_of shstrtab))) (frames_back version block_back (length o.symbols) (omega (arith, symbols_few)) o.frames frames_ok frames_few)
      ∙ (λ i. Some (record { sections = sections_are i; symbols = symbols_are i; relocs = relocs_are i; frames = o.frames }))
