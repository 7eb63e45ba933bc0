-- The sections of an object, written and read.
use Rattle.std.proofs.Common.{◌≡◌, ◌==◌, ◌&&◌, ℕ, true, List, [], ◌∷◌, ◌++◌, length, map, Some, None, sym, ap, ◌∙◌, refl}
use Rattle.std.specs.Prelude.{flat_map}
use Rattle.std.specs.List.{list_all}
use Rattle.std.proofs.lemmas.Bool.{and_parts, eqb-true}
use Rattle.std.proofs.lemmas.List.{append_assoc, append-nil}
use Rattle.sc_object.specs.declared.object.SectionKind.{SectionKind}
use Rattle.sc_object.specs.declared.object.SectionKind.TheVariants.{Text, Data, Rodata, Bss}
use Rattle.sc_object.specs.declared.object.Section.{Section}
use Rattle.sc_object.specs.declared.part.Rela.{Rela}
use Rattle.sc_object.specs.Parts.{prefix, type_of, flags_of, section_part, rela_part}
use Rattle.sc_object.specs.Reading.{is_name, held, is_word, is_section}
use Rattle.sc_elf_read.specs.declared.piece.Piece.{Piece}
use Rattle.sc_elf_read.specs.Pieces.{held_by, text, behind_text}
use Rattle.sc_elf_read.specs.Tables.{kind_of, section_in, named, sections_in}
use Rattle.sc_elf_read.proofs.Words.{low}
use Rattle.sc_elf_read.proofs.FramesRead.{word_back}
use Rattle.sc_elf_read.proofs.Texts.{text_back, behind_back}
use Rattle.sc_elf_read.proofs.Laying.{piece_of, with_zero}

kind_back : (k : SectionKind) → kind_of (low (type_of k)) (low (flags_of k)) ≡ Some k
kind_back Text = refl
kind_back Data = refl
kind_back Rodata = refl
kind_back Bss = refl

named_back : (k : SectionKind) (rest : List ℕ) → named k (prefix k ++ rest) ≡ rest
named_back Text rest = refl
named_back Data rest = refl
named_back Rodata rest = refl
named_back Bss rest = refl

held_back : (k : SectionKind) (size : ℕ) → held_by (low (type_of k)) size ≡ held k size
held_back Text size = refl
held_back Data size = refl
held_back Rodata size = refl
held_back Bss size = refl

pub section_held : (s : Section) → is_section s ≡ true → length (section_part s).bytes ≡ held_by (low (section_part s).kind) (low (section_part s).size)
section_held s h =
    let t = and_parts (is_name s.name && (length s.bytes == held s.kind s.size)) (is_word s.size) h in
    let u = and_parts (is_name s.name) (length s.bytes == held s.kind s.size) t.0 in
    eqb-true (length s.bytes) (held s.kind s.size) u.1
    ∙ ap (held s.kind) (sym (word_back s.size t.1))
    ∙ sym (held_back s.kind (low s.size))

-- a part of relocations is no section
pub relas_none : (all : List Section) (symbols : ℕ) (rs : List Rela) (names : List ℕ) → sections_in all (map piece_of (map (rela_part symbols) rs)) names ≡ all
relas_none all symbols [] names = refl
relas_none all symbols (r ∷ rs) names = relas_none all symbols rs names

pub sections_back : (all ss : List Section) (symbols : ℕ) (rs : List Rela) (more : List ℕ) → list_all is_section ss ≡ true
    → sections_in all (map piece_of (map section_part ss) ++ map piece_of (map (rela_part symbols) rs)) (flat_map with_zero (map section_part ss) ++ more) ≡ all ++ ss
sections_back all [] symbols rs more h = relas_none all symbols rs more ∙ sym (append-nil all)
sections_back all (s ∷ ss) symbols rs more h =
    let t = and_parts (is_section s) (list_all is_section ss) h in
    let u = and_parts (is_name s.name && (length s.bytes == held s.kind s.size)) (is_word s.size) t.0 in
    let v = and_parts (is_name s.name) (length s.bytes == held s.kind s.size) u.0 in
    let ps : List Piece = map piece_of (map section_part ss) ++ map piece_of (map (rela_part symbols) rs) in
    let p : Piece = piece_of (section_part s) in
    let behind : List ℕ = flat_map with_zero (map section_part ss) ++ more in
    let names : List ℕ = (((prefix s.kind ++ s.name) ++ 0 ∷ []) ++ flat_map with_zero (map section_part ss)) ++ more in
    let front : names ≡ prefix s.kind ++ (s.name ++ 0 ∷ behind) = simp append_assoc in
    let own : named s.kind names ≡ s.name ++ 0 ∷ behind = ap (named s.kind) front ∙ named_back s.kind (s.name ++ 0 ∷ behind) in
    let name : text (named s.kind names) ≡ s.name = ap text own ∙ text_back s.name behind v.0 in
    let rest : behind_text (named s.kind names) ≡ behind = ap behind_text own ∙ behind_back s.name behind v.0 in
    let same : section_in s.kind p s.name ≡ s = λ i. record { name = s.name; kind = s.kind; bytes = s.bytes; size = word_back s.size u.1 i } in
    ap (λ o. elim o as (λ _. List Section) [
      | None ↦ sections_in all ps names
      | Some kind ↦ sections_in (all ++ section_in kind p (text (named kind names)) ∷ []) ps (behind_text (named kind names))
    ]) (kind_back s.kind)
    ∙ ap (λ n. sections_in (all ++ section_in s.kind p n ∷ []) ps (behind_text (named s.kind names))) name
    ∙ ap (sections_in (all ++ section_in s.kind p s.name ∷ []) ps) rest
    ∙ ap (λ z. sections_in (all ++ z ∷ []) ps behind) same
    ∙ sections_back (all ++ s ∷ []) ss symbols rs more t.1
    ∙ append_assoc all (s ∷ []) ss
