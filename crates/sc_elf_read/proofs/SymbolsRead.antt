-- The table of symbols, written and read.
use Rattle.std.proofs.Common.{◌≡◌, ◌<◌, ◌*◌, ◌%◌, ◌+◌, ◌-◌, ◌==◌, ◌&&◌, ℕ, suc, Bool, true, false, nat_lt, nat_le, if◌then◌else◌, List, [], ◌∷◌, ◌++◌, length, Option, Some, None, sym, ap, ◌∙◌, arith, refl}
use Rattle.std.specs.Prelude.{flat_map, fold}
use Rattle.std.specs.List.{list_all}
use Rattle.std.proofs.lemmas.Bool.{and_parts, ltb-true, cond-false, ne_eqb, le-leb, lt-leb}
use Rattle.std.proofs.lemmas.List.{append_assoc, append-nil, length-append}
use Rattle.sc_object.specs.declared.object.Symbol.{Symbol}
use Rattle.sc_object.specs.declared.part.SymbolTable.{SymbolTable}
use Rattle.sc_object.specs.Words.{half}
use Rattle.sc_object.specs.Parts.{number_of, symbol_entry, with_symbol}
use Rattle.sc_object.specs.Reading.{value_of, is_name, is_below, is_word, is_symbol}
use Rattle.sc_elf_read.specs.Pieces.{text, behind_text}
use Rattle.sc_elf_read.specs.Tables.{section_at, symbol_in, symbols_in}
use Rattle.sc_elf_read.proofs.Words.{value_half}
use Rattle.sc_elf_read.proofs.FramesRead.{word_back}
use Rattle.sc_elf_read.proofs.Texts.{text_back, behind_back}

abbrev pub more_entries : SymbolTable → List Symbol → List ℕ
more_entries t [] = []
more_entries t (s ∷ ss) = symbol_entry (length t.names) s ++ more_entries (with_symbol t s) ss

abbrev pub name_of : Symbol → List ℕ
name_of s = s.name ++ 0 ∷ []

pub entries_are : (t : SymbolTable) (ss : List Symbol) → (fold with_symbol t ss).entries ≡ t.entries ++ more_entries t ss
entries_are t [] = sym (append-nil t.entries)
entries_are t (s ∷ ss) = entries_are (with_symbol t s) ss ∙ append_assoc t.entries (symbol_entry (length t.names) s) (more_entries (with_symbol t s) ss)

pub symbol_names_are : (t : SymbolTable) (ss : List Symbol) → (fold with_symbol t ss).names ≡ t.names ++ flat_map name_of ss
symbol_names_are t [] = sym (append-nil t.names)
symbol_names_are t (s ∷ ss) =
    symbol_names_are (with_symbol t s) ss
    ∙ ap (λ z. z ++ flat_map name_of ss) (append_assoc t.names s.name (0 ∷ []))
    ∙ append_assoc t.names (name_of s) (flat_map name_of ss)

pub entries_length : (t : SymbolTable) (ss : List Symbol) → length (more_entries t ss) ≡ length ss * 16
entries_length t [] = refl
entries_length t (s ∷ ss) = length-append (symbol_entry (length t.names) s) (more_entries (with_symbol t s) ss) ∙ omega (arith, entries_length (with_symbol t s) ss)

global_back : (g : Bool) (k : ℕ) → k < 3 → nat_le 16 (if g then 16 + k % 16 else k % 16) ≡ g
global_back true k h = le-leb 16 (16 + k % 16) (omega arith)
global_back false k h = lt-leb 16 (k % 16) (omega arith)

type_back : (g : Bool) (k : ℕ) → k < 3 → (if g then 16 + k % 16 else k % 16) % 16 ≡ k
type_back true k h = omega arith
type_back false k h = omega arith

section_back : (n : ℕ) (s : Option ℕ) → n < 65280 → is_below n s ≡ true → section_at (value_of (half (number_of s))) ≡ s
section_back n None few h = refl
section_back n (Some k) few h =
    let below : k < n = ltb-true k n h in
    let number : value_of (half (k + 1)) ≡ k + 1 = value_half (k + 1) (omega arith) in
    ap section_at number
    ∙ cond-false (k + 1 == 0) None (Some (k + 1 - 1)) (ne_eqb (k + 1) 0 (λ e. omega (arith, e)))
    ∙ ap Some (omega arith)

symbol_back : (n at : ℕ) (s : Symbol) (more : List ℕ) → n < 65280 → is_symbol n s ≡ true → symbol_in (symbol_entry at s ++ more) s.name ≡ s
symbol_back n at s more few h =
    let t = and_parts (is_name s.name && is_below n s.section && nat_lt s.kind 3) (is_word s.size) h in
    let u = and_parts (is_name s.name && is_below n s.section) (nat_lt s.kind 3) t.0 in
    let v = and_parts (is_name s.name) (is_below n s.section) u.0 in
    let below : s.kind < 3 = ltb-true s.kind 3 u.1 in
    λ i. record {
      name = s.name;
      section = section_back n s.section few v.1 i;
      global = global_back s.global s.kind below i;
      kind = type_back s.global s.kind below i;
      size = word_back s.size t.1 i;
    }

pub symbols_back : (n : ℕ) (t : SymbolTable) (ss : List Symbol) (behind more : List ℕ) → n < 65280 → list_all (is_symbol n) ss ≡ true
    → symbols_in (length ss) (more_entries t ss ++ behind) (flat_map name_of ss ++ more) ≡ ss
symbols_back n t [] behind more few h = refl
symbols_back n t (s ∷ ss) behind more few h =
    let p = and_parts (is_symbol n s) (list_all (is_symbol n) ss) h in
    let q = and_parts (is_name s.name && is_below n s.section && nat_lt s.kind 3) (is_word s.size) p.0 in
    let r = and_parts (is_name s.name && is_below n s.section) (nat_lt s.kind 3) q.0 in
    let v = and_parts (is_name s.name) (is_below n s.section) r.0 in
    let entry : List ℕ = symbol_entry (length t.names) s in
    let entries : List ℕ = more_entries (with_symbol t s) ss ++ behind in
    let names : List ℕ = flat_map name_of ss ++ more in
    let front : (entry ++ more_entries (with_symbol t s) ss) ++ behind ≡ entry ++ entries = append_assoc entry (more_entries (with_symbol t s) ss) behind in
    let named : ((s.name ++ 0 ∷ []) ++ flat_map name_of ss) ++ more ≡ s.name ++ 0 ∷ names = simp append_assoc in
    let first : symbol_in (entry ++ entries) (text (s.name ++ 0 ∷ names)) ≡ s =
    ap (symbol_in (entry ++ entries)) (text_back s.name names v.0) ∙ symbol_back n (length t.names) s entries few p.0 in
    let rest : symbols_in (length ss) entries (behind_text (s.name ++ 0 ∷ names)) ≡ ss =
    ap (symbols_in (length ss) entries) (behind_back s.name names v.0) ∙ symbols_back n (with_symbol t s) ss behind more few p.1 in
    ap (λ z. symbols_in (suc (length ss)) z (((s.name ++ 0 ∷ []) ++ flat_map name_of ss) ++ more)) front
    ∙ ap (symbols_in (suc (length ss)) (entry ++ entries)) named
    ∙ (λ i. first i ∷ rest i)
