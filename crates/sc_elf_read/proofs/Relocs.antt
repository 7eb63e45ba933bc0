-- The relocations of an object, written and read.
use Rattle.std.proofs.Common.{◌≡◌, ◌<◌, ◌≤◌, ◌^◌, ◌*◌, ◌/◌, ◌%◌, ◌+◌, ◌-◌, ◌==◌, ◌&&◌, ◌||◌, ℕ, suc, Bool, true, false, nat_lt, nat_le, List, [], ◌∷◌, ◌++◌, length, drop, take, map, sym, ap, ◌∙◌, subst, arith, refl, inl, inr}
use Rattle.std.specs.Prelude.{flat_map}
use Rattle.std.specs.List.{list_all}
use Rattle.std.proofs.lemmas.Bool.{and_parts, and_from, or_cases, cases_Bool, ltb-true, leb-true, le-leb, eqb-true, eqb-false, cond-true, cond-false, ne_eqb}
use Rattle.std.proofs.lemmas.List.{append_assoc, append-nil, take-append-drop}
use Rattle.std.proofs.lemmas.List.Concat.{flat_map-append}
use Rattle.std.proofs.lemmas.List.Folds.{flat_map-map, list_all-append}
use Rattle.sc_object.specs.declared.object.SectionKind.{SectionKind}
use Rattle.sc_object.specs.declared.object.SectionKind.TheVariants.{Text, Data, Rodata, Bss}
use Rattle.sc_object.specs.declared.object.Section.{Section}
use Rattle.sc_object.specs.declared.object.Reloc.{Reloc}
use Rattle.sc_object.specs.declared.part.Rela.{Rela}
use Rattle.sc_object.specs.Parts.{entry_of, entries, is_of, group_len, rela_of, with_group, relas, section_part, rela_part, type_of}
use Rattle.sc_object.specs.Reading.{is_word, is_kind, is_addend, is_reloc, by_sections}
use Rattle.sc_elf_read.specs.declared.piece.Piece.{Piece}
use Rattle.sc_elf_read.specs.Tables.{rows, reloc_in, relocs_of, relocs_in}
use Rattle.sc_elf_read.proofs.Words.{low, value_word, addend_back, rows_back, rows_length}
use Rattle.sc_elf_read.proofs.FramesRead.{word_back}
use Rattle.sc_elf_read.proofs.Laying.{piece_of}

kind_small : (n : ℕ) → is_kind n ≡ true → n < 256
kind_small n h =
    elim (or_cases (n == 1 || n == 19 || n == 26 || n == 27) (n == 28) h) [
      | inr e ↦ let f : n ≡ 28 = eqb-true n 28 e in omega arith
      | inl h4 ↦ elim (or_cases (n == 1 || n == 19 || n == 26) (n == 27) h4) [
        | inr e ↦ let f : n ≡ 27 = eqb-true n 27 e in omega arith
        | inl h3 ↦ elim (or_cases (n == 1 || n == 19) (n == 26) h3) [
          | inr e ↦ let f : n ≡ 26 = eqb-true n 26 e in omega arith
          | inl h2 ↦ elim (or_cases (n == 1) (n == 19) h2) [
            | inr e ↦ let f : n ≡ 19 = eqb-true n 19 e in omega arith
            | inl e ↦ let f : n ≡ 1 = eqb-true n 1 e in omega arith
          ]
        ]
      ]
    ]

kind_of_info : (s k : ℕ) → k < 256 → s < 2 ^ 24 - 1 → low ((s + 1) * 256 + k) % 256 ≡ k
kind_of_info s k a b = let e : low ((s + 1) * 256 + k) ≡ (s + 1) * 256 + k = value_word ((s + 1) * 256 + k) (omega arith) in omega arith

symbol_of_info : (s k : ℕ) → k < 256 → s < 2 ^ 24 - 1 → low ((s + 1) * 256 + k) / 256 - 1 ≡ s
symbol_of_info s k a b = let e : low ((s + 1) * 256 + k) ≡ (s + 1) * 256 + k = value_word ((s + 1) * 256 + k) (omega arith) in omega arith

module _ (sections symbols : ℕ) (few : symbols < 2 ^ 24) where
  -- a relocation of section n
  abbrev pub is_reloc_of : ℕ → Reloc → Bool
  is_reloc_of n r = is_of n r && is_reloc sections symbols r

  reloc_back : (n : ℕ) (r : Reloc) (more : List ℕ) → is_reloc_of n r ≡ true → reloc_in n (entry_of r ++ more) ≡ r
  reloc_back n r more h =
      let o = and_parts (is_of n r) (is_reloc sections symbols r) h in
      let t = and_parts (nat_lt r.section sections && is_word r.at && is_kind r.kind && nat_lt r.symbol symbols) (is_addend r.addend) o.1 in
      let u = and_parts (nat_lt r.section sections && is_word r.at && is_kind r.kind) (nat_lt r.symbol symbols) t.0 in
      let v = and_parts (nat_lt r.section sections && is_word r.at) (is_kind r.kind) u.0 in
      let w = and_parts (nat_lt r.section sections) (is_word r.at) v.0 in
      let below : r.symbol < symbols = ltb-true r.symbol symbols u.1 in
      let small : r.symbol < 2 ^ 24 - 1 = omega arith in
      let section : n ≡ r.section = sym (eqb-true r.section n o.0) in
      λ i. record {
        section = section i;
        at = word_back r.at w.1 i;
        kind = kind_of_info r.symbol r.kind (kind_small r.kind v.1) small i;
        symbol = symbol_of_info r.symbol r.kind (kind_small r.kind v.1) small i;
        addend = addend_back r.addend t.1 i;
      }

  -- the relocations of a section, from its part
  abbrev pub list_of : ℕ → Rela → List Reloc
  list_of table r = relocs_of (piece_of (rela_part table r))

  group_back : (table n : ℕ) (s : Section) (group : List Reloc) → n < 2 ^ 31 → list_all (is_reloc_of n) group ≡ true → list_of table (rela_of s (n + 1) group) ≡ group
  group_back table n s group small h =
      let number : low (n + 1) - 1 ≡ n = let e : low (n + 1) ≡ n + 1 = value_word (n + 1) (omega arith) in omega arith in
      let count : length (entries group) / 12 ≡ length group = omega (arith, rows_length entry_of 12 (λ r. refl) group) in
      ap (λ k. rows (reloc_in k) 12 (length (entries group) / 12) (entries group)) number
      ∙ ap (λ k. rows (reloc_in n) 12 k (entries group)) count
      ∙ ap (rows (reloc_in n) 12 (length group)) (sym (append-nil (entries group)))
      ∙ rows_back (reloc_in n) entry_of (is_reloc_of n) 12 (λ r m. refl) (reloc_back n) group [] h

  with_group_back : (table n : ℕ) (all : List Rela) (s : Section) (group : List Reloc) → n < 2 ^ 31 → list_all (is_reloc_of n) group ≡ true
      → flat_map (list_of table) (with_group all s n group) ≡ flat_map (list_of table) all ++ group
  with_group_back table n all s [] small h = sym (append-nil (flat_map (list_of table) all))
  with_group_back table n all s (r ∷ rs) small h =
      ap (flat_map (list_of table)) (cond-false (length (r ∷ rs) == 0) all (all ++ rela_of s (n + 1) (r ∷ rs) ∷ []) (ne_eqb (length (r ∷ rs)) 0 (λ e. omega arith)))
      ∙ flat_map-append (list_of table) all (rela_of s (n + 1) (r ∷ rs) ∷ [])
      ∙ ap (λ z. flat_map (list_of table) all ++ z) (append-nil (list_of table (rela_of s (n + 1) (r ∷ rs))) ∙ group_back table n s (r ∷ rs) small h)

  -- the relocations at the front are of the section, and those behind them of later ones
  front_is : (n : ℕ) (rs : List Reloc) → list_all (is_reloc sections symbols) rs ≡ true → list_all (is_reloc_of n) (take (group_len n rs) rs) ≡ true
  front_is n [] h = refl
  front_is n (r ∷ rs) h =
      let t = and_parts (is_reloc sections symbols r) (list_all (is_reloc sections symbols) rs) h in
      elim (cases_Bool (is_of n r)) [
        | inl e ↦
            let g : group_len n (r ∷ rs) ≡ suc (group_len n rs) = cond-true (is_of n r) (1 + group_len n rs) 0 e ∙ omega arith in
            ap (λ k. list_all (is_reloc_of n) (take k (r ∷ rs))) g
            ∙ and_from (is_reloc_of n r) (list_all (is_reloc_of n) (take (group_len n rs) rs)) (and_from (is_of n r) (is_reloc sections symbols r) e t.0) (front_is n rs t.1)
        | inr e ↦
            let g : group_len n (r ∷ rs) ≡ 0 = cond-false (is_of n r) (1 + group_len n rs) 0 e in
            ap (λ k. list_all (is_reloc_of n) (take k (r ∷ rs))) g
      ]

  rest_sorted : (n : ℕ) (rs : List Reloc) → by_sections n rs ≡ true → by_sections (n + 1) (drop (group_len n rs) rs) ≡ true
  rest_sorted n [] h = refl
  rest_sorted n (r ∷ rs) h =
      let t = and_parts (nat_le n r.section) (by_sections r.section rs) h in
      elim (cases_Bool (is_of n r)) [
        | inl e ↦
            let g : group_len n (r ∷ rs) ≡ suc (group_len n rs) = cond-true (is_of n r) (1 + group_len n rs) 0 e ∙ omega arith in
            let same : r.section ≡ n = eqb-true r.section n e in
            let sorted : by_sections n rs ≡ true = subst (λ k. by_sections k rs ≡ true) same t.1 in
            ap (λ k. by_sections (n + 1) (drop k (r ∷ rs))) g ∙ rest_sorted n rs sorted
        | inr e ↦
            let g : group_len n (r ∷ rs) ≡ 0 = cond-false (is_of n r) (1 + group_len n rs) 0 e in
            let least : n ≤ r.section = leb-true n r.section t.0 in
            let other : r.section ≡ n → ⊥ = eqb-false r.section n e in
            ap (λ k. by_sections (n + 1) (drop k (r ∷ rs))) g
            ∙ and_from (nat_le (n + 1) r.section) (by_sections r.section rs) (le-leb (n + 1) r.section (omega arith)) t.1
      ]

  rest_is : (k : ℕ) (rs : List Reloc) → list_all (is_reloc sections symbols) rs ≡ true → list_all (is_reloc sections symbols) (drop k rs) ≡ true
  rest_is k rs h =
      let p = is_reloc sections symbols in
      let whole : (list_all p (take k rs) && list_all p (drop k rs)) ≡ true =
      sym (list_all-append p (take k rs) (drop k rs)) ∙ ap (list_all p) (take-append-drop k rs) ∙ h in
      (and_parts (list_all p (take k rs)) (list_all p (drop k rs)) whole).1

  pub relas_back : (table n : ℕ) (ss : List Section) (rs : List Reloc) (all : List Rela) → sections < 2 ^ 31 → n + length ss ≡ sections
      → list_all (is_reloc sections symbols) rs ≡ true → by_sections n rs ≡ true
      → flat_map (list_of table) (relas rs all n ss) ≡ flat_map (list_of table) all ++ rs
  relas_back table n [] [] all small count h sorted = sym (append-nil (flat_map (list_of table) all))
  relas_back table n [] (r ∷ rs) all small count h sorted =
      let t = and_parts (is_reloc sections symbols r) (list_all (is_reloc sections symbols) rs) h in
      let u = and_parts (nat_lt r.section sections && is_word r.at && is_kind r.kind && nat_lt r.symbol symbols) (is_addend r.addend) t.0 in
      let v = and_parts (nat_lt r.section sections && is_word r.at && is_kind r.kind) (nat_lt r.symbol symbols) u.0 in
      let w = and_parts (nat_lt r.section sections && is_word r.at) (is_kind r.kind) v.0 in
      let x = and_parts (nat_lt r.section sections) (is_word r.at) w.0 in
      let below : r.section < sections = ltb-true r.section sections x.0 in
      let least : n ≤ r.section = leb-true n r.section (and_parts (nat_le n r.section) (by_sections r.section rs) sorted).0 in
      let no : ⊥ = omega arith in
      absurd no
  relas_back table n (s ∷ ss) rs all small count h sorted =
      let g : ℕ = group_len n rs in
      let next : n + 1 + length ss ≡ sections = omega arith in
      relas_back table (n + 1) ss (drop g rs) (with_group all s n (take g rs)) small next (rest_is g rs h) (rest_sorted n rs sorted)
      ∙ ap (λ z. z ++ drop g rs) (with_group_back table n all s (take g rs) (omega arith) (front_is n rs h))
      ∙ append_assoc (flat_map (list_of table) all) (take g rs) (drop g rs)
      ∙ ap (λ z. flat_map (list_of table) all ++ z) (take-append-drop g rs)

-- a section is no part of relocations
type_apart : (k : SectionKind) → (low (type_of k) == 4) ≡ false
type_apart Text = refl
type_apart Data = refl
type_apart Rodata = refl
type_apart Bss = refl

no_relocs : (s : Section) → relocs_of (piece_of (section_part s)) ≡ []
no_relocs s =
    let p : Piece = piece_of (section_part s) in
    cond-false (low (type_of s.kind) == 4) (rows (reloc_in (p.info - 1)) 12 (length p.bytes / 12) p.bytes) [] (type_apart s.kind)

sections_none : (ss : List Section) → relocs_in (map piece_of (map section_part ss)) ≡ []
sections_none [] = refl
sections_none (s ∷ ss) = ap (λ z. z ++ relocs_in (map piece_of (map section_part ss))) (no_relocs s) ∙ sections_none ss

pub relocs_back : (sections symbols table : ℕ) (ss : List Section) (rs : List Reloc) → symbols < 2 ^ 24 → sections < 2 ^ 31 → length ss ≡ sections
    → list_all (is_reloc sections symbols) rs ≡ true → by_sections 0 rs ≡ true
    → relocs_in (map piece_of (map section_part ss) ++ map piece_of (map (rela_part table) (relas rs [] 0 ss))) ≡ rs
relocs_back sections symbols table ss rs few small count h sorted =
    let all : List Rela = relas rs [] 0 ss in
    flat_map-append relocs_of (map piece_of (map section_part ss)) (map piece_of (map (rela_part table) all))
    ∙ ap (λ z. z ++ relocs_in (map piece_of (map (rela_part table) all))) (sections_none ss)
    ∙ flat_map-map relocs_of piece_of (map (rela_part table) all)
    ∙ flat_map-map (λ p. relocs_of (piece_of p)) (rela_part table) all
    ∙ relas_back sections symbols few table 0 ss rs [] small (omega arith) h sorted
