-- What a reading finds, and that it finds each object by its file.
use Rattle.std.proofs.Common.{◌≡◌, ◌⊎◌, inl, inr, ◌<◌, ◌≤◌, ◌*◌, ◌+◌, ◌-◌, ℕ, true, nat_lt, List, [], ◌∷◌, ◌++◌, length, drop, take, get_or, Some, None, sym, ap, ◌∙◌, subst, arith, refl}
use Rattle.std.proofs.lemmas.Bool.{cases_Bool, cond-true, cond-false}
use Rattle.std.proofs.lemmas.List.{length-append, length-take, take_at, drop_at, take_all, take-take}
use Rattle.sc_object.specs.declared.object.Object.{Object}
use Rattle.sc_object.specs.Spelling.{spelled, spelled_as}
use Rattle.sc_object.specs.Reading.{is_spellable, IsSpellable, IsFileOf, end_of, value_of}
use Rattle.sc_elf_read.specs.declared.field.Field.{Field}
use Rattle.sc_elf_read.specs.declared.field.Field.TheVariants.{SectionEntry, End}
use Rattle.sc_elf_read.specs.declared.field.ElfFault.{ElfFault}
use Rattle.sc_elf_read.specs.declared.field.ElfFault.TheVariants.{Truncated, BadField, BadReloc, NoMemory}
use Rattle.sc_elf_read.specs.declared.piece.Piece.{Piece}
use Rattle.sc_elf_read.specs.Parsed.{file_pieces, object_in, object_from, parsed_pieces, parsed}
use Rattle.sc_elf_read.specs.Fields.{IsWrong}
use Rattle.sc_elf_read.specs.Tests.{wrong_header, wrong_rest}
use Rattle.sc_elf_read.proofs.FramesRead.{block_back_1, block_back_2}
use Rattle.sc_elf_read.proofs.Laying.{piece_of}
use Rattle.sc_elf_read.proofs.Whole.{front, saber, symtab, strtab, shstrtab, pieces_are, object_back, whole_ends}
use Rattle.sc_elf_read.proofs.Headers.{same_front, refused_field, found, little, other, short, right}

-- the last four sections of a file
last_four : (ps : List Piece) (s t n m : Piece) → length (ps ++ s ∷ t ∷ n ∷ m ∷ []) - 4 ≡ length ps
last_four ps s t n m = omega (arith, length-append ps (s ∷ t ∷ n ∷ m ∷ []))

four : (version : ℕ) (ps : List Piece) (s t n m : Piece) → parsed_pieces version (ps ++ s ∷ t ∷ n ∷ m ∷ []) ≡ object_in version ps s t n m
four version ps s t n m =
    let all : List Piece = ps ++ s ∷ t ∷ n ∷ m ∷ [] in
    let k : length ps ≡ length all - 4 = sym (last_four ps s t n m) in
    let a : take (length all - 4) all ≡ ps = take_at ps (s ∷ t ∷ n ∷ m ∷ []) (length all - 4) k in
    let b : drop (length all - 4) all ≡ s ∷ t ∷ n ∷ m ∷ [] = drop_at ps (s ∷ t ∷ n ∷ m ∷ []) (length all - 4) k in
    λ i. object_from version (a i) (b i)

parsed_back_1 : (o : Object) → is_spellable 1 o ≡ true → parsed 1 (spelled_as 1 o) ≡ Some o
parsed_back_1 o ok =
    ap (parsed_pieces 1) (pieces_are 1 block_back_1 o ok)
    ∙ four 1 (front 1 block_back_1 o ok) (piece_of (saber 1 block_back_1 o ok)) (piece_of (symtab 1 block_back_1 o ok)) (piece_of (strtab 1 block_back_1 o ok)) (piece_of (shstrtab 1 block_back_1 o ok))
    ∙ object_back 1 block_back_1 o ok

parsed_back_2 : (o : Object) → is_spellable 2 o ≡ true → parsed 2 (spelled_as 2 o) ≡ Some o
parsed_back_2 o ok =
    ap (parsed_pieces 2) (pieces_are 2 block_back_2 o ok)
    ∙ four 2 (front 2 block_back_2 o ok) (piece_of (saber 2 block_back_2 o ok)) (piece_of (symtab 2 block_back_2 o ok)) (piece_of (strtab 2 block_back_2 o ok)) (piece_of (shstrtab 2 block_back_2 o ok))
    ∙ object_back 2 block_back_2 o ok

pub parsed_back : (version : ℕ) (bytes : List ℕ) (o : Object) → (version ≡ 1) ⊎ (version ≡ 2) → IsFileOf version o bytes → parsed version bytes ≡ Some o
parsed_back version bytes o (inl e) file =
    let ok : is_spellable 1 o ≡ true = subst (λ v. is_spellable v o ≡ true) e file.0 in
    let same : spelled_as 1 o ≡ bytes = subst (λ v. spelled_as v o ≡ bytes) e file.1 in
    ap (λ v. parsed v bytes) e ∙ ap (parsed 1) (sym same) ∙ parsed_back_1 o ok
parsed_back version bytes o (inr e) file =
    let ok : is_spellable 2 o ≡ true = subst (λ v. is_spellable v o ≡ true) e file.0 in
    let same : spelled_as 2 o ≡ bytes = subst (λ v. spelled_as v o ≡ bytes) e file.1 in
    ap (λ v. parsed v bytes) e ∙ ap (parsed 2) (sym same) ∙ parsed_back_2 o ok

-- the first byte of the frame tables
abbrev first_of : List Piece → ℕ
first_of [] = 0
first_of (p ∷ ps) = get_or p.bytes 0 0

abbrev version_in : List ℕ → ℕ
version_in bytes = first_of (drop (length (file_pieces bytes) - 4) (file_pieces bytes))

version_1 : (o : Object) → is_spellable 1 o ≡ true → version_in (spelled_as 1 o) ≡ 1
version_1 o ok =
    let ps : List Piece = front 1 block_back_1 o ok in
    let s : Piece = piece_of (saber 1 block_back_1 o ok) in
    let t : Piece = piece_of (symtab 1 block_back_1 o ok) in
    let n : Piece = piece_of (strtab 1 block_back_1 o ok) in
    let m : Piece = piece_of (shstrtab 1 block_back_1 o ok) in
    ap (λ z. first_of (drop (length z - 4) z)) (pieces_are 1 block_back_1 o ok)
    ∙ ap first_of (drop_at ps (s ∷ t ∷ n ∷ m ∷ []) (length (ps ++ s ∷ t ∷ n ∷ m ∷ []) - 4) (sym (last_four ps s t n m)))

version_2 : (o : Object) → is_spellable 2 o ≡ true → version_in (spelled_as 2 o) ≡ 2
version_2 o ok =
    let ps : List Piece = front 2 block_back_2 o ok in
    let s : Piece = piece_of (saber 2 block_back_2 o ok) in
    let t : Piece = piece_of (symtab 2 block_back_2 o ok) in
    let n : Piece = piece_of (strtab 2 block_back_2 o ok) in
    let m : Piece = piece_of (shstrtab 2 block_back_2 o ok) in
    ap (λ z. first_of (drop (length z - 4) z)) (pieces_are 2 block_back_2 o ok)
    ∙ ap first_of (drop_at ps (s ∷ t ∷ n ∷ m ∷ []) (length (ps ++ s ∷ t ∷ n ∷ m ∷ []) - 4) (sym (last_four ps s t n m)))

pub versions_differ : (a b : Object) (bytes : List ℕ) → IsFileOf 1 a bytes → IsFileOf 2 b bytes → ⊥
versions_differ a b bytes f g =
    let e : version_in bytes ≡ 1 = ap version_in (sym f.1) ∙ version_1 a f.0 in
    let h : version_in bytes ≡ 2 = ap version_in (sym g.1) ∙ version_2 b g.0 in
    let no : 1 ≡ 2 = sym e ∙ h in
    absurd (omega (arith, no))

pub file_ends : (o : Object) → IsSpellable o → end_of (spelled o) ≡ length (spelled o)
file_ends o ok = whole_ends 2 block_back_2 o ok

pub file_not_short : (version : ℕ) (bytes : List ℕ) (o : Object) → (version ≡ 1) ⊎ (version ≡ 2) → IsFileOf version o bytes → length bytes < end_of bytes → ⊥
file_not_short version bytes o (inl e) file early =
    let ok : is_spellable 1 o ≡ true = subst (λ v. is_spellable v o ≡ true) e file.0 in
    let same : spelled_as 1 o ≡ bytes = subst (λ v. spelled_as v o ≡ bytes) e file.1 in
    let end : end_of bytes ≡ length bytes = subst (λ z. end_of z ≡ length z) same (whole_ends 1 block_back_1 o ok) in
    absurd (omega (arith, end, early))
file_not_short version bytes o (inr e) file early =
    let ok : is_spellable 2 o ≡ true = subst (λ v. is_spellable v o ≡ true) e file.0 in
    let same : spelled_as 2 o ≡ bytes = subst (λ v. spelled_as v o ≡ bytes) e file.1 in
    let end : end_of bytes ≡ length bytes = subst (λ z. end_of z ≡ length z) same (whole_ends 2 block_back_2 o ok) in
    absurd (omega (arith, end, early))

-- bytes that begin with another list's header end as it does
same_end : (xs ys : List ℕ) (n : ℕ) → 52 ≤ n → take n xs ≡ take n ys → end_of xs ≡ end_of ys
same_end xs ys n fits e =
    let k : n ≡ 52 + (n - 52) = omega arith in
    let part : (at w : ℕ) → at + w ≤ n → take w (drop at xs) ≡ take w (drop at ys) =
    λ at w le. same_front xs ys at w (sym (take-take (at + w) n xs le) ∙ ap (take (at + w)) e ∙ take-take (at + w) n ys le) in
    (λ i. value_of (part 32 4 (omega arith) i) + 40 * value_of (part 48 2 (omega arith) i))

all_wrong : (bytes : List ℕ) (o : Object) → 52 ≤ length bytes → end_of bytes ≤ length bytes → (IsFileOf 2 o bytes → ⊥) → IsSpellable o
    → take (length bytes) (spelled o) ≡ take (length bytes) bytes → ⊥
all_wrong bytes o big ended none ok alike =
    let end : end_of (spelled o) ≡ end_of bytes = same_end (spelled o) bytes (length bytes) big alike in
    let whole : end_of (spelled o) ≡ length (spelled o) = file_ends o ok in
    let small : length (spelled o) ≤ length bytes = omega (arith, end, whole, ended) in
    let same : spelled o ≡ bytes = sym (take_all (length bytes) (spelled o) small) ∙ alike ∙ take_all (length bytes) bytes (omega arith) in
    none (ok, same)

-- bytes that are no file are wrong as a whole
abbrev field_at : ElfFault → Field × ℕ → Field × ℕ
field_at (Truncated n) d = d
field_at (BadField f at) d = (f, at)
field_at (BadReloc at) d = d
field_at NoMemory d = d

pub rest_wrong : (bytes : List ℕ) (f : Field) (at : ℕ) → 52 ≤ length bytes → end_of bytes ≤ length bytes → ((o : Object) → IsFileOf 2 o bytes → ⊥)
    → wrong_rest bytes ≡ BadField f at → IsWrong bytes f at
rest_wrong bytes f at big ended none e =
    let no : (o : Object) → IsSpellable o → take (length bytes) (spelled o) ≡ take (length bytes) bytes → ⊥ =
    λ o ok alike. all_wrong bytes o big ended (none o) ok alike in
    elim (cases_Bool (nat_lt (end_of bytes) (length bytes))) [
      | inl t ↦
          let q : BadField End (end_of bytes) ≡ BadField f at = sym (cond-true (nat_lt (end_of bytes) (length bytes)) (BadField End (end_of bytes)) (BadField SectionEntry (length bytes - 4)) t) ∙ e in
          let len : end_of bytes + (length bytes - end_of bytes) ≡ length bytes = omega arith in
          subst (λ z. IsWrong bytes z.0 z.1) (ap (λ z. field_at z (f, at)) q)
          (record { placed = refl; none = λ o ok alike. no o ok (subst (λ k. take k (spelled o) ≡ take k bytes) len alike) })
      | inr t ↦
          let q : BadField SectionEntry (length bytes - 4) ≡ BadField f at = sym (cond-false (nat_lt (end_of bytes) (length bytes)) (BadField End (end_of bytes)) (BadField SectionEntry (length bytes - 4)) t) ∙ e in
          let len : length bytes - 4 + 4 ≡ length bytes = omega arith in
          subst (λ z. IsWrong bytes z.0 z.1) (ap (λ z. field_at z (f, at)) q)
          (record { placed = refl; none = λ o ok alike. no o ok (subst (λ k. take k (spelled o) ≡ take k bytes) len alike) })
    ]

pub rest_not_short : (bytes : List ℕ) (n : ℕ) → wrong_rest bytes ≡ Truncated n → ⊥
rest_not_short bytes n e =
    elim (cases_Bool (nat_lt (end_of bytes) (length bytes))) [
      | inl t ↦ let q : BadField End (end_of bytes) ≡ Truncated n = sym (cond-true (nat_lt (end_of bytes) (length bytes)) (BadField End (end_of bytes)) (BadField SectionEntry (length bytes - 4)) t) ∙ e in cc
      | inr t ↦ let q : BadField SectionEntry (length bytes - 4) ≡ Truncated n = sym (cond-false (nat_lt (end_of bytes) (length bytes)) (BadField End (end_of bytes)) (BadField SectionEntry (length bytes - 4)) t) ∙ e in cc
    ]

pub rest_no_reloc : (bytes : List ℕ) (n : ℕ) → wrong_rest bytes ≡ BadReloc n → ⊥
rest_no_reloc bytes n e =
    elim (cases_Bool (nat_lt (end_of bytes) (length bytes))) [
      | inl t ↦ let q : BadField End (end_of bytes) ≡ BadReloc n = sym (cond-true (nat_lt (end_of bytes) (length bytes)) (BadField End (end_of bytes)) (BadField SectionEntry (length bytes - 4)) t) ∙ e in cc
      | inr t ↦ let q : BadField SectionEntry (length bytes - 4) ≡ BadReloc n = sym (cond-false (nat_lt (end_of bytes) (length bytes)) (BadField End (end_of bytes)) (BadField SectionEntry (length bytes - 4)) t) ∙ e in cc
    ]

pub rest_has_memory : (bytes : List ℕ) → wrong_rest bytes ≡ NoMemory → ⊥
rest_has_memory bytes e =
    elim (cases_Bool (nat_lt (end_of bytes) (length bytes))) [
      | inl t ↦ let q : BadField End (end_of bytes) ≡ NoMemory = sym (cond-true (nat_lt (end_of bytes) (length bytes)) (BadField End (end_of bytes)) (BadField SectionEntry (length bytes - 4)) t) ∙ e in cc
      | inr t ↦ let q : BadField SectionEntry (length bytes - 4) ≡ NoMemory = sym (cond-false (nat_lt (end_of bytes) (length bytes)) (BadField End (end_of bytes)) (BadField SectionEntry (length bytes - 4)) t) ∙ e in cc
    ]

-- the header of a file is right
header_whole : (o : Object) → length (take 52 (spelled o)) ≡ 52
header_whole o = refl

header_stands : (o : Object) → 52 ≤ length (spelled o)
header_stands o = omega (arith, length-take 52 (spelled o), header_whole o)

pub file_passes : (o : Object) → IsSpellable o → wrong_header (spelled o) ≡ None
file_passes o ok =
    elim (found (spelled o)) [
      | little l w ↦ absurd (omega (arith, l, header_stands o))
      | other r l f w ↦ absurd ((refused_field (spelled o) r.0 r.1 w).none o ok refl)
      | short l f s w ↦ absurd (omega (arith, s, file_ends o ok))
      | right l f s w ↦ w
    ]
