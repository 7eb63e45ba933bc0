-- What a reading refuses for the header alone, and why.
use Rattle.std.proofs.Common.{◌≡◌, ◌≢◌, ◌⊎◌, inl, inr, ◌<◌, ◌≤◌, ◌+◌, ℕ, false, nat_lt, List, [], ◌∷◌, ◌++◌, length, drop, take, Option, Some, None, zero, suc, sym, ap, ◌∙◌, subst, arith, refl}
use Rattle.std.specs.Prelude.{unwrap_or}
use Rattle.std.specs.Cmp.Lexicographic.{bytes_decides}
use Rattle.std.proofs.lemmas.Bool.{cases_Bool, cond-true, cond-false, both_ways, ltb-true, ltb-false}
use Rattle.std.proofs.lemmas.List.{drop-take, drop-drop, take-take}
use Rattle.sc_object.specs.declared.object.Object.{Object}
use Rattle.sc_object.specs.Words.{half, word}
use Rattle.sc_object.specs.Spelling.{ident, before_shoff, behind_shoff, spelled}
use Rattle.sc_object.specs.Reading.{IsSpellable, HasFixedFields, IsShort, end_of}
use Rattle.sc_elf_read.specs.declared.field.Field.{Field}
use Rattle.sc_elf_read.specs.declared.field.ElfFault.{ElfFault}
use Rattle.sc_elf_read.specs.declared.field.ElfFault.TheVariants.{Truncated, BadField, BadReloc, NoMemory}
use Rattle.sc_elf_read.specs.Fields.{place, width, IsWrong}
use Rattle.sc_elf_read.specs.Tests.{Fixed, fixed_before, fixed_behind, has, wrong_of, or_else, wrong_field, too_short, wrong_fields, wrong_header}

-- each file has these bytes at these places
abbrev pub AllFixed : List Fixed → Type 0
AllFixed [] = Unit {0}
AllFixed (r ∷ rs) = (((o : Object) → take (length r.bytes) (drop r.at (spelled o)) ≡ r.bytes) × (((bytes : List ℕ) → width bytes r.field r.at ≡ length r.bytes) × ((bytes : List ℕ) → r.at ≡ place bytes r.field))) × AllFixed rs

before_fixed : AllFixed fixed_before
before_fixed =
    ((λ o. refl, (λ bs. refl, λ bs. refl)), ((λ o. refl, (λ bs. refl, λ bs. refl)), ((λ o. refl, (λ bs. refl, λ bs. refl)), ((λ o. refl, (λ bs. refl, λ bs. refl)), ((λ o. refl, (λ bs. refl, λ bs. refl)), ((λ o. refl, (λ bs. refl, λ bs. refl)), tt))))))

behind_fixed : AllFixed fixed_behind
behind_fixed = ((λ o. refl, (λ bs. refl, λ bs. refl)), ((λ o. refl, (λ bs. refl, λ bs. refl)), ((λ o. refl, (λ bs. refl, λ bs. refl)), ((λ o. refl, (λ bs. refl, λ bs. refl)), ((λ o. refl, (λ bs. refl, λ bs. refl)), tt)))))

-- lists that begin alike have the same bytes at each place there
pub same_front : (xs ys : List ℕ) (at w : ℕ) → take (at + w) xs ≡ take (at + w) ys → take w (drop at xs) ≡ take w (drop at ys)
same_front xs ys at w e = sym (drop-take at w xs) ∙ ap (drop at) e ∙ drop-take at w ys

none_begins : (bytes : List ℕ) (r : Fixed) → ((o : Object) → take (length r.bytes) (drop r.at (spelled o)) ≡ r.bytes) → ((bs : List ℕ) → width bs r.field r.at ≡ length r.bytes)
    → has bytes r.at r.bytes ≡ false → (o : Object) → IsSpellable o → take (r.at + width bytes r.field r.at) (spelled o) ≢ take (r.at + width bytes r.field r.at) bytes
none_begins bytes r whole wide h o ok e =
    let w : ℕ = length r.bytes in
    let f : take (r.at + w) (spelled o) ≡ take (r.at + w) bytes = subst (λ k. take (r.at + k) (spelled o) ≡ take (r.at + k) bytes) (wide bytes) e in
    let g : take w (drop r.at bytes) ≡ r.bytes = sym (same_front (spelled o) bytes r.at w f) ∙ whole o in
    both_ways (has bytes r.at r.bytes) h ((bytes_decides (take w (drop r.at bytes)) r.bytes).1 g)

wrong_row : (bytes : List ℕ) (r : Fixed) → ((o : Object) → take (length r.bytes) (drop r.at (spelled o)) ≡ r.bytes) → ((bs : List ℕ) → width bs r.field r.at ≡ length r.bytes)
    → ((bs : List ℕ) → r.at ≡ place bs r.field) → has bytes r.at r.bytes ≡ false → IsWrong bytes r.field r.at
wrong_row bytes r whole wide stands h = record { placed = stands bytes; none = none_begins bytes r whole wide h }

wrong_rows : (rs : List Fixed) (bytes : List ℕ) (f : Field) (at : ℕ) → AllFixed rs → wrong_of rs bytes ≡ Some (f, at) → IsWrong bytes f at
wrong_rows [] bytes f at all e = absurd (cc)
wrong_rows (r ∷ rs) bytes f at all e =
    elim (cases_Bool (has bytes r.at r.bytes)) [
      | inl t ↦ wrong_rows rs bytes f at all.1 (sym (cond-true (has bytes r.at r.bytes) (wrong_of rs bytes) (Some (r.field, r.at)) t) ∙ e)
      | inr n ↦
          let p : Some (r.field, r.at) ≡ Some (f, at) = sym (cond-false (has bytes r.at r.bytes) (wrong_of rs bytes) (Some (r.field, r.at)) n) ∙ e in
          let q : (r.field, r.at) ≡ (f, at) = ap (λ o. unwrap_or o (r.field, r.at)) p in
          subst (λ z. IsWrong bytes z.0 z.1) q (wrong_row bytes r all.0.0 all.0.1.0 all.0.1.1 n)
    ]

-- these bytes stand there
abbrev pub AllHave : List Fixed → List ℕ → Type 0
AllHave [] bytes = Unit {0}
AllHave (r ∷ rs) bytes = (take (length r.bytes) (drop r.at bytes) ≡ r.bytes) × AllHave rs bytes

right_rows : (rs : List Fixed) (bytes : List ℕ) → wrong_of rs bytes ≡ None → AllHave rs bytes
right_rows [] bytes e = tt
right_rows (r ∷ rs) bytes e =
    elim (cases_Bool (has bytes r.at r.bytes)) [
      | inl t ↦ (
        (bytes_decides (take (length r.bytes) (drop r.at bytes)) r.bytes).0 t,
        right_rows rs bytes (sym (cond-true (has bytes r.at r.bytes) (wrong_of rs bytes) (Some (r.field, r.at)) t) ∙ e),
      )
      | inr n ↦
          let p : Some (r.field, r.at) ≡ None = sym (cond-false (has bytes r.at r.bytes) (wrong_of rs bytes) (Some (r.field, r.at)) n) ∙ e in
          absurd (cc)
    ]

none_wrong : (rs : List Fixed) (bytes : List ℕ) → AllHave rs bytes → wrong_of rs bytes ≡ None
none_wrong [] bytes h = refl
none_wrong (r ∷ rs) bytes h =
    cond-true (has bytes r.at r.bytes) (wrong_of rs bytes) (Some (r.field, r.at)) ((bytes_decides (take (length r.bytes) (drop r.at bytes)) r.bytes).1 h.0)
    ∙ none_wrong rs bytes h.1

-- two parts of a list one behind the other
take_nil : (n : ℕ) → take n (let xs : List ℕ = [] in xs) ≡ []
take_nil zero = refl
take_nil (suc n) = refl

take_join : (n m : ℕ) (xs : List ℕ) → take (n + m) xs ≡ take n xs ++ take m (drop n xs)
take_join zero m xs = ap (λ k. take k xs) (omega arith)
take_join (suc n) m [] = take_nil (suc n + m) ∙ sym (take_nil m)
take_join (suc n) m (x ∷ xs) = let e : suc n + m ≡ suc (n + m) = omega arith in ap (λ k. take k (x ∷ xs)) e ∙ ap (λ z. x ∷ z) (take_join n m xs)

joined : (n m : ℕ) (xs a b : List ℕ) → take n xs ≡ a → take m (drop n xs) ≡ b → take (n + m) xs ≡ a ++ b
joined n m xs a b e f = take_join n m xs ∙ (λ i. e i ++ f i)

fields_from : (bytes : List ℕ) → AllHave fixed_before bytes → AllHave fixed_behind bytes → HasFixedFields bytes
fields_from bytes h k =
    let e18 : take 18 bytes ≡ ident ++ half 1 = joined 16 2 bytes ident (half 1) h.0 h.1.0 in
    let e20 : take 20 bytes ≡ (ident ++ half 1) ++ half 243 = joined 18 2 bytes (ident ++ half 1) (half 243) e18 h.1.1.0 in
    let e24 : take 24 bytes ≡ ((ident ++ half 1) ++ half 243) ++ word 1 = joined 20 4 bytes ((ident ++ half 1) ++ half 243) (word 1) e20 h.1.1.1.0 in
    let e28 : take 28 bytes ≡ (((ident ++ half 1) ++ half 243) ++ word 1) ++ word 0 =
    joined 24 4 bytes (((ident ++ half 1) ++ half 243) ++ word 1) (word 0) e24 h.1.1.1.1.0 in
    let e32 : take 32 bytes ≡ ((((ident ++ half 1) ++ half 243) ++ word 1) ++ word 0) ++ word 0 =
    joined 28 4 bytes ((((ident ++ half 1) ++ half 243) ++ word 1) ++ word 0) (word 0) e28 h.1.1.1.1.1.0 in
    let rest : List ℕ = drop 36 bytes in
    let f2 : take 2 (drop 4 rest) ≡ half 52 = ap (take 2) (drop-drop 4 36 bytes) ∙ k.1.0 in
    let f3 : take 2 (drop 6 rest) ≡ half 0 = ap (take 2) (drop-drop 6 36 bytes) ∙ k.1.1.0 in
    let f4 : take 2 (drop 8 rest) ≡ half 0 = ap (take 2) (drop-drop 8 36 bytes) ∙ k.1.1.1.0 in
    let f5 : take 2 (drop 10 rest) ≡ half 40 = ap (take 2) (drop-drop 10 36 bytes) ∙ k.1.1.1.1.0 in
    let g6 : take 6 rest ≡ word 0 ++ half 52 = joined 4 2 rest (word 0) (half 52) k.0 f2 in
    let g8 : take 8 rest ≡ (word 0 ++ half 52) ++ half 0 = joined 6 2 rest (word 0 ++ half 52) (half 0) g6 f3 in
    let g10 : take 10 rest ≡ ((word 0 ++ half 52) ++ half 0) ++ half 0 = joined 8 2 rest ((word 0 ++ half 52) ++ half 0) (half 0) g8 f4 in
    let g12 : take 12 rest ≡ (((word 0 ++ half 52) ++ half 0) ++ half 0) ++ half 40 =
    joined 10 2 rest (((word 0 ++ half 52) ++ half 0) ++ half 0) (half 40) g10 f5 in
    record { before = e32; behind = g12 }

part_is : (n at w : ℕ) (xs front : List ℕ) → take n xs ≡ front → at + w ≤ n → take w (drop at xs) ≡ drop at (take (at + w) front)
part_is n at w xs front e fits = sym (drop-take at w xs) ∙ ap (drop at) (sym (take-take (at + w) n xs fits) ∙ ap (take (at + w)) e)

before_from : (bytes : List ℕ) → HasFixedFields bytes → AllHave fixed_before bytes
before_from bytes h =
    let front : List ℕ = ident ++ before_shoff in
    let at : (a w : ℕ) → a + w ≤ 32 → take w (drop a bytes) ≡ drop a (take (a + w) front) = λ a w fits. part_is 32 a w bytes front h.before fits in
    (at 0 16 (omega arith), (at 16 2 (omega arith), (at 18 2 (omega arith), (at 20 4 (omega arith), (at 24 4 (omega arith), (at 28 4 (omega arith), tt))))))

behind_from : (bytes : List ℕ) → HasFixedFields bytes → AllHave fixed_behind bytes
behind_from bytes h =
    let rest : List ℕ = drop 36 bytes in
    let at : (a w : ℕ) → a + w ≤ 12 → take w (drop (36 + a) bytes) ≡ drop a (take (a + w) behind_shoff) =
    λ a w fits. ap (take w) (sym (drop-drop a 36 bytes)) ∙ part_is 12 a w rest behind_shoff h.behind fits in
    (at 0 4 (omega arith), (at 4 2 (omega arith), (at 6 2 (omega arith), (at 8 2 (omega arith), (at 10 2 (omega arith), tt)))))

or_none : (a b : Option (Field × ℕ)) → or_else a b ≡ None → (a ≡ None) × (b ≡ None)
or_none None b e = (refl, e)
or_none (Some x) b e = absurd (cc)

or_some : (a b : Option (Field × ℕ)) (x : Field × ℕ) → or_else a b ≡ Some x → (a ≡ Some x) ⊎ (b ≡ Some x)
or_some None b x e = inr e
or_some (Some y) b x e = inl e

pub field_wrong : (bytes : List ℕ) (f : Field) (at : ℕ) → wrong_field bytes ≡ Some (f, at) → IsWrong bytes f at
field_wrong bytes f at e =
    elim (or_some (wrong_of fixed_before bytes) (wrong_of fixed_behind bytes) (f, at) e) [
      | inl h ↦ wrong_rows fixed_before bytes f at before_fixed h
      | inr h ↦ wrong_rows fixed_behind bytes f at behind_fixed h
    ]

pub fields_right : (bytes : List ℕ) → wrong_field bytes ≡ None → HasFixedFields bytes
fields_right bytes e =
    let p = or_none (wrong_of fixed_before bytes) (wrong_of fixed_behind bytes) e in
    fields_from bytes (right_rows fixed_before bytes p.0) (right_rows fixed_behind bytes p.1)

pub none_from_fields : (bytes : List ℕ) → HasFixedFields bytes → wrong_field bytes ≡ None
none_from_fields bytes h =
    ap (λ a. or_else a (wrong_of fixed_behind bytes)) (none_wrong fixed_before bytes (before_from bytes h)) ∙ none_wrong fixed_behind bytes (behind_from bytes h)

-- what is found of the header
pub data Found (bytes : List ℕ) : Type 0 where
  little : length bytes < 52 → wrong_header bytes ≡ Some (Truncated (length bytes)) → Found bytes
  other : (r : Field × ℕ) → 52 ≤ length bytes → wrong_field bytes ≡ Some r → wrong_header bytes ≡ Some (BadField r.0 r.1) → Found bytes
  short : 52 ≤ length bytes → wrong_field bytes ≡ None → length bytes < end_of bytes → wrong_header bytes ≡ Some (Truncated (length bytes)) → Found bytes
  right : 52 ≤ length bytes → wrong_field bytes ≡ None → end_of bytes ≤ length bytes → wrong_header bytes ≡ None → Found bytes

found_rest : (bytes : List ℕ) → nat_lt (length bytes) 52 ≡ false → (w : Option (Field × ℕ)) → wrong_field bytes ≡ w → Found bytes
found_rest bytes n (Some r) e =
    other r (ltb-false (length bytes) 52 n) e
    (cond-false (nat_lt (length bytes) 52) (Some (Truncated (length bytes))) (wrong_fields bytes (wrong_field bytes)) n ∙ ap (wrong_fields bytes) e)
found_rest bytes n None e =
    let at : wrong_header bytes ≡ too_short bytes (end_of bytes) =
    cond-false (nat_lt (length bytes) 52) (Some (Truncated (length bytes))) (wrong_fields bytes (wrong_field bytes)) n ∙ ap (wrong_fields bytes) e in
    elim (cases_Bool (nat_lt (length bytes) (end_of bytes))) [
      | inl t ↦ short (ltb-false (length bytes) 52 n) e (ltb-true (length bytes) (end_of bytes) t) (at ∙ cond-true (nat_lt (length bytes) (end_of bytes)) (Some (Truncated (length bytes))) None t)
      | inr m ↦ right (ltb-false (length bytes) 52 n) e (ltb-false (length bytes) (end_of bytes) m) (at ∙ cond-false (nat_lt (length bytes) (end_of bytes)) (Some (Truncated (length bytes))) None m)
    ]

pub found : (bytes : List ℕ) → Found bytes
found bytes =
    elim (cases_Bool (nat_lt (length bytes) 52)) [
      | inl t ↦ little (ltb-true (length bytes) 52 t) (cond-true (nat_lt (length bytes) 52) (Some (Truncated (length bytes))) (wrong_fields bytes (wrong_field bytes)) t)
      | inr n ↦ found_rest bytes n (wrong_field bytes) refl
    ]

-- the answers for the header alone
abbrev truncated : ElfFault → ℕ → ℕ
truncated (Truncated n) d = n
truncated (BadField f at) d = d
truncated (BadReloc at) d = d
truncated NoMemory d = d

pub refused_short : (bytes : List ℕ) (n : ℕ) → wrong_header bytes ≡ Some (Truncated n) → (n ≡ length bytes) × IsShort bytes
refused_short bytes n e =
    elim (found bytes) [
      | little l w ↦ (ap (λ o. truncated (unwrap_or o NoMemory) 0) (sym e ∙ w), inl l)
      | other r l f w ↦ let p : Some (Truncated n) ≡ Some (BadField r.0 r.1) = sym e ∙ w in absurd (cc)
      | short l f s w ↦ (ap (λ o. truncated (unwrap_or o NoMemory) 0) (sym e ∙ w), inr (fields_right bytes f, s))
      | right l f s w ↦ let p : Some (Truncated n) ≡ None = sym e ∙ w in absurd (cc)
    ]

pub short_refused : (bytes : List ℕ) → IsShort bytes → wrong_header bytes ≡ Some (Truncated (length bytes))
short_refused bytes h =
    elim (found bytes) [
      | little l w ↦ w
      | other r l f w ↦ elim h [
        | inl s ↦ absurd (omega (arith, l, s))
        | inr s ↦ let p : Some r ≡ None = sym f ∙ none_from_fields bytes s.0 in absurd (cc)
      ]
      | short l f s w ↦ w
      | right l f s w ↦ elim h [ inl t ↦ absurd (omega (arith, l, t)) | inr t ↦ absurd (omega (arith, s, t.1)) ]
    ]

abbrev field_of : ElfFault → Field × ℕ → Field × ℕ
field_of (Truncated n) d = d
field_of (BadField f at) d = (f, at)
field_of (BadReloc at) d = d
field_of NoMemory d = d

pub refused_field : (bytes : List ℕ) (f : Field) (at : ℕ) → wrong_header bytes ≡ Some (BadField f at) → IsWrong bytes f at
refused_field bytes f at e =
    elim (found bytes) [
      | little l w ↦ let p : Some (BadField f at) ≡ Some (Truncated (length bytes)) = sym e ∙ w in absurd (cc)
      | other r l h w ↦
          let q : r ≡ (f, at) = ap (λ o. field_of (unwrap_or o NoMemory) (f, at)) (sym w ∙ e) in
          field_wrong bytes f at (h ∙ ap Some q)
      | short l h s w ↦ let p : Some (BadField f at) ≡ Some (Truncated (length bytes)) = sym e ∙ w in absurd (cc)
      | right l h s w ↦ let p : Some (BadField f at) ≡ None = sym e ∙ w in absurd (cc)
    ]

pub refused_reloc : (bytes : List ℕ) (at : ℕ) → wrong_header bytes ≡ Some (BadReloc at) → ⊥
refused_reloc bytes at e =
    elim (found bytes) [
      | little l w ↦ let p : Some (BadReloc at) ≡ Some (Truncated (length bytes)) = sym e ∙ w in absurd (cc)
      | other r l h w ↦ let p : Some (BadReloc at) ≡ Some (BadField r.0 r.1) = sym e ∙ w in absurd (cc)
      | short l h s w ↦ let p : Some (BadReloc at) ≡ Some (Truncated (length bytes)) = sym e ∙ w in absurd (cc)
      | right l h s w ↦ let p : Some (BadReloc at) ≡ None = sym e ∙ w in absurd (cc)
    ]

pub passed : (bytes : List ℕ) → wrong_header bytes ≡ None → (52 ≤ length bytes) × (end_of bytes ≤ length bytes) × HasFixedFields bytes
passed bytes e =
    elim (found bytes) [
      | little l w ↦ let p : Some (Truncated (length bytes)) ≡ None = sym w ∙ e in absurd (cc)
      | other r l h w ↦ let p : Some (BadField r.0 r.1) ≡ None = sym w ∙ e in absurd (cc)
      | short l h s w ↦ let p : Some (Truncated (length bytes)) ≡ None = sym w ∙ e in absurd (cc)
      | right l h s w ↦ (l, s, fields_right bytes h)
    ]
