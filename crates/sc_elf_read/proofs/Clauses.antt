-- The clauses of a reading at each of its ends.
use Rattle.std.proofs.Common.{◌≡◌, ◌⊎◌, inl, inr, ◌↔◌, ◌<◌, ℕ, Bool, true, false, List, length, Option, Some, None, Result, Ok, Err, sym, ap, ◌∙◌, subst, arith, refl}
use Rattle.std.specs.Prelude.{unwrap_or, IfSome, IfOk, IfErr, MatchResult}
use Rattle.std.specs.Str.{bytes_eq}
use Rattle.std.specs.Cmp.Lexicographic.{bytes_decides}
use Rattle.std.proofs.lemmas.Bool.{both_ways}
use Rattle.sc_object.specs.declared.object.Object.{Object}
use Rattle.sc_object.specs.Spelling.{spelled_as}
use Rattle.sc_object.specs.Reading.{is_spellable_in, is_spellable, IsFileOf, IsShort, end_of}
use Rattle.sc_elf_read.specs.declared.field.Field.{Field}
use Rattle.sc_elf_read.specs.declared.field.ElfFault.{ElfFault}
use Rattle.sc_elf_read.specs.declared.field.ElfFault.TheVariants.{Truncated, BadField, BadReloc, NoMemory}
use Rattle.sc_elf_read.specs.Parsed.{parsed}
use Rattle.sc_elf_read.specs.Fields.{IsWrong}
use Rattle.sc_elf_read.specs.Tests.{wrong_header, wrong_rest}
use Rattle.sc_elf_read.proofs.Headers.{refused_short, short_refused, refused_field, refused_reloc, passed}
use Rattle.sc_elf_read.proofs.Finding.{parsed_back, versions_differ, rest_wrong, rest_not_short, rest_no_reloc, rest_has_memory, file_passes, file_not_short}

-- what is found is the object of the file
pub found_is : (version : ℕ) (bytes : List ℕ) (r : Option Object) → (version ≡ 1) ⊎ (version ≡ 2) → r ≡ parsed version bytes → (o : Object) → IsFileOf version o bytes → r ≡ Some o
found_is version bytes r known e o file = e ∙ parsed_back version bytes o known file

pub found_other : (version : ℕ) (bytes : List ℕ) (p : Object) (b : Bool) → (version ≡ 1) ⊎ (version ≡ 2) → Some p ≡ parsed version bytes
    → (b ≡ true) ↔ IsFileOf version p bytes → b ≡ false → (o : Object) → IsFileOf version o bytes → let none : Option Object = None in none ≡ Some o
found_other version bytes p b known e decides differs o file =
    let same : p ≡ o = ap (λ z. unwrap_or z p) (found_is version bytes (Some p) known e o file) in
    let own : IsFileOf version p bytes = subst (λ z. IsFileOf version z bytes) (sym same) file in
    absurd (both_ways b differs (decides.1 own))

-- a refusal for the header
header_fails : (bytes : List ℕ) (fault : ElfFault) → Some fault ≡ wrong_header bytes → (o : Object) → IsFileOf 2 o bytes → ⊥
header_fails bytes fault e o file =
    let p : Some fault ≡ None = e ∙ ap wrong_header (sym file.1) ∙ file_passes o file.0 in
    cc

pub header_only : (bytes : List ℕ) (fault : ElfFault) → Some fault ≡ wrong_header bytes → (o : Object) → IsFileOf 2 o bytes → fault ≡ NoMemory
header_only bytes fault e o file = absurd (header_fails bytes fault e o file)

pub header_short : (bytes : List ℕ) (fault : ElfFault) → Some fault ≡ wrong_header bytes → (n : ℕ) → fault ≡ Truncated n → (n ≡ length bytes) × IsShort bytes
header_short bytes fault e n is = refused_short bytes n (sym e ∙ ap Some is)

abbrev pub Outcome : Type 0
Outcome = Result Object ElfFault

abbrev pub refusal : ElfFault → Outcome
refusal fault = Err fault

abbrev pub success : Object → Outcome
success o = Ok o

abbrev passes : Outcome → Bool
passes (Ok o) = true
passes (Err e) = false

abbrev fault_of : Outcome → ElfFault
fault_of (Ok o) = NoMemory
fault_of (Err e) = e

pub header_too_short : (bytes : List ℕ) (fault : ElfFault) → Some fault ≡ wrong_header bytes → IsShort bytes → refusal fault ≡ Err (Truncated (length bytes))
header_too_short bytes fault e short = ap (λ z. Err (unwrap_or z fault)) (e ∙ short_refused bytes short)

pub header_field : (bytes : List ℕ) (fault : ElfFault) → Some fault ≡ wrong_header bytes → (f : Field) (at : ℕ) → refusal fault ≡ Err (BadField f at) → IsWrong bytes f at
header_field bytes fault e f at is = refused_field bytes f at (sym e ∙ ap (λ z. Some (fault_of z)) is)

pub header_reloc : (bytes : List ℕ) (fault : ElfFault) → Some fault ≡ wrong_header bytes → (at : ℕ) → refusal fault ≡ Err (BadReloc at) → ⊥
header_reloc bytes fault e at is = refused_reloc bytes at (sym e ∙ ap (λ z. Some (fault_of z)) is)

-- a right header is not short
pub right_not_short : (bytes : List ℕ) → None ≡ wrong_header bytes → IsShort bytes → ⊥
right_not_short bytes e short = let p : None ≡ Some (Truncated (length bytes)) = e ∙ short_refused bytes short in cc

-- the object that was found, and no other
pub found_file : (version : ℕ) (bytes : List ℕ) (found : Option Object) (p : Object) → found ≡ Some p → IfSome found (λ o. IsFileOf version o bytes) → IsFileOf version p bytes
found_file version bytes found p is h = subst (λ z. IfSome z (λ o. IsFileOf version o bytes)) is h

pub found_only : (bytes : List ℕ) (found : Option Object) (p : Object) → found ≡ Some p → ((o : Object) → IsFileOf 2 o bytes → found ≡ Some o) → (o : Object) → IsFileOf 2 o bytes → success p ≡ Ok o
found_only bytes found p is only o file = ap (λ z. success (unwrap_or z p)) (sym is ∙ only o file)

pub none_only : (bytes : List ℕ) (found : Option Object) (w : ElfFault) → found ≡ None → ((o : Object) → IsFileOf 2 o bytes → found ≡ Some o) → (o : Object) → IsFileOf 2 o bytes → refusal w ≡ Ok o
none_only bytes found w is only o file = let p : None ≡ Some o = sym is ∙ only o file in absurd (cc)

-- what is answered behind a right header
pub answer_only : (r : Outcome) (bytes : List ℕ) → ((o : Object) → IsFileOf 2 o bytes → r ≡ Ok o) → (o : Object) → IsFileOf 2 o bytes → MatchResult r (λ p. p ≡ o) (λ f. f ≡ NoMemory)
answer_only r bytes only o file = subst (λ z. MatchResult z (λ p. p ≡ o) (λ f. f ≡ NoMemory)) (sym (only o file)) refl

abbrev pub IsRest : List ℕ → ElfFault → Type 0
IsRest bytes f = (f ≡ wrong_rest bytes) ⊎ (f ≡ NoMemory)

pub answer_rest : (r : Outcome) (bytes : List ℕ) → IfErr r (λ f. f ≡ wrong_rest bytes) → IfErr r (IsRest bytes)
answer_rest (Ok o) bytes h = tt
answer_rest (Err e) bytes h = inl h

pub rest_short : (r : Outcome) (bytes : List ℕ) → IfErr r (IsRest bytes) → IfErr r (λ f. (n : ℕ) → f ≡ Truncated n → (n ≡ length bytes) × IsShort bytes)
rest_short (Ok o) bytes h = tt
rest_short (Err e) bytes h = λ n is. elim h [
  | inl w ↦ absurd (rest_not_short bytes n (sym w ∙ is))
  | inr m ↦ let p : NoMemory ≡ Truncated n = sym m ∙ is in absurd (cc)
]

-- a file is found, so that a refusal speaks of bytes that are none
not_refused : (e : ElfFault) (bytes : List ℕ) → e ≡ wrong_rest bytes → ((o : Object) → IsFileOf 2 o bytes → e ≡ NoMemory) → (o : Object) → IsFileOf 2 o bytes → ⊥
not_refused e bytes w only o file = rest_has_memory bytes (sym w ∙ only o file)

refused_rest : (e : ElfFault) (bytes : List ℕ) → None ≡ wrong_header bytes → ((o : Object) → IsFileOf 2 o bytes → e ≡ NoMemory) → IsRest bytes e
    → (f : Field) (at : ℕ) → e ≡ BadField f at → IsWrong bytes f at
refused_rest e bytes right only (inl w) f at is =
    let h = passed bytes (sym right) in
    rest_wrong bytes f at h.0 h.1 (not_refused e bytes w only) (sym w ∙ is)
refused_rest e bytes right only (inr m) f at is = let p : NoMemory ≡ BadField f at = sym m ∙ is in absurd (cc)

pub rest_field : (r : Outcome) (bytes : List ℕ) → None ≡ wrong_header bytes → ((o : Object) → IsFileOf 2 o bytes → MatchResult r (λ p. p ≡ o) (λ f. f ≡ NoMemory)) → IfErr r (IsRest bytes)
    → (f : Field) (at : ℕ) → r ≡ Err (BadField f at) → IsWrong bytes f at
rest_field (Ok o) bytes right only h f at is = let d : true ≡ false = ap passes is in absurd (cc)
rest_field (Err e) bytes right only h f at is = refused_rest e bytes right only h f at (ap fault_of is)

not_reloc : (e : ElfFault) (bytes : List ℕ) → IsRest bytes e → (at : ℕ) → e ≡ BadReloc at → ⊥
not_reloc e bytes (inl w) at is = rest_no_reloc bytes at (sym w ∙ is)
not_reloc e bytes (inr m) at is = let p : NoMemory ≡ BadReloc at = sym m ∙ is in cc

pub rest_reloc : (r : Outcome) (bytes : List ℕ) → IfErr r (IsRest bytes) → (at : ℕ) → r ≡ Err (BadReloc at) → ⊥
rest_reloc (Ok o) bytes h at is = let d : true ≡ false = ap passes is in cc
rest_reloc (Err e) bytes h at is = not_reloc e bytes h at (ap fault_of is)

-- bytes that end before their section headers do are no file, of either version
pub ends_within : (version : ℕ) (bytes : List ℕ) → (version ≡ 1) ⊎ (version ≡ 2) → length bytes < end_of bytes → ((o : Object) × IsFileOf version o bytes) → ⊥
ends_within version bytes known short file = file_not_short version bytes file.0 known file.1 short

pub not_a_file : (version : ℕ) (bytes : List ℕ) (found : Option Object) → found ≡ None → ((o : Object) → IsFileOf version o bytes → found ≡ Some o) → ((o : Object) × IsFileOf version o bytes) → ⊥
not_a_file version bytes found is only file = let p : None ≡ Some file.0 = sym is ∙ only file.0 file.1 in cc

-- a test that passed, and one that failed
pub decided_true : {A : Type 0} → A → (true ≡ true) ↔ A
decided_true a = (λ e. a, λ x. refl)

pub decided_false : {A : Type 0} → (A → ⊥) → (false ≡ true) ↔ A
decided_false none = (λ e. absurd (cc), λ x. absurd (none x))

-- an object that is written again as these bytes, or as others
pub spelled_again : {E : Type 0} (version n : ℕ) (o : Object) (again bytes : List ℕ) (r : Result Bool E) → again ≡ spelled_as version o → bytes_eq again bytes ≡ true → n ≡ length again
    → IfOk r (λ b. b ≡ is_spellable_in version o n) → IfOk r (λ b. (b ≡ true) ↔ IsFileOf version o bytes)
spelled_again version n o again bytes (Ok b) spelling same len h =
    let at : n ≡ length (spelled_as version o) = len ∙ ap length spelling in
    let test : b ≡ is_spellable version o = h ∙ ap (is_spellable_in version o) at in
    let whole : spelled_as version o ≡ bytes = sym spelling ∙ (bytes_decides again bytes).0 same in
    (λ t. (sym test ∙ t, whole), λ file. test ∙ file.0)
spelled_again version n o again bytes (Err e) spelling same len h = tt

pub spelled_otherwise : (version : ℕ) (o : Object) (again bytes : List ℕ) → again ≡ spelled_as version o → bytes_eq again bytes ≡ false → (false ≡ true) ↔ IsFileOf version o bytes
spelled_otherwise version o again bytes spelling differs =
    decided_false (λ file. both_ways (bytes_eq again bytes) differs ((bytes_decides again bytes).1 (spelling ∙ file.1)))

-- the two versions of a file
abbrev pub IsFile : ℕ → List ℕ → Type 0
IsFile version bytes = (o : Object) × IsFileOf version o bytes

only_two : (bytes : List ℕ) → IsFile 2 bytes → IsFile 1 bytes → ⊥
only_two bytes two one = versions_differ one.0 two.0 bytes one.1 two.1

-- what is answered is this version exactly for its files
abbrev pub Tells : Option ℕ → ℕ → List ℕ → Type 0
Tells v version bytes = (v ≡ Some version) ↔ IsFile version bytes

tells : (version : ℕ) (bytes : List ℕ) → IsFile version bytes → Tells (Some version) version bytes
tells version bytes file = (λ e. file, λ x. refl)

pub is_two : (bytes : List ℕ) (b : Bool) → (b ≡ true) ↔ IsFile 2 bytes → b ≡ true → Tells (Some 2) 2 bytes × Tells (Some 2) 1 bytes
is_two bytes b decides e =
    let file : IsFile 2 bytes = decides.0 e in
    (tells 2 bytes file, (λ s. let n : 2 ≡ 1 = ap (λ z. unwrap_or z 0) s in absurd (omega (arith, n)), λ one. absurd (only_two bytes file one)))

pub is_one : (bytes : List ℕ) (b d : Bool) → (b ≡ true) ↔ IsFile 2 bytes → b ≡ false → (d ≡ true) ↔ IsFile 1 bytes → d ≡ true → Tells (Some 1) 2 bytes × Tells (Some 1) 1 bytes
is_one bytes b d decides not_two decides_one e = (
  (λ s. let n : 1 ≡ 2 = ap (λ z. unwrap_or z 0) s in absurd (omega (arith, n)), λ two. absurd (both_ways b not_two (decides.1 two))),
  tells 1 bytes (decides_one.0 e),
)

pub is_neither : (bytes : List ℕ) (b d : Bool) → (b ≡ true) ↔ IsFile 2 bytes → b ≡ false → (d ≡ true) ↔ IsFile 1 bytes → d ≡ false
    → Tells None 2 bytes × Tells None 1 bytes
is_neither bytes b d decides not_two decides_one not_one =
    ((λ s. absurd (cc), λ two. absurd (both_ways b not_two (decides.1 two))), (λ s. absurd (cc), λ one. absurd (both_ways d not_one (decides_one.1 one))))
