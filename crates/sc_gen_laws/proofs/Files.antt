-- The object of a module has a file, where its names, numbers and counts fit.
use Rattle.std.proofs.Common.{◌≡◌, ◌<◌, ◌≤◌, ℕ, ◌+◌, ◌*◌, ◌%◌, ◌^◌, Bool, true, false, not, ◌&&◌, if◌then◌else◌, nat_lt, ◌==◌, List, [], ◌∷◌, ◌++◌, length, map, codes, decimal, Option, None, Some, refl, sym, ap, ◌∙◌, arith, length-append, eq-eqb}
use Rattle.std.specs.Prelude.{flat_map, sum_by}
use Rattle.std.specs.List.{list_all}
use Rattle.std.specs.Int.{w32, cast_signed, cast_unsigned}
use Rattle.std.proofs.lemmas.Bool.Decides.{nat_tests, Decides-int_eq}
use Rattle.std.proofs.lemmas.Fmt.{decimal_by_steps}
use Rattle.std.proofs.lemmas.Int.{of_z-to_z}
use Rattle.std.proofs.lemmas.List.{length-map, length-replicate}
use Rattle.std.proofs.lemmas.List.Sums.{sum_by-cons}
use Rattle.sc_core.specs.declared.module.Core.{Core}
use Rattle.sc_core.specs.declared.module.Fun.{Fun}
use Rattle.sc_core.specs.declared.module.Init.{Init}
use Rattle.sc_core.specs.declared.module.Init.TheVariants as init
use Rattle.sc_core.specs.declared.module.StaticObj.{StaticObj}
use Rattle.sc_object.specs.declared.object.Symbol.{Symbol}
use Rattle.sc_object.specs.declared.object.Reloc.{Reloc}
use Rattle.sc_object.specs.declared.object.FrameTable.{FrameTable}
use Rattle.sc_object.specs.declared.object.SectionKind.{SectionKind}
use Rattle.sc_object.specs.declared.object.SectionKind.TheVariants.{Text, Data, Rodata, Bss}
use Rattle.sc_object.specs.Words as words
use Rattle.sc_object.specs.Spelling.{spelled_as}
use Rattle.sc_object.specs.Reading.{is_name, is_word, is_kind, is_addend, is_below, is_section, is_symbol, is_reloc, is_frame, is_block, held, fits, locals_first, by_sections, is_spellable}
use Rattle.sc_gen_code.specs.declared.symbolic.Symbolic.{Symbolic}
use Rattle.sc_gen_code.specs.declared.symbolic.Symbolic.TheVariants.{Plain, Upper, Lower, Call}
use Rattle.sc_gen_code.specs.declared.symbolic.Target.{Target}
use Rattle.sc_gen_code.specs.declared.symbolic.Target.TheVariants.{Named, Literal}
use Rattle.sc_gen_code.specs.Code.{Code}
use Rattle.sc_gen_expr.specs.Words.{fitted, relocation, symbolic_word}
use Rattle.sc_gen.specs.declared.definitions.Fixup.{Fixup}
use Rattle.sc_gen.specs.declared.definitions.Definition.{Definition}
use Rattle.sc_gen.specs.declared.symbols.Home.{Home}
use Rattle.sc_gen.specs.Blocks.{frame_table}
use Rattle.sc_gen.specs.Sections.{function_section, object_section, literal_section, literal_sections, literal_name, sections, kind_of, init_size, init_bytes, bytes_in, text_bytes}
use Rattle.sc_gen.specs.Definitions.{word_fixups, text_fixups, init_fixups, data_fixups, fixups_in, function_definition, object_definition, literal_definitions, definitions}
use Rattle.sc_gen.specs.Objects.{target_name, targets, home_from, symbol_by, symbol_of, reloc_of, relocs_from, frame_of, object_of}
use Rattle.sc_gen.specs.Limits.{first_long, is_long}
use Rattle.sc_gen_laws.specs.Inside.{symbol_refers, reloc_refers, frame_refers}
use Rattle.sc_gen_laws.specs.Filed.{target_fits, init_fits, object_fits, table_fits, function_fits, IsKept}
use Rattle.sc_gen_laws.proofs.Pieces.{and-left, and-right}
use Rattle.sc_gen_laws.proofs.References.{refers_inside, both, all_join, lt}

three : (a b d : Bool) → a ≡ true → b ≡ true → d ≡ true → (a && b && d) ≡ true
three a b d p q r = ap (λ (x : Bool). x && b && d) p ∙ ap (λ (x : Bool). true && x && d) q ∙ ap (λ (x : Bool). true && true && x) r

four : (a b d e : Bool) → a ≡ true → b ≡ true → d ≡ true → e ≡ true → (a && b && d && e) ≡ true
four a b d e p q r s =
    ap (λ (x : Bool). x && b && d && e) p ∙ ap (λ (x : Bool). true && x && d && e) q ∙ ap (λ (x : Bool). true && true && x && e) r
    ∙ ap (λ (x : Bool). true && true && true && x) s

five : (a b d e f : Bool) → a ≡ true → b ≡ true → d ≡ true → e ≡ true → f ≡ true → (a && b && d && e && f) ≡ true
five a b d e f p q r s t =
    ap (λ (x : Bool). x && b && d && e && f) p ∙ ap (λ (x : Bool). true && x && d && e && f) q ∙ ap (λ (x : Bool). true && true && x && e && f) r
    ∙ ap (λ (x : Bool). true && true && true && x && f) s ∙ ap (λ (x : Bool). true && true && true && true && x) t

seven : (a b d e f g h : Bool) → a ≡ true → b ≡ true → d ≡ true → e ≡ true → f ≡ true → g ≡ true → h ≡ true → (a && b && d && e && f && g && h) ≡ true
seven a b d e f g h p q r s t u v =
    ap (λ (x : Bool). x && b && d && e && f && g && h) p ∙ ap (λ (x : Bool). true && x && d && e && f && g && h) q
    ∙ ap (λ (x : Bool). true && true && x && e && f && g && h) r ∙ ap (λ (x : Bool). true && true && true && x && f && g && h) s
    ∙ ap (λ (x : Bool). true && true && true && true && x && g && h) t ∙ ap (λ (x : Bool). true && true && true && true && true && x && h) u
    ∙ ap (λ (x : Bool). true && true && true && true && true && true && x) v

merged : {A : Type 0} (p q r : A → Bool) (xs : List A) → ((x : A) → p x ≡ true → q x ≡ true → r x ≡ true) → list_all p xs ≡ true → list_all q xs ≡ true → list_all r xs ≡ true
merged p q r [] f h k = refl
merged p q r (x ∷ xs) f h k =
    both (r x) (list_all r xs) (f x (and-left (p x) (list_all p xs) h) (and-left (q x) (list_all q xs) k))
    (merged p q r xs f (and-right (p x) (list_all p xs) h) (and-right (q x) (list_all q xs) k))

small : (n : ℕ) → is_word n ≡ true → n < 4294967296
small n h = grind (arith, nat_tests)

exact : (n : ℕ) → n < 4294967296 → fitted n ≡ n
exact n h = omega (arith, h)

word : (n : ℕ) → is_word (fitted n) ≡ true
word n = lt (fitted n) 4294967296 (omega arith)

-- bytes of sections
words-length : (ns : List ℕ) → length (flat_map words.word ns) ≡ 4 * length ns
words-length [] = omega arith
words-length (n ∷ ns) = let h = words-length ns in omega (arith, length-append (words.word n) (flat_map words.word ns), h)

text-length : (code : Code) → length (text_bytes code) ≡ 4 * length code
text-length code = words-length (map symbolic_word code) ∙ ap (λ (n : ℕ). 4 * n) (length-map code symbolic_word)

init-length : (x : Init) → length (init_bytes x) ≡ init_size x
init-length (init.Byte b) = refl
init-length (init.Zeros n) = length-replicate n 0
init-length (init.Address what n) = refl

inits-length : (xs : List Init) → length (flat_map init_bytes xs) ≡ sum_by init_size xs
inits-length [] = refl
inits-length (x ∷ xs) =
    let h = inits-length xs in let k = init-length x in omega (arith, length-append (init_bytes x) (flat_map init_bytes xs), h, k, sum_by-cons init_size x xs)

kept-length : (kind : SectionKind) (xs : List Init) → sum_by init_size xs < 4294967296 → (length (bytes_in kind xs) == held kind (fitted (sum_by init_size xs))) ≡ true
kept-length Text xs h = eq-eqb (length (flat_map init_bytes xs)) (fitted (sum_by init_size xs)) (inits-length xs ∙ sym (exact (sum_by init_size xs) h))
kept-length Data xs h = eq-eqb (length (flat_map init_bytes xs)) (fitted (sum_by init_size xs)) (inits-length xs ∙ sym (exact (sum_by init_size xs) h))
kept-length Rodata xs h = eq-eqb (length (flat_map init_bytes xs)) (fitted (sum_by init_size xs)) (inits-length xs ∙ sym (exact (sum_by init_size xs) h))
kept-length Bss xs h = refl

-- no digit is zero
not-zero : (n : ℕ) → 0 < n → not (n == 0) ≡ true
not-zero n h = grind (arith, nat_tests)

digits-named : (n : ℕ) → n < 2 ^ 64 → is_name (decimal n) ≡ true
digits-named n small =
    decimal_by_steps (λ m ds. is_name ds ≡ true)
    (λ m l. both (not (48 + m == 0)) true (not-zero (48 + m) (omega arith)) refl)
    (λ m ds l h. all_join (λ (b : ℕ). not (b == 0)) ds ((48 + m % 10) ∷ []) h (both (not (48 + m % 10 == 0)) true (not-zero (48 + m % 10) (omega arith)) refl))
    n small

literal-named : (n : ℕ) → n < 4294967296 → is_name (literal_name n) ≡ true
literal-named n h = all_join (λ (b : ℕ). not (b == 0)) (codes "$") (decimal n) refl (digits-named n (omega (arith, h)))

-- texts within the limit
few : (n : ℕ) → nat_lt 131072 n ≡ false → n ≤ 131072
few n h = grind (arith, nat_tests)

short-first : (code : Fun → Code) (f : Fun) (fs : List Fun) → first_long code (f ∷ fs) ≡ None → (length (code f) ≤ 131072) × (first_long code fs ≡ None)
short-first code f fs h =
    elim (is_long code f) as (λ b. is_long code f ≡ b → (if b then Some f.name else first_long code fs) ≡ None → (length (code f) ≤ 131072) × (first_long code fs ≡ None)) [
      | true ↦ λ e k. cc
      | false ↦ λ e k. (few (length (code f)) e, k)
    ] refl h

functions-stand : (code : Fun → Code) (fs : List Fun) → first_long code fs ≡ None → list_all function_fits fs ≡ true → list_all is_section (map (function_section code) fs) ≡ true
functions-stand code [] h k = refl
functions-stand code (f ∷ fs) h k =
    let text = code f in
    let s = short-first code f fs h in
    let n = s.0 in
    let size : 4 * length text < 4294967296 = omega (arith, n) in
    both (is_section (function_section code f)) (list_all is_section (map (function_section code) fs))
    (three (is_name f.name) (length (text_bytes text) == fitted (4 * length text)) (is_word (fitted (4 * length text)))
    (and-left (is_name f.name) (table_fits (frame_table 0 f)) (and-left (function_fits f) (list_all function_fits fs) k))
    (eq-eqb (length (text_bytes text)) (fitted (4 * length text)) (text-length text ∙ sym (exact (4 * length text) size))) (word (4 * length text)))
    (functions-stand code fs s.1 (and-right (function_fits f) (list_all function_fits fs) k))

objects-stand : (xs : List StaticObj) → list_all object_fits xs ≡ true → list_all is_section (map object_section xs) ≡ true
objects-stand [] k = refl
objects-stand (x ∷ xs) k =
    let own = and-left (object_fits x) (list_all object_fits xs) k in
    let total = sum_by init_size x.init in
    let rest = and-right (is_name x.key.name) (is_word total && list_all init_fits x.init) own in
    both (is_section (object_section x)) (list_all is_section (map object_section xs))
    (three (is_name x.key.name) (length (bytes_in (kind_of x) x.init) == held (kind_of x) (fitted total)) (is_word (fitted total))
    (and-left (is_name x.key.name) (is_word total && list_all init_fits x.init) own)
    (kept-length (kind_of x) x.init (small total (and-left (is_word total) (list_all init_fits x.init) rest))) (word total))
    (objects-stand xs (and-right (object_fits x) (list_all object_fits xs) k))

literals-stand : (n : ℕ) (ts : List (List ℕ)) → list_all (λ bytes. is_word (length bytes)) ts ≡ true → list_all is_section (literal_sections n ts) ≡ true
literals-stand n [] k = refl
literals-stand n (t ∷ ts) k =
    let own = small (length t) (and-left (is_word (length t)) (list_all (λ bytes. is_word (length bytes)) ts) k) in
    both (is_section (literal_section (fitted n) t)) (list_all is_section (literal_sections (n + 1) ts))
    (three (is_name (literal_name (fitted n))) (length t == fitted (length t)) (is_word (fitted (length t)))
    (literal-named (fitted n) (omega arith)) (eq-eqb (length t) (fitted (length t)) (sym (exact (length t) own))) (word (length t)))
    (literals-stand (n + 1) ts (and-right (is_word (length t)) (list_all (λ bytes. is_word (length bytes)) ts) k))

sections-stand : (code : Fun → Code) (core : Core) → IsKept code core → first_long code core.funs ≡ None → list_all is_section (sections code core) ≡ true
sections-stand code core kept short =
    let fs = map (function_section code) core.funs in
    let os = map object_section core.objects in
    all_join is_section (fs ++ os) (literal_sections 0 core.literals)
    (all_join is_section fs os (functions-stand code core.funs short kept.functions_fit) (objects-stand core.objects kept.objects_fit))
    (literals-stand 0 core.literals kept.literals_fit)

-- names of symbols
name-of : (t : Target) (o : Option Home) → (symbol_by t o).name ≡ target_name t
name-of t None = refl
name-of t (Some h) = refl

target-named : (t : Target) → target_fits t ≡ true → is_name (target_name t) ≡ true
target-named (Named key) h = h
target-named (Literal n) h = literal-named n (small n h)

symbols-named : (ds : List Definition) (ts : List Target) → list_all target_fits ts ≡ true → list_all (λ (s : Symbol). is_name s.name) (map (symbol_of ds) ts) ≡ true
symbols-named ds [] h = refl
symbols-named ds (t ∷ ts) h =
    both (is_name (symbol_of ds t).name) (list_all (λ (s : Symbol). is_name s.name) (map (symbol_of ds) ts))
    (ap is_name (name-of t (home_from 0 ds t)) ∙ target-named t (and-left (target_fits t) (list_all target_fits ts) h))
    (symbols-named ds ts (and-right (target_fits t) (list_all target_fits ts) h))

-- addends
addend-back : (n : ℕ) → n < 4294967296 → is_addend (cast_signed w32 n) ≡ true
addend-back n h = (Decides-int_eq (cast_signed w32 (cast_unsigned w32 (cast_signed w32 n))) (cast_signed w32 n)).1 (ap (cast_signed w32) (of_z-to_z w32 n h))

abbrev addend_fits : Fixup → Bool
addend_fits x = is_addend x.addend

word-addends : (at : ℕ) (x : Symbolic) → list_all addend_fits (word_fixups at (relocation x)) ≡ true
word-addends at (Plain i) = refl
word-addends at (Upper t) = refl
word-addends at (Lower w t) = refl
word-addends at (Call t) = refl

text-addends : (n : ℕ) (code : Code) → list_all addend_fits (text_fixups n code) ≡ true
text-addends n [] = refl
text-addends n (x ∷ xs) = all_join addend_fits (word_fixups (4 * n) (relocation x)) (text_fixups (n + 1) xs) (word-addends (4 * n) x) (text-addends (n + 1) xs)

init-addends : (literals : List (List ℕ)) (at : ℕ) (x : Init) → init_fits x ≡ true → list_all addend_fits (init_fixups literals at x) ≡ true
init-addends literals at (init.Byte b) h = refl
init-addends literals at (init.Zeros n) h = refl
init-addends literals at (init.Address what n) h = both (is_addend (cast_signed w32 n)) true (addend-back n (small n h)) refl

data-addends : (literals : List (List ℕ)) (at : ℕ) (xs : List Init) → list_all init_fits xs ≡ true → list_all addend_fits (data_fixups literals at xs) ≡ true
data-addends literals at [] h = refl
data-addends literals at (x ∷ xs) h =
    all_join addend_fits (init_fixups literals at x) (data_fixups literals (fitted (at + init_size x)) xs) (init-addends literals at x (and-left (init_fits x) (list_all init_fits xs) h))
    (data-addends literals (fitted (at + init_size x)) xs (and-right (init_fits x) (list_all init_fits xs) h))

kept-addends : (kind : SectionKind) (literals : List (List ℕ)) (xs : List Init) → list_all init_fits xs ≡ true → list_all addend_fits (fixups_in kind literals xs) ≡ true
kept-addends Text literals xs h = data-addends literals 0 xs h
kept-addends Data literals xs h = data-addends literals 0 xs h
kept-addends Rodata literals xs h = data-addends literals 0 xs h
kept-addends Bss literals xs h = refl

abbrev addends_fit : Definition → Bool
addends_fit d = list_all addend_fits d.fixups

functions-addends : (code : Fun → Code) (name : List ℕ) (fs : List Fun) → list_all addends_fit (map (function_definition code name) fs) ≡ true
functions-addends code name [] = refl
functions-addends code name (f ∷ fs) =
    both (addends_fit (function_definition code name f)) (list_all addends_fit (map (function_definition code name) fs)) (text-addends 0 (code f)) (functions-addends code name fs)

objects-addends : (literals : List (List ℕ)) (xs : List StaticObj) → list_all object_fits xs ≡ true → list_all addends_fit (map (object_definition literals) xs) ≡ true
objects-addends literals [] h = refl
objects-addends literals (x ∷ xs) h =
    let own = and-left (object_fits x) (list_all object_fits xs) h in
    let total = sum_by init_size x.init in
    both (addends_fit (object_definition literals x)) (list_all addends_fit (map (object_definition literals) xs))
    (kept-addends (kind_of x) literals x.init
    (and-right (is_word total) (list_all init_fits x.init) (and-right (is_name x.key.name) (is_word total && list_all init_fits x.init) own)))
    (objects-addends literals xs (and-right (object_fits x) (list_all object_fits xs) h))

literals-addends : (n : ℕ) (ts : List (List ℕ)) → list_all addends_fit (literal_definitions n ts) ≡ true
literals-addends n [] = refl
literals-addends n (t ∷ ts) = literals-addends (n + 1) ts

definitions-addends : (code : Fun → Code) (core : Core) → IsKept code core → list_all addends_fit (definitions code core) ≡ true
definitions-addends code core kept =
    let gs = map (function_definition code core.name) core.funs in
    let ps = map (object_definition core.literals) core.objects in
    all_join addends_fit (gs ++ ps) (literal_definitions 0 core.literals)
    (all_join addends_fit gs ps (functions-addends code core.name core.funs) (objects-addends core.literals core.objects kept.objects_fit)) (literals-addends 0 core.literals)

group-addends : (known : List Target) (n : ℕ) (xs : List Fixup) → list_all addend_fits xs ≡ true → list_all (λ (r : Reloc). is_addend r.addend) (map (reloc_of known n) xs) ≡ true
group-addends known n [] h = refl
group-addends known n (x ∷ xs) h =
    both (is_addend x.addend) (list_all (λ (r : Reloc). is_addend r.addend) (map (reloc_of known n) xs)) (and-left (addend_fits x) (list_all addend_fits xs) h)
    (group-addends known n xs (and-right (addend_fits x) (list_all addend_fits xs) h))

relocs-addends : (known : List Target) (n : ℕ) (ds : List Definition) → list_all addends_fit ds ≡ true → list_all (λ (r : Reloc). is_addend r.addend) (relocs_from known n ds) ≡ true
relocs-addends known n [] h = refl
relocs-addends known n (d ∷ ds) h =
    all_join (λ (r : Reloc). is_addend r.addend) (map (reloc_of known n) d.fixups) (relocs_from known (n + 1) ds)
    (group-addends known n d.fixups (and-left (addends_fit d) (list_all addends_fit ds) h)) (relocs-addends known (n + 1) ds (and-right (addends_fit d) (list_all addends_fit ds) h))

-- frames
frames-kept : (name : List ℕ) (known : List Target) (fs : List Fun) → list_all function_fits fs ≡ true → list_all table_fits (map (frame_of name known) fs) ≡ true
frames-kept name known [] h = refl
frames-kept name known (f ∷ fs) h =
    both (table_fits (frame_of name known f)) (list_all table_fits (map (frame_of name known) fs))
    (and-right (is_name f.name) (table_fits (frame_table 0 f)) (and-left (function_fits f) (list_all function_fits fs) h))
    (frames-kept name known fs (and-right (function_fits f) (list_all function_fits fs) h))

symbol-whole : (m : ℕ) (s : Symbol) → symbol_refers m s ≡ true → is_name s.name ≡ true → is_symbol m s ≡ true
symbol-whole m s h k =
    let rest = and-right (is_below m s.section) (nat_lt s.kind 3 && is_word s.size) h in
    four (is_name s.name) (is_below m s.section) (nat_lt s.kind 3) (is_word s.size) k (and-left (is_below m s.section) (nat_lt s.kind 3 && is_word s.size) h)
    (and-left (nat_lt s.kind 3) (is_word s.size) rest) (and-right (nat_lt s.kind 3) (is_word s.size) rest)

reloc-whole : (m n : ℕ) (r : Reloc) → reloc_refers m n r ≡ true → is_addend r.addend ≡ true → is_reloc m n r ≡ true
reloc-whole m n r h k =
    let a = and-right (nat_lt r.section m) (is_word r.at && (is_kind r.kind && nat_lt r.symbol n)) h in
    let b = and-right (is_word r.at) (is_kind r.kind && nat_lt r.symbol n) a in
    five (nat_lt r.section m) (is_word r.at) (is_kind r.kind) (nat_lt r.symbol n) (is_addend r.addend)
    (and-left (nat_lt r.section m) (is_word r.at && (is_kind r.kind && nat_lt r.symbol n)) h) (and-left (is_word r.at) (is_kind r.kind && nat_lt r.symbol n) a)
    (and-left (is_kind r.kind) (nat_lt r.symbol n) b) (and-right (is_kind r.kind) (nat_lt r.symbol n) b) k

frame-whole : (n : ℕ) (f : FrameTable) → frame_refers n f ≡ true → table_fits f ≡ true → is_frame 2 n f ≡ true
frame-whole n f h k =
    let a = and-right (is_word f.cost) (is_word (length f.blocks) && list_all (is_block 2) f.blocks) k in
    four (nat_lt f.symbol n) (is_word f.cost) (is_word (length f.blocks)) (list_all (is_block 2) f.blocks) h
    (and-left (is_word f.cost) (is_word (length f.blocks) && list_all (is_block 2) f.blocks) k)
    (and-left (is_word (length f.blocks)) (list_all (is_block 2) f.blocks) a) (and-right (is_word (length f.blocks)) (list_all (is_block 2) f.blocks) a)

pub has_file : (code : Fun → Code) (core : Core) → IsKept code core → first_long code core.funs ≡ None → is_spellable 2 (object_of code core) ≡ true
has_file code core kept short =
    let o = object_of code core in
    let inside = refers_inside code core in
    let ds = definitions code core in
    let known = targets code core in
    let m = length o.sections in
    let n = length o.symbols in
    seven (list_all is_section o.sections) (list_all (is_symbol m) o.symbols) (locals_first o.symbols) (list_all (is_reloc m n) o.relocs) (by_sections 0 o.relocs)
    (list_all (is_frame 2 n) o.frames) (fits o (length (spelled_as 2 o)))
    (sections-stand code core kept short)
    (merged (symbol_refers m) (λ (s : Symbol). is_name s.name) (is_symbol m) o.symbols (symbol-whole m) inside.symbols_refer (symbols-named ds known kept.targets_fit))
    inside.locals_come_first
    (merged (reloc_refers m n) (λ (r : Reloc). is_addend r.addend) (is_reloc m n) o.relocs (reloc-whole m n) inside.relocs_refer (relocs-addends known 0 ds (definitions-addends code core kept)))
    inside.relocs_are_ordered
    (merged (frame_refers n) table_fits (is_frame 2 n) o.frames (frame-whole n) inside.frames_refer (frames-kept core.name known core.funs kept.functions_fit))
    kept.counts_fit
