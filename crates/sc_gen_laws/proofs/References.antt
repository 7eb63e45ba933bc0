-- What the object of a module refers to, it has.
use Rattle.std.proofs.Common.{◌≡◌, ◌<◌, ◌≤◌, ℕ, suc, ◌+◌, ◌*◌, Bool, true, false, cond, not, ◌&&◌, ◌||◌, if◌then◌else◌, nat_lt, nat_le, List, [], ◌∷◌, ◌++◌, length, map, drop, Option, None, Some, refl, sym, ap, subst, ◌∙◌, arith, append_assoc, append-nil, length-append, eq-eqb}
use Rattle.std.specs.Prelude.{flat_map, sum_by}
use Rattle.std.specs.List.{list_all, list_any, position_or_len, prefix_len}
use Rattle.std.specs.Option.{option_eq}
use Rattle.std.specs.Str.{bytes_eq}
use Rattle.std.proofs.lemmas.Bool.Decides.{nat_tests}
use Rattle.std.proofs.lemmas.List.{length-map}
use Rattle.std.proofs.lemmas.List.Folds.{list_all-append}
use Rattle.std.proofs.lemmas.Slice.Eq.{bytes_eq-Decides}
use Rattle.sc_types.specs.Compatibility.{same_bool}
use Rattle.sc_core.specs.declared.module.Core.{Core}
use Rattle.sc_core.specs.declared.module.Declared.{Declared}
use Rattle.sc_core.specs.declared.module.Fun.{Fun}
use Rattle.sc_core.specs.declared.module.Init.{Init}
use Rattle.sc_core.specs.declared.module.Init.TheVariants as init
use Rattle.sc_core.specs.declared.module.StaticObj.{StaticObj}
use Rattle.sc_object.specs.declared.object.Symbol.{Symbol}
use Rattle.sc_object.specs.declared.object.Reloc.{Reloc}
use Rattle.sc_object.specs.declared.object.SectionKind.{SectionKind}
use Rattle.sc_object.specs.declared.object.SectionKind.TheVariants.{Text, Data, Rodata, Bss}
use Rattle.sc_object.specs.Parts.{is_local}
use Rattle.sc_object.specs.Reading.{is_word, is_kind, locals_first, by_sections}
use Rattle.sc_object.specs.Reading as reading
use Rattle.sc_gen_code.specs.declared.symbolic.Symbolic.{Symbolic}
use Rattle.sc_gen_code.specs.declared.symbolic.Symbolic.TheVariants.{Plain, Upper, Lower, Call}
use Rattle.sc_gen_code.specs.declared.symbolic.Access.TheVariants as access
use Rattle.sc_gen_code.specs.declared.symbolic.Target.{Target}
use Rattle.sc_gen_code.specs.declared.symbolic.Target.TheVariants.{Named, Literal}
use Rattle.sc_gen_code.specs.Code.{Code}
use Rattle.sc_gen_expr.specs.Words.{target_eq, mention, fitted, relocation}
use Rattle.sc_gen_expr.proofs.Mentions.{Known, mention-known}
use Rattle.sc_gen.specs.declared.definitions.Fixup.{Fixup}
use Rattle.sc_gen.specs.declared.definitions.Definition.{Definition}
use Rattle.sc_gen.specs.declared.symbols.Home.{Home}
use Rattle.sc_gen.specs.Sections.{function_section, object_section, literal_sections, sections, kind_of, init_size}
use Rattle.sc_gen.specs.Definitions.{key_of, or_else, word_fixups, text_fixups, init_fixups, data_fixups, fixups_in, function_definition, object_definition, literal_definition, literal_definitions, definitions}
use Rattle.sc_gen.specs.Objects.{is_global, mentions, all_mentions, declared_target, named, named_all, targets_of, targets, home, home_from, symbol_by, symbol_of, symbol_number, reloc_of, relocs_from, frame_of, object_of}
use Rattle.sc_gen_laws.specs.Inside.{symbol_refers, reloc_refers, frame_refers, RefersInside}

-- tests
pub lt : (m n : ℕ) → m < n → nat_lt m n ≡ true
lt m n h = grind (arith, nat_tests)

le : (m n : ℕ) → m ≤ n → nat_le m n ≡ true
le m n h = grind (arith, nat_tests)

word : (n : ℕ) → is_word (fitted n) ≡ true
word n = lt (fitted n) 4294967296 (omega arith)

pub both : (a b : Bool) → a ≡ true → b ≡ true → (a && b) ≡ true
both a b p q = ap (λ (x : Bool). x && b) p ∙ q

pub all_join : {A : Type 0} (p : A → Bool) (xs ys : List A) → list_all p xs ≡ true → list_all p ys ≡ true → list_all p (xs ++ ys) ≡ true
all_join p xs ys h k = list_all-append p xs ys ∙ both (list_all p xs) (list_all p ys) h k

-- there are as many sections as definitions
literals-same : (n : ℕ) (ts : List (List ℕ)) → length (literal_sections n ts) ≡ length (literal_definitions n ts)
literals-same n [] = refl
literals-same n (t ∷ ts) = ap suc (literals-same (n + 1) ts)

pub sections-same : (code : Fun → Code) (core : Core) → length (sections code core) ≡ length (definitions code core)
sections-same code core =
    let fs = map (function_section code) core.funs in
    let os = map object_section core.objects in
    let ls = literal_sections 0 core.literals in
    let gs = map (function_definition code core.name) core.funs in
    let ps = map (object_definition core.literals) core.objects in
    let ms = literal_definitions 0 core.literals in
    omega (
      arith,
      length-append (fs ++ os) ls,
      length-append fs os,
      length-append (gs ++ ps) ms,
      length-append gs ps,
      length-map core.funs (function_section code),
      length-map core.funs (function_definition code core.name),
      length-map core.objects object_section,
      length-map core.objects (object_definition core.literals),
      literals-same 0 core.literals,
    )

-- a target is among those that are named
bytes-self : (a : List ℕ) → bytes_eq a a ≡ true
bytes-self a = (bytes_eq-Decides a a).1 refl

module-self : (m : Option (List ℕ)) → option_eq bytes_eq m m ≡ true
module-self None = refl
module-self (Some a) = bytes-self a

target-self : (t : Target) → target_eq t t ≡ true
target-self (Named k) = both (option_eq bytes_eq k.«module» k.«module») (bytes_eq k.name k.name) (module-self k.«module») (bytes-self k.name)
target-self (Literal n) = eq-eqb n n refl

any-last : (t : Target) (known : List Target) → list_any (target_eq t) (known ++ t ∷ []) ≡ true
any-last t [] = ap (λ (b : Bool). b || false) (target-self t)
any-last t (u ∷ known) = by (target_eq t u) (list_any (target_eq t) (known ++ t ∷ [])) (any-last t known)
  where
    by : (a b : Bool) → b ≡ true → (a || b) ≡ true
    by true b h = refl
    by false b h = h

mention-has : (known : List Target) (t : Target) → list_any (target_eq t) (mention known t) ≡ true
mention-has known t =
    elim (list_any (target_eq t) known) as (λ b. list_any (target_eq t) known ≡ b → list_any (target_eq t) (if b then known else known ++ t ∷ []) ≡ true) [
      | true ↦ λ e. e
      | false ↦ λ e. any-last t known
    ] refl

named-known : (global : Bool) (known : List Target) (t u : Target) → list_any (target_eq u) known ≡ true → list_any (target_eq u) (named global known t) ≡ true
named-known global known t u h =
    elim (same_bool (is_global t) global) as (λ b. list_any (target_eq u) (if b then mention known t else known) ≡ true) [
      | true ↦ mention-known known t u h
      | false ↦ h
    ]

named-has : (global : Bool) (known : List Target) (t : Target) → same_bool (is_global t) global ≡ true → list_any (target_eq t) (named global known t) ≡ true
named-has global known t e =
    subst (λ (b : Bool). list_any (target_eq t) (if b then mention known t else known) ≡ true) (sym e) (mention-has known t)

all-known : (global : Bool) (known ts : List Target) (u : Target) → list_any (target_eq u) known ≡ true → list_any (target_eq u) (named_all global known ts) ≡ true
all-known global known [] u h = h
all-known global known (t ∷ ts) u h = all-known global (named global known t) ts u (named-known global known t u h)

-- those of one binding are known
abbrev Bound : Bool → List Target → List Target → Type 0
Bound global known [] = Unit {0}
Bound global known (t ∷ ts) = (same_bool (is_global t) global ≡ true → list_any (target_eq t) known ≡ true) × Bound global known ts

bound : (global : Bool) (known ts : List Target) → Bound global (named_all global known ts) ts
bound global known [] = tt
bound global known (t ∷ ts) =
    (λ e. all-known global (named global known t) ts t (named-has global known t e), bound global (named global known t) ts)

lifted : (global : Bool) (known more ts : List Target) → ((u : Target) → list_any (target_eq u) known ≡ true → list_any (target_eq u) more ≡ true) → Bound global known ts → Bound global more ts
lifted global known more [] f b = tt
lifted global known more (t ∷ ts) f b = (λ e. f t (b.0 e), lifted global known more ts f b.1)

either_bound : (known ts : List Target) → Bound true known ts → Bound false known ts → Known known ts
either_bound known [] g l = tt
either_bound known (t ∷ ts) g l = (by (is_global t) refl, either_bound known ts g.1 l.1)
  where
    by : (b : Bool) → is_global t ≡ b → list_any (target_eq t) known ≡ true
    by true e = g.0 (ap (λ (x : Bool). same_bool x true) e)
    by false e = l.0 (ap (λ (x : Bool). same_bool x false) e)

pub all-mentioned : (ds : List Definition) (declared : List Declared) → Known (targets_of ds declared) (all_mentions ds declared)
all-mentioned ds declared =
    let ms = all_mentions ds declared in
    let locals = named_all false [] ms in
    either_bound (named_all true locals ms) ms (bound true locals ms)
    (lifted false locals (named_all true locals ms) ms (λ u h. all-known true locals ms u h) (bound false [] ms))

-- by definitions
abbrev Mentioned : List Target → List Definition → Type 0
Mentioned known [] = Unit {0}
Mentioned known (d ∷ ds) = ((list_any (target_eq d.target) known ≡ true) × Known known (map (λ (x : Fixup). x.target) d.fixups)) × Mentioned known ds

known-front : (known xs ys : List Target) → Known known (xs ++ ys) → Known known xs
known-front known [] ys k = tt
known-front known (x ∷ xs) ys k = (k.0, known-front known xs ys k.1)

known-back : (known xs ys : List Target) → Known known (xs ++ ys) → Known known ys
known-back known [] ys k = k
known-back known (x ∷ xs) ys k = known-back known xs ys k.1

by-definitions : (known : List Target) (ds : List Definition) → Known known (flat_map mentions ds) → Mentioned known ds
by-definitions known [] k = tt
by-definitions known (d ∷ ds) k =
    let own = known-front known (mentions d) (flat_map mentions ds) k in
    ((own.0, own.1), by-definitions known ds (known-back known (mentions d) (flat_map mentions ds) k))

mentioned-front : (known : List Target) (xs ys : List Definition) → Mentioned known (xs ++ ys) → Mentioned known xs
mentioned-front known [] ys m = tt
mentioned-front known (x ∷ xs) ys m = (m.0, mentioned-front known xs ys m.1)

pub mentioned : (code : Fun → Code) (core : Core) → Mentioned (targets code core) (definitions code core)
mentioned code core =
    by-definitions (targets code core) (definitions code core)
    (known-front (targets code core) (flat_map mentions (definitions code core)) (flat_map declared_target core.declared) (all-mentioned (definitions code core) core.declared))

-- the number of what is known
place-below : (p : Target → Bool) (xs : List Target) → list_any p xs ≡ true → position_or_len p xs < length xs
place-below p [] h = cc
place-below p (x ∷ xs) h =
    elim (p x) as (λ b. p x ≡ b → position_or_len p (x ∷ xs) < length (x ∷ xs)) [
      | true ↦ λ e. rw e (omega arith)
      | false ↦ λ e. (let k = place-below p xs (sym (ap (λ (b : Bool). b || list_any p xs) e) ∙ h) in rw e (omega (arith, k)))
    ] refl

number-found : (n l : ℕ) → n < l → fitted (or_else l (cond (nat_lt n l) (Some n) None)) < l
number-found n l h = let e = lt n l h in rw e (omega (arith, h))

pub number-below : (known : List Target) (t : Target) → list_any (target_eq t) known ≡ true → symbol_number known t < length known
number-below known t h = number-found (position_or_len (target_eq t) known) (length known) (place-below (target_eq t) known h)

-- what waits has a place, and a type of the five
abbrev fixup_fits : Fixup → Bool
fixup_fits x = is_word x.at && is_kind x.kind

words-fit : (at : ℕ) (x : Symbolic) → list_all fixup_fits (word_fixups at (relocation x)) ≡ true
words-fit at (Plain i) = refl
words-fit at (Upper t) = both (is_word (fitted at) && true) true (both (is_word (fitted at)) true (word at) refl) refl
words-fit at (Lower (access.Load o r) t) = both (is_word (fitted at) && true) true (both (is_word (fitted at)) true (word at) refl) refl
words-fit at (Lower (access.Store o r) t) = both (is_word (fitted at) && true) true (both (is_word (fitted at)) true (word at) refl) refl
words-fit at (Lower (access.Address r) t) = both (is_word (fitted at) && true) true (both (is_word (fitted at)) true (word at) refl) refl
words-fit at (Call t) = both (is_word (fitted at) && true) true (both (is_word (fitted at)) true (word at) refl) refl

text-fits : (n : ℕ) (code : Code) → list_all fixup_fits (text_fixups n code) ≡ true
text-fits n [] = refl
text-fits n (x ∷ xs) = all_join fixup_fits (word_fixups (4 * n) (relocation x)) (text_fixups (n + 1) xs) (words-fit (4 * n) x) (text-fits (n + 1) xs)

init-fits : (literals : List (List ℕ)) (at : ℕ) (x : Init) → list_all fixup_fits (init_fixups literals at x) ≡ true
init-fits literals at (init.Byte b) = refl
init-fits literals at (init.Zeros n) = refl
init-fits literals at (init.Address what n) = both (is_word (fitted at) && true) true (both (is_word (fitted at)) true (word at) refl) refl

data-fits : (literals : List (List ℕ)) (at : ℕ) (xs : List Init) → list_all fixup_fits (data_fixups literals at xs) ≡ true
data-fits literals at [] = refl
data-fits literals at (x ∷ xs) =
    all_join fixup_fits (init_fixups literals at x) (data_fixups literals (fitted (at + init_size x)) xs) (init-fits literals at x) (data-fits literals (fitted (at + init_size x)) xs)

kept-fits : (kind : SectionKind) (literals : List (List ℕ)) (xs : List Init) → list_all fixup_fits (fixups_in kind literals xs) ≡ true
kept-fits Text literals xs = data-fits literals 0 xs
kept-fits Data literals xs = data-fits literals 0 xs
kept-fits Rodata literals xs = data-fits literals 0 xs
kept-fits Bss literals xs = refl

-- a definition has a type and a size that fit, and so do its fixups
abbrev definition_fits : Definition → Bool
definition_fits d = (nat_lt d.kind 3 && is_word d.size) && list_all fixup_fits d.fixups

functions-fit : (code : Fun → Code) (name : List ℕ) (fs : List Fun) → list_all definition_fits (map (function_definition code name) fs) ≡ true
functions-fit code name [] = refl
functions-fit code name (f ∷ fs) =
    let d = function_definition code name f in
    both (definition_fits d) (list_all definition_fits (map (function_definition code name) fs))
    (both (is_word d.size) (list_all fixup_fits d.fixups) (word (4 * length (code f))) (text-fits 0 (code f))) (functions-fit code name fs)

objects-fit : (literals : List (List ℕ)) (xs : List StaticObj) → list_all definition_fits (map (object_definition literals) xs) ≡ true
objects-fit literals [] = refl
objects-fit literals (x ∷ xs) =
    let d = object_definition literals x in
    both (definition_fits d) (list_all definition_fits (map (object_definition literals) xs))
    (both (is_word d.size) (list_all fixup_fits d.fixups) (word (sum_by init_size x.init)) (kept-fits (kind_of x) literals x.init)) (objects-fit literals xs)

literals-fit : (n : ℕ) (ts : List (List ℕ)) → list_all definition_fits (literal_definitions n ts) ≡ true
literals-fit n [] = refl
literals-fit n (t ∷ ts) =
    both (definition_fits (literal_definition (fitted n) t)) (list_all definition_fits (literal_definitions (n + 1) ts))
    (both (is_word (fitted (length t))) true (word (length t)) refl) (literals-fit (n + 1) ts)

pub definitions-fit : (code : Fun → Code) (core : Core) → list_all definition_fits (definitions code core) ≡ true
definitions-fit code core =
    let gs = map (function_definition code core.name) core.funs in
    let ps = map (object_definition core.literals) core.objects in
    all_join definition_fits (gs ++ ps) (literal_definitions 0 core.literals) (all_join definition_fits gs ps (functions-fit code core.name core.funs) (objects-fit core.literals core.objects))
    (literals-fit 0 core.literals)

and-left : (a b : Bool) → (a && b) ≡ true → a ≡ true
and-left true b h = refl
and-left false b h = cc

and-right : (a b : Bool) → (a && b) ≡ true → b ≡ true
and-right true b h = h
and-right false b h = cc

-- a symbol has a section of the object, or none
symbol-refers : (t : Target) (m n : ℕ) (ds : List Definition) → list_all definition_fits ds ≡ true → n + length ds ≤ m →
    symbol_refers m (symbol_by t (home_from n ds t)) ≡ true
symbol-refers t m n [] h k = refl
symbol-refers t m n (d ∷ ds) h k =
    elim (target_eq d.target t) as (λ b. symbol_refers m (symbol_by t (if b then Some (home n d) else home_from (n + 1) ds t)) ≡ true) [
      | true ↦ both (nat_lt (fitted n) m) (nat_lt d.kind 3 && is_word d.size) (lt (fitted n) m (omega (arith, k)))
          (and-left (nat_lt d.kind 3 && is_word d.size) (list_all fixup_fits d.fixups) (and-left (definition_fits d) (list_all definition_fits ds) h))
      | false ↦ symbol-refers t m (n + 1) ds (and-right (definition_fits d) (list_all definition_fits ds) h) (omega (arith, k))
    ]

symbols-refer : (m : ℕ) (ds : List Definition) (ts : List Target) → list_all definition_fits ds ≡ true → length ds ≤ m → list_all (symbol_refers m) (map (symbol_of ds) ts) ≡ true
symbols-refer m ds [] h k = refl
symbols-refer m ds (t ∷ ts) h k =
    both (symbol_refers m (symbol_of ds t)) (list_all (symbol_refers m) (map (symbol_of ds) ts)) (symbol-refers t m 0 ds h (omega (arith, k))) (symbols-refer m ds ts h k)

-- local symbols first
abbrev all_local : List Target → Bool
all_local ts = list_all (λ t. not (is_global t)) ts

global-of : (t : Target) (o : Option Home) → (symbol_by t o).global ≡ is_global t
global-of t None = refl
global-of t (Some h) = refl

globals-stand : (ds : List Definition) (ts : List Target) → list_all is_global ts ≡ true → list_all reading.is_global (map (symbol_of ds) ts) ≡ true
globals-stand ds [] h = refl
globals-stand ds (t ∷ ts) h =
    both (symbol_of ds t).global (list_all reading.is_global (map (symbol_of ds) ts)) (global-of t (home_from 0 ds t) ∙ and-left (is_global t) (list_all is_global ts) h)
    (globals-stand ds ts (and-right (is_global t) (list_all is_global ts) h))

no-locals : (ss : List Symbol) → list_all reading.is_global ss ≡ true → locals_first ss ≡ true
no-locals [] h = refl
no-locals (s ∷ ss) h =
    let e : s.global ≡ true = and-left s.global (list_all reading.is_global ss) h in
    subst (λ (n : ℕ). list_all reading.is_global (drop n (s ∷ ss)) ≡ true) (sym (ap (λ (b : Bool). cond (not b) (1 + prefix_len is_local ss) 0) e)) h

local-more : (s : Symbol) (ss : List Symbol) → s.global ≡ false → locals_first ss ≡ true → locals_first (s ∷ ss) ≡ true
local-more s ss e h =
    let one : 1 + prefix_len is_local ss ≡ suc (prefix_len is_local ss) = omega arith in
    subst (λ (n : ℕ). list_all reading.is_global (drop n (s ∷ ss)) ≡ true) (sym (ap (λ (b : Bool). cond (not b) (1 + prefix_len is_local ss) 0) e ∙ one)) h

is-false : (b : Bool) → not b ≡ true → b ≡ false
is-false true h = cc
is-false false h = refl

locals-stand : (ds : List Definition) (ls gs : List Target) → all_local ls ≡ true → list_all is_global gs ≡ true → locals_first (map (symbol_of ds) (ls ++ gs)) ≡ true
locals-stand ds [] gs l g = no-locals (map (symbol_of ds) gs) (globals-stand ds gs g)
locals-stand ds (t ∷ ls) gs l g =
    local-more (symbol_of ds t) (map (symbol_of ds) (ls ++ gs))
    (global-of t (home_from 0 ds t) ∙ is-false (is_global t) (and-left (not (is_global t)) (all_local ls) l))
    (locals-stand ds ls gs (and-right (not (is_global t)) (all_local ls) l) g)

-- naming those of one binding appends such alone
mention-one : (p : Target → Bool) (known : List Target) (t : Target) → p t ≡ true → (more : List Target) × ((mention known t ≡ known ++ more) × (list_all p more ≡ true))
mention-one p known t h =
    elim (list_any (target_eq t) known) as (λ b. (more : List Target) × (((if b then known else known ++ t ∷ []) ≡ known ++ more) × (list_all p more ≡ true))) [
      | true ↦ ([], (sym (append-nil known), refl))
      | false ↦ (t ∷ [], (refl, both (p t) true h refl))
    ]

named-one : (global : Bool) (p : Target → Bool) (known : List Target) (t : Target) → (same_bool (is_global t) global ≡ true → p t ≡ true) →
    (more : List Target) × ((named global known t ≡ known ++ more) × (list_all p more ≡ true))
named-one global p known t h =
    elim (same_bool (is_global t) global) as (λ b. same_bool (is_global t) global ≡ b → (more : List Target) × (((if b then mention known t else known) ≡ known ++ more) × (list_all p more ≡ true))) [
      | true ↦ λ e. mention-one p known t (h e)
      | false ↦ λ e. ([], (sym (append-nil known), refl))
    ] refl

named-more : (global : Bool) (p : Target → Bool) (known ts : List Target) → ((t : Target) → same_bool (is_global t) global ≡ true → p t ≡ true) →
    (more : List Target) × ((named_all global known ts ≡ known ++ more) × (list_all p more ≡ true))
named-more global p known [] h = ([], (sym (append-nil known), refl))
named-more global p known (t ∷ ts) h =
    let one = named-one global p known t (h t) in
    let rest = named-more global p (named global known t) ts h in
    (one.0 ++ rest.0, (rest.1.0 ∙ ap (λ (l : List Target). l ++ rest.0) one.1.0 ∙ append_assoc known one.0 rest.0, all_join p one.0 rest.0 one.1.1 rest.1.1))

same-true : (b : Bool) → same_bool b true ≡ true → b ≡ true
same-true true h = refl
same-true false h = cc

same-false : (b : Bool) → same_bool b false ≡ true → not b ≡ true
same-false true h = cc
same-false false h = refl

locals-first : (ds : List Definition) (all : List Definition) (declared : List Declared) → locals_first (map (symbol_of ds) (targets_of all declared)) ≡ true
locals-first ds all declared =
    let ms = all_mentions all declared in
    let locals = named_all false [] ms in
    let front = named-more false (λ t. not (is_global t)) [] ms (λ t e. same-false (is_global t) e) in
    let back = named-more true is_global locals ms (λ t e. same-true (is_global t) e) in
    let l : all_local locals ≡ true = ap all_local front.1.0 ∙ front.1.1 in
    subst (λ (ts : List Target). locals_first (map (symbol_of ds) ts) ≡ true) (sym back.1.0) (locals-stand ds locals back.0 l back.1.1)

-- relocations
group-refers : (known : List Target) (m n : ℕ) (xs : List Fixup) → n < m → list_all fixup_fits xs ≡ true → Known known (map (λ (x : Fixup). x.target) xs) →
    list_all (reloc_refers m (length known)) (map (reloc_of known n) xs) ≡ true
group-refers known m n [] h f k = refl
group-refers known m n (x ∷ xs) h f k =
    let own = and-left (fixup_fits x) (list_all fixup_fits xs) f in
    both (reloc_refers m (length known) (reloc_of known n x)) (list_all (reloc_refers m (length known)) (map (reloc_of known n) xs))
    (both (nat_lt (fitted n) m) (is_word x.at && (is_kind x.kind && nat_lt (symbol_number known x.target) (length known))) (lt (fitted n) m (omega (arith, h)))
    (both (is_word x.at) (is_kind x.kind && nat_lt (symbol_number known x.target) (length known)) (and-left (is_word x.at) (is_kind x.kind) own)
    (both (is_kind x.kind) (nat_lt (symbol_number known x.target) (length known)) (and-right (is_word x.at) (is_kind x.kind) own)
    (lt (symbol_number known x.target) (length known) (number-below known x.target k.0)))))
    (group-refers known m n xs h (and-right (fixup_fits x) (list_all fixup_fits xs) f) k.1)

relocs-refer : (known : List Target) (m n : ℕ) (ds : List Definition) → n + length ds ≤ m → list_all definition_fits ds ≡ true → Mentioned known ds →
    list_all (reloc_refers m (length known)) (relocs_from known n ds) ≡ true
relocs-refer known m n [] h f k = refl
relocs-refer known m n (d ∷ ds) h f k =
    all_join (reloc_refers m (length known)) (map (reloc_of known n) d.fixups) (relocs_from known (n + 1) ds)
    (group-refers known m n d.fixups (omega (arith, h)) (and-right (nat_lt d.kind 3 && is_word d.size) (list_all fixup_fits d.fixups) (and-left (definition_fits d) (list_all definition_fits ds) f)) k.0.1)
    (relocs-refer known m (n + 1) ds (omega (arith, h)) (and-right (definition_fits d) (list_all definition_fits ds) f) k.1)

group-ordered : (known : List Target) (m n : ℕ) (xs : List Fixup) (rest : List Reloc) → m ≤ fitted n → ((k : ℕ) → k ≤ fitted n → by_sections k rest ≡ true) →
    by_sections m (map (reloc_of known n) xs ++ rest) ≡ true
group-ordered known m n [] rest h r = r m h
group-ordered known m n (x ∷ xs) rest h r =
    both (nat_le m (fitted n)) (by_sections (fitted n) (map (reloc_of known n) xs ++ rest)) (le m (fitted n) h) (group-ordered known (fitted n) n xs rest (omega arith) r)

relocs-ordered : (known : List Target) (m n : ℕ) (ds : List Definition) → m ≤ fitted n → by_sections m (relocs_from known n ds) ≡ true
relocs-ordered known m n [] h = refl
relocs-ordered known m n (d ∷ ds) h =
    group-ordered known m n d.fixups (relocs_from known (n + 1) ds) h (λ k l. relocs-ordered known k (n + 1) ds (omega (arith, l)))

-- frames
frames-refer : (code : Fun → Code) (known : List Target) (name : List ℕ) (fs : List Fun) → Mentioned known (map (function_definition code name) fs) →
    list_all (frame_refers (length known)) (map (frame_of name known) fs) ≡ true
frames-refer code known name [] k = refl
frames-refer code known name (f ∷ fs) k =
    both (frame_refers (length known) (frame_of name known f)) (list_all (frame_refers (length known)) (map (frame_of name known) fs))
    (lt (symbol_number known (Named (key_of name f))) (length known) (number-below known (Named (key_of name f)) k.0.0)) (frames-refer code known name fs k.1)

pub refers_inside : (code : Fun → Code) (core : Core) → RefersInside (object_of code core)
refers_inside code core =
    let ds = definitions code core in
    let known = targets code core in
    let m = length (sections code core) in
    let same = sections-same code core in
    let fits = definitions-fit code core in
    let named = mentioned code core in
    let count : length (map (symbol_of ds) known) ≡ length known = length-map known (symbol_of ds) in
    let gs = map (function_definition code core.name) core.funs in
    let ps = map (object_definition core.literals) core.objects in
    record {
      symbols_refer = symbols-refer m ds known fits (omega (arith, same));
      locals_come_first = locals-first ds ds core.declared;
      relocs_refer = subst (λ (n : ℕ). list_all (reloc_refers m n) (relocs_from known 0 ds) ≡ true) (sym count) (relocs-refer known m 0 ds (omega (arith, same)) fits named);
      relocs_are_ordered = relocs-ordered known 0 0 ds (omega arith);
      frames_refer = subst (λ (n : ℕ). list_all (frame_refers n) (map (frame_of core.name known) core.funs) ≡ true) (sym count)
          (frames-refer code known core.name core.funs (mentioned-front known gs ps (mentioned-front known (gs ++ ps) (literal_definitions 0 core.literals) named)));
    }
