-- The texts of placed modules are apart: each function of a formed module has the text of its own section.
use Rattle.std.proofs.Common.{◌≡◌, ◌<◌, ◌≤◌, ℕ, zero, suc, ◌+◌, ◌*◌, Bool, true, false, not, cond, ◌&&◌, ◌||◌, if◌then◌else◌, nat_lt, nat_le, List, [], ◌∷◌, ◌++◌, length, map, refl, sym, ap, subst, ◌∙◌, Option, Some, None, arith, append_assoc, length-append}
use Rattle.std.proofs.lemmas.Bool.Decides.{nat_tests}
use Rattle.std.proofs.lemmas.List.{length-map, map-append}
use Rattle.std.proofs.lemmas.Slice.Eq.{bytes_eq-Decides}
use Rattle.std.specs.Prelude.{flat_map, slice_get, option_and_then, option_to_list}
use Rattle.std.specs.List.{list_any, position_or_len, prefix_len}
use Rattle.std.specs.Option.{option_eq}
use Rattle.std.specs.Str.{bytes_eq}
use Rattle.sc_base.specs.declared.key.Key.{Key}
use Rattle.sc_core.specs.declared.module.Core.{Core}
use Rattle.sc_core.specs.declared.module.Fun.{Fun}
use Rattle.sc_core_formed.specs.Modules.{formed, with_functions, with_literals, with_objects}
use Rattle.sc_core_formed.specs.Names.{are_new, distinct, key_eq}
use Rattle.sc_object.specs.declared.object.FrameTable.{FrameTable}
use Rattle.sc_object.specs.declared.object.Object.{Object}
use Rattle.sc_object.specs.declared.object.Section.{Section}
use Rattle.sc_object.specs.declared.object.Symbol.{Symbol}
use Rattle.sc_isa_image.specs.declared.text.Text.{Text}
use Rattle.sc_isa_image.specs.Texts.{end_of, holds, text_with}
use Rattle.sc_isa_image.proofs.Functions.{key-same}
use Rattle.sc_link.specs.declared.placed.Placed.{Placed}
use Rattle.sc_link.specs.Entries.{is_object, text_at, text_by, text_of, texts_if, texts_in, texts_of}
use Rattle.sc_link.specs.Linked.{AreApart}
use Rattle.sc_link.specs.Relocation.{words}
use Rattle.sc_link.specs.Symbols.{is_text, key_of as symbol_key, place_of, section_of}
use Rattle.sc_places.specs.Layout.{places_from, text_end}
use Rattle.sc_gen_code.specs.declared.symbolic.Target.{Target}
use Rattle.sc_gen_code.specs.declared.symbolic.Target.TheVariants.{Named, Literal}
use Rattle.sc_gen_code.specs.Code.{Code}
use Rattle.sc_gen_expr.specs.Words.{fitted, symbolic_word, target_eq}
use Rattle.sc_gen.specs.declared.definitions.Definition.{Definition}
use Rattle.sc_gen.specs.declared.symbols.Home.{Home}
use Rattle.sc_gen.specs.Definitions.{definitions, function_definition, key_of, literal_definitions, object_definition, or_else}
use Rattle.sc_gen.specs.Objects.{frame_of, home, home_from, symbol_by, symbol_number, symbol_of, targets}
use Rattle.sc_gen.specs.Sections.{function_section, literal_sections, object_section}
use Rattle.sc_placed_laws.specs.Texts.{AreMade, AreNumbered, IsMade, Stand}
use Rattle.sc_placed_laws.proofs.Placed.{Avoids, Each, code_words, each_app, end_total, functions_at, get_behind, get_mapped, literals_no_text, none_some, NoText, objects_no_text, place_at, same_some, stand_inside, start, text_grows, text_index, then_some, total, total_many, true_false}

-- ---- targets, names

target_same : (s t : Target) → target_eq s t ≡ true → s ≡ t
target_same (Named a) (Named b) h = ap Named (key-same a b h)
target_same (Named a) (Literal n) h = cc
target_same (Literal m) (Named b) h = cc
target_same (Literal m) (Literal n) h = let e : m ≡ n = grind (arith, nat_tests) in ap Literal e

bytes_self : (a : List ℕ) → bytes_eq a a ≡ true
bytes_self a = (bytes_eq-Decides a a).1 refl

both : (a b : Bool) → a ≡ true → b ≡ true → (a && b) ≡ true
both a b p q = ap (λ (x : Bool). x && b) p ∙ q

module_self : (m : Option (List ℕ)) → option_eq bytes_eq m m ≡ true
module_self None = refl
module_self (Some a) = bytes_self a

key_self : (k : Key) → target_eq (Named k) (Named k) ≡ true
key_self k = both (option_eq bytes_eq k.«module» k.«module») (bytes_eq k.name k.name) (module_self k.«module») (bytes_self k.name)

second : (a b : Bool) → (a && b) ≡ true → b ≡ true
second true b h = h
second false b h = cc

first : (a b : Bool) → (a && b) ≡ true → a ≡ true
first true b h = refl
first false b h = cc

not_true : (b : Bool) → not b ≡ true → b ≡ false
not_true true h = cc
not_true false h = refl

-- ---- the symbol of a frame

get_none : {A : Type 0} (xs : List A) (n : ℕ) (x : A) → length xs ≤ n → slice_get xs n ≡ Some x → ⊥
get_none [] n x l e = none_some x e
get_none (y ∷ xs) zero x l e = absurd (omega (arith, l))
get_none (y ∷ xs) (suc n) x l e = get_none xs n x (omega (arith, l)) e

-- what stands at the first place at which a test passes passes it
first_by : {A : Type 0} (p : A → Bool) (x : A) (xs : List A) (u : A) (b : Bool) → p x ≡ b → (slice_get xs (position_or_len p xs) ≡ Some u → p u ≡ true) →
    slice_get (x ∷ xs) (cond (not b) (1 + prefix_len (λ x. not (p x)) xs) 0) ≡ Some u → p u ≡ true
first_by p x xs u true h later g = ap p (sym (same_some x u g)) ∙ h
first_by p x xs u false h later g =
    let s : 1 + prefix_len (λ x. not (p x)) xs ≡ suc (prefix_len (λ x. not (p x)) xs) = omega arith in
    later (ap (slice_get (x ∷ xs)) (sym s) ∙ g)

at_first : {A : Type 0} (p : A → Bool) (xs : List A) (u : A) → slice_get xs (position_or_len p xs) ≡ Some u → p u ≡ true
at_first p [] u e = absurd (none_some u e)
at_first p (x ∷ xs) u e = first_by p x xs u (p x) refl (at_first p xs u) e

number_by : (known : List Target) (t u : Target) (b : Bool) → nat_lt (position_or_len (target_eq t) known) (length known) ≡ b → length known ≤ 4294967295 →
    slice_get known (fitted (or_else (length known) (cond b (Some (position_or_len (target_eq t) known)) None))) ≡ Some u → target_eq t u ≡ true
number_by known t u true e few g =
    let l : position_or_len (target_eq t) known < length known = grind (arith, nat_tests) in
    let s : position_or_len (target_eq t) known ≡ fitted (position_or_len (target_eq t) known) = omega (arith, few, l) in
    at_first (target_eq t) known u (ap (slice_get known) s ∙ g)
number_by known t u false e few g = absurd (get_none known (fitted (length known)) u (omega (arith, few)) g)

number_same : (known : List Target) (t u : Target) → length known ≤ 4294967295 → slice_get known (symbol_number known t) ≡ Some u → u ≡ t
number_same known t u few g = sym (target_same t u (number_by known t u (nat_lt (position_or_len (target_eq t) known) (length known)) refl few g))

-- ---- where a function's symbol is defined

abbrev Other : Fun → Fun → Type 0
Other f b = b.name ≡ f.name → ⊥

abbrev keyed : Target → List ℕ
keyed (Named k) = k.name
keyed (Literal n) = []

name_of : (k j : Key) → Named k ≡ Named j → k.name ≡ j.name
name_of k j e = ap keyed e

home_by : (ds : List Definition) (d : Definition) (t : Target) (n : ℕ) (b : Bool) → target_eq d.target t ≡ b → b ≡ true → (if b then Some (home n d) else home_from (n + 1) ds t) ≡ Some (home n d)
home_by ds d t n true e h = refl
home_by ds d t n false e h = absurd (cc)

home_later : (ds : List Definition) (d : Definition) (t : Target) (n : ℕ) (h : Home) (b : Bool) → target_eq d.target t ≡ b → (b ≡ true → ⊥) → home_from (n + 1) ds t ≡ Some h → (if b then Some (home n d) else home_from (n + 1) ds t) ≡ Some h
home_later ds d t n h true e bare g = absurd (bare refl)
home_later ds d t n h false e bare g = g

home_own : (code : Fun → Code) (own : List ℕ) (f : Fun) (bs : List Fun) (later : List Definition) (n : ℕ) → Each (Other f) bs →
    home_from n (map (function_definition code own) bs ++ function_definition code own f ∷ later) (Named (key_of own f)) ≡ Some (home (n + length bs) (function_definition code own f))
home_own code own f [] later n bare =
    let s : n ≡ n + 0 = omega arith in
    home_by later (function_definition code own f) (Named (key_of own f)) n (target_eq (Named (key_of own f)) (Named (key_of own f))) refl (key_self (key_of own f))
    ∙ ap (λ (k : ℕ). Some (home k (function_definition code own f))) s
home_own code own f (b ∷ bs) later n bare =
    let s : (n + 1) + length bs ≡ n + suc (length bs) = omega arith in
    home_later (map (function_definition code own) bs ++ function_definition code own f ∷ later) (function_definition code own b) (Named (key_of own f)) n (home (n + suc (length bs)) (function_definition code own f))
    (target_eq (Named (key_of own b)) (Named (key_of own f))) refl (λ e. bare.0 (name_of (key_of own b) (key_of own f) (target_same (Named (key_of own b)) (Named (key_of own f)) e)))
    (home_own code own f bs later (n + 1) bare.1 ∙ ap (λ (k : ℕ). Some (home k (function_definition code own f))) s)

-- ---- the text of a frame

-- a text is that of the section with a number
pub record IsAt (e : Placed) (t : Text) (number : ℕ) : Type 0 where
  pub section : Section
  pub section_is : slice_get e.object.sections number ≡ Some section
  pub place_is : slice_get e.places number ≡ Some t.at.start
  pub is_one : is_text section.kind ≡ true
  pub words_are : t.words ≡ words section.bytes

text_by_kind : (e : Placed) (x : FrameTable) (t : Text) (section : Section) (at number : ℕ) (key : Key) (b : Bool) → is_text section.kind ≡ b → slice_get e.object.sections number ≡ Some section → slice_get e.places number ≡ Some at →
    (if b then Some (text_with (record { fun = key; «module» = e.home; start = at; frame = x }) (words section.bytes)) else None) ≡ Some t → IsAt e t number
text_by_kind e x t section at number key true k es ep h =
    let s = same_some (text_with (record { fun = key; «module» = e.home; start = at; frame = x }) (words section.bytes)) t h in
    record {
      section = section;
      section_is = es;
      place_is = ep ∙ ap (λ (z : Text). Some z.at.start) s;
      is_one = k;
      words_are = ap (λ (z : Text). z.words) (sym s);
    }
text_by_kind e x t section at number key false k es ep h = absurd (none_some t h)

text_numbered : (e : Placed) (x : FrameTable) (t : Text) (number : ℕ) (os : Option Section) (op : Option ℕ) (key : Option Key) → slice_get e.object.sections number ≡ os → slice_get e.places number ≡ op →
    text_at e x os op key ≡ Some t → IsAt e t number
text_numbered e x t number None op key es ep h = absurd (none_some t h)
text_numbered e x t number (Some section) None key es ep h = absurd (none_some t h)
text_numbered e x t number (Some section) (Some at) None es ep h = absurd (none_some t h)
text_numbered e x t number (Some section) (Some at) (Some key) es ep h = text_by_kind e x t section at number key (is_text section.kind) refl es ep h

total_more : (code : Fun → Code) (text : ℕ) (bs fs : List Fun) → total code text (bs ++ fs) ≡ total code (total code text bs) fs
total_more code text [] fs = refl
total_more code text (b ∷ bs) fs = total_more code (text + 4 * length (code b)) bs fs

start_behind : (code : Fun → Code) (text : ℕ) (bs fs : List Fun) (f : Fun) → start code text (bs ++ f ∷ fs) (length bs) ≡ total code text bs
start_behind code text [] fs f = refl
start_behind code text (b ∷ bs) fs f = start_behind code (text + 4 * length (code b)) bs fs f

-- texts one behind the other between two addresses
abbrev Chain : ℕ → ℕ → List Text → Type 0
Chain high low [] = low ≤ high
Chain high low (t ∷ ts) = (low ≤ t.at.start) × Chain high (end_of t) ts

chain_low : (ts : List Text) (high low least : ℕ) → least ≤ low → Chain high low ts → Chain high least ts
chain_low [] high low least l c = omega (arith, l, c)
chain_low (t ∷ ts) high low least l c = let h = c.0 in (omega (arith, l, h), c.1)

chain_app : (xs ys : List Text) (low mid high : ℕ) → Chain mid low xs → Chain high mid ys → Chain high low (xs ++ ys)
chain_app [] ys low mid high p q = chain_low ys high mid low p q
chain_app (x ∷ xs) ys low mid high p q = (p.0, chain_app xs ys (end_of x) mid high p.1 q)

at_most : (m n : ℕ) → nat_le m n ≡ true → m ≤ n
at_most m n h = grind (arith, nat_tests)

less : (m n : ℕ) → nat_lt m n ≡ true → m < n
less m n h = grind (arith, nat_tests)

begun : (pc : ℕ) (t : Text) → holds pc t ≡ true → t.at.start ≤ pc
begun pc t h = at_most t.at.start pc (first (nat_le t.at.start pc) (nat_lt pc (end_of t)) h)

not_over : (pc : ℕ) (t : Text) → holds pc t ≡ true → pc < end_of t
not_over pc t h = less pc (end_of t) (second (nat_le t.at.start pc) (nat_lt pc (end_of t)) h)

-- an address of one of them stands behind where they begin
chain_holds : (ts : List Text) (high low n pc : ℕ) (u : Text) → Chain high low ts → slice_get ts n ≡ Some u → holds pc u ≡ true → low ≤ pc
chain_holds [] high low n pc u c g h = absurd (none_some u g)
chain_holds (t ∷ ts) high low zero pc u c g h =
    let s : t.at.start ≤ pc = begun pc t (ap (holds pc) (same_some t u g) ∙ h) in
    let l = c.0 in
    omega (arith, l, s)
chain_holds (t ∷ ts) high low (suc n) pc u c g h =
    let r = chain_holds ts high (end_of t) n pc u c.1 g h in
    let l = c.0 in
    omega (arith, l, r)

never : (ts : List Text) (high n pc : ℕ) (x t u : Text) → Chain high (end_of x) ts → Some x ≡ Some t → slice_get ts n ≡ Some u → holds pc t ≡ true → holds pc u ≡ true → ⊥
never ts high n pc x t u c e g p q =
    let l = not_over pc x (ap (holds pc) (same_some x t e) ∙ p) in
    let r = chain_holds ts high (end_of x) n pc u c g q in
    absurd (omega (arith, l, r))

chain_apart : (ts : List Text) (high low : ℕ) → Chain high low ts → AreApart ts
chain_apart [] high low c m n t u pc g e p q = absurd (none_some t g)
chain_apart (x ∷ ts) high low c zero zero t u pc g e p q = refl
chain_apart (x ∷ ts) high low c zero (suc n) t u pc g e p q = absurd (never ts high n pc x t u c.1 g e p q)
chain_apart (x ∷ ts) high low c (suc m) zero t u pc g e p q = absurd (never ts high m pc x u t c.1 e g q p)
chain_apart (x ∷ ts) high low c (suc m) (suc n) t u pc g e p q = ap suc (chain_apart ts high (end_of x) c.1 m n t u pc g e p q)

-- none of the names before is that of a new one
others : (f : Fun) (bs : List Fun) → list_any (bytes_eq f.name) (map (λ (b : Fun). b.name) bs) ≡ false → Each (Other f) bs
others f [] h = tt
others f (b ∷ bs) h = (one (bytes_eq f.name b.name) (list_any (bytes_eq f.name) (map (λ (b : Fun). b.name) bs)) refl h, others f bs (rest (bytes_eq f.name b.name) (list_any (bytes_eq f.name) (map (λ (b : Fun). b.name) bs)) h))
  where
    one : (c d : Bool) → bytes_eq f.name b.name ≡ c → (c || d) ≡ false → Other f b
    one true d e h = absurd (cc)
    one false d e h = λ same. true_false (sym (ap (bytes_eq f.name) same ∙ bytes_self f.name) ∙ e)

    rest : (c d : Bool) → (c || d) ≡ false → d ≡ false
    rest true d h = absurd (cc)
    rest false d h = h

module _ (e : Placed) (made : IsMade e.object) (text statics : ℕ) (keeps_ : List (Option ℕ)) (ep : e.places ≡ places_from true text statics e.object.sections keeps_)
    (fits : text_end true text e.object.sections ≤ 0x04100000) (few : length e.object.symbols ≤ 4294967295) where
  abbrev core : Core
  core = made.core

  abbrev code : Fun → Code
  code = made.code

  abbrev known : List Target
  known = targets code core

  abbrev frame : Fun → FrameTable
  frame f = frame_of core.name known f

  abbrev more : List Section
  more = map object_section core.objects ++ literal_sections 0 core.literals

  no_more : Each NoText more
  no_more = each_app NoText (map object_section core.objects) (literal_sections 0 core.literals) (objects_no_text core.objects) (literals_no_text 0 core.literals)

  sections_are : e.object.sections ≡ map (function_section code) core.funs ++ more
  sections_are = ap (λ (o : Object). o.sections) made.same ∙ append_assoc (map (function_section code) core.funs) (map object_section core.objects) (literal_sections 0 core.literals)

  inside : total code text core.funs ≤ 0x04100000
  inside = subst (λ (n : ℕ). n ≤ 0x04100000) (ap (text_end true text) sections_are ∙ end_total code core.funs more text no_more) fits

  symbols_few : length known ≤ 4294967295
  symbols_few =
      let s : length e.object.symbols ≡ length known = ap (λ (o : Object). length o.symbols) made.same ∙ length-map known (symbol_of (definitions code core)) in
      omega (arith, s, few)

  -- the symbol of a function has the number of its section
  section_number : (bs fs : List Fun) (f : Fun) (s : Symbol) → core.funs ≡ bs ++ f ∷ fs → Each (Other f) bs → slice_get e.object.symbols (symbol_number known (Named (key_of core.name f))) ≡ Some s → s.section ≡ Some (length bs)
  section_number bs fs f s is bare g =
      let t = Named (key_of core.name f) in
      let ds = definitions code core in
      let rest = map (object_definition core.literals) core.objects ++ literal_definitions 0 core.literals in
      let found = get_mapped (symbol_of ds) known (symbol_number known t) s (ap (λ (o : Object). slice_get o.symbols (symbol_number known t)) (sym made.same) ∙ g) in
      let same = number_same known t found.0 symbols_few found.1.0 in
      let split : ds ≡ map (function_definition code core.name) bs ++ (function_definition code core.name f ∷ (map (function_definition code core.name) fs ++ rest)) =
      append_assoc (map (function_definition code core.name) core.funs) (map (object_definition core.literals) core.objects) (literal_definitions 0 core.literals)
      ∙ ap (λ (z : List Fun). map (function_definition code core.name) z ++ rest) is ∙ ap (λ (z : List Definition). z ++ rest) (map-append (function_definition code core.name) bs (f ∷ fs))
      ∙ append_assoc (map (function_definition code core.name) bs) (function_definition code core.name f ∷ map (function_definition code core.name) fs) rest in
      let home_is = ap (λ (z : List Definition). home_from 0 z t) split ∙ home_own code core.name f bs (map (function_definition code core.name) fs ++ rest) 0 bare in
      let count : length bs ≤ length core.funs = (let c = ap length is in let a = length-append bs (f ∷ fs) in omega (arith, c, a)) in
      let many = total_many code text core.funs made.some in
      let i = inside in
      let low : fitted (0 + length bs) ≡ length bs = omega (arith, count, many, i) in
      ap (λ (z : Symbol). z.section) (sym found.1.1) ∙ ap (λ (u : Target). (symbol_of ds u).section) same ∙ ap (λ (h : Option Home). (symbol_by t h).section) home_is ∙ ap Some low

  own_text : (bs fs : List Fun) (f : Fun) (t : Text) → core.funs ≡ bs ++ f ∷ fs → Each (Other f) bs → text_of e (frame f) ≡ Some t → (t.at.start ≡ total code text bs) × (length t.words ≡ length (code f))
  own_text bs fs f t is bare h =
      let s = then_some (text_by e (frame f)) (slice_get e.object.symbols (frame f).symbol) t h in
      let n = section_number bs fs f s.0 is bare s.1.0 in
      let k = length bs in
      let of = text_numbered e (frame f) t k (section_of e.object s.0) (place_of e s.0) (symbol_key e.home s.0)
      (ap (option_and_then (slice_get e.object.sections)) (sym n)) (ap (option_and_then (slice_get e.places)) (sym n)) s.1.1 in
      let index = text_index code core.funs more k of.section no_more (ap (λ (z : List Section). slice_get z k) (sym sections_are) ∙ of.section_is) of.is_one in
      let mine : slice_get core.funs k ≡ Some f = ap (λ (z : List Fun). slice_get z k) is ∙ get_behind bs fs f k refl in
      let same : index.0 ≡ f = same_some index.0 f (sym index.1.0 ∙ mine) in
      let at = functions_at (Avoids 0) e code core.funs more [] [] 0 text statics keeps_ sections_are (ep ∙ ap (λ (z : List Section). places_from true text statics z keeps_) sections_are) refl refl in
      let zero_k : k ≡ 0 + k = omega arith in
      let begins : t.at.start ≡ start code text core.funs k =
      same_some t.at.start (start code text core.funs k) (sym of.place_is ∙ ap (slice_get e.places) zero_k ∙ place_at (Avoids 0) e code core.funs 0 text k f at mine) in
      let ws : t.words ≡ map symbolic_word (code f) =
      of.words_are ∙ ap (λ (z : Section). words z.bytes) (sym index.1.1) ∙ ap (λ (z : Fun). words (function_section code z).bytes) same ∙ code_words (code f) (made.sound f) in
      (begins ∙ ap (λ (z : List Fun). start code text z k) is ∙ start_behind code text bs fs f, ap length ws ∙ length-map (code f) symbolic_word)

  option_chain : (o : Option Text) (rest : List Text) (high low next : ℕ) → low ≤ next → ((t : Text) → o ≡ Some t → (low ≤ t.at.start) × (end_of t ≤ next)) → Chain high next rest → Chain high low (option_to_list o ++ rest)
  option_chain None rest high low next l h c = chain_low rest high next low l c
  option_chain (Some t) rest high low next l h c = let g = h t refl in (g.0, chain_low rest high next (end_of t) g.1 c)

  frames_chain : (bs fs : List Fun) → core.funs ≡ bs ++ fs → are_new bytes_eq (map (λ (b : Fun). b.name) bs) (map (λ (b : Fun). b.name) fs) ≡ true →
      Chain (total code (total code text bs) fs) (total code text bs) (flat_map (λ x. option_to_list (text_of e x)) (map frame fs))
  frames_chain bs [] is new = omega arith
  frames_chain bs (f ∷ fs) is new =
      let names = map (λ (b : Fun). b.name) bs in
      let fresh = not_true (list_any (bytes_eq f.name) names) (first (not (list_any (bytes_eq f.name) names)) (are_new bytes_eq (names ++ f.name ∷ []) (map (λ (b : Fun). b.name) fs)) new) in
      let bare = others f bs fresh in
      let next : total code text (bs ++ f ∷ []) ≡ total code text bs + 4 * length (code f) = total_more code text bs (f ∷ []) in
      let later = second (not (list_any (bytes_eq f.name) names)) (are_new bytes_eq (names ++ f.name ∷ []) (map (λ (b : Fun). b.name) fs)) new in
      let again : are_new bytes_eq (map (λ (b : Fun). b.name) (bs ++ f ∷ [])) (map (λ (b : Fun). b.name) fs) ≡ true =
      ap (λ (z : List (List ℕ)). are_new bytes_eq z (map (λ (b : Fun). b.name) fs)) (map-append (λ (b : Fun). b.name) bs (f ∷ [])) ∙ later in
      let rest = frames_chain (bs ++ f ∷ []) fs (is ∙ sym (append_assoc bs (f ∷ []) fs)) again in
      let c = subst (λ (n : ℕ). Chain (total code n fs) n (flat_map (λ x. option_to_list (text_of e x)) (map frame fs))) next rest in
      option_chain (text_of e (frame f)) (flat_map (λ x. option_to_list (text_of e x)) (map frame fs)) (total code (total code text bs + 4 * length (code f)) fs) (total code text bs) (total code text bs + 4 * length (code f)) (omega arith)
      (λ t h. let o = own_text bs fs f t is bare h in let a = o.0 in let b = o.1 in (omega (arith, a), omega (arith, a, b))) c

  entry_chain : are_new bytes_eq [] (map (λ (b : Fun). b.name) core.funs) ≡ true → Chain (text_end true text e.object.sections) text (texts_of e)
  entry_chain new =
      let end : text_end true text e.object.sections ≡ total code text core.funs = ap (text_end true text) sections_are ∙ end_total code core.funs more text no_more in
      subst (λ (n : ℕ). Chain n text (texts_of e)) (sym end)
      (subst (λ (xs : List FrameTable). Chain (total code text core.funs) text (flat_map (λ x. option_to_list (text_of e x)) xs)) (sym (ap (λ (o : Object). o.frames) made.same)) (frames_chain [] core.funs refl new))

names_new : (core : Core) → formed core ≡ true → are_new bytes_eq [] (map (λ (b : Fun). b.name) core.funs) ≡ true
names_new core h =
    first (distinct bytes_eq (map (λ f. f.name) core.funs)) (with_literals core)
    (second (distinct key_eq (map (λ x. x.key) core.objects)) (with_functions core) (second (distinct key_eq (map (λ d. d.key) core.declared)) (with_objects core) h))

form_chain : (b : Bool) (e : Placed) (made : IsMade e.object) (text statics : ℕ) (keeps_ : List (Option ℕ)) → e.places ≡ places_from b text statics e.object.sections keeps_ → text_end b text e.object.sections ≤ 0x04100000 →
    length e.object.symbols ≤ 4294967295 → formed made.core ≡ true → Chain (text_end b text e.object.sections) text (if b then texts_of e else [])
form_chain true e made text statics keeps_ ep fits few h = entry_chain e made text statics keeps_ ep fits few (names_new made.core h)
form_chain false e made text statics keeps_ ep fits few h = text_grows false e.object.sections text

all_chain : (es : List Placed) (low : ℕ) (made : AreMade es) → AreNumbered es made → Stand low es → Chain 0x04100000 low (texts_in es)
all_chain [] low made n s = s
all_chain (e ∷ es) low made n s =
    let b = is_object e.form in
    let placed = s.1.1.0 in
    let end = text_end b s.0 e.object.sections in
    chain_app (texts_if e) (texts_in es) low end 0x04100000
    (chain_low (texts_if e) end s.0 low s.1.0 (form_chain b e made.0 s.0 placed.statics placed.keeps placed.places_are (stand_inside es end s.1.1.1) n.0.1 n.0.0))
    (all_chain es end made.1 n.1 s.1.1.1)

-- no two texts hold one address
pub texts_apart : (es : List Placed) (made : AreMade es) → AreNumbered es made → Stand 0x00100000 es → AreApart (texts_in es)
texts_apart es made n s = chain_apart (texts_in es) 0x04100000 0x00100000 (all_chain es 0x00100000 made n s)
