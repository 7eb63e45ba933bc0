-- What the steps of linking come to.
use Rattle.std.proofs.Common.{◌≡◌, ◌≢◌, ℕ, zero, suc, ◌+◌, ◌-◌, ◌*◌, ◌/◌, ◌%◌, ◌<◌, ◌≤◌, ◌==◌, ◌&&◌, Bool, true, false, cond, List, [], ◌∷◌, ◌++◌, length, refl, sym, ap, ◌∙◌, Option, Some, None, find, arith, true≢false}
use Rattle.std.proofs.lemmas.Bool.Decides.{nat_tests}
use Rattle.std.specs.Prelude.{nat_lt, nat_le, IsSome, IsTrue, is_some, option_and_then}
use Rattle.std.specs.List.{list_all, slice_get}
use Rattle.std.specs.Option.{option_map, option_or}
use Rattle.sc_base.specs.declared.key.Key.{Key}
use Rattle.sc_isa_image.specs.declared.image.Image.{Image}
use Rattle.sc_isa_image.specs.declared.literals.Literal.{Literal}
use Rattle.sc_isa_image.specs.declared.text.Text.{Text}
use Rattle.sc_isa_image.specs.declared.text.TextAt.{TextAt}
use Rattle.sc_isa_image.specs.declared.stub.Stub.{Stub}
use Rattle.sc_isa_image.specs.Stubs.{Functions, call_words, function_at, key_at, stub_address, stub_of_word}
use Rattle.sc_isa_image.specs.Texts.{end_of, holds, place_of as where_of, text_holding, text_word, word_in_found}
use Rattle.sc_isa_image.specs.Lookups.{IsBlank, SameKeys, SameLiterals, SameTexts, SameValues, SameWords, functions_of, key_of, literal_in, text_at, value_of, value_or, word_at}
use Rattle.sc_link.specs.declared.placed.Placed.{Placed}
use Rattle.sc_link.specs.declared.placed.LiteralAt.{LiteralAt}
use Rattle.sc_link.specs.Areas.{in_text}
use Rattle.sc_link.specs.Entries.{fixes_in, jumps_in, literals_in, statics_in, texts_in}
use Rattle.sc_link.specs.Linked.{AreApart, AreDistinct, AreOnePlaced, IsLinked, fixed_all, key_in, place_in, stub_from, stub_half, stub_in, stub_words, text_in, value_in, word_in}
use Rattle.sc_link.specs.Steps.{AreFree, AreLiteralsFree, AreNew, AreStubs, HasLiterals, HasParts, IsBare, PutsFunctions, PutsLiterals, PutsStatics, PutsTexts, Relocates, SetsJumps, call_over, count_of, jump_for, jump_over, key_from, stub_over, word_over}
use Rattle.sc_link.proofs.Keys.{eq-true, eq-false, true-eq, true-lt, false-lt, lt-true, lt-false, get-within, none-some, find-some}
use Rattle.sc_link.proofs.Stubs.{over-other}
use Rattle.sc_link.proofs.Numbers.{calls-first, found-key, jumps-first, keys-first, no-key, no-stub, stub-number, stub-at, stub_in-at, stubs-first}

bare-key : (fs : Functions) (at : ℕ) → fs ≡ [] → key_at fs at ≡ None
bare-key fs at e = ap (λ xs. key_at xs at) e ∙ by (at % 8 == 0) (stub_of_word at)
  where
    by : (b : Bool) (n : Option ℕ) → cond b (option_map (λ (f : Key × Stub). f.0) (function_at [] n)) None ≡ None
    by true None = refl
    by true (Some n) = refl
    by false n = refl

-- an image that is made and given room
pub bare-from : (i j : Image) → IsBlank i → count_of j ≡ count_of i → SameKeys i j → SameValues i j → SameWords i j → SameTexts i j → SameLiterals i j → IsBare j
bare-from i j b count keys values words texts literals = record {
  count = count ∙ ap length b.functions;
  keys = λ at. keys at ∙ bare-key (functions_of i) at b.functions;
  values = λ q. values q ∙ b.values q;
  words = λ pc. words pc ∙ b.words pc;
  texts = λ pc. texts pc ∙ b.texts pc;
  literals = λ at. literals at ∙ b.literals at;
}

none-is : {A : Type 0} (r : Option A) (x : A) → r ≡ None → r ≢ Some x
none-is r x e h = none-some r x e h

pub bare-new : (ks : List Key) (i : Image) → IsBare i → AreDistinct ks → AreNew ks i
bare-new ks i b d = record {
  unknown = λ n k h at. none-is (key_of i at) k (b.keys at);
  absent = λ n k h. b.values k;
  distinct = d;
}

bare-literals : (i : Image) → IsBare i → HasLiterals [] i
bare-literals i b l at = ((λ e. absurd (none-some (literal_in i at) l (b.literals at) e)), (λ e. absurd (cc)))

if-same : {A : Type 0} (b : Bool) (r s t : Option A) → (b ≡ true → r ≡ s) → (b ≡ false → r ≡ t) → r ≡ cond b s t
if-same true r s t g h = g refl
if-same false r s t g h = h refl

or-same : (a : Option ℕ) → option_or a None ≡ a
or-same None = refl
or-same (Some n) = refl

pub parts-functions : (ks : List Key) (i j : Image) → IsBare i → AreDistinct ks → length ks ≤ 65536 → PutsFunctions ks i j → HasParts ks [] [] [] [] j
parts-functions ks i j b d few p = record {
  count = let a = p.count in let c = b.count in omega arith;
  keys = λ at. p.keys at ∙ ((λ m. key_from (b.count m) ks at (b.keys at m)) ∙ keys-first ks at);
  values = λ q. p.values q ∙ ((λ m. stub_over (b.count m) ks q (b.values q m)) ∙ stubs-first 0 ks q None d);
  words = λ pc. words pc ∙ if-same (nat_lt pc 0x00100000) (stub_in [] ks pc) (stub_in [] ks pc) None (λ e. refl) (λ e. no-stub [] ks pc few (lt-false pc 0x00100000 e));
  texts = λ pc. p.texts pc ∙ (b.texts pc ∙ if-same (nat_lt pc 0x00100000) None None None (λ e. refl) (λ e. refl));
  literals = λ l at. ((λ e. absurd (none-some (literal_in i at) l (b.literals at) (sym (p.literals at) ∙ e))), (λ e. absurd (cc)));
}
  where
    words : (pc : ℕ) → word_at j pc ≡ stub_in [] ks pc
    words pc = p.words pc ∙ ((λ m. call_over (b.count m) ks pc (b.words pc m)) ∙ calls-first ks pc)

same-literals : (ls : List LiteralAt) (i j : Image) → ((at : ℕ) → literal_in j at ≡ literal_in i at) → HasLiterals ls i → HasLiterals ls j
same-literals ls i j s h l at = ((λ e. (h l at).0 (sym (s at) ∙ e)), (λ e. s at ∙ (h l at).1 e))

value-or : (a b c : Option ℕ) → value_or (option_or a None) b ≡ option_or a b
value-or None b c = refl
value-or (Some n) b c = refl

pub parts-statics : (ks : List Key) (st : List (Key × ℕ)) (i j : Image) → HasParts ks [] [] [] [] i → PutsStatics st i j → HasParts ks st [] [] [] j
parts-statics ks st i j h p = record {
  count = p.count ∙ h.count;
  keys = λ at. p.keys at ∙ h.keys at;
  values = λ q. p.values q ∙ (ap (λ r. value_or r (place_in st q)) (h.values q) ∙ value-or (stub_from 0 ks q) (place_in st q) None);
  words = λ pc. p.words pc ∙ h.words pc;
  texts = λ pc. p.texts pc ∙ h.texts pc;
  literals = same-literals [] i j p.literals h.literals;
}

first-true : (a b : Bool) → IsTrue (a && b) → a ≡ true
first-true true b h = refl
first-true false b h = absurd (true≢false (sym h))

rest-true : (a b : Bool) → IsTrue (a && b) → IsTrue b
rest-true true b h = h
rest-true false b h = absurd (true≢false (sym h))

all-at : {A : Type 0} (p : A → Bool) (xs : List A) (n : ℕ) (x : A) → IsTrue (list_all p xs) → slice_get xs n ≡ Some x → p x ≡ true
all-at p [] n x h g = absurd (cc)
all-at p (y ∷ xs) zero x h g = let e : y ≡ x = cc in ap p (sym e) ∙ first-true (p y) (list_all p xs) h
all-at p (y ∷ xs) (suc n) x h g = all-at p xs n x (rest-true (p y) (list_all p xs) h) g

text-low : (t : Text) → in_text t ≡ true → 0x00100000 ≤ t.at.start
text-low t h = low t.at.start (end_of t) h
  where
    low : (a b : ℕ) → nat_le 0x00100000 a && nat_le b 0x04100000 ≡ true → 0x00100000 ≤ a
    low a b h = grind (arith, nat_tests)

text-high : (t : Text) → in_text t ≡ true → end_of t ≤ 0x04100000
text-high t h = high t.at.start (end_of t) h
  where
    high : (a b : ℕ) → nat_le 0x00100000 a && nat_le b 0x04100000 ≡ true → b ≤ 0x04100000
    high a b h = grind (arith, nat_tests)

no-text : (ks : List Key) (st : List (Key × ℕ)) (i : Image) → HasParts ks st [] [] [] i → (pc : ℕ) → text_at i pc ≡ None
no-text ks st i h pc = h.texts pc ∙ by (nat_lt pc 0x00100000)
  where
    by : (b : Bool) → cond b None (where_of (text_holding [] pc)) ≡ None
    by true = refl
    by false = refl

pub parts-free : (ks : List Key) (st : List (Key × ℕ)) (ts : List Text) (i : Image) → HasParts ks st [] [] [] i → AreApart ts → IsTrue (list_all in_text ts) → AreFree ts i
parts-free ks st ts i h a inside = record {
  low = λ n t g. text-low t (all-at in_text ts n t inside g);
  high = λ n t g. text-high t (all-at in_text ts n t inside g);
  free = λ n t pc _ _. no-text ks st i h pc;
  apart = a;
}

holds-from : (pc : ℕ) (t : Text) → 0x00100000 ≤ t.at.start → holds pc t ≡ true → 0x00100000 ≤ pc
holds-from pc t l h = by t.at.start (end_of t) l h
  where
    by : (a b : ℕ) → 0x00100000 ≤ a → nat_le a pc && nat_lt pc b ≡ true → 0x00100000 ≤ pc
    by a b l h = grind (arith, nat_tests)

find-low : (ts : List Text) (i : Image) (pc : ℕ) → AreFree ts i → pc < 0x00100000 → find (holds pc) ts ≡ None
find-low ts i pc f l = by (find (holds pc) ts) refl
  where
    by : (r : Option Text) → find (holds pc) ts ≡ r → r ≡ None
    by None e = refl
    by (Some t) e = let g = find-some (holds pc) ts t e in absurd (let m = holds-from pc t (f.low g.0 t g.1) g.2 in omega arith)

where-none : (r : Option Text) → option_or (where_of r) None ≡ where_of r
where-none None = refl
where-none (Some t) = refl

over-found : (pc : ℕ) (r : Option Text) → word_over pc r None ≡ word_in_found pc r
over-found pc None = refl
over-found pc (Some t) = refl

pub parts-texts : (ks : List Key) (st : List (Key × ℕ)) (ts : List Text) (i j : Image) → HasParts ks st [] [] [] i → AreFree ts i → PutsTexts ts i j → HasParts ks st [] ts [] j
parts-texts ks st ts i j h f p = record {
  count = p.count ∙ h.count;
  keys = λ at. p.keys at ∙ h.keys at;
  values = λ q. p.values q ∙ h.values q;
  words = λ pc. p.words pc ∙ (ap (word_over pc (find (holds pc) ts)) (h.words pc) ∙ words pc (nat_lt pc 0x00100000) refl);
  texts = λ pc. p.texts pc ∙ (ap (option_or (where_of (find (holds pc) ts))) (no-text ks st i h pc) ∙ (where-none (find (holds pc) ts) ∙ texts pc (nat_lt pc 0x00100000) refl));
  literals = same-literals [] i j p.literals h.literals;
}
  where
    words : (pc : ℕ) (b : Bool) → nat_lt pc 0x00100000 ≡ b → word_over pc (find (holds pc) ts) (cond b (stub_in [] ks pc) None) ≡ cond b (stub_in [] ks pc) (text_word ts pc)
    words pc true e = ap (λ r. word_over pc r (stub_in [] ks pc)) (find-low ts i pc f (lt-true pc 0x00100000 e))
    words pc false e = over-found pc (find (holds pc) ts)

    texts : (pc : ℕ) (b : Bool) → nat_lt pc 0x00100000 ≡ b → where_of (find (holds pc) ts) ≡ cond b None (where_of (text_holding ts pc))
    texts pc true e = ap where_of (find-low ts i pc f (lt-true pc 0x00100000 e))
    texts pc false e = refl

is-from : (r : Option ℕ) (n : ℕ) → r ≡ Some n → IsSome r
is-from r n e = ap is_some e

pub parts-stubs : (ks : List Key) (st : List (Key × ℕ)) (ts : List Text) (i : Image) → HasParts ks st [] ts [] i → AreDistinct ks → length ks ≤ 65536 → AreStubs i
parts-stubs ks st ts i h d few = record {
  values = λ at k e. let f = found-key ks at k (sym (h.keys at) ∙ e) in h.values k ∙ (ap (λ r. option_or r (place_in st k)) (stub-number 0 ks f.0 k d f.2) ∙ ap Some (let same = f.1 in omega arith));
  low = λ at k e. let f = found-key ks at k (sym (h.keys at) ∙ e) in let l = get-within ks f.0 k f.2 in let same = f.1 in omega arith;
  first = λ at k e. let f = found-key ks at k (sym (h.keys at) ∙ e) in let l = get-within ks f.0 k f.2 in let same = f.1 in some at f.0 k f.2 (omega arith) (stub-is at f.0 (omega arith) (omega arith) (omega arith));
  second = λ at k e. let f = found-key ks at k (sym (h.keys at) ∙ e) in let l = get-within ks f.0 k f.2 in let same = f.1 in some (at + 4) f.0 k f.2 (omega arith) (stub-is (at + 4) f.0 (omega arith) (omega arith) (omega arith));
}
  where
    stub-is : (pc n : ℕ) → 0x00010000 ≤ pc → pc % 4 ≡ 0 → (pc - 0x00010000) / 8 ≡ n → stub_of_word pc ≡ Some n
    stub-is pc n l e g = stub-at pc n l e g

    half-some : (pc : ℕ) → IsSome (stub_half pc call_words)
    half-some pc = by (pc % 8 == 0)
      where
        by : (b : Bool) → IsSome (cond b (slice_get call_words 0) (slice_get call_words 1))
        by true = refl
        by false = refl

    some : (pc n : ℕ) (k : Key) → slice_get ks n ≡ Some k → pc < 0x00100000 → stub_of_word pc ≡ Some n → IsSome (word_at i pc)
    some pc n k g l s =
        ap is_some (h.words pc ∙ (ap (λ b. cond b (stub_in [] ks pc) (text_word ts pc)) (true-lt pc 0x00100000 l)
        ∙ (stub_in-at [] ks pc n s ∙ ap (option_and_then (λ key. stub_half pc (stub_words (place_in [] key)))) g))) ∙ half-some pc

pub parts-jumps : (ks : List Key) (st js : List (Key × ℕ)) (ts : List Text) (i j : Image) → length ks ≤ 65536 → HasParts ks st [] ts [] i → SetsJumps js i j → HasParts ks st js ts [] j
parts-jumps ks st js ts i j few h p = record {
  count = p.count ∙ h.count;
  keys = λ at. p.keys at ∙ h.keys at;
  values = λ q. p.values q ∙ h.values q;
  words = λ pc. p.words pc ∙ ((λ m. jump_over pc (jump_for js (h.keys (pc / 8 * 8) m)) (h.words pc m)) ∙ words pc (nat_lt pc 0x00100000) refl);
  texts = λ pc. p.texts pc ∙ h.texts pc;
  literals = same-literals [] i j p.literals h.literals;
}
  where
    words : (pc : ℕ) (b : Bool) → nat_lt pc 0x00100000 ≡ b → jump_over pc (jump_for js (key_in ks (pc / 8 * 8))) (cond b (stub_in [] ks pc) (text_word ts pc)) ≡ cond b (stub_in js ks pc) (text_word ts pc)
    words pc true e = jumps-first js ks pc
    words pc false e = ap (λ k. jump_over pc (jump_for js k) (text_word ts pc)) (no-key ks (pc / 8 * 8) few (let l = lt-false pc 0x00100000 e in omega arith))

pub parts-place : (ks : List Key) (st js : List (Key × ℕ)) (ts : List Text) (ls : List LiteralAt) (i : Image) → HasParts ks st js ts [] i → AreOnePlaced ls → AreLiteralsFree ls i
parts-place ks st js ts ls i h a = record {
  free = λ n x l _ e. absurd (let z : ◌≡◌ {A = Option ℕ} None (Some x.at) = (h.literals l x.at).0 e in cc);
  apart = a;
}

pub parts-literals : (ks : List Key) (st js : List (Key × ℕ)) (ts : List Text) (ls : List LiteralAt) (i j : Image) → HasParts ks st js ts [] i → PutsLiterals ls i j → HasParts ks st js ts ls j
parts-literals ks st js ts ls i j h p = record {
  count = p.count ∙ h.count;
  keys = λ at. p.keys at ∙ h.keys at;
  values = λ q. p.values q ∙ h.values q;
  words = λ pc. p.words pc ∙ h.words pc;
  texts = λ pc. p.texts pc ∙ h.texts pc;
  literals = p.literals [] h.literals;
}

pub parts-linked : (es : List Placed) (ks : List Key) (i j : Image) → HasParts ks (statics_in es) (jumps_in es) (texts_in es) (literals_in es) i → Relocates (value_in es ks) (fixes_in es) i j → IsLinked es ks j
parts-linked es ks i j h p = record {
  count = p.count ∙ h.count;
  keys = λ at. p.keys at ∙ h.keys at;
  values = λ q. p.values q ∙ h.values q;
  words = λ pc. p.words pc ∙ (ap (λ r. cond (nat_lt pc 0x00100000) r (option_map (fixed_all (value_in es ks) (fixes_in es) pc) r)) (h.words pc) ∙ words pc (nat_lt pc 0x00100000));
  texts = λ pc. p.texts pc ∙ h.texts pc;
  literals = same-literals (literals_in es) i j p.literals h.literals;
}
  where
    words : (pc : ℕ) (b : Bool) → cond b (cond b (stub_in (jumps_in es) ks pc) (text_word (texts_in es) pc)) (option_map (fixed_all (value_in es ks) (fixes_in es) pc) (cond b (stub_in (jumps_in es) ks pc) (text_word (texts_in es) pc))) ≡ cond b (stub_in (jumps_in es) ks pc) (option_map (fixed_all (value_in es ks) (fixes_in es) pc) (text_word (texts_in es) pc))
    words pc true = refl
    words pc false = refl
