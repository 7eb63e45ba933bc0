-- One step before others.
use Rattle.std.proofs.Common.{◌≡◌, ◌≢◌, length-append, ℕ, zero, suc, ◌+◌, ◌*◌, ◌<◌, ◌≤◌, ◌==◌, ◌&&◌, Bool, true, false, cond, List, [], ◌∷◌, ◌++◌, length, refl, sym, ap, ◌∙◌, Option, Some, None, find, arith, true≢false}
use Rattle.std.proofs.lemmas.Bool.Decides.{nat_tests}
use Rattle.std.specs.Prelude.{nat_le, nat_lt}
use Rattle.std.specs.List.{slice_get}
use Rattle.std.specs.Option.{option_or}
use Rattle.sc_base.specs.declared.key.Key.{Key}
use Rattle.sc_isa_image.specs.declared.image.Image.{Image}
use Rattle.sc_isa_image.specs.declared.text.Text.{Text}
use Rattle.sc_isa_image.specs.declared.text.TextAt.{TextAt}
use Rattle.sc_isa_image.specs.Stubs.{stub_address}
use Rattle.sc_isa_image.specs.Texts.{end_of, holds, place_of as where_of, text_with, word_in}
use Rattle.sc_isa_image.specs.Lookups.{Spends, key_eq, key_of, text_at, value_of, value_or, word_at}
use Rattle.sc_link.specs.Linked.{place_in}
use Rattle.sc_link.specs.Steps.{AreFree, AreNew, PutsFunctions, PutsStatics, PutsTexts, call_over, count_of, key_from, stub_over, word_over}
use Rattle.sc_link.proofs.Keys.{find-append, get-front, get-last, get-within, key-same, none-some, same-some, value_or-none}

pub spends-then : (i j f : Image) (a b c d p q r s x y z w : ℕ) → Spends i j a b c d → Spends j f p q r s → x ≡ a + p → y ≡ b + q → z ≡ c + r → w ≡ d + s → Spends i f x y z w
spends-then i j f a b c d p q r s x y z w g h ex ey ez ew = record {
  for_texts = let u = g.for_texts in let v = h.for_texts in omega arith;
  for_values = let u = g.for_values in let v = h.for_values in omega arith;
  for_literals = let u = g.for_literals in let v = h.for_literals in omega arith;
  for_functions = let u = g.for_functions in let v = h.for_functions in omega arith;
}

pub spends-none : (i : Image) → Spends i i 0 0 0 0
spends-none i = record { for_texts = omega arith; for_values = omega arith; for_literals = omega arith; for_functions = omega arith }

pub functions-none : (i : Image) → PutsFunctions [] i i
functions-none i = record {
  count = omega arith;
  keys = λ at. refl;
  values = λ q. refl;
  words = λ pc. refl;
  texts = λ pc. refl;
  literals = λ at. refl;
  room = spends-none i;
}

pub functions-then : (k : Key) (ks : List Key) (i j f : Image) → PutsFunctions (k ∷ []) i j → PutsFunctions ks j f → PutsFunctions (k ∷ ks) i f
functions-then k ks i j f p q = record {
  count = let a = p.count in let b = q.count in omega arith;
  keys = λ at. q.keys at ∙ (λ m. key_from (p.count m) ks at (p.keys at m));
  values = λ x. q.values x ∙ (λ m. stub_over (p.count m) ks x (p.values x m));
  words = λ pc. q.words pc ∙ (λ m. call_over (p.count m) ks pc (p.words pc m));
  texts = λ pc. q.texts pc ∙ p.texts pc;
  literals = λ at. q.literals at ∙ p.literals at;
  room = spends-then i j f 0 0 0 1 0 0 0 (length ks) 0 0 0 (length (k ∷ ks)) p.room q.room (omega arith) (omega arith) (omega arith) (omega arith);
}

new-unknown : (b : Bool) (k x : Key) (r : Option Key) → k ≢ x → r ≢ Some x → cond b (Some k) r ≢ Some x
new-unknown true k x r ne o h = ne (same-some k x h)
new-unknown false k x r ne o h = o h

pub new-rest : (k : Key) (ks : List Key) (i j : Image) → AreNew (k ∷ ks) i → PutsFunctions (k ∷ []) i j → AreNew ks j
new-rest k ks i j a p = record {
  unknown = λ n x h at e. new-unknown (at == stub_address (count_of i)) k x (key_of i at) (differ n x h) (a.unknown (suc n) x h at) (sym (p.keys at) ∙ e);
  absent = λ n x h. p.values x ∙ absent n x h (key_eq k x) refl;
  distinct = λ m n x g h. let e = a.distinct (suc m) (suc n) x g h in omega arith;
}
  where
    differ : (n : ℕ) (x : Key) → slice_get ks n ≡ Some x → k ≢ x
    differ n x h e = absurd (let z = a.distinct 0 (suc n) x (ap Some e) h in omega arith)

    absent : (n : ℕ) (x : Key) → slice_get ks n ≡ Some x → (b : Bool) → key_eq k x ≡ b → cond b (Some (stub_address (count_of i))) (value_of i x) ≡ None
    absent n x h true e = absurd (differ n x h (key-same k x e))
    absent n x h false e = a.absent (suc n) x h

pub new-first : (k : Key) (ks : List Key) (i : Image) → AreNew (k ∷ ks) i → AreNew (k ∷ []) i
new-first k ks i a = record {
  unknown = λ n x h. a.unknown 0 x (one n x h);
  absent = λ n x h. a.absent 0 x (one n x h);
  distinct = λ m n x g h. zero-one m n x g h;
}
  where
    one : (n : ℕ) (x : Key) → slice_get (k ∷ []) n ≡ Some x → slice_get (k ∷ ks) 0 ≡ Some x
    one zero x h = h
    one (suc n) x h = absurd (cc)

    zero-one : (m n : ℕ) (x : Key) → slice_get (k ∷ []) m ≡ Some x → slice_get (k ∷ []) n ≡ Some x → m ≡ n
    zero-one zero zero x g h = refl
    zero-one zero (suc n) x g h = absurd (cc)
    zero-one (suc m) n x g h = absurd (cc)

pub statics-none : (i : Image) → PutsStatics [] i i
statics-none i = record {
  values = λ q. sym (value_or-none (value_of i q));
  count = refl;
  keys = λ at. refl;
  words = λ pc. refl;
  texts = λ pc. refl;
  literals = λ at. refl;
  room = spends-none i;
}

value-then : (a : Option ℕ) (b : Bool) (y : ℕ) (r : Option ℕ) → value_or (value_or a (cond b (Some y) None)) r ≡ value_or a (cond b (Some y) r)
value-then None true y r = refl
value-then None false y r = refl
value-then (Some n) b y r = refl

pub statics-then : (x : Key × ℕ) (xs : List (Key × ℕ)) (i j f : Image) → PutsStatics (x ∷ []) i j → PutsStatics xs j f → PutsStatics (x ∷ xs) i f
statics-then x xs i j f p q = record {
  values = λ k. q.values k ∙ (ap (λ r. value_or r (place_in xs k)) (p.values k) ∙ value-then (value_of i k) (key_eq x.0 k) x.1 (place_in xs k));
  count = q.count ∙ p.count;
  keys = λ at. q.keys at ∙ p.keys at;
  words = λ pc. q.words pc ∙ p.words pc;
  texts = λ pc. q.texts pc ∙ p.texts pc;
  literals = λ at. q.literals at ∙ p.literals at;
  room = spends-then i j f 0 1 0 0 0 (length xs) 0 0 0 (length (x ∷ xs)) 0 0 p.room q.room (omega arith) (omega arith) (omega arith) (omega arith);
}

-- a key without a value gets one
pub value-put : (k q : Key) (at : ℕ) (old new : Key → Option ℕ) → old k ≡ None → new q ≡ cond (key_eq k q) (Some at) (old q) → new q ≡ value_or (old q) (place_in ((k, at) ∷ []) q)
value-put k q at old new none h = h ∙ by (key_eq k q) refl
  where
    by : (b : Bool) → key_eq k q ≡ b → cond b (Some at) (old q) ≡ value_or (old q) (cond b (Some at) None)
    by true e = sym (ap (λ r. value_or r (Some at)) (ap old (sym (key-same k q e)) ∙ none))
    by false e = sym (value_or-none (old q))

-- a key with a value keeps it
pub value-kept : (k q : Key) (at v : ℕ) (old : Key → Option ℕ) → old k ≡ Some v → old q ≡ value_or (old q) (place_in ((k, at) ∷ []) q)
value-kept k q at v old some = by (key_eq k q) refl
  where
    by : (b : Bool) → key_eq k q ≡ b → old q ≡ value_or (old q) (cond b (Some at) None)
    by true e = let s : old q ≡ Some v = ap old (sym (key-same k q e)) ∙ some in s ∙ sym (ap (λ r. value_or r (Some at)) s)
    by false e = sym (value_or-none (old q))

pub static-kept : (object : Key × ℕ) (i : Image) (v : ℕ) → value_of i object.0 ≡ Some v → PutsStatics (object ∷ []) i i
static-kept object i v some = record {
  values = λ q. value-kept object.0 q object.1 v (value_of i) some;
  count = refl;
  keys = λ at. refl;
  words = λ pc. refl;
  texts = λ pc. refl;
  literals = λ at. refl;
  room = record { for_texts = omega arith; for_values = omega arith; for_literals = omega arith; for_functions = omega arith };
}

pub texts-none : (i : Image) → PutsTexts [] i i
texts-none i = record {
  words = λ pc. refl;
  texts = λ pc. refl;
  count = refl;
  keys = λ at. refl;
  values = λ q. refl;
  literals = λ at. refl;
  room = spends-none i;
}

word-then : (pc : ℕ) (a b : Option Text) (r : Option ℕ) → word_over pc a (word_over pc b r) ≡ word_over pc (option_or a b) r
word-then pc None b r = refl
word-then pc (Some t) b r = refl

where-then : (a b : Option Text) (r : Option TextAt) → option_or (where_of a) (option_or (where_of b) r) ≡ option_or (where_of (option_or a b)) r
where-then None b r = refl
where-then (Some t) b r = refl

pub texts-then : (t : Text) (ts : List Text) (i j f : Image) → PutsTexts (t ∷ []) i j → PutsTexts ts j f → PutsTexts (ts ++ t ∷ []) i f
texts-then t ts i j f p q = record {
  words = λ pc.
      q.words pc ∙ (ap (word_over pc (find (holds pc) ts)) (p.words pc)
      ∙ (word-then pc (find (holds pc) ts) (find (holds pc) (t ∷ [])) (word_at i pc)
      ∙ ap (λ r. word_over pc r (word_at i pc)) (sym (find-append (holds pc) ts (t ∷ [])))));
  texts = λ pc.
      q.texts pc ∙ (ap (option_or (where_of (find (holds pc) ts))) (p.texts pc)
      ∙ (where-then (find (holds pc) ts) (find (holds pc) (t ∷ [])) (text_at i pc)
      ∙ ap (λ r. option_or (where_of r) (text_at i pc)) (sym (find-append (holds pc) ts (t ∷ [])))));
  count = q.count ∙ p.count;
  keys = λ at. q.keys at ∙ p.keys at;
  values = λ k. q.values k ∙ p.values k;
  literals = λ at. q.literals at ∙ p.literals at;
  room = spends-then i j f 1 0 0 0 (length ts) 0 0 0 (length (ts ++ t ∷ [])) 0 0 0 p.room q.room (simp length-append (omega arith)) (omega arith) (omega arith) (omega arith);
}

pub free-last : (t : Text) (ts : List Text) (i : Image) → AreFree (ts ++ t ∷ []) i → AreFree (t ∷ []) i
free-last t ts i a = record {
  low = λ n u h. a.low (length ts) u (one n u h);
  high = λ n u h. a.high (length ts) u (one n u h);
  free = λ n u pc h. a.free (length ts) u pc (one n u h);
  apart = λ m n u v pc g h _ _. zero-one m n u v g h;
}
  where
    one : (n : ℕ) (u : Text) → slice_get (t ∷ []) n ≡ Some u → slice_get (ts ++ t ∷ []) (length ts) ≡ Some u
    one zero u h = get-last ts t ∙ h
    one (suc n) u h = absurd (cc)

    zero-one : (m n : ℕ) (u v : Text) → slice_get (t ∷ []) m ≡ Some u → slice_get (t ∷ []) n ≡ Some v → m ≡ n
    zero-one zero zero u v g h = refl
    zero-one zero (suc n) u v g h = absurd (cc)
    zero-one (suc m) n u v g h = absurd (cc)

pub free-front : (t : Text) (ts : List Text) (i j : Image) → AreFree (ts ++ t ∷ []) i → PutsTexts (t ∷ []) i j → AreFree ts j
free-front t ts i j a p = record {
  low = λ n u h. a.low n u (get-front ts (t ∷ []) n u h);
  high = λ n u h. a.high n u (get-front ts (t ∷ []) n u h);
  free = λ n u pc h g. p.texts pc ∙ by n u pc h g (holds pc t) refl;
  apart = λ m n u v pc g h. a.apart m n u v pc (get-front ts (t ∷ []) m u g) (get-front ts (t ∷ []) n v h);
}
  where
    by : (n : ℕ) (u : Text) (pc : ℕ) → slice_get ts n ≡ Some u → holds pc u ≡ true → (b : Bool) → holds pc t ≡ b → option_or (where_of (cond b (Some t) None)) (text_at i pc) ≡ None
    by n u pc h g true e = absurd (let same = a.apart n (length ts) u t pc (get-front ts (t ∷ []) n u h) (get-last ts t) g e in let l = get-within ts n u h in omega arith)
    by n u pc h g false e = a.free n u pc (get-front ts (t ∷ []) n u h) g

-- a text without a word holds no address
pub text-none : (t : Text) (i : Image) → t.words ≡ [] → PutsTexts (t ∷ []) i i
text-none t i e = record {
  words = λ pc. by pc (holds pc t) refl;
  texts = λ pc. at pc (holds pc t) refl;
  count = refl;
  keys = λ p. refl;
  values = λ q. refl;
  literals = λ p. refl;
  room = record { for_texts = omega arith; for_values = omega arith; for_literals = omega arith; for_functions = omega arith };
}
  where
    empty : (pc start n : ℕ) → n ≡ 0 → nat_le start pc && nat_lt pc (start + 4 * n) ≡ true → ⊥
    empty pc start n z h = grind (arith, nat_tests)

    holds-none : (pc : ℕ) → holds pc t ≡ true → ⊥
    holds-none pc h = empty pc t.at.start (length t.words) (ap length e) h

    by : (pc : ℕ) (b : Bool) → holds pc t ≡ b → word_at i pc ≡ word_over pc (cond b (Some t) None) (word_at i pc)
    by pc true h = absurd (holds-none pc h)
    by pc false h = refl

    at : (pc : ℕ) (b : Bool) → holds pc t ≡ b → text_at i pc ≡ option_or (where_of (cond b (Some t) None)) (text_at i pc)
    at pc true h = absurd (holds-none pc h)
    at pc false h = refl

-- a text with words
pub text-word : (t : Text) (ws : List ℕ) (pc : ℕ) (i j : Image) → ws ≡ t.words → word_at j pc ≡ cond (holds pc (text_with t.at ws)) (word_in pc (text_with t.at ws)) (word_at i pc) → word_at j pc ≡ word_over pc (find (holds pc) (t ∷ [])) (word_at i pc)
text-word t ws pc i j e h = h ∙ ((λ m. cond (holds pc (text_with t.at (e m))) (word_in pc (text_with t.at (e m))) (word_at i pc)) ∙ by (holds pc t))
  where
    by : (b : Bool) → cond b (word_in pc t) (word_at i pc) ≡ word_over pc (cond b (Some t) None) (word_at i pc)
    by true = refl
    by false = refl

pub text-place : (t : Text) (ws : List ℕ) (pc : ℕ) (i j : Image) → ws ≡ t.words → text_at j pc ≡ cond (holds pc (text_with t.at ws)) (Some t.at) (text_at i pc) → text_at j pc ≡ option_or (where_of (find (holds pc) (t ∷ []))) (text_at i pc)
text-place t ws pc i j e h = h ∙ ((λ m. cond (holds pc (text_with t.at (e m))) (Some t.at) (text_at i pc)) ∙ by (holds pc t))
  where
    by : (b : Bool) → cond b (Some t.at) (text_at i pc) ≡ option_or (where_of (cond b (Some t) None)) (text_at i pc)
    by true = refl
    by false = refl

pub text-free : (t : Text) (ws : List ℕ) (i : Image) → ws ≡ t.words → AreFree (t ∷ []) i → (pc : ℕ) → t.at.start ≤ pc → pc < t.at.start + 4 * length ws → text_at i pc ≡ None
text-free t ws i e a pc l h = a.free 0 t pc refl (by t.at.start (end_of t) l (let g : length ws ≡ length t.words = ap length e in omega arith))
  where
    by : (a b : ℕ) → a ≤ pc → pc < b → nat_le a pc && nat_lt pc b ≡ true
    by a b l h = grind (arith, nat_tests)

pub text-high : (t : Text) (ws : List ℕ) (i : Image) → ws ≡ t.words → AreFree (t ∷ []) i → t.at.start + 4 * length ws ≤ 0x04100000
text-high t ws i e a = let h = a.high 0 t refl in let g : length ws ≡ length t.words = ap length e in omega arith

pub text-some : (t : Text) (ws : List ℕ) → ws ≡ t.words → (t.words ≡ [] → ⊥) → 0 < length ws
text-some t ws e h = by ws e
  where
    by : (ws : List ℕ) → ws ≡ t.words → 0 < length ws
    by [] g = absurd (h (sym g))
    by (x ∷ xs) g = omega arith
