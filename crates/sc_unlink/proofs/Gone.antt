-- Texts that are taken out.
use Rattle.std.proofs.Common.{◌≡◌, ℕ, zero, suc, ◌+◌, ◌*◌, ◌<◌, ◌≤◌, ◌==◌, ◌&&◌, Bool, true, false, cond, List, [], ◌∷◌, ◌++◌, length, take, drop, refl, sym, ap, ◌∙◌, Option, Some, None, find, subst, arith, true≢false, append_assoc}
use Rattle.std.proofs.lemmas.Bool.Decides.{nat_tests}
use Rattle.std.specs.Prelude.{flat_map, nat_lt, nat_le, option_to_list}
use Rattle.std.specs.List.{slice_get}
use Rattle.sc_object.specs.declared.object.FrameTable.{FrameTable}
use Rattle.sc_isa_image.specs.declared.image.Image.{Image}
use Rattle.sc_isa_image.specs.declared.text.Text.{Text}
use Rattle.sc_isa_image.specs.declared.text.TextAt.{TextAt}
use Rattle.sc_isa_image.specs.Stubs.{stub_word}
use Rattle.sc_isa_image.specs.Texts.{end_of, holds, place_of as where_of, starts_at, text_holding, text_word, word_in_found}
use Rattle.sc_isa_image.specs.Lookups.{functions_of, text_at, texts_of, word_at}
use Rattle.sc_link.specs.declared.placed.Placed.{Placed}
use Rattle.sc_link.specs.Entries.{text_of, texts_of as entry_texts}
use Rattle.sc_unlink.specs.Taking.{HasTexts, Lists, Takes, TakesTexts, left_by, start_of_words, starts_with_words}
use Rattle.sc_unlink.proofs.Lists.{eq-true, find-append, find-some, flat-more, get-behind, get-front, left-twice, none-some, same-some, spends-none, spends-then, true-eq}

pub texts-none : (i : Image) → TakesTexts [] i i
texts-none i = record {
  words = λ pc. refl;
  texts = λ pc. refl;
  count = refl;
  keys = λ at. refl;
  values = λ q. refl;
  literals = λ at. refl;
  room = spends-none i;
}

pub texts-then : (xs ys : List Text) (i j f : Image) → TakesTexts xs i j → TakesTexts ys j f → TakesTexts (xs ++ ys) i f
texts-then xs ys i j f p q = record {
  words = λ pc. q.words pc ∙ (ap (left_by (find (holds pc) ys)) (p.words pc) ∙ (left-twice (find (holds pc) xs) (find (holds pc) ys) (word_at i pc) ∙ ap (λ o. left_by o (word_at i pc)) (sym (find-append (holds pc) xs ys))));
  texts = λ pc. q.texts pc ∙ (ap (left_by (find (holds pc) ys)) (p.texts pc) ∙ (left-twice (find (holds pc) xs) (find (holds pc) ys) (text_at i pc) ∙ ap (λ o. left_by o (text_at i pc)) (sym (find-append (holds pc) xs ys))));
  count = q.count ∙ p.count;
  keys = λ at. q.keys at ∙ p.keys at;
  values = λ k. q.values k ∙ p.values k;
  literals = λ at. q.literals at ∙ p.literals at;
  room = spends-then i j f p.room q.room;
}

holds-start : (t : Text) → 0 < length t.words → holds t.at.start t ≡ true
holds-start t l = by t.at.start (length t.words) l
  where
    by : (a n : ℕ) → 0 < n → nat_le a a && nat_lt a (a + 4 * n) ≡ true
    by a n l = grind (arith, nat_tests)

holds-from : (pc : ℕ) (t : Text) → 0x00100000 ≤ t.at.start → holds pc t ≡ true → 0x00100000 ≤ pc
holds-from pc t l h = by t.at.start (end_of t) l h
  where
    by : (a b : ℕ) → 0x00100000 ≤ a → nat_le a pc && nat_lt pc b ≡ true → 0x00100000 ≤ pc
    by a b l h = grind (arith, nat_tests)

holds-some : (pc : ℕ) (t : Text) → holds pc t ≡ true → 0 < length t.words
holds-some pc t h = by t.at.start (length t.words) h
  where
    by : (a n : ℕ) → nat_le a pc && nat_lt pc (a + 4 * n) ≡ true → 0 < n
    by a n h = grind (arith, nat_tests)

-- what is left is of the same list
pub texts-left : (ts xs : List Text) (i j : Image) → HasTexts ts i → Lists ts xs → TakesTexts xs i j → HasTexts ts j
texts-left ts xs i j h l p = record {
  apart = h.apart;
  low = h.low;
  from = λ pc at e. h.from pc at (some (find (holds pc) xs) (text_at i pc) at (sym (p.texts pc) ∙ e));
  whole = λ pc at e. p.texts at.start ∙ start pc at (some (find (holds pc) xs) (text_at i pc) at (sym (p.texts pc) ∙ e)) (none (find (holds pc) xs) (text_at i pc) at (sym (p.texts pc) ∙ e)) (find (holds at.start) xs) refl;
}
  where
    some : (o : Option Text) (r : Option TextAt) (at : TextAt) → left_by o r ≡ Some at → r ≡ Some at
    some None r at e = e
    some (Some t) r at e = absurd (none-some (left_by (Some t) r) at refl e)

    none : (o : Option Text) (r : Option TextAt) (at : TextAt) → left_by o r ≡ Some at → o ≡ None
    none None r at e = refl
    none (Some t) r at e = absurd (none-some (left_by (Some t) r) at refl e)

    there : (pc : ℕ) (ys : List Text) (n : ℕ) (t : Text) → slice_get ys n ≡ Some t → holds pc t ≡ true → find (holds pc) ys ≡ None → ⊥
    there pc [] n t g x z = none-some (slice_get [] n) t refl g
    there pc (u ∷ us) n t g x z = by (holds pc u) refl n g z (λ m i w. there pc us m t i x w)
      where
        by : (b : Bool) → holds pc u ≡ b → (n : ℕ) → slice_get (u ∷ us) n ≡ Some t → cond b (Some u) (find (holds pc) us) ≡ None → ((m : ℕ) → slice_get us m ≡ Some t → find (holds pc) us ≡ None → ⊥) → ⊥
        by true e n i w rest = none-some (Some u) u w refl
        by false e zero i w rest = let s : u ≡ t = same-some u t i in absurd (true≢false (sym x ∙ (ap (holds pc) (sym s) ∙ e)))
        by false e (suc m) i w rest = rest m i w

    start : (pc : ℕ) (at : TextAt) → text_at i pc ≡ Some at → find (holds pc) xs ≡ None → (o : Option Text) → find (holds at.start) xs ≡ o → left_by (find (holds at.start) xs) (text_at i at.start) ≡ Some at
    start pc at e n None g = ap (λ o. left_by o (text_at i at.start)) g ∙ h.whole pc at e
    start pc at e n (Some t) g =
        let f = h.from pc at e in
        let r = find-some (holds at.start) xs t g in
        let m = l r.0 t r.1 in
        let own : holds at.start f.text ≡ true = subst (λ (x : TextAt). holds x.start f.text ≡ true) f.is (holds-start f.text (holds-some pc f.text f.here)) in
        let both : f.number ≡ m.0 = h.apart f.number m.0 f.text t at.start f.listed m.1 own r.2 in
        let same : f.text ≡ t = same-some f.text t (sym f.listed ∙ (ap (slice_get ts) both ∙ m.1)) in
        absurd (there pc xs r.0 t r.1 (ap (holds pc) (sym same) ∙ f.here) n)

-- no text, no word
bare : (i : Image) (pc : ℕ) → 0x00100000 ≤ pc → text_at i pc ≡ None → word_at i pc ≡ None
bare i pc l h = by (nat_lt pc 0x00100000) refl h
  where
    where-none : (r : Option Text) → where_of r ≡ None → word_in_found pc r ≡ None
    where-none None e = refl
    where-none (Some t) e = absurd (none-some (where_of (Some t)) t.at e refl)

    high : (b : Bool) → nat_lt pc 0x00100000 ≡ b → b ≡ false
    high true e = absurd (low pc e l)
      where
        low : (p : ℕ) → nat_lt p 0x00100000 ≡ true → 0x00100000 ≤ p → ⊥
        low p e l = absurd (grind (arith, nat_tests))
    high false e = refl

    by : (b : Bool) → nat_lt pc 0x00100000 ≡ b → cond b None (where_of (text_holding (texts_of i) pc)) ≡ None → cond b (stub_word (functions_of i) pc) (text_word (texts_of i) pc) ≡ None
    by true e g = absurd (true≢false (high true e))
    by false e g = where-none (text_holding (texts_of i) pc) g

module _ (ts : List Text) (i j : Image) (h : HasTexts ts i) (t : Text) (n : ℕ) (listed : slice_get ts n ≡ Some t) (words : 0 < length t.words) (p : Takes t.at.start i j) where
  -- the text at an address begins where the text begins: it is the text
  is-it : (pc : ℕ) (at : TextAt) → text_at i pc ≡ Some at → at.start ≡ t.at.start → holds pc t ≡ true
  is-it pc at e s =
      let f = h.from pc at e in
      let start : f.text.at.start ≡ t.at.start = ap (λ (x : TextAt). x.start) f.is ∙ s in
      let both : f.number ≡ n = h.apart f.number n f.text t t.at.start f.listed listed (subst (λ x. holds x f.text ≡ true) start (holds-start f.text (holds-some pc f.text f.here))) (holds-start t words) in
      let same : f.text ≡ t = same-some f.text t (sym f.listed ∙ (ap (slice_get ts) both ∙ listed)) in
      ap (holds pc) (sym same) ∙ f.here

  -- the text that holds an address is found there, or is gone already
  found-it : (pc : ℕ) (at : TextAt) → text_at i pc ≡ Some at → holds pc t ≡ true → at.start ≡ t.at.start
  found-it pc at e g =
      let f = h.from pc at e in
      let both : f.number ≡ n = h.apart f.number n f.text t pc f.listed listed f.here g in
      let same : f.text ≡ t = same-some f.text t (sym f.listed ∙ (ap (slice_get ts) both ∙ listed)) in
      ap (λ (x : TextAt). x.start) (sym f.is) ∙ ap (λ (x : Text). x.at.start) same

  texts : (pc : ℕ) (b : Bool) → holds pc t ≡ b → (r : Option TextAt) → text_at i pc ≡ r → cond (starts_at t.at.start r) None r ≡ left_by (cond b (Some t) None) r
  texts pc true g None e = refl
  texts pc true g (Some at) e = ap (λ b. cond b None (Some at)) (true-eq at.start t.at.start (found-it pc at e g))
  texts pc false g None e = refl
  texts pc false g (Some at) e = by (at.start == t.at.start) refl
    where
      by : (b : Bool) → (at.start == t.at.start) ≡ b → cond b None (Some at) ≡ Some at
      by true s = absurd (true≢false (sym (is-it pc at e (eq-true at.start t.at.start s)) ∙ g))
      by false s = refl

  words-left : (pc : ℕ) (b : Bool) → holds pc t ≡ b → (r : Option TextAt) → text_at i pc ≡ r → cond (starts_at t.at.start r) None (word_at i pc) ≡ left_by (cond b (Some t) None) (word_at i pc)
  words-left pc true g None e = bare i pc (holds-from pc t (h.low n t listed) g) e
  words-left pc true g (Some at) e = ap (λ b. cond b None (word_at i pc)) (true-eq at.start t.at.start (found-it pc at e g))
  words-left pc false g None e = refl
  words-left pc false g (Some at) e = by (at.start == t.at.start) refl
    where
      by : (b : Bool) → (at.start == t.at.start) ≡ b → cond b None (word_at i pc) ≡ word_at i pc
      by true s = absurd (true≢false (sym (is-it pc at e (eq-true at.start t.at.start s)) ∙ g))
      by false s = refl

  pub text-taken : TakesTexts (t ∷ []) i j
  text-taken = record {
    words = λ pc. p.words pc ∙ words-left pc (holds pc t) refl (text_at i pc) refl;
    texts = λ pc. p.texts pc ∙ texts pc (holds pc t) refl (text_at i pc) refl;
    count = p.count;
    keys = p.keys;
    values = p.values;
    literals = p.literals;
    room = p.room;
  }

-- a text without words holds nothing
pub text-empty : (t : Text) (i : Image) → t.words ≡ [] → TakesTexts (t ∷ []) i i
text-empty t i e = record {
  words = λ pc. by pc (word_at i pc);
  texts = λ pc. by pc (text_at i pc);
  count = refl;
  keys = λ at. refl;
  values = λ q. refl;
  literals = λ at. refl;
  room = spends-none i;
}
  where
    never : (pc : ℕ) (b : Bool) → holds pc t ≡ b → b ≡ false
    never pc true h = absurd (let l = holds-some pc t h in let n : length t.words ≡ 0 = ap length e in omega arith)
    never pc false h = refl

    by : {A : Type 0} (pc : ℕ) (r : Option A) → r ≡ left_by (cond (holds pc t) (Some t) None) r
    by pc r = sym (ap (λ b. left_by (cond b (Some t) None) r) (never pc (holds pc t) refl))

-- by what a frame gives
pub taken-some : (ts : List Text) (i j : Image) (o : Option Text) (start : ℕ) → HasTexts ts i → Lists ts (option_to_list o) → Some start ≡ starts_with_words o → Takes start i j → TakesTexts (option_to_list o) i j
taken-some ts i j None start h l e p = absurd (none-some (starts_with_words None) start refl (sym e))
taken-some ts i j (Some t) start h l e p = by t.words refl e
  where
    by : (ws : List ℕ) → t.words ≡ ws → Some start ≡ start_of_words t ws → TakesTexts (t ∷ []) i j
    by [] w g = absurd (none-some (start_of_words t []) start refl (sym g))
    by (x ∷ ws) w g = let m = l 0 t refl in text-taken ts i j h t m.0 m.1 (let n : length t.words ≡ length (x ∷ ws) = ap length w in omega arith) (subst (λ s. Takes s i j) (same-some start t.at.start g) p)

pub taken-none : (i : Image) (o : Option Text) → None ≡ starts_with_words o → TakesTexts (option_to_list o) i i
taken-none i None e = texts-none i
taken-none i (Some t) e = by t.words refl e
  where
    by : (ws : List ℕ) → t.words ≡ ws → None ≡ start_of_words t ws → TakesTexts (t ∷ []) i i
    by [] w g = text-empty t i w
    by (x ∷ ws) w g = absurd (none-some (start_of_words t (x ∷ ws)) t.at.start (sym g) refl)

-- where no text begins none is found that does
pub takes-none : (ts : List Text) (start : ℕ) (i : Image) → HasTexts ts i → starts_at start (text_at i start) ≡ false → Takes start i i
takes-none ts start i h none = record {
  words = λ pc. by pc (word_at i pc) (text_at i pc) refl;
  texts = λ pc. by pc (text_at i pc) (text_at i pc) refl;
  count = refl;
  keys = λ at. refl;
  values = λ q. refl;
  literals = λ at. refl;
  room = spends-none i;
}
  where
    never : (pc : ℕ) (at : TextAt) → text_at i pc ≡ Some at → (b : Bool) → (at.start == start) ≡ b → b ≡ false
    never pc at e true g =
        let s : at.start ≡ start = eq-true at.start start g in
        absurd (true≢false (sym g ∙ (ap (starts_at start) (sym (h.whole pc at e)) ∙ (ap (λ n. starts_at start (text_at i n)) s ∙ none))))
    never pc at e false g = refl

    by : {A : Type 0} (pc : ℕ) (x : Option A) (r : Option TextAt) → text_at i pc ≡ r → x ≡ cond (starts_at start r) None x
    by pc x None e = refl
    by pc x (Some at) e = sym (ap (λ b. cond b None x) (never pc at e (at.start == start) refl))

-- frames one after another
module _ (e : Placed) where
  abbrev of : FrameTable → List Text
  of f = option_to_list (text_of e f)

  pub frames-more : (xs : List FrameTable) → xs ≡ e.object.frames → (ts : List Text) → Lists ts (entry_texts e) → Lists ts (flat_map of xs)
  frames-more xs h ts l = subst (λ ys. Lists ts (flat_map of ys)) (sym h) l

  pub frames-turn : (xs : List FrameTable) (n : ℕ) (f : FrameTable) (ts : List Text) (i j k : Image) → slice_get xs n ≡ Some f → Lists ts (flat_map of xs) → HasTexts ts i → TakesTexts (flat_map of (take n xs)) i j → (HasTexts ts j → Lists ts (of f) → TakesTexts (of f) j k) → TakesTexts (flat_map of (take (n + 1) xs)) i k
  frames-turn xs n f ts i j k g l h p q =
      subst (λ ys. TakesTexts ys i k) (sym (flat-more of xs n f g))
      (texts-then (flat_map of (take n xs)) (of f) i j k p (q (texts-left ts (flat_map of (take n xs)) i j h (λ m t e. l-part m t (front xs n m t e)) p) (λ m t e. l-part m t (inside xs n m t g e))))
    where
      l-part : (m : ℕ) (t : Text) → (k : ℕ) × (slice_get (flat_map of xs) k ≡ Some t) → (k : ℕ) × (slice_get ts k ≡ Some t)
      l-part m t w = l w.0 t w.1

      front : (xs : List FrameTable) (n m : ℕ) (t : Text) → slice_get (flat_map of (take n xs)) m ≡ Some t → (k : ℕ) × (slice_get (flat_map of xs) k ≡ Some t)
      front xs n m t e = (m, ap (λ ys. slice_get ys m) (split xs n) ∙ get-front (flat_map of (take n xs)) (flat_map of (drop n xs)) m t e)
        where
          split : (xs : List FrameTable) (n : ℕ) → flat_map of xs ≡ flat_map of (take n xs) ++ flat_map of (drop n xs)
          split xs zero = refl
          split [] (suc n) = refl
          split (x ∷ xs) (suc n) = ap (λ zs. of x ++ zs) (split xs n) ∙ sym (append_assoc (of x) (flat_map of (take n xs)) (flat_map of (drop n xs)))

      inside : (xs : List FrameTable) (n m : ℕ) (t : Text) → slice_get xs n ≡ Some f → slice_get (of f) m ≡ Some t → (k : ℕ) × (slice_get (flat_map of xs) k ≡ Some t)
      inside [] n m t g e = absurd (none-some (slice_get [] n) f refl g)
      inside (x ∷ xs) zero m t g e = (m, get-front (of x) (flat_map of xs) m t (ap (λ y. slice_get (of y) m) (same-some x f g) ∙ e))
      inside (x ∷ xs) (suc n) m t g e = let r = inside xs n m t g e in (length (of x) + r.0, get-behind (of x) (flat_map of xs) r.0 (length (of x) + r.0) refl ∙ r.1)
