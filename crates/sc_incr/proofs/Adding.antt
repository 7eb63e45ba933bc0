-- What the steps of linking make of an image that has entries.
use Rattle.std.proofs.Common.{◌≡◌, ◌≢◌, ℕ, zero, suc, ◌+◌, ◌-◌, ◌*◌, ◌/◌, ◌%◌, ◌<◌, ◌≤◌, ◌==◌, ◌&&◌, Bool, true, false, cond, List, [], ◌∷◌, ◌++◌, length, refl, sym, ap, ◌∙◌, Option, Some, None, find, arith, true≢false, length-append}
use Rattle.std.proofs.lemmas.Bool.Decides.{nat_tests}
use Rattle.std.specs.Prelude.{nat_lt, nat_le, IsSome, is_some, option_and_then}
use Rattle.std.specs.List.{slice_get}
use Rattle.std.specs.Option.{option_map, option_or}
use Rattle.sc_base.specs.declared.key.Key.{Key}
use Rattle.sc_isa_image.specs.declared.image.Image.{Image}
use Rattle.sc_isa_image.specs.declared.text.Text.{Text}
use Rattle.sc_isa_image.specs.Stubs.{stub_of_word}
use Rattle.sc_isa_image.specs.Texts.{end_of, holds, place_of as where_of, text_holding, text_word, word_in, word_in_found}
use Rattle.sc_isa_image.specs.Lookups.{literal_in, text_at, value_or, word_at}
use Rattle.sc_link.specs.declared.placed.Placed.{Placed}
use Rattle.sc_link.specs.declared.placed.LiteralAt.{LiteralAt}
use Rattle.sc_link.specs.Entries.{Fix, fixes_in, jumps_in, literals_in, statics_in, texts_in}
use Rattle.sc_link.specs.Linked.{AreApart, AreDistinct, IsLinked, fixed_all, key_in, place_in, stub_from, stub_half, stub_in, stub_words, text_word_in, value_in}
use Rattle.sc_link.specs.Steps.{AreFree, AreNew, AreStubs, HasLiterals, PutsFunctions, PutsLiterals, PutsStatics, PutsTexts, Relocates, SetsJumps, call_over, jump_for, jump_over, key_from, stub_over, word_over}
use Rattle.sc_incr.specs.Stands.{AreAbsent, AreHeld, AreSingle, Covers, Has, Stands}
use Rattle.sc_incr.proofs.Keys.{find-append, find-some, get-front, get-within, lt-false, none-some, false-lt, true-lt}
use Rattle.sc_incr.proofs.Numbers.{calls-high, calls-more, found-key, get-behind, jumps-high, jumps-more, keys-more, or-lookup, stub-at, stub-known, stub-number, stub_in-at, stubs-more}
use Rattle.sc_incr.proofs.Fixing.{Again, fixed-anew, fixed-none}

pub linked-stands : (es : List Placed) (ks : List Key) (i : Image) → IsLinked es ks i → Stands ks (statics_in es) (jumps_in es) (texts_in es) (fixes_in es) (value_in es ks) (literals_in es) i
linked-stands es ks i h = record {
  count = h.count;
  keys = h.keys;
  values = h.values;
  words = h.words;
  texts = h.texts;
  literals = h.literals;
}

pub stands-linked : (es : List Placed) (ks : List Key) (i : Image) → Stands ks (statics_in es) (jumps_in es) (texts_in es) (fixes_in es) (value_in es ks) (literals_in es) i → IsLinked es ks i
stands-linked es ks i h = record {
  count = h.count;
  keys = h.keys;
  values = h.values;
  words = h.words;
  texts = h.texts;
  literals = h.literals;
}

pub same-literals : (ls : List LiteralAt) (i j : Image) → ((at : ℕ) → literal_in j at ≡ literal_in i at) → HasLiterals ls i → HasLiterals ls j
same-literals ls i j s h l at = ((λ e. (h l at).0 (sym (s at) ∙ e)), (λ e. s at ∙ (h l at).1 e))

or-assoc : (a b c : Option ℕ) → value_or (option_or a b) c ≡ option_or a (option_or b c)
or-assoc None None None = refl
or-assoc None None (Some n) = refl
or-assoc None (Some n) c = refl
or-assoc (Some n) b c = refl

pub holds-from : (pc : ℕ) (t : Text) → 0x00100000 ≤ t.at.start → holds pc t ≡ true → 0x00100000 ≤ pc
holds-from pc t l h = by t.at.start (end_of t) l h
  where
    by : (a b : ℕ) → 0x00100000 ≤ a → nat_le a pc && nat_lt pc b ≡ true → 0x00100000 ≤ pc
    by a b l h = grind (arith, nat_tests)

pub find-none : {A : Type 0} (p : A → Bool) (xs : List A) → ((n : ℕ) (x : A) → slice_get xs n ≡ Some x → p x ≡ true → ⊥) → find p xs ≡ None
find-none {A = A} p xs h = by (find p xs) refl
  where
    by : (r : Option A) → find p xs ≡ r → find p xs ≡ None
    by None e = e
    by (Some x) e = let g = find-some p xs x e in absurd (h g.0 x g.1 g.2)

pub find-there : (pc : ℕ) (us : List Text) (n : ℕ) (t : Text) → slice_get us n ≡ Some t → holds pc t ≡ true → find (holds pc) us ≡ None → ⊥
find-there pc [] n t g x z = none-some (slice_get [] n) t refl g
find-there pc (u ∷ us) n t g x z = by (holds pc u) refl n g z (λ m i w. find-there pc us m t i x w)
  where
    by : (b : Bool) → holds pc u ≡ b → (n : ℕ) → slice_get (u ∷ us) n ≡ Some t → cond b (Some u) (find (holds pc) us) ≡ None → ((m : ℕ) → slice_get us m ≡ Some t → find (holds pc) us ≡ None → ⊥) → ⊥
    by true e n i w rest = absurd (cc)
    by false e zero i w rest = let s : u ≡ t = cc in absurd (true≢false (sym x ∙ (ap (holds pc) (sym s) ∙ e)))
    by false e (suc m) i w rest = rest m i w

pub where-none : (r : Option Text) → where_of r ≡ None → r ≡ None
where-none None e = refl
where-none (Some t) e = absurd (cc)

find-low : (more : List Text) (i : Image) (pc : ℕ) → AreFree more i → pc < 0x00100000 → find (holds pc) more ≡ None
find-low more i pc f l = find-none (holds pc) more (λ n t g e. let m = holds-from pc t (f.low n t g) e in absurd (omega arith))

or-none : {A : Type 0} (r : Option A) → option_or r None ≡ r
or-none None = refl
or-none (Some x) = refl

map-same : (f : ℕ → ℕ) (r : Option ℕ) → ((w : ℕ) → f w ≡ w) → option_map f r ≡ r
map-same f None h = refl
map-same f (Some w) h = ap Some (h w)

module _ (ks : List Key) (st js : List (Key × ℕ)) (ts : List Text) (fs : List Fix) (value : Key → Option ℕ) (ls : List LiteralAt) where
  -- functions that are new
  pub stands-new : (more : List Key) (i : Image) → Stands ks st js ts fs value ls i → AreDistinct (ks ++ more) → AreAbsent more st → AreNew more i
  stands-new more i h d absent = record {
    unknown = λ n k g at e. let f = found-key ks at k (sym (h.keys at) ∙ e) in other f.0 n k f.2 g;
    absent = λ n k g. h.values k ∙ ((λ m. option_or (none k n g m) (absent k (n, g) m)));
    distinct = λ m n k g e. let z = d (length ks + m) (length ks + n) k (get-behind ks more m (length ks + m) refl ∙ g) (get-behind ks more n (length ks + n) refl ∙ e) in omega arith;
  }
    where
      other : (m n : ℕ) (k : Key) → slice_get ks m ≡ Some k → slice_get more n ≡ Some k → ⊥
      other m n k g e = absurd (let z = d m (length ks + n) k (get-front ks more m k g) (get-behind ks more n (length ks + n) refl ∙ e) in let l = get-within ks m k g in omega arith)

      none : (k : Key) (n : ℕ) → slice_get more n ≡ Some k → stub_from 0 ks k ≡ None
      none k n g = by (stub_from 0 ks k) refl
        where
          by : (s : Option ℕ) → stub_from 0 ks k ≡ s → stub_from 0 ks k ≡ None
          by None e = e
          by (Some at) e = let f = stub-known 0 ks k at e in absurd (other f.0 n k f.1 g)

  pub stands-functions : (more : List Key) (i j : Image) → Stands ks st js ts fs value ls i → AreDistinct (ks ++ more) → length ks + length more ≤ 65536 → AreAbsent more js → PutsFunctions more i j → Stands (ks ++ more) st js ts fs value ls j
  stands-functions more i j h d few absent p = record {
    count = p.count ∙ (ap (λ n. n + length more) h.count ∙ sym (length-append ks more));
    keys = λ at. p.keys at ∙ ((λ m. key_from (h.count m) more at (h.keys at m)) ∙ keys-more ks more at);
    values = λ q. p.values q ∙ ((λ m. stub_over (h.count m) more q (h.values q m)) ∙ stubs-more ks more q (place_in st q) d);
    words = λ pc. p.words pc ∙ ((λ m. call_over (h.count m) more pc (h.words pc m)) ∙ words pc (nat_lt pc 0x00100000) refl);
    texts = λ pc. p.texts pc ∙ h.texts pc;
    literals = same-literals ls i j p.literals h.literals;
  }
    where
      words : (pc : ℕ) (b : Bool) → nat_lt pc 0x00100000 ≡ b → call_over (length ks) more pc (cond b (stub_in js ks pc) (text_word_in value fs ts pc)) ≡ cond b (stub_in js (ks ++ more) pc) (text_word_in value fs ts pc)
      words pc true e = calls-more js ks more pc absent
      words pc false e = calls-high ks more pc (text_word_in value fs ts pc) few (lt-false pc 0x00100000 e)

  pub stands-statics : (more : List (Key × ℕ)) (i j : Image) → Stands ks st js ts fs value ls i → PutsStatics more i j → Stands ks (st ++ more) js ts fs value ls j
  stands-statics more i j h p = record {
    count = p.count ∙ h.count;
    keys = λ at. p.keys at ∙ h.keys at;
    values = λ q.
        p.values q ∙ (ap (λ r. value_or r (place_in more q)) (h.values q)
        ∙ (or-assoc (stub_from 0 ks q) (place_in st q) (place_in more q) ∙ ap (option_or (stub_from 0 ks q)) (sym (or-lookup st more q))));
    words = λ pc. p.words pc ∙ h.words pc;
    texts = λ pc. p.texts pc ∙ h.texts pc;
    literals = same-literals ls i j p.literals h.literals;
  }

  -- the texts of a new entry are where none was
  pub stands-free : (more : List Text) (i : Image) → Stands ks st js ts fs value ls i → AreApart (ts ++ more) → ((n : ℕ) (t : Text) → slice_get more n ≡ Some t → 0x00100000 ≤ t.at.start) → ((n : ℕ) (t : Text) → slice_get more n ≡ Some t → end_of t ≤ 0x04100000) → AreFree more i
  stands-free more i h apart low high = record {
    low = low;
    high = high;
    free = λ n t pc g e. h.texts pc ∙ ((λ m. cond (nat_lt pc 0x00100000) None (where_of (none n t pc g e m))) ∙ by (nat_lt pc 0x00100000));
    apart = λ m n t u pc g e x y. let z = apart (length ts + m) (length ts + n) t u pc (get-behind ts more m (length ts + m) refl ∙ g) (get-behind ts more n (length ts + n) refl ∙ e) x y in omega arith;
  }
    where
      by : (b : Bool) → cond b None (where_of None) ≡ None
      by true = refl
      by false = refl

      none : (n : ℕ) (t : Text) (pc : ℕ) → slice_get more n ≡ Some t → holds pc t ≡ true → find (holds pc) ts ≡ None
      none n t pc g e = find-none (holds pc) ts (λ m u x y. absurd (let z = apart m (length ts + n) u t pc (get-front ts more m u x) (get-behind ts more n (length ts + n) refl ∙ g) y e in let l = get-within ts m u x in omega arith))

  pub stands-texts : (more : List Text) (i j : Image) → Stands ks st js ts fs value ls i → AreHeld fs ts → AreFree more i → PutsTexts more i j → Stands ks st js (ts ++ more) fs value ls j
  stands-texts more i j h held free p = record {
    count = p.count ∙ h.count;
    keys = λ at. p.keys at ∙ h.keys at;
    values = λ q. p.values q ∙ h.values q;
    words = λ pc. p.words pc ∙ words pc (find (holds pc) more) refl;
    texts = λ pc. p.texts pc ∙ texts pc (find (holds pc) more) refl;
    literals = same-literals ls i j p.literals h.literals;
  }
    where
      more-none : (pc : ℕ) → find (holds pc) more ≡ None → text_holding (ts ++ more) pc ≡ text_holding ts pc
      more-none pc e = find-append (holds pc) ts more ∙ (ap (option_or (find (holds pc) ts)) e ∙ or-none (find (holds pc) ts))

      -- where a new text is none was
      none-there : (pc : ℕ) (t : Text) → find (holds pc) more ≡ Some t → (nat_lt pc 0x00100000 ≡ false) × (find (holds pc) ts ≡ None)
      none-there pc t e =
          let g = find-some (holds pc) more t e in
          let low : nat_lt pc 0x00100000 ≡ false = let l = holds-from pc t (free.low g.0 t g.1) g.2 in false-lt pc 0x00100000 l in
          (low, where-none (find (holds pc) ts) (sym (ap (λ b. cond b None (where_of (find (holds pc) ts))) low) ∙ (sym (h.texts pc) ∙ free.free g.0 t pc g.1 g.2)))

      unfixed : (pc : ℕ) → find (holds pc) ts ≡ None → (f : Fix) → Has f fs → f.at ≢ pc
      unfixed pc e f i a = let t = held f i in absurd (find-there pc ts t.1.0.0 t.0 t.1.0.1 (ap (λ x. holds x t.0) (sym a) ∙ t.1.1) e)

      both : (pc : ℕ) (t : Text) → find (holds pc) more ≡ Some t → find (holds pc) ts ≡ None → text_holding (ts ++ more) pc ≡ Some t
      both pc t e n = find-append (holds pc) ts more ∙ (λ m. option_or (n m) (e m))

      words : (pc : ℕ) (r : Option Text) → find (holds pc) more ≡ r → word_over pc (find (holds pc) more) (word_at i pc) ≡ cond (nat_lt pc 0x00100000) (stub_in js ks pc) (text_word_in value fs (ts ++ more) pc)
      words pc None e =
          ap (λ r. word_over pc r (word_at i pc)) e
          ∙ (h.words pc ∙ ap (λ r. cond (nat_lt pc 0x00100000) (stub_in js ks pc) (option_map (fixed_all value fs pc) (word_in_found pc r))) (sym (more-none pc e)))
      words pc (Some t) e =
          let n = none-there pc t e in
          ap (λ r. word_over pc r (word_at i pc)) e
          ∙ (sym (map-same (fixed_all value fs pc) (word_in pc t) (λ w. fixed-none value fs pc w (unfixed pc n.1)))
          ∙ (λ m. cond (sym n.0 m) (stub_in js ks pc) (option_map (fixed_all value fs pc) (word_in_found pc (sym (both pc t e n.1) m)))))

      texts : (pc : ℕ) (r : Option Text) → find (holds pc) more ≡ r → option_or (where_of (find (holds pc) more)) (text_at i pc) ≡ cond (nat_lt pc 0x00100000) None (where_of (text_holding (ts ++ more) pc))
      texts pc None e =
          ap (λ r. option_or (where_of r) (text_at i pc)) e
          ∙ (h.texts pc ∙ ap (λ r. cond (nat_lt pc 0x00100000) None (where_of r)) (sym (more-none pc e)))
      texts pc (Some t) e =
          let n = none-there pc t e in
          ap (λ r. option_or (where_of r) (text_at i pc)) e
          ∙ (λ m. cond (sym n.0 m) None (where_of (sym (both pc t e n.1) m)))

  pub stands-stubs : (i : Image) → Stands ks st js ts fs value ls i → AreDistinct ks → length ks ≤ 65536 → AreStubs i
  stands-stubs i h d few = record {
    values = λ at k e. let f = found-key ks at k (sym (h.keys at) ∙ e) in h.values k ∙ (ap (λ r. option_or r (place_in st k)) (stub-number 0 ks f.0 k d f.2) ∙ ap Some (let same = f.1 in omega arith));
    low = λ at k e. let f = found-key ks at k (sym (h.keys at) ∙ e) in let l = get-within ks f.0 k f.2 in let same = f.1 in omega arith;
    first = λ at k e. let f = found-key ks at k (sym (h.keys at) ∙ e) in let l = get-within ks f.0 k f.2 in let same = f.1 in some at f.0 k f.2 (omega arith) (stub-is at f.0 (omega arith) (omega arith) (omega arith));
    second = λ at k e. let f = found-key ks at k (sym (h.keys at) ∙ e) in let l = get-within ks f.0 k f.2 in let same = f.1 in some (at + 4) f.0 k f.2 (omega arith) (stub-is (at + 4) f.0 (omega arith) (omega arith) (omega arith));
  }
    where
      stub-is : (pc n : ℕ) → 0x00010000 ≤ pc → pc % 4 ≡ 0 → (pc - 0x00010000) / 8 ≡ n → stub_of_word pc ≡ Some n
      stub-is pc n l e g = stub-at pc n l e g

      half-some : (pc : ℕ) (o : Option ℕ) → IsSome (stub_half pc (stub_words o))
      half-some pc o = by (pc % 8 == 0) o
        where
          by : (b : Bool) (o : Option ℕ) → IsSome (cond b (slice_get (stub_words o) 0) (slice_get (stub_words o) 1))
          by true None = refl
          by false None = refl
          by true (Some at) = refl
          by false (Some at) = refl

      some : (pc n : ℕ) (k : Key) → slice_get ks n ≡ Some k → pc < 0x00100000 → stub_of_word pc ≡ Some n → IsSome (word_at i pc)
      some pc n k g l s =
          ap is_some (h.words pc ∙ (ap (λ b. cond b (stub_in js ks pc) (text_word_in value fs ts pc)) (true-lt pc 0x00100000 l)
          ∙ (stub_in-at js ks pc n s ∙ ap (option_and_then (λ key. stub_half pc (stub_words (place_in js key)))) g))) ∙ half-some pc (place_in js k)

  pub stands-jumps : (more : List (Key × ℕ)) (i j : Image) → Stands ks st js ts fs value ls i → length ks ≤ 65536 → ((k : Key) (at : ℕ) → place_in more k ≡ Some at → place_in js k ≡ None) → SetsJumps more i j → Stands ks st (js ++ more) ts fs value ls j
  stands-jumps more i j h few apart p = record {
    count = p.count ∙ h.count;
    keys = λ at. p.keys at ∙ h.keys at;
    values = λ q. p.values q ∙ h.values q;
    words = λ pc. p.words pc ∙ ((λ m. jump_over pc (jump_for more (h.keys (pc / 8 * 8) m)) (h.words pc m)) ∙ words pc (nat_lt pc 0x00100000) refl);
    texts = λ pc. p.texts pc ∙ h.texts pc;
    literals = same-literals ls i j p.literals h.literals;
  }
    where
      words : (pc : ℕ) (b : Bool) → nat_lt pc 0x00100000 ≡ b → jump_over pc (jump_for more (key_in ks (pc / 8 * 8))) (cond b (stub_in js ks pc) (text_word_in value fs ts pc)) ≡ cond b (stub_in (js ++ more) ks pc) (text_word_in value fs ts pc)
      words pc true e = jumps-more js more ks pc apart
      words pc false e = jumps-high more ks pc (text_word_in value fs ts pc) few (lt-false pc 0x00100000 e)

  pub stands-literals : (more : List LiteralAt) (i j : Image) → Stands ks st js ts fs value ls i → PutsLiterals more i j → Stands ks st js ts fs value (ls ++ more) j
  stands-literals more i j h p = record {
    count = p.count ∙ h.count;
    keys = λ at. p.keys at ∙ h.keys at;
    values = λ q. p.values q ∙ h.values q;
    words = λ pc. p.words pc ∙ h.words pc;
    texts = λ pc. p.texts pc ∙ h.texts pc;
    literals = p.literals ls h.literals;
  }

  -- relocations that are made under new values
  pub stands-fixed : (again : Again) (after : Key → Option ℕ) (new made : List Fix) (i j : Image) → Stands ks st js ts fs value ls i → AreSingle new → Covers value after fs new made → Relocates after made i j → Stands ks st js ts new after ls j
  stands-fixed again after new made i j h single c p = record {
    count = p.count ∙ h.count;
    keys = λ at. p.keys at ∙ h.keys at;
    values = λ q. p.values q ∙ h.values q;
    words = λ pc. p.words pc ∙ (ap (λ r. cond (nat_lt pc 0x00100000) r (option_map (fixed_all after made pc) r)) (h.words pc) ∙ words pc (nat_lt pc 0x00100000));
    texts = λ pc. p.texts pc ∙ h.texts pc;
    literals = same-literals ls i j p.literals h.literals;
  }
    where
      found : (pc : ℕ) (r : Option ℕ) → option_map (fixed_all after made pc) (option_map (fixed_all value fs pc) r) ≡ option_map (fixed_all after new pc) r
      found pc None = refl
      found pc (Some w) = ap Some (fixed-anew again value after fs new made pc w single c)

      words : (pc : ℕ) (b : Bool) → cond b (cond b (stub_in js ks pc) (text_word_in value fs ts pc)) (option_map (fixed_all after made pc) (cond b (stub_in js ks pc) (text_word_in value fs ts pc))) ≡ cond b (stub_in js ks pc) (text_word_in after new ts pc)
      words pc true = refl
      words pc false = found pc (text_word ts pc)
