-- Stubs that ask for the service again, and keys without a value.
use Rattle.std.proofs.Common.{◌≡◌, ◌≢◌, ℕ, ◌+◌, ◌*◌, ◌/◌, ◌%◌, ◌==◌, Bool, true, false, cond, List, [], ◌∷◌, ◌++◌, refl, sym, ap, ◌∙◌, Option, Some, None, arith}
use Rattle.std.specs.Prelude.{IsSome, is_some}
use Rattle.std.specs.List.{slice_get}
use Rattle.std.specs.Option.{option_map, option_or}
use Rattle.sc_base.specs.declared.key.Key.{Key}
use Rattle.sc_isa_image.specs.declared.image.Image.{Image}
use Rattle.sc_isa_image.specs.Stubs.{call_words, function_at, stub_of_word}
use Rattle.sc_isa_image.specs.Lookups.{functions_of, key_eq, key_of, value_of, word_at}
use Rattle.sc_link.specs.Linked.{place_in}
use Rattle.sc_link.specs.Steps.{AreStubs, jump_for}
use Rattle.sc_unlink.specs.Taking.{ClearsJumps, ClearsStub, TakesValues, call_again, left_by}
use Rattle.sc_unlink.proofs.Lists.{eq-false, eq-true, false-eq, key-refl, key-same, left-twice, lookup-append, same-some, spends-none, spends-then, true-eq}

pub again-first : (pc at : ℕ) (r : Option ℕ) → pc % 8 ≡ 0 → call_again pc (Some at) r ≡ slice_get call_words 0
again-first pc at r h = ap (λ b. cond b (slice_get call_words 0) (cond (pc % 8 == 4) (slice_get call_words 1) r)) (true-eq (pc % 8) 0 h)

pub again-second : (pc at : ℕ) (r : Option ℕ) → pc % 8 ≡ 4 → call_again pc (Some at) r ≡ slice_get call_words 1
again-second pc at r h =
    ap (λ b. cond b (slice_get call_words 0) (cond (pc % 8 == 4) (slice_get call_words 1) r)) (false-eq (pc % 8) 0 (λ e. absurd (omega arith)))
    ∙ ap (λ b. cond b (slice_get call_words 1) r) (true-eq (pc % 8) 4 h)

again-other : (pc : ℕ) (o r : Option ℕ) → pc % 8 ≢ 0 → pc % 8 ≢ 4 → call_again pc o r ≡ r
again-other pc None r g h = refl
again-other pc (Some at) r g h =
    ap (λ b. cond b (slice_get call_words 0) (cond (pc % 8 == 4) (slice_get call_words 1) r)) (false-eq (pc % 8) 0 g)
    ∙ ap (λ b. cond b (slice_get call_words 1) r) (false-eq (pc % 8) 4 h)

again-twice : (pc : ℕ) (a b r : Option ℕ) → call_again pc b (call_again pc a r) ≡ call_again pc (option_or a b) r
again-twice pc None b r = refl
again-twice pc (Some at) None r = refl
again-twice pc (Some at) (Some y) r = by (pc % 8 == 0) (pc % 8 == 4)
  where
    by : (x z : Bool) → cond x (slice_get call_words 0) (cond z (slice_get call_words 1) (cond x (slice_get call_words 0) (cond z (slice_get call_words 1) r))) ≡ cond x (slice_get call_words 0) (cond z (slice_get call_words 1) r)
    by true z = refl
    by false true = refl
    by false false = refl

pub clears-none : (i : Image) → ClearsJumps [] i i
clears-none i = record {
  words = λ pc. by pc (key_of i (pc / 8 * 8));
  count = refl;
  keys = λ at. refl;
  values = λ q. refl;
  texts = λ pc. refl;
  literals = λ at. refl;
  room = spends-none i;
}
  where
    by : (pc : ℕ) (k : Option Key) → word_at i pc ≡ call_again pc (jump_for [] k) (word_at i pc)
    by pc None = refl
    by pc (Some k) = refl

jump-append : (xs ys : List (Key × ℕ)) (k : Option Key) → option_or (jump_for xs k) (jump_for ys k) ≡ jump_for (xs ++ ys) k
jump-append xs ys None = refl
jump-append xs ys (Some k) = sym (lookup-append (λ j. key_eq j k) xs ys)

pub clears-then : (xs ys : List (Key × ℕ)) (i j f : Image) → ClearsJumps xs i j → ClearsJumps ys j f → ClearsJumps (xs ++ ys) i f
clears-then xs ys i j f p q = record {
  words = λ pc.
      q.words pc ∙ ((λ m. call_again pc (jump_for ys (p.keys (pc / 8 * 8) m)) (p.words pc m))
      ∙ (again-twice pc (jump_for xs (key_of i (pc / 8 * 8))) (jump_for ys (key_of i (pc / 8 * 8))) (word_at i pc)
      ∙ ap (λ o. call_again pc o (word_at i pc)) (jump-append xs ys (key_of i (pc / 8 * 8)))));
  count = q.count ∙ p.count;
  keys = λ at. q.keys at ∙ p.keys at;
  values = λ k. q.values k ∙ p.values k;
  texts = λ pc. q.texts pc ∙ p.texts pc;
  literals = λ at. q.literals at ∙ p.literals at;
  room = spends-then i j f p.room q.room;
}

some-again : (pc : ℕ) (o r : Option ℕ) → IsSome r → IsSome (call_again pc o r)
some-again pc None r h = h
some-again pc (Some at) r h = by (pc % 8 == 0) (pc % 8 == 4)
  where
    by : (x y : Bool) → IsSome (cond x (slice_get call_words 0) (cond y (slice_get call_words 1) r))
    by true y = refl
    by false true = refl
    by false false = h

some-same : (a b : Option ℕ) → b ≡ a → IsSome a → IsSome b
some-same a b e h = ap is_some e ∙ h

pub stubs-kept : (xs : List (Key × ℕ)) (i j : Image) → AreStubs i → ClearsJumps xs i j → AreStubs j
stubs-kept xs i j a s = record {
  values = λ at k h. s.values k ∙ a.values at k (sym (s.keys at) ∙ h);
  low = λ at k h. a.low at k (sym (s.keys at) ∙ h);
  first = λ at k h. some-same _ _ (s.words at) (some-again at (jump_for xs (key_of i (at / 8 * 8))) (word_at i at) (a.first at k (sym (s.keys at) ∙ h)));
  second = λ at k h. some-same _ _ (s.words (at + 4)) (some-again (at + 4) (jump_for xs (key_of i ((at + 4) / 8 * 8))) (word_at i (at + 4)) (a.second at k (sym (s.keys at) ∙ h)));
}

aligned : (i : Image) (at : ℕ) (k : Key) → key_of i at ≡ Some k → at % 8 ≡ 0
aligned i at k h = by (at % 8 == 0) refl h
  where
    by : (b : Bool) → (at % 8 == 0) ≡ b → cond b (option_map (λ e. e.0) (function_at (functions_of i) (stub_of_word at))) None ≡ Some k → at % 8 ≡ 0
    by true e g = eq-true (at % 8) 0 e
    by false e g = absurd (cc)

jump-found : (jump : Key × ℕ) (x : Option Key) → x ≡ Some jump.0 → jump_for (jump ∷ []) x ≡ Some jump.1
jump-found jump x e = ap (jump_for (jump ∷ [])) e ∙ ap (λ b. cond b (Some jump.1) None) (key-refl jump.0)

pub jump-cleared : (i j : Image) (jump : Key × ℕ) (stub : ℕ) → AreStubs i → key_of i stub ≡ Some jump.0 → ClearsStub stub i j → ClearsJumps (jump ∷ []) i j
jump-cleared i j jump stub a is s = record {
  words = λ pc. s.words pc ∙ second pc (pc == stub + 4) refl;
  count = s.count;
  keys = s.keys;
  values = s.values;
  texts = s.texts;
  literals = s.literals;
  room = s.room;
}
  where
    round : stub % 8 ≡ 0
    round = aligned i stub jump.0 is

    target : (pc : ℕ) → pc / 8 * 8 ≡ stub → jump_for (jump ∷ []) (key_of i (pc / 8 * 8)) ≡ Some jump.1
    target pc e = jump-found jump (key_of i (pc / 8 * 8)) (ap (key_of i) e ∙ is)

    here : (pc : ℕ) (k : Key) → key_of i (pc / 8 * 8) ≡ Some k → jump.0 ≡ k → pc / 8 * 8 ≡ stub
    here pc k h e = same-some (pc / 8 * 8) stub (sym (a.values (pc / 8 * 8) k h) ∙ (ap (value_of i) (sym e) ∙ a.values stub jump.0 is))

    match : (pc : ℕ) (k : Key) → pc ≢ stub → pc ≢ stub + 4 → key_of i (pc / 8 * 8) ≡ Some k → (b : Bool) → key_eq jump.0 k ≡ b → word_at i pc ≡ call_again pc (cond b (Some jump.1) None) (word_at i pc)
    match pc k g h is-k false e = refl
    match pc k g h is-k true e = let same = here pc k is-k (key-same jump.0 k e) in sym (again-other pc (Some jump.1) (word_at i pc) (λ z. absurd (g (omega arith))) (λ z. absurd (h (omega arith))))

    other : (pc : ℕ) → pc ≢ stub → pc ≢ stub + 4 → (x : Option Key) → key_of i (pc / 8 * 8) ≡ x → word_at i pc ≡ call_again pc (jump_for (jump ∷ []) x) (word_at i pc)
    other pc g h None e = refl
    other pc g h (Some k) e = match pc k g h e (key_eq jump.0 k) refl

    first : (pc : ℕ) → pc ≢ stub + 4 → (b : Bool) → (pc == stub) ≡ b → cond b (slice_get call_words 0) (word_at i pc) ≡ call_again pc (jump_for (jump ∷ []) (key_of i (pc / 8 * 8))) (word_at i pc)
    first pc h true e =
        let same = eq-true pc stub e in
        let r : stub % 8 ≡ 0 = round in
        sym (ap (λ o. call_again pc o (word_at i pc)) (target pc (omega arith)) ∙ again-first pc jump.1 (word_at i pc) (omega arith))
    first pc h false e = other pc (eq-false pc stub e) h (key_of i (pc / 8 * 8)) refl

    second : (pc : ℕ) (b : Bool) → (pc == stub + 4) ≡ b → cond b (slice_get call_words 1) (cond (pc == stub) (slice_get call_words 0) (word_at i pc)) ≡ call_again pc (jump_for (jump ∷ []) (key_of i (pc / 8 * 8))) (word_at i pc)
    second pc true e =
        let same = eq-true pc (stub + 4) e in
        let r : stub % 8 ≡ 0 = round in
        sym (ap (λ o. call_again pc o (word_at i pc)) (target pc (omega arith)) ∙ again-second pc jump.1 (word_at i pc) (omega arith))
    second pc false e = first pc (eq-false pc (stub + 4) e) (pc == stub) refl

pub jump-absent : (i : Image) (jump : Key × ℕ) → ((p : ℕ) → key_of i p ≢ Some jump.0) → ClearsJumps (jump ∷ []) i i
jump-absent i jump none = record {
  words = λ pc. by pc (key_of i (pc / 8 * 8)) refl;
  count = refl;
  keys = λ p. refl;
  values = λ q. refl;
  texts = λ pc. refl;
  literals = λ p. refl;
  room = spends-none i;
}
  where
    match : (pc : ℕ) (k : Key) → key_of i (pc / 8 * 8) ≡ Some k → (b : Bool) → key_eq jump.0 k ≡ b → word_at i pc ≡ call_again pc (cond b (Some jump.1) None) (word_at i pc)
    match pc k is false e = refl
    match pc k is true e = absurd (none (pc / 8 * 8) (is ∙ ap Some (sym (key-same jump.0 k e))))

    by : (pc : ℕ) (x : Option Key) → key_of i (pc / 8 * 8) ≡ x → word_at i pc ≡ call_again pc (jump_for (jump ∷ []) x) (word_at i pc)
    by pc None e = refl
    by pc (Some k) e = match pc k e (key_eq jump.0 k) refl

pub stub-known : (i : Image) (key : Key) (stub : ℕ) → AreStubs i → (p : ℕ) × (key_of i p ≡ Some key) → Some stub ≡ value_of i key → key_of i stub ≡ Some key
stub-known i key stub a known v = ap (key_of i) (same-some stub known.0 (v ∙ a.values known.0 key known.1)) ∙ known.1

pub stub-missing : (i : Image) (key : Key) → AreStubs i → (p : ℕ) × (key_of i p ≡ Some key) → None ≡ value_of i key → ⊥
stub-missing i key a known v = let z : ◌≡◌ {A = Option ℕ} None (Some known.0) = v ∙ a.values known.0 key known.1 in absurd (cc)

-- both words of a stub are written
pub stub-written : (i j f : Image) (stub first second : ℕ) → Some first ≡ slice_get call_words 0 → Some second ≡ slice_get call_words 1 → ((q : ℕ) → word_at j q ≡ cond (q == stub) (Some first) (word_at i q)) → ((q : ℕ) → word_at f q ≡ cond (q == stub + 4) (Some second) (word_at j q)) → (pc : ℕ) → word_at f pc ≡ cond (pc == stub + 4) (slice_get call_words 1) (cond (pc == stub) (slice_get call_words 0) (word_at i pc))
stub-written i j f stub first second a b g h pc =
    h pc ∙ ((λ m. cond (pc == stub + 4) (b m) (word_at j pc)) ∙ (ap (cond (pc == stub + 4) (slice_get call_words 1)) (g pc) ∙ (λ m. cond (pc == stub + 4) (slice_get call_words 1) (cond (pc == stub) (a m) (word_at i pc)))))

pub second-there : (i j : Image) (stub first : ℕ) → ((q : ℕ) → word_at j q ≡ cond (q == stub) (Some first) (word_at i q)) → IsSome (word_at i (stub + 4)) → IsSome (word_at j (stub + 4))
second-there i j stub first g h = some-same (word_at i (stub + 4)) (word_at j (stub + 4)) (g (stub + 4) ∙ ap (λ b. cond b (Some first) (word_at i (stub + 4))) (false-eq (stub + 4) stub (λ e. absurd (omega arith)))) h

-- keys without a value
pub values-none : (i : Image) → TakesValues [] i i
values-none i = record {
  values = λ q. refl;
  count = refl;
  keys = λ at. refl;
  words = λ pc. refl;
  texts = λ pc. refl;
  literals = λ at. refl;
  room = spends-none i;
}

pub values-then : (xs ys : List (Key × ℕ)) (i j f : Image) → TakesValues xs i j → TakesValues ys j f → TakesValues (xs ++ ys) i f
values-then xs ys i j f p q = record {
  values = λ k. q.values k ∙ (ap (left_by (place_in ys k)) (p.values k) ∙ (left-twice (place_in xs k) (place_in ys k) (value_of i k) ∙ ap (λ o. left_by o (value_of i k)) (sym (lookup-append (λ j. key_eq j k) xs ys))));
  count = q.count ∙ p.count;
  keys = λ at. q.keys at ∙ p.keys at;
  words = λ pc. q.words pc ∙ p.words pc;
  texts = λ pc. q.texts pc ∙ p.texts pc;
  literals = λ at. q.literals at ∙ p.literals at;
  room = spends-then i j f p.room q.room;
}

pub value-taken : (object : Key × ℕ) (q : Key) (r : Option ℕ) → cond (key_eq object.0 q) None r ≡ left_by (place_in (object ∷ []) q) r
value-taken object q r = by (key_eq object.0 q)
  where
    by : (b : Bool) → cond b None r ≡ left_by (cond b (Some object.1) None) r
    by true = refl
    by false = refl

pub value-absent : (i : Image) (object : Key × ℕ) → value_of i object.0 ≡ None → TakesValues (object ∷ []) i i
value-absent i object none = record {
  values = λ q. by q (key_eq object.0 q) refl;
  count = refl;
  keys = λ at. refl;
  words = λ pc. refl;
  texts = λ pc. refl;
  literals = λ at. refl;
  room = spends-none i;
}
  where
    by : (q : Key) (b : Bool) → key_eq object.0 q ≡ b → value_of i q ≡ left_by (cond b (Some object.1) None) (value_of i q)
    by q true e = ap (value_of i) (sym (key-same object.0 q e)) ∙ none
    by q false e = refl
