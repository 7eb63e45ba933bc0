-- The first word of a text, and what stands behind it.
use Rattle.std.proofs.Common.{◌≡◌, ◌<◌, ℕ, Bool, true, false, cond, if◌then◌else◌, ◌⊎◌, inl, inr, List, [], ◌∷◌, length, take, drop, refl, suc, arith, ap, sym, ◌∙◌}
use Rattle.std.specs.List.{take_while}
use Rattle.std.proofs.lemmas.List.Sums.{take_while-cons}
use Rattle.sc_words.specs.Lines.{words_of, is_space, is_word_byte, starts_word, begin_word}

-- how long the word is that begins a text
abbrev pub word_len : List ℕ → ℕ
word_len text = length (take_while is_word_byte text)

test_cases : (b : Bool) → (b ≡ true) ⊎ (b ≡ false)
test_cases true = inl refl
test_cases false = inr refl

take_while-true : (p : ℕ → Bool) (b : ℕ) (bytes : List ℕ) → p b ≡ true → take_while p (b ∷ bytes) ≡ b ∷ take_while p bytes
take_while-true p b bytes e = take_while-cons p b bytes ∙ ap (λ t. cond t (b ∷ take_while p bytes) []) e

take_while-false : (p : ℕ → Bool) (b : ℕ) (bytes : List ℕ) → p b ≡ false → take_while p (b ∷ bytes) ≡ []
take_while-false p b bytes e = take_while-cons p b bytes ∙ ap (λ t. cond t (b ∷ take_while p bytes) []) e

words-skip : (b : ℕ) (bytes : List ℕ) → is_space b ≡ true → words_of (b ∷ bytes) ≡ words_of bytes
words-skip b bytes e = rw e

words-alone : (b : ℕ) (bytes : List ℕ) → is_space b ≡ false → starts_word bytes ≡ false → words_of (b ∷ bytes) ≡ (b ∷ []) ∷ words_of bytes
words-alone b bytes e f = rw (e, f)

words-join : (b : ℕ) (bytes : List ℕ) → is_space b ≡ false → starts_word bytes ≡ true → words_of (b ∷ bytes) ≡ begin_word b (words_of bytes)
words-join b bytes e f = rw (e, f)

word_byte : (b : ℕ) → is_space b ≡ false → is_word_byte b ≡ true
word_byte b e = rw e

not_space : (b : ℕ) → is_word_byte b ≡ true → is_space b ≡ false
not_space b e =
    elim (test_cases (is_space b)) [
      | inl s ↦ (let bad : false ≡ true = sym (ap (λ t. if t then false else true) s) ∙ e in cc)
      | inr s ↦ s
    ]

-- what is skipped is in no word
skipped_at_true : (b : ℕ) (bytes : List ℕ) → is_space b ≡ true → words_of (drop (length (take_while is_space bytes)) bytes) ≡ words_of bytes → words_of (drop (length (take_while is_space (b ∷ bytes))) (b ∷ bytes)) ≡ words_of (b ∷ bytes)
skipped_at_true b bytes e h =
    ap (λ xs. words_of (drop (length xs) (b ∷ bytes))) (take_while-true is_space b bytes e) ∙ h ∙ sym (words-skip b bytes e)

pub words_of-skipped : (text : List ℕ) → words_of (drop (length (take_while is_space text)) text) ≡ words_of text
words_of-skipped [] = refl
words_of-skipped (b ∷ bytes) =
    elim (test_cases (is_space b)) [
      | inl e ↦ skipped_at_true b bytes e (words_of-skipped bytes)
      | inr e ↦ ap (λ xs. words_of (drop (length xs) (b ∷ bytes))) (take_while-false is_space b bytes e)
    ]

-- a byte that no other joins
first_apart : (b : ℕ) (bytes : List ℕ) → is_space b ≡ false → starts_word bytes ≡ false → words_of (b ∷ bytes) ≡ take (word_len (b ∷ bytes)) (b ∷ bytes) ∷ words_of (drop (word_len (b ∷ bytes)) (b ∷ bytes))
first_apart b [] e f = rw (take_while-true is_word_byte b [] (word_byte b e)) (words-alone b [] e f)
first_apart b (c ∷ bytes) e f =
    rw (take_while-true is_word_byte b (c ∷ bytes) (word_byte b e), take_while-false is_word_byte c bytes f) (words-alone b (c ∷ bytes) e f)

word_len-more : (b : ℕ) (bytes : List ℕ) → is_space b ≡ false → word_len (b ∷ bytes) ≡ suc (word_len bytes)
word_len-more b bytes e = ap length (take_while-true is_word_byte b bytes (word_byte b e)) ∙ omega arith

-- a byte that goes onto the next word
first_joined : (b c : ℕ) (bytes : List ℕ) → is_space b ≡ false → starts_word (c ∷ bytes) ≡ true
    → words_of (c ∷ bytes) ≡ take (word_len (c ∷ bytes)) (c ∷ bytes) ∷ words_of (drop (word_len (c ∷ bytes)) (c ∷ bytes))
    → words_of (b ∷ c ∷ bytes) ≡ take (word_len (b ∷ c ∷ bytes)) (b ∷ c ∷ bytes) ∷ words_of (drop (word_len (b ∷ c ∷ bytes)) (b ∷ c ∷ bytes))
first_joined b c bytes e g h = rw (word_len-more b (c ∷ bytes) e) (words-join b (c ∷ bytes) e g ∙ ap (begin_word b) h)

pub words_of-first : (b : ℕ) (bytes : List ℕ) → is_space b ≡ false → words_of (b ∷ bytes) ≡ take (word_len (b ∷ bytes)) (b ∷ bytes) ∷ words_of (drop (word_len (b ∷ bytes)) (b ∷ bytes))
words_of-first b [] e = first_apart b [] e refl
words_of-first b (c ∷ bytes) e =
    elim (test_cases (is_word_byte c)) [
      | inl g ↦ first_joined b c bytes e g (words_of-first c bytes (not_space c g))
      | inr g ↦ first_apart b (c ∷ bytes) e g
    ]

-- behind what is skipped, a byte that is not
pub not_skipped : (text : List ℕ) (b : ℕ) (rest : List ℕ) → drop (length (take_while is_space text)) text ≡ b ∷ rest → is_space b ≡ false
not_skipped [] b rest e = cc
not_skipped (x ∷ text) b rest e =
    elim (test_cases (is_space x)) [
      | inl s ↦ not_skipped text b rest (sym (ap (λ xs. drop (length xs) (x ∷ text)) (take_while-true is_space x text s)) ∙ e)
      | inr s ↦ (let same : x ∷ text ≡ b ∷ rest = sym (ap (λ xs. drop (length xs) (x ∷ text)) (take_while-false is_space x text s)) ∙ e in cc)
    ]

pub words_of-some : (text : List ℕ) (rest : List ℕ) → rest ≡ drop (length (take_while is_space text)) text → 0 < length rest → words_of text ≡ take (word_len rest) rest ∷ words_of (drop (word_len rest) rest)
words_of-some text [] e more = absurd (omega arith)
words_of-some text (b ∷ rest) e more =
    sym (words_of-skipped text) ∙ ap words_of (sym e) ∙ words_of-first b rest (not_skipped text b rest (sym e))

pub words_of-none : (text : List ℕ) (rest : List ℕ) → rest ≡ drop (length (take_while is_space text)) text → length rest ≡ 0 → words_of text ≡ []
words_of-none text [] e none = sym (words_of-skipped text) ∙ ap words_of (sym e)
words_of-none text (b ∷ rest) e none = absurd (omega arith)
