-- Yardstick: to be compared with what it restates (docs/TRUST.md).
-- The words of a line: spaces, tabs and CR stand between them.
use Rattle.std.specs.Prelude.{ℕ, Bool, true, false, ◌||◌, List, [], ◌∷◌, drop, length, if◌then◌else◌, ◌==◌}
use Rattle.std.specs.List.{take_while}

abbrev pub is_space : ℕ → Bool
is_space b = b == 32 || b == 9 || b == 13

abbrev pub is_word_byte : ℕ → Bool
is_word_byte b = if is_space b then false else true

abbrev pub starts_word : List ℕ → Bool
starts_word [] = false
starts_word (b ∷ bytes) = is_word_byte b

-- the byte goes onto the first word
abbrev pub begin_word : ℕ → List (List ℕ) → List (List ℕ)
begin_word b [] = (b ∷ []) ∷ []
begin_word b (word ∷ words) = (b ∷ word) ∷ words

abbrev pub words_of : List ℕ → List (List ℕ)
words_of [] = []
words_of (b ∷ bytes) =
    if is_space b then words_of bytes
    else (if starts_word bytes then begin_word b (words_of bytes) else (b ∷ []) ∷ words_of bytes)

-- a text without the spaces at its front
abbrev pub without_spaces : List ℕ → List ℕ
without_spaces text = drop (length (take_while is_space text)) text

-- what stands behind its first word
abbrev pub behind_word : List ℕ → List ℕ
behind_word text = drop (length (take_while is_word_byte (without_spaces text))) (without_spaces text)
