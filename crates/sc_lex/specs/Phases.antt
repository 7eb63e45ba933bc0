-- Yardstick: to be compared with what it restates (docs/TRUST.md).
-- The first two phases of translation (ANSI 2.1.1.2, 2.2.1.1), as functions on lists.
use Rattle.std.specs.Prelude.{ℕ, zero, suc, ◌+◌, ◌==◌, Bool, false, ◌&&◌, if◌then◌else◌, List, [], ◌∷◌, Option, Some, None}
use Rattle.sc_lex.specs.declared.mark.Mark.{Mark}

abbrev pub begins_line_end : List ℕ → Bool
begins_line_end [] = false
begins_line_end (b ∷ bytes) = b == 10

-- A carriage return before a line feed is dropped.
abbrev pub without_returns : List ℕ → List ℕ
without_returns [] = []
without_returns (b ∷ bytes) = if b == 13 && begins_line_end bytes then without_returns bytes else b ∷ without_returns bytes

-- the byte that stands for `??` and this byte
abbrev pub third_of : ℕ → Option ℕ
third_of c =
    if c == 61 then Some 35 else
    if c == 40 then Some 91 else
    if c == 47 then Some 92 else
    if c == 41 then Some 93 else
    if c == 39 then Some 94 else
    if c == 60 then Some 123 else
    if c == 33 then Some 124 else
    if c == 62 then Some 125 else
    if c == 45 then Some 126 else None

-- the byte of the trigraph that the bytes begin with
abbrev pub trigraph_at : List ℕ → Option ℕ
trigraph_at (a ∷ b ∷ c ∷ bytes) = if a == 63 && b == 63 then third_of c else None
trigraph_at _ = None

abbrev pub by_trigraph : Option ℕ → List ℕ → (ℕ → List ℕ) → List ℕ
by_trigraph None plain replaced = plain
by_trigraph (Some c) plain replaced = replaced c

-- Each trigraph is one byte. The number is of the bytes that belong to the trigraph before.
abbrev pub trigraphs_from : ℕ → List ℕ → List ℕ
trigraphs_from n [] = []
trigraphs_from (suc n) (b ∷ bytes) = trigraphs_from n bytes
trigraphs_from zero (b ∷ bytes) = by_trigraph (trigraph_at (b ∷ bytes)) (b ∷ trigraphs_from 0 bytes) (λ c. c ∷ trigraphs_from 2 bytes)

abbrev pub trigraphs : List ℕ → List ℕ
trigraphs bytes = trigraphs_from 0 bytes

-- the line of what stands behind this byte
abbrev pub line_after : ℕ → ℕ → ℕ
line_after b line = if b == 10 then line + 1 else line

-- Each byte gets its line. What was dropped or replaced before holds no line feed, so these are the lines of the text.
abbrev pub numbered : ℕ → List ℕ → List Mark
numbered line [] = []
numbered line (b ∷ bytes) = record { byte = b; line = line } ∷ numbered (line_after b line) bytes

abbrev pub begins_join : List Mark → Bool
begins_join (a ∷ b ∷ marks) = a.byte == 92 && b.byte == 10
begins_join _ = false

-- A backslash and the line feed behind it are dropped. The number is of the bytes that are dropped already.
abbrev pub joined_from : ℕ → List Mark → List Mark
joined_from n [] = []
joined_from (suc n) (m ∷ marks) = joined_from n marks
joined_from zero (m ∷ marks) = if begins_join (m ∷ marks) then joined_from 1 marks else m ∷ joined_from 0 marks

abbrev pub joined : List Mark → List Mark
joined marks = joined_from 0 marks

-- the text after its first two phases
abbrev pub logical : List ℕ → List Mark
logical text = joined (numbered 1 (trigraphs (without_returns text)))
