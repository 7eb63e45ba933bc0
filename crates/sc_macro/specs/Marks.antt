-- Yardstick: to be compared with what it restates (docs/TRUST.md).
-- Tokens with hide sets.
use Rattle.std.specs.Prelude.{ℕ, ◌||◌, Bool, true, false, if◌then◌else◌, List, [], ◌∷◌}
use Rattle.sc_lex.specs.declared.token.TokenKind.{TokenKind}
use Rattle.sc_lex.specs.declared.token.Token.{Token}
use Rattle.sc_macro.specs.declared.marked.Marked.{Marked}
use Rattle.sc_macro.specs.Hides.{united}
use Rattle.sc_macro.specs.Tokens.{is_newline}

abbrev pub bare : Token → Marked
bare t = record { token = t; hide = [] }

-- a token at the place of another one
abbrev pub made : Token → TokenKind → List ℕ → Bool → Marked
made place kind text space = bare (record { kind = kind; text = text; file = place.file; line = place.line; space = space })

abbrev pub spaced : Bool → Token → Token
spaced space t = record { kind = t.kind; text = t.text; file = t.file; line = t.line; space = space }

abbrev pub spaced_as : Bool → Marked → Marked
spaced_as space m = record { token = spaced space m.token; hide = m.hide }

-- a list whose first token has this white space before it
abbrev pub respaced : Bool → List Marked → List Marked
respaced space [] = []
respaced space (m ∷ ms) = spaced_as space m ∷ ms

-- a token of a replacement, at the line and in the file of the macro's name, and with the replacement's hide set too
abbrev pub landed : Token → List ℕ → Marked → Marked
landed name hide m = record {
  token = record { kind = m.token.kind; text = m.token.text; file = name.file; line = name.line; space = m.token.space };
  hide = united m.hide hide;
}

-- the same, where the first token takes the white space of the name
abbrev pub landed_as : Token → List ℕ → Bool → Marked → Marked
landed_as name hide true m = landed name hide (spaced_as name.space m)
landed_as name hide false m = landed name hide m

-- without new-lines, which are white space before the next token
abbrev pub without_lines : Bool → List Token → List Marked
without_lines space [] = []
without_lines space (t ∷ ts) = if is_newline t then without_lines true ts else bare (spaced (space || t.space) t) ∷ without_lines false ts
