-- Yardstick: to be compared with what it restates (docs/TRUST.md).
-- The spelling of an argument as a string literal (ANSI 3.8.3.2).
use Rattle.std.specs.Prelude.{ℕ, ◌==◌, ◌||◌, if◌then◌else◌, List, [], ◌∷◌, ◌++◌, flat_map}
use Rattle.sc_lex.specs.declared.token.TokenKind.{TokenKind}
use Rattle.sc_lex.specs.declared.token.TokenKind.TheVariants as kind
use Rattle.sc_macro.specs.declared.marked.Marked.{Marked}

-- with `\` before each `"` and each `\`
abbrev pub escaped : List ℕ → List ℕ
escaped bytes = flat_map (λ b. if b == 34 || b == 92 then 92 ∷ b ∷ [] else b ∷ []) bytes

abbrev pub literal : List ℕ → List ℕ
literal bytes = 34 ∷ escaped bytes ++ 34 ∷ []

abbrev pub spelling_of : TokenKind → List ℕ → List ℕ
spelling_of kind.Str text = escaped text
spelling_of kind.Char text = escaped text
spelling_of _ text = text

abbrev pub spelling : Marked → List ℕ
spelling m = spelling_of m.token.kind m.token.text

-- with one space where there is white space before it
abbrev pub behind_space : Marked → List ℕ
behind_space m = if m.token.space then 32 ∷ spelling m else spelling m

abbrev pub texts : List Marked → List ℕ
texts [] = []
texts (m ∷ ms) = spelling m ++ flat_map behind_space ms

abbrev pub string_of : List Marked → List ℕ
string_of ms = 34 ∷ texts ms ++ 34 ∷ []
