-- Yardstick: to be compared with what it restates (docs/TRUST.md).
-- What each token of a text is to the grammar.
use Rattle.std.specs.Prelude.{◌≡◌, ℕ, ◌<◌, ◌≤◌, nat_lt, nat_le, Bool, true, false, not, ◌&&◌, if◌then◌else◌, List, [], ◌∷◌, length, Option, Some, None, codes}
use Rattle.std.specs.Str.{bytes_eq}
use Rattle.sc_lex.specs.declared.token.Token.{Token}
use Rattle.sc_lex.specs.declared.token.TokenKind.{TokenKind}
use Rattle.sc_lex.specs.declared.token.TokenKind.TheVariants as is
use Rattle.sc_parse_names.specs.declared.kind.Mark.TheVariants as mark
use Rattle.sc_parse_names.specs.declared.kind.Symbol.{Symbol}
use Rattle.sc_parse_names.specs.declared.kind.Kind.{Kind}
use Rattle.sc_parse_names.specs.declared.kind.Kind.TheVariants as k
use Rattle.sc_parse_tokens.specs.Literals as literals
use Rattle.sc_parse_tokens.specs.Numbers.{number}
use Rattle.sc_parse_tokens.specs.Words.{word, punctuator}

abbrev pub is_name : Kind → Bool
is_name k.Name = true
is_name _ = false

-- A name has 1 to 255 bytes.
abbrev pub is_sized : List ℕ → Bool
is_sized text = nat_lt 0 (length text) && nat_le (length text) 255

abbrev pub sized : Kind → List ℕ → Kind
sized kind text = if is_name kind && not (is_sized text) then k.Other else kind

abbrev pub symbol : Kind → List ℕ → ℕ → Symbol
symbol kind text line = record { kind = sized kind text; text = text; line = line }

-- A literal stands directly behind.
abbrev pub is_literal : TokenKind → Bool
is_literal is.Str = true
is_literal is.Char = true
is_literal _ = false

abbrev pub is_joined : List Token → Bool
is_joined [] = false
is_joined (t ∷ ts) = is_literal t.kind && not t.space

-- `L` directly before a string or character makes it wide.
abbrev pub is_wide : List ℕ → List Token → Bool
is_wide text behind = is_joined behind && bytes_eq text (codes "L")

abbrev pub is_long : Kind → Bool
is_long k.Long = true
is_long _ = false

-- A second `long` is left out.
abbrev pub second : Bool → Kind → Kind
second long kind = if long && is_long kind then k.LeftOut mark.LongLong else kind

-- an identifier; `long` says whether `long` stands before it, and these tokens stand behind it
abbrev pub named : Bool → List ℕ → List Token → Kind
named long text behind = if is_wide text behind then k.LeftOut mark.Wide else second long (word text)

abbrev pub string : List ℕ → Kind
string text = literals.string_of (literals.read_all 34 literals.start text)

abbrev pub bytes : List ℕ → List ℕ
bytes text = (literals.read_all 34 literals.start text).bytes

abbrev pub character : List ℕ → Kind
character text = literals.character_of (literals.read_all 39 literals.start text)

abbrev pub symbol_by : TokenKind → Bool → Token → List Token → Symbol
symbol_by is.Name long t behind = symbol (named long t.text behind) t.text t.line
symbol_by is.Number long t behind = symbol (number t.text) t.text t.line
symbol_by is.Char long t behind = symbol (character t.text) t.text t.line
symbol_by is.Str long t behind = symbol (string t.text) (bytes t.text) t.line
symbol_by is.Punct long t behind = symbol (punctuator t.text) t.text t.line
symbol_by is.Other long t behind = symbol k.Other t.text t.line
symbol_by is.Newline long t behind = symbol k.Other t.text t.line

-- What the token is, where `long` says whether `long` stands directly before it.
abbrev pub symbol_of : Bool → Token → List Token → Symbol
symbol_of long t behind = symbol_by t.kind long t behind

-- whether the token is `long`
abbrev pub says_long : TokenKind → List ℕ → Bool
says_long is.Name text = bytes_eq text (codes "long")
says_long _ text = false

abbrev pub symbols_from : Bool → List Token → List Symbol
symbols_from long [] = []
symbols_from long (t ∷ ts) = symbol_of long t ts ∷ symbols_from (says_long t.kind t.text) ts

-- what the tokens are
abbrev pub symbols : List Token → List Symbol
symbols ts = symbols_from false ts
