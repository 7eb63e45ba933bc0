-- Yardstick: to be compared with what it restates (docs/TRUST.md).
-- Tests on tokens.
use Rattle.std.specs.Prelude.{ℕ, ◌==◌, Bool, true, false, ◌&&◌, List, [], ◌∷◌}
use Rattle.sc_lex.specs.declared.token.TokenKind.{TokenKind}
use Rattle.sc_lex.specs.declared.token.TokenKind.TheVariants as kind
use Rattle.sc_lex.specs.declared.token.Token.{Token}

abbrev pub name_kind : TokenKind → Bool
name_kind kind.Name = true
name_kind _ = false

abbrev pub newline_kind : TokenKind → Bool
newline_kind kind.Newline = true
newline_kind _ = false

abbrev pub is_name : Token → Bool
is_name t = name_kind t.kind

abbrev pub is_newline : Token → Bool
is_newline t = newline_kind t.kind

abbrev pub only : ℕ → List ℕ → Bool
only mark (b ∷ []) = b == mark
only mark _ = false

abbrev pub mark_kind : TokenKind → Bool → Bool
mark_kind kind.Punct spelled = spelled
mark_kind _ spelled = false

-- whether the token is this punctuator of one byte
abbrev pub is_mark : ℕ → Token → Bool
is_mark mark t = mark_kind t.kind (only mark t.text)

abbrev pub two_hashes : List ℕ → Bool
two_hashes (b ∷ c ∷ []) = (b == 35) && (c == 35)
two_hashes _ = false

-- whether the token is `##`
abbrev pub is_paste : Token → Bool
is_paste t = mark_kind t.kind (two_hashes t.text)
