-- Yardstick: to be compared with what it restates (docs/TRUST.md).
-- A text after its first two phases is cut into tokens and white space (ANSI 2.1.1.2, 3.1, 3.1.9).
use Rattle.std.specs.Prelude.{ℕ, zero, suc, ◌+◌, ◌==◌, ◌≤◌, Bool, false, ◌&&◌, ◌||◌, if◌then◌else◌, List, [], ◌∷◌, map, length, take, drop, Option, Some, None, option_map}
use Rattle.sc_lex.specs.declared.mark.Mark.{Mark}
use Rattle.sc_lex.specs.declared.piece.Piece.{Piece}
use Rattle.sc_lex.specs.declared.piece.Piece.TheVariants as p
use Rattle.sc_lex.specs.declared.token.TokenKind.{TokenKind}
use Rattle.sc_lex.specs.declared.token.TokenKind.TheVariants as k
use Rattle.sc_lex.specs.Automaton.{token_kind}

abbrev pub bytes_of : List Mark → List ℕ
bytes_of marks = map (λ m. m.byte) marks

abbrev pub or_shorter : ℕ → Option TokenKind → Option (ℕ × TokenKind) → Option (ℕ × TokenKind)
or_shorter n (Some kind) shorter = Some (n, kind)
or_shorter n None shorter = shorter

-- of the prefixes of at most this many bytes, the longest that is a token
abbrev pub longest_within : ℕ → List ℕ → Option (ℕ × TokenKind)
longest_within zero bytes = None
longest_within (suc n) bytes = or_shorter (suc n) (token_kind (take (suc n) bytes)) (longest_within n bytes)

-- the longest prefix that is a token: its length and its kind
abbrev pub longest : List ℕ → Option (ℕ × TokenKind)
longest bytes = longest_within (length bytes) bytes

-- space, horizontal and vertical tab, form feed
abbrev pub is_white : ℕ → Bool
is_white b = b == 32 || b == 9 || b == 11 || b == 12

abbrev pub begins_comment : List ℕ → Bool
begins_comment (a ∷ b ∷ bytes) = a == 47 && b == 42
begins_comment _ = false

abbrev pub ends_comment : List ℕ → Bool
ends_comment (a ∷ b ∷ bytes) = a == 42 && b == 47
ends_comment _ = false

-- the number of bytes through the first `*/`
abbrev pub comment_end : List ℕ → Option ℕ
comment_end [] = None
comment_end (b ∷ bytes) = if ends_comment (b ∷ bytes) then Some 2 else option_map (λ n. n + 1) (comment_end bytes)

-- a comment is white space; one with no end is open
abbrev pub comment : Option ℕ → Piece
comment None = p.Open
comment (Some n) = p.Space (n + 2)

-- the longest token, or else one byte that is none
abbrev pub token : Option (ℕ × TokenKind) → Piece
token None = p.Token k.Other 1
token (Some r) = p.Token r.1 r.0

abbrev pub piece_from : ℕ → List ℕ → Piece
piece_from b bytes =
    if is_white b then p.Space 1 else
    if b == 10 then p.Token k.Newline 1 else
    if begins_comment bytes then comment (comment_end (drop 2 bytes)) else token (longest bytes)

-- what the bytes begin with, of which there is one at least
abbrev pub first_piece : List ℕ → Piece
first_piece [] = p.Open
first_piece (b ∷ bytes) = piece_from b (b ∷ bytes)

-- a piece has a byte, and no more than there are
abbrev pub IsWithin : ℕ → Piece → Type 0
IsWithin most (p.Space n) = (1 ≤ n) × (n ≤ most)
IsWithin most (p.Token kind n) = (1 ≤ n) × (n ≤ most)
IsWithin most p.Open = Unit {0}
