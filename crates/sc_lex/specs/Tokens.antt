-- Yardstick: to be compared with what it restates (docs/TRUST.md).
-- The tokens of a text: the first three phases of translation (ANSI 2.1.1.2).
use Rattle.std.specs.Prelude.{ℕ, zero, suc, ◌-◌, ◌≡◌, nat_lt, Bool, true, false, ◌&&◌, if◌then◌else◌, List, [], ◌∷◌, ◌++◌, take, length, codes, Option, Some, None, Result, Ok, Err}
use Rattle.sc_base.specs.declared.refusal.X.TheVariants as x
use Rattle.sc_base.specs.declared.refusal.X.{X}
use Rattle.sc_base.specs.declared.refusal.Refusal.{Refusal}
use Rattle.sc_base.specs.declared.refusal.Fault.{Fault}
use Rattle.sc_base.specs.declared.refusal.Fault.TheVariants as f
use Rattle.sc_lex.specs.declared.lexing.Scan.{Scan}
use Rattle.sc_lex.specs.declared.mark.Mark.{Mark}
use Rattle.sc_lex.specs.declared.piece.Piece.{Piece}
use Rattle.sc_lex.specs.declared.piece.Piece.TheVariants as p
use Rattle.sc_lex.specs.declared.token.Token.{Token}
use Rattle.sc_lex.specs.declared.token.TokenKind.{TokenKind}
use Rattle.sc_lex.specs.declared.token.TokenKind.TheVariants as k
use Rattle.sc_lex.specs.Phases.{logical}
use Rattle.sc_lex.specs.Pieces.{bytes_of, first_piece}

abbrev pub prepend : List Token → Scan → Scan
prepend tokens c = record { tokens = tokens ++ c.tokens; unclosed = c.unclosed }

-- What a piece gives where these marks stand: a token of its first bytes, with the line of the first; or white space.
-- The last argument gives what is behind the piece: how many more of its bytes to pass, and whether it is white.
abbrev pub by_piece : ℕ → Bool → Mark → List Mark → Piece → (ℕ → Bool → Scan) → Scan
by_piece file space m marks (p.Space n) behind = behind (n - 1) true
by_piece file space m marks (p.Token kind n) behind =
    prepend (record { kind = kind; text = take n (bytes_of (m ∷ marks)); file = file; line = m.line; space = space } ∷ []) (behind (n - 1) false)
by_piece file space m marks p.Open behind = record { tokens = []; unclosed = Some m.line }

-- What marks are cut into. The number is of the bytes that belong to the piece before; the `Bool` says whether that was white.
abbrev pub cut_from : ℕ → ℕ → Bool → List Mark → Scan
cut_from file n space [] = record { tokens = []; unclosed = None }
cut_from file (suc n) space (m ∷ marks) = cut_from file n space marks
cut_from file zero space (m ∷ marks) = by_piece file space m marks (first_piece (bytes_of (m ∷ marks))) (λ n white. cut_from file n white marks)

-- What the text of a file is cut into: all its tokens, and the line of a comment that nobody closes. Such a comment is the
-- last of the text.
abbrev pub cut : ℕ → List ℕ → Scan
cut file text = cut_from file 0 false (logical text)

abbrev pub is_name : TokenKind → Bool
is_name k.Name = true
is_name _ = false

-- an identifier has at most 63 bytes
abbrev pub is_too_long : Token → Bool
is_too_long t = is_name t.kind && nat_lt 63 (length t.text)

-- a refusal, which leaves the file's name open
abbrev pub refusal : X → ℕ → Refusal
refusal kind line = record { kind = kind; file = []; line = line }

abbrev pub open_comment : Option ℕ → Option Refusal
open_comment None = None
open_comment (Some line) = Some (refusal x.X1 line)

-- The first refusal of these tokens, behind which a comment may be open: that of an identifier that is too long, or else
-- that of the comment.
abbrev pub refusal_in : List Token → Option ℕ → Option Refusal
refusal_in [] line = open_comment line
refusal_in (t ∷ ts) line = if is_too_long t then Some (refusal (x.X10 (codes "identifier")) t.line) else refusal_in ts line

abbrev pub Outcome : Type 0
Outcome = Result (List Token) Fault

abbrev pub unless : Option Refusal → List Token → Outcome
unless None ts = Ok ts
unless (Some r) ts = Err (f.Refused r)

-- the tokens of the text of a file, or the first refusal
abbrev pub tokens : ℕ → List ℕ → Outcome
tokens file text = let c = cut file text in unless (refusal_in c.tokens c.unclosed) c.tokens

-- This is the outcome; want of memory may come in its place.
abbrev pub Gives : Outcome → Outcome → Type 0
Gives outcome (Ok tokens) = outcome ≡ Ok tokens
Gives outcome (Err (f.Refused r)) = outcome ≡ Err (f.Refused r)
Gives outcome (Err f.NoMemory) = Unit {0}
