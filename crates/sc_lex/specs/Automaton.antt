-- Yardstick: to be compared with what it restates (docs/TRUST.md).
-- The preprocessing tokens, by an automaton over their bytes (ANSI 3.1, 3.1.2, 3.1.8, 3.1.3.4, 3.1.4, 3.1.6).
use Rattle.std.specs.Prelude.{ℕ, ◌==◌, nat_le, Bool, true, false, ◌&&◌, ◌||◌, if◌then◌else◌, List, [], ◌∷◌, Option, Some, None}
use Rattle.sc_lex.specs.declared.token.TokenKind.{TokenKind}
use Rattle.sc_lex.specs.declared.token.TokenKind.TheVariants as k
use Rattle.sc_lex.specs.declared.automaton.State.{State}
use Rattle.sc_lex.specs.declared.automaton.State.TheVariants as s

-- a letter or `_`
abbrev pub starts_name : ℕ → Bool
starts_name b = (nat_le 97 b && nat_le b 122) || (nat_le 65 b && nat_le b 90) || b == 95

abbrev pub is_digit : ℕ → Bool
is_digit b = nat_le 48 b && nat_le b 57

-- + - & |
abbrev pub is_doubled : ℕ → Bool
is_doubled b = b == 43 || b == 45 || b == 38 || b == 124

-- * / % ^ = !
abbrev pub takes_equals : ℕ → Bool
takes_equals b = b == 42 || b == 47 || b == 37 || b == 94 || b == 61 || b == 33

-- [ ] ( ) { }
abbrev pub is_bracket : ℕ → Bool
is_bracket b = b == 91 || b == 93 || b == 40 || b == 41 || b == 123 || b == 125

-- a bracket, or ~ ? : , ;
abbrev pub stands_alone : ℕ → Bool
stands_alone b = is_bracket b || b == 126 || b == 63 || b == 58 || b == 44 || b == 59

abbrev pub first_punctuator : ℕ → State
first_punctuator b =
    if is_doubled b then s.Twice b else
    if b == 60 || b == 62 then s.Angle b else
    if b == 35 then s.Hash else
    if takes_equals b then s.Single else
    if stands_alone b then s.Last else s.Dead

abbrev pub first : ℕ → State
first b =
    if starts_name b then s.Name else
    if is_digit b then s.Number else
    if b == 46 then s.Dot else
    if b == 34 then s.Str else
    if b == 39 then s.Quote else first_punctuator b

-- a preprocessing number goes on with letters, digits, `_`, `.`, and a sign behind `e` or `E`
abbrev pub in_number : ℕ → State
in_number b = if b == 101 || b == 69 then s.Exponent else if starts_name b || is_digit b || b == 46 then s.Number else s.Dead

abbrev pub in_string : ℕ → State
in_string b = if b == 34 then s.StrEnd else if b == 92 then s.StrEscape else if b == 10 then s.Dead else s.Str

abbrev pub in_char : ℕ → State
in_char b = if b == 92 then s.CharEscape else if b == 10 then s.Dead else s.Char

abbrev pub after_dot : ℕ → State
after_dot b = if is_digit b then s.Number else if b == 46 then s.TwoDots else s.Dead

-- ++ -- && || += -= &= |= ->
abbrev pub after_doubled : ℕ → ℕ → State
after_doubled a b = if b == a || b == 61 || (a == 45 && b == 62) then s.Last else s.Dead

-- << >> <= >=
abbrev pub after_angle : ℕ → ℕ → State
after_angle a b = if b == a then s.Single else if b == 61 then s.Last else s.Dead

abbrev pub step : State → ℕ → State
step s.Start b = first b
step s.Name b = if starts_name b || is_digit b then s.Name else s.Dead
step s.Number b = in_number b
step s.Exponent b = if b == 43 || b == 45 then s.Number else in_number b
step s.Dot b = after_dot b
step s.TwoDots b = if b == 46 then s.Last else s.Dead
step s.Str b = in_string b
step s.StrEscape b = if b == 10 then s.Dead else s.Str
step s.Quote b = if b == 39 then s.Dead else in_char b
step s.Char b = if b == 39 then s.CharEnd else in_char b
step s.CharEscape b = if b == 10 then s.Dead else s.Char
step s.StrEnd b = s.Dead
step s.CharEnd b = s.Dead
step (s.Twice a) b = after_doubled a b
step (s.Angle a) b = after_angle a b
step s.Hash b = if b == 35 then s.Last else s.Dead
step s.Single b = if b == 61 then s.Last else s.Dead
step s.Last b = s.Dead
step s.Dead b = s.Dead

abbrev pub kind_of : State → Option TokenKind
kind_of s.Name = Some k.Name
kind_of s.Number = Some k.Number
kind_of s.Exponent = Some k.Number
kind_of s.StrEnd = Some k.Str
kind_of s.CharEnd = Some k.Char
kind_of s.Dot = Some k.Punct
kind_of (s.Twice a) = Some k.Punct
kind_of (s.Angle a) = Some k.Punct
kind_of s.Hash = Some k.Punct
kind_of s.Single = Some k.Punct
kind_of s.Last = Some k.Punct
kind_of _ = None

abbrev pub is_dead : State → Bool
is_dead s.Dead = true
is_dead _ = false

abbrev pub run : State → List ℕ → State
run state [] = state
run state (b ∷ bytes) = run (step state b) bytes

-- the kind of the one token that the bytes are
abbrev pub token_kind : List ℕ → Option TokenKind
token_kind bytes = kind_of (run s.Start bytes)
