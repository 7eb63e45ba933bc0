-- Yardstick: to be compared with what it restates (docs/TRUST.md).
-- What directives and text do (ANSI 3.8.1 to 3.8.7).
use Rattle.std.specs.Prelude.{◌≡◌, ℕ, ◌+◌, ◌-◌, ◌==◌, ◌&&◌, ◌||◌, nat_lt, nat_le, Bool, true, false, not, if◌then◌else◌, List, [], ◌∷◌, ◌++◌, length, map, take, drop, Option, Some, None, Ok, Err, codes}
use Rattle.std.specs.List.{list_any}
use Rattle.sc_base.specs.declared.refusal.X.TheVariants as x
use Rattle.sc_base.specs.declared.refusal.Refusal.{Refusal}
use Rattle.sc_lex.specs.declared.token.Token.{Token}
use Rattle.sc_lex.specs.declared.token.TokenKind.{TokenKind}
use Rattle.sc_lex.specs.declared.token.TokenKind.TheVariants as kind
use Rattle.sc_macro.specs.Tokens.{is_mark}
use Rattle.sc_macro.specs.Table.{Table, is_fixed, undefined}
use Rattle.sc_macro.specs.Define.{defined}
use Rattle.sc_macro.specs.Refusals as macros
use Rattle.sc_pp_condition.specs.Verdict.{verdict}
use Rattle.sc_pp.specs.declared.line.Word.{Word}
use Rattle.sc_pp.specs.declared.line.Word.TheVariants as word
use Rattle.sc_pp.specs.declared.line.Directive.{Directive}
use Rattle.sc_pp.specs.declared.header.Header.{Header}
use Rattle.sc_pp.specs.declared.state.State.{State}
use Rattle.sc_pp.specs.declared.state.Place.{Place}
use Rattle.sc_pp.specs.declared.include.Wanted.{Wanted}
use Rattle.sc_pp.specs.declared.include.File.{File}
use Rattle.sc_base.specs.declared.refusal.Fault.{Fault}
use Rattle.sc_base.specs.declared.refusal.Fault.TheVariants as fault
use Rattle.sc_pp.specs.Outcomes.{Outcome, after, refuse, refusal, told_in}
use Rattle.sc_pp.specs.Environments.{Env, expanded_in, with_file, with_table, is_defined}
use Rattle.sc_pp.specs.Conditionals.{answered, told, only_name}
use Rattle.sc_pp.specs.declared.asking.Asking.TheVariants as asking
use Rattle.sc_pp.specs.Groups.{some_tokens}
use Rattle.sc_pp.specs.Headers.{header_named, is_fresh, added_text}
use Rattle.sc_pp.specs.Scans.{scanned}

-- what a state is with another environment, and the like
abbrev pub with_env : State → Env → State
with_env s env = record { env = env; out = s.out; left = s.left; opened = s.opened; seen = s.seen }

abbrev pub with_left : State → ℕ → State
with_left s left = record { env = s.env; out = s.out; left = left; opened = s.opened; seen = s.seen }

abbrev pub with_out : State → List Token → State
with_out s out = record { env = s.env; out = out; left = s.left; opened = s.opened; seen = s.seen }

abbrev pub counted : State → State
counted s = record { env = s.env; out = s.out; left = s.left; opened = s.opened + 1; seen = s.seen }

abbrev pub with_seen : State → Header → State
with_seen s h = record { env = s.env; out = s.out; left = s.left; opened = s.opened; seen = s.seen ++ h ∷ [] }

-- tokens, and the state with what is left of the replacements
abbrev pub spent : State → List Token × ℕ → State × List Token
spent s r = (with_left s r.1, r.0)

abbrev pub spending : State → Outcome (List Token × ℕ) → Outcome (State × List Token)
spending s (Ok r) = Ok (spent s r)
spending s (Err r) = Err r

-- tokens with their macros replaced
abbrev pub expanded : Place → State → List Token → Outcome (State × List Token)
expanded place s ts = spending s (told_in place.name (expanded_in s.env s.left ts))

-- the line that what stands at a line of this file has in the unit: that of the `#include` in the unit's own file
abbrev pub line_in : Place → ℕ → ℕ
line_in place line = if place.top == 0 then line else place.top

abbrev pub landed : Place → Token → Token
landed place t = record { kind = t.kind; text = t.text; file = t.file; line = line_in place t.line; space = t.space }

abbrev pub line_at : List Token → ℕ
line_at [] = 0
line_at (t ∷ ts) = t.line

-- Tokens behind those of the unit so far, which has 1000000 at most. A refusal has the place of the first that is too many.
abbrev pub delivered : Place → State → List Token → Outcome State
delivered place s ts =
    if nat_lt (1000000 - length s.out) (length ts) then refuse (x.X10 (codes "tokens")) place.name (line_at (drop (1000000 - length s.out) ts))
    else Ok (with_out s (s.out ++ map (landed place) ts))

-- text: its macros are replaced
abbrev pub text_done : Place → State → List Token → Outcome State
text_done place s ts = after (expanded place s ts) (λ r. delivered place r.0 r.1)

-- a definition, told at the line of its directive
abbrev pub defining : Place → State → ℕ → macros.Outcome Table → Outcome State
defining place s line (Ok table) = Ok (with_env s (with_table s.env table))
defining place s line (Err r) = refuse (macros.word r.reason) place.name line

abbrev pub is_empty : List ℕ → Bool
is_empty [] = true
is_empty (b ∷ bytes) = false

-- the same of a fault of the table
abbrev pub TellsAt : List ℕ → ℕ → Fault → Fault → Type 0
TellsAt file line e f = (r : Refusal) → f ≡ fault.Refused r → (q : Refusal) × (e ≡ fault.Refused q) × (r ≡ refusal q.kind file line)

-- the name that `#undef` takes, which is not fixed, and has 1 to 255 bytes
abbrev pub undefining_name : Place → State → ℕ → List ℕ → Outcome State
undefining_name place s line name =
    if is_fixed name || (nat_lt 255 (length name) || is_empty name) then refuse x.X2 place.name line
    else Ok (with_env s (with_table s.env (undefined s.env.table name)))

abbrev pub undefining : Place → State → ℕ → Option (List ℕ) → Outcome State
undefining place s line None = refuse x.X2 place.name line
undefining place s line (Some name) = undefining_name place s line name

-- the bytes between the quotes
abbrev pub unquoted : List ℕ → List ℕ
unquoted text = take (length text - 2) (drop 1 text)

-- the name of a header, and whether it is in quotes
abbrev pub Name : Type 0
Name = Bool × List ℕ

abbrev pub some_name : Bool → List ℕ → Option Name
some_name quoted name = if is_empty name then None else Some (quoted, name)

abbrev pub quoted_name : TokenKind → List ℕ → Option Name
quoted_name kind.Str text = some_name true (unquoted text)
quoted_name _ text = None

abbrev pub gap : Token → List ℕ
gap t = if t.space then 32 ∷ [] else []

abbrev pub has_angle : List ℕ → Bool
has_angle text = list_any (λ b. b == 62) text

abbrev pub at_close : List ℕ → Token → Option Name
at_close out t = if is_mark 62 t && not (is_empty out) then Some (false, out ++ gap t) else None

-- what stands before the last `>`, spelled, behind what is spelled so far
abbrev pub angled : List ℕ → List Token → Option Name
angled out [] = None
angled out (t ∷ ts) = if some_tokens ts then (if has_angle t.text then None else angled (out ++ gap t ++ t.text) ts) else at_close out t

-- `"name"` or `<name>`
abbrev pub header_name : List Token → Option Name
header_name [] = None
header_name (t ∷ ts) = if some_tokens ts then (if is_mark 60 t then angled [] ts else None) else quoted_name t.kind t.text

-- a file that is to be read
abbrev pub Step : Type 0
Step = State × Option Wanted

-- At most 256 files may be included, and 15 inside each other: so many more may be.
abbrev pub within : ℕ → Place → State → ℕ → Name → Outcome Step
within depth place s line name =
    if depth == 0 || nat_le 256 s.opened then refuse (x.X10 (codes "include")) place.name line
    else Ok (s, Some (record { quoted = name.0; name = name.1; line = line }))

abbrev pub from_macros : ℕ → Place → State → ℕ → Option Name → Outcome Step
from_macros depth place s line None = refuse x.X2 place.name line
from_macros depth place s line (Some name) = within depth place s line name

abbrev pub named_by_macros : ℕ → Place → State → Directive → Outcome Step
named_by_macros depth place s d = after (expanded place s d.tokens) (λ r. from_macros depth place r.0 d.line (header_name r.1))

-- a header's name that is made by macros, if it does not stand there
abbrev pub named : ℕ → Place → State → Directive → Option Name → Outcome Step
named depth place s d (Some name) = within depth place s d.line name
named depth place s d None = named_by_macros depth place s d

abbrev pub and_no_file : Outcome State → Outcome Step
and_no_file o = after o (λ s. Ok (s, None))

abbrev pub by_word : Word → ℕ → Place → State → Directive → Outcome Step
by_word word.Text depth place s d = and_no_file (text_done place s d.tokens)
by_word word.Null depth place s d = Ok (s, None)
by_word word.Define depth place s d = and_no_file (defining place s d.line (defined s.env.table d.tokens))
by_word word.Undef depth place s d = and_no_file (undefining place s d.line (only_name d.tokens))
by_word word.Include depth place s d = named depth place s d (header_name d.tokens)
by_word word.Pragma depth place s d = refuse (x.X9 (codes "pragma")) place.name d.line
by_word word.Line depth place s d = refuse (x.X9 (codes "line")) place.name d.line
by_word _ depth place s d = refuse x.X2 place.name d.line

-- what a line does that is of no conditional, but for reading a file
abbrev pub simple : ℕ → Place → State → Directive → Outcome Step
simple depth place s d = by_word d.word depth place s d

-- `#ifdef` and `#ifndef`
abbrev pub tests_name : Bool → Place → State → ℕ → Option (List ℕ) → Outcome (State × Bool)
tests_name wanted place s line None = refuse x.X2 place.name line
tests_name wanted place s line (Some name) = Ok (s, if wanted then is_defined s.env name else not (is_defined s.env name))

abbrev pub with_state : State → Outcome Bool → Outcome (State × Bool)
with_state s o = after o (λ b. Ok (s, b))

-- `#if` and `#elif`: macros are replaced behind `defined`
abbrev pub tests_tokens : Place → State → ℕ → List Token → Outcome (State × Bool)
tests_tokens place s line ts = after (expanded place s ts) (λ r. with_state r.0 (told place.name line (verdict r.1)))

abbrev pub tests_value : Place → State → ℕ → Option (List Token) → Outcome (State × Bool)
tests_value place s line None = refuse x.X2 place.name line
tests_value place s line (Some ts) = tests_tokens place s line ts

abbrev pub test_by : Word → Place → State → Directive → Outcome (State × Bool)
test_by word.Ifdef place s d = tests_name true place s d.line (only_name d.tokens)
test_by word.Ifndef place s d = tests_name false place s d.line (only_name d.tokens)
test_by _ place s d = tests_value place s d.line (answered s.env asking.Nothing [] d.tokens)

-- whether a group is read
abbrev pub test : Place → State → Directive → Outcome (State × Bool)
test place s d = test_by d.word place s d

-- the file that is entered from a place
abbrev pub place_of : Place → State → Wanted → Place
place_of place s w = record { name = w.name; number = length s.env.names; top = line_in place w.line }

abbrev pub file_of : Place → State → Wanted → List ℕ → File
file_of place s w text = record { place = place_of place s w; lines = scanned (length s.env.names) text }

-- the state that a file is entered with
abbrev pub entering : State → List ℕ → State
entering s name = with_env (counted s) (with_file s.env name)

abbrev pub entered_with : Place → State → Wanted → List ℕ → Outcome (State × File)
entered_with place s w text = Ok (entering s w.name, file_of place s w text)

abbrev pub header_opened : Place → State → Wanted → Option Header → Outcome (State × Option File)
header_opened place s w None = refuse x.X4 place.name w.line
header_opened place s w (Some h) =
    if is_fresh s.seen h then Ok (with_seen (entering s w.name) h, Some (file_of place s w (added_text s.seen h)))
    else Ok (counted s, None)

-- A file of the folder, or else a built-in header. One that adds nothing is not entered.
abbrev pub opened : Place → State → Wanted → Option (List ℕ) → Outcome (State × Option File)
opened place s w (Some text) = Ok (entering s w.name, Some (file_of place s w text))
opened place s w None = header_opened place s w (header_named w.name)
