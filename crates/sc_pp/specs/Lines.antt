-- Yardstick: to be compared with what it restates (docs/TRUST.md).
-- The lines of a file: directives, and the text between two of them (ANSI 3.8).
use Rattle.std.specs.Prelude.{ℕ, ◌+◌, ◌-◌, nat_lt, Bool, false, if◌then◌else◌, List, [], ◌∷◌, ◌++◌, Option, Some, None, codes}
use Rattle.std.specs.Str.{bytes_eq}
use Rattle.sc_base.specs.declared.refusal.Refusal.{Refusal}
use Rattle.sc_lex.specs.declared.lexing.Scan.{Scan}
use Rattle.sc_lex.specs.declared.token.Token.{Token}
use Rattle.sc_lex.specs.Tokens.{is_too_long, refusal_in}
use Rattle.sc_macro.specs.Tokens.{is_name, is_newline, is_mark}
use Rattle.sc_pp.specs.declared.line.Word.{Word}
use Rattle.sc_pp.specs.declared.line.Word.TheVariants as word
use Rattle.sc_pp.specs.declared.line.Directive.{Directive}
use Rattle.sc_pp.specs.declared.line.Line.{Line}
use Rattle.sc_pp.specs.declared.line.Line.TheVariants as line
use Rattle.sc_pp.specs.declared.splitter.Splitter.{Splitter}

-- a directive begins with `#`
abbrev pub begins_directive : List Token → Bool
begins_directive [] = false
begins_directive (t ∷ ts) = is_mark 35 t

abbrev pub rare_word : List ℕ → Word
rare_word name =
    if bytes_eq name (codes "error") then word.Error else
    if bytes_eq name (codes "pragma") then word.Pragma else
    if bytes_eq name (codes "line") then word.Line else word.Unknown

abbrev pub other_word : List ℕ → Word
other_word name =
    if bytes_eq name (codes "if") then word.If else
    if bytes_eq name (codes "ifdef") then word.Ifdef else
    if bytes_eq name (codes "ifndef") then word.Ifndef else
    if bytes_eq name (codes "elif") then word.Elif else
    if bytes_eq name (codes "else") then word.Else else
    if bytes_eq name (codes "endif") then word.Endif else rare_word name

abbrev pub word_of : List ℕ → Word
word_of name =
    if bytes_eq name (codes "define") then word.Define else
    if bytes_eq name (codes "undef") then word.Undef else
    if bytes_eq name (codes "include") then word.Include else other_word name

abbrev pub entry : Word → ℕ → List Token → Directive
entry w number ts = record { word = w; line = number; tokens = ts }

-- a directive in its place: one of a conditional, or another one
abbrev pub placed : Word → ℕ → List Token → Line
placed word.If number ts = line.If (entry word.If number ts) false
placed word.Ifdef number ts = line.If (entry word.Ifdef number ts) false
placed word.Ifndef number ts = line.If (entry word.Ifndef number ts) false
placed word.Elif number ts = line.Elif (entry word.Elif number ts)
placed word.Else number ts = line.Else (entry word.Else number ts)
placed word.Endif number ts = line.Endif (entry word.Endif number ts)
placed w number ts = line.Plain (entry w number ts)

-- a line that begins with `#`
abbrev pub directive : List Token → Line
directive [] = line.Plain (entry word.Null 0 [])
directive (t ∷ []) = line.Plain (entry word.Null t.line [])
directive (t ∷ u ∷ ts) = if is_name u then placed (word_of u.text) t.line ts else line.Plain (entry word.Unknown t.line ts)

abbrev pub text : List Token → Line
text ts = line.Plain (entry word.Text 0 ts)

-- the tokens before the first identifier that is too long
abbrev pub front : List Token → List Token
front [] = []
front (t ∷ ts) = if is_too_long t then [] else t ∷ front ts

abbrev pub ended_whole : Splitter → Splitter
ended_whole s =
    if begins_directive s.line then record { lines = directive s.line ∷ text s.run ∷ s.lines; run = []; line = [] }
    else record { lines = s.lines; run = s.run ++ s.line; line = [] }

-- The lexer refuses what stands on this line: text is read up to there, and a directive is not carried out. It stays among
-- the lines, since it may open or close a conditional.
abbrev pub ended_broken : Refusal → Splitter → Splitter
ended_broken r s =
    if begins_directive s.line then record { lines = directive s.line ∷ line.Broken r ∷ text s.run ∷ s.lines; run = []; line = [] }
    else record { lines = line.Broken r ∷ text (s.run ++ front s.line) ∷ s.lines; run = []; line = [] }

-- A line ends: a directive ends the text before it, and all other lines are text. The lines so far stand there with the
-- last first.
abbrev pub ended : Option Refusal → Splitter → Splitter
ended None s = ended_whole s
ended (Some r) s = ended_broken r s

-- a line ends behind which a comment may be open
abbrev pub end_line : Option ℕ → Splitter → Splitter
end_line unclosed s = ended (refusal_in s.line unclosed) s

abbrev pub with_token : Splitter → Token → Splitter
with_token s t = record { lines = s.lines; run = s.run; line = s.line ++ t ∷ [] }

abbrev pub broken_off : Splitter → Token → Splitter
broken_off s t = record { lines = s.lines; run = s.run ++ t ∷ []; line = s.line }

abbrev pub taken : Splitter → Token → Splitter
taken s t = if is_newline t then broken_off (end_line None s) t else with_token s t

abbrev pub split : Splitter → List Token → Splitter
split s [] = s
split s (t ∷ ts) = split (taken s t) ts

abbrev pub start : Splitter
start = record { lines = []; run = []; line = [] }

abbrev pub finished : Splitter → List Line
finished s = text s.run ∷ s.lines

-- The lines of a file, the last first. What the lexer refuses stands at its place among them, and nothing behind it is read.
abbrev pub lines_of : Scan → List Line
lines_of c = finished (end_line c.unclosed (split start c.tokens))

-- how many `#endif` close nothing yet, with one line more before them
abbrev pub unmatched : ℕ → Line → ℕ
unmatched n (line.If d c) = n - 1
unmatched n (line.Endif d) = n + 1
unmatched n _ = n

-- an `#if` is closed where an `#endif` behind it is left for it
abbrev pub matched : ℕ → Line → Line
matched n (line.If d c) = line.If d (nat_lt 0 n)
matched n u = u

-- The lines in their order, from the last to the first: those that are done, and the number of `#endif` that close nothing yet.
abbrev pub matching : ℕ → List Line → List Line → List Line
matching n done [] = done
matching n done (u ∷ us) = matching (unmatched n u) (matched n u ∷ done) us
