-- Yardstick: to be compared with what it restates (docs/TRUST.md).
-- The active calls, as they are shown (ANSI 3.1.2.4): each with the line of its last line event, and before the first one
-- with that of the function's name.
use Rattle.std.specs.Prelude.{ℕ, ◌++◌, ◌==◌, if◌then◌else◌, List, [], ◌∷◌, Option, Some, None, codes, decimal}
use Rattle.sc_core.specs.declared.module.Fun.{Fun}
use Rattle.sc_core.specs.Modules.{function_of}
use Rattle.sc_meaning.specs.World.{Frame}
use Rattle.sc_meaning.specs.Versions.{Text}
use Rattle.sc_session_texts.specs.Words.{key_text}
use Rattle.sc_session_show.specs.Lines.{answer_line}

-- the text with a number
abbrev pub text_numbered : List Text → ℕ → Option Text
text_numbered [] n = None
text_numbered (t ∷ ts) n = if t.number == n then Some t else text_numbered ts n

-- the function that a call runs, in the call's text
abbrev pub function_in : Frame → Option Text → Option Fun
function_in f None = None
function_in f (Some t) = function_of f.key.name t.core.funs

abbrev pub name_line : Option Fun → ℕ
name_line None = 0
name_line (Some f) = f.line

-- the line at which a call stands
abbrev pub line_at : List Text → Frame → ℕ
line_at held f = if f.line == 0 then name_line (function_in f (text_numbered held f.text)) else f.line

abbrev pub where_line : List Text → Frame → List ℕ
where_line held f = answer_line (key_text f.key ++ codes " at " ++ f.home ++ codes ":" ++ decimal (line_at held f))

-- the calls in the order in which they are given, the innermost first
abbrev pub where_lines : List Text → List Frame → List ℕ
where_lines held [] = []
where_lines held (f ∷ frames) = where_line held f ++ where_lines held frames
