-- Yardstick: to be compared with what it restates (docs/TRUST.md).
-- The active calls of a run of both forms, as they are shown.
use Rattle.std.specs.Prelude.{ℕ, ◌++◌, ◌==◌, if◌then◌else◌, List, [], ◌∷◌, slice_get, Option, Some, None, codes, decimal}
use Rattle.std.specs.Str.{bytes_eq}
use Rattle.sc_base.specs.declared.memory.Form.{Form}
use Rattle.sc_base.specs.declared.memory.Form.TheVariants as form
use Rattle.sc_meaning.specs.Versions.{Text}
use Rattle.sc_meaning.specs.World.{Frame, Born}
use Rattle.sc_object.specs.declared.object.BlockTable.{BlockTable}
use Rattle.sc_object.specs.declared.object.FrameTable.{FrameTable}
use Rattle.sc_object.specs.declared.object.Object.{Object}
use Rattle.sc_object.specs.declared.object.Symbol.{Symbol}
use Rattle.sc_session_show.specs.Frames.{where_line}
use Rattle.sc_session_show.specs.Lines.{answer_line}
use Rattle.sc_session_texts.specs.Words.{key_text}
use Rattle.sc_session_forms.specs.declared.calls.Compiled.{Compiled}
use Rattle.sc_session_forms.specs.Forms.{is_source}

-- the object of the text with a number
abbrev pub object_numbered : List Compiled → ℕ → Option Object
object_numbered [] n = None
object_numbered (c ∷ compiled) n = if c.number == n then Some c.object else object_numbered compiled n

abbrev pub symbol_name : Option Symbol → List ℕ
symbol_name None = []
symbol_name (Some s) = s.name

-- the frame of the function with a name
abbrev pub frame_named : List Symbol → List FrameTable → List ℕ → Option FrameTable
frame_named symbols [] name = None
frame_named symbols (f ∷ frames) name =
    if bytes_eq (symbol_name (slice_get symbols f.symbol)) name then Some f else frame_named symbols frames name

-- the innermost block that has objects, of those that are entered, outermost first; else the one that was found before
abbrev pub block_or : ℕ → ℕ → List ℕ → ℕ
block_or found block [] = found
block_or found block (id ∷ ids) = block

abbrev pub block_among : ℕ → List Born → ℕ
block_among found [] = found
block_among found (b ∷ blocks) = block_among (block_or found b.block b.ids) blocks

abbrev pub beginning_of : Option BlockTable → ℕ
beginning_of None = 0
beginning_of (Some b) = b.line

-- the line on which a block of a function begins
abbrev pub beginning_in : ℕ → Option FrameTable → ℕ
beginning_in block None = 0
beginning_in block (Some f) = beginning_of (slice_get f.blocks block)

abbrev pub beginning_at : List ℕ → ℕ → Option Object → ℕ
beginning_at name block None = 0
beginning_at name block (Some o) = beginning_in block (frame_named o.symbols o.frames name)

-- the line of the innermost block with objects in which a compiled call stands; of the function's name, where no block has one
abbrev pub block_line : List Compiled → Frame → ℕ
block_line compiled f = beginning_at f.key.name (block_among 0 f.blocks) (object_numbered compiled f.text)

abbrev pub object_line : List Compiled → Frame → List ℕ
object_line compiled f =
    answer_line (key_text f.key ++ codes " in " ++ f.home ++ codes " object block " ++ decimal (block_line compiled f))

abbrev pub call_line : List Text → List Compiled → Frame → Form → List ℕ
call_line held compiled f form.Source = where_line held f
call_line held compiled f form.Object = object_line compiled f

-- the calls in the order in which they are given, the innermost first
abbrev pub call_lines : List Text → List Compiled → List Frame → List ℕ
call_lines held compiled [] = []
call_lines held compiled (f ∷ frames) = call_line held compiled f f.form ++ call_lines held compiled frames

-- the calls from the innermost interpreted one on
abbrev pub source_calls : List Frame → List Frame
source_calls [] = []
source_calls (f ∷ frames) = if is_source f.form then f ∷ frames else source_calls frames
