-- Yardstick: to be compared with what it restates (docs/TRUST.md).
-- The words of a text in an image, as they are shown.
use Rattle.std.specs.Prelude.{ℕ, ◌+◌, ◌%◌, ◌^◌, List, [], ◌∷◌, ◌++◌, Option, Some, None, codes}
use Rattle.sc_disas.specs.Writing.{text_of}
use Rattle.sc_isa.specs.Reading.{instr_of}
use Rattle.sc_isa.specs.declared.instruction.Instr.{Instr}
use Rattle.sc_isa_image.specs.declared.image.Image.{Image}
use Rattle.sc_isa_image.specs.Lookups.{word_at}
use Rattle.sc_session_forms.specs.Halts.{hexadecimal}

-- the text of an instruction; a word that is none has no text
abbrev pub instruction_text : Option Instr → List ℕ
instruction_text None = []
instruction_text (Some i) = codes " " ++ text_of i

-- an address, the word there, and its instruction
abbrev pub code_line : ℕ → ℕ → List ℕ
code_line at w = codes "> " ++ hexadecimal at ++ codes " " ++ hexadecimal w ++ instruction_text (instr_of w) ++ codes "\n"

-- the line of an address
abbrev pub line_at : ℕ → Option ℕ → List ℕ
line_at at None = []
line_at at (Some w) = code_line at w

-- the lines of an image from an address on, one for each word of a text
abbrev pub code_lines : Image → ℕ → List ℕ → List ℕ
code_lines i at [] = []
code_lines i at (w ∷ words) = line_at at (word_at i at) ++ code_lines i ((at + 4) % 2 ^ 32) words
