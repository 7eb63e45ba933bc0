-- Yardstick: to be compared with what it restates (docs/TRUST.md).
-- What a line asks for.
use Rattle.std.specs.Prelude.{◌≡◌, ℕ, Bool, true, false, ◌&&◌, List, [], ◌∷◌, length, if◌then◌else◌, ◌==◌, nat_le, codes, Option, Some, None}
use Rattle.std.specs.Option.{option_map_or}
use Rattle.std.specs.Str.{bytes_eq}
use Rattle.sc_base.specs.declared.memory.Form.{Form}
use Rattle.sc_base.specs.declared.memory.Form.TheVariants as form
use Rattle.sc_words.specs.Lines.{words_of, behind_word}
use Rattle.sc_words.specs.Parts.{is_module_name, is_identifier, is_file_name, is_numeral, number_of, parts_of}
use Rattle.sc_words.specs.declared.stop.StopAt.TheVariants.{InFun, AtLine}
use Rattle.sc_words.specs.declared.verb.Verb.{Verb}
use Rattle.sc_words.specs.declared.verb.Verb.TheVariants as verb
use Rattle.sc_words.specs.declared.command.Command.{Command}
use Rattle.sc_words.specs.declared.command.Command.TheVariants as command

-- the commands by their first words
abbrev pub verb_of : List ℕ → Option Verb
verb_of word =
    if bytes_eq word (codes "load") then Some verb.Load
    else (if bytes_eq word (codes "unload") then Some verb.Unload
    else (if bytes_eq word (codes "swap") then Some verb.Swap
    else (if bytes_eq word (codes "edit") then Some verb.Edit
    else (if bytes_eq word (codes "compile") then Some verb.Compile
    else (if bytes_eq word (codes "run") then Some verb.Run
    else (if bytes_eq word (codes "stop") then Some verb.Stop
    else (if bytes_eq word (codes "delete") then Some verb.Delete
    else (if bytes_eq word (codes "step") then Some verb.Step
    else (if bytes_eq word (codes "next") then Some verb.Next
    else (if bytes_eq word (codes "cont") then Some verb.Cont
    else (if bytes_eq word (codes "stepi") then Some verb.StepOne
    else (if bytes_eq word (codes "where") then Some verb.Where
    else (if bytes_eq word (codes "print") then Some verb.Print
    else (if bytes_eq word (codes "list") then Some verb.List
    else (if bytes_eq word (codes "machine") then Some verb.Machine
    else (if bytes_eq word (codes "disas") then Some verb.Disas
    else (if bytes_eq word (codes "xref") then Some verb.Xref
    else (if bytes_eq word (codes "whatis") then Some verb.Whatis
    else (if bytes_eq word (codes "eval") then Some verb.Eval
    else (if bytes_eq word (codes "report") then Some verb.Report
    else (if bytes_eq word (codes "drop") then Some verb.Drop
    else (if bytes_eq word (codes "reset") then Some verb.Reset
    else (if bytes_eq word (codes "quit") then Some verb.Quit else None)))))))))))))))))))))))

-- ---- the further words

-- there are none
abbrev pub alone : Command → List (List ℕ) → Command
alone asked [] = asked
alone asked (word ∷ words) = command.BadArguments

abbrev pub load_of : List (List ℕ) → Command
load_of (name ∷ []) = if is_module_name name then command.Load name else command.BadArguments
load_of _ = command.BadArguments

abbrev pub unload_of : List (List ℕ) → Command
unload_of (name ∷ []) = if is_module_name name then command.Unload name else command.BadArguments
unload_of _ = command.BadArguments

-- the form that a word names
abbrev pub form_of : List ℕ → Option Form
form_of word = if bytes_eq word (codes "source") then Some form.Source else (if bytes_eq word (codes "object") then Some form.Object else None)

abbrev pub swap_to : List ℕ → Option Form → Command
swap_to name None = command.BadArguments
swap_to name (Some form) = command.Swap name form

-- the word for the text of the second compiler
abbrev pub is_fast : List ℕ → Bool
is_fast word = bytes_eq word (codes "fast")

abbrev pub swap_by : List ℕ → List ℕ → Command
swap_by name word = if is_fast word then command.SwapFast name else swap_to name (form_of word)

abbrev pub swap_of : List (List ℕ) → Command
swap_of (name ∷ word ∷ []) = if is_module_name name then swap_by name word else command.BadArguments
swap_of _ = command.BadArguments

abbrev pub edit_of : List (List ℕ) → Command
edit_of (name ∷ []) = if is_module_name name then command.Edit name None else command.BadArguments
edit_of (name ∷ file ∷ []) =
    if is_module_name name && is_file_name file then command.Edit name (Some file) else command.BadArguments
edit_of _ = command.BadArguments

abbrev pub compile_of : List (List ℕ) → Command
compile_of (name ∷ []) = if is_module_name name then command.Compile name else command.BadArguments
compile_of (name ∷ word ∷ []) =
    if is_module_name name && is_fast word then command.CompileFast name else command.BadArguments
compile_of _ = command.BadArguments

abbrev pub run_of : List (List ℕ) → Command
run_of [] = command.Run None
run_of (file ∷ []) = if is_file_name file then command.Run (Some file) else command.BadArguments
run_of _ = command.BadArguments

-- a function, or a module and a function that it defines, with a colon between them
abbrev pub function_of : List ℕ → Option (List ℕ × List ℕ) → Option (Option (List ℕ) × List ℕ)
function_of place None = if is_identifier place then Some (None, place) else None
function_of place (Some parts) =
    if is_module_name parts.0 && is_identifier parts.1 then Some (Some parts.0, parts.1) else None

abbrev pub in_function : Option (Option (List ℕ) × List ℕ) → Command
in_function None = command.BadArguments
in_function (Some f) = command.Stop (InFun f.0 f.1)

-- a module and a line, with a colon between them
abbrev pub at_line : Option (List ℕ × List ℕ) → Command
at_line None = command.BadArguments
at_line (Some parts) =
    if is_module_name parts.0 && is_numeral 9 parts.1 then command.Stop (AtLine parts.0 (number_of parts.1))
    else command.BadArguments

abbrev pub stop_of : List (List ℕ) → Command
stop_of (how ∷ place ∷ []) =
    if bytes_eq how (codes "in") then in_function (function_of place (parts_of place))
    else (if bytes_eq how (codes "at") then at_line (parts_of place) else command.BadArguments)
stop_of _ = command.BadArguments

-- a number alone
abbrev pub number_alone : List (List ℕ) → Option ℕ
number_alone (number ∷ []) = if is_numeral 9 number then Some (number_of number) else None
number_alone _ = None

abbrev pub delete_of : List (List ℕ) → Command
delete_of words = option_map_or (λ number. command.Delete number) (number_alone words) command.BadArguments

abbrev pub report_of : List (List ℕ) → Command
report_of words = option_map_or (λ number. command.Report number) (number_alone words) command.BadArguments

abbrev pub drop_of : List (List ℕ) → Command
drop_of words = option_map_or (λ number. command.Drop number) (number_alone words) command.BadArguments

-- an identifier alone
abbrev pub name_alone : List (List ℕ) → Option (List ℕ)
name_alone (name ∷ []) = if is_identifier name then Some name else None
name_alone _ = None

abbrev pub print_of : List (List ℕ) → Command
print_of words = option_map_or (λ name. command.Print name) (name_alone words) command.BadArguments

abbrev pub xref_of : List (List ℕ) → Command
xref_of words = option_map_or (λ name. command.Xref name) (name_alone words) command.BadArguments

abbrev pub whatis_of : List (List ℕ) → Command
whatis_of words = option_map_or (λ name. command.Whatis name) (name_alone words) command.BadArguments

abbrev pub code_of : Option (Option (List ℕ) × List ℕ) → Command
code_of None = command.BadArguments
code_of (Some f) = command.Disas f.0 f.1

abbrev pub disas_of : List (List ℕ) → Command
disas_of (place ∷ []) = code_of (function_of place (parts_of place))
disas_of _ = command.BadArguments

-- a module, and the text of an expression, which has words
abbrev pub eval_in : List (List ℕ) → List ℕ → Command
eval_in (name ∷ word ∷ words) text = if is_module_name name then command.Eval name text else command.BadArguments
eval_in _ text = command.BadArguments

abbrev pub eval_of : List ℕ → Command
eval_of rest = eval_in (words_of rest) (behind_word rest)

-- ---- the whole line

-- a command by its first word and what stands behind that

abbrev pub command_by : Verb → List ℕ → Command
command_by verb.Load rest = load_of (words_of rest)
command_by verb.Unload rest = unload_of (words_of rest)
command_by verb.Swap rest = swap_of (words_of rest)
command_by verb.Edit rest = edit_of (words_of rest)
command_by verb.Compile rest = compile_of (words_of rest)
command_by verb.Run rest = run_of (words_of rest)
command_by verb.Stop rest = stop_of (words_of rest)
command_by verb.Delete rest = delete_of (words_of rest)
command_by verb.Step rest = alone command.Step (words_of rest)
command_by verb.Next rest = alone command.Next (words_of rest)
command_by verb.Cont rest = alone command.Cont (words_of rest)
command_by verb.StepOne rest = alone command.StepOne (words_of rest)
command_by verb.Where rest = alone command.Frames (words_of rest)
command_by verb.Print rest = print_of (words_of rest)
command_by verb.List rest = alone command.List (words_of rest)
command_by verb.Machine rest = alone command.Machine (words_of rest)
command_by verb.Disas rest = disas_of (words_of rest)
command_by verb.Xref rest = xref_of (words_of rest)
command_by verb.Whatis rest = whatis_of (words_of rest)
command_by verb.Eval rest = eval_of rest
command_by verb.Report rest = report_of (words_of rest)
command_by verb.Drop rest = drop_of (words_of rest)
command_by verb.Reset rest = alone command.Reset (words_of rest)
command_by verb.Quit rest = alone command.Quit (words_of rest)

-- the first word is no command; or the line has more than 1,024 bytes
abbrev pub asked : Bool → Option Verb → List ℕ → Command
asked fits None rest = command.Unknown
asked false (Some v) rest = command.BadArguments
asked true (Some v) rest = command_by v rest

-- a word that begins a comment
abbrev pub is_comment : List ℕ → Bool
is_comment [] = false
is_comment (b ∷ bytes) = b == 35

-- a line without words, or whose first word begins with `#`, asks for nothing
abbrev pub command_of_words : Bool → List (List ℕ) → List ℕ → Command
command_of_words fits [] rest = command.Nothing
command_of_words fits (word ∷ words) rest =
    if is_comment word then command.Nothing else asked fits (verb_of word) rest

abbrev pub command_of : List ℕ → Command
command_of line = command_of_words (nat_le (length line) 1024) (words_of line) (behind_word line)

-- ---- what is known of a command

abbrev pub IsFile : Option (List ℕ) → Type 0
IsFile None = Unit {0}
IsFile (Some file) = is_file_name file ≡ true

-- its module is a module's name, and its file a file's
abbrev pub IsNamed : Command → Type 0
IsNamed (command.Load name) = is_module_name name ≡ true
IsNamed (command.Unload name) = is_module_name name ≡ true
IsNamed (command.Swap name form) = is_module_name name ≡ true
IsNamed (command.SwapFast name) = is_module_name name ≡ true
IsNamed (command.Edit name file) = (is_module_name name ≡ true) × IsFile file
IsNamed (command.Compile name) = is_module_name name ≡ true
IsNamed (command.CompileFast name) = is_module_name name ≡ true
IsNamed (command.Eval name text) = is_module_name name ≡ true
IsNamed (command.Run file) = IsFile file
IsNamed _ = Unit {0}

-- only a line without an answer asks for nothing
abbrev pub IsAnswered : Command → Type 0
IsAnswered command.Nothing = ⊥
IsAnswered _ = Unit {0}
