-- Yardstick: to be compared with what it restates (docs/TRUST.md).
-- The texts of answers.
use Rattle.std.specs.Prelude.{ℕ, Bool, true, false, List, [], ◌++◌, codes, decimal, Option, Some, None}
use Rattle.sc_base.specs.declared.memory.Form.{Form}
use Rattle.sc_base.specs.declared.memory.Form.TheVariants as form
use Rattle.sc_base.specs.declared.refusal.X.{X}
use Rattle.sc_base.specs.declared.refusal.X.TheVariants as x
use Rattle.sc_base.specs.declared.refusal.Refusal.{Refusal}
use Rattle.sc_words.specs.declared.stop.StopAt.{StopAt}
use Rattle.sc_words.specs.declared.stop.StopAt.TheVariants.{InFun, AtLine}
use Rattle.sc_words.specs.declared.denied.Area.{Area}
use Rattle.sc_words.specs.declared.denied.Area.TheVariants as area
use Rattle.sc_words.specs.declared.denied.Denied.{Denied}
use Rattle.sc_words.specs.declared.denied.Denied.TheVariants as denied
use Rattle.sc_words.specs.declared.answer.Answer.{Answer}
use Rattle.sc_words.specs.declared.answer.Answer.TheVariants as answer

-- a function, behind the module that defines it where one is named
abbrev pub fun_text : Option (List ℕ) → List ℕ → List ℕ
fun_text None fun = fun
fun_text (Some name) fun = name ++ codes ":" ++ fun

-- the kind of a refusal, with its word
abbrev pub kind_text : X → List ℕ
kind_text x.X1 = codes "X1"
kind_text x.X2 = codes "X2"
kind_text x.X3 = codes "X3"
kind_text x.X4 = codes "X4"
kind_text x.X5 = codes "X5"
kind_text x.X6 = codes "X6"
kind_text x.X7 = codes "X7"
kind_text x.X8 = codes "X8"
kind_text (x.X9 word) = codes "X9 " ++ word
kind_text (x.X10 word) = codes "X10 " ++ word

abbrev pub refusal_text : Refusal → List ℕ
refusal_text r = codes "C5 " ++ kind_text r.kind ++ codes " " ++ r.file ++ codes ":" ++ decimal r.line

abbrev pub area_text : Area → List ℕ
area_text area.Modules = codes "C14 modules"
area_text area.Stubs = codes "C14 stubs"
area_text area.Text = codes "C14 text"
area_text area.Static = codes "C14 static"

-- a file that is an object of the first version
abbrev pub version_text : Bool → List ℕ
version_text true = codes " version 1"
version_text false = []

abbrev pub denied_text : Denied → List ℕ
denied_text denied.UnknownCommand = codes "C1"
denied_text denied.BadArguments = codes "C2"
denied_text denied.NoModule = codes "C3"
denied_text denied.ModuleThere = codes "C4"
denied_text (denied.Translation r) = refusal_text r
denied_text (denied.Doubled name other) = codes "C6 " ++ name ++ codes " " ++ other
denied_text (denied.Clash name other) = codes "C7 " ++ name ++ codes " " ++ other
denied_text (denied.NoFile file) = codes "C8 " ++ file
denied_text (denied.NotOurs at first) = codes "C9 " ++ decimal at ++ version_text first
denied_text denied.RunActive = codes "C10"
denied_text denied.NoRun = codes "C11"
denied_text denied.NotAtStop = codes "C12"
denied_text denied.NoMain = codes "C13"
denied_text (denied.Space a) = area_text a
denied_text (denied.FileFault file) = codes "C15 " ++ file
denied_text (denied.NotVisible name) = codes "C16 " ++ name
denied_text (denied.NoProbe number) = codes "C17 " ++ decimal number
denied_text (denied.NoStop number) = codes "C18 " ++ decimal number
denied_text (denied.TooLong file) = codes "C19 " ++ file
denied_text denied.NotObject = codes "C20"
denied_text (denied.NoText name fun) = codes "C21 " ++ fun_text name fun
denied_text (denied.NotDeclared name) = codes "C22 " ++ name

abbrev pub form_text : Form → List ℕ
form_text form.Source = codes " source"
form_text form.Object = codes " object"

-- where a stop is
abbrev pub stop_text : StopAt → List ℕ
stop_text (InFun name fun) = codes " in " ++ fun_text name fun
stop_text (AtLine name line) = codes " at " ++ name ++ codes ":" ++ decimal line

abbrev pub text_of : Answer → List ℕ
text_of answer.Silent = []
text_of (answer.Loaded name) = codes "> loaded " ++ name ++ codes "\n"
text_of (answer.Unloaded name) = codes "> unloaded " ++ name ++ codes "\n"
text_of (answer.Swapped name form) = codes "> " ++ (name ++ form_text form) ++ codes "\n"
text_of (answer.SwappedFast name) = codes "> " ++ (name ++ codes " fast") ++ codes "\n"
text_of (answer.Edited name) = codes "> edited " ++ name ++ codes "\n"
text_of (answer.Compiled name) = codes "> compiled " ++ name ++ codes "\n"
text_of (answer.CompiledFast name) = codes "> compiled " ++ (name ++ codes " fast") ++ codes "\n"
text_of (answer.StopSet number place) = codes "> stop " ++ decimal number ++ stop_text place ++ codes "\n"
text_of (answer.Deleted number) = codes "> deleted " ++ decimal number ++ codes "\n"
text_of (answer.Ran text) = text
text_of (answer.Shown lines) = lines
text_of (answer.Reported number text) = codes "> report " ++ decimal number ++ codes "\n" ++ text
text_of (answer.Dropped number) = codes "> dropped " ++ decimal number ++ codes "\n"
text_of answer.Reset = codes "> reset\n"
text_of answer.Bye = codes "> bye\n"
text_of (answer.Refused d) = codes "> refused " ++ denied_text d ++ codes "\n"
text_of answer.NoMemory = codes "> no memory\n"
