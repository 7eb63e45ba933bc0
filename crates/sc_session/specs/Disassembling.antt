-- Yardstick: to be compared with what it restates (docs/TRUST.md).
-- What `disas` shows: the words of a function's text in the image of the modules.
use Rattle.std.specs.Prelude.{◌≡◌, ◌⊎◌, ℕ, true, if◌then◌else◌, List, [], ◌∷◌, flat_map, Option, Some, None}
use Rattle.std.specs.Option.{option_map, option_or}
use Rattle.std.specs.Str.{bytes_eq}
use Rattle.sc_base.specs.declared.key.Key.{Key}
use Rattle.sc_base.specs.declared.memory.Form.{Form}
use Rattle.sc_base.specs.declared.memory.Form.TheVariants as form
use Rattle.sc_core.specs.declared.module.Core.{Core}
use Rattle.sc_core.specs.declared.module.Fun.{Fun}
use Rattle.sc_core.specs.Modules.{function_of}
use Rattle.sc_isa_image.specs.declared.image.Image.{Image}
use Rattle.sc_isa_image.specs.declared.text.Text.{Text as Code}
use Rattle.sc_isa_image.specs.Lookups.{key_eq}
use Rattle.sc_link.specs.declared.placed.Placed.{Placed}
use Rattle.sc_link.specs.Entries.{texts_if}
use Rattle.sc_link.specs.Linked.{IsLinked}
use Rattle.sc_meaning.specs.Versions.{Text, if_external}
use Rattle.sc_session_forms.specs.Disassembly.{code_lines}
use Rattle.sc_session_show.specs.Listings.{defined_key}
use Rattle.sc_words.specs.declared.answer.Answer.{Answer}
use Rattle.sc_words.specs.declared.answer.Answer.TheVariants as answer
use Rattle.sc_words.specs.declared.denied.Denied.TheVariants as denied
use Rattle.sc_session.specs.declared.linking.ImageFault.{ImageFault}
use Rattle.sc_session.specs.declared.linking.ImageFault.TheVariants as short
use Rattle.sc_session.specs.Modules.{texts}
use Rattle.sc_session.specs.Placing.{IsImageOver, LacksRoomOver, last, placed_over}
use Rattle.sc_session.specs.Plain.{Plain}

-- ---- the function

-- the function that is meant in a module: the external one, or either where the module is named
abbrev pub meant_in : Option (List ℕ) → List ℕ → Core → Option Fun
meant_in None name core = if_external true (function_of name core.funs)
meant_in (Some home) name core = if bytes_eq core.name home then function_of name core.funs else None

-- its key, where the module is in object form
abbrev pub coded_in : Option (List ℕ) → List ℕ → Core → Form → Option Key
coded_in home name core form.Source = None
coded_in home name core form.Object = option_map (defined_key core.name) (meant_in home name core)

-- and among the present modules
abbrev pub coded : Option (List ℕ) → List ℕ → List Text → Option Key
coded home name [] = None
coded home name (t ∷ ts) = option_or (coded_in home name t.core t.form) (coded home name ts)

-- ---- its text

-- the texts of entries that are no former ones
abbrev pub present_if : Placed → List Code
present_if e = if e.retired then [] else texts_if e

abbrev pub present_texts : List Placed → List Code
present_texts es = flat_map present_if es

abbrev pub text_keyed : Key → List Code → Option Code
text_keyed k [] = None
text_keyed k (t ∷ ts) = if key_eq t.at.fun k then Some t else text_keyed k ts

-- its lines in an image
abbrev pub lines_in : Image → Option Code → List ℕ
lines_in i None = []
lines_in i (Some t) = code_lines i t.at.start t.words

-- those of the function with a key, in an image of what is placed
abbrev pub code_text : Image → List Placed → Key → List ℕ
code_text i es k = lines_in i (text_keyed k (present_texts es))

-- ---- the answers

-- its lines in the image of all that is placed; or that has no room
abbrev pub ShowsCode : Plain → Key → Answer → Type 0
ShowsCode session k (answer.Shown lines) =
    (i : Image) × IsImageOver session.past session.modules session.numbers i × (lines ≡ code_text i (placed_over session.past session.modules) k)
ShowsCode session k (answer.Refused (denied.Space a)) = LacksRoomOver session.past session.modules session.numbers a
ShowsCode session k answer.NoMemory = Unit {0}
ShowsCode session k _ = ⊥

-- those of the function that is meant, or that no module in object form defines it
abbrev pub ShowsMeant : Plain → Option (List ℕ) → List ℕ → Option Key → Answer → Type 0
ShowsMeant session home name (Some k) said = ShowsCode session k said
ShowsMeant session home name None said = said ≡ answer.Refused (denied.NoText home name)

-- the answers to `disas`; nothing is said where no memory was left
abbrev pub Disassembles : Plain → Option (List ℕ) → List ℕ → Answer → Type 0
Disassembles session home name said = (said ≡ answer.NoMemory) ⊎ ShowsMeant session home name (coded home name (texts session.modules)) said

-- ---- what the code finds

-- the lines in an image of the last of some lists
abbrev pub ShowsLast : List (List Placed) → List Key → Key → List ℕ → Type 0
ShowsLast all funs k lines = (es : List Placed) × (last all ≡ Some es) × ((i : Image) × IsLinked es funs i × (lines ≡ code_text i es k))

-- what is answered where there is no image
abbrev pub unlinked : ImageFault → Answer
unlinked (short.Space a) = answer.Refused (denied.Space a)
unlinked short.NoMemory = answer.NoMemory
