-- Yardstick: to be compared with what it restates (docs/TRUST.md).
-- What `xref` and `whatis` show: where the present modules have a name, and of which types it is.
use Rattle.std.specs.Prelude.{◌≡◌, ℕ, ◌++◌, Bool, true, false, if◌then◌else◌, List, [], ◌∷◌}
use Rattle.sc_session_show.specs.References.{found_in, is_declared_in, places_text, type_line}
use Rattle.sc_session_show.specs.declared.references.Found.{Found}
use Rattle.sc_words.specs.declared.answer.Answer.{Answer}
use Rattle.sc_words.specs.declared.answer.Answer.TheVariants as answer
use Rattle.sc_words.specs.declared.denied.Denied.TheVariants as denied
use Rattle.sc_session.specs.declared.present.Present.{Present}
use Rattle.sc_session.specs.Plain.{Plain}

-- ---- places

-- The places of a name: those of each module, in the order in which the modules were loaded, and of a module in the order of its text.
abbrev pub places_named : List ℕ → List Present → List Found
places_named name [] = []
places_named name (p ∷ ps) = found_in name p.text.core.name p.places ++ places_named name ps

-- the answers to `xref`
abbrev pub Locates : Plain → List ℕ → Answer → Type 0
Locates session name (answer.Shown lines) = lines ≡ places_text (places_named name session.modules)
Locates session name answer.NoMemory = Unit {0}
Locates session name _ = ⊥

-- ---- types

-- whether a module declares a function or an object under the name at file scope
abbrev pub declares : List ℕ → Present → Bool
declares name p = is_declared_in p.text.core p.scopes.file name

-- whether some module does
abbrev pub is_declared : List ℕ → List Present → Bool
is_declared name [] = false
is_declared name (p ∷ ps) = if declares name p then true else is_declared name ps

-- a line for each module that does
abbrev pub type_lines : List ℕ → List Present → List ℕ
type_lines name [] = []
type_lines name (p ∷ ps) = type_line p.text.core p.scopes.file name ++ type_lines name ps

-- the answers to `whatis`
abbrev pub Describes : Plain → List ℕ → Answer → Type 0
Describes session name (answer.Shown lines) = (is_declared name session.modules ≡ true) × (lines ≡ type_lines name session.modules)
Describes session name (answer.Refused d) = (is_declared name session.modules ≡ false) × (d ≡ denied.NotDeclared name)
Describes session name answer.NoMemory = Unit {0}
Describes session name _ = ⊥
