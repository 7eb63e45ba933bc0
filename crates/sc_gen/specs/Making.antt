-- Inside: plumbing, a representation, an invariant or a promise beside the claim (docs/TRUST.md).
-- How the sections of an object are put together.
use Rattle.std.specs.Prelude.{◌≡◌, ℕ, List, [], ◌∷◌, ◌++◌, map, None}
use Rattle.sc_core.specs.declared.module.Core.{Core}
use Rattle.sc_core.specs.declared.module.Fun.{Fun}
use Rattle.sc_object.specs.declared.object.Object.{Object}
use Rattle.sc_object.specs.declared.object.Section.{Section}
use Rattle.sc_gen_code.specs.Code.{Code}
use Rattle.sc_gen.specs.declared.definitions.Definition.{Definition}
use Rattle.sc_gen.specs.declared.module.Making.{Making}
use Rattle.sc_gen.specs.Sections.{function_section, text_section, data_sections}
use Rattle.sc_gen.specs.Definitions.{function_definition, text_definition, key_of, data_definitions}
use Rattle.sc_gen.specs.Limits.{first_long}
use Rattle.sc_gen.specs.Objects.{object_by}

abbrev pub nothing : Making
nothing = record { sections = []; definitions = [] }

-- sections more, with what they define
pub record PutsAll (ss : List Section) (ds : List Definition) (old new : Making) : Type 0 where
  pub sections_are : new.sections ≡ old.sections ++ ss
  pub definitions_are : new.definitions ≡ old.definitions ++ ds

abbrev pub Puts : Section → Definition → Making → Making → Type 0
Puts s d old new = PutsAll (s ∷ []) (d ∷ []) old new

-- the text of a function
abbrev pub PutsText : List ℕ → Fun → Code → Making → Making → Type 0
PutsText home f text old new = Puts (text_section f.name text) (text_definition (key_of home f) text) old new

-- the objects and the literals of a module
abbrev pub PutsData : Core → Making → Making → Type 0
PutsData core old new = PutsAll (data_sections core) (data_definitions core) old new

-- the texts of a module, none of which is too long
pub record HasTexts (code : Fun → Code) (core : Core) (all : Making) : Type 0 where
  pub short : first_long code core.funs ≡ None
  pub sections_are : all.sections ≡ map (function_section code) core.funs
  pub definitions_are : all.definitions ≡ map (function_definition code core.name) core.funs

-- the object of which these are the texts
abbrev pub object_with : Core → Making → Object
object_with core texts = object_by core (texts.sections ++ data_sections core) (texts.definitions ++ data_definitions core)
