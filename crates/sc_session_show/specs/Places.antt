-- Yardstick: to be compared with what it restates (docs/TRUST.md).
-- Where a name is declared that is in scope in a call: in an open block, of which the innermost hides the others, the parameters
-- last; else at file scope (ANSI 3.1.2.1).
use Rattle.std.specs.Prelude.{ℕ, ◌==◌, if◌then◌else◌, List, [], ◌∷◌, slice_index_or, Option, Some, None}
use Rattle.sc_core.specs.declared.module.Auto.{Auto}
use Rattle.sc_core.specs.declared.module.Fun.{Fun}
use Rattle.sc_meaning.specs.World.{Born}
use Rattle.sc_core_names.specs.declared.table.Entity.{Entity}
use Rattle.sc_core_names.specs.declared.table.FunctionScopes.{FunctionScopes}
use Rattle.sc_core_names.specs.Names.{Scope}
use Rattle.sc_core_names.specs.Scopes.{entity_in, entity_until}

-- the objects that a function declares in a block
abbrev pub autos_in : Fun → Born → List Auto
autos_in g b = slice_index_or g.blocks b.block []

-- the name of the object with a number, among the objects of a block that were born
abbrev pub name_in : List Auto → List ℕ → ℕ → Option (List ℕ)
name_in [] ids o = None
name_in (a ∷ autos) [] o = None
name_in (a ∷ autos) (id ∷ ids) o = if id == o then Some a.name else name_in autos ids o

-- the name in a block whose object is being initialised
abbrev pub last_in : List Auto → List ℕ → Option ℕ → Option (List ℕ)
last_in autos ids None = None
last_in autos ids (Some o) = name_in autos ids o

-- what a name is in a scope that has declared its names up to a last one, or all
abbrev pub entity_so_far : Option (List ℕ) → Scope → List ℕ → Option Entity
entity_so_far None scope name = entity_in scope name
entity_so_far (Some last) scope name = entity_until last scope name

-- What a name is in an open block. Where an object of the block is being initialised, its name is the last that is in scope.
abbrev pub entity_of : FunctionScopes → Fun → Option ℕ → List ℕ → Born → Option Entity
entity_of s g declaring name b = entity_so_far (last_in (autos_in g b) b.ids declaring) (slice_index_or s.blocks b.block []) name

-- an open block that declares a name, and as what
pub record Place : Type 0 where
  pub block : Born
  pub entity : Entity

abbrev pub nearer : Born → Option Entity → Option Place → Option Place
nearer b None far = far
nearer b (Some e) far = Some (record { block = b; entity = e })

-- the blocks stand from the outermost in; what a further one declares hides what was found
abbrev pub place_in : FunctionScopes → Fun → Option ℕ → List ℕ → Option Place → List Born → Option Place
place_in s g declaring name found [] = found
place_in s g declaring name found (b ∷ blocks) = place_in s g declaring name (nearer b (entity_of s g declaring name b) found) blocks
