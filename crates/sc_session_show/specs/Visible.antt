-- Yardstick: to be compared with what it restates (docs/TRUST.md).
-- What a name stands for in a call: a parameter or an automatic object of an open block, or an object of static storage duration, by
-- the innermost declaration that is in scope (ANSI 3.1.2.1, 3.1.2.2).
use Rattle.std.specs.Prelude.{ℕ, ◌++◌, ◌==◌, Bool, true, false, if◌then◌else◌, List, [], ◌∷◌, take, Option, Some, None, codes, decimal}
use Rattle.std.specs.Str.{bytes_eq}
use Rattle.sc_base.specs.declared.key.Key.{Key}
use Rattle.sc_program.specs.declared.storage.StaticId.{StaticId}
use Rattle.sc_program.specs.declared.storage.StaticId.TheVariants.{Named}
use Rattle.sc_types.specs.declared.ctype.CType.{CType}
use Rattle.sc_types.specs.declared.ctype.StructDef.{StructDef}
use Rattle.sc_types.specs.Compatibility.{compatible}
use Rattle.sc_core.specs.declared.module.Auto.{Auto}
use Rattle.sc_core.specs.declared.module.Declared.{Declared}
use Rattle.sc_core.specs.declared.module.StaticObj.{StaticObj}
use Rattle.sc_core.specs.declared.module.Fun.{Fun}
use Rattle.sc_core.specs.declared.module.Core.{Core}
use Rattle.sc_meaning.specs.World.{World, Frame, Born, named_in, same_id}
use Rattle.sc_meaning.specs.Versions.{Text, Definition, object_in}
use Rattle.sc_core_names.specs.declared.table.DeclaredName.{DeclaredName}
use Rattle.sc_core_names.specs.declared.table.Entity.{Entity}
use Rattle.sc_core_names.specs.declared.table.Entity.TheVariants as entity
use Rattle.sc_core_names.specs.declared.table.FunctionScopes.{FunctionScopes}
use Rattle.sc_core_names.specs.declared.table.Scopes.{Scopes}
use Rattle.sc_core_names.specs.Scopes.{entity_in, function_named, statics_named}
use Rattle.sc_session_show.specs.Lines.{answer_line}
use Rattle.sc_session_show.specs.Frames.{text_numbered, function_in}
use Rattle.sc_session_show.specs.Places.{Place, autos_in, place_in}
use Rattle.sc_session_show.specs.Contents.{object_text}

-- an object that a name stands for, and its type
pub record Local : Type 0 where
  pub object : ℕ
  pub of : CType

-- the same, with the structures of the text that gave the type
pub record Seen : Type 0 where
  pub object : ℕ
  pub of : CType
  pub structs : List StructDef

-- a name with linkage or of a block's own static object, and its type
pub record Linked : Type 0 where
  pub key : Key
  pub of : CType

-- the object of a block that has this name, among those declared and those born
abbrev pub local_in : List ℕ → List Auto → List ℕ → Option Local
local_in name [] ids = None
local_in name (a ∷ autos) [] = None
local_in name (a ∷ autos) (id ∷ ids) = if bytes_eq a.name name then Some (record { object = id; of = a.of }) else local_in name autos ids

-- what is neither a type, a constant nor of static storage duration is an object of its block, or has linkage
abbrev pub local_as : Fun → List ℕ → Born → Entity → Option Local
local_as g name b entity.Declared = local_in name (autos_in g b) b.ids
local_as g name b _ = None

abbrev pub local_of : Fun → List ℕ → Option Place → Option Local
local_of g name None = None
local_of g name (Some p) = local_as g name p.block p.entity

-- `f.x.k` is the object x of f's blocks before which they declare k of this name
abbrev pub own_name : List ℕ → List ℕ → ℕ → List ℕ
own_name function name k = function ++ codes "." ++ name ++ codes "." ++ decimal k

abbrev pub own_static : List ℕ → List StaticObj → Option Linked
own_static own [] = None
own_static own (o ∷ objects) = if bytes_eq o.key.name own then Some (record { key = o.key; of = o.of }) else own_static own objects

-- what the module declares with linkage under a name
abbrev pub declared_static : List ℕ → List Declared → Option Linked
declared_static name [] = None
declared_static name (d ∷ declared) = if bytes_eq d.key.name name then Some (record { key = d.key; of = d.of }) else declared_static name declared

abbrev pub static_of : Core → FunctionScopes → List ℕ → ℕ → Option Linked
static_of core s name block = own_static (own_name s.name name (statics_named name (take block s.blocks))) core.objects

abbrev pub linked_as : Core → FunctionScopes → List ℕ → Born → Entity → Option Linked
linked_as core s name b entity.NoObject = None
linked_as core s name b entity.Static = static_of core s name b.block
linked_as core s name b entity.Declared = declared_static name core.declared

-- at file scope
abbrev pub linked_if : Core → List ℕ → Option Entity → Option Linked
linked_if core name (Some entity.Declared) = declared_static name core.declared
linked_if core name _ = None

-- A name of static storage duration: of a block; else of those that the file declares up to the function's own.
abbrev pub linked_of : Core → List DeclaredName → FunctionScopes → List ℕ → Option Place → Option Linked
linked_of core file s name None = linked_if core name (entity_in (take s.before file) name)
linked_of core file s name (Some p) = linked_as core s name p.block p.entity

abbrev pub is_waiting : List StaticId → StaticId → Bool
is_waiting [] id = false
is_waiting (other ∷ ids) id = if same_id other id then true else is_waiting ids id

abbrev pub born_as : Definition → Option ℕ → Option Seen
born_as d None = None
born_as d (Some o) = Some (record { object = o; of = d.object.of; structs = d.text.core.structs })

-- a present definition of a compatible type
abbrev pub fits : Text → Linked → Definition → Bool
fits t l d = compatible l.of t.core.structs d.object.of d.text.core.structs (t.number == d.text.number)

abbrev pub defined_as : Text → World → Linked → Option Definition → Option Seen
defined_as t w l None = None
defined_as t w l (Some d) = if fits t l d then born_as d (named_in w.names (Named l.key)) else None

-- a static object by its present definition, which no change that waits has to bear first
abbrev pub static_seen : Text → List Text → List StaticId → World → Option Linked → Option Seen
static_seen t present waiting w None = None
static_seen t present waiting w (Some l) = if is_waiting waiting (Named l.key) then None else defined_as t w l (object_in present l.key)

abbrev pub or_static : Text → Option Local → Option Seen → Option Seen
or_static t None later = later
or_static t (Some l) later = Some (record { object = l.object; of = l.of; structs = t.core.structs })

abbrev pub seen_at : List Text → List StaticId → World → List ℕ → Text → Fun → List DeclaredName → FunctionScopes → Option Place → Option Seen
seen_at present waiting w name t g file s p =
    or_static t (local_of g name p) (static_seen t present waiting w (linked_of t.core file s name p))

-- in a call of a function, whose scopes these are
abbrev pub seen_among : List Text → List StaticId → Option ℕ → World → List ℕ → Frame → Text → Fun → List DeclaredName → Option FunctionScopes → Option Seen
seen_among present waiting declaring w name f t g file None = None
seen_among present waiting declaring w name f t g file (Some s) = seen_at present waiting w name t g file s (place_in s g declaring name None f.blocks)

abbrev pub seen_by : List Text → List StaticId → Option ℕ → World → List ℕ → Frame → Text → Fun → Scopes → Option Seen
seen_by present waiting declaring w name f t g scopes =
    seen_among present waiting declaring w name f t g scopes.file (function_named scopes.functions f.key.name)

abbrev pub seen_in_function : List Text → List StaticId → Scopes → Option ℕ → World → List ℕ → Frame → Text → Option Fun → Option Seen
seen_in_function present waiting scopes declaring w name f t None = None
seen_in_function present waiting scopes declaring w name f t (Some g) = seen_by present waiting declaring w name f t g scopes

abbrev pub seen_in_text : List Text → List StaticId → Scopes → Option ℕ → World → List ℕ → Frame → Option Text → Option Seen
seen_in_text present waiting scopes declaring w name f None = None
seen_in_text present waiting scopes declaring w name f (Some t) =
    seen_in_function present waiting scopes declaring w name f t (function_in f (Some t))

-- What a name stands for in the innermost call, by the scopes of the module that it runs; where an object of it is being initialised, it
-- is given.
abbrev pub seen_in : List Text → List Text → List StaticId → Scopes → Option ℕ → World → List ℕ → List Frame → Option Seen
seen_in held present waiting scopes declaring w name [] = None
seen_in held present waiting scopes declaring w name (f ∷ frames) =
    seen_in_text present waiting scopes declaring w name f (text_numbered held f.text)

abbrev pub visible : List Text → List Text → List StaticId → Scopes → Option ℕ → World → List ℕ → Option Seen
visible held present waiting scopes declaring w name = seen_in held present waiting scopes declaring w name w.frames

-- `NAME = VALUE`
abbrev pub print_text : World → List ℕ → Option Seen → Option (List ℕ)
print_text w name None = None
print_text w name (Some s) = Some (answer_line (name ++ codes " = " ++ object_text w s.object s.structs s.of))

abbrev pub print_line : List Text → List Text → List StaticId → Scopes → Option ℕ → World → List ℕ → Option (List ℕ)
print_line held present waiting scopes declaring w name = print_text w name (visible held present waiting scopes declaring w name)

-- the same in a call
abbrev pub print_line_in : List Text → List Text → List StaticId → Scopes → Option ℕ → World → List ℕ → Frame → Option (List ℕ)
print_line_in held present waiting scopes declaring w name f =
    print_text w name (seen_in_text present waiting scopes declaring w name f (text_numbered held f.text))
