-- Yardstick: to be compared with what it restates (docs/TRUST.md).
-- The module that a unit is (ANSI 3.7).
use Rattle.std.specs.Prelude.{ℕ, Bool, true, false, if◌then◌else◌, List, [], ◌∷◌, ◌++◌, length, slice_get, Option, Some, None, Ok}
use Rattle.sc_types.specs.declared.ctype.CType.{CType}
use Rattle.sc_types.specs.declared.ctype.StructDef.{StructDef}
use Rattle.sc_tree.specs.declared.statement.External.{External}
use Rattle.sc_tree.specs.declared.statement.External.TheVariants as e
use Rattle.sc_core.specs.declared.module.Core.{Core}
use Rattle.sc_core.specs.declared.module.Declared.{Declared}
use Rattle.sc_core.specs.declared.module.Init.{Init}
use Rattle.sc_core.specs.declared.module.StaticObj.{StaticObj}
use Rattle.sc_check_declare.specs.Qualifiers.{is_constant}
use Rattle.sc_check_linkage.specs.declared.link.Link.{Link}
use Rattle.sc_check_linkage.specs.declared.link.Definition.{Definition}
use Rattle.sc_check_linkage.specs.declared.link.Definition.TheVariants as d
use Rattle.sc_check_linkage.specs.Linkage.{finish}
use Rattle.sc_check_linkage.specs.Births.{born}
use Rattle.sc_check_initial.specs.Contents.{zeros}
use Rattle.sc_check_body.specs.declared.progress.Translation.{Translation}
use Rattle.sc_check_body.specs.Faults.{Checked, and_then, declaring}
use Rattle.sc_check_body.specs.Progress.{Translating, beginning, note_literals}
use Rattle.sc_check.specs.declared.unit.Ending.{Ending}
use Rattle.sc_check.specs.Files.{declaration}
use Rattle.sc_check.specs.Functions.{definition}

-- ---- the text

abbrev pub external : External → Translating (Unit {0})
external (e.Function f) x = definition f x
external (e.Declaration d) x = declaration d x

-- functions and declarations, from the first
abbrev pub externals : List External → Translating (Unit {0})
externals [] x = Ok (tt, x)
externals (e ∷ es) x = and_then (external e x) (λ r. externals es r.1)

-- what the whole text gives
abbrev pub text : List External → Translating (Unit {0})
text es x = and_then (externals es x) (λ r. Ok (tt, note_literals r.1))

-- ---- its end

-- a name whose definition is that of an object
abbrev pub is_object : Definition → Bool
is_object d.Missing = false
is_object (d.Tentative line number) = true
is_object (d.Initialized line number) = true
is_object d.Body = false

-- contents that are given, or zero bytes (3.5.7)
abbrev pub contents : List StructDef → CType → Option (List Init) → List Init
contents structs of None = zeros structs of
contents structs of (Some init) = init

abbrev pub object : Declared → List Init → StaticObj
object x init = record { key = x.key; of = x.of; constant = is_constant x.of; line = x.line; init = init }

-- the object that a name is, where the unit defines it
abbrev pub object_of : List StructDef → Link → Declared → Option (List Init) → List StaticObj
object_of structs l x given = if is_object l.definition then object x (contents structs x.of given) ∷ [] else []

-- the objects of names with linkage, beside each the contents that its initialiser gives; that of the last name comes first
abbrev pub objects : List StructDef → List (Option (List Init)) → List Link → List Declared → List StaticObj
objects structs [] ls xs = []
objects structs (given ∷ gs) [] xs = []
objects structs (given ∷ gs) (l ∷ ls) [] = []
objects structs (given ∷ gs) (l ∷ ls) (x ∷ xs) = objects structs gs ls xs ++ object_of structs l x given

-- They stand behind those of blocks.
abbrev pub with_objects : List Declared → Translation → Translation
with_objects ds x = record x { objects = x.objects ++ objects x.st.structs x.contents x.links ds; contents = [] }

-- of one name, in the place behind those of which contents are left
abbrev pub object_in : List StructDef → Option Link → Option Declared → Option (List Init) → List StaticObj
object_in structs (Some l) (Some x) given = object_of structs l x given
object_in structs (Some l) None given = []
object_in structs None x given = []

abbrev pub with_given : List Declared → Option (List Init) → Translation → Translation
with_given ds given x = record x {
  objects = x.objects ++ object_in x.st.structs (slice_get x.links (length x.contents)) (slice_get ds (length x.contents)) given;
}

abbrev pub ending : List ℕ → List Declared → Translation → Ending
ending name ds x = record { declared = ds; literals = x.st.literals; births = born name x.st.literals x.links x.noted }

abbrev pub at_end : List ℕ → Translation → Checked (Ending × Translation)
at_end name x = and_then (declaring (finish x.st.structs x.links)) (λ ds. Ok (ending name ds x, with_objects ds x))

abbrev pub assembled : List ℕ → Ending → Translation → Core
assembled name end x = record {
  name = name;
  funs = x.funs;
  objects = x.objects;
  literals = end.literals;
  births = end.births;
  structs = x.st.structs;
  declared = end.declared;
}

abbrev pub whole : List ℕ → List External → Translating Ending
whole name items x = and_then (text items x) (λ r. at_end name r.1)

-- The module with this name that a unit of these functions and declarations is, or the first refusal in the order in which constructs end.
abbrev pub unit_of : List ℕ → List External → Checked Core
unit_of name items = and_then (whole name items (beginning name)) (λ r. Ok (assembled name r.0 r.1))
