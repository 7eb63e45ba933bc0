-- Yardstick: to be compared with what it restates (docs/TRUST.md).
-- Declarations at file scope (ANSI 3.7).
use Rattle.std.specs.Prelude.{ℕ, nat_lt, Bool, true, false, ◌&&◌, if◌then◌else◌, List, [], ◌∷◌, length, slice_get, slice_set, Option, Some, None, is_none, Ok}
use Rattle.sc_tree.specs.Storages.{is_typedef}
use Rattle.sc_tree.specs.declared.expression.Storage.{Storage}
use Rattle.sc_tree.specs.declared.expression.Storage.TheVariants as s
use Rattle.sc_tree.specs.declared.expression.Identifier.{Identifier}
use Rattle.sc_tree.specs.declared.declaration.Declaration.{Declaration}
use Rattle.sc_tree.specs.declared.declaration.InitDeclarator.{InitDeclarator}
use Rattle.sc_tree.specs.declared.declaration.Initializer.{Initializer}
use Rattle.sc_types.specs.declared.ctype.CType.{CType}
use Rattle.sc_types.specs.declared.ctype.CType.TheVariants as t
use Rattle.sc_core.specs.declared.module.Init.{Init}
use Rattle.sc_check_operand.specs.Types.{is_function}
use Rattle.sc_check_declare.specs.declared.derivation.DeclaredType.{DeclaredType}
use Rattle.sc_check_declare.specs.declared.storage.Place.TheVariants as place
use Rattle.sc_check_declare.specs.Storages.{may_stand}
use Rattle.sc_check_linkage.specs.declared.births.Birth.TheVariants as birth
use Rattle.sc_check_linkage.specs.declared.link.Declaration.{Declaration as Linked}
use Rattle.sc_check_linkage.specs.declared.link.Link.{Link}
use Rattle.sc_check_linkage.specs.Linkage as linkage
use Rattle.sc_check_expr.specs.Typed.{specifying}
use Rattle.sc_check_initial.specs.Whole.{static}
use Rattle.sc_check_body.specs.declared.progress.Translation.{Translation}
use Rattle.sc_check_body.specs.Faults.{Checked, and_then, within, rule}
use Rattle.sc_check_body.specs.Progress.{Translating, in_scope, note}
use Rattle.sc_check_body.specs.Alone.{declare_alone, declarator_type}
use Rattle.sc_check_body.specs.Linked.{link, name_link, name_type, no_initializer}
use Rattle.sc_check.specs.Steps.{in_links}

-- ---- objects with linkage (3.7.2)

abbrev pub type_by : Option Link → CType
type_by None = t.Void false
type_by (Some l) = l.of

-- the composite type of the declarations of a name so far
abbrev pub type_so_far : ℕ → Translation → CType
type_so_far at x = type_by (slice_get x.links at)

-- the contents of the object in a place
abbrev pub with_contents : ℕ → List Init → Translation → Translation
with_contents at init x = if nat_lt at (length x.contents) then record x { contents = slice_set x.contents at (Some init) } else x

abbrev pub static_contents : ℕ → Initializer → Translating (CType × List Init)
static_contents at given x = in_scope (λ s. within (static x.home (type_so_far at x) given s)) x

-- The object gets the type of its initialiser too, and is born here.
abbrev pub initialized : ℕ → ℕ → Linked → Initializer → Translating (Unit {0})
initialized at number d given x =
    and_then (static_contents at given x) (λ r.
    and_then (in_links (linkage.change (linkage.initialize d.line number r.0.0) at) r.1) (λ y. Ok (tt, name_link at d.name (with_contents at r.0.1 y.1))))

abbrev pub given_by : ℕ → ℕ → Linked → Option Initializer → Translating (Unit {0})
given_by at number d None x = Ok (tt, x)
given_by at number d (Some given) x = initialized at number d given x

abbrev pub defined_in : ℕ → Linked → Option Initializer → ℕ × Translation → Checked (Unit {0} × Translation)
defined_in at d given n = and_then (in_links (linkage.change (linkage.define d.line n.0) at) n.1) (λ r. given_by at n.0 d given r.1)

-- the place of its declarator in the order of births
abbrev pub note_object : ℕ → Translation → ℕ × Translation
note_object at x = note (birth.Object at) x

-- a declarator that defines an object, tentatively or with its initialiser
abbrev pub defined : ℕ → Linked → Option Initializer → Translating (Unit {0})
defined at d given x = defined_in at d given (note_object at x)

abbrev pub is_extern : Option Storage → Bool
is_extern (Some s.Extern) = true
is_extern _ = false

-- A function has no initialiser; `extern` defines an object only with one.
abbrev pub object : ℕ → Linked → Option Initializer → Translating (Unit {0})
object at d given x =
    if is_function d.of then no_initializer d.line given x
    else (if is_extern d.storage && is_none given then Ok (tt, x) else defined at d given x)

abbrev pub linked : Linked → Option Initializer → Translating (Unit {0})
linked d given x = and_then (link d x) (λ r. object r.0 d given (name_link r.0 d.name r.1))

-- ---- declarators

-- a name for a type (3.5.6)
abbrev pub named_type : ℕ → List ℕ → DeclaredType → Option Initializer → Translating (Unit {0})
named_type line name of given x = and_then (name_type line name of x) (λ r. no_initializer line given r.1)

abbrev pub with_linkage : ℕ → Option Storage → Identifier → CType → Linked
with_linkage line class id of = record { name = id.name; of = of; storage = class; line = line; name_line = id.line }

abbrev pub allowed : Option Storage → ℕ → Identifier → DeclaredType → Option Initializer → Translating (Unit {0})
allowed class line id of given x = if is_typedef class then named_type line id.name of given x else linked (with_linkage line class id of.of) given x

-- A name at file scope is neither `auto` nor `register` (3.7).
abbrev pub named : Option Storage → ℕ → Identifier → DeclaredType → Option Initializer → Translating (Unit {0})
named class line id of given x = if may_stand place.File class then allowed class line id of given x else rule line

abbrev pub declared_by : Option Identifier → Option Storage → ℕ → DeclaredType → Option Initializer → Translating (Unit {0})
declared_by None class line of given x = rule line
declared_by (Some id) class line of given x = named class line id of given x

abbrev pub declared : Option Storage → InitDeclarator → DeclaredType → Translating (Unit {0})
declared class d of x = declared_by d.declarator.identifier class d.line of d.initializer x

abbrev pub one_declarator : Option Storage → DeclaredType → InitDeclarator → Translating (Unit {0})
one_declarator class base d x = and_then (in_scope (λ s. within (declarator_type base d.declarator s)) x) (λ r. declared class d r.0 r.1)

-- from the first
abbrev pub declarators : Option Storage → DeclaredType → List InitDeclarator → Translating (Unit {0})
declarators class base [] x = Ok (tt, x)
declarators class base (d ∷ ds) x = and_then (one_declarator class base d x) (λ r. declarators class base ds r.1)

abbrev pub listed : Declaration → Translating (Unit {0})
listed d x = and_then (in_scope (λ s. within (specifying d.specifiers s)) x) (λ r. declarators d.specifiers.storage r.0 d.declarators r.1)

abbrev pub alone : Declaration → Translating (Unit {0})
alone d x = in_scope (declare_alone place.File d) x

abbrev pub declaration_by : List InitDeclarator → Declaration → Translating (Unit {0})
declaration_by [] d x = alone d x
declaration_by (i ∷ is) d x = listed d x

-- a declaration at file scope; without a declarator it declares a tag or enumeration constants
abbrev pub declaration : Declaration → Translating (Unit {0})
declaration d x = declaration_by d.declarators d x
