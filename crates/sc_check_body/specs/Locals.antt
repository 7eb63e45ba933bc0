-- Yardstick: to be compared with what it restates (docs/TRUST.md).
-- Declarations of a block (ANSI 3.5, 3.6.2).
use Rattle.std.specs.Prelude.{ℕ, ◌==◌, Bool, true, false, ◌||◌, if◌then◌else◌, List, [], ◌∷◌, ◌++◌, length, Option, Some, None, is_some, Ok}
use Rattle.sc_base.specs.declared.key.Key.{Key}
use Rattle.sc_types.specs.declared.ctype.CType.{CType, out-CType}
use Rattle.sc_types.specs.declared.ctype.CType.TheOpen.{CType-F}
use Rattle.sc_types.specs.declared.ctype.Signature.{Signature}
use Rattle.sc_types.specs.declared.ctype.StructDef.{StructDef}
use Rattle.sc_tree.specs.Storages.{is_typedef}
use Rattle.sc_tree.specs.declared.declaration.Declaration.{Declaration}
use Rattle.sc_tree.specs.declared.declaration.InitDeclarator.{InitDeclarator}
use Rattle.sc_tree.specs.declared.declaration.Initializer.{Initializer}
use Rattle.sc_tree.specs.declared.expression.Identifier.{Identifier}
use Rattle.sc_tree.specs.declared.expression.Storage.{Storage}
use Rattle.sc_tree.specs.declared.expression.Storage.TheVariants as storage
use Rattle.sc_core.specs.declared.module.Init.{Init}
use Rattle.sc_core.specs.declared.statement.AutoInit.{AutoInit}
use Rattle.sc_core.specs.declared.statement.CoreStmt.TheVariants as statement
use Rattle.sc_check_operand.specs.Types.{is_function, object_size}
use Rattle.sc_check_declare.specs.declared.derivation.DeclaredType.{DeclaredType}
use Rattle.sc_check_declare.specs.declared.storage.Place.TheVariants as place
use Rattle.sc_check_declare.specs.Qualifiers.{is_constant}
use Rattle.sc_check_declare.specs.Storages.{may_stand}
use Rattle.sc_check_linkage.specs.declared.births.Birth.TheVariants as birth
use Rattle.sc_check_linkage.specs.declared.frame.Local.{Local}
use Rattle.sc_check_linkage.specs.declared.link.Declaration.{Declaration as Declared}
use Rattle.sc_check_linkage.specs.Keys.{block_key}
use Rattle.sc_check_scope.specs.declared.state.Meaning.{Meaning}
use Rattle.sc_check_scope.specs.declared.state.Meaning.TheVariants as m
use Rattle.sc_check_scope.specs.declared.state.State.{State}
use Rattle.sc_check_scope.specs.Scopes as scopes
use Rattle.sc_check_expr.specs.Typed.{specifying}
use Rattle.sc_check_initial.specs.Contents.{zeros}
use Rattle.sc_check_initial.specs.Whole as whole
use Rattle.sc_check_body.specs.declared.local.Duration.{Duration}
use Rattle.sc_check_body.specs.declared.local.Duration.TheVariants as duration
use Rattle.sc_check_body.specs.declared.progress.Translation.{Translation}
use Rattle.sc_check_body.specs.declared.progress.Body.{Body}
use Rattle.sc_check_body.specs.declared.progress.OpenBlock.{OpenBlock}
use Rattle.sc_check_body.specs.Faults.{Checked, and_then, keep, each, within, rule}
use Rattle.sc_check_body.specs.Progress.{Translating, in_scope, with_scope, note, count, counted}
use Rattle.sc_check_body.specs.Alone.{declare_alone, declarator_type}
use Rattle.sc_check_body.specs.Linked.{link, name_link, name_type, no_initializer}

-- what is asked of, and may change, the unit, the body and the block that is inner
abbrev pub Opened : Type 0
Opened = Translation × (Body × OpenBlock)

abbrev pub Declaring : Type 0
Declaring = Opened → Checked (Unit {0} × Opened)

-- what asks of the unit alone
abbrev pub in_unit : {A : Type 0} → Translating A → Opened → Checked (A × Opened)
in_unit f w = and_then (f w.0) (λ r. Ok (r.0, (r.1, w.1)))

-- of the unit and the body
abbrev pub in_body : (Translation × Body → Checked (Unit {0} × (Translation × Body))) → Declaring
in_body f w = and_then (f (w.0, w.1.0)) (λ r. Ok (tt, (r.1.0, (r.1.1, w.1.1))))

-- of the unit and the block
abbrev pub in_block : (Translation × OpenBlock → Checked (Unit {0} × (Translation × OpenBlock))) → Declaring
in_block f w = and_then (f (w.0, w.1.1)) (λ r. Ok (tt, (r.1.0, (w.1.0, r.1.1))))

-- ---- storage duration (3.1.2.4, 3.5.1)

abbrev pub duration_by : Option Storage → Duration
duration_by None = duration.Automatic false
duration_by (Some storage.Auto) = duration.Automatic false
duration_by (Some storage.Register) = duration.Automatic true
duration_by (Some storage.Static) = duration.Static
duration_by (Some storage.Extern) = duration.Extern
duration_by (Some storage.Typedef) = duration.Typedef

abbrev pub duration_of : Option Storage → CType → Duration
duration_of class of = if is_function of then duration.Function else duration_by class

abbrev pub may_by : CType-F CType Signature → List StructDef → CType → Bool
may_by (CType-F.Array u n) structs of = n == 0 || is_some (object_size structs of)
may_by _ structs of = is_some (object_size structs of)

-- An object has a complete type; the size of an array may be left to its initialiser.
abbrev pub may_be_object : List StructDef → CType → Bool
may_be_object structs of = may_by (out-CType of) structs of

abbrev pub local_by : ℕ → List ℕ → CType → Option ℕ → Checked Local
local_by line name of (Some size) = Ok (record { name = name; of = of; size = size })
local_by line name of None = rule line

-- an object of a block's table, in its final type
abbrev pub local_of : List StructDef → ℕ → List ℕ → CType → Checked Local
local_of structs line name of = local_by line name of (object_size structs of)

-- one more name in scope, which hides an outer one
abbrev pub naming : List ℕ → Meaning → State → State
naming name meaning s = record s { names = (name, meaning) ∷ s.names }

-- ---- automatic objects

abbrev pub Automatic : Type 0
Automatic = State × OpenBlock

-- the next object of the block
abbrev pub meaning_in : OpenBlock → CType → Bool → Meaning
meaning_in inner of register = m.Automatic of inner.number (length inner.locals) register

abbrev pub with_initializer : ℕ → List AutoInit → OpenBlock → OpenBlock
with_initializer line pieces inner = record inner { initialized = inner.initialized ++ statement.Initialize line inner.number (length inner.locals) pieces ∷ [] }

abbrev pub with_local : Local → OpenBlock → OpenBlock
with_local own inner = record inner { locals = inner.locals ++ own ∷ [] }

-- The initialiser completes the object's type, in which the name stands from then on.
abbrev pub initialized : Declared → Bool → Initializer → Automatic → Checked (CType × Automatic)
initialized x register given w =
    and_then (within (whole.initialized false x.of given w.0)) (λ r. Ok (r.0.0, (naming x.name (meaning_in w.1 r.0.0 register) r.1, with_initializer x.name_line r.0.1 w.1)))

abbrev pub completed : Declared → Bool → Option Initializer → Automatic → Checked (Local × Automatic)
completed x register None w = keep w (local_of w.0.structs x.line x.name x.of)
completed x register (Some given) w = and_then (initialized x register given w) (λ r. keep r.1 (local_of r.1.0.structs x.line x.name r.0))

abbrev pub declare_automatic : Declared → Bool → OpenBlock → State → Checked (Unit {0} × State)
declare_automatic x register inner s = within (scopes.declare x.line x.name (meaning_in inner x.of register) s)

-- The name is in scope in the object's own initialiser (3.1.2.1).
abbrev pub automatic : Declared → Bool → Option Initializer → Automatic → Checked (Unit {0} × Automatic)
automatic x register given w =
    and_then (declare_automatic x register w.1 w.0) (λ r. and_then (completed x register given (r.1, w.1)) (λ c. Ok (tt, (c.1.0, with_local c.0 c.1.1))))

abbrev pub automatic_object : Declared → Bool → Option Initializer → Translation × OpenBlock → Checked (Unit {0} × (Translation × OpenBlock))
automatic_object x register given w =
    if may_be_object w.0.st.structs x.of then and_then (automatic x register given (w.0.st, w.1)) (λ r. Ok (tt, (with_scope r.1.0 w.0, r.1.1))) else rule x.line

-- ---- objects of static storage duration without linkage

-- the key of the next object of this name
abbrev pub key_of : List ℕ → Translation → Body → Key
key_of name u f = block_key u.home f.name name (count name f.counts)

-- a function has one more static object of this name
abbrev pub with_static : List ℕ → Body → Body
with_static name f = record f { counts = counted name f.counts }

abbrev pub born : List ℕ → Body → Translation → Translation
born name f u = (note (birth.Block (key_of name u f)) u).1

-- without an initialiser its bytes are zero (3.5.7)
abbrev pub empty_contents : List StructDef → Declared → Checked (CType × List Init)
empty_contents structs x = if is_some (object_size structs x.of) then Ok (x.of, zeros structs x.of) else rule x.line

-- the type and the bytes of an object
abbrev pub contents : List ℕ → Declared → Option Initializer → State → Checked ((CType × List Init) × State)
contents home x None s = keep s (empty_contents s.structs x)
contents home x (Some given) s = within (whole.static home x.of given s)

abbrev pub with_object : Key → Declared → CType → List Init → Translation → Translation
with_object key x of init u =
    record u { st = naming x.name (m.Static of key) u.st; objects = u.objects ++ record { key = key; of = of; constant = is_constant of; line = x.name_line; init = init } ∷ [] }

abbrev pub declare_static : Declared → Key → State → Checked (Unit {0} × State)
declare_static x key s = within (scopes.declare x.line x.name (m.Static x.of key) s)

abbrev pub static_contents : Key → Declared → Option Initializer → Translating (Unit {0})
static_contents key x given u = and_then (in_scope (contents u.home x given) u) (λ r. Ok (tt, with_object key x r.0.0 r.0.1 r.1))

-- The name is in scope in the object's own initialiser (3.1.2.1).
abbrev pub static_with : Key → Declared → Option Initializer → Translating (Unit {0})
static_with key x given u = and_then (in_scope (declare_static x key) u) (λ r. static_contents key x given r.1)

abbrev pub static_local : Declared → Option Initializer → Translation × Body → Checked (Unit {0} × (Translation × Body))
static_local x given w = and_then (static_with (key_of x.name w.0 w.1) x given (born x.name w.1 w.0)) (λ r. Ok (tt, (r.1, with_static x.name w.1)))

abbrev pub static_object : Declared → Option Initializer → Translation × Body → Checked (Unit {0} × (Translation × Body))
static_object x given w = if may_be_object w.0.st.structs x.of then static_local x given w else rule x.line

-- ---- declarations

-- a function, or an object that is declared `extern`
abbrev pub linked_local : Declared → Option Initializer → Translating (Unit {0})
linked_local x given u = and_then (link x u) (λ r. no_initializer x.line given (name_link r.0 x.name r.1))

-- A function has no other storage class than `extern` (3.5.1).
abbrev pub function : Declared → Option Initializer → Translating (Unit {0})
function x given u = if may_stand place.BlockFunction x.storage then linked_local x given u else rule x.line

abbrev pub declared_by : Duration → Declared → Option Initializer → Declaring
declared_by duration.Typedef x given w = Ok (tt, w)
declared_by duration.Function x given w = in_unit (function x given) w
declared_by duration.Extern x given w = in_unit (linked_local x given) w
declared_by duration.Static x given w = in_body (static_object x given) w
declared_by (duration.Automatic register) x given w = in_block (automatic_object x register given) w

abbrev pub type_named : ℕ → List ℕ → Option Initializer → DeclaredType → Translating (Unit {0})
type_named line name given t u = and_then (name_type line name t u) (λ r. no_initializer line given r.1)

abbrev pub declared_as : ℕ → Identifier → Option Storage → CType → Declared
declared_as line id class of = record { name = id.name; of = of; storage = class; line = line; name_line = id.line }

abbrev pub entity_named : ℕ → Identifier → Option Storage → Option Initializer → CType → Declaring
entity_named line id class given of w = declared_by (duration_of class of) (declared_as line id class of) given w

abbrev pub named : ℕ → Identifier → Option Storage → Option Initializer → DeclaredType → Declaring
named line id class given t w = if is_typedef class then in_unit (type_named line id.name given t) w else entity_named line id class given t.of w

abbrev pub named_by : ℕ → Option Identifier → Option Storage → Option Initializer → DeclaredType → Declaring
named_by line (Some id) class given t w = named line id class given t w
named_by line None class given t w = rule line

-- a declarator with its initialiser
abbrev pub one_declarator : Option Storage → DeclaredType → InitDeclarator → Unit {0} → Declaring
one_declarator class base x u w =
    and_then (in_unit (in_scope (λ s. within (declarator_type base x.declarator s))) w) (λ t. named_by x.line x.declarator.identifier class x.initializer t.0 t.1)

abbrev pub declare_each : Option Storage → DeclaredType → List InitDeclarator → Declaring
declare_each class base xs w = each (one_declarator class base) xs tt w

abbrev pub declarators : Declaration → Declaring
declarators d w =
    and_then (in_unit (in_scope (λ s. within (specifying d.specifiers s))) w) (λ b. declare_each d.specifiers.storage b.0 d.declarators b.1)

abbrev pub declare_by : Declaration → List InitDeclarator → Declaring
declare_by d [] w = in_unit (in_scope (declare_alone place.Block d)) w
declare_by d (x ∷ xs) w = declarators d w

-- a declaration of a block
abbrev pub declare_local : Declaration → Declaring
declare_local d w = declare_by d d.declarators w
