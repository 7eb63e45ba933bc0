-- Yardstick: to be compared with what it restates (docs/TRUST.md).
-- Definitions of functions (ANSI 3.7.1).
use Rattle.std.specs.Prelude.{ℕ, Bool, false, if◌then◌else◌, List, [], ◌∷◌, ◌++◌, map, drop, slice_get, Option, Some, None, is_some, is_none, option_map, Ok}
use Rattle.sc_tree.specs.declared.expression.Expr.{Expr}
use Rattle.sc_tree.specs.declared.expression.TypeWord.{TypeWord}
use Rattle.sc_tree.specs.declared.expression.TypeName.{TypeName}
use Rattle.sc_tree.specs.declared.expression.Member.{Member}
use Rattle.sc_tree.specs.declared.expression.Derivation.{Derivation, out-Derivation}
use Rattle.sc_tree.specs.declared.expression.Derivation.TheOpen.{Derivation-F}
use Rattle.sc_tree.specs.declared.expression.Declarator.{Declarator}
use Rattle.sc_tree.specs.declared.expression.Parameter.{Parameter, out-Parameter}
use Rattle.sc_tree.specs.declared.expression.Identifier.{Identifier}
use Rattle.sc_tree.specs.declared.expression.Specifiers.{Specifiers}
use Rattle.sc_tree.specs.declared.statement.Function.{Function}
use Rattle.sc_types.specs.declared.ctype.CType.{CType, out-CType}
use Rattle.sc_types.specs.declared.ctype.CType.TheOpen.{CType-F}
use Rattle.sc_types.specs.declared.ctype.Signature.{Signature}
use Rattle.sc_types.specs.declared.ctype.StructDef.{StructDef}
use Rattle.sc_core.specs.declared.statement.CoreStmt.{CoreStmt}
use Rattle.sc_core.specs.declared.module.Auto.{Auto}
use Rattle.sc_core.specs.declared.module.Fun.{Fun}
use Rattle.sc_core_needs.specs.Needs.{need_of_statement}
use Rattle.sc_check_declare.specs.declared.storage.Place.TheVariants as place
use Rattle.sc_check_declare.specs.Storages.{may_stand}
use Rattle.sc_check_declare.specs.Declarators.{defined_parameter}
use Rattle.sc_check_declare.specs.Spaces.{find}
use Rattle.sc_check_linkage.specs.declared.link.Declaration.{Declaration as Linked}
use Rattle.sc_check_linkage.specs.declared.link.Link.{Link}
use Rattle.sc_check_linkage.specs.declared.frame.Local.{Local}
use Rattle.sc_check_linkage.specs.Linkage.{change, begin_function, give_body}
use Rattle.sc_check_linkage.specs.Frames.{cost, slots, slots_begin, blocks_from}
use Rattle.sc_check_scope.specs.declared.state.Meaning.{Meaning}
use Rattle.sc_check_scope.specs.declared.state.Meaning.TheVariants as m
use Rattle.sc_check_scope.specs.declared.state.Marks.{Marks}
use Rattle.sc_check_scope.specs.declared.state.Scope.{Scope}
use Rattle.sc_check_scope.specs.declared.state.State.{State}
use Rattle.sc_check_scope.specs.Scopes.{enter, leave, with_scope}
use Rattle.sc_check_expr.specs.Typed as typed
use Rattle.sc_check_body.specs.declared.progress.Translation.{Translation}
use Rattle.sc_check_body.specs.declared.progress.Body.{Body}
use Rattle.sc_check_body.specs.Faults.{Checked, and_then, keep, within, declaring, rule}
use Rattle.sc_check_body.specs.Statements.{Checking}
use Rattle.sc_check_body.specs.Progress.{Translating, in_scope, outside, first_body}
use Rattle.sc_check_body.specs.Linked.{link, name_link}
use Rattle.sc_check_body.specs.Locals.{local_of}
use Rattle.sc_check_body.specs.Blocks.{Working, block, end_body}
use Rattle.sc_check.specs.declared.function.Head.{Head}
use Rattle.sc_check.specs.Steps.{in_links}
use Rattle.sc_check.specs.Files.{with_linkage}

-- ---- the type of a definition

abbrev pub Derived : Type 0
Derived = Derivation-F Derivation Expr TypeWord Declarator Member Parameter TypeName

abbrev pub parameters_by : Option Derived → Option (List Parameter)
parameters_by (Some Derivation-F.Function) = Some []
parameters_by (Some (Derivation-F.Prototype ps)) = Some ps
parameters_by _ = None

-- the parameters of a declarator that is itself that of a function
abbrev pub own_parameters : Declarator → Option (List Parameter)
own_parameters d = parameters_by (option_map out-Derivation (slice_get d.derivations 0))

-- The parameters stand in the scope of the body (3.1.2.1), which is kept until the body comes.
abbrev pub definition_type : Specifiers TypeWord → Declarator → List Parameter → Checking (CType × Scope)
definition_type list d ps s =
    and_then (within (typed.specifying list s)) (λ b. and_then (within (typed.definition d.line (map typed.parametering ps) (map typed.stepping (drop 1 d.derivations)) b.0 b.1))
    (λ r. Ok ((r.0.0.of, r.0.1), r.1)))

abbrev pub signature_by : CType-F CType Signature → Option Signature
signature_by (CType-F.Function f) = Some f
signature_by (CType-F.Void c) = None
signature_by (CType-F.Int k c) = None
signature_by (CType-F.Pointer u c) = None
signature_by (CType-F.Array u n) = None
signature_by (CType-F.Struct id c) = None

abbrev pub identifier_by : Option Declarator → Option Identifier
identifier_by None = None
identifier_by (Some d) = d.identifier

abbrev pub identifier_of : Parameter → Option Identifier
identifier_of p = identifier_by (out-Parameter p).declarator

-- Each parameter has a name and a complete object type.
abbrev pub complete_parameters : List StructDef → List Parameter → List CType → Checked (Unit {0})
complete_parameters structs [] ofs = Ok tt
complete_parameters structs (p ∷ ps) [] = Ok tt
complete_parameters structs (p ∷ ps) (of ∷ ofs) =
    and_then (declaring (defined_parameter structs (out-Parameter p).line (is_some (identifier_of p)) of)) (λ u. complete_parameters structs ps ofs)

-- A function is defined with a storage class that may stand there.
abbrev pub may_define : Function → List Parameter → List StructDef → Signature → Checked (Unit {0})
may_define f ps structs signature =
    if may_stand place.Definition f.specifiers.storage then complete_parameters structs ps signature.params else rule f.declarator.line

abbrev pub with_signature_by : Option Signature → Function → List Parameter → List StructDef → CType → Checked (CType × Signature)
with_signature_by None f ps structs of = rule f.declarator.line
with_signature_by (Some signature) f ps structs of = and_then (may_define f ps structs signature) (λ u. Ok (of, signature))

abbrev pub with_signature : Function → List Parameter → List StructDef → CType → Checked (CType × Signature)
with_signature f ps structs of = with_signature_by (signature_by (out-CType of)) f ps structs of

-- the type of a function that is defined with these parameters, and their scope
abbrev pub function_type : Function → List Parameter → Checking ((CType × Signature) × Scope)
function_type f ps s =
    and_then (definition_type f.specifiers f.declarator ps s) (λ r. and_then (with_signature f ps r.1.structs r.0.0) (λ t. Ok ((t, r.0.1), r.1)))

-- ---- the name of the function, at file scope

abbrev pub declared : Function → Identifier → CType → Linked
declared f id of = with_linkage f.declarator.line f.specifiers.storage id of

-- its place among the names with linkage
abbrev pub named : Linked → Translating ℕ
named d x =
    and_then (link d x) (λ r. and_then (declaring (begin_function d.line (slice_get r.1.links r.0))) (λ u. Ok (r.0, name_link r.0 d.name r.1)))

abbrev pub is_external_by : Option Link → Bool
is_external_by None = false
is_external_by (Some l) = is_none l.key.«module»

abbrev pub head : Function → Identifier → Bool → Signature → Head
head f id external of = record { line = f.line; name = id.name; name_line = id.line; external = external; of = of }

-- what a definition says before its body, and its place
abbrev pub is_external : ℕ → Translation → Bool
is_external at x = is_external_by (slice_get x.links at)

abbrev pub headed_by : Function → Identifier → CType × Signature → Translating (Head × ℕ)
headed_by f id t x = and_then (named (declared f id t.0) x) (λ r. Ok ((head f id (is_external r.0 r.1) t.1, r.0), r.1))

abbrev pub headed : Function → Identifier → List Parameter → Translating ((Head × ℕ) × Scope)
headed f id ps x = and_then (in_scope (function_type f ps) x) (λ t. and_then (headed_by f id t.0.0 t.1) (λ h. Ok ((h.0, t.0.1), h.1)))

-- ---- the parameters as objects

abbrev pub local_meant : List StructDef → ℕ → List ℕ → Option Meaning → Checked Local
local_meant structs line name (Some (m.Automatic of block at register)) = local_of structs line name of
local_meant structs line name _ = rule line

abbrev pub local_by : Option Identifier → ℕ → State → Checked Local
local_by None line s = rule line
local_by (Some id) line s = local_meant s.structs line id.name (find id.name s.names)

abbrev pub parameter_local : Parameter → State → Checked Local
parameter_local p s = local_by (identifier_of p) (out-Parameter p).line s

-- those of some parameters, behind others
abbrev pub locals : List Parameter → List Local → State → Checked (List Local)
locals [] done s = Ok done
locals (p ∷ ps) done s = and_then (parameter_local p s) (λ x. locals ps (done ++ x ∷ []) s)

-- The parameters are in the scope of the body, and are the objects of block 0.
abbrev pub parameter_locals : List Parameter → Scope → Checking (List Local)
parameter_locals ps scope s = keep (with_scope scope s) (locals ps [] (with_scope scope s))

-- ---- the body

abbrev pub begun : Head → List Parameter → Scope → Checking Body
begun h ps scope s = and_then (parameter_locals ps scope s) (λ r. Ok (first_body h.name h.of.result r.0, r.1))

abbrev pub framed : Head → List (List Auto) → CoreStmt → ℕ → Fun
framed h blocks body bytes = record { name = h.name; external = h.external; line = h.name_line; of = h.of; blocks = blocks; cost = bytes; body = body }

abbrev pub made_by : Head → List (List Local) → ℕ → ℕ → CoreStmt → Checked Fun
made_by h blocks room args body =
    and_then (declaring (cost h.line (slots blocks) room args)) (λ bytes. Ok (framed h (blocks_from (slots_begin room args) blocks) body bytes))

-- the function with its frame
abbrev pub made : Head → List (List Local) → CoreStmt → Checked Fun
made h blocks body = made_by h blocks (need_of_statement body).room (need_of_statement body).arguments body

abbrev pub block_of : Function → Working CoreStmt
block_of f w = block outside false f.body.line f.body.statements f.body.declarations w

-- Each `goto` ends with the body, and then the frame is known.
abbrev pub finished : Head → Body → CoreStmt → Checked Fun
finished h f body = and_then (end_body f) (λ u. made h f.blocks body)

abbrev pub body_of : Head → Function → Working Fun
body_of h f w = and_then (block_of f w) (λ r. keep r.1 (finished h r.1.1 r.0))

abbrev pub entered : Translation → Translation
entered x = record x { st = enter x.st }

abbrev pub left : Marks → Translation → Translation
left outer x = record x { st = leave outer x.st }

abbrev pub in_new_scope : Head → List Parameter → Scope → Function → Translating Fun
in_new_scope h ps scope f x = and_then (in_scope (begun h ps scope) x) (λ b. and_then (body_of h f (b.1, b.0)) (λ r. Ok (r.0, r.1.0)))

-- The body has a scope, which has the parameters too (3.1.2.1).
abbrev pub with_body : Head → List Parameter → Scope → Function → Translating Fun
with_body h ps scope f x = and_then (in_new_scope h ps scope f (entered x)) (λ r. Ok (r.0, left x.st.began r.1))

-- ---- the whole

abbrev pub with_function : Fun → Translation → Translation
with_function f x = record x { funs = x.funs ++ f ∷ [] }

abbrev pub ended : Function → ℕ → Fun → Translating (Unit {0})
ended f at fun x = and_then (in_links (change (give_body f.line) at) x) (λ r. Ok (tt, with_function fun r.1))

abbrev pub defined : Function → Identifier → List Parameter → Translating (Unit {0})
defined f id ps x = and_then (headed f id ps x) (λ h. and_then (with_body h.0.0.0 ps h.0.1 f h.1) (λ r. ended f h.0.0.1 r.0 r.1))

abbrev pub declared_type : Specifiers TypeWord → Declarator → Checking CType
declared_type list d s = and_then (within (typed.specifying list s)) (λ b. and_then (within ((typed.declaring d).of b.0 b.1)) (λ r. Ok (r.0.of, r.1)))

-- The declarator is not itself that of a function; its own refusals come first.
abbrev pub no_function : Function → Translating (Unit {0})
no_function f x = and_then (in_scope (declared_type f.specifiers f.declarator) x) (λ r. rule f.declarator.line)

abbrev pub definition_by : Option Identifier → Option (List Parameter) → Function → Translating (Unit {0})
definition_by (Some id) (Some ps) f x = defined f id ps x
definition_by (Some id) None f x = no_function f x
definition_by None ps f x = no_function f x

-- a definition of a function
abbrev pub definition : Function → Translating (Unit {0})
definition f x = definition_by f.declarator.identifier (own_parameters f.declarator) f x
