-- Yardstick: to be compared with what it restates (docs/TRUST.md).
-- Declarations of names with linkage in a unit (ANSI 3.1.2.2, 3.5, 3.7).
use Rattle.std.specs.Prelude.{ℕ, ◌==◌, Bool, true, false, not, ◌&&◌, if◌then◌else◌, List, [], ◌∷◌, ◌++◌, length, position, slice_get, slice_set, Option, Some, None, is_some, Ok, codes}
use Rattle.std.specs.List.{list_any}
use Rattle.std.specs.Str.{bytes_eq}
use Rattle.sc_tree.specs.declared.expression.Storage.{Storage}
use Rattle.sc_tree.specs.declared.expression.Storage.TheVariants as s
use Rattle.sc_types.specs.declared.ctype.CType.{CType, out-CType}
use Rattle.sc_types.specs.declared.ctype.CType.TheVariants as t
use Rattle.sc_types.specs.declared.ctype.CType.TheOpen.{CType-F}
use Rattle.sc_types.specs.declared.ctype.Signature.{Signature}
use Rattle.sc_types.specs.declared.ctype.StructDef.{StructDef}
use Rattle.sc_types.specs.Compatibility.{compatible, same_bool}
use Rattle.sc_types.specs.Tables.{is_object}
use Rattle.sc_core.specs.declared.module.Declared.{Declared}
use Rattle.sc_check_declare.specs.declared.failure.Reason.TheVariants as r
use Rattle.sc_check_declare.specs.Outcomes.{Outcome, refuse, after}
use Rattle.sc_check_declare.specs.Declarators.{is_complete}
use Rattle.sc_check_declare.specs.Composites.{composite}
use Rattle.sc_check_linkage.specs.declared.link.Link.{Link}
use Rattle.sc_check_linkage.specs.declared.link.Definition.{Definition}
use Rattle.sc_check_linkage.specs.declared.link.Definition.TheVariants as d
use Rattle.sc_check_linkage.specs.declared.link.Declaration.{Declaration}
use Rattle.sc_check_linkage.specs.Library.{is_library_name}
use Rattle.sc_check_operand.specs.Types.{is_function}
use Rattle.sc_check_linkage.specs.Signatures.{is_main, is_printf, variadic}

-- a key with a module is one of internal linkage
abbrev pub has_internal : Link → Bool
has_internal l = is_some l.key.module

-- Whether a declaration gives internal linkage, where an earlier one gave it or not: `static` does; `extern`, and a function
-- without storage class, take the linkage of an earlier declaration.
abbrev pub is_internal : Option Storage → Bool → Bool → Bool
is_internal (Some s.Static) function earlier = true
is_internal (Some s.Extern) function earlier = earlier
is_internal None function earlier = function && earlier
is_internal (Some s.Typedef) function earlier = false
is_internal (Some s.Auto) function earlier = false
is_internal (Some s.Register) function earlier = false

-- `int printf(const char *)` with external linkage is the variadic function
abbrev pub type_taken : Bool → Declaration → CType
type_taken internal x = if not internal && bytes_eq x.name (codes "printf") && is_printf x.of then variadic x.of else x.of

-- `main` with external linkage is a function without parameters that gives `int`
abbrev pub is_wrong_main : Bool → Declaration → Bool
is_wrong_main internal x = not internal && bytes_eq x.name (codes "main") && not (is_main (type_taken internal x))

abbrev pub checked_main : {A : Type 0} → Bool → Declaration → A → Outcome A
checked_main internal x a = if is_wrong_main internal x then refuse r.Main x.line else Ok a

abbrev pub new_link : Bool → List ℕ → Declaration → Link
new_link internal home x = record {
  key = record { «module» = (if internal then Some home else None); name = x.name };
  of = type_taken internal x;
  line = x.name_line;
  definition = d.Missing;
}

-- the first declaration of a name
abbrev pub first_by : Bool → List ℕ → Declaration → Outcome Link
first_by internal home x = checked_main internal x (new_link internal home x)

abbrev pub first : List ℕ → Declaration → Outcome Link
first home x = first_by (is_internal x.storage (is_function x.of) false) home x

-- A further one has the same linkage and a compatible type; the name then has the composite type.
abbrev pub further_by : Bool → List StructDef → Declaration → Link → Outcome CType
further_by internal structs x l =
    if same_bool internal (has_internal l) && compatible l.of structs (type_taken internal x) structs true
    then checked_main internal x (composite l.of (type_taken internal x))
    else refuse r.Rule x.line

abbrev pub further : List StructDef → Declaration → Link → Outcome CType
further structs x l = further_by (is_internal x.storage (is_function x.of) (has_internal l)) structs x l

-- a change of the link in a place
abbrev pub change_of : (Link → Outcome Link) → ℕ → List Link → Option Link → Outcome (List Link)
change_of f place links None = Ok links
change_of f place links (Some l) = after (f l) (λ l. Ok (slice_set links place l))

abbrev pub change : (Link → Outcome Link) → ℕ → List Link → Outcome (List Link)
change f place links = change_of f place links (slice_get links place)

-- the place of a name among the names with linkage, which stand in the order of their first declarations
abbrev pub place_of : List ℕ → List Link → Option ℕ
place_of name links = position (λ l. bytes_eq name l.key.name) links

abbrev pub is_declared : List ℕ → List Link → Bool
is_declared name = list_any (λ l. bytes_eq name l.key.name)

abbrev pub redeclare : List StructDef → Declaration → ℕ → List Link → Outcome (List Link)
redeclare structs x = change (λ l. after (further structs x l) (λ of. Ok (record l { of = of })))

abbrev pub declare_at : List StructDef → List ℕ → Declaration → Option ℕ → List Link → Outcome (ℕ × List Link)
declare_at structs home x None links = after (first home x) (λ l. Ok (length links, links ++ l ∷ []))
declare_at structs home x (Some place) links =
    after (redeclare structs x place links) (λ links. Ok (place, links))

abbrev pub declare : List StructDef → List ℕ → Declaration → List Link → Outcome (ℕ × List Link)
declare structs home x links = declare_at structs home x (place_of x.name links) links

-- a library name is not defined with external linkage
abbrev pub may_define : ℕ → Link → Outcome (Unit {0})
may_define line l = if not (has_internal l) && is_library_name l.key.name then refuse r.LibraryName line else Ok tt

-- an object's first declarator that defines it, tentatively
abbrev pub begun : ℕ → ℕ → Definition → Definition
begun line number d.Missing = d.Tentative line number
begun line number (d.Tentative l n) = d.Tentative l n
begun line number (d.Initialized l n) = d.Initialized l n
begun line number d.Body = d.Body

abbrev pub define : ℕ → ℕ → Link → Outcome Link
define line number l = after (may_define line l) (λ _. Ok (record l { definition = begun line number l.definition }))

-- An object has one initialiser (3.7.2). It is born in the place of that declarator.
abbrev pub initialized : ℕ → ℕ → Definition → Outcome Definition
initialized line number d.Missing = Ok (d.Initialized line number)
initialized line number (d.Tentative l n) = Ok (d.Initialized l number)
initialized line number (d.Initialized l n) = refuse r.Rule line
initialized line number d.Body = refuse r.Rule line

-- its type is then that of the initialiser too, which may tell an array's size
abbrev pub initialize : ℕ → ℕ → CType → Link → Outcome Link
initialize line number of l = after (initialized line number l.definition) (λ x. Ok (record l { of = composite l.of of; definition = x }))

-- a function has one body (3.7.1)
abbrev pub bodied : ℕ → Definition → Outcome Definition
bodied line d.Missing = Ok d.Body
bodied line (d.Tentative l n) = refuse r.Rule line
bodied line (d.Initialized l n) = refuse r.Rule line
bodied line d.Body = refuse r.Rule line

abbrev pub begin_function : ℕ → Option Link → Outcome (Unit {0})
begin_function line None = Ok tt
begin_function line (Some l) = may_define line l

abbrev pub give_body : ℕ → Link → Outcome Link
give_body line l = after (bodied line l.definition) (λ x. Ok (record l { definition = x }))

abbrev pub one_element : CType → CType-F CType Signature → CType
one_element of (CType-F.Array u n) = if n == 0 then t.Array u 1 else of
one_element of (CType-F.Void c) = of
one_element of (CType-F.Int i c) = of
one_element of (CType-F.Pointer u c) = of
one_element of (CType-F.Struct id c) = of
one_element of (CType-F.Function f) = of

-- At the end of the unit an array with external linkage whose size is still unknown has one element (3.7.2).
abbrev pub type_at_end : Link → CType
type_at_end l = if has_internal l then l.of else one_element l.of (out-CType l.of)

-- what the unit says of a name
abbrev pub declared : Link → Bool → CType → Declared
declared l defined of = record { key = l.key; of = of; defined = defined; line = l.line }

abbrev pub sized : List StructDef → ℕ → Link → CType → Outcome Declared
sized structs line l of =
    if not (is_complete structs of) then refuse r.Rule line
    else if is_object structs of then Ok (declared l true of)
    else refuse r.Size line

-- An object that the unit defines has a complete type then.
abbrev pub finish_by : List StructDef → Link → Definition → Outcome Declared
finish_by structs l d.Missing = Ok (declared l false l.of)
finish_by structs l (d.Tentative line n) = sized structs line l (type_at_end l)
finish_by structs l (d.Initialized line n) = sized structs line l (type_at_end l)
finish_by structs l d.Body = Ok (declared l true l.of)

abbrev pub finish : List StructDef → List Link → Outcome (List Declared)
finish structs [] = Ok []
finish structs (l ∷ ls) = after (finish_by structs l l.definition) (λ x. after (finish structs ls) (λ xs. Ok (x ∷ xs)))
