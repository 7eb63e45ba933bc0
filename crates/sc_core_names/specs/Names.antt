-- Yardstick: to be compared with what it restates (docs/TRUST.md).
-- The names that declarations put into a scope, in order (ANSI 3.1.2.1): of a declaration first the enumeration constants of its
-- specifiers, then the names of its declarators.
use Rattle.std.specs.Prelude.{ℕ, ◌++◌, List, [], ◌∷◌, map, Option, Some, None}
use Rattle.sc_tree.specs.declared.declaration.Declaration.{Declaration}
use Rattle.sc_tree.specs.declared.declaration.InitDeclarator.{InitDeclarator}
use Rattle.sc_tree.specs.declared.expression.Declarator.{Declarator}
use Rattle.sc_tree.specs.declared.expression.Derivation.{Derivation, out-Derivation}
use Rattle.sc_tree.specs.declared.expression.Derivation.TheOpen.{Derivation-F, TypeWord-F, Member-F, Parameter-F}
use Rattle.sc_tree.specs.declared.expression.Enumerator.{Enumerator}
use Rattle.sc_tree.specs.declared.expression.Expr.{Expr}
use Rattle.sc_tree.specs.declared.expression.Identifier.{Identifier}
use Rattle.sc_tree.specs.declared.expression.Member.{Member, fold-Member}
use Rattle.sc_tree.specs.declared.expression.Parameter.{Parameter, out-Parameter}
use Rattle.sc_tree.specs.declared.expression.Specifiers.{Specifiers}
use Rattle.sc_tree.specs.declared.expression.Storage.{Storage}
use Rattle.sc_tree.specs.declared.expression.Storage.TheVariants as storage
use Rattle.sc_tree.specs.declared.expression.TypeName.{TypeName}
use Rattle.sc_tree.specs.declared.expression.TypeWord.{TypeWord, fold-TypeWord}
use Rattle.sc_core_names.specs.declared.table.Entity.{Entity}
use Rattle.sc_core_names.specs.declared.table.Entity.TheVariants as entity
use Rattle.sc_core_names.specs.declared.table.DeclaredName.{DeclaredName}

abbrev pub Scope : Type 0
Scope = List DeclaredName

-- lists behind one another
abbrev pub joined : {A : Type 0} → List (List A) → List A
joined [] = []
joined (xs ∷ xss) = xs ++ joined xss

-- ---- enumeration constants (3.5.2.2)

abbrev pub constant : {E : Type 0} → Enumerator E → DeclaredName
constant e = record { name = e.name; entity = entity.NoObject }

abbrev pub Layer : (Type 0 → Type 0 → Type 0 → Type 0 → Type 0 → Type 0 → Type 0 → Type 0) → Type 0
Layer F = F (Unit {0}) (Unit {0}) Scope (Unit {0}) Scope (Unit {0}) (Unit {0})

-- a type word declares the constants of its list, or those that its members' specifiers declare
abbrev pub in_word : Layer TypeWord-F → Scope
in_word (TypeWord-F.Enum l tag items) = map constant items
in_word (TypeWord-F.Struct l is_union tag members) = joined members
in_word _ = []

abbrev pub in_member : Layer Member-F → Scope
in_member m = joined m.specifiers.words

abbrev pub constants_of_word : TypeWord → Scope
constants_of_word =
    fold-TypeWord (Unit {0}) (Unit {0}) Scope (Unit {0}) Scope (Unit {0}) (Unit {0}) (λ _. tt) (λ _. tt) in_word (λ _. tt) in_member (λ _. tt) (λ _. tt)

abbrev pub constants_of_member : Member → Scope
constants_of_member =
    fold-Member (Unit {0}) (Unit {0}) Scope (Unit {0}) Scope (Unit {0}) (Unit {0}) (λ _. tt) (λ _. tt) in_word (λ _. tt) in_member (λ _. tt) (λ _. tt)

abbrev pub constants_of : Specifiers TypeWord → Scope
constants_of s = joined (map constants_of_word s.words)

-- ---- declarators (3.5.4)

abbrev pub named_by : Entity → Option Identifier → Scope
named_by e None = []
named_by e (Some id) = record { name = id.name; entity = e } ∷ []

abbrev pub named : Entity → Declarator → Scope
named e d = named_by e d.identifier

abbrev pub named_if : Entity → Option Declarator → Scope
named_if e None = []
named_if e (Some d) = named e d

-- ---- declarations (3.5)

abbrev pub name_of : Entity → InitDeclarator → Scope
name_of e d = named e d.declarator

-- the names of a declaration whose declarators declare such an entity
abbrev pub declares : Entity → Declaration → Scope
declares e d = constants_of d.specifiers ++ joined (map (name_of e) d.declarators)

-- in a block `static` is what makes an object one of static storage duration (3.1.2.4); at file scope it gives a name its linkage
abbrev pub block_entity : Option Storage → Entity
block_entity (Some storage.Typedef) = entity.NoObject
block_entity (Some storage.Static) = entity.Static
block_entity _ = entity.Declared

abbrev pub file_entity : Option Storage → Entity
file_entity (Some storage.Typedef) = entity.NoObject
file_entity _ = entity.Declared

abbrev pub block_names : Declaration → Scope
block_names d = declares (block_entity d.specifiers.storage) d

abbrev pub file_names : Declaration → Scope
file_names d = declares (file_entity d.specifiers.storage) d

-- ---- parameters (3.5.4.3, 3.7.1)

abbrev pub Opened : (Type 0 → Type 0 → Type 0 → Type 0 → Type 0 → Type 0 → Type 0 → Type 0) → Type 0
Opened F = F Derivation Expr TypeWord Declarator Member Parameter TypeName

abbrev pub opened_names : Opened Parameter-F → Scope
opened_names p = constants_of p.specifiers ++ named_if entity.Declared p.declarator

abbrev pub parameter_names : Parameter → Scope
parameter_names p = opened_names (out-Parameter p)

abbrev pub step_parameters : Opened Derivation-F → Scope
step_parameters (Derivation-F.Prototype ps) = joined (map parameter_names ps)
step_parameters _ = []

-- the parameters of a function's definition stand in the first step of its declarator
abbrev pub first_parameters : List Derivation → Scope
first_parameters [] = []
first_parameters (step ∷ steps) = step_parameters (out-Derivation step)
