-- Yardstick: to be compared with what it restates (docs/TRUST.md).
-- What each block of a function and the file declare (ANSI 3.1.2.1), and what a name is there.
use Rattle.std.specs.Prelude.{ℕ, ◌+◌, ◌++◌, Bool, true, false, ◌&&◌, if◌then◌else◌, List, [], ◌∷◌, length, map, sum_by, Option, Some, None}
use Rattle.std.specs.Str.{bytes_eq}
use Rattle.sc_tree.specs.declared.declaration.Declaration.{Declaration}
use Rattle.sc_tree.specs.declared.expression.Identifier.{Identifier}
use Rattle.sc_tree.specs.declared.statement.Statement.{Statement, fold-Statement}
use Rattle.sc_tree.specs.declared.statement.Statement.TheOpen.{Statement-F}
use Rattle.sc_tree.specs.declared.statement.Block.{Block}
use Rattle.sc_tree.specs.declared.statement.Function.{Function}
use Rattle.sc_tree.specs.declared.statement.External.{External}
use Rattle.sc_tree.specs.declared.statement.External.TheVariants as external
use Rattle.sc_core_names.specs.declared.table.Entity.{Entity}
use Rattle.sc_core_names.specs.declared.table.Entity.TheVariants as entity
use Rattle.sc_core_names.specs.declared.table.DeclaredName.{DeclaredName}
use Rattle.sc_core_names.specs.declared.table.FunctionScopes.{FunctionScopes}
use Rattle.sc_core_names.specs.declared.table.Scopes.{Scopes}
use Rattle.sc_core_names.specs.declared.table.ModuleScopes.{ModuleScopes}
use Rattle.sc_core_names.specs.Names.{Scope, joined, constants_of, named, file_names, block_names, first_parameters}

-- ---- blocks (3.6.2)

-- the names of a block
abbrev pub scope_of : List Declaration → Scope
scope_of ds = joined (map block_names ds)

abbrev pub if_there : Option (List Scope) → List Scope
if_there None = []
if_there (Some scopes) = scopes

-- the scopes of the blocks of a statement, in the order in which they begin
abbrev pub in_statement : Statement-F (List Scope) → List Scope
in_statement (Statement-F.Block l ds ss) = scope_of ds ∷ joined ss
in_statement (Statement-F.If l e a b) = a ++ if_there b
in_statement (Statement-F.Switch l e s) = s
in_statement (Statement-F.While l e s) = s
in_statement (Statement-F.Do l s m e) = s
in_statement (Statement-F.For l a b c s) = s
in_statement (Statement-F.Case l e s) = s
in_statement (Statement-F.Default l s) = s
in_statement (Statement-F.Label l name s) = s
in_statement _ = []

abbrev pub statement_scopes : Statement → List Scope
statement_scopes = fold-Statement (List Scope) in_statement

abbrev pub body_scopes : Block → List Scope
body_scopes b = scope_of b.declarations ∷ joined (map statement_scopes b.statements)

-- ---- functions and the file (3.7)

-- the parameters are block 0, and the body is block 1
abbrev pub scopes_named : ℕ → Function → Option Identifier → List FunctionScopes
scopes_named before f None = []
scopes_named before f (Some id) =
    record { name = id.name; before = before; blocks = first_parameters f.declarator.derivations ∷ body_scopes f.body } ∷ []

-- a function's scopes, where so many names are declared at file scope up to its own
abbrev pub function_scopes : ℕ → Function → List FunctionScopes
function_scopes before f = scopes_named before f f.declarator.identifier

-- the names that stand at file scope
abbrev pub external_names : External → Scope
external_names (external.Function f) = constants_of f.specifiers ++ named entity.Declared f.declarator
external_names (external.Declaration d) = file_names d

abbrev pub external_scopes : ℕ → External → List FunctionScopes
external_scopes before (external.Function f) = function_scopes before f
external_scopes before (external.Declaration d) = []

-- the functions behind these names of the file
abbrev pub functions_behind : Scope → List External → List FunctionScopes
functions_behind seen [] = []
functions_behind seen (x ∷ xs) =
    external_scopes (length (seen ++ external_names x)) x ++ functions_behind (seen ++ external_names x) xs

abbrev pub scopes_of : List External → Scopes
scopes_of items = record { file = joined (map external_names items); functions = functions_behind [] items }

-- ---- what a name is

-- in a scope
abbrev pub entity_in : Scope → List ℕ → Option Entity
entity_in [] name = None
entity_in (d ∷ scope) name = if bytes_eq d.name name then Some d.entity else entity_in scope name

-- in a scope whose last name so far is this one, which is in scope itself
abbrev pub entity_until : List ℕ → Scope → List ℕ → Option Entity
entity_until last [] name = None
entity_until last (d ∷ scope) name =
    if bytes_eq d.name name then Some d.entity else if bytes_eq d.name last then None else entity_until last scope name

-- the scopes of the function of a name
abbrev pub function_named : List FunctionScopes → List ℕ → Option FunctionScopes
function_named [] name = None
function_named (f ∷ fs) name = if bytes_eq f.name name then Some f else function_named fs name

-- the scopes of the module of a name
abbrev pub scopes_of_module : List ModuleScopes → List ℕ → Option Scopes
scopes_of_module [] name = None
scopes_of_module (m ∷ ms) name = if bytes_eq m.«module» name then Some m.scopes else scopes_of_module ms name

-- ---- objects of static storage duration

abbrev pub is_static : Entity → Bool
is_static entity.Static = true
is_static _ = false

abbrev pub one_static : List ℕ → DeclaredName → ℕ
one_static name d = if is_static d.entity && bytes_eq d.name name then 1 else 0

-- how many of this name a scope declares, and some scopes
abbrev pub statics_in : List ℕ → Scope → ℕ
statics_in name scope = sum_by (one_static name) scope

abbrev pub statics_named : List ℕ → List Scope → ℕ
statics_named name scopes = sum_by (statics_in name) scopes
