-- Yardstick: to be compared with what it restates (docs/TRUST.md).
-- Declarations, functions and units as trees.
use Rattle.std.specs.Prelude.{ℕ, Bool, true, false, List, [], ◌∷◌, ◌++◌, Option, Some, None}
use Rattle.sc_tree.specs.Storages.{is_typedef}
use Rattle.sc_tree.specs.declared.expression.Storage.{Storage}
use Rattle.sc_tree.specs.declared.expression.Storage.TheVariants as storage
use Rattle.sc_tree.specs.declared.expression.Identifier.{Identifier}
use Rattle.sc_tree.specs.declared.expression.TypeWord.{TypeWord}
use Rattle.sc_tree.specs.declared.expression.Specifiers.{Specifiers}
use Rattle.sc_tree.specs.declared.expression.Declarator.{Declarator}
use Rattle.sc_tree.specs.declared.declaration.Initializer.{Initializer}
use Rattle.sc_tree.specs.declared.declaration.InitDeclarator.{InitDeclarator}
use Rattle.sc_tree.specs.declared.declaration.Declaration.{Declaration}
use Rattle.sc_tree.specs.declared.statement.Statement.{Statement}
use Rattle.sc_tree.specs.declared.statement.Block.{Block}
use Rattle.sc_tree.specs.declared.statement.Function.{Function}
use Rattle.sc_parse_names.specs.Names.{Names, declare}

-- The scope gains the declarator's name: a type's where the storage class is `typedef`, else a plain one.
abbrev pub declare_as : Option Storage → Option Identifier → Names → Names
declare_as class None names = names
declare_as class (Some name) names = declare name.name (is_typedef class) names

abbrev pub init_declarator : ℕ → Declarator → Option Initializer → InitDeclarator
init_declarator l d i = record { line = l; declarator = d; initializer = i }

abbrev pub declaration_of : Specifiers TypeWord → List InitDeclarator → Declaration
declaration_of v ds = record { line = v.line; specifiers = v; declarators = ds }

abbrev pub block_of : ℕ → List Declaration → List Statement → Block
block_of l ds ss = record { line = l; declarations = ds; statements = ss }

abbrev pub with_declaration : Block → Declaration → Block
with_declaration b d = block_of b.line (b.declarations ++ d ∷ []) b.statements

abbrev pub with_statement : Block → Statement → Block
with_statement b s = block_of b.line b.declarations (b.statements ++ s ∷ [])

abbrev pub function_of : Specifiers TypeWord → Declarator → Block → Function
function_of v d b = record { line = v.line; specifiers = v; declarator = d; body = b }
