-- Inside: plumbing, a representation, an invariant or a promise beside the claim (docs/TRUST.md).
-- How many nodes a tree has: one for each expression, statement, declarator, list of specifiers and initialiser.
use Rattle.std.specs.Prelude.{ℕ, ◌+◌, Option, Some, None, sum, sum_by, length}
use Rattle.sc_tree.specs.declared.expression.Expr.{Expr, fold-Expr, out-Expr}
use Rattle.sc_tree.specs.declared.expression.TypeWord.{TypeWord, fold-TypeWord}
use Rattle.sc_tree.specs.declared.expression.Derivation.{Derivation, fold-Derivation}
use Rattle.sc_tree.specs.declared.expression.TypeName.{TypeName, fold-TypeName}
use Rattle.sc_tree.specs.declared.expression.Parameter.{Parameter, fold-Parameter}
use Rattle.sc_tree.specs.declared.expression.Member.{Member, fold-Member}
use Rattle.sc_tree.specs.declared.expression.Derivation.TheOpen.{Derivation-F, Expr-F, TypeWord-F, Declarator-F, Member-F, Parameter-F, TypeName-F}
use Rattle.sc_tree.specs.declared.expression.Specifiers.{Specifiers}
use Rattle.sc_tree.specs.declared.expression.Declarator.{Declarator, fold-Declarator}
use Rattle.sc_tree.specs.declared.expression.Enumerator.{Enumerator}
use Rattle.sc_tree.specs.declared.declaration.Initializer.{Initializer, fold-Initializer}
use Rattle.sc_tree.specs.declared.declaration.Initializer.TheOpen.{Initializer-F}
use Rattle.sc_tree.specs.declared.declaration.InitDeclarator.{InitDeclarator}
use Rattle.sc_tree.specs.declared.declaration.Declaration.{Declaration}
use Rattle.sc_tree.specs.declared.statement.Statement.{Statement, fold-Statement}
use Rattle.sc_tree.specs.declared.statement.Statement.TheOpen.{Statement-F}
use Rattle.sc_tree.specs.declared.statement.Block.{Block}
use Rattle.sc_tree.specs.declared.statement.Function.{Function}
use Rattle.sc_tree.specs.declared.statement.External.{External}
use Rattle.sc_tree.specs.declared.statement.External.TheVariants as external
use Rattle.sc_tree.specs.declared.statement.Unit.{Unit as Tree}

-- the number of nodes of what may be there
abbrev pub if_there : Option ℕ → ℕ
if_there None = 0
if_there (Some n) = n

-- Below, the parts of a layer are numbers of nodes already.
abbrev pub in_specifiers : Specifiers ℕ → ℕ
in_specifiers s = 1 + sum s.words

abbrev pub in_enumerator : Enumerator ℕ → ℕ
in_enumerator e = if_there e.value

abbrev pub Numbers : (Type 0 → Type 0 → Type 0 → Type 0 → Type 0 → Type 0 → Type 0 → Type 0) → Type 0
Numbers F = F ℕ ℕ ℕ ℕ ℕ ℕ ℕ

abbrev pub in_declarator : Numbers Declarator-F → ℕ
in_declarator d = 1 + sum d.derivations

abbrev pub in_derivation : Numbers Derivation-F → ℕ
in_derivation (Derivation-F.Pointer c) = 0
in_derivation (Derivation-F.Array n) = if_there n
in_derivation Derivation-F.Function = 0
in_derivation (Derivation-F.Prototype ps) = sum ps

abbrev pub in_word : Numbers TypeWord-F → ℕ
in_word (TypeWord-F.Struct l u n ms) = sum ms
in_word (TypeWord-F.Enum l n es) = sum_by in_enumerator es
in_word _ = 0

abbrev pub in_member : Numbers Member-F → ℕ
in_member m = in_specifiers m.specifiers + sum m.declarators

abbrev pub in_parameter : Numbers Parameter-F → ℕ
in_parameter p = in_specifiers p.specifiers + if_there p.declarator

abbrev pub in_type_name : Numbers TypeName-F → ℕ
in_type_name t = in_specifiers t.specifiers + if_there t.declarator

abbrev pub in_expression : Numbers Expr-F → ℕ
in_expression (Expr-F.Name l n) = 1
in_expression (Expr-F.Constant l c) = 1
in_expression (Expr-F.String l s) = 1
in_expression (Expr-F.OffsetOf l t n) = 1 + t
in_expression (Expr-F.Index l a b) = 1 + a + b
in_expression (Expr-F.Call l f args) = 1 + f + sum args
in_expression (Expr-F.Member l a n) = 1 + a
in_expression (Expr-F.Arrow l a n) = 1 + a
in_expression (Expr-F.Postfix l op a) = 1 + a
in_expression (Expr-F.Unary l op a) = 1 + a
in_expression (Expr-F.SizeOf l a) = 1 + a
in_expression (Expr-F.SizeOfType l t) = 1 + t
in_expression (Expr-F.Cast l t a) = 1 + t + a
in_expression (Expr-F.Binary l op a b) = 1 + a + b
in_expression (Expr-F.Conditional l a b c) = 1 + a + b + c
in_expression (Expr-F.Assign l op a b) = 1 + a + b
in_expression (Expr-F.Comma l a b) = 1 + a + b

abbrev pub expression_nodes : Expr → ℕ
expression_nodes = fold-Expr ℕ ℕ ℕ ℕ ℕ ℕ ℕ in_derivation in_expression in_word in_declarator in_member in_parameter in_type_name

abbrev pub word_nodes : TypeWord → ℕ
word_nodes = fold-TypeWord ℕ ℕ ℕ ℕ ℕ ℕ ℕ in_derivation in_expression in_word in_declarator in_member in_parameter in_type_name

abbrev pub derivation_nodes : Derivation → ℕ
derivation_nodes = fold-Derivation ℕ ℕ ℕ ℕ ℕ ℕ ℕ in_derivation in_expression in_word in_declarator in_member in_parameter in_type_name

abbrev pub member_nodes : Member → ℕ
member_nodes = fold-Member ℕ ℕ ℕ ℕ ℕ ℕ ℕ in_derivation in_expression in_word in_declarator in_member in_parameter in_type_name

abbrev pub parameter_nodes : Parameter → ℕ
parameter_nodes = fold-Parameter ℕ ℕ ℕ ℕ ℕ ℕ ℕ in_derivation in_expression in_word in_declarator in_member in_parameter in_type_name

abbrev pub type_name_nodes : TypeName → ℕ
type_name_nodes = fold-TypeName ℕ ℕ ℕ ℕ ℕ ℕ ℕ in_derivation in_expression in_word in_declarator in_member in_parameter in_type_name

abbrev pub specifiers_nodes : Specifiers TypeWord → ℕ
specifiers_nodes s = 1 + sum_by word_nodes s.words

abbrev pub declarator_nodes : Declarator → ℕ
declarator_nodes = fold-Declarator ℕ ℕ ℕ ℕ ℕ ℕ ℕ in_derivation in_expression in_word in_declarator in_member in_parameter in_type_name

-- the nodes of an expression that may be left out
abbrev pub optional_nodes : Option Expr → ℕ
optional_nodes None = 0
optional_nodes (Some e) = expression_nodes e

abbrev pub enumerator_nodes : Enumerator Expr → ℕ
enumerator_nodes e = optional_nodes e.value

-- What a parsed expression is on its first level: a string that stands alone initialises an array, with one node for each byte, the zero byte behind it among them.
abbrev pub initial_in : Expr-F Derivation Expr TypeWord Declarator Member Parameter TypeName → ℕ → ℕ
initial_in (Expr-F.String l (Some bytes)) n = length bytes + 1
initial_in _ n = 1 + n

abbrev pub initial_nodes : Expr → ℕ
initial_nodes e = initial_in (out-Expr e) (expression_nodes e)

abbrev pub in_initializer : Initializer-F ℕ → ℕ
in_initializer (Initializer-F.Expression l e) = initial_nodes e
in_initializer (Initializer-F.List l is) = 1 + sum is

abbrev pub initializer_nodes : Initializer → ℕ
initializer_nodes = fold-Initializer ℕ in_initializer

abbrev pub optional_initializer : Option Initializer → ℕ
optional_initializer None = 0
optional_initializer (Some i) = initializer_nodes i

abbrev pub init_declarator_nodes : InitDeclarator → ℕ
init_declarator_nodes d = declarator_nodes d.declarator + optional_initializer d.initializer

abbrev pub declaration_nodes : Declaration → ℕ
declaration_nodes d = specifiers_nodes d.specifiers + sum_by init_declarator_nodes d.declarators

abbrev pub in_statement : Statement-F ℕ → ℕ
in_statement (Statement-F.Block l ds ss) = 1 + sum_by declaration_nodes ds + sum ss
in_statement (Statement-F.Empty l) = 1
in_statement (Statement-F.Expression l e) = 1 + expression_nodes e
in_statement (Statement-F.If l e s t) = 1 + expression_nodes e + s + if_there t
in_statement (Statement-F.Switch l e s) = 1 + expression_nodes e + s
in_statement (Statement-F.While l e s) = 1 + expression_nodes e + s
in_statement (Statement-F.Do l s m e) = 1 + s + expression_nodes e
in_statement (Statement-F.For l a b c s) = 1 + optional_nodes a + optional_nodes b + optional_nodes c + s
in_statement (Statement-F.Case l e s) = 1 + expression_nodes e + s
in_statement (Statement-F.Default l s) = 1 + s
in_statement (Statement-F.Label l n s) = 1 + s
in_statement (Statement-F.Goto l n) = 1
in_statement (Statement-F.Continue l) = 1
in_statement (Statement-F.Break l) = 1
in_statement (Statement-F.Return l e) = 1 + optional_nodes e

abbrev pub statement_nodes : Statement → ℕ
statement_nodes = fold-Statement ℕ in_statement

abbrev pub block_nodes : Block → ℕ
block_nodes b = 1 + sum_by declaration_nodes b.declarations + sum_by statement_nodes b.statements

abbrev pub function_nodes : Function → ℕ
function_nodes f = specifiers_nodes f.specifiers + declarator_nodes f.declarator + block_nodes f.body

abbrev pub external_nodes : External → ℕ
external_nodes (external.Function f) = function_nodes f
external_nodes (external.Declaration d) = declaration_nodes d

abbrev pub unit_nodes : Tree → ℕ
unit_nodes u = sum_by external_nodes u.items
