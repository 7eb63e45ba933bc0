-- Yardstick: to be compared with what it restates (docs/TRUST.md).
-- The places of the names of a file in a unit: its declarators at file scope, those that are `extern` in a block, and its primary names where
-- no parameter and no declaration of a block hides them. They stand in the order of the text; of a declarator the name comes first.
use Rattle.std.specs.Prelude.{ℕ, ◌++◌, Bool, true, false, if◌then◌else◌, List, [], ◌∷◌, length, take, map, Option, Some, None}
use Rattle.std.specs.List.{list_any}
use Rattle.std.specs.Str.{bytes_eq}
use Rattle.sc_tree.specs.declared.declaration.Declaration.{Declaration}
use Rattle.sc_tree.specs.declared.declaration.InitDeclarator.{InitDeclarator}
use Rattle.sc_tree.specs.declared.declaration.Initializer.{Initializer, fold-Initializer}
use Rattle.sc_tree.specs.declared.declaration.Initializer.TheOpen.{Initializer-F}
use Rattle.sc_tree.specs.declared.expression.Declarator.{Declarator, fold-Declarator}
use Rattle.sc_tree.specs.declared.expression.Derivation.{Derivation, fold-Derivation, out-Derivation}
use Rattle.sc_tree.specs.declared.expression.Derivation.TheOpen.{Derivation-F, Expr-F, TypeWord-F, Declarator-F, Member-F, Parameter-F, TypeName-F}
use Rattle.sc_tree.specs.declared.expression.Enumerator.{Enumerator}
use Rattle.sc_tree.specs.declared.expression.Expr.{Expr, fold-Expr}
use Rattle.sc_tree.specs.declared.expression.Identifier.{Identifier}
use Rattle.sc_tree.specs.declared.expression.Member.{Member, fold-Member}
use Rattle.sc_tree.specs.declared.expression.Parameter.{Parameter, fold-Parameter}
use Rattle.sc_tree.specs.declared.expression.Specifiers.{Specifiers}
use Rattle.sc_tree.specs.declared.expression.Storage.{Storage}
use Rattle.sc_tree.specs.declared.expression.Storage.TheVariants as storage
use Rattle.sc_tree.specs.declared.expression.TypeName.{TypeName, fold-TypeName}
use Rattle.sc_tree.specs.declared.expression.TypeWord.{TypeWord, fold-TypeWord, out-TypeWord}
use Rattle.sc_tree.specs.declared.statement.Statement.{Statement, fold-Statement}
use Rattle.sc_tree.specs.declared.statement.Statement.TheOpen.{Statement-F}
use Rattle.sc_tree.specs.declared.statement.Block.{Block}
use Rattle.sc_tree.specs.declared.statement.Function.{Function}
use Rattle.sc_tree.specs.declared.statement.External.{External}
use Rattle.sc_tree.specs.declared.statement.External.TheVariants as external
use Rattle.sc_xref.specs.declared.walk.PlaceKind.{PlaceKind}
use Rattle.sc_xref.specs.declared.walk.PlaceKind.TheVariants.{Def, Decl, Call, Use}
use Rattle.sc_xref.specs.declared.walk.Place.{Place}
use Rattle.sc_xref.specs.declared.walk.Seen.{Seen}
use Rattle.sc_xref.specs.declared.walk.Walk.{Walk}

-- what a part of the text does to a walk
abbrev pub Step : Type 0
Step = Walk → Walk

abbrev pub stay : Step
stay w = w

abbrev pub steps : List Step → Step
steps [] w = w
steps (f ∷ fs) w = steps fs (f w)

abbrev pub step_if : Option Step → Step
step_if None w = w
step_if (Some f) w = f w

-- ---- names

-- whether a name means the function or object of the file, by the last of these that has it
abbrev pub shown_in : Bool → List Seen → List ℕ → Bool
shown_in so [] name = so
shown_in so (s ∷ ss) name = shown_in (if bytes_eq s.name name then s.shown else so) ss name

abbrev pub is_shown : List Seen → List ℕ → Bool
is_shown names name = shown_in true names name

abbrev pub put : List ℕ → PlaceKind → ℕ → Step
put name kind line w = record w { places = w.places ++ record { name = name; kind = kind; line = line } ∷ [] }

-- a name in an expression
abbrev pub mark : PlaceKind → ℕ → List ℕ → Step
mark kind line name w = if is_shown w.names name then put name kind line w else w

abbrev pub see : Bool → List ℕ → Step
see shown name w = record w { names = w.names ++ record { name = name; shown = shown } ∷ [] }

-- what is seen inside a scope is forgotten behind it
abbrev pub scoped : Step → Step
scoped f w = record (f w) { names = take (length w.names) (f w).names }

-- ---- expressions, types and declarators

-- an expression that is the function of a call, and any other
pub record Parts : Type 0 where
  pub called : Step
  pub used : Step

-- a declarator's name, and its sizes and parameters
pub record Named : Type 0 where
  pub name : Option Identifier
  pub steps_of : Step

abbrev pub alike : Step → Parts
alike f = record { called = f; used = f }

-- the layers, with what stands in place of the parts: derivation, expression, type word, declarator, member, parameter, type name
abbrev pub Layer : (Type 0 → Type 0 → Type 0 → Type 0 → Type 0 → Type 0 → Type 0 → Type 0) → Type 0
Layer F = F Step Parts Step Named Step Step Step

-- several expressions, several declarators
abbrev pub steps_used : List Parts → Step
steps_used [] w = w
steps_used (p ∷ ps) w = steps_used ps (p.used w)

abbrev pub steps_named : List Named → Step
steps_named [] w = w
steps_named (d ∷ ds) w = steps_named ds (d.steps_of w)

abbrev pub in_expr : Layer Expr-F → Parts
in_expr (Expr-F.Name l name) = record { called = mark Call l name; used = mark Use l name }
in_expr (Expr-F.Constant l c) = alike stay
in_expr (Expr-F.String l b) = alike stay
in_expr (Expr-F.OffsetOf l t name) = alike t
in_expr (Expr-F.Index l a b) = alike (λ w. b.used (a.used w))
in_expr (Expr-F.Call l f es) = alike (λ w. steps_used es (f.called w))
in_expr (Expr-F.Member l a name) = alike a.used
in_expr (Expr-F.Arrow l a name) = alike a.used
in_expr (Expr-F.Postfix l o a) = alike a.used
in_expr (Expr-F.Unary l o a) = alike a.used
in_expr (Expr-F.SizeOf l a) = alike a.used
in_expr (Expr-F.SizeOfType l t) = alike t
in_expr (Expr-F.Cast l t a) = alike (λ w. a.used (t w))
in_expr (Expr-F.Binary l o a b) = alike (λ w. b.used (a.used w))
in_expr (Expr-F.Conditional l a b d) = alike (λ w. d.used (b.used (a.used w)))
in_expr (Expr-F.Assign l o a b) = alike (λ w. b.used (a.used w))
in_expr (Expr-F.Comma l a b) = alike (λ w. b.used (a.used w))

abbrev pub value_if : Option Parts → Step
value_if None w = w
value_if (Some p) w = p.used w

-- an enumeration constant hides, from behind its value on
abbrev pub constant : {E : Type 0} → (Option E → Step) → Enumerator E → Step
constant f e w = see false e.name (f e.value w)

abbrev pub in_word : Layer TypeWord-F → Step
in_word (TypeWord-F.Struct l is_union tag members) = steps members
in_word (TypeWord-F.Enum l tag items) = steps (map (constant value_if) items)
in_word _ = stay

abbrev pub in_derivation : Layer Derivation-F → Step
in_derivation (Derivation-F.Array size) = value_if size
in_derivation (Derivation-F.Prototype ps) = scoped (steps ps)
in_derivation _ = stay

abbrev pub in_declarator : Layer Declarator-F → Named
in_declarator d = record { name = d.identifier; steps_of = steps d.derivations }

abbrev pub in_member : Layer Member-F → Step
in_member m w = steps_named m.declarators (steps m.specifiers.words w)

-- a parameter hides, from behind its declarator on
abbrev pub hides_as : Option Identifier → Step
hides_as None w = w
hides_as (Some id) w = see false id.name w

abbrev pub declared_if : Option Named → Step
declared_if None w = w
declared_if (Some d) w = hides_as d.name (d.steps_of w)

abbrev pub in_parameter : Layer Parameter-F → Step
in_parameter p w = declared_if p.declarator (steps p.specifiers.words w)

abbrev pub abstract_if : Option Named → Step
abstract_if None w = w
abstract_if (Some d) w = d.steps_of w

abbrev pub in_type : Layer TypeName-F → Step
in_type t w = abstract_if t.declarator (steps t.specifiers.words w)

abbrev pub parts : Expr → Parts
parts = fold-Expr Step Parts Step Named Step Step Step in_derivation in_expr in_word in_declarator in_member in_parameter in_type

abbrev pub expr_walk : Expr → Step
expr_walk e = (parts e).used

abbrev pub called_walk : Expr → Step
called_walk e = (parts e).called

abbrev pub word_walk : TypeWord → Step
word_walk = fold-TypeWord Step Parts Step Named Step Step Step in_derivation in_expr in_word in_declarator in_member in_parameter in_type

abbrev pub derivation_walk : Derivation → Step
derivation_walk = fold-Derivation Step Parts Step Named Step Step Step in_derivation in_expr in_word in_declarator in_member in_parameter in_type

abbrev pub named : Declarator → Named
named = fold-Declarator Step Parts Step Named Step Step Step in_derivation in_expr in_word in_declarator in_member in_parameter in_type

abbrev pub declarator_walk : Declarator → Step
declarator_walk d = (named d).steps_of

abbrev pub member_walk : Member → Step
member_walk = fold-Member Step Parts Step Named Step Step Step in_derivation in_expr in_word in_declarator in_member in_parameter in_type

abbrev pub parameter_walk : Parameter → Step
parameter_walk = fold-Parameter Step Parts Step Named Step Step Step in_derivation in_expr in_word in_declarator in_member in_parameter in_type

abbrev pub type_walk : TypeName → Step
type_walk = fold-TypeName Step Parts Step Named Step Step Step in_derivation in_expr in_word in_declarator in_member in_parameter in_type

abbrev pub words_walk : Specifiers TypeWord → Step
words_walk s = steps (map word_walk s.words)

-- the value of an enumeration constant, where one is written
abbrev pub written_if : Option Expr → Step
written_if None w = w
written_if (Some e) w = expr_walk e w

-- ---- declarations

abbrev pub Opened : (Type 0 → Type 0 → Type 0 → Type 0 → Type 0 → Type 0 → Type 0 → Type 0) → Type 0
Opened F = F Derivation Expr TypeWord Declarator Member Parameter TypeName

-- a step of a declarator that makes a function
abbrev pub makes_function : Opened Derivation-F → Bool
makes_function Derivation-F.Function = true
makes_function (Derivation-F.Prototype ps) = true
makes_function _ = false

abbrev pub list_has : List (List ℕ) → List ℕ → Bool
list_has names name = list_any (λ f. bytes_eq f name) names

-- a type word that is the name of a type of functions
abbrev pub names_function : List (List ℕ) → Opened TypeWord-F → Bool
names_function functions (TypeWord-F.Typedef l name) = list_has functions name
names_function functions _ = false

abbrev pub words_name : List (List ℕ) → List TypeWord → Bool
words_name functions [] = false
words_name functions (word ∷ []) = names_function functions (out-TypeWord word)
words_name functions (word ∷ more ∷ words) = false

-- whether a declarator declares a function: its first step says so, or the type words where it has none
abbrev pub is_function : List (List ℕ) → List TypeWord → List Derivation → Bool
is_function functions words [] = words_name functions words
is_function functions words (step ∷ later) = makes_function (out-Derivation step)

-- an object is defined where it is not `extern` or has an initialiser
abbrev pub kind_of : Bool → Option Storage → Bool → PlaceKind
kind_of true class written = Decl
kind_of false (Some storage.Extern) written = if written then Def else Decl
kind_of false _ written = Def

abbrev pub in_initializer : Initializer-F Step → Step
in_initializer (Initializer-F.Expression l e) = expr_walk e
in_initializer (Initializer-F.List l items) = steps items

abbrev pub initializer_walk : Initializer → Step
initializer_walk = fold-Initializer Step in_initializer

abbrev pub initialized_if : Option Initializer → Step
initialized_if None w = w
initialized_if (Some i) w = initializer_walk i w

abbrev pub is_written : Option Initializer → Bool
is_written None = false
is_written (Some i) = true

abbrev pub put_if : Option Identifier → PlaceKind → Step
put_if None kind w = w
put_if (Some id) kind w = put id.name kind id.line w

abbrev pub see_if : Bool → Option Identifier → Step
see_if shown None w = w
see_if shown (Some id) w = see shown id.name w

-- a name of a type of functions is kept
abbrev pub keep : List ℕ → Step
keep name w = record w { functions = w.functions ++ name ∷ [] }

abbrev pub keep_if : Bool → Option Identifier → Step
keep_if true (Some id) w = keep id.name w
keep_if _ _ w = w

-- a declarator of a block: a typedef's name hides nothing that a primary name could be
abbrev pub in_block : Option Storage → InitDeclarator → Step
in_block (Some storage.Typedef) d w = declarator_walk d.declarator w
in_block (Some storage.Extern) d w =
    initialized_if d.initializer (see_if true d.declarator.identifier (declarator_walk d.declarator (put_if d.declarator.identifier Decl w)))
in_block _ d w = initialized_if d.initializer (see_if false d.declarator.identifier (declarator_walk d.declarator w))

abbrev pub block_declaration : Declaration → Step
block_declaration d w = steps (map (in_block d.specifiers.storage) d.declarators) (words_walk d.specifiers w)

-- a declarator at file scope
abbrev pub in_file : Specifiers TypeWord → InitDeclarator → Walk → Option Storage → Walk
in_file s d w (Some storage.Typedef) =
    keep_if (is_function w.functions s.words d.declarator.derivations) d.declarator.identifier (declarator_walk d.declarator w)
in_file s d w class =
    initialized_if d.initializer (declarator_walk d.declarator
    (put_if d.declarator.identifier (kind_of (is_function w.functions s.words d.declarator.derivations) class (is_written d.initializer)) w))

abbrev pub file_declarator : Specifiers TypeWord → InitDeclarator → Step
file_declarator s d w = in_file s d w s.storage

abbrev pub file_declaration : Declaration → Step
file_declaration d w = steps (map (file_declarator d.specifiers) d.declarators) (words_walk d.specifiers w)

-- ---- statements

abbrev pub expr_if : Option Expr → Step
expr_if None w = w
expr_if (Some e) w = expr_walk e w

abbrev pub in_statement : Statement-F Step → Step
in_statement (Statement-F.Block l ds ss) = scoped (λ w. steps ss (steps (map block_declaration ds) w))
in_statement (Statement-F.Expression l e) = expr_walk e
in_statement (Statement-F.If l e a b) = λ w. step_if b (a (expr_walk e w))
in_statement (Statement-F.Switch l e s) = λ w. s (expr_walk e w)
in_statement (Statement-F.While l e s) = λ w. s (expr_walk e w)
in_statement (Statement-F.Do l s m e) = λ w. expr_walk e (s w)
in_statement (Statement-F.For l a b c s) = λ w. s (expr_if c (expr_if b (expr_if a w)))
in_statement (Statement-F.Case l e s) = λ w. s (expr_walk e w)
in_statement (Statement-F.Default l s) = s
in_statement (Statement-F.Label l name s) = s
in_statement (Statement-F.Return l e) = expr_if e
in_statement _ = stay

abbrev pub statement_walk : Statement → Step
statement_walk = fold-Statement Step in_statement

-- ---- functions and units

-- the parameters of a definition hide up to the end of its body
abbrev pub in_first : Opened Derivation-F → Step
in_first (Derivation-F.Prototype ps) = steps (map parameter_walk ps)
in_first (Derivation-F.Array size) = expr_if size
in_first _ = stay

abbrev pub definition_walk : List Derivation → Step
definition_walk [] w = w
definition_walk (step ∷ later) w = steps (map derivation_walk later) (in_first (out-Derivation step) w)

abbrev pub body_walk : Block → Step
body_walk b w = steps (map statement_walk b.statements) (steps (map block_declaration b.declarations) w)

abbrev pub function_walk : Function → Step
function_walk f w =
    scoped (λ v. body_walk f.body (definition_walk f.declarator.derivations v)) (put_if f.declarator.identifier Def (words_walk f.specifiers w))

abbrev pub external_walk : External → Step
external_walk (external.Function f) = function_walk f
external_walk (external.Declaration d) = file_declaration d

abbrev pub nothing : Walk
nothing = record { names = []; functions = []; places = [] }

-- the places of a unit
abbrev pub places_of : List External → List Place
places_of items = (steps (map external_walk items) nothing).places
