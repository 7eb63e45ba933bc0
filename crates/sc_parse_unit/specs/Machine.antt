-- Machine: the program once more; a theorem ties it to a yardstick (docs/TRUST.md).
-- The steps of the machine that reads a unit. It hands the tokens of specifiers, declarators and expressions to the machine of expressions.
use Rattle.std.specs.Prelude.{ℕ, Bool, true, false, if◌then◌else◌, ◌&&◌, nat_lt, List, [], ◌∷◌, ◌++◌, length, Option, Some, None, Result, Ok, Err}
use Rattle.sc_tree.specs.declared.expression.Expr.{Expr}
use Rattle.sc_tree.specs.declared.expression.TypeWord.{TypeWord}
use Rattle.sc_tree.specs.declared.expression.TypeWord.TheVariants as word
use Rattle.sc_tree.specs.declared.expression.Specifiers.{Specifiers}
use Rattle.sc_tree.specs.declared.expression.Declarator.{Declarator}
use Rattle.sc_tree.specs.declared.declaration.Initializer.{Initializer}
use Rattle.sc_tree.specs.declared.declaration.Initializer.TheVariants as i
use Rattle.sc_tree.specs.declared.declaration.InitDeclarator.{InitDeclarator}
use Rattle.sc_tree.specs.declared.declaration.Declaration.{Declaration}
use Rattle.sc_tree.specs.declared.statement.Statement.{Statement}
use Rattle.sc_tree.specs.declared.statement.Statement.TheVariants as s
use Rattle.sc_tree.specs.declared.statement.Block.{Block}
use Rattle.sc_tree.specs.declared.statement.External.TheVariants as external
use Rattle.sc_parse_names.specs.declared.kind.Symbol.{Symbol}
use Rattle.sc_parse_names.specs.declared.kind.Kind.{Kind}
use Rattle.sc_parse_names.specs.declared.kind.Kind.TheVariants as k
use Rattle.sc_parse_names.specs.Names.{Names, is_typed, enter, leave}
use Rattle.sc_parse_grammar.specs.declared.operand.Operand.{Operand}
use Rattle.sc_parse_grammar.specs.declared.operand.Whole.{Whole}
use Rattle.sc_parse_grammar.specs.declared.operand.Mode.TheVariants as mode
use Rattle.sc_parse_grammar.specs.declared.frame.Frame.TheVariants as f
use Rattle.sc_parse_grammar.specs.declared.frame.State.TheVariants as e
use Rattle.sc_parse_grammar.specs.declared.trouble.Trouble.{Trouble}
use Rattle.sc_parse_grammar.specs.declared.trouble.Trouble.TheVariants as trouble
use Rattle.sc_parse_grammar.specs.Kinds.{begins_specifiers}
use Rattle.sc_parse_grammar.specs.Nodes.{named_node}
use Rattle.sc_parse_grammar.specs.Types.{is_empty, no_words, with_word, declarator_of}
use Rattle.sc_parse_grammar.specs.Machine.{Config, step, mark_of}
use Rattle.sc_parse_unit.specs.declared.around.End.{End}
use Rattle.sc_parse_unit.specs.declared.around.End.TheVariants as stop
use Rattle.sc_parse_unit.specs.declared.around.Test.{Test}
use Rattle.sc_parse_unit.specs.declared.around.Test.TheVariants as test
use Rattle.sc_parse_unit.specs.declared.around.Head.{Head}
use Rattle.sc_parse_unit.specs.declared.around.Head.TheVariants as h
use Rattle.sc_parse_unit.specs.declared.around.Around.{Around}
use Rattle.sc_parse_unit.specs.declared.around.Around.TheVariants as a
use Rattle.sc_parse_unit.specs.declared.around.Stage.{Stage}
use Rattle.sc_parse_unit.specs.declared.around.Stage.TheVariants as at
use Rattle.sc_parse_unit.specs.declared.obstacle.Obstacle.{Obstacle}
use Rattle.sc_parse_unit.specs.declared.obstacle.Obstacle.TheVariants as no
use Rattle.sc_parse_unit.specs.Trees.{declare_as, init_declarator, declaration_of, block_of, with_declaration, with_statement, function_of}

-- the names of types in scope, what is open, and what was read last
abbrev pub Point : Type 0
Point = Names × (List Around × Stage)

abbrev pub Move : Type 0
Move = Result Point Obstacle

-- Nothing of the grammar goes on with the token.
abbrev pub stuck : Move
stuck = Err (no.Inner trouble.Syntax)

-- whether the token is this end
abbrev pub is_end : End → Kind → Bool
is_end stop.Semicolon k.Semicolon = true
is_end stop.Paren k.RightParen = true
is_end stop.Colon k.Colon = true
is_end _ _ = false

-- Only this end goes on.
abbrev pub ends_at : End → Kind → Move → Move
ends_at end kind move = if is_end end kind then move else stuck

-- A declaration joins what stands around it.
abbrev pub declares : Names → List Around → Declaration → Move
declares names (a.Unit items ∷ fs) d = Ok (names, (a.Unit (items ++ external.Declaration d ∷ []) ∷ fs, at.Due))
declares names (a.Body v x b ∷ fs) d = Ok (names, (a.Body v x (with_declaration b d) ∷ fs, at.Due))
declares names (a.Block b ∷ fs) d = Ok (names, (a.Block (with_declaration b d) ∷ fs, at.Due))
declares names _ d = stuck

-- a token behind a declarator and its initialiser; the declaration has these declarators before it
abbrev pub declarator_joins : Names → Kind → List Around → Specifiers TypeWord → List InitDeclarator → InitDeclarator → Move
declarator_joins names k.Comma fs v ds d = Ok (names, (a.Declaration v (ds ++ d ∷ []) ∷ fs, at.Declarator (f.Outer ∷ []) (e.Begin mode.Named)))
declarator_joins names k.Semicolon fs v ds d = declares names fs (declaration_of v (ds ++ d ∷ []))
declarator_joins names _ fs v ds d = stuck

abbrev pub declarator_ends : Names → Kind → List Around → InitDeclarator → Move
declarator_ends names kind (a.Declaration v ds ∷ fs) d = declarator_joins names kind fs v ds d
declarator_ends names kind _ d = stuck

-- a token behind an initialiser in braces; these stand before it
abbrev pub initial_joins : Names → Kind → List Around → ℕ → List Initializer → Initializer → Move
initial_joins names k.Comma fs l all x = Ok (names, (a.List l (all ++ x ∷ []) ∷ fs, at.Initial))
initial_joins names k.RightBrace fs l all x = Ok (names, (fs, at.Closed (i.List l (all ++ x ∷ []))))
initial_joins names _ fs l all x = stuck

-- a token behind an initialiser
abbrev pub initial_ends : Names → Kind → List Around → Initializer → Move
initial_ends names kind (a.List l all ∷ fs) x = initial_joins names kind fs l all x
initial_ends names kind (a.Initialized l d ∷ fs) x = declarator_ends names kind fs (init_declarator l d (Some x))
initial_ends names kind _ x = stuck

abbrev pub tested : Test → ℕ → Expr → Head
tested test.If l x = h.Then l x
tested test.Switch l x = h.Switch l x
tested test.While l x = h.While l x

-- a token behind an expression that may be left out
abbrev pub part_ends : Names → Kind → List Around → Option Expr → Move
part_ends names kind (a.First l ∷ fs) x = ends_at stop.Semicolon kind (Ok (names, (a.Second l x ∷ fs, at.Need)))
part_ends names kind (a.Second l x ∷ fs) y = ends_at stop.Semicolon kind (Ok (names, (a.Third l x y ∷ fs, at.Need)))
part_ends names kind (a.Third l x y ∷ fs) z = ends_at stop.Paren kind (Ok (names, (a.Under (h.For l x y z) ∷ fs, at.Due)))
part_ends names kind (a.Return l ∷ fs) x = ends_at stop.Semicolon kind (Ok (names, (fs, at.Got (s.Return l x))))
part_ends names kind _ x = stuck

-- a token behind an expression that may not be left out
abbrev pub whole_ends : Names → Kind → List Around → Operand → Move
whole_ends names kind (a.Test of l ∷ fs) x = ends_at stop.Paren kind (Ok (names, (a.Under (tested of l x.tree) ∷ fs, at.Due)))
whole_ends names kind (a.Until l b m ∷ fs) x = ends_at stop.Paren kind (Ok (names, (fs, at.Semicolon (s.Do l b m x.tree))))
whole_ends names kind (a.Value l ∷ fs) x = ends_at stop.Colon kind (Ok (names, (a.Under (h.Case l x.tree) ∷ fs, at.Due)))
whole_ends names kind (a.Expression ∷ fs) x = ends_at stop.Semicolon kind (Ok (names, (fs, at.Got (s.Expression x.line x.tree))))
whole_ends names kind (a.List l all ∷ fs) x = initial_joins names kind fs l all (i.Expression x.line x.tree)
whole_ends names kind (a.Initialized l d ∷ fs) x = declarator_ends names kind fs (init_declarator l d (Some (i.Expression x.line x.tree)))
whole_ends names kind _ x = stuck

-- whether an expression may be left out here
abbrev pub is_optional : List Around → Bool
is_optional (a.First l ∷ fs) = true
is_optional (a.Second l x ∷ fs) = true
is_optional (a.Third l x y ∷ fs) = true
is_optional (a.Return l ∷ fs) = true
is_optional _ = false

-- a token behind an expression
abbrev pub expression_ends : Names → Kind → List Around → Operand → Move
expression_ends names kind fs x = if is_optional fs then part_ends names kind fs (Some x.tree) else whole_ends names kind fs x

-- what the machine of expressions answered to a token of an expression
abbrev pub in_expression : Symbol → List Around → Result Config Trouble → Move
in_expression t fs (Ok (names, (frames, e.Expression x))) = expression_ends names t.kind fs x
in_expression t fs (Ok (names, (frames, state))) = Ok (names, (fs, at.Expression frames state))
in_expression t fs (Err o) = Err (no.Inner o)

-- An expression of this level at least begins with the token.
abbrev pub begin : ℕ → Symbol → Names → List Around → Move
begin m t names fs = in_expression t fs (step t (names, (f.Only m ∷ [], e.Need)))

-- the end of a list behind a comma
abbrev pub list_ends : Names → List Around → Move
list_ends names (a.List l (x ∷ all) ∷ fs) = Ok (names, (fs, at.Closed (i.List l (x ∷ all))))
list_ends names _ = stuck

-- an initialiser is due
abbrev pub initial : Symbol → Names → List Around → Kind → Move
initial t names fs k.LeftBrace = Ok (names, (a.List t.line [] ∷ fs, at.Initial))
initial t names fs k.RightBrace = list_ends names fs
initial t names fs kind = begin 2 t names fs

-- The declarator is that of a function, whose block begins. It is the first of its declaration, which stands at file scope.
abbrev pub body : ℕ → Names → List Around → Specifiers TypeWord → List InitDeclarator → Whole → Move
body l names (a.Unit items ∷ fs) v [] x = Ok (x.direct.scope ∷ names, (a.Body v (declarator_of x.line x.direct) (block_of l [] []) ∷ a.Unit items ∷ fs, at.Due))
body l names _ v ds x = stuck

-- a token behind a declarator, whose name is in scope
abbrev pub declared_by : Symbol → Names → List Around → Specifiers TypeWord → List InitDeclarator → Whole → Kind → Move
declared_by t names fs v ds x (k.Assign None) = Ok (names, (a.Initialized x.line (declarator_of x.line x.direct) ∷ a.Declaration v ds ∷ fs, at.Initial))
declared_by t names fs v ds x k.LeftBrace = body t.line names fs v ds x
declared_by t names fs v ds x kind = declarator_joins names kind fs v ds (init_declarator x.line (declarator_of x.line x.direct) None)

abbrev pub declared : Symbol → Names → List Around → Whole → Move
declared t names (a.Declaration v ds ∷ fs) x = declared_by t (declare_as v.storage x.direct.identifier names) fs v ds x t.kind
declared t names _ x = stuck

-- what the machine of expressions answered to a token of a declarator
abbrev pub in_declarator : Symbol → List Around → Result Config Trouble → Move
in_declarator t fs (Ok (names, (frames, e.Declared x))) = declared t names fs x
in_declarator t fs (Ok (names, (frames, state))) = Ok (names, (fs, at.Declarator frames state))
in_declarator t fs (Err o) = Err (no.Inner o)

-- a token behind the specifiers of a declaration
abbrev pub specified : Symbol → Names → List Around → Specifiers TypeWord → Kind → Move
specified t names fs v k.Semicolon = declares names fs (declaration_of v [])
specified t names fs v kind = in_declarator t (a.Declaration v [] ∷ fs) (step t (names, (f.Outer ∷ [], e.Begin mode.Named)))

-- what the machine of expressions answered to a token of specifiers
abbrev pub in_specifiers : Symbol → List Around → Result Config Trouble → Move
in_specifiers t fs (Ok (names, (frames, e.Specified v))) = specified t names fs v t.kind
in_specifiers t fs (Ok (names, (frames, state))) = Ok (names, (fs, at.Specifiers frames state))
in_specifiers t fs (Err o) = Err (no.Inner o)

-- The specifiers of a declaration begin with the token.
abbrev pub specifiers : Symbol → Names → List Around → Move
specifiers t names fs = in_specifiers t fs (step t (names, (f.Outer ∷ [], e.Due)))

-- The block of a function ends, which stands at file scope.
abbrev pub function_ends : Names → List Around → Specifiers TypeWord → Declarator → Block → Move
function_ends names (a.Unit items ∷ fs) v x b = Ok (leave names, (a.Unit (items ++ external.Function (function_of v x b) ∷ []) ∷ fs, at.Due))
function_ends names _ v x b = stuck

-- A block or the block of a function ends.
abbrev pub block_ends : Names → List Around → Move
block_ends names (a.Block b ∷ fs) = Ok (leave names, (fs, at.Got (s.Block b.line b.declarations b.statements)))
block_ends names (a.Body v x b ∷ fs) = function_ends names fs v x b
block_ends names _ = stuck

-- A block begins. The scopes around are those of the file and of 127 blocks at most.
abbrev pub block_begins : ℕ → Names → List Around → Move
block_begins l names fs = if nat_lt (length names) 128 then Ok (enter names, (a.Block (block_of l [] []) ∷ fs, at.Due)) else Err no.Nesting

-- A name of a type that no declaration begins with is a label.
abbrev pub named : Bool → Symbol → Names → List Around → Move
named true t names fs = Ok (names, (a.Under (h.Label t.line t.text) ∷ fs, at.Colon))
named false t names fs = Ok (names, (fs, at.Name t.line t.text))

-- A statement begins with the token.
abbrev pub statement : Symbol → Names → List Around → Kind → Move
statement t names fs k.Semicolon = Ok (names, (fs, at.Got (s.Empty t.line)))
statement t names fs k.LeftBrace = block_begins t.line names fs
statement t names fs k.If = Ok (names, (a.Test test.If t.line ∷ fs, at.LeftParen))
statement t names fs k.Switch = Ok (names, (a.Test test.Switch t.line ∷ fs, at.LeftParen))
statement t names fs k.While = Ok (names, (a.Test test.While t.line ∷ fs, at.LeftParen))
statement t names fs k.Do = Ok (names, (a.Do t.line ∷ fs, at.Due))
statement t names fs k.For = Ok (names, (a.First t.line ∷ fs, at.LeftParen))
statement t names fs k.Case = Ok (names, (a.Value t.line ∷ fs, at.Need))
statement t names fs k.Default = Ok (names, (a.Under (h.Default t.line) ∷ fs, at.Colon))
statement t names fs k.Continue = Ok (names, (fs, at.Semicolon (s.Continue t.line)))
statement t names fs k.Break = Ok (names, (fs, at.Semicolon (s.Break t.line)))
statement t names fs k.Return = Ok (names, (a.Return t.line ∷ fs, at.Need))
statement t names fs k.Goto = Ok (names, (fs, at.Target t.line))
statement t names fs k.Name = named (is_typed names t) t names fs
statement t names fs kind = begin 1 t names (a.Expression ∷ fs)

-- a token behind a plain name with which a statement begins
abbrev pub behind_name : Symbol → Names → List Around → ℕ → List ℕ → Kind → Move
behind_name t names fs l text k.Colon = Ok (names, (a.Under (h.Label l text) ∷ fs, at.Due))
behind_name t names fs l text kind = in_expression t (a.Expression ∷ fs) (step t (names, (f.Only 1 ∷ [], e.Have (named_node l text))))

-- a token behind `goto`
abbrev pub target : Symbol → Names → List Around → ℕ → Kind → Move
target t names fs l k.Name = Ok (names, (fs, at.Semicolon (s.Goto l t.text)))
target t names fs l _ = stuck

-- The unit, a function's block and 1,499 statements at most stand around a statement.
abbrev pub shallow : List Around → Move → Move
shallow fs move = if nat_lt (length fs) 1502 then move else Err no.Nesting

-- A statement is due, or the end of a block.
abbrev pub statement_due : Symbol → Names → List Around → Kind → Move
statement_due t names fs k.RightBrace = block_ends names fs
statement_due t names fs kind = shallow fs (statement t names fs kind)

-- A function or a declaration is due, or the end.
abbrev pub external_due : Symbol → Names → List Around → Kind → Move
external_due t names fs k.End = Ok (names, (fs, at.Over))
external_due t names fs kind = specifiers t names fs

-- whether the place is in a block where no statement was read
abbrev pub is_early : List Around → Bool
is_early (a.Body v x b ∷ fs) = is_empty b.statements
is_early (a.Block b ∷ fs) = is_empty b.statements
is_early _ = false

-- A declaration begins with the token, or with the name of a type: there a label may stand too.
abbrev pub early : Symbol → Names → List Around → Kind → Move
early t names fs k.Name = Ok (names, (fs, at.TypeName t.line t.text))
early t names fs kind = specifiers t names fs

-- a token behind the name of a type with which a declaration or a statement begins
abbrev pub behind_type : Symbol → Names → List Around → ℕ → List ℕ → Kind → Move
behind_type t names fs l text k.Colon = shallow fs (Ok (names, (a.Under (h.Label l text) ∷ fs, at.Due)))
behind_type t names fs l text kind = in_specifiers t fs (step t (names, (f.Outer ∷ [], e.Words (with_word (no_words l) (word.Typedef l text)))))

-- In a block a declaration may come before the statements.
abbrev pub item_due : Symbol → Names → List Around → Move
item_due t names fs =
    if is_early fs && begins_specifiers (is_typed names t) t.kind then early t names fs t.kind else statement_due t names fs t.kind

abbrev pub is_outside : List Around → Bool
is_outside (a.Unit items ∷ fs) = true
is_outside _ = false

abbrev pub due : Symbol → Names → List Around → Move
due t names fs = if is_outside fs then external_due t names fs t.kind else item_due t names fs

-- whether the statement may go on with `else`, which follows
abbrev pub waits : Bool → Head → Bool
waits other (h.Then l x) = other
waits other _ = false

-- the statement that ends with this one
abbrev pub built : Head → Statement → Statement
built (h.Then l x) b = s.If l x b None
built (h.Else l x c) b = s.If l x c (Some b)
built (h.Switch l x) b = s.Switch l x b
built (h.While l x) b = s.While l x b
built (h.For l x y z) b = s.For l x y z b
built (h.Case l x) b = s.Case l x b
built (h.Default l) b = s.Default l b
built (h.Label l text) b = s.Label l text b

-- All that ends with the statement, where `other` says whether `else` follows.
abbrev pub settle : Bool → List Around → Statement → List Around × Statement
settle other (a.Under head ∷ fs) b = if waits other head then (a.Under head ∷ fs, b) else settle other fs (built head b)
settle other fs b = (fs, b)

-- `else` behind a statement
abbrev pub other_begins : Names → List Around → Head → Statement → Move
other_begins names fs (h.Then l x) b = Ok (names, (a.Under (h.Else l x b) ∷ fs, at.Due))
other_begins names fs _ b = stuck

-- a token behind the body of a `do`
abbrev pub until : Symbol → Names → List Around → ℕ → Statement → Kind → Move
until t names fs l b k.While = Ok (names, (a.Until l b t.line ∷ fs, at.LeftParen))
until t names fs l b _ = stuck

-- a token behind a statement and what ends with it
abbrev pub behind : Symbol → Names → List Around × Statement → Move
behind t names (a.Under head ∷ fs, b) = other_begins names fs head b
behind t names (a.Do l ∷ fs, b) = until t names fs l b t.kind
behind t names (a.Body v x block ∷ fs, b) = statement_due t names (a.Body v x (with_statement block b) ∷ fs) t.kind
behind t names (a.Block block ∷ fs, b) = statement_due t names (a.Block (with_statement block b) ∷ fs) t.kind
behind t names _ = stuck

abbrev pub is_else : Kind → Bool
is_else k.Else = true
is_else _ = false

abbrev pub got : Symbol → Names → List Around → Statement → Move
got t names fs b = behind t names (settle (is_else t.kind) fs b)

-- `(` is due
abbrev pub left_paren : Names → List Around → Kind → Move
left_paren names fs k.LeftParen = Ok (names, (fs, at.Need))
left_paren names fs _ = stuck

-- the level that the expression has at least
abbrev pub needs : List Around → ℕ
needs (a.Value l ∷ fs) = 3
needs _ = 1

-- whether the token ends an expression that was left out
abbrev pub ends_part : Kind → List Around → Bool
ends_part kind (a.First l ∷ fs) = is_end stop.Semicolon kind
ends_part kind (a.Second l x ∷ fs) = is_end stop.Semicolon kind
ends_part kind (a.Third l x y ∷ fs) = is_end stop.Paren kind
ends_part kind (a.Return l ∷ fs) = is_end stop.Semicolon kind
ends_part kind _ = false

-- an expression is due, or the token behind it
abbrev pub expression_due : Symbol → Names → List Around → Move
expression_due t names fs = if ends_part t.kind fs then part_ends names t.kind fs None else begin (needs fs) t names fs

-- the token in this place
abbrev pub place : Symbol → Point → Move
place t (names, (fs, at.Due)) = due t names fs
place t (names, (fs, at.Specifiers frames state)) = in_specifiers t fs (step t (names, (frames, state)))
place t (names, (fs, at.Declarator frames state)) = in_declarator t fs (step t (names, (frames, state)))
place t (names, (fs, at.Expression frames state)) = in_expression t fs (step t (names, (frames, state)))
place t (names, (fs, at.Name l text)) = behind_name t names fs l text t.kind
place t (names, (fs, at.TypeName l text)) = behind_type t names fs l text t.kind
place t (names, (fs, at.Target l)) = target t names fs l t.kind
place t (names, (fs, at.Initial)) = initial t names fs t.kind
place t (names, (fs, at.Closed x)) = initial_ends names t.kind fs x
place t (names, (fs, at.LeftParen)) = left_paren names fs t.kind
place t (names, (fs, at.Need)) = expression_due t names fs
place t (names, (fs, at.Colon)) = ends_at stop.Colon t.kind (Ok (names, (fs, at.Due)))
place t (names, (fs, at.Semicolon b)) = ends_at stop.Semicolon t.kind (Ok (names, (fs, at.Got b)))
place t (names, (fs, at.Got b)) = got t names fs b
place t (names, (fs, at.Over)) = stuck

-- A token that is left out is named where nothing goes on with it.
abbrev pub mark_on : Kind → Obstacle → Obstacle
mark_on kind (no.Inner which) = no.Inner (mark_of kind which)
mark_on kind no.Nesting = no.Nesting

abbrev pub marked : Kind → Move → Move
marked kind (Ok p) = Ok p
marked kind (Err obstacle) = Err (mark_on kind obstacle)

-- One token.
abbrev pub advance : Symbol → Point → Move
advance t p = marked t.kind (place t p)

abbrev pub on_ok : {A B : Type 0} → (A → Result B Obstacle) → Result A Obstacle → Result B Obstacle
on_ok go (Ok a) = go a
on_ok go (Err o) = Err o

-- the steps for all of the tokens
abbrev pub run : Point → List Symbol → Move
run p [] = Ok p
run p (t ∷ ts) = on_ok (λ q. run q ts) (advance t p)

-- Nothing was read yet, and no name is in scope.
abbrev pub start : Point
start = ([] ∷ [], (a.Unit [] ∷ [], at.Due))
