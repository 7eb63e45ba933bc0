-- Yardstick: to be compared with what it restates (docs/TRUST.md).
-- What expressions and type names are, or the first refusal in the order in which constructs end (ANSI 3.3, 3.4, 3.5.2, 3.5.4, 3.5.5).
use Rattle.std.specs.Prelude.{ℕ, Bool, true, false, List, [], ◌∷◌, ◌++◌, length, map, Option, Some, None, option_map, Ok}
use Rattle.sc_base.specs.declared.integer.Int.{Int}
use Rattle.sc_types.specs.declared.ctype.Member.{Member as StructureMember}
use Rattle.sc_tree.specs.declared.expression.Expr.{Expr, fold-Expr}
use Rattle.sc_tree.specs.declared.expression.TypeWord.{TypeWord, fold-TypeWord}
use Rattle.sc_tree.specs.declared.expression.Derivation.{Derivation, fold-Derivation}
use Rattle.sc_tree.specs.declared.expression.TypeName.{TypeName, fold-TypeName}
use Rattle.sc_tree.specs.declared.expression.Parameter.{Parameter, fold-Parameter}
use Rattle.sc_tree.specs.declared.expression.Member.{Member, fold-Member}
use Rattle.sc_tree.specs.declared.expression.Declarator.{Declarator, fold-Declarator}
use Rattle.sc_tree.specs.declared.expression.Derivation.TheOpen.{Derivation-F, Expr-F, TypeWord-F, Declarator-F, Member-F, Parameter-F, TypeName-F}
use Rattle.sc_tree.specs.declared.expression.Specifiers.{Specifiers}
use Rattle.sc_tree.specs.declared.expression.Enumerator.{Enumerator}
use Rattle.sc_tree.specs.declared.expression.Identifier.{Identifier}
use Rattle.sc_tree.specs.declared.operator.Binary.{Binary}
use Rattle.sc_tree.specs.declared.operator.Unary.{Unary}
use Rattle.sc_tree.specs.declared.operator.Postfix.{Postfix}
use Rattle.sc_core.specs.declared.expression.CoreExpr.{CoreExpr}
use Rattle.sc_core.specs.Types.{type_of}
use Rattle.sc_check_operand.specs.Constants.{integer_constant}
use Rattle.sc_check_unary.specs.Leaves as leaf
use Rattle.sc_check_unary.specs.Parts as part
use Rattle.sc_check_unary.specs.Calls.{call}
use Rattle.sc_check_unary.specs.Unary as prefix
use Rattle.sc_check_binary.specs.Binary.{binary, comma}
use Rattle.sc_check_binary.specs.Conditional.{conditional}
use Rattle.sc_check_declare.specs.declared.words.Word.TheVariants as w
use Rattle.sc_check_declare.specs.declared.derivation.DeclaredType.{DeclaredType}
use Rattle.sc_check_declare.specs.declared.derivation.Derived.{Derived}
use Rattle.sc_check_declare.specs.declared.derivation.Derived.TheVariants as d
use Rattle.sc_check_declare.specs.declared.derivation.Parameters.{Parameters}
use Rattle.sc_check_declare.specs.Declarators as declarators
use Rattle.sc_check_scope.specs.declared.words.Specified.{Specified}
use Rattle.sc_check_scope.specs.declared.words.Specified.TheVariants as word
use Rattle.sc_check_scope.specs.declared.words.Words.{Words}
use Rattle.sc_check_scope.specs.declared.state.State.{State}
use Rattle.sc_check_scope.specs.Steps.{Checked, and_then, keep, each, typing}
use Rattle.sc_check_scope.specs.Steps as steps
use Rattle.sc_check_scope.specs.declared.state.Scope.{Scope}
use Rattle.sc_check_scope.specs.Scopes.{Checking, enter, leave, taken}
use Rattle.sc_check_scope.specs.Words.{no_words, with_word, list_type}
use Rattle.sc_check_scope.specs.Tags as tags
use Rattle.sc_check_scope.specs.Declarations as declarations
use Rattle.sc_check_scope.specs.Expressions as made

-- An expression: the line of its first token; whether it is in an object that is declared `register`; and, as what a call calls or
-- not, its typed tree with what is in scope behind it.
pub record Node : Type 0 where
  pub line : ℕ
  pub register : State → Bool
  pub typed : Bool → Checking CoreExpr

-- a declarator: its line, its name, and the type that it gives the name
pub record Declaring : Type 0 where
  pub line : ℕ
  pub name : Option Identifier
  pub of : DeclaredType → Checking DeclaredType

abbrev pub Deriving : Type 0
Deriving = ℕ → Checking Derived

abbrev pub Wording : Type 0
Wording = Checking Specified

-- the members, or parameters, behind others
abbrev pub Membering : Type 0
Membering = List StructureMember → Checking (List StructureMember)

abbrev pub Parametering : Type 0
Parametering = Parameters → Checking Parameters

abbrev pub Naming : Type 0
Naming = Checking DeclaredType

-- one level of the tree, with what its parts are in their places
abbrev pub Level : (Type 0 → Type 0 → Type 0 → Type 0 → Type 0 → Type 0 → Type 0 → Type 0) → Type 0
Level F = F Deriving Node Wording Declaring Membering Parametering Naming

-- ---- parts

abbrev pub one : {A : Type 0} → (A → Checking A) → A → Checking A
one f = f

abbrev pub one_argument : Node → List CoreExpr → Checking (List CoreExpr)
one_argument e done s = and_then (e.typed false s) (λ r. Ok (done ++ r.0 ∷ [], r.1))

-- an integer constant expression (3.4)
abbrev pub constant : Node → Checking (ℕ × Int)
constant e s = and_then (e.typed false s) (λ r. keep r.1 (typing (integer_constant e.line r.0)))

-- ---- specifiers and declarators

abbrev pub one_word : Wording → Words → Checking Words
one_word x done s = and_then (x s) (λ r. Ok (with_word done r.0, r.1))

abbrev pub in_specifiers : Specifiers Wording → Checking DeclaredType
in_specifiers list s =
    and_then (each one_word list.words no_words s) (λ r. keep r.1 (list_type list.line list.constant (length list.words) r.0))

abbrev pub declared : Option Declaring → DeclaredType → Checking DeclaredType
declared None base s = Ok (base, s)
declared (Some x) base s = x.of base s

abbrev pub name_of : Option Declaring → Option Identifier
name_of None = None
name_of (Some x) = x.name

abbrev pub in_type_name : Level TypeName-F → Naming
in_type_name t s = and_then (in_specifiers t.specifiers s) (λ r. declared t.declarator r.0 r.1)

abbrev pub one_step : ℕ → Deriving → List Derived → Checking (List Derived)
one_step line x done s = and_then (x line s) (λ r. Ok (done ++ r.0 ∷ [], r.1))

abbrev pub type_by : ℕ → List Deriving → DeclaredType → Checking DeclaredType
type_by line xs base s = and_then (each (one_step line) xs [] s) (λ r. keep r.1 (steps.declaring (declarators.declarator r.1.structs line r.0 base)))

abbrev pub in_declarator : Level Declarator-F → Declaring
in_declarator x = record { line = x.line; name = x.identifier; of = type_by x.line x.derivations }

abbrev pub no_parameters : Parameters
no_parameters = record { types = []; depth = 0 }

-- an array with its size (3.5.4.2)
abbrev pub sized : ℕ → Node → Checking Derived
sized line n s = and_then (constant n s) (λ r. keep r.1 (declarations.derived_array line r.0))

-- The parameters have a scope of their own (3.1.2.1).
abbrev pub prototype : List Parametering → Checking Derived
prototype ps s = and_then (each one ps no_parameters (enter s)) (λ r. Ok (d.Function r.0, leave s.began r.1))

abbrev pub in_derivation : Level Derivation-F → Deriving
in_derivation (Derivation-F.Pointer c) line s = Ok (d.Pointer c, s)
in_derivation (Derivation-F.Array None) line s = Ok (d.Array 0, s)
in_derivation (Derivation-F.Array (Some n)) line s = sized line n s
in_derivation Derivation-F.Function line s = Ok (d.Function no_parameters, s)
in_derivation (Derivation-F.Prototype ps) line s = prototype ps s

abbrev pub in_parameter : Level Parameter-F → Parametering
in_parameter p done s =
    and_then (in_specifiers p.specifiers s) (λ b. and_then (declared p.declarator b.0 b.1) (λ t. declarations.add_parameter p.line p.specifiers.storage (name_of p.declarator) t.0 done t.1))

-- ---- structures, unions and enumerations

-- the members with one more of this type
abbrev pub with_member : ℕ → Option Identifier → DeclaredType → List StructureMember → State → Checked (List StructureMember)
with_member line name t done s = and_then (declarations.add_member s line name t done) (λ m. Ok m.1)

abbrev pub one_member : DeclaredType → Declaring → Membering
one_member base x done s = and_then (x.of base s) (λ r. keep r.1 (with_member x.line x.name r.0 done r.1))

abbrev pub in_member : Level Member-F → Membering
in_member m done s = and_then (in_specifiers m.specifiers s) (λ b. each (one_member b.0) m.declarators done b.1)

-- an enumeration constant with its value
abbrev pub valued : ℕ → List ℕ → Option ℕ → Node → Checking ℕ
valued line name before e s = and_then (constant e s) (λ v. declarations.enumerator line name (Some v.0) before v.1)

-- the bits of an enumeration constant behind one with the bits `before`
abbrev pub enumerator_bits : ℕ → List ℕ → Option ℕ → Option Node → Checking ℕ
enumerator_bits line name before None s = declarations.enumerator line name None before s
enumerator_bits line name before (Some e) s = valued line name before e s

abbrev pub one_enumerator : Enumerator Node → Option ℕ → Checking (Option ℕ)
one_enumerator x before s = and_then (enumerator_bits x.line x.name before x.value s) (λ r. Ok (Some r.0, r.1))

abbrev pub as_named : Checked (DeclaredType × State) → Checked (Specified × State)
as_named r = and_then r (λ x. Ok (word.Named x.0, x.1))

abbrev pub structure : ℕ → Bool → Option (List ℕ) → List Membering → Checking DeclaredType
structure line is_union tag ms s = and_then (tags.open_structure is_union tag s) (λ o. and_then (each one ms [] o.1) (λ r. tags.close_structure line o.0 r.0 r.1))

abbrev pub enumeration : ℕ → Option (List ℕ) → List (Enumerator Node) → Checking DeclaredType
enumeration line tag es s = and_then (tags.open_enumeration tag s) (λ o. and_then (each one_enumerator es None o.1) (λ r. keep r.1 (tags.close_enumeration line o.0)))

abbrev pub in_word : Level TypeWord-F → Wording
in_word TypeWord-F.Void s = Ok (word.Basic w.Void, s)
in_word TypeWord-F.Char s = Ok (word.Basic w.Char, s)
in_word TypeWord-F.Short s = Ok (word.Basic w.Short, s)
in_word TypeWord-F.Int s = Ok (word.Basic w.Int, s)
in_word TypeWord-F.Long s = Ok (word.Basic w.Long, s)
in_word TypeWord-F.Signed s = Ok (word.Basic w.Signed, s)
in_word TypeWord-F.Unsigned s = Ok (word.Basic w.Unsigned, s)
in_word (TypeWord-F.StructTag line is_union tag) s = as_named (tags.structure_named line is_union tag s)
in_word (TypeWord-F.Struct line is_union tag ms) s = as_named (structure line is_union tag ms s)
in_word (TypeWord-F.EnumTag line tag) s = as_named (keep s (tags.enumeration_named line tag s))
in_word (TypeWord-F.Enum line tag es) s = as_named (enumeration line tag es s)
in_word (TypeWord-F.Typedef line n) s = as_named (keep s (declarations.typedef_named line n s))

-- ---- expressions

abbrev pub line_by : Level Expr-F → ℕ
line_by (Expr-F.Name l n) = l
line_by (Expr-F.Constant l k) = l
line_by (Expr-F.String l t) = l
line_by (Expr-F.OffsetOf l t n) = l
line_by (Expr-F.Index l a b) = l
line_by (Expr-F.Call l f args) = l
line_by (Expr-F.Member l a n) = l
line_by (Expr-F.Arrow l a n) = l
line_by (Expr-F.Postfix l o a) = l
line_by (Expr-F.Unary l o a) = l
line_by (Expr-F.SizeOf l a) = l
line_by (Expr-F.SizeOfType l t) = l
line_by (Expr-F.Cast l t a) = l
line_by (Expr-F.Binary l o a b) = l
line_by (Expr-F.Conditional l a b e) = l
line_by (Expr-F.Assign l o a b) = l
line_by (Expr-F.Comma l a b) = l

-- a name, or a member of one by `.`
abbrev pub register_by : Level Expr-F → State → Bool
register_by (Expr-F.Name l n) s = made.is_register n s
register_by (Expr-F.Member l a n) s = a.register s
register_by _ s = false

-- The operand of `sizeof` is not evaluated (3.3.3.4).
abbrev pub unevaluated : Node → Checking CoreExpr
unevaluated a s = and_then (a.typed false (record s { evaluated = false })) (λ r. Ok (r.0, record r.1 { evaluated = s.evaluated }))

-- a construct of one part, of two or of three, in this order, and then its own rule
abbrev pub of_one : {A C S : Type 0} → (S → Checked (A × S)) → (A → S → Checked C) → S → Checked (C × S)
of_one p rule s = and_then (p s) (λ x. keep x.1 (rule x.0 x.1))

abbrev pub of_two : {A B C S : Type 0} → (S → Checked (A × S)) → (S → Checked (B × S)) → (A → B → S → Checked C) → S → Checked (C × S)
of_two p q rule s = and_then (p s) (λ x. of_one q (rule x.0) x.1)

abbrev pub of_three : {A B D C S : Type 0} → (S → Checked (A × S)) → (S → Checked (B × S)) → (S → Checked (D × S)) → (A → B → D → S → Checked C) → S → Checked (C × S)
of_three p q r rule s = and_then (p s) (λ x. of_two q r (rule x.0) x.1)

-- an operand, which is not what a call calls
abbrev pub operand : Node → Checking CoreExpr
operand e = e.typed false

-- The rules of the constructs, over what their parts have given.
abbrev pub by_offset_of : ℕ → List ℕ → DeclaredType → State → Checked CoreExpr
by_offset_of l n t s = typing (leaf.offset_of_member s.structs l t.of n)

abbrev pub by_index : ℕ → CoreExpr → CoreExpr → State → Checked CoreExpr
by_index l a b s = typing (part.index s.structs l a b)

abbrev pub by_call : ℕ → CoreExpr → List CoreExpr → State → Checked CoreExpr
by_call l f args s = typing (call s.structs l f args)

abbrev pub by_member : ℕ → List ℕ → CoreExpr → State → Checked CoreExpr
by_member l n a s = typing (part.member s.structs l a n)

abbrev pub by_arrow : ℕ → List ℕ → CoreExpr → State → Checked CoreExpr
by_arrow l n a s = typing (part.arrow s.structs l a n)

abbrev pub by_postfix : ℕ → Postfix → CoreExpr → State → Checked CoreExpr
by_postfix l o a s = made.postfix l o a s

abbrev pub by_unary : ℕ → Unary → Bool → CoreExpr → State → Checked CoreExpr
by_unary l o register a s = made.unary l o register a s

abbrev pub by_size_of_operand : ℕ → CoreExpr → State → Checked CoreExpr
by_size_of_operand l a s = typing (leaf.size_of_type s.structs l (type_of a))

abbrev pub by_size_of_type : ℕ → DeclaredType → State → Checked CoreExpr
by_size_of_type l t s = typing (leaf.size_of_type s.structs l t.of)

abbrev pub by_cast : ℕ → DeclaredType → CoreExpr → State → Checked CoreExpr
by_cast l t a s = typing (prefix.cast s.structs l t.of a)

abbrev pub by_binary : ℕ → Binary → CoreExpr → CoreExpr → State → Checked CoreExpr
by_binary l o a b s = typing (binary s.structs l o a b)

abbrev pub by_conditional : ℕ → CoreExpr → CoreExpr → CoreExpr → State → Checked CoreExpr
by_conditional l a b e s = typing (conditional s.structs l a b e)

abbrev pub by_assign : ℕ → Option Binary → CoreExpr → CoreExpr → State → Checked CoreExpr
by_assign l o a b s = made.assign l o a b s

abbrev pub by_comma : ℕ → CoreExpr → CoreExpr → State → Checked CoreExpr
by_comma l a b s = Ok (comma l a b)

-- Operands from the left, a type before its operand, then the construct itself.
abbrev pub typed_by : Level Expr-F → Bool → Checking CoreExpr
typed_by (Expr-F.Name l n) called s = keep s (made.name l called n s)
typed_by (Expr-F.Constant l k) called s = keep s (typing (leaf.constant l k))
typed_by (Expr-F.String l t) called s = made.string l t s
typed_by (Expr-F.OffsetOf l t n) called s = of_one t (by_offset_of l n) s
typed_by (Expr-F.Index l a b) called s = of_two (operand a) (operand b) (by_index l) s
typed_by (Expr-F.Call l f args) called s = of_two (f.typed true) (each one_argument args []) (by_call l) s
typed_by (Expr-F.Member l a n) called s = of_one (operand a) (by_member l n) s
typed_by (Expr-F.Arrow l a n) called s = of_one (operand a) (by_arrow l n) s
typed_by (Expr-F.Postfix l o a) called s = of_one (operand a) (by_postfix l o) s
typed_by (Expr-F.Unary l o a) called s = of_one (operand a) (by_unary l o (a.register s)) s
typed_by (Expr-F.SizeOf l a) called s = of_one (unevaluated a) (by_size_of_operand l) s
typed_by (Expr-F.SizeOfType l t) called s = of_one t (by_size_of_type l) s
typed_by (Expr-F.Cast l t a) called s = of_two t (operand a) (by_cast l) s
typed_by (Expr-F.Binary l o a b) called s = of_two (operand a) (operand b) (by_binary l o) s
typed_by (Expr-F.Conditional l a b e) called s = of_three (operand a) (operand b) (operand e) (by_conditional l) s
typed_by (Expr-F.Assign l o a b) called s = of_two (operand a) (operand b) (by_assign l o) s
typed_by (Expr-F.Comma l a b) called s = of_two (operand a) (operand b) (by_comma l) s

abbrev pub in_expression : Level Expr-F → Node
in_expression e = record { line = line_by e; register = register_by e; typed = typed_by e }

-- ---- the whole trees

abbrev pub node : Expr → Node
node = fold-Expr Deriving Node Wording Declaring Membering Parametering Naming in_derivation in_expression in_word in_declarator in_member in_parameter in_type_name

abbrev pub naming : TypeName → Naming
naming = fold-TypeName Deriving Node Wording Declaring Membering Parametering Naming in_derivation in_expression in_word in_declarator in_member in_parameter in_type_name

abbrev pub wording : TypeWord → Wording
wording = fold-TypeWord Deriving Node Wording Declaring Membering Parametering Naming in_derivation in_expression in_word in_declarator in_member in_parameter in_type_name

abbrev pub declaring : Declarator → Declaring
declaring = fold-Declarator Deriving Node Wording Declaring Membering Parametering Naming in_derivation in_expression in_word in_declarator in_member in_parameter in_type_name

abbrev pub membering : Member → Membering
membering = fold-Member Deriving Node Wording Declaring Membering Parametering Naming in_derivation in_expression in_word in_declarator in_member in_parameter in_type_name

abbrev pub parametering : Parameter → Parametering
parametering = fold-Parameter Deriving Node Wording Declaring Membering Parametering Naming in_derivation in_expression in_word in_declarator in_member in_parameter in_type_name

abbrev pub stepping : Derivation → Deriving
stepping = fold-Derivation Deriving Node Wording Declaring Membering Parametering Naming in_derivation in_expression in_word in_declarator in_member in_parameter in_type_name

-- ---- definitions of functions (3.7.1)

-- the parameters of a function, and their scope, which is that of its body too (3.1.2.1)
abbrev pub own_parameters : List Parametering → Checking (Parameters × Scope)
own_parameters ps s = and_then (each one ps no_parameters (enter s)) (λ r. Ok ((r.0, (taken s.began r.1).0), (taken s.began r.1).1))

-- the type that a declarator gives whose first step is a function with these parameters, from its other steps
abbrev pub type_behind : ℕ → Parameters → List Deriving → DeclaredType → Checking DeclaredType
type_behind line own xs base s =
    and_then (each (one_step line) xs (d.Function own ∷ []) s) (λ r. keep r.1 (steps.declaring (declarators.declarator r.1.structs line r.0 base)))

abbrev pub definition : ℕ → List Parametering → List Deriving → DeclaredType → Checking (DeclaredType × Scope)
definition line ps xs base s = and_then (own_parameters ps s) (λ own. and_then (type_behind line own.0.0 xs base own.1) (λ t. Ok ((t.0, own.0.1), t.1)))

-- the same of lists of them, and of a list of specifiers
abbrev pub enumerating : Enumerator Expr → Enumerator Node
enumerating x = record { line = x.line; name = x.name; value = option_map node x.value }

abbrev pub specifying : Specifiers TypeWord → Naming
specifying list s =
    and_then (each one_word (map wording list.words) no_words s) (λ r. keep r.1 (list_type list.line list.constant (length (map wording list.words)) r.0))
