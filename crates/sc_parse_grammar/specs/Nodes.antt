-- Yardstick: to be compared with what it restates (docs/TRUST.md).
-- The operand that each production makes: its line, its level, its height and its tree.
use Rattle.std.specs.Prelude.{ℕ, ◌+◌, max, nat_lt, if◌then◌else◌, List, [], ◌∷◌, Option}
use Rattle.std.specs.Str.{bytes_eq}
use Rattle.sc_tree.specs.declared.operator.Unary.{Unary}
use Rattle.sc_tree.specs.declared.operator.Postfix.{Postfix}
use Rattle.sc_tree.specs.declared.operator.Binary.{Binary}
use Rattle.sc_tree.specs.declared.expression.Constant.{Constant}
use Rattle.sc_tree.specs.declared.expression.Expr.{Expr}
use Rattle.sc_tree.specs.declared.expression.Expr.TheVariants as e
use Rattle.sc_tree.specs.declared.expression.TypeName.{TypeName}
use Rattle.sc_parse_names.specs.declared.kind.Symbol.{Symbol}
use Rattle.sc_parse_grammar.specs.declared.operand.Operand.{Operand}
use Rattle.sc_parse_grammar.specs.Kinds.{level_of}

abbrev pub operand : ℕ → ℕ → ℕ → Expr → Operand
operand l m n x = record { line = l; level = m; height = n; tree = x }

-- One more than the height of the highest part; heights above 200 are all 201.
abbrev pub higher : ℕ → ℕ
higher n = if nat_lt n 201 then n + 1 else n

-- the bytes of `__offsetof`
abbrev pub offsetof_name : List ℕ
offsetof_name = 95 ∷ 95 ∷ 111 ∷ 102 ∷ 102 ∷ 115 ∷ 101 ∷ 116 ∷ 111 ∷ 102 ∷ []

-- The name `__offsetof` has a level of its own, since a type may stand behind it in parentheses.
abbrev pub name_level : List ℕ → ℕ
name_level text = if bytes_eq text offsetof_name then 18 else 17

abbrev pub named_node : ℕ → List ℕ → Operand
named_node l text = operand l (name_level text) 1 (e.Name l text)

abbrev pub name_node : Symbol → Operand
name_node t = named_node t.line t.text

abbrev pub constant_node : ℕ → Option Constant → Operand
constant_node l value = operand l 17 1 (e.Constant l value)

abbrev pub text_node : ℕ → Option (List ℕ) → Operand
text_node l text = operand l 17 1 (e.String l text)

-- Parentheses are no node.
abbrev pub paren_node : ℕ → Operand → Operand
paren_node l x = operand l 17 x.height x.tree

abbrev pub offset_node : ℕ → TypeName → List ℕ → Operand
offset_node l type name = operand l 17 1 (e.OffsetOf l type name)

abbrev pub index_node : Operand → Operand → Operand
index_node a x = operand a.line 16 (higher (max a.height x.height)) (e.Index a.line a.tree x.tree)

-- n is the height of the highest argument
abbrev pub call_node : Operand → List Expr → ℕ → Operand
call_node a args n = operand a.line 16 (higher (max a.height n)) (e.Call a.line a.tree args)

abbrev pub member_node : Operand → List ℕ → Operand
member_node a name = operand a.line 16 (higher a.height) (e.Member a.line a.tree name)

abbrev pub arrow_node : Operand → List ℕ → Operand
arrow_node a name = operand a.line 16 (higher a.height) (e.Arrow a.line a.tree name)

abbrev pub postfix_node : Operand → Postfix → Operand
postfix_node a op = operand a.line 16 (higher a.height) (e.Postfix a.line op a.tree)

abbrev pub unary_node : ℕ → Unary → Operand → Operand
unary_node l op x = operand l 15 (higher x.height) (e.Unary l op x.tree)

abbrev pub size_node : ℕ → Operand → Operand
size_node l x = operand l 15 (higher x.height) (e.SizeOf l x.tree)

abbrev pub size_type_node : ℕ → TypeName → Operand
size_type_node l type = operand l 15 1 (e.SizeOfType l type)

abbrev pub cast_node : ℕ → TypeName → Operand → Operand
cast_node l type x = operand l 14 (higher x.height) (e.Cast l type x.tree)

abbrev pub binary_node : Operand → Binary → Operand → Operand
binary_node a op x = operand a.line (level_of op) (higher (max a.height x.height)) (e.Binary a.line op a.tree x.tree)

abbrev pub conditional_node : Operand → Operand → Operand → Operand
conditional_node a b x = operand a.line 3 (higher (max (max a.height b.height) x.height)) (e.Conditional a.line a.tree b.tree x.tree)

abbrev pub assign_node : Operand → Option Binary → Operand → Operand
assign_node a op x = operand a.line 2 (higher (max a.height x.height)) (e.Assign a.line op a.tree x.tree)

abbrev pub comma_node : Operand → Operand → Operand
comma_node a x = operand a.line 1 (higher (max a.height x.height)) (e.Comma a.line a.tree x.tree)
