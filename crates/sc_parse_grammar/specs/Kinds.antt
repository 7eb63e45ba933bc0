-- Yardstick: to be compared with what it restates (docs/TRUST.md).
-- The classes of tokens.
use Rattle.std.specs.Prelude.{ℕ, Bool, true, false, Option, Some, None}
use Rattle.sc_parse_names.specs.declared.kind.Kind.{Kind}
use Rattle.sc_parse_names.specs.declared.kind.Kind.TheVariants as k
use Rattle.sc_tree.specs.declared.operator.Unary.{Unary}
use Rattle.sc_tree.specs.declared.operator.Unary.TheVariants as unary
use Rattle.sc_tree.specs.declared.operator.Postfix.{Postfix}
use Rattle.sc_tree.specs.declared.operator.Postfix.TheVariants as postfix
use Rattle.sc_tree.specs.declared.operator.Binary.{Binary}
use Rattle.sc_tree.specs.declared.operator.Binary.TheVariants as binary
use Rattle.sc_tree.specs.declared.expression.TypeWord.{TypeWord}
use Rattle.sc_tree.specs.declared.expression.TypeWord.TheVariants as word

-- the operator before an operand
abbrev pub unary_of : Kind → Option Unary
unary_of k.Increment = Some unary.Increment
unary_of k.Decrement = Some unary.Decrement
unary_of k.Ampersand = Some unary.Address
unary_of k.Star = Some unary.Indirection
unary_of k.Plus = Some unary.Plus
unary_of k.Minus = Some unary.Minus
unary_of k.Tilde = Some unary.Complement
unary_of k.Exclamation = Some unary.Not
unary_of _ = None

-- the level that its operand has at least
abbrev pub operand_of : Unary → ℕ
operand_of unary.Increment = 15
operand_of unary.Decrement = 15
operand_of _ = 14

-- the operator behind an operand
abbrev pub postfix_of : Kind → Option Postfix
postfix_of k.Increment = Some postfix.Increment
postfix_of k.Decrement = Some postfix.Decrement
postfix_of _ = None

-- the operator between two operands
abbrev pub binary_of : Kind → Option Binary
binary_of (k.Operator op) = Some op
binary_of k.Ampersand = Some binary.And
binary_of k.Star = Some binary.Multiply
binary_of k.Plus = Some binary.Add
binary_of k.Minus = Some binary.Subtract
binary_of _ = None

-- how tightly it binds
abbrev pub level_of : Binary → ℕ
level_of binary.LogicalOr = 4
level_of binary.LogicalAnd = 5
level_of binary.Or = 6
level_of binary.Xor = 7
level_of binary.And = 8
level_of binary.Equal = 9
level_of binary.NotEqual = 9
level_of binary.Less = 10
level_of binary.Greater = 10
level_of binary.LessEqual = 10
level_of binary.GreaterEqual = 10
level_of binary.ShiftLeft = 11
level_of binary.ShiftRight = 11
level_of binary.Add = 12
level_of binary.Subtract = 12
level_of binary.Multiply = 13
level_of binary.Divide = 13
level_of binary.Remainder = 13

-- the operator of an assignment, which is None for `=`
abbrev pub assign_of : Kind → Option (Option Binary)
assign_of (k.Assign op) = Some op
assign_of _ = None

-- a type word of one token
abbrev pub word_of : Kind → Option TypeWord
word_of k.Void = Some word.Void
word_of k.Char = Some word.Char
word_of k.Short = Some word.Short
word_of k.Int = Some word.Int
word_of k.Long = Some word.Long
word_of k.Signed = Some word.Signed
word_of k.Unsigned = Some word.Unsigned
word_of _ = None

abbrev pub level_at : Option Binary → ℕ
level_at None = 1
level_at (Some op) = level_of op

-- The level that what stands before the token has at least, so that the token goes on with it; 1 also where it closes a bracket. Nothing goes on with a string.
abbrev pub power_of : Kind → ℕ
power_of (k.Text fits) = 19
power_of k.LeftBracket = 16
power_of k.LeftParen = 16
power_of k.Dot = 16
power_of k.Arrow = 16
power_of k.Increment = 16
power_of k.Decrement = 16
power_of (k.Assign op) = 14
power_of k.Question = 4
power_of kind = level_at (binary_of kind)

-- a token that begins a type name; `typed` says whether a name is that of a type
abbrev pub begins_type : Bool → Kind → Bool
begins_type typed k.Name = typed
begins_type typed k.Void = true
begins_type typed k.Char = true
begins_type typed k.Short = true
begins_type typed k.Int = true
begins_type typed k.Long = true
begins_type typed k.Signed = true
begins_type typed k.Unsigned = true
begins_type typed k.Const = true
begins_type typed (k.Struct union) = true
begins_type typed k.Enum = true
begins_type typed _ = false

-- a token that begins specifiers, a storage class among them
abbrev pub begins_specifiers : Bool → Kind → Bool
begins_specifiers typed (k.Storage class) = true
begins_specifiers typed kind = begins_type typed kind

-- a token behind `(` with which parameters begin, or end
abbrev pub begins_parameters : Bool → Kind → Bool
begins_parameters typed k.RightParen = true
begins_parameters typed kind = begins_specifiers typed kind
