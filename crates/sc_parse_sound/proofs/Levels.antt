-- Facts on levels and the classes of tokens.
use Rattle.std.proofs.Common.{◌≡◌, ℕ, ◌≤◌, Option, Some, refl, ap, arith}
use Rattle.sc_tree.specs.declared.operator.Unary.{Unary}
use Rattle.sc_tree.specs.declared.operator.Unary.TheVariants as unary
use Rattle.sc_tree.specs.declared.operator.Binary.{Binary}
use Rattle.sc_tree.specs.declared.operator.Binary.TheVariants as binary
use Rattle.sc_parse_names.specs.declared.kind.Kind.{Kind}
use Rattle.sc_parse_names.specs.declared.kind.Kind.TheVariants as k
use Rattle.sc_parse_grammar.specs.Kinds.{operand_of, binary_of, level_of, assign_of, power_of, level_at}

pub level-small : (op : Binary) → level_of op ≤ 13
level-small binary.LogicalOr = omega arith
level-small binary.LogicalAnd = omega arith
level-small binary.Or = omega arith
level-small binary.Xor = omega arith
level-small binary.And = omega arith
level-small binary.Equal = omega arith
level-small binary.NotEqual = omega arith
level-small binary.Less = omega arith
level-small binary.Greater = omega arith
level-small binary.LessEqual = omega arith
level-small binary.GreaterEqual = omega arith
level-small binary.ShiftLeft = omega arith
level-small binary.ShiftRight = omega arith
level-small binary.Add = omega arith
level-small binary.Subtract = omega arith
level-small binary.Multiply = omega arith
level-small binary.Divide = omega arith
level-small binary.Remainder = omega arith

pub level-positive : (op : Binary) → 4 ≤ level_of op
level-positive binary.LogicalOr = omega arith
level-positive binary.LogicalAnd = omega arith
level-positive binary.Or = omega arith
level-positive binary.Xor = omega arith
level-positive binary.And = omega arith
level-positive binary.Equal = omega arith
level-positive binary.NotEqual = omega arith
level-positive binary.Less = omega arith
level-positive binary.Greater = omega arith
level-positive binary.LessEqual = omega arith
level-positive binary.GreaterEqual = omega arith
level-positive binary.ShiftLeft = omega arith
level-positive binary.ShiftRight = omega arith
level-positive binary.Add = omega arith
level-positive binary.Subtract = omega arith
level-positive binary.Multiply = omega arith
level-positive binary.Divide = omega arith
level-positive binary.Remainder = omega arith

pub operand-tight : (op : Unary) → 14 ≤ operand_of op
operand-tight unary.Increment = omega arith
operand-tight unary.Decrement = omega arith
operand-tight unary.Address = omega arith
operand-tight unary.Indirection = omega arith
operand-tight unary.Plus = omega arith
operand-tight unary.Minus = omega arith
operand-tight unary.Complement = omega arith
operand-tight unary.Not = omega arith

pub operand-loose : (op : Unary) → operand_of op ≤ 15
operand-loose unary.Increment = omega arith
operand-loose unary.Decrement = omega arith
operand-loose unary.Address = omega arith
operand-loose unary.Indirection = omega arith
operand-loose unary.Plus = omega arith
operand-loose unary.Minus = omega arith
operand-loose unary.Complement = omega arith
operand-loose unary.Not = omega arith

pub power-binary : (kd : Kind) (op : Binary) → binary_of kd ≡ Some op → power_of kd ≡ level_of op
power-binary (k.Text fits) op h = cc
power-binary k.LeftBracket op h = cc
power-binary k.LeftParen op h = cc
power-binary k.Dot op h = cc
power-binary k.Arrow op h = cc
power-binary k.Increment op h = cc
power-binary k.Decrement op h = cc
power-binary (k.Assign o) op h = cc
power-binary k.Question op h = cc
power-binary kd op h = ap level_at h

pub power-assign : (kd : Kind) (op : Option Binary) → assign_of kd ≡ Some op → power_of kd ≡ 14
power-assign (k.Assign o) op h = refl
power-assign kd op h = cc

-- No token binds at 15.
pub not_between : (kd : Kind) (m : ℕ) → power_of kd ≤ 15 → 14 ≤ m → power_of kd ≤ m
not_between (k.Text fits) m h w = absurd (omega arith)
not_between k.LeftBracket m h w = absurd (omega arith)
not_between k.LeftParen m h w = absurd (omega arith)
not_between k.Dot m h w = absurd (omega arith)
not_between k.Arrow m h w = absurd (omega arith)
not_between k.Increment m h w = absurd (omega arith)
not_between k.Decrement m h w = absurd (omega arith)
not_between (k.Assign o) m h w = w
not_between (k.Operator op) m h w = omega (arith, level-small op)
not_between _ m h w = omega arith
