-- Yardstick: to be compared with what it restates (docs/TRUST.md).
-- The operators of `#if` (ANSI 3.3, 3.4, 3.8.1).
use Rattle.std.specs.Prelude.{ℕ, Bool, true, false}
use Rattle.sc_pp_condition.specs.declared.operator.Operator.{Operator}
use Rattle.sc_pp_condition.specs.declared.operator.Operator.TheVariants as o

abbrev pub is_prefix : Operator → Bool
is_prefix o.Complement = true
is_prefix o.Not = true
is_prefix o.Plus = true
is_prefix o.Minus = true
is_prefix _ = false

-- how tightly it binds between two operands; 1 where it stands before one alone
abbrev pub level_of : Operator → ℕ
level_of o.Complement = 1
level_of o.Not = 1
level_of o.LogicalOr = 4
level_of o.LogicalAnd = 5
level_of o.Or = 6
level_of o.Xor = 7
level_of o.And = 8
level_of o.Equal = 9
level_of o.NotEqual = 9
level_of o.Less = 10
level_of o.Greater = 10
level_of o.LessEqual = 10
level_of o.GreaterEqual = 10
level_of o.ShiftLeft = 11
level_of o.ShiftRight = 11
level_of o.Plus = 12
level_of o.Minus = 12
level_of o.Times = 13
level_of o.Divide = 13
level_of o.Remainder = 13
