-- Yardstick: to be compared with what it restates (docs/TRUST.md).
-- What the operators of `#if` make of numbers, and when that divides by zero (ANSI 3.8.1, 3.2.1.5, 3.3.13 to 3.3.15).
use Rattle.std.specs.Prelude.{ℕ, ◌+◌, ◌-◌, ◌==◌, nat_lt, Bool, true, false, not, ◌&&◌, ◌||◌, if◌then◌else◌, bit_and, bit_or, bit_xor}
use Rattle.sc_pp_condition.specs.declared.number.Value.{Value}
use Rattle.sc_pp_condition.specs.declared.operand.Operand.{Operand}
use Rattle.sc_pp_condition.specs.declared.operator.Operator.{Operator}
use Rattle.sc_pp_condition.specs.declared.operator.Operator.TheVariants as o
use Rattle.sc_pp_condition.specs.Numbers.{minus, sum, difference, product, quotient, remainder, is_less, shifted_left, shifted_right}

abbrev pub leaf : Value → Operand
leaf v = record { value = v; stops = false; height = 1 }

-- heights above 200 are all 201
abbrev pub grown : ℕ → ℕ
grown h = if nat_lt 200 h then 201 else h + 1

abbrev pub greater : ℕ → ℕ → ℕ
greater a b = if nat_lt a b then b else a

abbrev pub truth : Bool → Value
truth b = record { bits = if b then 1 else 0; is_unsigned = false }

abbrev pub prefix_value : Operator → Value → Value
prefix_value o.Not a = truth (a.bits == 0)
prefix_value o.Complement a = record { bits = 4294967295 - a.bits; is_unsigned = a.is_unsigned }
prefix_value o.Minus a = record { bits = minus a.bits; is_unsigned = a.is_unsigned }
prefix_value _ a = record { bits = a.bits; is_unsigned = a.is_unsigned }

abbrev pub prefixed : Operator → Operand → Operand
prefixed op a = record { value = prefix_value op a.value; stops = a.stops; height = grown a.height }

abbrev pub relation : Operator → Bool → ℕ → ℕ → Bool
relation o.LogicalOr unsigned a b = not (a == 0) || not (b == 0)
relation o.LogicalAnd unsigned a b = not (a == 0) && not (b == 0)
relation o.Equal unsigned a b = a == b
relation o.NotEqual unsigned a b = not (a == b)
relation o.Less unsigned a b = is_less unsigned a b
relation o.Greater unsigned a b = is_less unsigned b a
relation o.LessEqual unsigned a b = not (is_less unsigned b a)
relation o.GreaterEqual unsigned a b = not (is_less unsigned a b)
relation _ unsigned a b = false

abbrev pub is_relation : Operator → Bool
is_relation o.LogicalOr = true
is_relation o.LogicalAnd = true
is_relation o.Equal = true
is_relation o.NotEqual = true
is_relation o.Less = true
is_relation o.Greater = true
is_relation o.LessEqual = true
is_relation o.GreaterEqual = true
is_relation _ = false

abbrev pub arithmetic : Operator → Bool → ℕ → ℕ → ℕ
arithmetic o.Or unsigned a b = bit_or a b
arithmetic o.Xor unsigned a b = bit_xor a b
arithmetic o.And unsigned a b = bit_and a b
arithmetic o.ShiftLeft unsigned a b = shifted_left a b
arithmetic o.ShiftRight unsigned a b = shifted_right unsigned a b
arithmetic o.Plus unsigned a b = sum a b
arithmetic o.Minus unsigned a b = difference a b
arithmetic o.Times unsigned a b = product a b
arithmetic o.Divide unsigned a b = quotient unsigned a b
arithmetic o.Remainder unsigned a b = remainder unsigned a b
arithmetic _ unsigned a b = a

-- A shift has the type of its left operand; else one unsigned operand makes both unsigned.
abbrev pub as_unsigned : Operator → Value → Value → Bool
as_unsigned o.ShiftLeft a b = a.is_unsigned
as_unsigned o.ShiftRight a b = a.is_unsigned
as_unsigned _ a b = a.is_unsigned || b.is_unsigned

abbrev pub binary_value : Operator → Value → Value → Value
binary_value op a b =
    if is_relation op then truth (relation op (as_unsigned op a b) a.bits b.bits) else
    record { bits = arithmetic op (as_unsigned op a b) a.bits b.bits; is_unsigned = as_unsigned op a b }

-- Whether the evaluation divides by zero: of `&&` and `||` the right operand is evaluated only where it is asked for.
abbrev pub stops_right : Operator → Operand → Operand → Bool
stops_right o.LogicalAnd a b = not (a.value.bits == 0) && b.stops
stops_right o.LogicalOr a b = a.value.bits == 0 && b.stops
stops_right o.Divide a b = b.stops || b.value.bits == 0
stops_right o.Remainder a b = b.stops || b.value.bits == 0
stops_right _ a b = b.stops

abbrev pub stops : Operator → Operand → Operand → Bool
stops op a b = if a.stops then true else stops_right op a b

abbrev pub applied : Operator → Operand → Operand → Operand
applied op a b = record { value = binary_value op a.value b.value; stops = stops op a b; height = grown (greater a.height b.height) }

-- the operand of `a ? b : c` that is evaluated
abbrev pub side : Operand → Operand → Operand → Operand
side a b c = if a.value.bits == 0 then c else b

abbrev pub chosen : Operand → Operand → Operand → Operand
chosen a b c = record {
  value = record { bits = (side a b c).value.bits; is_unsigned = b.value.is_unsigned || c.value.is_unsigned };
  stops = a.stops || (side a b c).stops;
  height = grown (greater a.height (greater b.height c.height));
}
