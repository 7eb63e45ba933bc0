-- Inside: plumbing, a representation, an invariant or a promise beside the claim (docs/TRUST.md).
-- Two numbers of 32 bits in registers, and the operators that stand between two operands.
use Rattle.std.specs.Prelude.{◌≡◌, ⊤, ℕ, ◌^◌, ◌<◌, ◌==◌, Bool, false, not, if◌then◌else◌}
use Rattle.sc_base.specs.declared.integer.Int.{Int}
use Rattle.sc_base.specs.declared.operator.Op.{Op}
use Rattle.sc_base.specs.declared.operator.Op.TheVariants.{Neg, Not, Truth, Inc, Dec}
use Rattle.sc_core.specs.declared.expression.UnaryOperator.{UnaryOperator}
use Rattle.sc_core.specs.declared.expression.UnaryOperator.TheVariants as unary
use Rattle.sc_ops.specs.Operators.{truth_of, value_of}
use Rattle.sc_isa.specs.declared.instruction.Instr.TheVariants.{Branch}
use Rattle.sc_emu.specs.Operations.{is_taken, plain}
use Rattle.sc_gen_code.specs.declared.symbolic.Symbolic.{Symbolic}
use Rattle.sc_gen_code.specs.declared.symbolic.Symbolic.TheVariants.{Plain}
use Rattle.sc_compiled_values.specs.Straight.{Words}

-- the sixteen operators between two operands (ANSI 3.3.5 to 3.3.12)
abbrev pub IsOperator : Op → Type 0
IsOperator Neg = ⊥
IsOperator Not = ⊥
IsOperator Truth = ⊥
IsOperator Inc = ⊥
IsOperator Dec = ⊥
IsOperator _ = ⊤

-- two registers hold numbers of 32 bits, and register 0 holds 0
pub record Operands (r : Words) (x y n m : ℕ) : Type 0 where
  pub zero : r 0 ≡ plain 0
  pub left : r x ≡ plain n
  pub right : r y ≡ plain m
  pub wide : n < 2 ^ 32
  pub broad : m < 2 ^ 32

-- whether the machine takes a branch
abbrev pub takes : Symbolic → Words → Bool
takes (Plain (Branch b x y z)) r = is_taken b (r x).bits (r y).bits
takes _ r = false

-- the truth of a value, or of its opposite
abbrev pub told : Bool → ℕ → Bool
told sense v = if sense then not (v == 0) else v == 0

-- what `+ - ~ !` mean of a number of the promoted type k (ANSI 3.3.3.3)
abbrev pub single : UnaryOperator → Int → ℕ → ℕ
single unary.Plus k n = n
single unary.Minus k n = value_of Neg k 0 n
single unary.Complement k n = value_of Not k 0 n
single unary.Not k n = truth_of (n == 0)
