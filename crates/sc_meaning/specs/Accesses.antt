-- Yardstick: to be compared with what it restates (docs/TRUST.md).
-- Loads, stores, copies, and operators: what each gives, or the rule that it breaks (ANSI 3.2.2.1, 3.3).
use Rattle.std.specs.Prelude.{ℕ, ◌+◌, ◌==◌, Bool, true, false, not, nat_lt, nat_le, if◌then◌else◌, Option, ℤ, pos, neg_ℤ, ◌-ℤ◌, int_div}
use Rattle.sc_base.specs.declared.integer.Int.{Int}
use Rattle.sc_base.specs.declared.integer.Int.TheVariants.{UInt, Int as PlainInt}
use Rattle.sc_base.specs.declared.operator.Op.{Op}
use Rattle.sc_base.specs.declared.operator.Op.TheVariants.{Add, Sub, Dec, Lt, Gt, Le, Ge, Eq, Ne, Truth}
use Rattle.sc_base.specs.declared.report.Rule.{Rule}
use Rattle.sc_types.specs.declared.ctype.CType.{CType}
use Rattle.sc_ops.specs.Numbers.{converted, promoted, number_of, bits_of}
use Rattle.sc_ops.specs.Operators.{value_of, truth_of}
use Rattle.sc_meaning.specs.Values.{Value, Number, FunctionAt, Pointer, scalar_size, is_pointer_type, int_of, cells_of, value_of_cells, natural, null, same_value}
use Rattle.sc_meaning.specs.World.{World, pass, Put, Copy}
use Rattle.sc_meaning.specs.Outcomes.{Breach, Outcome, Done, Step, went, unless, access_breach, operand_breach}
use Rattle.sc_meaning.specs.Violations.{load_rule, store_rule, reach_rule, write_rule, shift_rule, difference_rule, equality_rule, order_rule, truth_rule, integer_rule, cells_read, target, bits, offset_of}

-- a number as a value of an integer type; what is no number stays
abbrev pub converted_value : Int → Value → Value
converted_value i (Number n) = Number (converted n i)
converted_value i (FunctionAt k) = FunctionAt k
converted_value i (Pointer o at) = Pointer o at

-- a value as one of a scalar type
abbrev pub as_type : CType → Value → Value
as_type t v = if is_pointer_type t then v else converted_value (int_of t) v

-- the value of a scalar type that stands `further` bytes from where p points
abbrev pub loaded : CType → Value → ℕ → World → Outcome Value
loaded t p further w =
    unless (load_rule w.objects p further (scalar_size t) (is_pointer_type t)) (access_breach p further (scalar_size t) w)
    (λ w. Done (as_type t (value_of_cells (cells_read w.objects p further (scalar_size t)))) w) w

-- writes a value of n bytes without a test
abbrev pub set_at : Value → ℕ → ℕ → Value → World → World
set_at (Number m) further n v w = w
set_at (FunctionAt k) further n v w = w
set_at (Pointer o at) further n v w = pass (Put o (at + further) (cells_of n v)) w

-- a value of a scalar type is stored
abbrev pub stored : CType → Value → ℕ → Value → World → Outcome Value
stored t p further v w =
    unless (store_rule w.objects p further (scalar_size t)) (access_breach p further (scalar_size t) w)
    (λ w. Done v (set_at p further (scalar_size t) v w)) w

-- copies n bytes without a test
abbrev pub copy_at : Value → ℕ → Value → ℕ → ℕ → World → World
copy_at (Pointer o at) further (Pointer p from) beyond n w = pass (Copy o (at + further) p (from + beyond) n) w
copy_at _ further _ beyond n w = w

-- n bytes are copied as they are: first the source is tested, then the target
abbrev pub copied : Value → ℕ → Value → ℕ → ℕ → Step
copied to further from beyond n w =
    unless (reach_rule w.objects from beyond n) (access_breach from beyond n w)
    (unless (write_rule w.objects to further n) (access_breach to further n w)
    (λ w. went (copy_at to further from beyond n w))) w

-- an operator on two integers, which works in the type i
abbrev pub computed : Op → Int → Value → Int → Value → World → Outcome Value
computed op i x j y w =
    unless (integer_rule op i x y) (operand_breach op (promoted i) x (promoted j) y w)
    (λ w. Done (Number (value_of op i (bits x) (bits y))) w) w

-- a place in the same object; null and functions have one alone
abbrev pub placed : Value → ℤ → Value
placed (Number n) at = Number n
placed (FunctionAt k) at = FunctionAt k
placed (Pointer o i) at = Pointer o (natural at)

-- the number that an integer adds to a pointer: its own, or with `-` and `--` its negative
abbrev pub steps_of : Op → Int → Value → ℤ
steps_of Sub i x = neg_ℤ (number_of i (bits x))
steps_of Dec i x = neg_ℤ (number_of i (bits x))
steps_of op i x = number_of i (bits x)

-- the pointer on the left, and on the right
abbrev pub left_breach : Op → Value → Int → Value → World → Rule → Breach
left_breach op p i x w = operand_breach op UInt p (promoted i) x w

abbrev pub right_breach : Op → Value → Int → Value → World → Rule → Breach
right_breach op p i x w = operand_breach op (promoted i) x UInt p w

abbrev pub order_breach : Bool → Op → Value → Int → Value → World → Rule → Breach
order_breach true op p i x w = left_breach op p i x w
order_breach false op p i x w = right_breach op p i x w

-- a pointer and an integer of type i, for elements of this size; whether the pointer stands on the left
abbrev pub shifted : Bool → Op → Value → Int → Value → ℕ → World → Outcome Value
shifted first op p i x size w =
    unless (shift_rule w.objects p x (steps_of op i x) size) (order_breach first op p i x w)
    (λ w. Done (placed p (target p (steps_of op i x) size)) w) w

-- the address of what stands n bytes into the structure at p
abbrev pub member_address : Value → ℕ → World → Outcome Value
member_address p n w = shifted true Add p UInt (Number n) 1 w

-- the difference of two pointers, in elements of this size
abbrev pub difference : Value → Value → ℕ → World → Outcome Value
difference p q size w =
    unless (difference_rule w.objects p q size) (operand_breach Sub UInt p UInt q w)
    (λ w. Done (Number (bits_of (int_div (pos (offset_of p) -ℤ pos (offset_of q)) (pos size)))) w) w

abbrev pub is_equality : Op → Bool
is_equality Eq = true
is_equality Ne = true
is_equality _ = false

abbrev pub compare_rule : Op → World → Value → Value → Option Rule
compare_rule op w p q = if is_equality op then equality_rule w.objects p q else order_rule w.objects p q

-- two pointers into one object, or two nulls, are ordered by their offsets
abbrev pub pointer_test : Op → Value → Value → Bool
pointer_test Eq p q = same_value p q
pointer_test Ne p q = not (same_value p q)
pointer_test Lt p q = nat_lt (offset_of p) (offset_of q)
pointer_test Gt p q = nat_lt (offset_of q) (offset_of p)
pointer_test Le p q = nat_le (offset_of p) (offset_of q)
pointer_test Ge p q = nat_le (offset_of q) (offset_of p)
pointer_test _ p q = false

-- a comparison of two pointers
abbrev pub compared : Op → Value → Value → World → Outcome Value
compared op p q w =
    unless (compare_rule op w p q) (operand_breach op UInt p UInt q w)
    (λ w. Done (Number (truth_of (pointer_test op p q))) w) w

abbrev pub is_true : Value → Bool
is_true (Number n) = not (n == 0)
is_true (FunctionAt k) = true
is_true (Pointer o i) = true

-- whether a scalar of this type is not 0 (3.3.13, 3.6.4.1)
abbrev pub tested : CType → Value → World → Outcome Bool
tested t v w =
    unless (truth_rule w.objects (is_pointer_type t) v) (operand_breach Truth (promoted (int_of t)) v PlainInt null w)
    (λ w. Done (is_true v) w) w
