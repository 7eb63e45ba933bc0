-- Machine: the program once more; a theorem ties it to a yardstick (docs/TRUST.md).
-- What stands behind the code of operands: the words of operators, assignments and calls (ANSI 3.3).
use Rattle.std.specs.Prelude.{ℕ, ◌+◌, ◌%◌, ◌^◌, ◌==◌, nat_lt, nat_le, Bool, true, false, ◌&&◌, if◌then◌else◌, List, [], ◌∷◌, ◌++◌, length, min, Option, Some, None, ℤ}
use Rattle.sc_base.specs.declared.key.Key.{Key}
use Rattle.sc_base.specs.declared.integer.Int.{Int}
use Rattle.sc_base.specs.declared.operator.Op.{Op}
use Rattle.sc_base.specs.declared.operator.Op.TheVariants as op
use Rattle.sc_types.specs.declared.ctype.CType.{CType}
use Rattle.sc_core.specs.declared.expression.CoreExpr.{CoreExpr, out-CoreExpr}
use Rattle.sc_core.specs.declared.expression.CoreExpr.TheOpen.{CoreExpr-F}
use Rattle.sc_core.specs.declared.expression.Step.{Step}
use Rattle.sc_core.specs.declared.expression.UnaryOperator.{UnaryOperator}
use Rattle.sc_core.specs.declared.expression.UnaryOperator.TheVariants as unary
use Rattle.sc_core.specs.declared.module.Auto.{Auto}
use Rattle.sc_core.specs.Types.{type_of}
use Rattle.sc_gen_code.specs.declared.symbolic.Symbolic.{Symbolic}
use Rattle.sc_gen_code.specs.declared.symbolic.Access.TheVariants as access
use Rattle.sc_gen_code.specs.declared.style.Style.{Style}
use Rattle.sc_gen_code.specs.declared.style.Spot.{Spot}
use Rattle.sc_gen_code.specs.Code.{Code, x0, a0, a1, a2, mv, copied}
use Rattle.sc_gen_code.specs.Operators.{machine_type, is_pointer, is_unsigned, load_of, store_of, load, store, convert, reconvert, operate, moved, advanced, difference, further, by_bytes, is_comparison, branch, next_value, next_register, stepped, changed}
use Rattle.sc_gen_code.specs.Calls.{base_of, marshalled, call_direct, awaited, call_through}
use Rattle.sc_gen_code.specs.Styles.{reloaded}
use Rattle.sc_gen_operand.specs.declared.plans.Want.{Want}
use Rattle.sc_gen_operand.specs.declared.plans.Want.TheVariants.{Word, Foot}
use Rattle.sc_gen_operand.specs.declared.plans.Operands.{Operands}
use Rattle.sc_gen_operand.specs.declared.plans.Pair.{Pair}
use Rattle.sc_gen_operand.specs.declared.templates.Compared.{Compared}
use Rattle.sc_gen_operand.specs.Places.{is_direct, is_read, reach, is_leaf, fetch, is_kept_back, element, away}
use Rattle.sc_gen_operand.specs.Plans.{first_register, is_plain, with_number, pair_of, value_operands}

-- bytes that are not kept back are added; numbers have 32 bits
abbrev pub settle : ℕ → ℕ → Code
settle n m = if is_kept_back n m then [] else further ((n + m) % 2 ^ 32)

-- the bytes of a member are added to the foot of what has it
abbrev pub member_end : ℕ → CoreExpr → Code
member_end n a = settle n (away a)

-- an operator on two integers
abbrev pub operated_by : Style → List (List Auto) → Operands → Op → CoreExpr → CoreExpr → Option Symbolic → Code
operated_by st slots how o a b (Some i) = i ∷ []
operated_by st slots how o a b None = operate o (is_plain a) (pair_of st slots how a b).left (pair_of st slots how a b).right

abbrev pub operated : Style → List (List Auto) → Operands → Op → CoreExpr → CoreExpr → Code
operated st slots how o a b = operated_by st slots how o a b (with_number o (is_plain a) (first_register st slots Word a) b)

-- a pointer and an integer (3.3.2.1, 3.3.6)
abbrev pub moved_end : Style → List (List Auto) → Operands → Op → ℕ → CoreExpr → CoreExpr → Code
moved_end st slots how o size a b = moved o (is_pointer (type_of a)) size (pair_of st slots how a b).left (pair_of st slots how a b).right

abbrev pub nearby : Style → List (List Auto) → Want → Op → ℕ → CoreExpr → Code
nearby st slots Word o n a = by_bytes o (first_register st slots Word a) n ∷ []
nearby st slots Foot o n a = member_end n a

abbrev pub offset_by : Style → List (List Auto) → Operands → Want → Op → ℕ → CoreExpr → CoreExpr → Option ℕ → Code
offset_by st slots how w o size a b (Some n) = nearby st slots w o n a
offset_by st slots how w o size a b None = moved_end st slots how o size a b

abbrev pub offset_end : Style → List (List Auto) → Operands → Want → Op → ℕ → CoreExpr → CoreExpr → Code
offset_end st slots how w o size a b =
    if is_pointer (type_of a) then offset_by st slots how w o size a b (element b size) else moved_end st slots how o size a b

-- the difference of two pointers (3.3.6), and a comparison of two (3.3.8, 3.3.9)
abbrev pub difference_end : Style → List (List Auto) → Operands → ℕ → CoreExpr → CoreExpr → Code
difference_end st slots how size a b = difference size (pair_of st slots how a b).left (pair_of st slots how a b).right

abbrev pub compared_end : Style → List (List Auto) → Operands → Op → CoreExpr → CoreExpr → Code
compared_end st slots how o a b = operate o true (pair_of st slots how a b).left (pair_of st slots how a b).right

-- a direct place is read, or written from a register
abbrev pub taken : Style → List (List Auto) → CoreExpr → ℕ → Code
taken st slots a r = reach st slots (access.Load (load_of (machine_type (type_of a))) r) a

abbrev pub written : Style → List (List Auto) → CoreExpr → ℕ → Code
written st slots a r = reach st slots (access.Store (store_of (machine_type (type_of a))) r) a

-- the place whose foot is in a register is read, or written from a0
abbrev pub loaded : CoreExpr → ℕ → ℕ → Code
loaded a r base = load (type_of a) r base (away a) ∷ []

abbrev pub stored : CoreExpr → ℕ → Code
stored a base = store (type_of a) a0 base (away a) ∷ []

-- = on scalars (3.3.16.1)
abbrev pub assign_end : Style → List (List Auto) → Operands → CoreExpr → CoreExpr → Code
assign_end st slots how a b = if is_direct slots a then written st slots a a0 else stored a (pair_of st slots how a b).left

-- the place of the left structure is in a register, that of the right one in a0
abbrev pub structure_copied : ℕ → ℕ → Code
structure_copied x size =
    (if x == a1 then mv a2 a1 ∷ mv a1 a0 ∷ mv a0 a2 ∷ [] else mv a1 a0 ∷ mv a0 x ∷ []) ++ copied size

abbrev pub structure_end : Style → List (List Auto) → Operands → ℕ → CoreExpr → CoreExpr → Code
structure_end st slots how size a b = structure_copied (pair_of st slots how a b).left size

-- += and its kin on integers: a0 gets the new value of a direct place (3.3.16.2)
abbrev pub by_number : Style → List (List Auto) → Symbolic → CoreExpr → Code
by_number st slots i a = taken st slots a a0 ++ (i ∷ convert (type_of a) a0)

abbrev pub compound_by : Style → List (List Auto) → Op → Int → CoreExpr → Option Symbolic → Code
compound_by st slots o k a (Some i) = by_number st slots i a
compound_by st slots o k a None = taken st slots a a2 ++ changed o k (type_of a)

abbrev pub compound_direct : Style → List (List Auto) → Op → Int → CoreExpr → CoreExpr → Code
compound_direct st slots o k a b = compound_by st slots o k a (with_number o (is_unsigned k) a0 b)

abbrev pub compound_end : Style → List (List Auto) → Operands → Op → Int → CoreExpr → CoreExpr → Code
compound_end st slots how o k a b =
    if is_direct slots a then compound_direct st slots o k a b ++ written st slots a a0
    else loaded a a2 (pair_of st slots how a b).left ++ (changed o k (type_of a) ++ stored a (pair_of st slots how a b).left)

-- += and -= on a pointer
abbrev pub moving_by : Style → List (List Auto) → Op → ℕ → CoreExpr → Option ℕ → Code
moving_by st slots o size a (Some n) = taken st slots a a0 ++ by_bytes o a0 n ∷ []
moving_by st slots o size a None = taken st slots a a2 ++ advanced o size a2 a0

abbrev pub moving_direct : Style → List (List Auto) → Op → ℕ → CoreExpr → CoreExpr → Code
moving_direct st slots o size a b = moving_by st slots o size a (element b size)

abbrev pub moving_end : Style → List (List Auto) → Operands → Op → ℕ → CoreExpr → CoreExpr → Code
moving_end st slots how o size a b =
    if is_direct slots a then moving_direct st slots o size a b ++ written st slots a a0
    else loaded a a2 (pair_of st slots how a b).left ++ (advanced o size a2 a0 ++ stored a (pair_of st slots how a b).left)

-- ++ and -- (3.3.2.4, 3.3.3.1)
abbrev pub step_end : Style → List (List Auto) → Step → ℕ → CoreExpr → Code
step_end st slots s n a =
    if is_direct slots a then taken st slots a a0 ++ (next_value s n (type_of a) (next_register s) ++ written st slots a (next_register s))
    else stepped s n (type_of a) (away a)

-- the value of a scalar's place, or what an operand is without a reading (3.2.2.1)
abbrev pub read : Style → List (List Auto) → CoreExpr → Code
read st slots a = if is_read a then (if is_direct slots a then taken st slots a a0 else loaded a a0 a0) else []

abbrev pub read_end : Style → List (List Auto) → CoreExpr → CType → Code
read_end st slots a t = read st slots a ++ reconvert (type_of a) t a0

-- a call has at most 31 arguments
abbrev pub count : ℕ → ℕ
count n = min n 31

-- How many arguments are computed one after another: all up to the last one that is no leaf. Those behind it are fetched into their registers.
abbrev pub last_computed : List (List Auto) → ℕ → List CoreExpr → ℕ → ℕ
last_computed slots i [] n = n
last_computed slots i (e ∷ es) n = last_computed slots (i + 1) es (if is_leaf slots e then n else i + 1)

abbrev pub computed : List (List Auto) → List CoreExpr → ℕ
computed slots es = if nat_lt 8 (length es) then length es else last_computed slots 0 es 0

abbrev pub fetched_one : Style → List (List Auto) → ℕ → ℕ → CoreExpr → Code
fetched_one st slots from i e = if nat_le from i && nat_lt i 8 then fetch st slots (10 + i) e else []

abbrev pub fetched_from : Style → List (List Auto) → ℕ → ℕ → List CoreExpr → Code
fetched_from st slots from i [] = []
fetched_from st slots from i (e ∷ es) = fetched_one st slots from i e ++ fetched_from st slots from (i + 1) es

abbrev pub fetched : Style → List (List Auto) → ℕ → List CoreExpr → Code
fetched st slots from es = fetched_from st slots from 0 es

-- a call of the function whose address waits, n of whose arguments are computed
abbrev pub through : Style → List (List Auto) → ℕ → List CoreExpr → ℕ → Code
through st slots n es t = awaited (base_of (count n) t) ++ (fetched st slots n es ++ call_through)

-- what stands behind the arguments
abbrev pub called_by : Style → List (List Auto) → ℕ → List CoreExpr → ℕ → Option Key → Code
called_by st slots n es t (Some key) = fetched st slots n es ++ call_direct key (count (length es))
called_by st slots n es t None = through st slots n es t

abbrev pub transfer : Style → List (List Auto) → List CoreExpr → ℕ → Option Key → Code
transfer st slots es t key = marshalled (count (computed slots es)) t ++ (called_by st slots (computed slots es) es t key ++ reloaded st)

-- what a condition compares: two operands, or a value with zero
abbrev pub value_compared : Style → List (List Auto) → CoreExpr → Compared
value_compared st slots e = record { op = op.Ne; unsigned = false; left = first_register st slots Word e; right = x0 }

abbrev pub pair_compared : Op → Bool → Pair → Compared
pair_compared o u pair = record { op = o; unsigned = u; left = pair.left; right = pair.right }

abbrev pub comparison_layer : Style → List (List Auto) → CoreExpr-F CoreExpr → CoreExpr → Spot → Compared
comparison_layer st slots (CoreExpr-F.Binary l t o a b) e at =
    if is_comparison o then pair_compared o (is_plain a) (pair_of st slots (value_operands slots b at) a b) else value_compared st slots e
comparison_layer st slots (CoreExpr-F.Compare l t o a b) e at =
    if is_comparison o then pair_compared o true (pair_of st slots (value_operands slots b at) a b) else value_compared st slots e
comparison_layer st slots _ e at = value_compared st slots e

abbrev pub comparison : Style → List (List Auto) → CoreExpr → Spot → Compared
comparison st slots e at = comparison_layer st slots (out-CoreExpr e) e at

abbrev pub branched : Compared → Bool → ℤ → Symbolic
branched c sense z = branch c.op c.unsigned sense c.left c.right z

-- whether an expression is !, && or ||, of whose operands each is a condition
abbrev pub is_not : UnaryOperator → Bool
is_not unary.Not = true
is_not _ = false

abbrev pub joined_layer : CoreExpr-F CoreExpr → Bool
joined_layer (CoreExpr-F.Unary l t o a) = is_not o
joined_layer (CoreExpr-F.And l t a b) = true
joined_layer (CoreExpr-F.Or l t a b) = true
joined_layer _ = false

abbrev pub is_joined : CoreExpr → Bool
is_joined e = joined_layer (out-CoreExpr e)
