-- Machine: the program once more; a theorem ties it to a yardstick (docs/TRUST.md).
-- How operands are computed, the left one first, and in which registers they end (ANSI 3.3).
use Rattle.std.specs.Prelude.{ℕ, ◌+◌, nat_lt, Bool, true, false, not, ◌&&◌, if◌then◌else◌, List, [], ◌∷◌, ◌++◌, Option, Some, None, option_and_then, is_some}
use Rattle.sc_base.specs.declared.integer.Int.{Int}
use Rattle.sc_base.specs.declared.operator.Op.{Op}
use Rattle.sc_core.specs.declared.expression.CoreExpr.{CoreExpr}
use Rattle.sc_core.specs.declared.module.Auto.{Auto}
use Rattle.sc_core.specs.Types.{type_of}
use Rattle.sc_gen_code.specs.declared.symbolic.Symbolic.{Symbolic}
use Rattle.sc_gen_code.specs.declared.style.Style.{Style}
use Rattle.sc_gen_code.specs.declared.style.Spot.{Spot}
use Rattle.sc_gen_code.specs.Code.{Code, a0, a1, mv, push, pop}
use Rattle.sc_gen_code.specs.Operators.{machine_type, is_pointer, is_unsigned, immediate}
use Rattle.sc_gen_code.specs.Styles.{behind, deeper}
use Rattle.sc_gen_operand.specs.declared.plans.Want.{Want}
use Rattle.sc_gen_operand.specs.declared.plans.Want.TheVariants.{Word, Foot}
use Rattle.sc_gen_operand.specs.declared.plans.Plan.{Plan}
use Rattle.sc_gen_operand.specs.declared.plans.Plan.TheVariants.{Neither, Left, Right, Late, Register, Memory}
use Rattle.sc_gen_operand.specs.declared.plans.Operands.{Operands}
use Rattle.sc_gen_operand.specs.declared.plans.Pair.{Pair}
use Rattle.sc_gen_operand.specs.Places.{is_direct, is_read, constant, is_leaf, fetch, stands, element, is_foothold, fetch_foot, has_call}

-- what is wanted of an expression: its word; the foot of a place or pointer; of a condition, that its truth is told
pub data Mode : Type 0 where
  As : Want → Mode
  Skips : Bool → Mode

-- the code of an expression, by what is wanted and by where operands wait
abbrev pub Part : Type 0
Part = Mode → CoreExpr → Spot → Code

abbrev pub word : Mode
word = As Word

abbrev pub foot : Mode
foot = As Foot

-- whether an operand is fetched where it is used, and how
abbrev pub is_fetched : List (List Auto) → Want → CoreExpr → Bool
is_fetched slots Word e = is_leaf slots e
is_fetched slots Foot e = is_foothold slots e

abbrev pub fetched_as : Style → List (List Auto) → Want → ℕ → CoreExpr → Code
fetched_as st slots Word r e = fetch st slots r e
fetched_as st slots Foot r e = fetch_foot st slots r e

-- a register gets what is wanted of an expression
abbrev pub into : Style → List (List Auto) → Want → ℕ → Part → CoreExpr → Spot → Code
into st slots w r p e at = if is_fetched slots w e then fetched_as st slots w r e else p (As w) e at ++ mv r a0 ∷ []

-- a first operand stays in the register where it stands, or is computed in a0
abbrev pub standing : Style → List (List Auto) → Want → CoreExpr → Option ℕ
standing st slots Word e = stands st slots e
standing st slots Foot e = None

abbrev pub unless : Option ℕ → Code → Code
unless None code = code
unless (Some r) code = []

abbrev pub first : Style → List (List Auto) → Want → Part → CoreExpr → Spot → Code
first st slots v p a at = unless (standing st slots v a) (p (As v) a at)

abbrev pub or_register : ℕ → Option ℕ → ℕ
or_register r None = r
or_register r (Some k) = k

abbrev pub first_register : Style → List (List Auto) → Want → CoreExpr → ℕ
first_register st slots v a = or_register a0 (standing st slots v a)

-- a right operand that is a leaf is fetched behind the left one
abbrev pub is_late : List (List Auto) → Want → CoreExpr → Bool
is_late slots Word b = is_leaf slots b
is_late slots Foot b = false

abbrev pub late : Style → List (List Auto) → CoreExpr → Code
late st slots b = unless (stands st slots b) (fetch st slots a1 b)

abbrev pub late_register : Style → List (List Auto) → CoreExpr → ℕ
late_register st slots b = or_register a1 (stands st slots b)

-- the left operand waits in a register, where the right one has no call and fewer than five wait already; else in a temporary
abbrev pub waiting_plan : Spot → CoreExpr → Plan
waiting_plan at b = if nat_lt at.depth 5 && not (has_call b) then Register (13 + at.depth) else Memory

abbrev pub operand_plan : List (List Auto) → Want → CoreExpr → Spot → Plan
operand_plan slots w b at = if is_late slots w b then Late else waiting_plan at b

abbrev pub two : Plan → Want → Want → Operands
two plan v w = record { plan = plan; left = v; right = w }

-- two values; two structures
abbrev pub value_operands : List (List Auto) → CoreExpr → Spot → Operands
value_operands slots b at = two (operand_plan slots Word b at) Word Word

abbrev pub structure_operands : CoreExpr → Spot → Operands
structure_operands b at = two (waiting_plan at b) Word Word

-- whether the operators on values of an operand's type work without sign
abbrev pub is_plain : CoreExpr → Bool
is_plain a = is_unsigned (machine_type (type_of a))

-- an operator with a number as one instruction, where there is one
abbrev pub with_number : Op → Bool → ℕ → CoreExpr → Option Symbolic
with_number o u x b = option_and_then (immediate o u x) (constant b)

-- two integers
abbrev pub binary_operands : Style → List (List Auto) → Op → CoreExpr → CoreExpr → Spot → Operands
binary_operands st slots o a b at =
    if is_some (with_number o (is_plain a) (first_register st slots Word a) b) then two Left Word Word else value_operands slots b at

-- a pointer and an integer
abbrev pub offset_operands : List (List Auto) → Want → ℕ → CoreExpr → CoreExpr → Spot → Operands
offset_operands slots w size a b at =
    if is_pointer (type_of a) then (if is_some (element b size) then two Left w Word else two (operand_plan slots Word b at) w Word)
    else two (operand_plan slots w b at) Word w

-- a place, and the value that it gets, or by which it is changed
abbrev pub assign_operands : List (List Auto) → CoreExpr → CoreExpr → Spot → Operands
assign_operands slots a b at = if is_direct slots a then two Right Foot Word else two (waiting_plan at b) Foot Word

abbrev pub changing : List (List Auto) → Bool → CoreExpr → CoreExpr → Spot → Operands
changing slots is_number a b at = if is_number && is_direct slots a then two Neither Foot Word else assign_operands slots a b at

abbrev pub compound_operands : List (List Auto) → Op → Int → CoreExpr → CoreExpr → Spot → Operands
compound_operands slots o k a b at = changing slots (is_some (with_number o (is_unsigned k) a0 b)) a b at

abbrev pub moving_operands : List (List Auto) → ℕ → CoreExpr → CoreExpr → Spot → Operands
moving_operands slots size a b at = changing slots (is_some (element b size)) a b at

-- what is computed of the left operand, and then of the right one
abbrev pub left_by : Style → List (List Auto) → Plan → Want → Part → CoreExpr → Spot → Code
left_by st slots Neither v p a at = []
left_by st slots Left v p a at = first st slots v p a at
left_by st slots Right v p a at = []
left_by st slots Late v p a at = first st slots v p a at
left_by st slots (Register r) v p a at = into st slots v r p a at
left_by st slots Memory v p a at = p (As v) a at ++ push at.low

abbrev pub right_by : Style → List (List Auto) → Plan → Want → Part → CoreExpr → Spot → Code
right_by st slots Neither w q b at = []
right_by st slots Left w q b at = []
right_by st slots Right w q b at = q (As w) b at
right_by st slots Late w q b at = late st slots b
right_by st slots (Register r) w q b at = q (As w) b (deeper at)
right_by st slots Memory w q b at = q (As w) b (behind at) ++ pop a1 at.low

abbrev pub left_code : Style → List (List Auto) → Operands → Part → CoreExpr → Spot → Code
left_code st slots how p a at = left_by st slots how.plan how.left p a at

abbrev pub right_code : Style → List (List Auto) → Operands → Part → CoreExpr → Spot → Code
right_code st slots how q b at = right_by st slots how.plan how.right q b at

-- the registers in which they end
abbrev pub left_register_by : Style → List (List Auto) → Plan → Want → CoreExpr → ℕ
left_register_by st slots Neither v a = a0
left_register_by st slots Left v a = first_register st slots v a
left_register_by st slots Right v a = a0
left_register_by st slots Late v a = first_register st slots v a
left_register_by st slots (Register r) v a = r
left_register_by st slots Memory v a = a1

abbrev pub right_register_by : Style → List (List Auto) → Plan → CoreExpr → ℕ
right_register_by st slots Late b = late_register st slots b
right_register_by st slots _ b = a0

abbrev pub left_register : Style → List (List Auto) → Operands → CoreExpr → ℕ
left_register st slots how a = left_register_by st slots how.plan how.left a

abbrev pub right_register : Style → List (List Auto) → Operands → CoreExpr → ℕ
right_register st slots how b = right_register_by st slots how.plan b

abbrev pub pair_of : Style → List (List Auto) → Operands → CoreExpr → CoreExpr → Pair
pair_of st slots how a b = record { left = left_register st slots how a; right = right_register st slots how b }

-- What is wanted of a place that is stepped: nothing of one without code of its own, else the foot.
abbrev pub step_wants : List (List Auto) → CoreExpr → Option Want
step_wants slots a = if is_direct slots a then None else Some Foot

-- of a place that is read, and of what is converted without a reading (3.2.2.1)
abbrev pub read_wants : List (List Auto) → CoreExpr → Option Want
read_wants slots a = if is_read a then step_wants slots a else Some Word
