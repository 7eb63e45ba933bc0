-- Yardstick: to be compared with what it restates (docs/TRUST.md).
-- How many turns of the machine stand between two units of the meaning's work, over the code of the templates. A turn is an instruction,
-- and one more for a service. A unit is the beginning and the end of an expression that is no conversion, of a statement and of an
-- initialised declarator, and each label of a `switch` that is compared.
use Rattle.std.specs.Prelude.{ℕ, zero, suc, ◌+◌, ◌≤◌, ◌==◌, ◌&&◌, nat_le, nat_lt, not, if◌then◌else◌, max, Bool, true, false, List, [], ◌∷◌, ◌++◌, length, Option, Some, None}
use Rattle.std.specs.List.{list_all}
use Rattle.sc_base.specs.declared.key.Key.{Key}
use Rattle.sc_base.specs.declared.operator.Op.{Op}
use Rattle.sc_base.specs.declared.operator.Op.TheVariants as op
use Rattle.sc_isa.specs.declared.instruction.Instr.{Instr}
use Rattle.sc_isa.specs.declared.instruction.Instr.TheVariants.{Ecall}
use Rattle.sc_core.specs.declared.expression.CoreExpr.{CoreExpr, out-CoreExpr, fold-CoreExpr}
use Rattle.sc_core.specs.declared.expression.CoreExpr.TheOpen.{CoreExpr-F}
use Rattle.sc_core.specs.declared.expression.UnaryOperator.{UnaryOperator}
use Rattle.sc_core.specs.declared.expression.UnaryOperator.TheVariants as unary
use Rattle.sc_core.specs.declared.module.Auto.{Auto}
use Rattle.sc_core.specs.Types.{type_of}
use Rattle.sc_gen_code.specs.declared.symbolic.Symbolic.{Symbolic}
use Rattle.sc_gen_code.specs.declared.symbolic.Symbolic.TheVariants.{Plain, Upper, Lower, Call}
use Rattle.sc_gen_code.specs.declared.symbolic.Access.TheVariants as access
use Rattle.sc_gen_code.specs.declared.symbolic.Target.TheVariants as target
use Rattle.sc_gen_code.specs.declared.style.Style.{Style}
use Rattle.sc_gen_code.specs.declared.style.Spot.{Spot}
use Rattle.sc_gen_code.specs.Code.{Code, a0, a1, li, push, pop, at_target, address, mv}
use Rattle.sc_gen_code.specs.Operators.{convert, reconvert, unary_of, further, is_comparison}
use Rattle.sc_gen_code.specs.Calls.{direct, base_of, marshalled, call_direct, awaited, call_through}
use Rattle.sc_gen_code.specs.Styles.{reloaded, behind, deeper}
use Rattle.sc_gen_operand.specs.declared.plans.Want.{Want}
use Rattle.sc_gen_operand.specs.declared.plans.Want.TheVariants.{Word, Foot}
use Rattle.sc_gen_operand.specs.declared.plans.Plan.{Plan}
use Rattle.sc_gen_operand.specs.declared.plans.Plan.TheVariants.{Neither, Left, Right, Late, Register, Memory}
use Rattle.sc_gen_operand.specs.declared.plans.Operands.{Operands}
use Rattle.sc_gen_operand.specs.Places.{is_direct, is_read, reach, fetch, stands, is_passed}
use Rattle.sc_gen_operand.specs.Plans.{Mode, As, Skips, word, foot, is_fetched, fetched_as, standing, late, value_operands, binary_operands, offset_operands, assign_operands, structure_operands, compound_operands, moving_operands, step_wants}
use Rattle.sc_gen_operand.specs.Templates.{member_end, operated, offset_end, difference_end, compared_end, assign_end, structure_end, compound_end, moving_end, step_end, taken, loaded, count, computed}
use Rattle.sc_gen_expr.specs.Expressions.{place}

abbrev pub instruction_turns : Instr → ℕ
instruction_turns Ecall = 2
instruction_turns _ = 1

abbrev pub symbolic_turns : Symbolic → ℕ
symbolic_turns (Plain i) = instruction_turns i
symbolic_turns (Upper target) = 1
symbolic_turns (Lower what target) = 1
symbolic_turns (Call target) = 1

abbrev pub turns : Code → ℕ
turns [] = 0
turns (w ∷ ws) = symbolic_turns w + turns ws

-- A way through some code: without a unit it takes so many turns; else there are turns before its first unit, the most between two of its
-- units, and turns behind the last one.
pub data Way : Type 0 where
  Plain_way : ℕ → Way
  With_units : (before most behind : ℕ) → Way

abbrev pub unit : Way
unit = With_units 0 0 0

abbrev pub straight : Code → Way
straight code = Plain_way (turns code)

-- one and then the other
abbrev pub follow : Way → Way → Way
follow (Plain_way m) (Plain_way n) = Plain_way (m + n)
follow (Plain_way m) (With_units b k e) = With_units (m + b) k e
follow (With_units b k e) (Plain_way n) = With_units b k (e + n)
follow (With_units b k e) (With_units c m f) = With_units b (max (max k m) (e + c)) f

-- the worse of two ways
abbrev pub either : Way → Way → Way
either (Plain_way m) (Plain_way n) = Plain_way (max m n)
either (Plain_way m) (With_units b k e) = With_units (max m b) (max m k) (max m e)
either (With_units b k e) (Plain_way n) = With_units (max b n) (max k n) (max e n)
either (With_units b k e) (With_units c m f) = With_units (max b c) (max k m) (max e f)

abbrev pub in_order : List Way → Way
in_order [] = Plain_way 0
in_order (w ∷ ws) = follow w (in_order ws)

-- an expression that begins and ends with a unit
abbrev pub node : List Way → Way
node ws = follow unit (follow (in_order ws) unit)

-- the ways through an expression, by what is wanted of it and by where operands wait
abbrev pub Ways : Type 0
Ways = Mode → CoreExpr → Spot → Way

-- an operand that is fetched where it is used, or stands in a register
abbrev pub leaf : Code → Way
leaf code = node (straight code ∷ [])

abbrev pub into : Style → List (List Auto) → Want → ℕ → Ways → CoreExpr → Spot → Way
into st slots w r p e at =
    if is_fetched slots w e then leaf (fetched_as st slots w r e) else follow (p (As w) e at) (straight (mv r a0 ∷ []))

abbrev pub first_by : Option ℕ → Way → Way
first_by None w = w
first_by (Some r) w = leaf []

abbrev pub first : Style → List (List Auto) → Want → Ways → CoreExpr → Spot → Way
first st slots v p a at = first_by (standing st slots v a) (p (As v) a at)

-- The operands of an operator. One that has no code of its own has its units where it would be computed.
abbrev pub left_by : Style → List (List Auto) → Plan → Want → Ways → CoreExpr → Spot → Way
left_by st slots Neither v p a at = leaf []
left_by st slots Left v p a at = first st slots v p a at
left_by st slots Right v p a at = leaf []
left_by st slots Late v p a at = first st slots v p a at
left_by st slots (Register r) v p a at = into st slots v r p a at
left_by st slots Memory v p a at = follow (p (As v) a at) (straight (push at.low))

abbrev pub right_by : Style → List (List Auto) → Plan → Want → Ways → CoreExpr → Spot → Way
right_by st slots Neither w q b at = leaf []
right_by st slots Left w q b at = leaf []
right_by st slots Right w q b at = q (As w) b at
right_by st slots Late w q b at = leaf (late st slots b)
right_by st slots (Register r) w q b at = q (As w) b (deeper at)
right_by st slots Memory w q b at = follow (q (As w) b (behind at)) (straight (pop a1 at.low))

abbrev pub pair : Style → List (List Auto) → Ways → Ways → CoreExpr → CoreExpr → Spot → Operands → (Operands → Code) → Way
pair st slots p q a b at how end =
    node (left_by st slots how.plan how.left p a at ∷ right_by st slots how.plan how.right q b at ∷ straight (end how) ∷ [])

abbrev pub offset : Style → List (List Auto) → Want → Op → ℕ → Ways → Ways → CoreExpr → CoreExpr → Spot → Way
offset st slots w o size p q a b at = pair st slots p q a b at (offset_operands slots w size a b at) (λ how. offset_end st slots how w o size a b)

-- an operand of which something is wanted, or which has no code of its own
abbrev pub wanted : Ways → Option Want → CoreExpr → Spot → Way
wanted p None a at = leaf []
wanted p (Some w) a at = p (As w) a at

-- A direct place is read in its own words.
abbrev pub read : Style → List (List Auto) → Ways → CoreExpr → Spot → Way
read st slots p a at =
    if is_read a then (if is_direct slots a then leaf (taken st slots a a0) else follow (p foot a at) (straight (loaded a a0 a0)))
    else p word a at

-- arguments that are computed
abbrev pub further_arguments : ℕ → List Ways → List CoreExpr → Spot → Way
further_arguments zero ps es at = Plain_way 0
further_arguments (suc n) [] es at = Plain_way 0
further_arguments (suc n) (p ∷ ps) [] at = Plain_way 0
further_arguments (suc n) (p ∷ ps) (e ∷ es) at = follow (straight (push at.low)) (follow (p word e (behind at)) (further_arguments n ps es (behind at)))

abbrev pub arguments : ℕ → List Ways → List CoreExpr → Spot → Way
arguments zero ps es at = Plain_way 0
arguments (suc n) [] es at = Plain_way 0
arguments (suc n) (p ∷ ps) [] at = Plain_way 0
arguments (suc n) (p ∷ ps) (e ∷ es) at = follow (p word e at) (further_arguments n ps es at)

-- and those that are fetched
abbrev pub fetched_from : Style → List (List Auto) → ℕ → ℕ → List CoreExpr → Way
fetched_from st slots from i [] = Plain_way 0
fetched_from st slots from i (e ∷ es) =
    follow (if nat_le from i && nat_lt i 8 then leaf (fetch st slots (10 + i) e) else Plain_way 0) (fetched_from st slots from (i + 1) es)

-- The name of a function that is called by it is a node without code. The end of what the called function does is a unit.
abbrev pub before_call : Style → List (List Auto) → Ways → List Ways → CoreExpr → List CoreExpr → ℕ → Spot → Option Key → List Way
before_call st slots p ps f es n at (Some key) =
    leaf [] ∷ arguments n ps es (behind at) ∷ straight (marshalled (count n) at.low) ∷ fetched_from st slots n 0 es
    ∷ straight (call_direct key (count (length es))) ∷ []
before_call st slots p ps f es n at None =
    p word f at ∷ straight (push at.low) ∷ arguments n ps es (behind at)
    ∷ straight (marshalled (count n) at.low ++ awaited (base_of (count n) at.low)) ∷ fetched_from st slots n 0 es ∷ straight call_through ∷ []

abbrev pub called_by : Style → List (List Auto) → Ways → List Ways → CoreExpr → List CoreExpr → ℕ → Spot → Option Key → Way
called_by st slots p ps f es n at key = node (in_order (before_call st slots p ps f es n at key) ∷ follow unit (straight (reloaded st)) ∷ [])

abbrev pub called : Style → List (List Auto) → Ways → List Ways → CoreExpr → List CoreExpr → Spot → Way
called st slots p ps f es at = called_by st slots p ps f es (computed slots es) at (direct f)

-- n turns of a test and jumps around a part
abbrev pub jumps : ℕ → Way
jumps n = Plain_way n

abbrev pub word_layer : Style → List (List Auto) → CoreExpr-F Ways → CoreExpr-F CoreExpr → CoreExpr → Spot → Way
word_layer st slots _ (CoreExpr-F.Number l t n) e at = leaf (li a0 n)
word_layer st slots _ (CoreExpr-F.Literal l t i) e at = leaf (address (target.Literal i))
word_layer st slots _ (CoreExpr-F.Automatic l t b i) e at = leaf (place st slots e)
word_layer st slots _ (CoreExpr-F.Static l t key) e at = leaf (place st slots e)
word_layer st slots _ (CoreExpr-F.Function l t key) e at = leaf (address (target.Named key))
word_layer st slots (CoreExpr-F.Index _ _ _ p q) (CoreExpr-F.Index l t n a b) e at = offset st slots Word op.Add n p q a b at
word_layer st slots (CoreExpr-F.Call _ _ p ps) (CoreExpr-F.Call l t f es) e at = called st slots p ps f es at
word_layer st slots (CoreExpr-F.Member _ _ _ p) (CoreExpr-F.Member l t n a) e at = node (p word a at ∷ straight (further n) ∷ [])
word_layer st slots (CoreExpr-F.Arrow _ _ _ p) (CoreExpr-F.Arrow l t n a) e at = node (p word a at ∷ straight (further n) ∷ [])
word_layer st slots (CoreExpr-F.Step _ _ _ _ p) (CoreExpr-F.Step l t s n a) e at = node (wanted p (step_wants slots a) a at ∷ straight (step_end st slots s n a) ∷ [])
word_layer st slots (CoreExpr-F.Address _ _ p) (CoreExpr-F.Address l t a) e at = node (p word a at ∷ [])
word_layer st slots (CoreExpr-F.Indirection _ _ p) (CoreExpr-F.Indirection l t a) e at = node (p word a at ∷ [])
word_layer st slots (CoreExpr-F.Unary _ _ _ p) (CoreExpr-F.Unary l t o a) e at = node (p word a at ∷ straight (unary_of o) ∷ [])
word_layer st slots (CoreExpr-F.Cast _ _ p) (CoreExpr-F.Cast l t a) e at = node (p word a at ∷ straight (convert t a0) ∷ [])
word_layer st slots (CoreExpr-F.Binary _ _ _ p q) (CoreExpr-F.Binary l t o a b) e at =
    pair st slots p q a b at (binary_operands st slots o a b at) (λ how. operated st slots how o a b)
word_layer st slots (CoreExpr-F.Offset _ _ _ _ p q) (CoreExpr-F.Offset l t o n a b) e at = offset st slots Word o n p q a b at
word_layer st slots (CoreExpr-F.Difference _ _ _ p q) (CoreExpr-F.Difference l t n a b) e at =
    pair st slots p q a b at (value_operands slots b at) (λ how. difference_end st slots how n a b)
word_layer st slots (CoreExpr-F.Compare _ _ _ p q) (CoreExpr-F.Compare l t o a b) e at =
    pair st slots p q a b at (value_operands slots b at) (λ how. compared_end st slots how o a b)
word_layer st slots (CoreExpr-F.And _ _ p q) (CoreExpr-F.And l t a b) e at = node (p word a at ∷ jumps 1 ∷ either (jumps 1) (q word b at) ∷ jumps 1 ∷ [])
word_layer st slots (CoreExpr-F.Or _ _ p q) (CoreExpr-F.Or l t a b) e at = node (p word a at ∷ jumps 1 ∷ either (jumps 1) (q word b at) ∷ jumps 1 ∷ [])
word_layer st slots (CoreExpr-F.Conditional _ _ p q r) (CoreExpr-F.Conditional l t a b d) e at =
    node (p (Skips true) a at ∷ either (follow (q word b at) (jumps 1)) (follow (jumps 1) (r word d at)) ∷ [])
word_layer st slots (CoreExpr-F.Assign _ _ p q) (CoreExpr-F.Assign l t a b) e at =
    pair st slots p q a b at (assign_operands slots a b at) (λ how. assign_end st slots how a b)
word_layer st slots (CoreExpr-F.AssignStructure _ _ _ p q) (CoreExpr-F.AssignStructure l t n a b) e at =
    pair st slots p q a b at (structure_operands b at) (λ how. structure_end st slots how n a b)
word_layer st slots (CoreExpr-F.Compound _ _ _ _ p q) (CoreExpr-F.Compound l t o k a b) e at =
    pair st slots p q a b at (compound_operands slots o k a b at) (λ how. compound_end st slots how o k a b)
word_layer st slots (CoreExpr-F.CompoundOffset _ _ _ _ p q) (CoreExpr-F.CompoundOffset l t o n a b) e at =
    pair st slots p q a b at (moving_operands slots n a b at) (λ how. moving_end st slots how o n a b)
word_layer st slots (CoreExpr-F.Comma _ _ p q) (CoreExpr-F.Comma l t a b) e at = node (p word a at ∷ q word b at ∷ [])
word_layer st slots (CoreExpr-F.Convert _ _ p) (CoreExpr-F.Convert l t a) e at = follow (read st slots p a at) (straight (reconvert (type_of a) t a0))
word_layer st slots _ _ e at = Plain_way 0

abbrev pub foot_layer : Style → List (List Auto) → CoreExpr-F Ways → CoreExpr-F CoreExpr → CoreExpr → Spot → Way
foot_layer st slots _ (CoreExpr-F.Automatic l t b i) e at = leaf (reach st slots (access.Address a0) e)
foot_layer st slots _ (CoreExpr-F.Static l t key) e at = leaf (reach st slots (access.Address a0) e)
foot_layer st slots _ (CoreExpr-F.Literal l t i) e at = leaf (at_target (access.Address a0) (target.Literal i))
foot_layer st slots (CoreExpr-F.Member _ _ _ p) (CoreExpr-F.Member l t n a) e at = node (p foot a at ∷ straight (member_end n a) ∷ [])
foot_layer st slots (CoreExpr-F.Arrow _ _ _ p) (CoreExpr-F.Arrow l t n a) e at = node (p foot a at ∷ straight (member_end n a) ∷ [])
foot_layer st slots (CoreExpr-F.Address _ _ p) (CoreExpr-F.Address l t a) e at = node (p foot a at ∷ [])
foot_layer st slots (CoreExpr-F.Indirection _ _ p) (CoreExpr-F.Indirection l t a) e at = node (p foot a at ∷ [])
foot_layer st slots (CoreExpr-F.Index _ _ _ p q) (CoreExpr-F.Index l t n a b) e at = offset st slots Foot op.Add n p q a b at
foot_layer st slots (CoreExpr-F.Convert a b p) (CoreExpr-F.Convert l t x) e at =
    if is_passed x t then p foot x at else word_layer st slots (CoreExpr-F.Convert a b p) (CoreExpr-F.Convert l t x) e at
foot_layer st slots p x e at = word_layer st slots p x e at

-- A condition ends with a branch.
abbrev pub compared : Style → List (List Auto) → Ways → Ways → CoreExpr → CoreExpr → Spot → Way
compared st slots p q a b at = pair st slots p q a b at (value_operands slots b at) (λ how. [])

abbrev pub compared_layer : Style → List (List Auto) → Way → CoreExpr-F Ways → CoreExpr-F CoreExpr → CoreExpr → Spot → Way
compared_layer st slots value (CoreExpr-F.Binary _ _ _ p q) (CoreExpr-F.Binary l t o a b) e at =
    if is_comparison o then compared st slots p q a b at else first_by (stands st slots e) value
compared_layer st slots value (CoreExpr-F.Compare _ _ _ p q) (CoreExpr-F.Compare l t o a b) e at =
    if is_comparison o then compared st slots p q a b at else first_by (stands st slots e) value
compared_layer st slots value _ _ e at = first_by (stands st slots e) value

abbrev pub plain_test : Style → List (List Auto) → CoreExpr-F Ways → CoreExpr-F CoreExpr → CoreExpr → Spot → Way
plain_test st slots p x e at = follow (compared_layer st slots (word_layer st slots p x e at) p x e at) (jumps 1)

abbrev pub test_unary : UnaryOperator → Way → Way → Way
test_unary unary.Not inner plain = node (inner ∷ [])
test_unary _ inner plain = plain

abbrev pub test_layer : Style → List (List Auto) → CoreExpr-F Ways → CoreExpr-F CoreExpr → CoreExpr → Spot → Bool → Way
test_layer st slots (CoreExpr-F.Unary l t o p) (CoreExpr-F.Unary m u n a) e at sense =
    test_unary n (p (Skips (not sense)) a at) (plain_test st slots (CoreExpr-F.Unary l t o p) (CoreExpr-F.Unary m u n a) e at)
test_layer st slots (CoreExpr-F.And _ _ p q) (CoreExpr-F.And l t a b) e at sense =
    node (p (Skips true) a at ∷ either (jumps 1) (q (Skips sense) b at) ∷ [])
test_layer st slots (CoreExpr-F.Or _ _ p q) (CoreExpr-F.Or l t a b) e at sense =
    node (p (Skips false) a at ∷ either (jumps 1) (q (Skips sense) b at) ∷ [])
test_layer st slots p x e at sense = plain_test st slots p x e at

abbrev pub expression_layer : Style → List (List Auto) → CoreExpr-F Ways → CoreExpr-F CoreExpr → Ways
expression_layer st slots p x (As Word) e at = word_layer st slots p x e at
expression_layer st slots p x (As Foot) e at = foot_layer st slots p x e at
expression_layer st slots p x (Skips sense) e at = test_layer st slots p x e at sense

abbrev pub ways_of : Style → List (List Auto) → CoreExpr → Ways
ways_of st slots = fold-CoreExpr Ways (λ p m e at. expression_layer st slots p (out-CoreExpr e) m e at)

-- the ways through an expression of a function whose objects stand in these slots
abbrev pub expression_way : Style → List (List Auto) → CoreExpr → Spot → Way
expression_way st slots e at = ways_of st slots e word e at

-- and through a condition
abbrev pub test_way : Style → List (List Auto) → Bool → CoreExpr → Spot → Way
test_way st slots sense e at = ways_of st slots e (Skips sense) e at

-- no piece of code between two units is longer
abbrev pub IsPaid : Way → Type 0
IsPaid (Plain_way n) = n ≤ 63
IsPaid (With_units before most behind) = (before ≤ 63) × (most ≤ 63) × (behind ≤ 63)

-- How many conversions stand on top of an expression, and whether no operand in it is converted twice in a row.
pub record Top : Type 0 where
  pub conversions : ℕ
  pub once : Bool

abbrev pub below : Bool → Top
below b = record { conversions = 0; once = b }

abbrev pub top_layer : CoreExpr-F Top → Top
top_layer (CoreExpr-F.Number l t n) = below true
top_layer (CoreExpr-F.Literal l t i) = below true
top_layer (CoreExpr-F.Automatic l t b i) = below true
top_layer (CoreExpr-F.Static l t key) = below true
top_layer (CoreExpr-F.Function l t key) = below true
top_layer (CoreExpr-F.Index l t n a b) = below (a.once && b.once)
top_layer (CoreExpr-F.Call l t f es) = below (f.once && list_all (λ e. e.once) es)
top_layer (CoreExpr-F.Member l t n a) = below a.once
top_layer (CoreExpr-F.Arrow l t n a) = below a.once
top_layer (CoreExpr-F.Step l t s n a) = below a.once
top_layer (CoreExpr-F.Address l t a) = below a.once
top_layer (CoreExpr-F.Indirection l t a) = below a.once
top_layer (CoreExpr-F.Unary l t o a) = below a.once
top_layer (CoreExpr-F.Cast l t a) = below a.once
top_layer (CoreExpr-F.Binary l t o a b) = below (a.once && b.once)
top_layer (CoreExpr-F.Offset l t o n a b) = below (a.once && b.once)
top_layer (CoreExpr-F.Difference l t n a b) = below (a.once && b.once)
top_layer (CoreExpr-F.Compare l t o a b) = below (a.once && b.once)
top_layer (CoreExpr-F.And l t a b) = below (a.once && b.once)
top_layer (CoreExpr-F.Or l t a b) = below (a.once && b.once)
top_layer (CoreExpr-F.Conditional l t a b d) = below (a.once && (b.once && d.once))
top_layer (CoreExpr-F.Assign l t a b) = below (a.once && b.once)
top_layer (CoreExpr-F.AssignStructure l t n a b) = below (a.once && b.once)
top_layer (CoreExpr-F.Compound l t o k a b) = below (a.once && b.once)
top_layer (CoreExpr-F.CompoundOffset l t o n a b) = below (a.once && b.once)
top_layer (CoreExpr-F.Comma l t a b) = below (a.once && b.once)
top_layer (CoreExpr-F.Convert l t a) = record { conversions = 1 + a.conversions; once = a.once && a.conversions == 0 }

abbrev pub top : CoreExpr → Top
top = fold-CoreExpr Top top_layer
