-- Machine: the program once more; a theorem ties it to a yardstick (docs/TRUST.md).
-- The code of an expression: it leaves the word of the expression's value, or of its place, in a0 (ANSI 3.3). Where only an address is wanted,
-- it leaves the foot of the place or pointer, without a tag; of a condition it leaves nothing, but the next word is left out where its truth is
-- the one that is said. Its temporaries are the words from an offset above sp on, and the registers from a3 on, as many as the expression needs
-- room for. Every jump stays inside its own construct.
use Rattle.std.specs.Prelude.{ℕ, zero, suc, ◌+◌, ◌-◌, ◌*◌, nat_le, nat_lt, Bool, true, false, not, ◌&&◌, if◌then◌else◌, List, [], ◌∷◌, ◌++◌, length, Option, Some, None, pos, neg_ℤ}
use Rattle.sc_base.specs.declared.key.Key.{Key}
use Rattle.sc_base.specs.declared.operator.Op.{Op}
use Rattle.sc_base.specs.declared.operator.Op.TheVariants as op
use Rattle.sc_isa.specs.declared.instruction.RegOp.TheVariants as reg
use Rattle.sc_core.specs.declared.expression.CoreExpr.{CoreExpr, out-CoreExpr, fold-CoreExpr, map-CoreExpr}
use Rattle.sc_core.specs.declared.expression.CoreExpr.TheOpen.{CoreExpr-F}
use Rattle.sc_core.specs.declared.expression.UnaryOperator.{UnaryOperator}
use Rattle.sc_core.specs.declared.expression.UnaryOperator.TheVariants as unary
use Rattle.sc_core.specs.declared.module.Auto.{Auto}
use Rattle.sc_gen_code.specs.declared.symbolic.Symbolic.{Symbolic}
use Rattle.sc_gen_code.specs.declared.symbolic.Access.TheVariants as access
use Rattle.sc_gen_code.specs.declared.symbolic.Target.TheVariants as target
use Rattle.sc_gen_code.specs.declared.style.Style.{Style}
use Rattle.sc_gen_code.specs.declared.style.Spot.{Spot}
use Rattle.sc_gen_code.specs.Code.{Code, x0, a0, apply, li, push, tagged, at_target, address, over, jump, skip_if, skip_unless}
use Rattle.sc_gen_code.specs.Operators.{convert, unary_of, further, is_comparison}
use Rattle.sc_gen_code.specs.Styles.{behind}
use Rattle.sc_gen_code.specs.Calls.{direct}
use Rattle.sc_gen_operand.specs.declared.plans.Want.{Want}
use Rattle.sc_gen_operand.specs.declared.plans.Want.TheVariants.{Word, Foot}
use Rattle.sc_gen_operand.specs.declared.plans.Operands.{Operands}
use Rattle.sc_gen_operand.specs.declared.templates.Compared.{Compared}
use Rattle.sc_gen_operand.specs.Places.{reach, stands, is_passed}
use Rattle.sc_gen_operand.specs.Plans.{As, Skips, Part, word, foot, unless, left_code, right_code, value_operands, binary_operands, offset_operands, assign_operands, structure_operands, compound_operands, moving_operands, step_wants, read_wants}
use Rattle.sc_gen_operand.specs.Templates.{member_end, operated, offset_end, difference_end, compared_end, assign_end, structure_end, compound_end, moving_end, step_end, read_end, computed, transfer, comparison, branched, is_joined}

-- the word of a place without code of its own
abbrev pub place : Style → List (List Auto) → CoreExpr → Code
place st slots e = reach st slots (access.Address a0) e ++ tagged

-- what is wanted of an expression, or nothing
abbrev pub wanted : Part → Option Want → CoreExpr → Spot → Code
wanted p None a at = []
wanted p (Some w) a at = p (As w) a at

-- two operands, and what is done with them, by how they are computed
abbrev pub pair : Style → List (List Auto) → Part → Part → CoreExpr → CoreExpr → Spot → Operands → (Operands → Code) → Code
pair st slots p q a b at how end = left_code st slots how p a at ++ (right_code st slots how q b at ++ end how)

-- a pointer and an integer
abbrev pub offset : Style → List (List Auto) → Want → Op → ℕ → Part → Part → CoreExpr → CoreExpr → Spot → Code
offset st slots w o size p q a b at = pair st slots p q a b at (offset_operands slots w size a b at) (λ how. offset_end st slots how w o size a b)

-- the right operand is left out by a jump; what is left in a0 becomes 0 or 1
abbrev pub logical : Symbolic → Code → Code → Code
logical skip a b = a ++ (skip ∷ over (length b) ∷ b ++ apply reg.Sltu a0 x0 a0 ∷ [])

abbrev pub choice : Code → Code → Code → Code
choice test b d = test ++ (over (length b + 1) ∷ b ++ over (length d) ∷ d)

-- The first condition of && or || leaves out the jump over the second one, which leads behind it, and over one word more where it decides
-- that the next word is left out.
abbrev pub joined : Bool → Code → Code → Code
joined decides a b = a ++ over (length b + (if decides then 1 else 0)) ∷ b

-- what stands in front of the argument with a number: the one before it waits; and where its own temporaries begin
abbrev pub put_away : ℕ → Spot → Code
put_away i at = if nat_lt 0 i then push at.low else []

abbrev pub argument_spot : ℕ → Spot → Spot
argument_spot i at = if nat_lt 0 i then behind at else at

-- the argument with a number, where it is one of the first n; and where the temporaries of the next one would begin
abbrev pub argument : Part → ℕ → ℕ → CoreExpr → Spot → Code
argument p i n e at = if nat_lt i n then put_away i at ++ p word e (argument_spot i at) else []

abbrev pub spot_behind : ℕ → ℕ → Spot → Spot
spot_behind i n at = if nat_lt i n then argument_spot i at else at

-- arguments, n of which are computed: each but the last waits in a temporary of its own
abbrev pub further_arguments : ℕ → List Part → List CoreExpr → Spot → Code
further_arguments zero ps es at = []
further_arguments (suc n) [] es at = []
further_arguments (suc n) (p ∷ ps) [] at = []
further_arguments (suc n) (p ∷ ps) (e ∷ es) at = push at.low ++ (p word e (behind at) ++ further_arguments n ps es (behind at))

abbrev pub arguments : ℕ → List Part → List CoreExpr → Spot → Code
arguments zero ps es at = []
arguments (suc n) [] es at = []
arguments (suc n) (p ∷ ps) [] at = []
arguments (suc n) (p ∷ ps) (e ∷ es) at = p word e at ++ further_arguments n ps es at

-- the function of a call, which waits in the first temporary where it is no name
abbrev pub callee : Part → CoreExpr → Spot → Option Key → Code
callee p f at (Some key) = []
callee p f at None = p word f at ++ push at.low

abbrev pub called : Style → List (List Auto) → Part → List Part → CoreExpr → List CoreExpr → Spot → Code
called st slots p ps f es at =
    callee p f at (direct f) ++ (arguments (computed slots es) ps es (behind at) ++ transfer st slots es at.low (direct f))

-- the word of one construct, by the code of its operands
abbrev pub word_layer : Style → List (List Auto) → CoreExpr-F Part → CoreExpr-F CoreExpr → CoreExpr → Spot → Code
-- 3, 'a', sizeof
word_layer st slots _ (CoreExpr-F.Number l t n) e at = li a0 n
-- "text"
word_layer st slots _ (CoreExpr-F.Literal l t i) e at = address (target.Literal i)
-- the name of a parameter or an automatic object, of an object of static storage duration, of a function
word_layer st slots _ (CoreExpr-F.Automatic l t b i) e at = place st slots e
word_layer st slots _ (CoreExpr-F.Static l t key) e at = place st slots e
word_layer st slots _ (CoreExpr-F.Function l t key) e at = address (target.Named key)
-- a[b]
word_layer st slots (CoreExpr-F.Index _ _ _ p q) (CoreExpr-F.Index l t n a b) e at = offset st slots Word op.Add n p q a b at
-- f(a, b)
word_layer st slots (CoreExpr-F.Call _ _ p ps) (CoreExpr-F.Call l t f es) e at = called st slots p ps f es at
-- a.m, a->m
word_layer st slots (CoreExpr-F.Member _ _ _ p) (CoreExpr-F.Member l t n a) e at = p word a at ++ further n
word_layer st slots (CoreExpr-F.Arrow _ _ _ p) (CoreExpr-F.Arrow l t n a) e at = p word a at ++ further n
-- a++, a--, ++a, --a
word_layer st slots (CoreExpr-F.Step _ _ _ _ p) (CoreExpr-F.Step l t s n a) e at = wanted p (step_wants slots a) a at ++ step_end st slots s n a
-- &a, *a
word_layer st slots (CoreExpr-F.Address _ _ p) (CoreExpr-F.Address l t a) e at = p word a at
word_layer st slots (CoreExpr-F.Indirection _ _ p) (CoreExpr-F.Indirection l t a) e at = p word a at
-- +a, -a, ~a, !a
word_layer st slots (CoreExpr-F.Unary _ _ _ p) (CoreExpr-F.Unary l t o a) e at = p word a at ++ unary_of o
-- (type) a
word_layer st slots (CoreExpr-F.Cast _ _ p) (CoreExpr-F.Cast l t a) e at = p word a at ++ convert t a0
-- a * b, a / b, a % b, a + b, a - b, a << b, a >> b, a < b, a == b, a & b, a ^ b, a | b on integers
word_layer st slots (CoreExpr-F.Binary _ _ _ p q) (CoreExpr-F.Binary l t o a b) e at =
    pair st slots p q a b at (binary_operands st slots o a b at) (λ how. operated st slots how o a b)
-- a + b, a - b on a pointer and an integer
word_layer st slots (CoreExpr-F.Offset _ _ _ _ p q) (CoreExpr-F.Offset l t o n a b) e at = offset st slots Word o n p q a b at
-- a - b on pointers
word_layer st slots (CoreExpr-F.Difference _ _ _ p q) (CoreExpr-F.Difference l t n a b) e at =
    pair st slots p q a b at (value_operands slots b at) (λ how. difference_end st slots how n a b)
-- a < b, a == b on pointers
word_layer st slots (CoreExpr-F.Compare _ _ _ p q) (CoreExpr-F.Compare l t o a b) e at =
    pair st slots p q a b at (value_operands slots b at) (λ how. compared_end st slots how o a b)
-- a && b
word_layer st slots (CoreExpr-F.And _ _ p q) (CoreExpr-F.And l t a b) e at = logical skip_if (p word a at) (q word b at)
-- a || b
word_layer st slots (CoreExpr-F.Or _ _ p q) (CoreExpr-F.Or l t a b) e at = logical skip_unless (p word a at) (q word b at)
-- a ? b : d
word_layer st slots (CoreExpr-F.Conditional _ _ p q r) (CoreExpr-F.Conditional l t a b d) e at =
    choice (p (Skips true) a at) (q word b at) (r word d at)
-- a = b
word_layer st slots (CoreExpr-F.Assign _ _ p q) (CoreExpr-F.Assign l t a b) e at =
    pair st slots p q a b at (assign_operands slots a b at) (λ how. assign_end st slots how a b)
-- a = b on structures
word_layer st slots (CoreExpr-F.AssignStructure _ _ _ p q) (CoreExpr-F.AssignStructure l t n a b) e at =
    pair st slots p q a b at (structure_operands b at) (λ how. structure_end st slots how n a b)
-- a += b and its kin on integers
word_layer st slots (CoreExpr-F.Compound _ _ _ _ p q) (CoreExpr-F.Compound l t o k a b) e at =
    pair st slots p q a b at (compound_operands slots o k a b at) (λ how. compound_end st slots how o k a b)
-- a += b, a -= b on a pointer and an integer
word_layer st slots (CoreExpr-F.CompoundOffset _ _ _ _ p q) (CoreExpr-F.CompoundOffset l t o n a b) e at =
    pair st slots p q a b at (moving_operands slots n a b at) (λ how. moving_end st slots how o n a b)
-- a, b
word_layer st slots (CoreExpr-F.Comma _ _ p q) (CoreExpr-F.Comma l t a b) e at = p word a at ++ q word b at
-- what C converts by itself: a place is read, an integer becomes one of another type
word_layer st slots (CoreExpr-F.Convert _ _ p) (CoreExpr-F.Convert l t a) e at = wanted p (read_wants slots a) a at ++ read_end st slots a t
word_layer st slots _ _ e at = []

-- the foot of a place or pointer, which is its word where it has no other; no tag is asked for
abbrev pub foot_layer : Style → List (List Auto) → CoreExpr-F Part → CoreExpr-F CoreExpr → CoreExpr → Spot → Code
foot_layer st slots _ (CoreExpr-F.Automatic l t b i) e at = reach st slots (access.Address a0) e
foot_layer st slots _ (CoreExpr-F.Static l t key) e at = reach st slots (access.Address a0) e
foot_layer st slots _ (CoreExpr-F.Literal l t i) e at = at_target (access.Address a0) (target.Literal i)
foot_layer st slots (CoreExpr-F.Member _ _ _ p) (CoreExpr-F.Member l t n a) e at = p foot a at ++ member_end n a
foot_layer st slots (CoreExpr-F.Arrow _ _ _ p) (CoreExpr-F.Arrow l t n a) e at = p foot a at ++ member_end n a
foot_layer st slots (CoreExpr-F.Address _ _ p) (CoreExpr-F.Address l t a) e at = p foot a at
foot_layer st slots (CoreExpr-F.Indirection _ _ p) (CoreExpr-F.Indirection l t a) e at = p foot a at
foot_layer st slots (CoreExpr-F.Index _ _ _ p q) (CoreExpr-F.Index l t n a b) e at = offset st slots Foot op.Add n p q a b at
foot_layer st slots (CoreExpr-F.Convert a b p) (CoreExpr-F.Convert l t x) e at =
    if is_passed x t then p foot x at else word_layer st slots (CoreExpr-F.Convert a b p) (CoreExpr-F.Convert l t x) e at
foot_layer st slots p x e at = word_layer st slots p x e at

-- The operands of what a condition compares, by the code of its value.
abbrev pub condition_layer : Style → List (List Auto) → Code → CoreExpr-F Part → CoreExpr-F CoreExpr → CoreExpr → Spot → Code
condition_layer st slots value (CoreExpr-F.Binary _ _ _ p q) (CoreExpr-F.Binary l t o a b) e at =
    if is_comparison o then left_code st slots (value_operands slots b at) p a at ++ right_code st slots (value_operands slots b at) q b at
    else unless (stands st slots e) value
condition_layer st slots value (CoreExpr-F.Compare _ _ _ p q) (CoreExpr-F.Compare l t o a b) e at =
    if is_comparison o then left_code st slots (value_operands slots b at) p a at ++ right_code st slots (value_operands slots b at) q b at
    else unless (stands st slots e) value
condition_layer st slots value _ _ e at = unless (stands st slots e) value

-- A condition: the next word is left out where its truth is the one that is said.
abbrev pub plain_test : Style → List (List Auto) → CoreExpr-F Part → CoreExpr-F CoreExpr → CoreExpr → Spot → Bool → Code
plain_test st slots p x e at sense =
    condition_layer st slots (word_layer st slots p x e at) p x e at ++ branched (comparison st slots e at) sense (pos 8) ∷ []

abbrev pub test_unary : UnaryOperator → Code → Code → Code
test_unary unary.Not inner plain = inner
test_unary _ inner plain = plain

abbrev pub test_layer : Style → List (List Auto) → CoreExpr-F Part → CoreExpr-F CoreExpr → CoreExpr → Spot → Bool → Code
test_layer st slots (CoreExpr-F.Unary l t o p) (CoreExpr-F.Unary m u n a) e at sense =
    test_unary n (p (Skips (not sense)) a at) (plain_test st slots (CoreExpr-F.Unary l t o p) (CoreExpr-F.Unary m u n a) e at sense)
test_layer st slots (CoreExpr-F.And _ _ p q) (CoreExpr-F.And l t a b) e at sense = joined (not sense) (p (Skips true) a at) (q (Skips sense) b at)
test_layer st slots (CoreExpr-F.Or _ _ p q) (CoreExpr-F.Or l t a b) e at sense = joined sense (p (Skips false) a at) (q (Skips sense) b at)
test_layer st slots p x e at sense = plain_test st slots p x e at sense

abbrev pub expression_layer : Style → List (List Auto) → CoreExpr-F Part → CoreExpr-F CoreExpr → Part
expression_layer st slots p x (As Word) e at = word_layer st slots p x e at
expression_layer st slots p x (As Foot) e at = foot_layer st slots p x e at
expression_layer st slots p x (Skips sense) e at = test_layer st slots p x e at sense

abbrev pub part_of : Style → List (List Auto) → CoreExpr → Part
part_of st slots = fold-CoreExpr Part (λ p m e at. expression_layer st slots p (out-CoreExpr e) m e at)

-- the code of an expression in a function whose objects stand in these slots
abbrev pub expression_code : Style → List (List Auto) → CoreExpr → Spot → Code
expression_code st slots e at = part_of st slots e word e at

-- of a condition
abbrev pub test_code : Style → List (List Auto) → Bool → CoreExpr → Spot → Code
test_code st slots sense e at = part_of st slots e (Skips sense) e at

-- of what a condition compares, and of one that is no !, && or ||
abbrev pub condition_of : Style → List (List Auto) → CoreExpr → Spot → Code
condition_of st slots e at =
    condition_layer st slots (expression_code st slots e at) (map-CoreExpr CoreExpr Part (part_of st slots) (out-CoreExpr e)) (out-CoreExpr e) e at

abbrev pub told : Style → List (List Auto) → CoreExpr → Spot → Bool → Code
told st slots e at sense = condition_of st slots e at ++ branched (comparison st slots e at) sense (pos 8) ∷ []

-- A condition at the end of a loop: back to a place of the text where its truth is the one that is said. A branch reaches 1,024 words back.
abbrev pub is_within : ℕ → ℕ → Bool
is_within top here = nat_le top here && nat_le (here - top) 1024

abbrev pub branch_back : Compared → Bool → ℕ → ℕ → Code
branch_back c sense top here =
    if is_within top here then branched c sense (neg_ℤ (pos (4 * (here - top)))) ∷ []
    else branched c (not sense) (pos 8) ∷ jump (here + 1) top ∷ []

-- by where operands wait, the place to go back to, and the place where the condition's code begins
abbrev pub test_back : Style → List (List Auto) → Bool → CoreExpr → Spot → ℕ → ℕ → Code
test_back st slots sense e at top from =
    if is_joined e then test_code st slots (not sense) e at ++ jump (from + length (test_code st slots (not sense) e at)) top ∷ []
    else condition_of st slots e at ++ branch_back (comparison st slots e at) sense top (from + length (condition_of st slots e at))
