-- Yardstick: to be compared with what it restates (docs/TRUST.md).
-- The tests of undefined steps over objects by number: each is the one test of its rule, on what the pointer's object and
-- offset find. All objects stand at multiples of 4, so
-- the offset alone tells whether an access is aligned.
use Rattle.std.specs.Prelude.{ℕ, ◌+◌, ◌==◌, ◌&&◌, ◌||◌, Bool, true, false, not, List, [], ◌∷◌, Option, None, Some, ℤ, pos, ◌+ℤ◌, ◌-ℤ◌, ◌*ℤ◌}
use Rattle.std.specs.List.{list_any, list_all}
use Rattle.sc_base.specs.declared.integer.Int.{Int}
use Rattle.sc_base.specs.declared.operator.Op.{Op}
use Rattle.sc_base.specs.declared.report.Rule.{Rule}
use Rattle.sc_base.specs.declared.report.Rule.TheVariants.{U1, U2, U3, U4, U5, U6, U10, U11, U14, U15}
use Rattle.sc_ops.specs.Operators.{rule_of}
use Rattle.sc_rules.specs.Tests as tests
use Rattle.sc_rules.specs.Orders as orders
use Rattle.sc_meaning.specs.Values.{Value, Number, FunctionAt, Pointer, Cell, Unwritten, Byte, Piece, pointer_of}
use Rattle.sc_meaning.specs.World.{Object, object_at, cells_at}

-- the object into which a pointer points
abbrev pub object_of : List Object → Value → Option Object
object_of objects (Number n) = None
object_of objects (FunctionAt k) = None
object_of objects (Pointer o i) = object_at objects o

-- a test on the object of a pointer, and the answer where it has none
abbrev pub of_object : Bool → (Object → Bool) → Option Object → Bool
of_object none test None = none
of_object none test (Some o) = test o

abbrev pub offset_of : Value → ℕ
offset_of (Number n) = 0
offset_of (FunctionAt k) = 0
offset_of (Pointer o i) = i

abbrev pub bits : Value → ℕ
bits (Number n) = n
bits (FunctionAt k) = 0
bits (Pointer o i) = 0

abbrev pub is_plain : Value → Bool
is_plain (Number n) = true
is_plain (FunctionAt k) = false
is_plain (Pointer o i) = false

-- U4: the pointer is null
abbrev pub is_null : Value → Bool
is_null p = tests.is_null (is_plain p) (bits p)

-- U3: the object is dead
abbrev pub is_dead : List Object → Value → Bool
is_dead objects p = of_object false (λ o. tests.is_dead o.live) (object_of objects p)

-- U2: the n bytes are not inside the object, or the pointer has none, as a function's and a number
abbrev pub is_outside : List Object → Value → ℕ → ℕ → Bool
is_outside objects p further n = of_object true (λ o. tests.ends_outside o.size (offset_of p + further) n) (object_of objects p)

-- U10: the place is no multiple of the size
abbrev pub is_misaligned : Value → ℕ → ℕ → Bool
is_misaligned p further n = tests.is_misaligned (offset_of p + further) n

-- U11: a write to a constant object or a literal
abbrev pub is_constant : List Object → Value → Bool
is_constant objects p = of_object false (λ o. tests.is_constant o.kind) (object_of objects p)

abbrev pub is_unwritten : Cell → Bool
is_unwritten Unwritten = true
is_unwritten _ = false

-- U1: a byte that is read is unwritten
abbrev pub reads_unwritten : List Cell → Bool
reads_unwritten cells = tests.reads_unwritten is_unwritten cells

abbrev pub is_fragment : Cell → Bool
is_fragment (Piece p k) = true
is_fragment _ = false

abbrev pub is_zero : Cell → Bool
is_zero (Byte b) = b == 0
is_zero _ = false

abbrev pub is_none : {A : Type 0} → Option A → Bool
is_none None = true
is_none (Some a) = false

-- U15: a number is read and a byte is a pointer's; or a pointer is read and the bytes are neither one pointer's
-- pieces in order nor all zero
abbrev pub is_mixed : Bool → List Cell → Bool
is_mixed pointer cells = tests.is_mixed pointer (list_any is_fragment cells) (list_all is_zero cells) (is_none (pointer_of cells))

-- the n bytes that an access reads
abbrev pub cells_read : List Object → Value → ℕ → ℕ → List Cell
cells_read objects (Number m) further n = []
cells_read objects (FunctionAt k) further n = []
cells_read objects (Pointer o i) further n = cells_at objects o (i + further) n

-- the rule that a load of n bytes breaks, `further` bytes from where a pointer points
abbrev pub load_rule : List Object → Value → ℕ → ℕ → Bool → Option Rule
load_rule objects p further n pointer = orders.load (is_null p) (is_dead objects p) (is_outside objects p further n) (is_misaligned p further n) (reads_unwritten (cells_read objects p further n)) (is_mixed pointer (cells_read objects p further n))

-- the rule that a store of n bytes breaks
abbrev pub store_rule : List Object → Value → ℕ → ℕ → Option Rule
store_rule objects p further n = orders.store (is_null p) (is_dead objects p) (is_outside objects p further n) (is_misaligned p further n) (is_constant objects p)

-- the rules of the two ranges of a copy, the one that is read and the one that is written; neither is tested for its
-- alignment
abbrev pub reach_rule : List Object → Value → ℕ → ℕ → Option Rule
reach_rule objects p further n = orders.reach (is_null p) (is_dead objects p) (is_outside objects p further n)

abbrev pub write_rule : List Object → Value → ℕ → ℕ → Option Rule
write_rule objects p further n = orders.write (is_null p) (is_dead objects p) (is_outside objects p further n) (is_constant objects p)

-- U15 at arithmetic, a comparison or a truth test: a pointer is a number other than null
abbrev pub is_number : Value → Bool
is_number p = tests.is_number (is_plain p) (bits p)

-- U15 at the same: an operand of integer type is a pointer
abbrev pub is_pointer : Value → Bool
is_pointer x = tests.is_pointer (is_plain x)

-- where p + n points in its object, for elements of this size
abbrev pub target : Value → ℤ → ℕ → ℤ
target p n size = pos (offset_of p) +ℤ n *ℤ pos size

abbrev pub is_beyond : ℕ → ℤ → Bool
is_beyond size place = tests.is_beyond 0 size place

-- U5: p + n is below its object or past its end, or n is not 0 and p is null; a function is in no object
abbrev pub leaves_object : List Object → Value → ℤ → ℕ → Bool
leaves_object objects p n size = tests.leaves_object (is_null p) n (of_object true (λ o. is_beyond o.size (target p n size)) (object_of objects p))

-- the rule that p + n breaks, where the integer has the value x
abbrev pub shift_rule : List Object → Value → Value → ℤ → ℕ → Option Rule
shift_rule objects p x n size = orders.shift (is_number p || is_pointer x) (is_dead objects p) (leaves_object objects p n size)

-- U6: two pointers into different objects, or null and another
abbrev pub are_apart : Value → Value → Bool
are_apart (Pointer o i) (Pointer p j) = not (o == p)
are_apart _ _ = true

abbrev pub are_unrelated : Value → Value → Bool
are_unrelated p q = tests.are_unrelated (is_plain p && is_plain q) (are_apart p q)

-- U5: a difference that is no multiple of the size of the elements
abbrev pub is_uneven : Value → Value → ℕ → Bool
is_uneven p q size = tests.is_uneven (pos (offset_of p) -ℤ pos (offset_of q)) size

abbrev pub difference_rule : List Object → Value → Value → ℕ → Option Rule
difference_rule objects p q size = orders.difference (is_number p || is_number q) (is_dead objects p || is_dead objects q) (are_unrelated p q) (is_uneven p q size)

-- the rule that `==` or `!=` of two pointers breaks
abbrev pub equality_rule : List Object → Value → Value → Option Rule
equality_rule objects p q = orders.equality (is_number p || is_number q) (is_dead objects p || is_dead objects q)

-- the rule that `<`, `>`, `<=` or `>=` of two pointers breaks
abbrev pub order_rule : List Object → Value → Value → Option Rule
order_rule objects p q = orders.order (is_number p || is_number q) (is_dead objects p || is_dead objects q) (are_unrelated p q)

-- the rule that the truth test of a value of pointer type, or of integer type, breaks
abbrev pub truth_rule : List Object → Bool → Value → Option Rule
truth_rule objects true p = orders.truth (is_number p) (is_dead objects p)
truth_rule objects false x = orders.first_rule ((is_pointer x, U15) ∷ [])

-- the rule that an operator on integers breaks; U7, U8 and U9 are those of its numbers
abbrev pub or_rule : Bool → Rule → Option Rule → Option Rule
or_rule true rule next = Some rule
or_rule false rule next = next

abbrev pub integer_rule : Op → Int → Value → Value → Option Rule
integer_rule op i x y = or_rule (is_pointer x || is_pointer y) U15 (rule_of op i (bits x) (bits y))

-- U18: the range of n bytes to be written meets that of m bytes to be read
abbrev pub is_overlapping : Value → ℕ → Value → ℕ → Bool
is_overlapping (Pointer o i) n (Pointer p j) m = tests.are_overlapping (o == p) i n j m
is_overlapping _ n _ m = false

-- U14: a pointer to be freed is not null, and not the start of a live allocated object
abbrev pub is_unallocated : List Object → Value → Bool
is_unallocated objects p = tests.is_unallocated (is_null p) (of_object true (λ o. tests.is_no_block o.live o.kind 0 (offset_of p)) (object_of objects p))

abbrev pub free_rule : List Object → Value → Option Rule
free_rule objects p = orders.free (is_unallocated objects p)
