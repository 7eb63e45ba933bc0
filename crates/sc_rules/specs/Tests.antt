-- Yardstick: to be compared with what it restates (docs/TRUST.md).
-- The tests of undefined steps, one for each rule, on what a pointer and its object are: numbers, marks and kinds
-- (ANSI 3.2.2.1, 3.3.2, 3.3.6, 3.3.8, 3.5.3, 3.5.7, 4.10.3, 4.11.2). Memory finds these by tag and address, the meaning of C by object
-- and offset. Both cite the tests that stand here.
use Rattle.std.specs.Prelude.{ℕ, ◌+◌, ◌%◌, ◌==◌, ◌&&◌, ◌||◌, Bool, true, false, not, nat_lt, min, max, if◌then◌else◌, List, ℤ, pos, int_lt, int_rem}
use Rattle.std.specs.List.{list_any}
use Rattle.sc_base.specs.declared.memory.Kind.{Kind}
use Rattle.sc_base.specs.declared.memory.Kind.TheVariants.{Const, Literal, Heap}

-- U1, at a read: one of the bytes is unwritten, where `unwritten` tells it of a byte
abbrev pub reads_unwritten : {Byte : Type 0} → (Byte → Bool) → List Byte → Bool
reads_unwritten unwritten bytes = list_any unwritten bytes

-- U2, at an access: the n bytes from a place on go past the object's end. An address may lie before its object, too; an
-- offset never does
abbrev pub ends_outside : ℕ → ℕ → ℕ → Bool
ends_outside end place n = nat_lt end (place + n)

abbrev pub begins_outside : ℕ → ℕ → Bool
begins_outside base place = nat_lt place base

-- U3: the object is dead
abbrev pub is_dead : Bool → Bool
is_dead live = not live

-- U4, at an access: the pointer is null, which is a plain number, and 0
abbrev pub is_null : Bool → ℕ → Bool
is_null plain n = plain && (n == 0)

abbrev pub is_not_zero : ℤ → Bool
is_not_zero n = int_lt n (pos 0) || int_lt (pos 0) n

-- U5, at pointer plus number: the result is before the object's begin or past its end
abbrev pub is_beyond : ℕ → ℕ → ℤ → Bool
is_beyond base end place = int_lt place (pos base) || int_lt (pos end) place

-- null plus a number breaks it unless the number is 0; another pointer where its result is beyond
abbrev pub leaves_object : Bool → ℤ → Bool → Bool
leaves_object null n beyond = if null then is_not_zero n else beyond

-- U5, at a difference: it is no multiple of the size of the elements
abbrev pub is_uneven : ℤ → ℕ → Bool
is_uneven distance size = is_not_zero (int_rem distance (pos size))

-- U6, at a difference and an order: the pointers are not two nulls, and not into one object
abbrev pub are_unrelated : Bool → Bool → Bool
are_unrelated nulls apart = if nulls then false else apart

-- U10, at an access: the place is no multiple of its size
abbrev pub is_misaligned : ℕ → ℕ → Bool
is_misaligned place n = not (place % n == 0)

-- U11, at a write: the object is constant, or a literal
abbrev pub is_constant : Kind → Bool
is_constant Const = true
is_constant Literal = true
is_constant _ = false

abbrev pub is_heap : Kind → Bool
is_heap Heap = true
is_heap _ = false

-- U14, at freeing: the pointer is not the begin of a live allocated object; null is freed without effect
abbrev pub is_no_block : Bool → Kind → ℕ → ℕ → Bool
is_no_block live kind base place = not (live && is_heap kind && (place == base))

abbrev pub is_unallocated : Bool → Bool → Bool
is_unallocated null no_block = not null && no_block

-- U15, of an operand of pointer type: it is a plain number, and not 0
abbrev pub is_number : Bool → ℕ → Bool
is_number plain n = plain && not (n == 0)

-- U15, of an operand of integer type: it is a pointer
abbrev pub is_pointer : Bool → Bool
is_pointer plain = not plain

-- U15, at a read: a number is read and one of the bytes is a pointer's; or a pointer is read, and the bytes are
-- neither all 0 nor one pointer's in order
abbrev pub is_mixed : Bool → Bool → Bool → Bool → Bool
is_mixed false pieces zeros no_pointer = pieces
is_mixed true pieces zeros no_pointer = not zeros && no_pointer

-- U18, at a copy: n bytes from one place of an object on and m from another have one in common
abbrev pub are_overlapping : Bool → ℕ → ℕ → ℕ → ℕ → Bool
are_overlapping same i n j m = same && nat_lt (max i j) (min (i + n) (j + m))
