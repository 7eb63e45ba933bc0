-- Machine: the program once more; a theorem ties it to a yardstick (docs/TRUST.md).
-- The tests of undefined steps that look at pointers and access nothing: comparison, difference, freeing and overlap.
use Rattle.std.specs.Prelude.{ℕ, ◌==◌, ◌&&◌, ◌||◌, Bool, true, false, not, List, Option, ℤ, pos, ◌-ℤ◌, int_div}
use Rattle.std.specs.Ordering.{nat_cmp}
use Rattle.std.specs.declared.cmp.Ordering.{Ordering}
use Rattle.sc_base.specs.declared.memory.Word.{Word}
use Rattle.sc_base.specs.declared.report.Rule.{Rule}
use Rattle.sc_objects.specs.declared.objects.Obj.{Obj}
use Rattle.sc_objects.specs.Numbered.{object_of}
use Rattle.sc_rules.specs.Tests as tests
use Rattle.sc_rules.specs.Orders as orders
use Rattle.sc_mem.specs.Violations.{is_constant, is_dead, is_null, is_number, is_outside, of_object, offset_in}

-- U15 at arithmetic, a comparison or a truth test: an operand of an integer type is a pointer
abbrev pub is_pointer : Word → Bool
is_pointer w = tests.is_pointer (w.tag == 0)

-- U6: the pointers are into different objects, or null and another. A function's pointer is into no object
abbrev pub are_unrelated : List Obj → Word → Word → Bool
are_unrelated objects p q = tests.are_unrelated (is_null p && is_null q) (not (p.tag == q.tag) || of_object true (λ o. false) (object_of objects p.tag))

-- the bytes from q to p
abbrev pub distance : List Obj → Word → Word → ℤ
distance objects p q = pos (offset_in objects p) -ℤ pos (offset_in objects q)

-- U5 at a difference: it is no multiple of the element's size
abbrev pub is_uneven : List Obj → Word → Word → ℕ → Bool
is_uneven objects p q size = tests.is_uneven (distance objects p q) size

-- the rule that a truth test breaks
abbrev pub truth_rule : List Obj → Word → Option Rule
truth_rule objects p = orders.truth (is_number p) (is_dead objects p)

-- the rule that a test for equality breaks
abbrev pub equality_rule : List Obj → Word → Word → Option Rule
equality_rule objects p q = orders.equality (is_number p || is_number q) (is_dead objects p || is_dead objects q)

-- the rule that an order breaks
abbrev pub order_rule : List Obj → Word → Word → Option Rule
order_rule objects p q = orders.order (is_number p || is_number q) (is_dead objects p || is_dead objects q) (are_unrelated objects p q)

-- the rule that a difference in elements of this size breaks
abbrev pub difference_rule : List Obj → Word → Word → ℕ → Option Rule
difference_rule objects p q size = orders.difference (is_number p || is_number q) (is_dead objects p || is_dead objects q) (are_unrelated objects p q) (is_uneven objects p q size)

-- what the steps give where no rule is broken: null is false, and two pointers are equal where they are one pointer
abbrev pub truth_of : Word → Bool
truth_of p = not (is_null p)

abbrev pub is_same : Word → Word → Bool
is_same p q = (p.bits == q.bits) && (p.tag == q.tag)

abbrev pub order_of : List Obj → Word → Word → Ordering
order_of objects p q = nat_cmp (offset_in objects p) (offset_in objects q)

abbrev pub elements_of : List Obj → Word → Word → ℕ → ℤ
elements_of objects p q size = int_div (distance objects p q) (pos size)

-- the rule that a write of n bytes that tests no alignment breaks
abbrev pub write_rule : List Obj → Word → ℕ → Option Rule
write_rule objects p n = orders.write (is_null p) (is_dead objects p) (is_outside objects p n) (is_constant objects p)

-- U14: a pointer to be freed is not null, and not the start of a live allocated object
abbrev pub is_unallocated : List Obj → Word → Bool
is_unallocated objects p = tests.is_unallocated (is_null p) (of_object true (λ o. tests.is_no_block o.live o.kind 0 (offset_in objects p)) (object_of objects p.tag))

-- the rule that freeing breaks
abbrev pub free_rule : List Obj → Word → Option Rule
free_rule objects p = orders.free (is_unallocated objects p)

-- U18: n bytes from p on and m bytes from q on have a byte in common
abbrev pub is_overlapping : List Obj → Word → ℕ → Word → ℕ → Bool
is_overlapping objects p n q m = tests.are_overlapping (p.tag == q.tag) (offset_in objects p) n (offset_in objects q) m
