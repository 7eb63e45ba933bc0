-- The areas, the stack first.
use Rattle.std.proofs.Common.{◌≡◌, ℕ, ◌+◌, ◌-◌, ◌≤◌, ◌<◌, true, false, refl, Some, arith}
use Rattle.std.proofs.lemmas.Bool.Decides.{nat_tests}
use Rattle.sc_mem.specs.Flat.{is_inside, place_in}

-- a place above the end of an area is not inside
above : (from size place n : ℕ) → from + size < place → is_inside from size place n ≡ false
above from size place n h = grind (arith, nat_tests)

within : (from size place n : ℕ) → from ≤ place → place + n ≤ from + size → is_inside from size place n ≡ true
within from size place n low high = grind (arith, nat_tests)

pub near_stack : (heap stack place n : ℕ) → heap ≤ 67108864 → stack ≤ 16777216 → 536870912 - stack ≤ place → place - (536870912 - stack) + n ≤ stack → place_in heap stack place n ≡ Some (1048576 + heap + (place - (536870912 - stack)))
near_stack heap stack place n h s low high =
    rw (above 0x08000000 1048576 place n (omega arith))
    (rw (above 0x10000000 heap place n (omega arith))
    (rw (within (0x20000000 - stack) stack place n (omega arith) (omega arith)) refl))
