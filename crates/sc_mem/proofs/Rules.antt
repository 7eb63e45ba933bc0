-- Lists of tests in two parts, and parts of an object.
use Rattle.std.proofs.Common.{◌≡◌, ℕ, ◌+◌, ◌≤◌, Bool, true, false, List, [], ◌∷◌, ◌++◌, refl, Some, None, arith}
use Rattle.std.proofs.lemmas.Bool.Decides.{nat_tests}
use Rattle.sc_base.specs.declared.report.Rule.{Rule}
use Rattle.std.specs.Option.{IsSome}
use Rattle.sc_mem.specs.Flat.{is_inside, place_in}
use Rattle.sc_rules.specs.Orders.{first_rule}

pub first-front : (xs ys : List (Bool × Rule)) (r : Rule) → first_rule xs ≡ Some r → first_rule (xs ++ ys) ≡ Some r
first-front [] ys r h = absurd (cc)
first-front ((true, r') ∷ xs) ys r h = h
first-front ((false, r') ∷ xs) ys r h = first-front xs ys r h

pub first-rest : (xs ys : List (Bool × Rule)) → first_rule xs ≡ None → first_rule (xs ++ ys) ≡ first_rule ys
first-rest [] ys h = refl
first-rest ((true, r') ∷ xs) ys h = absurd (cc)
first-rest ((false, r') ∷ xs) ys h = first-rest xs ys h

pub inside-part : (from size base n at m : ℕ) → is_inside from size base n ≡ true → base ≤ at → at + m ≤ base + n → is_inside from size at m ≡ true
inside-part from size base n at m h l g = grind (arith, nat_tests)

pub place-end : (heap stack base size : ℕ) → heap ≤ 67108864 → stack ≤ 16777216 → IsSome (place_in heap stack base size) → base + size ≤ 536870912
place-end heap stack base size h g some = grind (arith, nat_tests)
