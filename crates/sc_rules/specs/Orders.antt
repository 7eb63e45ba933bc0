-- Yardstick: to be compared with what it restates (docs/TRUST.md).
-- The order in which each step's tests are made: the first rule whose test holds is the one that the step breaks. Each
-- argument is the answer of one test.
use Rattle.std.specs.Prelude.{Bool, if◌then◌else◌, List, [], ◌∷◌, Option, None, Some}
use Rattle.sc_base.specs.declared.report.Rule.{Rule}
use Rattle.sc_base.specs.declared.report.Rule.TheVariants.{U1, U2, U3, U4, U5, U6, U10, U11, U14, U15}

-- the first rule whose test holds
abbrev pub first_rule : List (Bool × Rule) → Option Rule
first_rule [] = None
first_rule (t ∷ ts) = if t.0 then Some t.1 else first_rule ts

abbrev pub load : (null dead outside misaligned unwritten mixed : Bool) → Option Rule
load null dead outside misaligned unwritten mixed = first_rule ((null, U4) ∷ (dead, U3) ∷ (outside, U2) ∷ (misaligned, U10) ∷ (unwritten, U1) ∷ (mixed, U15) ∷ [])

abbrev pub store : (null dead outside misaligned constant : Bool) → Option Rule
store null dead outside misaligned constant = first_rule ((null, U4) ∷ (dead, U3) ∷ (outside, U2) ∷ (misaligned, U10) ∷ (constant, U11) ∷ [])

-- a range that is read without a test of its alignment
abbrev pub reach : (null dead outside : Bool) → Option Rule
reach null dead outside = first_rule ((null, U4) ∷ (dead, U3) ∷ (outside, U2) ∷ [])

-- a range that is written without one
abbrev pub write : (null dead outside constant : Bool) → Option Rule
write null dead outside constant = first_rule ((null, U4) ∷ (dead, U3) ∷ (outside, U2) ∷ (constant, U11) ∷ [])

-- a pointer and a number are added
abbrev pub shift : (mixed dead leaves : Bool) → Option Rule
shift mixed dead leaves = first_rule ((mixed, U15) ∷ (dead, U3) ∷ (leaves, U5) ∷ [])

abbrev pub difference : (number dead unrelated uneven : Bool) → Option Rule
difference number dead unrelated uneven = first_rule ((number, U15) ∷ (dead, U3) ∷ (unrelated, U6) ∷ (uneven, U5) ∷ [])

abbrev pub equality : (number dead : Bool) → Option Rule
equality number dead = first_rule ((number, U15) ∷ (dead, U3) ∷ [])

abbrev pub order : (number dead unrelated : Bool) → Option Rule
order number dead unrelated = first_rule ((number, U15) ∷ (dead, U3) ∷ (unrelated, U6) ∷ [])

abbrev pub truth : (number dead : Bool) → Option Rule
truth number dead = first_rule ((number, U15) ∷ (dead, U3) ∷ [])

abbrev pub free : (unallocated : Bool) → Option Rule
free unallocated = first_rule ((unallocated, U14) ∷ [])
