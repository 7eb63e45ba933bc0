-- Jumps over parts of a statement are written once these are there.
use Rattle.std.proofs.Common.{◌≡◌, ℕ, ◌+◌, ◌-◌, Bool, true, false, if◌then◌else◌, List, [], ◌∷◌, ◌++◌, length, sym, ap, ◌∙◌, arith, append_assoc, length-append, refl, Option, None, Some}
use Rattle.std.specs.Prelude.{slice_get, slice_set}
use Rattle.std.proofs.Math.Seq.{set-append_seam}
use Rattle.sc_gen_code.specs.declared.symbolic.Symbolic.{Symbolic}
use Rattle.sc_gen_code.specs.Code.{Code, over, jump}
use Rattle.sc_gen_body.specs.declared.jumps.Place.{Place}
use Rattle.sc_gen_body.specs.Jumps.{leaving, go}
use Rattle.sc_gen_body.specs.Statements.{choice, loop, switched, tested}

-- blocks are left, then the jump stands behind that
pub go_is : (c0 c1 c2 : Code) (blocks : List ℕ) (place : Place) (block : Option ℕ) (here : ℕ) (w : Symbolic) → block ≡ slice_get blocks place.depth →
    c1 ≡ c0 ++ leaving block → here ≡ length c1 → w ≡ jump here place.word → c2 ≡ c1 ++ w ∷ [] → c2 ≡ c0 ++ go blocks (length c0) place
go_is c0 c1 c2 blocks place block here w same e1 at j e2 =
    let out = leaving block in
    let long : here ≡ length c0 + length out = at ∙ ap length e1 ∙ length-append c0 out in
    e2
    ∙ ap (λ (x : Symbolic). c1 ++ x ∷ []) (j ∙ ap (λ (k : ℕ). jump k place.word) long)
    ∙ ap (λ (l : Code). l ++ jump (length c0 + length out) place.word ∷ []) e1
    ∙ append_assoc c0 out (jump (length c0 + length out) place.word ∷ [])
    ∙ ap (λ (b : Option ℕ). c0 ++ (leaving b ++ jump (length c0 + length (leaving b)) place.word ∷ [])) same

-- the word behind a base becomes a jump over what stands behind it
pub closed_at : (base mid c : Code) (x : Symbolic) (n : ℕ) → c ≡ base ++ x ∷ mid → n ≡ length base →
    slice_set c n (over (length c - (n + 1))) ≡ base ++ over (length mid) ∷ mid
closed_at base mid c x n e m =
    let l = ap length e ∙ length-append base (x ∷ mid) in
    let d : length c - (n + 1) ≡ length mid = omega arith in
    ap (λ (l : Code). slice_set l n (over (length c - (n + 1)))) e
    ∙ ap (λ (k : ℕ). slice_set (base ++ x ∷ mid) k (over (length c - (n + 1)))) m
    ∙ set-append_seam base x mid (over (length c - (n + 1)))
    ∙ ap (λ (k : ℕ). base ++ over k ∷ mid) d

-- the test of an `if` and its first statement
pub tested_is : (c0 test c1 c2 c3 : Code) (first : ℕ → Code) (n : ℕ) → c1 ≡ c0 ++ test → c2 ≡ c1 ++ over 0 ∷ [] →
    n ≡ length c1 → c3 ≡ c2 ++ first (length c2) →
    (c3 ≡ c0 ++ tested test (first (length c0 + length test + 1))) × (n ≡ length c0 + length test)
tested_is c0 test c1 c2 c3 first n e1 e2 at e3 =
    let l1 = ap length e1 ∙ length-append c0 test in
    let l2 = ap length e2 ∙ length-append c1 (over 0 ∷ []) in
    let here : length c2 ≡ length c0 + length test + 1 = omega (arith, l1, l2) in
    let part = first (length c2) in
    let flat : ((c0 ++ test) ++ over 0 ∷ []) ++ part ≡ c0 ++ tested test part = simp append_assoc in (
      e3
          ∙ ap (λ (l : Code). l ++ part) (e2 ∙ ap (λ (l : Code). l ++ over 0 ∷ []) e1)
          ∙ flat
          ∙ ap (λ (k : ℕ). c0 ++ tested test (first k)) here,
      omega (arith, at, l1),
    )

pub branch_is : (c0 test first c1 c2 : Code) (n : ℕ) → c1 ≡ c0 ++ tested test first → n ≡ length c0 + length test →
    c2 ≡ slice_set c1 n (over (length c1 - (n + 1))) → c2 ≡ c0 ++ choice test first None
branch_is c0 test first c1 c2 n e at s =
    let base = c0 ++ test in
    let flat : c0 ++ tested test first ≡ base ++ over 0 ∷ first = simp append_assoc in
    let long : n ≡ length base = omega (arith, at, length-append c0 test) in
    let back : base ++ over (length first) ∷ first ≡ c0 ++ choice test first None = simp append_assoc in
    s ∙ closed_at base first c1 (over 0) n (e ∙ flat) long ∙ back

pub choice_is : (c0 test first c1 c2 c3 c4 : Code) (other : ℕ → Code) (n m : ℕ) → c1 ≡ c0 ++ tested test first → n ≡ length c0 + length test →
    c2 ≡ slice_set (c1 ++ over 0 ∷ []) n (over (length (c1 ++ over 0 ∷ []) - (n + 1))) → m ≡ length c1 → c3 ≡ c2 ++ other (length c2) →
    c4 ≡ slice_set c3 m (over (length c3 - (m + 1))) → c4 ≡ c0 ++ choice test first (Some (other (length c0 + length test + 1 + length first + 1)))
choice_is c0 test first c1 c2 c3 c4 other n m e1 at e2 in1 e3 e4 =
    let base = c0 ++ test in
    let mid = first ++ over 0 ∷ [] in
    let lb = length-append c0 test in
    let long : n ≡ length base = omega (arith, at, lb) in
    let flat : (c0 ++ tested test first) ++ over 0 ∷ [] ≡ base ++ over 0 ∷ mid = simp append_assoc in
    let lm = length-append first (over 0 ∷ []) in
    let more : length mid ≡ length first + 1 = omega (arith, lm) in
    let front = base ++ over (length first + 1) ∷ first in
    let two : c2 ≡ front ++ over 0 ∷ [] =
    e2 ∙ closed_at base mid (c1 ++ over 0 ∷ []) (over 0) n (ap (λ (l : Code). l ++ over 0 ∷ []) e1 ∙ flat) long
    ∙ ap (λ (k : ℕ). base ++ over k ∷ mid) more
    ∙ sym (append_assoc base (over (length first + 1) ∷ first) (over 0 ∷ [])) in
    let lf = length-append base (over (length first + 1) ∷ first) in
    let l2 = ap length two ∙ length-append front (over 0 ∷ []) in
    let there : length c2 ≡ length c0 + length test + 1 + length first + 1 = omega (arith, l2, lf, lb) in
    let l1 = ap length e1 ∙ length-append c0 (tested test first) in
    let l0 = length-append test (over 0 ∷ first) in
    let here : m ≡ length front = omega (arith, in1, l1, l0, lf, lb) in
    let rest = other (length c2) in
    let three : c3 ≡ front ++ over 0 ∷ rest = e3 ∙ ap (λ (l : Code). l ++ rest) two ∙ append_assoc front (over 0 ∷ []) rest in
    let back : front ++ over (length rest) ∷ rest ≡ c0 ++ choice test first (Some rest) = simp append_assoc in
    e4 ∙ closed_at front rest c3 (over 0) m three here ∙ back ∙ ap (λ (k : ℕ). c0 ++ choice test first (Some (other k))) there

-- what stands in front of a loop's body: the first jump is written late, where the loop begins with its test
first_jump : (c0 mid c6 c7 : Code) (body_first : Bool) (k : ℕ) → c6 ≡ c0 ++ over 2 ∷ mid → length mid ≡ 2 + k →
    c7 ≡ (if body_first then c6 else slice_set c6 (length c0) (over (length c6 - (length c0 + 1)))) →
    c7 ≡ c0 ++ over (2 + (if body_first then 0 else k)) ∷ mid
first_jump c0 mid c6 c7 true k e l t = t ∙ e
first_jump c0 mid c6 c7 false k e l t = t ∙ closed_at c0 mid c6 (over 2) (length c0) e refl ∙ ap (λ (n : ℕ). c0 ++ over n ∷ mid) l

-- the test stands behind the body and what comes after each turn
pub loop_is : (c0 c1 c2 c3 c4 c5 c6 c7 c8 c9 : Code) (body : ℕ → Code) (after : Code) (test : ℕ → ℕ → Code) (body_first : Bool) (x y : Symbolic) →
    c1 ≡ c0 ++ over 2 ∷ [] → c2 ≡ c1 ++ x ∷ [] → c3 ≡ c2 ++ y ∷ [] → c4 ≡ c3 ++ body (length c3) →
    c5 ≡ slice_set c4 (length c2) (over (length c4 - (length c2 + 1))) → c6 ≡ c5 ++ after →
    c7 ≡ (if body_first then c6 else slice_set c6 (length c0) (over (length c6 - (length c0 + 1)))) →
    c8 ≡ c7 ++ test (length c7) (length c3) → c9 ≡ slice_set c8 (length c1) (over (length c8 - (length c1 + 1))) →
    c9 ≡ c0 ++ loop body_first (body (length c0 + 3)) after (test (length c0 + 3 + length (body (length c0 + 3)) + length after) (length c0 + 3))
loop_is c0 c1 c2 c3 c4 c5 c6 c7 c8 c9 body after test body_first x y e1 e2 e3 e4 e5 e6 e7 e8 e9 =
    let l1 = ap length e1 ∙ length-append c0 (over 2 ∷ []) in
    let l2 = ap length e2 ∙ length-append c1 (x ∷ []) in
    let l3 = ap length e3 ∙ length-append c2 (y ∷ []) in
    let at : length c3 ≡ length c0 + 3 = omega arith in
    let part = body (length c3) in
    let whole = e4 ∙ ap (λ (l : Code). l ++ part) e3 ∙ append_assoc c2 (y ∷ []) part in
    let shut = e5 ∙ closed_at c2 part c4 y (length c2) whole refl in
    let inner = over (length part) ∷ part in
    let mid = x ∷ (inner ++ after) in
    let front = e2 ∙ ap (λ (l : Code). l ++ x ∷ []) e1 in
    let flat6 : (((c0 ++ over 2 ∷ []) ++ x ∷ []) ++ inner) ++ after ≡ c0 ++ over 2 ∷ mid = simp append_assoc in
    let six = e6 ∙ ap (λ (l : Code). l ++ after) (shut ∙ ap (λ (l : Code). l ++ inner) front) ∙ flat6 in
    let long : length mid ≡ 2 + (length part + length after) = omega (arith, length-append part after) in
    let w = over (2 + (if body_first then 0 else length part + length after)) in
    let seven = first_jump c0 mid c6 c7 body_first (length part + length after) six long e7 in
    let end = test (length c7) (length c3) in
    let behind = (inner ++ after) ++ end in
    let eight : c8 ≡ (c0 ++ w ∷ []) ++ x ∷ behind = e8 ∙ ap (λ (l : Code). l ++ end) seven ∙ simp append_assoc in
    let l7 = ap length seven ∙ length-append c0 (w ∷ mid) in
    let from : length c7 ≡ length c0 + 3 + length part + length after = omega arith in
    let start : length c1 ≡ length (c0 ++ w ∷ []) = omega (arith, length-append c0 (w ∷ [])) in
    let size : length behind ≡ 1 + length part + length after + length end = omega (arith, length-append (inner ++ after) end, length-append inner after) in
    let flat : (c0 ++ w ∷ []) ++ over (1 + length part + length after + length end) ∷ behind ≡ c0 ++ loop body_first part after end = simp append_assoc in
    e9
    ∙ closed_at (c0 ++ w ∷ []) behind c8 x (length c1) eight start
    ∙ ap (λ (k : ℕ). (c0 ++ w ∷ []) ++ over k ∷ behind) size
    ∙ flat
    ∙ ap (λ (k : ℕ). c0 ++ loop body_first part after (test k (length c3))) from
    ∙ ap (λ (k : ℕ). c0 ++ loop body_first (body k) after (test (length c0 + 3 + length (body k) + length after) k)) at

pub switch_is : (c0 value c1 c2 c3 c4 c5 c6 c7 c8 c9 : Code) (body : ℕ → Code) (labels : ℕ → Code) (x y z : Symbolic) →
    c1 ≡ c0 ++ value → c2 ≡ c1 ++ x ∷ [] → c3 ≡ c2 ++ y ∷ [] → c4 ≡ c3 ++ body (length c3) → c5 ≡ c4 ++ z ∷ [] →
    c6 ≡ slice_set c5 (length c1) (over (length c5 - (length c1 + 1))) → c7 ≡ c6 ++ labels (length c6) →
    c8 ≡ slice_set c7 (length c4) (over (length c7 - (length c4 + 1))) → c9 ≡ slice_set c8 (length c2) (over (length c8 - (length c2 + 1))) →
    c9 ≡ c0 ++ switched value (body (length c0 + length value + 2)) (labels (length c0 + length value + 2 + length (body (length c0 + length value + 2)) + 1))
switch_is c0 value c1 c2 c3 c4 c5 c6 c7 c8 c9 body labels x y z e1 e2 e3 e4 e5 e6 e7 e8 e9 =
    let l1 = ap length e1 ∙ length-append c0 value in
    let l2 = ap length e2 ∙ length-append c1 (x ∷ []) in
    let l3 = ap length e3 ∙ length-append c2 (y ∷ []) in
    let at : length c3 ≡ length c0 + length value + 2 = omega arith in
    let part = body (length c3) in
    let l4 = ap length e4 ∙ length-append c3 part in
    let five : c5 ≡ c1 ++ x ∷ (y ∷ part ++ z ∷ []) =
    e5 ∙ ap (λ (l : Code). l ++ z ∷ []) (e4 ∙ ap (λ (l : Code). l ++ part) (e3 ∙ ap (λ (l : Code). l ++ y ∷ []) e2)) ∙ simp append_assoc in
    let size5 : length (y ∷ part ++ z ∷ []) ≡ 1 + length part + 1 = omega (arith, length-append part (z ∷ [])) in
    let u = over (1 + length part + 1) in
    let six : c6 ≡ c1 ++ u ∷ (y ∷ part ++ z ∷ []) =
    e6 ∙ closed_at c1 (y ∷ part ++ z ∷ []) c5 x (length c1) five refl ∙ ap (λ (k : ℕ). c1 ++ over k ∷ (y ∷ part ++ z ∷ [])) size5 in
    let l6 = ap length six ∙ length-append c1 (u ∷ (y ∷ part ++ z ∷ [])) in
    let there : length c6 ≡ length c0 + length value + 2 + length part + 1 = omega arith in
    let rest = labels (length c6) in
    let base8 = c1 ++ u ∷ y ∷ part in
    let seven : c7 ≡ base8 ++ z ∷ rest = e7 ∙ ap (λ (l : Code). l ++ rest) six ∙ simp append_assoc in
    let at8 : length c4 ≡ length base8 = omega (arith, length-append c1 (u ∷ y ∷ part)) in
    let eight : c8 ≡ (c1 ++ u ∷ []) ++ y ∷ (part ++ over (length rest) ∷ rest) = e8 ∙ closed_at base8 rest c7 z (length c4) seven at8 ∙ simp append_assoc in
    let at9 : length c2 ≡ length (c1 ++ u ∷ []) = omega (arith, length-append c1 (u ∷ [])) in
    let size9 : length (part ++ over (length rest) ∷ rest) ≡ length part + 1 + length rest = omega (arith, length-append part (over (length rest) ∷ rest)) in
    let flat : ((c0 ++ value) ++ u ∷ []) ++ over (length part + 1 + length rest) ∷ (part ++ over (length rest) ∷ rest) ≡ c0 ++ switched value part rest = simp append_assoc in
    e9
    ∙ closed_at (c1 ++ u ∷ []) (part ++ over (length rest) ∷ rest) c8 y (length c2) eight at9
    ∙ ap (λ (k : ℕ). (c1 ++ u ∷ []) ++ over k ∷ (part ++ over (length rest) ∷ rest)) size9
    ∙ ap (λ (l : Code). (l ++ u ∷ []) ++ over (length part + 1 + length rest) ∷ (part ++ over (length rest) ∷ rest)) e1
    ∙ flat
    ∙ ap (λ (k : ℕ). c0 ++ switched value part (labels k)) there
    ∙ ap (λ (k : ℕ). c0 ++ switched value (body k) (labels (length c0 + length value + 2 + length (body k) + 1))) at
