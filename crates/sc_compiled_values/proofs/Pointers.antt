-- The code of pointer arithmetic: a pointer's word and a number give the word of the pointer that they mean.
use Rattle.std.specs.Prelude.{◌&&◌, ◌||◌}
use Rattle.std.proofs.Common.{◌≡◌, ℕ, zero, suc, ◌+◌, ◌-◌, ◌*◌, ◌%◌, ◌<◌, ◌≤◌, ◌==◌, Bool, true, false, not, if◌then◌else◌, ℤ, pos, negsuc, ◌+ℤ◌, ◌*ℤ◌, neg_ℤ, List, [], ◌∷◌, ◌++◌, Some, None, refl, sym, ap, ap₂, ◌∙◌, subst, arith}
use Rattle.std.proofs.lemmas.Bool.Decides.{nat_tests}
use Rattle.sc_base.specs.declared.integer.Int.{Int}
use Rattle.sc_base.specs.declared.integer.Int.TheVariants as int
use Rattle.sc_base.specs.declared.key.Key.{Key}
use Rattle.sc_base.specs.declared.memory.Word.{Word}
use Rattle.sc_base.specs.declared.operator.Op.{Op}
use Rattle.sc_base.specs.declared.operator.Op.TheVariants as op
use Rattle.sc_base.specs.declared.report.Rule.TheVariants.{U3, U5, U15}
use Rattle.sc_rules.specs.Orders.{first_rule}
use Rattle.sc_rules.specs.Tests as tests
use Rattle.sc_objects.specs.declared.objects.Obj.{Obj}
use Rattle.sc_objects.specs.Numbered.{object_of}
use Rattle.sc_mem.specs.Flat.{Flat}
use Rattle.sc_isa.specs.declared.instruction.RegOp.TheVariants as reg
use Rattle.sc_ops.specs.Numbers.{number_of}
use Rattle.sc_emu.specs.Operations.{plain, of_two, sum, difference}
use Rattle.sc_meaning.specs.Values.{Value, Number, FunctionAt, Pointer}
use Rattle.sc_meaning.specs.World.{Object}
use Rattle.sc_meaning.specs.Accesses.{placed, steps_of}
use Rattle.sc_meaning.specs.Violations.{shift_rule, target, is_number, is_pointer, is_dead, leaves_object, is_beyond, of_object, bits}
use Rattle.sc_mem_store.proofs.Holding.{held-at}
use Rattle.sc_gen_code.specs.Code.{a0, apply}
use Rattle.sc_gen_code.specs.Operators.{advanced, add_or_sub, scale}
use Rattle.sc_compiled_frames.specs.Means.{Means}
use Rattle.sc_compiled_frames.specs.Words.{AreSeated, HeldWords}
use Rattle.sc_compiled_values.specs.Straight.{Words, after}
use Rattle.sc_compiled_values.specs.Pointers.{IsMove, Advances}
use Rattle.sc_compiled_values.proofs.Scaling.{Congruent, congruent, sum_up, sum_down, after_both, scale_word, scale_keeps}

-- ---- the address of a pointer
pub record Based (t : List Obj) (x : Word) (o i : ℕ) : Type 0 where
  pub object : Obj
  pub there : object_of t o ≡ Some object
  pub tag : x.tag ≡ o
  pub at : x.bits ≡ object.base + i
  pub inside : i ≤ object.size
  pub high : object.base + object.size < 4294967296

one_object : (p q : Obj) → Some p ≡ Some q → p ≡ q
one_object p q e = cc (e)

address_of : (base size bits i : ℕ) → base + size < 4294967296 → bits < 4294967296 → (bits + (4294967296 - base)) % 4294967296 ≡ i → i ≤ size → bits ≡ base + i
address_of base size bits i top lt is le = omega (arith, top, lt, is, le)

pub based : (f : Key → ℕ) (t : List Obj) (x : Word) (o i : ℕ) → AreSeated t → Means f t x (Pointer o i) → Based t x o i
based f t x o i seated h =
    let (p, tag, there, lt, is) = h.stands in
    let (q, found, le) = h.within in
    let le2 : i ≤ p.size = subst (λ (r : Obj). i ≤ r.size) (one_object q p (sym found ∙ there)) le in
    let top = (seated o p there).1 in
    record { object = p; there = there; tag = tag; at = address_of p.base p.size x.bits i top lt is le2; inside = le2; high = top }

offset_is : (base size a : ℕ) → base + size < 4294967296 → a ≤ size → (base + a + (4294967296 - base)) % 4294967296 ≡ a
offset_is base size a top le = omega (arith, top, le)

below_top : (base size a : ℕ) → base + size < 4294967296 → a ≤ size → base + a < 4294967296
below_top base size a top le = omega (arith, top, le)

pub places : (f : Key → ℕ) (t : List Obj) (x : Word) (o a : ℕ) (p : Obj) → object_of t o ≡ Some p → x.tag ≡ o → x.bits ≡ p.base + a → a ≤ p.size → p.base + p.size < 4294967296 → Means f t x (Pointer o a)
places f t x o a p there tag at le top =
    let lt : x.bits < 4294967296 = subst (λ b. b < 4294967296) (sym at) (below_top p.base p.size a top le) in
    record {
      stands = (p, tag, there, lt, ap (λ b. (b + (4294967296 - p.base)) % 4294967296) at ∙ offset_is p.base p.size a top le);
      wide = lt;
      within = (p, there, le);
    }

-- ---- no rule is broken
shift_tests : (a b c : Bool) → first_rule ((a, U15) ∷ (b, U3) ∷ (c, U5) ∷ []) ≡ None → (a ≡ false) × (b ≡ false) × (c ≡ false)
shift_tests true b c e = absurd (cc (e))
shift_tests false true c e = absurd (cc (e))
shift_tests false false true e = absurd (cc (e))
shift_tests false false false e = (refl, refl, refl)

inside_by : (size : ℕ) (z : ℤ) → is_beyond size z ≡ false → (a : ℕ) × (z ≡ pos a) × (a ≤ size)
inside_by size (pos a) e = (a, refl, grind (arith, nat_tests, e))
inside_by size (negsuc a) e = absurd (cc (e))

pub zero_number : (n : ℕ) → (true && not (n == 0)) ≡ false → n ≡ 0
zero_number n e = grind (arith, nat_tests, e)

no_steps : (z : ℤ) → tests.is_not_zero z ≡ false → z ≡ pos 0
no_steps (pos n) e = ap pos (grind (arith, nat_tests, e))
no_steps (negsuc n) e = absurd (cc (e))

-- ---- the word that is added, or taken away
zero_times : (s : ℕ) → 0 * s % 4294967296 ≡ 0
zero_times s = omega arith

pub tag_stays : (g : ℕ) → (if g == 0 then 0 else g) ≡ g
tag_stays g = by (g == 0) refl
  where
    by : (b : Bool) → (g == 0) ≡ b → (if b then 0 else g) ≡ g
    by true e = grind (arith, nat_tests, e)
    by false e = refl

module _ (f : Key → ℕ) (fs : List Key) (m : Flat) (os : List Object) (h : HeldWords fs m os) (w : Word) (n s : ℕ) (z : ℤ) (c : Congruent n z) where
  abbrev Q : ℕ
  Q = n * s % 4294967296

  -- a pointer into an object
  moved_place : (o i : ℕ) (zs : ℤ) (x : Word) → Means f m.objects w (Pointer o i) → leaves_object os (Pointer o i) zs s ≡ false → x.tag ≡ w.tag
      → ((base top a : ℕ) → base + top < 4294967296 → i ≤ top → a ≤ top → pos i +ℤ zs *ℤ pos s ≡ pos a → w.bits ≡ base + i → x.bits ≡ base + a)
      → Means f m.objects x (placed (Pointer o i) (target (Pointer o i) zs s))
  moved_place o i zs x means leaves tag at =
      let b = based f m.objects w o i h.seated means in
      let p = b.object in
      let (ob, found, held) = held-at os m fs o p h.held.holds b.there in
      let inner : is_beyond ob.size (target (Pointer o i) zs s) ≡ false = subst (λ q. of_object true (λ (u : Object). is_beyond u.size (target (Pointer o i) zs s)) q ≡ false) found leaves in
      let (a, is, le) = inside_by ob.size (target (Pointer o i) zs s) inner in
      let le2 : a ≤ p.size = subst (λ k. a ≤ k) (sym held.size) le in
      subst (λ v. Means f m.objects x (placed (Pointer o i) v)) (sym is)
      (places f m.objects x o a p b.there (tag ∙ b.tag) (at p.base p.size a b.high b.inside le2 is b.at) le2 b.high)

  zero_bits : (z : ℤ) → Congruent n z → z ≡ pos 0 → n ≡ 0
  zero_bits (pos m) g e = let none : m ≡ 0 = cc (e) in sym g ∙ none
  zero_bits (negsuc c) g e = absurd (cc (e))

  negated_zero : (z : ℤ) → neg_ℤ z ≡ pos 0 → z ≡ pos 0
  negated_zero (pos zero) e = refl
  negated_zero (pos (suc k)) e = absurd (cc (e))
  negated_zero (negsuc k) e = absurd (cc (e))

  none_left : n ≡ 0 → Q ≡ 0
  none_left e = ap (λ (k : ℕ). k * s % 4294967296) e ∙ zero_times s

  no_function : true ≡ false → ⊥
  no_function e = absurd (cc (e))

  -- null
  moved_null : (k : ℕ) (x : Word) → Means f m.objects w (Number k) → k ≡ 0 → (w.bits ≡ 0 → n ≡ 0 → x.bits ≡ 0) → (w.tag ≡ 0 → x.tag ≡ 0) → n ≡ 0 → Means f m.objects x (Number k)
  moved_null k x means z0 at tag none =
      let bits : x.bits ≡ 0 = at (means.stands.0 ∙ z0) none in
      record { stands = (bits ∙ sym z0, tag means.stands.1); wide = subst (λ b. b < 4294967296) (sym bits) (omega arith); within = tt }

  pub sum_of : (v : Value) → Means f m.objects w v → shift_rule os v (Number n) z s ≡ None → Means f m.objects (of_two reg.Add w (plain Q)) (placed v (target v z s))
  sum_of (Pointer o i) means e =
      let t = shift_tests (is_number (Pointer o i) || is_pointer (Number n)) (is_dead os (Pointer o i)) (leaves_object os (Pointer o i) z s) e in
      moved_place o i z (of_two reg.Add w (plain Q)) means t.2 (tag_stays w.tag) (λ base top a high p q is at. ap (λ (b : ℕ). sum b Q) at ∙ sum_up base top i a n s z c high p q is)
  sum_of (FunctionAt k) means e = absurd (no_function (shift_tests (is_number (FunctionAt k) || is_pointer (Number n)) (is_dead os (FunctionAt k)) (leaves_object os (FunctionAt k) z s) e).2)
  sum_of (Number k) means e =
      let t = shift_tests (is_number (Number k) || is_pointer (Number n)) (is_dead os (Number k)) (leaves_object os (Number k) z s) e in
      let k0 : k ≡ 0 = zero_of k t.0 in
      moved_null k (of_two reg.Add w (plain Q)) means k0 (λ a b. ap₂ sum a (none_left b)) (λ g. tag_stays w.tag ∙ g) (zero_bits z c (no_steps z (subst (λ q. tests.leaves_object (true && (q == 0)) z true ≡ false) k0 t.2)))
    where
      zero_of : (k : ℕ) → ((true && not (k == 0)) || false) ≡ false → k ≡ 0
      zero_of k e = grind (arith, nat_tests, e)

  pub difference_of : (v : Value) → Means f m.objects w v → shift_rule os v (Number n) (neg_ℤ z) s ≡ None → Means f m.objects (of_two reg.Sub w (plain Q)) (placed v (target v (neg_ℤ z) s))
  difference_of (Pointer o i) means e =
      let t = shift_tests (is_number (Pointer o i) || is_pointer (Number n)) (is_dead os (Pointer o i)) (leaves_object os (Pointer o i) (neg_ℤ z) s) e in
      moved_place o i (neg_ℤ z) (of_two reg.Sub w (plain Q)) means t.2 refl (λ base top a high p q is at. ap (λ (b : ℕ). difference b Q) at ∙ sum_down base top i a n s z c high p q is)
  difference_of (FunctionAt k) means e = absurd (no_function (shift_tests (is_number (FunctionAt k) || is_pointer (Number n)) (is_dead os (FunctionAt k)) (leaves_object os (FunctionAt k) (neg_ℤ z) s) e).2)
  difference_of (Number k) means e =
      let t = shift_tests (is_number (Number k) || is_pointer (Number n)) (is_dead os (Number k)) (leaves_object os (Number k) (neg_ℤ z) s) e in
      let k0 : k ≡ 0 = zero_of k t.0 in
      moved_null k (of_two reg.Sub w (plain Q)) means k0 (λ a b. ap₂ difference a (none_left b)) (λ g. g) (zero_bits z c (negated_zero z (no_steps (neg_ℤ z) (subst (λ q. tests.leaves_object (true && (q == 0)) (neg_ℤ z) true ≡ false) k0 t.2))))
    where
      zero_of : (k : ℕ) → ((true && not (k == 0)) || false) ≡ false → k ≡ 0
      zero_of k e = grind (arith, nat_tests, e)

-- ---- the code
bytes : (n : ℕ) → n < 4294967296 → n ≡ n * 1 % 4294967296
bytes n lt = omega (arith, lt)

one_byte : (size : ℕ) → (size == 1) ≡ true → size ≡ 1
one_byte size e = grind (arith, nat_tests, e)

advanced_by : (b : Bool) (o : Op) (size x y n : ℕ) (r : Words) → (size == 1) ≡ b → r 0 ≡ plain 0 → r y ≡ plain n → n < 4294967296 → (x == 6) ≡ false → (y == 6) ≡ false → size < 4294967296
    → after (if b then apply (add_or_sub o) a0 x y ∷ [] else scale y size ++ apply (add_or_sub o) a0 x 6 ∷ []) r a0 ≡ of_two (add_or_sub o) (r x) (plain (n * size % 4294967296))
advanced_by true o size x y n r e z0 is wide fx fy small =
    ap (of_two (add_or_sub o) (r x)) (is ∙ ap plain (bytes n wide ∙ ap (λ k. n * k % 4294967296) (sym (one_byte size e))))
advanced_by false o size x y n r e z0 is wide fx fy small =
    ap (λ (q : Words). q a0) (after_both (scale y size) (apply (add_or_sub o) a0 x 6 ∷ []) r)
    ∙ ap₂ (of_two (add_or_sub o)) (scale_keeps y size n r z0 is fy small x fx) (scale_word y size n r z0 is fy small)

pub advances : (f : Key → ℕ) (fs : List Key) (m : Flat) (os : List Object) → HeldWords fs m os → (r : Words) (size x y n : ℕ) (k : Int) (v : Value) (o : Op) → Advances f m.objects r size x y n k v → IsMove o
    → shift_rule os v (Number n) (steps_of o k (Number n)) size ≡ None → Means f m.objects (after (advanced o size x y) r a0) (placed v (target v (steps_of o k (Number n)) size))
advances f fs m os h r size x y n k v op.Add a i e =
    subst (λ w. Means f m.objects w (placed v (target v (number_of k n) size))) (sym (advanced_by (size == 1) op.Add size x y n r refl a.zero a.right a.wide a.apart a.distinct a.small))
    (sum_of f fs m os h (r x) n size (number_of k n) (congruent k n a.canonical) v a.left e)
advances f fs m os h r size x y n k v op.Sub a i e =
    subst (λ w. Means f m.objects w (placed v (target v (neg_ℤ (number_of k n)) size))) (sym (advanced_by (size == 1) op.Sub size x y n r refl a.zero a.right a.wide a.apart a.distinct a.small))
    (difference_of f fs m os h (r x) n size (number_of k n) (congruent k n a.canonical) v a.left e)
advances f fs m os h r size x y n k v _ a i e = absurd i

-- null, and no elements
pub met : (f : Key → ℕ) (t : List Obj) → Advances f t (λ j. plain 0) 4 10 11 0 int.Int (Number 0)
met f t = record { zero = refl; left = record { stands = (refl, refl); wide = omega arith; within = tt }; right = refl; wide = omega arith; canonical = refl; apart = refl; distinct = refl; small = omega arith }
