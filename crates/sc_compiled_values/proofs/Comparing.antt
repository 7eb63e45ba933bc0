-- Comparisons of pointers, by the numbers of their words.
use Rattle.std.specs.Prelude.{◌||◌}
use Rattle.std.proofs.Common.{◌≡◌, ℕ, ◌+◌, ◌==◌, Bool, true, false, not, nat_lt, nat_le, List, [], ◌∷◌, Some, None, refl, sym, ap, ap₂, ◌∙◌, arith}
use Rattle.std.proofs.lemmas.Bool.Decides.{nat_tests}
use Rattle.sc_base.specs.declared.key.Key.{Key}
use Rattle.sc_base.specs.declared.memory.Word.{Word}
use Rattle.sc_base.specs.declared.operator.Op.{Op}
use Rattle.sc_base.specs.declared.operator.Op.TheVariants as op
use Rattle.sc_base.specs.declared.report.Rule.TheVariants.{U3, U6, U15}
use Rattle.sc_rules.specs.Orders.{first_rule}
use Rattle.sc_objects.specs.declared.objects.Obj.{Obj}
use Rattle.sc_objects.specs.Numbered.{object_of}
use Rattle.sc_mem.specs.Flat.{Flat}
use Rattle.sc_ops.specs.Operators.{truth_of}
use Rattle.sc_emu.specs.Operations.{plain}
use Rattle.sc_meaning.specs.Values.{Value, Number, FunctionAt, Pointer}
use Rattle.sc_meaning.specs.World.{Object}
use Rattle.sc_meaning.specs.Accesses.{pointer_test}
use Rattle.sc_meaning.specs.Violations.{offset_of, order_rule, is_number, is_dead, are_unrelated}
use Rattle.sc_gen_code.specs.Code.{a0}
use Rattle.sc_gen_code.specs.Operators.{operate}
use Rattle.sc_compiled_frames.specs.Means.{Means}
use Rattle.sc_compiled_frames.specs.Words.{HeldWords}
use Rattle.sc_compiled_values.specs.Straight.{Words, after}
use Rattle.sc_compiled_values.specs.Pointers.{IsOrder}
use Rattle.sc_compiled_values.proofs.Numbers.{truth_is, inverted_is}
use Rattle.sc_compiled_values.proofs.Pointers.{based, zero_number}

-- ---- by the numbers
abbrev Test : Type 0
Test = ℕ → ℕ → Bool

abbrev pub order_test : Op → Test
order_test op.Lt a b = nat_lt a b
order_test op.Gt a b = nat_lt b a
order_test op.Le a b = not (nat_lt b a)
order_test op.Ge a b = not (nat_lt a b)
order_test _ a b = false

order_word : (r : Words) (x y : ℕ) (o : Op) → IsOrder o → after (operate o true x y) r a0 ≡ plain (truth_of (order_test o (r x).bits (r y).bits))
order_word r x y op.Lt i = ap plain (truth_is (nat_lt (r x).bits (r y).bits))
order_word r x y op.Gt i = ap plain (truth_is (nat_lt (r y).bits (r x).bits))
order_word r x y op.Le i = ap plain (inverted_is (nat_lt (r y).bits (r x).bits))
order_word r x y op.Ge i = ap plain (inverted_is (nat_lt (r x).bits (r y).bits))
order_word r x y _ i = absurd i

shift_less : (base i j : ℕ) → nat_lt (base + i) (base + j) ≡ nat_lt i j
shift_less base i j = grind (arith, nat_tests)

at_most : (i j : ℕ) → not (nat_lt j i) ≡ nat_le i j
at_most i j = grind (arith, nat_tests)

-- offsets behind one base
offsets : (o : Op) (v u : Value) (i j base : ℕ) → IsOrder o → offset_of v ≡ i → offset_of u ≡ j → order_test o (base + i) (base + j) ≡ pointer_test o v u
offsets op.Lt v u i j base k e f = shift_less base i j ∙ sym (ap₂ nat_lt e f)
offsets op.Gt v u i j base k e f = shift_less base j i ∙ sym (ap₂ nat_lt f e)
offsets op.Le v u i j base k e f = ap not (shift_less base j i) ∙ at_most i j ∙ sym (ap₂ nat_le e f)
offsets op.Ge v u i j base k e f = ap not (shift_less base i j) ∙ at_most j i ∙ sym (ap₂ nat_le f e)
offsets _ v u i j base k e f = absurd k

order_tests : (a b c : Bool) → first_rule ((a, U15) ∷ (b, U3) ∷ (c, U6) ∷ []) ≡ None → (a ≡ false) × (b ≡ false) × (c ≡ false)
order_tests true b c e = absurd (cc (e))
order_tests false true c e = absurd (cc (e))
order_tests false false true e = absurd (cc (e))
order_tests false false false e = (refl, refl, refl)

neither : (a b : Bool) → (a || b) ≡ false → (a ≡ false) × (b ≡ false)
neither true b e = absurd (cc (e))
neither false true e = absurd (cc (e))
neither false false e = (refl, refl)

one_number : (o p : ℕ) → not (o == p) ≡ false → o ≡ p
one_number o p e = grind (arith, nat_tests, e)

one_object : (p q : Obj) → Some p ≡ Some q → p ≡ q
one_object p q e = cc (e)

module _ (f : Key → ℕ) (fs : List Key) (m : Flat) (os : List Object) (h : HeldWords fs m os) (w z : Word) where
  ordered : (o : Op) (v u : Value) → IsOrder o → Means f m.objects w v → Means f m.objects z u → order_rule os v u ≡ None → order_test o w.bits z.bits ≡ pointer_test o v u
  ordered o (Number a) (Number b) k mv mu e =
      let t = order_tests (is_number (Number a) || is_number (Number b)) (is_dead os (Number a) || is_dead os (Number b)) (are_unrelated (Number a) (Number b)) e in
      let n = neither (is_number (Number a)) (is_number (Number b)) t.0 in
      ap₂ (order_test o) (mv.stands.0 ∙ zero_number a n.0) (mu.stands.0 ∙ zero_number b n.1) ∙ offsets o (Number a) (Number b) 0 0 0 k refl refl
  ordered o (Pointer a i) (Pointer b j) k mv mu e =
      let t = order_tests (is_number (Pointer a i) || is_number (Pointer b j)) (is_dead os (Pointer a i) || is_dead os (Pointer b j)) (are_unrelated (Pointer a i) (Pointer b j)) e in
      let same : a ≡ b = one_number a b t.2 in
      let p = based f m.objects w a i h.seated mv in
      let q = based f m.objects z b j h.seated mu in
      let one : q.object ≡ p.object = one_object q.object p.object (sym q.there ∙ ap (object_of m.objects) (sym same) ∙ p.there) in
      ap₂ (order_test o) p.at (q.at ∙ ap (λ (x : Obj). x.base + j) one) ∙ offsets o (Pointer a i) (Pointer b j) i j p.object.base k refl refl
  ordered o (Number a) (Pointer b j) k mv mu e = absurd (related (order_tests (is_number (Number a) || is_number (Pointer b j)) (is_dead os (Number a) || is_dead os (Pointer b j)) (are_unrelated (Number a) (Pointer b j)) e).2)
    where
      related : true ≡ false → ⊥
      related e = absurd (cc (e))
  ordered o (Pointer a i) (Number b) k mv mu e = absurd (related (order_tests (is_number (Pointer a i) || is_number (Number b)) (is_dead os (Pointer a i) || is_dead os (Number b)) (are_unrelated (Pointer a i) (Number b)) e).2)
    where
      related : true ≡ false → ⊥
      related e = absurd (cc (e))
  ordered o (FunctionAt a) u k mv mu e = absurd (related (order_tests (is_number (FunctionAt a) || is_number u) (is_dead os (FunctionAt a) || is_dead os u) (are_unrelated (FunctionAt a) u) e).2)
    where
      related : true ≡ false → ⊥
      related e = absurd (cc (e))
  ordered o (Number a) (FunctionAt b) k mv mu e = absurd (related (order_tests (is_number (Number a) || is_number (FunctionAt b)) (is_dead os (Number a) || is_dead os (FunctionAt b)) (are_unrelated (Number a) (FunctionAt b)) e).2)
    where
      related : true ≡ false → ⊥
      related e = absurd (cc (e))
  ordered o (Pointer a i) (FunctionAt b) k mv mu e = absurd (related (order_tests (is_number (Pointer a i) || is_number (FunctionAt b)) (is_dead os (Pointer a i) || is_dead os (FunctionAt b)) (are_unrelated (Pointer a i) (FunctionAt b)) e).2)
    where
      related : true ≡ false → ⊥
      related e = absurd (cc (e))

pub orders : (f : Key → ℕ) (fs : List Key) (m : Flat) (os : List Object) → HeldWords fs m os → (r : Words) (x y : ℕ) (v u : Value) (o : Op) → Means f m.objects (r x) v → Means f m.objects (r y) u → IsOrder o → order_rule os v u ≡ None → after (operate o true x y) r a0 ≡ plain (truth_of (pointer_test o v u))
orders f fs m os h r x y v u o mv mu k e = order_word r x y o k ∙ ap (λ b. plain (truth_of b)) (ordered f fs m os h (r x) (r y) o v u k mv mu e)
