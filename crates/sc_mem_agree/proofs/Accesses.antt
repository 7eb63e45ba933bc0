-- The rules of accesses.
use Rattle.std.proofs.Common.{◌≡◌, ◌⊎◌, ℕ, ◌+◌, ◌-◌, ◌%◌, ◌==◌, Bool, true, false, not, List, [], ◌∷◌, Some, refl, ap, subst, inl, inr, arith}
use Rattle.sc_base.specs.declared.key.Key.{Key}
use Rattle.sc_base.specs.declared.memory.Word.{Word}
use Rattle.sc_base.specs.declared.report.Rule.TheVariants.{U2, U3, U4, U10, U11}
use Rattle.sc_objects.specs.declared.objects.Obj.{Obj}
use Rattle.sc_mem.specs.Words.{IsSize}
use Rattle.sc_mem.specs.Flat.{Flat}
use Rattle.sc_rules.specs.Orders.{first_rule}
use Rattle.sc_mem.specs.Violations as memory
use Rattle.sc_mem.specs.Comparisons.{write_rule}
use Rattle.sc_meaning.specs.Values.{Value, Number, FunctionAt, Pointer}
use Rattle.sc_meaning.specs.World.{Object, object_at}
use Rattle.sc_meaning.specs.Violations as meaning
use Rattle.sc_mem_agree.specs.Agreement.{AreSame, Agree, StandsFor}
use Rattle.sc_mem_agree.proofs.Tests.{found, null_same, dead_same, outside_same, constant_same}

three : (a b c a2 b2 c2 : Bool) → a ≡ a2 → b ≡ b2 → c ≡ c2 → first_rule ((a, U4) ∷ (b, U3) ∷ (c, U2) ∷ []) ≡ first_rule ((a2, U4) ∷ (b2, U3) ∷ (c2, U2) ∷ [])
three a b c a2 b2 c2 d e f = rw d (rw e (rw f refl))

pub reach_same : (f : Key → ℕ) (os : List Object) (t : List Obj) (w : Word) (v : Value) (n : ℕ) → Agree os t → StandsFor f t w v → memory.reach_rule t w n ≡ meaning.reach_rule os v 0 n
reach_same f os t w v n a s = three (memory.is_null w) (memory.is_dead t w) (memory.is_outside t w n) (meaning.is_null v) (meaning.is_dead os v) (meaning.is_outside os v 0 n) (null_same f t w v s) (dead_same f os t w v a s) (outside_same f os t w v n a s)

four : (a b c d a2 b2 c2 d2 : Bool) → a ≡ a2 → b ≡ b2 → c ≡ c2 → d ≡ d2 → first_rule ((a, U4) ∷ (b, U3) ∷ (c, U2) ∷ (d, U11) ∷ []) ≡ first_rule ((a2, U4) ∷ (b2, U3) ∷ (c2, U2) ∷ (d2, U11) ∷ [])
four a b c d a2 b2 c2 d2 e f g h = rw e (rw f (rw g (rw h refl)))

pub write_same : (f : Key → ℕ) (os : List Object) (t : List Obj) (w : Word) (v : Value) (n : ℕ) → Agree os t → StandsFor f t w v → write_rule t w n ≡ meaning.write_rule os v 0 n
write_same f os t w v n a s = four (memory.is_null w) (memory.is_dead t w) (memory.is_outside t w n) (memory.is_constant t w) (meaning.is_null v) (meaning.is_dead os v) (meaning.is_outside os v 0 n) (meaning.is_constant os v) (null_same f t w v s) (dead_same f os t w v a s) (outside_same f os t w v n a s) (constant_same f os t w v a s)

-- bases are multiples of every size
pub aligned_numbers : (bits base i n : ℕ) → IsSize n → base % 4 ≡ 0 → (bits + (4294967296 - base)) % 4294967296 ≡ i → bits % n ≡ (i + 0) % n
aligned_numbers bits base i n size h g = elim size [ inl e ↦ rw e (omega arith) | inr r ↦ elim r [ inl e ↦ rw e (omega arith) | inr e ↦ rw e (omega arith) ] ]

-- U10, where U2 does not hold
pub misaligned_same : (f : Key → ℕ) (os : List Object) (t : List Obj) (w : Word) (v : Value) (n : ℕ) → IsSize n → Agree os t → StandsFor f t w v → (meaning.is_outside os v 0 n ≡ true) ⊎ (memory.is_misaligned w n ≡ meaning.is_misaligned v 0 n)
misaligned_same f os t w (Number m) n size a s = inl refl
misaligned_same f os t w (FunctionAt k) n size a s = inl refl
misaligned_same f os t w (Pointer o i) n size a s =
    let p = s.0 in
    let here : AreSame (object_at os o) (Some p) = subst (λ x. AreSame (object_at os o) x) s.2 (a o) in
    let q = found (object_at os o) p here in
    inr (ap (λ (r : ℕ). not (r == 0)) (aligned_numbers w.bits p.base i n size q.2.base s.4))

stored : (a b c d e d2 : Bool) → (c ≡ true) ⊎ (d ≡ d2) → first_rule ((a, U4) ∷ (b, U3) ∷ (c, U2) ∷ (d, U10) ∷ (e, U11) ∷ []) ≡ first_rule ((a, U4) ∷ (b, U3) ∷ (c, U2) ∷ (d2, U10) ∷ (e, U11) ∷ [])
stored true b c d e d2 h = refl
stored false true c d e d2 h = refl
stored false false true d e d2 h = refl
stored false false false d e d2 h = elim h [ inl f ↦ absurd (cc) | inr f ↦ rw f refl ]

five : (a b c d e a2 b2 c2 d2 e2 : Bool) → a ≡ a2 → b ≡ b2 → c ≡ c2 → (c2 ≡ true) ⊎ (d ≡ d2) → e ≡ e2 → first_rule ((a, U4) ∷ (b, U3) ∷ (c, U2) ∷ (d, U10) ∷ (e, U11) ∷ []) ≡ first_rule ((a2, U4) ∷ (b2, U3) ∷ (c2, U2) ∷ (d2, U10) ∷ (e2, U11) ∷ [])
five a b c d e a2 b2 c2 d2 e2 f g h i j = rw f (rw g (rw h (rw j (stored a2 b2 c2 d e2 d2 i))))

pub store_same : (f : Key → ℕ) (os : List Object) (m : Flat) (w : Word) (v : Value) (n : ℕ) → IsSize n → Agree os m.objects → StandsFor f m.objects w v → memory.store_rule m w n ≡ meaning.store_rule os v 0 n
store_same f os m w v n size a s =
    let t = m.objects in
    five (memory.is_null w) (memory.is_dead t w) (memory.is_outside t w n) (memory.is_misaligned w n) (memory.is_constant t w) (meaning.is_null v) (meaning.is_dead os v) (meaning.is_outside os v 0 n) (meaning.is_misaligned v 0 n) (meaning.is_constant os v) (null_same f t w v s) (dead_same f os t w v a s) (outside_same f os t w v n a s) (misaligned_same f os t w v n size a s) (constant_same f os t w v a s)
