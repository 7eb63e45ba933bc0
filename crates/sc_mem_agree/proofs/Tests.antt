-- Each test of memory against the meaning's.
use Rattle.std.proofs.Common.{◌≡◌, ℕ, zero, suc, ◌+◌, ◌==◌, ◌&&◌, Bool, true, false, not, List, Option, Some, None, refl, ap, subst, arith}
use Rattle.std.specs.Prelude.{nat_lt}
use Rattle.std.proofs.lemmas.Bool.Decides.{nat_tests}
use Rattle.sc_base.specs.declared.key.Key.{Key}
use Rattle.sc_base.specs.declared.memory.Word.{Word}
use Rattle.sc_objects.specs.declared.objects.Obj.{Obj}
use Rattle.sc_objects.specs.Numbered.{object_of}
use Rattle.sc_rules.specs.Tests as tests
use Rattle.sc_mem.specs.Violations as memory
use Rattle.sc_meaning.specs.Values.{Value, Number, FunctionAt, Pointer}
use Rattle.sc_meaning.specs.World.{Object, object_at}
use Rattle.sc_meaning.specs.Violations as meaning
use Rattle.sc_mem_agree.specs.Agreement.{IsSame, AreSame, Agree, StandsFor}

-- what memory has, the meaning has
pub found : (a : Option Object) (p : Obj) → AreSame a (Some p) → (q : Object) × (a ≡ Some q) × IsSame q p
found None p h = absurd h
found (Some q) p h = (q, refl, h)

-- the offset of an object's pointer is the value's
pub offset_is : (f : Key → ℕ) (t : List Obj) (w : Word) (o i : ℕ) → StandsFor f t w (Pointer o i) → memory.offset_in t w ≡ i
offset_is f t w o i s = rw s.1 (rw s.2 s.4)

-- a test on the object of a pointer
pub on_object : (f : Key → ℕ) (os : List Object) (t : List Obj) (w : Word) (v : Value) (none : Bool) (fits : Obj → Bool) (holds : Object → Bool) → Agree os t → StandsFor f t w v → ((i : ℕ) (p : Obj) (q : Object) → meaning.offset_of v ≡ i → IsSame q p → memory.offset_in t w ≡ i → fits p ≡ holds q) → memory.of_object none fits (object_of t w.tag) ≡ meaning.of_object none holds (meaning.object_of os v)
on_object f os t w (Number n) none fits holds a s same = rw s.1 refl
on_object f os t w (FunctionAt k) none fits holds a s same = rw s.2 refl
on_object f os t w (Pointer o i) none fits holds a s same =
    let p = s.0 in
    let here : AreSame (object_at os o) (Some p) = subst (λ x. AreSame (object_at os o) x) s.2 (a o) in
    let q = found (object_at os o) p here in
    rw s.1 (rw s.2 (rw q.1 (same i p q.0 refl q.2 (offset_is f t w o i s))))

-- a pointer to an object has a tag
pub tagged : (t : List Obj) (o : ℕ) (p : Obj) → object_of t o ≡ Some p → (o == 0) ≡ false
tagged t zero p h = absurd (cc)
tagged t (suc o) p h = grind (arith, nat_tests)

pub and_true : (b : Bool) → (b && true) ≡ b
and_true true = refl
and_true false = refl

pub and_false : (b : Bool) → (b && false) ≡ false
and_false true = refl
and_false false = refl

-- U4
pub null_same : (f : Key → ℕ) (t : List Obj) (w : Word) (v : Value) → StandsFor f t w v → memory.is_null w ≡ meaning.is_null v
null_same f t w (Number n) s = rw s.0 (rw s.1 refl)
null_same f t w (FunctionAt k) s = rw s.1 refl
null_same f t w (Pointer o i) s = rw s.1 (rw (tagged t o s.0 s.2) refl)

-- U15 of an operand of pointer type
pub number_same : (f : Key → ℕ) (t : List Obj) (w : Word) (v : Value) → StandsFor f t w v → memory.is_number w ≡ meaning.is_number v
number_same f t w (Number n) s = rw s.0 (rw s.1 refl)
number_same f t w (FunctionAt k) s = rw s.1 refl
number_same f t w (Pointer o i) s = rw s.1 (rw (tagged t o s.0 s.2) refl)

-- U3
pub dead_same : (f : Key → ℕ) (os : List Object) (t : List Obj) (w : Word) (v : Value) → Agree os t → StandsFor f t w v → memory.is_dead t w ≡ meaning.is_dead os v
dead_same f os t w v a s = on_object f os t w v false (λ o. not o.live) (λ o. not o.live) a s (λ i p q e same b. ap not same.live)

-- U11
pub constant_same : (f : Key → ℕ) (os : List Object) (t : List Obj) (w : Word) (v : Value) → Agree os t → StandsFor f t w v → memory.is_constant t w ≡ meaning.is_constant os v
constant_same f os t w v a s = on_object f os t w v false (λ o. tests.is_constant o.kind) (λ o. tests.is_constant o.kind) a s (λ i p q e same b. ap tests.is_constant same.kind)

pub outside_numbers : (offset i n size other : ℕ) → offset ≡ i → size ≡ other → nat_lt size (offset + n) ≡ nat_lt other (i + 0 + n)
outside_numbers offset i n size other h g = grind (arith, nat_tests)

-- U2
pub outside_same : (f : Key → ℕ) (os : List Object) (t : List Obj) (w : Word) (v : Value) (n : ℕ) → Agree os t → StandsFor f t w v → memory.is_outside t w n ≡ meaning.is_outside os v 0 n
outside_same f os t w v n a s = on_object f os t w v true (λ o. nat_lt o.size (memory.offset_in t w + n)) (λ o. nat_lt o.size (meaning.offset_of v + 0 + n)) a s (λ i p q e same b. rw e (outside_numbers (memory.offset_in t w) i n p.size q.size b same.size))
