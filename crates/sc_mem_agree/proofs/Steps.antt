-- The rules of pointer plus a number, and of freeing.
use Rattle.std.proofs.Common.{◌≡◌, ℕ, ◌==◌, ◌&&◌, ◌||◌, Bool, true, false, not, List, [], ◌∷◌, refl, ap}
use Rattle.std.specs.Prelude.{ℤ, pos, ◌+ℤ◌, ◌*ℤ◌}
use Rattle.sc_base.specs.declared.key.Key.{Key}
use Rattle.sc_base.specs.declared.memory.Word.{Word}
use Rattle.sc_base.specs.declared.report.Rule.TheVariants.{U3, U5, U14, U15}
use Rattle.sc_objects.specs.declared.objects.Obj.{Obj}
use Rattle.sc_objects.specs.Numbered.{object_of}
use Rattle.sc_mem.specs.Flat.{Flat}
use Rattle.sc_rules.specs.Tests as tests
use Rattle.sc_rules.specs.Orders.{first_rule}
use Rattle.sc_mem.specs.Violations as memory
use Rattle.sc_mem.specs.Comparisons as compared
use Rattle.sc_meaning.specs.Values.{Value, Number}
use Rattle.sc_meaning.specs.World.{Object}
use Rattle.sc_meaning.specs.Violations as meaning
use Rattle.sc_mem_agree.specs.Agreement.{Agree, StandsFor}
use Rattle.sc_mem_agree.proofs.Tests.{on_object, null_same, number_same, dead_same}

pub or_false : (b : Bool) → (b || false) ≡ b
or_false true = refl
or_false false = refl

pub beyond_numbers : (offset i size other : ℕ) (z : ℤ) → offset ≡ i → size ≡ other → memory.is_beyond size (pos offset +ℤ z) ≡ meaning.is_beyond other (pos i +ℤ z)
beyond_numbers offset i size other z h g = rw h (rw g refl)

choice : (a b : Bool) (n : ℤ) (e f : Bool) → a ≡ b → e ≡ f → tests.leaves_object a n e ≡ tests.leaves_object b n f
choice a b n e f h g = rw h (rw g refl)

-- U5
pub leaves_same : (f : Key → ℕ) (os : List Object) (t : List Obj) (w : Word) (v : Value) (n : ℤ) (size : ℕ) → Agree os t → StandsFor f t w v → memory.leaves_object t w n size ≡ meaning.leaves_object os v n size
leaves_same f os t w v n size a s =
    let far : memory.of_object true (λ o. memory.is_beyond o.size (memory.target (memory.offset_in t w) n size)) (object_of t w.tag) ≡ meaning.of_object true (λ o. meaning.is_beyond o.size (meaning.target v n size)) (meaning.object_of os v) =
    on_object f os t w v true (λ o. memory.is_beyond o.size (memory.target (memory.offset_in t w) n size)) (λ o. meaning.is_beyond o.size (meaning.target v n size)) a s (λ i p q e same b. rw e (beyond_numbers (memory.offset_in t w) i p.size q.size (n *ℤ pos size) b same.size)) in
    choice (memory.is_null w) (meaning.is_null v) n (memory.of_object true (λ o. memory.is_beyond o.size (memory.target (memory.offset_in t w) n size)) (object_of t w.tag)) (meaning.of_object true (λ o. meaning.is_beyond o.size (meaning.target v n size)) (meaning.object_of os v)) (null_same f t w v s) far

three : (a b c a2 b2 c2 : Bool) → a ≡ a2 → b ≡ b2 → c ≡ c2 → first_rule ((a, U15) ∷ (b, U3) ∷ (c, U5) ∷ []) ≡ first_rule ((a2 || false, U15) ∷ (b2, U3) ∷ (c2, U5) ∷ [])
three a b c a2 b2 c2 d e f = rw (or_false a2) (rw d (rw e (rw f refl)))

pub shift_same : (f : Key → ℕ) (os : List Object) (m : Flat) (w : Word) (v : Value) (x size : ℕ) (n : ℤ) → Agree os m.objects → StandsFor f m.objects w v → memory.shift_rule m w n size ≡ meaning.shift_rule os v (Number x) n size
shift_same f os m w v x size n a s =
    let t = m.objects in
    three (memory.is_number w) (memory.is_dead t w) (memory.leaves_object t w n size) (meaning.is_number v) (meaning.is_dead os v) (meaning.leaves_object os v n size) (number_same f t w v s) (dead_same f os t w v a s) (leaves_same f os t w v n size a s)

unowned : (a b c d e f : Bool) → a ≡ b → c ≡ d → e ≡ f → not (a && c && e) ≡ not (b && d && f)
unowned a b c d e f h g i = rw h (rw g (rw i refl))

both : (a b c d : Bool) → a ≡ b → c ≡ d → (not a && c) ≡ (not b && d)
both a b c d h g = rw h (rw g refl)

-- U14
pub unallocated_same : (f : Key → ℕ) (os : List Object) (t : List Obj) (w : Word) (v : Value) → Agree os t → StandsFor f t w v → compared.is_unallocated t w ≡ meaning.is_unallocated os v
unallocated_same f os t w v a s =
    both (memory.is_null w) (meaning.is_null v) (memory.of_object true (λ o. not (o.live && tests.is_heap o.kind && (memory.offset_in t w == 0))) (object_of t w.tag)) (meaning.of_object true (λ o. not (o.live && tests.is_heap o.kind && (meaning.offset_of v == 0))) (meaning.object_of os v)) (null_same f t w v s)
    (on_object f os t w v true (λ o. not (o.live && tests.is_heap o.kind && (memory.offset_in t w == 0))) (λ o. not (o.live && tests.is_heap o.kind && (meaning.offset_of v == 0))) a s
    (λ i p q e same b. rw e (unowned p.live q.live (tests.is_heap p.kind) (tests.is_heap q.kind) (memory.offset_in t w == 0) (i == 0) same.live (ap tests.is_heap same.kind) (ap (λ (k : ℕ). k == 0) b))))

one : (a b : Bool) → a ≡ b → first_rule ((a, U14) ∷ []) ≡ first_rule ((b, U14) ∷ [])
one a b h = rw h refl

pub free_same : (f : Key → ℕ) (os : List Object) (t : List Obj) (w : Word) (v : Value) → Agree os t → StandsFor f t w v → compared.free_rule t w ≡ meaning.free_rule os v
free_same f os t w v a s = one (compared.is_unallocated t w) (meaning.is_unallocated os v) (unallocated_same f os t w v a s)
