-- The rules of comparisons.
use Rattle.std.proofs.Common.{◌≡◌, ◌⊎◌, ◌≢◌, ◌∙◌, ℕ, ◌+◌, ◌==◌, ◌&&◌, ◌||◌, Bool, true, false, not, List, [], ◌∷◌, Some, None, refl, sym, ap, subst, inl, inr, if◌then◌else◌, arith}
use Rattle.std.proofs.lemmas.Bool.Decides.{eqb_tells, nat_tests}
use Rattle.std.specs.Prelude.{ℤ, pos, ◌-ℤ◌}
use Rattle.sc_base.specs.declared.key.Key.{Key}
use Rattle.sc_base.specs.declared.memory.Word.{Word}
use Rattle.sc_base.specs.declared.report.Rule.TheVariants.{U3, U5, U6, U15}
use Rattle.sc_objects.specs.declared.objects.Obj.{Obj}
use Rattle.sc_objects.specs.Numbered.{object_of}
use Rattle.sc_rules.specs.Tests as tests
use Rattle.sc_rules.specs.Orders.{first_rule}
use Rattle.sc_mem.specs.Violations as memory
use Rattle.sc_mem.specs.Comparisons as compared
use Rattle.sc_meaning.specs.Values.{Value, Number, FunctionAt, Pointer}
use Rattle.sc_meaning.specs.World.{Object}
use Rattle.sc_meaning.specs.Violations as meaning
use Rattle.sc_mem_agree.specs.Agreement.{Agree, StandsFor}
use Rattle.sc_mem_agree.proofs.Tests.{tagged, offset_is, null_same, number_same, dead_same}
use Rattle.sc_mem_agree.proofs.Steps.{or_false}

pub no_tag : (o k : ℕ) → o ≢ k → (o == k) ≡ false
no_tag o k h = grind (arith, nat_tests)

two : (a b a2 b2 : Bool) → a ≡ a2 → b ≡ b2 → first_rule ((a, U15) ∷ (b, U3) ∷ []) ≡ first_rule ((a2, U15) ∷ (b2, U3) ∷ [])
two a b a2 b2 d e = rw d (rw e refl)

either : (a b c d : Bool) → a ≡ b → c ≡ d → (a || c) ≡ (b || d)
either a b c d h g = rw h (rw g refl)

pub truth_same : (f : Key → ℕ) (os : List Object) (t : List Obj) (w : Word) (v : Value) → Agree os t → StandsFor f t w v → compared.truth_rule t w ≡ meaning.truth_rule os true v
truth_same f os t w v a s = two (memory.is_number w) (memory.is_dead t w) (meaning.is_number v) (meaning.is_dead os v) (number_same f t w v s) (dead_same f os t w v a s)

pub numbers_same : (f : Key → ℕ) (t : List Obj) (w x : Word) (v u : Value) → StandsFor f t w v → StandsFor f t x u → (memory.is_number w || memory.is_number x) ≡ (meaning.is_number v || meaning.is_number u)
numbers_same f t w x v u s r = either (memory.is_number w) (meaning.is_number v) (memory.is_number x) (meaning.is_number u) (number_same f t w v s) (number_same f t x u r)

pub deaths_same : (f : Key → ℕ) (os : List Object) (t : List Obj) (w x : Word) (v u : Value) → Agree os t → StandsFor f t w v → StandsFor f t x u → (memory.is_dead t w || memory.is_dead t x) ≡ (meaning.is_dead os v || meaning.is_dead os u)
deaths_same f os t w x v u a s r = either (memory.is_dead t w) (meaning.is_dead os v) (memory.is_dead t x) (meaning.is_dead os u) (dead_same f os t w v a s) (dead_same f os t x u a r)

pub equality_same : (f : Key → ℕ) (os : List Object) (t : List Obj) (w x : Word) (v u : Value) → Agree os t → StandsFor f t w v → StandsFor f t x u → compared.equality_rule t w x ≡ meaning.equality_rule os v u
equality_same f os t w x v u a s r = two (memory.is_number w || memory.is_number x) (memory.is_dead t w || memory.is_dead t x) (meaning.is_number v || meaning.is_number u) (meaning.is_dead os v || meaning.is_dead os u) (numbers_same f t w x v u s r) (deaths_same f os t w x v u a s r)

-- how two pointers are unrelated, by what is null, whether the tags are one, and whether there is no object
related : (a b c d a2 b2 c2 d2 : Bool) → a ≡ a2 → b ≡ b2 → c ≡ c2 → d ≡ d2 → (if a && b then false else (not c || d)) ≡ (if a2 && b2 then false else (not c2 || d2))
related a b c d a2 b2 c2 d2 e f g h = rw e (rw f (rw g (rw h refl)))

first_number : (a c : Bool) → (if a && false then false else (not c || true)) ≡ true
first_number true true = refl
first_number true false = refl
first_number false true = refl
first_number false false = refl

first_function : (c : Bool) → (not c || true) ≡ true
first_function true = refl
first_function false = refl

-- a pointer's object is not that of a word without one
pub other_tag : (t : List Obj) (o k : ℕ) (p : Obj) → object_of t o ≡ Some p → object_of t k ≡ None → (o == k) ≡ false
other_tag t o k p h g =
    let apart : o ≢ k = λ e. (let there : object_of t k ≡ Some p = subst (λ n. object_of t n ≡ Some p) e h in absurd (cc)) in
    no_tag o k apart

-- null and null, or a number that is not null
nulls : (m n : ℕ) → ((not (m == 0) || not (n == 0)) ≡ true) ⊎ ((m ≡ 0) × (n ≡ 0))
nulls m n =
    elim (eqb_tells m 0) [
      | inl a ↦ elim (eqb_tells n 0) [ inl b ↦ inr (a.1, b.1) | inr b ↦ inl (rw a.0 (rw b.0 refl)) ]
      | inr a ↦ inl (rw a.0 refl)
    ]

abbrev unowned : List Obj → Word → Bool
unowned t w = memory.of_object true (λ o. false) (object_of t w.tag)

number_unowned : (t : List Obj) (w : Word) → w.tag ≡ 0 → unowned t w ≡ true
number_unowned t w h = rw h refl

function_unowned : (t : List Obj) (w : Word) → object_of t w.tag ≡ None → unowned t w ≡ true
function_unowned t w h = rw h refl

pointer_owned : (t : List Obj) (w : Word) (o : ℕ) (p : Obj) → w.tag ≡ o → object_of t o ≡ Some p → unowned t w ≡ false
pointer_owned t w o p h g = rw h (rw g refl)

-- U6, where U15 does not hold
pub unrelated_same : (f : Key → ℕ) (t : List Obj) (w x : Word) (v u : Value) → StandsFor f t w v → StandsFor f t x u → ((meaning.is_number v || meaning.is_number u) ≡ true) ⊎ (compared.are_unrelated t w x ≡ meaning.are_unrelated v u)
unrelated_same f t w x (Number m) (Number n) s r =
    elim (nulls m n) [
      | inl h ↦ inl h
      | inr h ↦ inr (related (memory.is_null w) (memory.is_null x) (w.tag == x.tag) (unowned t w) true true (w.tag == x.tag) (unowned t w) (null_same f t w (Number m) s ∙ ap (λ (k : ℕ). k == 0) h.0) (null_same f t x (Number n) r ∙ ap (λ (k : ℕ). k == 0) h.1) refl refl)
    ]
unrelated_same f t w x (Number m) (FunctionAt k) s r = inr (related (memory.is_null w) (memory.is_null x) (w.tag == x.tag) (unowned t w) (m == 0) false (w.tag == x.tag) true (null_same f t w (Number m) s) (null_same f t x (FunctionAt k) r) refl (number_unowned t w s.1) ∙ first_number (m == 0) (w.tag == x.tag))
unrelated_same f t w x (Number m) (Pointer p j) s r = inr (related (memory.is_null w) (memory.is_null x) (w.tag == x.tag) (unowned t w) (m == 0) false (w.tag == x.tag) true (null_same f t w (Number m) s) (null_same f t x (Pointer p j) r) refl (number_unowned t w s.1) ∙ first_number (m == 0) (w.tag == x.tag))
unrelated_same f t w x (FunctionAt k) u s r = inr (related (memory.is_null w) (memory.is_null x) (w.tag == x.tag) (unowned t w) false (memory.is_null x) (w.tag == x.tag) true (null_same f t w (FunctionAt k) s) refl refl (function_unowned t w s.2) ∙ first_function (w.tag == x.tag))
unrelated_same f t w x (Pointer o i) (Number n) s r = inr (related (memory.is_null w) (memory.is_null x) (w.tag == x.tag) (unowned t w) false (memory.is_null x) false (unowned t w) (null_same f t w (Pointer o i) s) refl (rw s.1 (rw r.1 (tagged t o s.0 s.2))) refl)
unrelated_same f t w x (Pointer o i) (FunctionAt k) s r = inr (related (memory.is_null w) (memory.is_null x) (w.tag == x.tag) (unowned t w) false (memory.is_null x) false (unowned t w) (null_same f t w (Pointer o i) s) refl (rw s.1 (other_tag t o x.tag s.0 s.2 r.2)) refl)
unrelated_same f t w x (Pointer o i) (Pointer p j) s r = inr (related (memory.is_null w) (memory.is_null x) (w.tag == x.tag) (unowned t w) false (memory.is_null x) (o == p) false (null_same f t w (Pointer o i) s) refl (rw s.1 (rw r.1 refl)) (pointer_owned t w o s.0 s.1 s.2) ∙ or_false (not (o == p)))

ordered : (a b c c2 : Bool) → (a ≡ true) ⊎ (c ≡ c2) → first_rule ((a, U15) ∷ (b, U3) ∷ (c, U6) ∷ []) ≡ first_rule ((a, U15) ∷ (b, U3) ∷ (c2, U6) ∷ [])
ordered true b c c2 h = refl
ordered false b c c2 h = elim h [ inl f ↦ absurd (cc) | inr f ↦ rw f refl ]

three : (a b c a2 b2 c2 : Bool) → a ≡ a2 → b ≡ b2 → (a2 ≡ true) ⊎ (c ≡ c2) → first_rule ((a, U15) ∷ (b, U3) ∷ (c, U6) ∷ []) ≡ first_rule ((a2, U15) ∷ (b2, U3) ∷ (c2, U6) ∷ [])
three a b c a2 b2 c2 d e f = rw d (rw e (ordered a2 b2 c c2 f))

pub order_same : (f : Key → ℕ) (os : List Object) (t : List Obj) (w x : Word) (v u : Value) → Agree os t → StandsFor f t w v → StandsFor f t x u → compared.order_rule t w x ≡ meaning.order_rule os v u
order_same f os t w x v u a s r = three (memory.is_number w || memory.is_number x) (memory.is_dead t w || memory.is_dead t x) (compared.are_unrelated t w x) (meaning.is_number v || meaning.is_number u) (meaning.is_dead os v || meaning.is_dead os u) (meaning.are_unrelated v u) (numbers_same f t w x v u s r) (deaths_same f os t w x v u a s r) (unrelated_same f t w x v u s r)

-- the distance of two pointers in elements
uneven_is : (a b : ℤ) (size : ℕ) → a ≡ b → tests.is_uneven a size ≡ tests.is_uneven b size
uneven_is a b size h = rw h refl

distance_is : (a b i j : ℕ) → a ≡ i → b ≡ j → (pos a -ℤ pos b) ≡ (pos i -ℤ pos j)
distance_is a b i j h g = rw h (rw g refl)

pub one_base : (t : List Obj) (o p : ℕ) (q r : Obj) → o ≡ p → object_of t o ≡ Some q → object_of t p ≡ Some r → r.base ≡ q.base
one_base t o p q r e h g = let there : object_of t p ≡ Some q = subst (λ n. object_of t n ≡ Some q) e h in (let same : Some r ≡ Some q = sym g ∙ there in (let one : r ≡ q = cc in ap (λ (b : Obj). b.base) one))

-- U5 of a difference, where neither U15 nor U6 holds
pub uneven_same : (f : Key → ℕ) (t : List Obj) (w x : Word) (v u : Value) (size : ℕ) → StandsFor f t w v → StandsFor f t x u → ((meaning.is_number v || meaning.is_number u) ≡ true) ⊎ ((meaning.are_unrelated v u ≡ true) ⊎ (compared.is_uneven t w x size ≡ meaning.is_uneven v u size))
uneven_same f t w x (Number m) (Number n) size s r =
    elim (nulls m n) [
      | inl h ↦ inl h
      | inr h ↦ inr (inr (uneven_is (compared.distance t w x) (pos 0 -ℤ pos 0) size (rw s.1 (rw r.1 (rw s.0 (rw r.0 (rw h.0 (rw h.1 refl))))))))
    ]
uneven_same f t w x (Number m) (FunctionAt k) size s r = inr (inl refl)
uneven_same f t w x (Number m) (Pointer p j) size s r = inr (inl refl)
uneven_same f t w x (FunctionAt k) u size s r = inr (inl refl)
uneven_same f t w x (Pointer o i) (Number n) size s r = inr (inl refl)
uneven_same f t w x (Pointer o i) (FunctionAt k) size s r = inr (inl refl)
uneven_same f t w x (Pointer o i) (Pointer p j) size s r = inr (inr (uneven_is (compared.distance t w x) (pos i -ℤ pos j) size (distance_is (memory.offset_in t w) (memory.offset_in t x) i j (offset_is f t w o i s) (offset_is f t x p j r))))

later : (b c d d2 : Bool) → (c ≡ true) ⊎ (d ≡ d2) → first_rule ((false, U15) ∷ (b, U3) ∷ (c, U6) ∷ (d, U5) ∷ []) ≡ first_rule ((false, U15) ∷ (b, U3) ∷ (c, U6) ∷ (d2, U5) ∷ [])
later true c d d2 h = refl
later false true d d2 h = refl
later false false d d2 h = elim h [ inl f ↦ absurd (cc) | inr f ↦ rw f refl ]

not_first : (P : Type 0) → (false ≡ true) ⊎ P → P
not_first P h = elim h [ inl f ↦ absurd (cc) | inr p ↦ p ]

differing : (a b c d c2 d2 : Bool) → (a ≡ true) ⊎ (c ≡ c2) → (a ≡ true) ⊎ ((c2 ≡ true) ⊎ (d ≡ d2)) → first_rule ((a, U15) ∷ (b, U3) ∷ (c, U6) ∷ (d, U5) ∷ []) ≡ first_rule ((a, U15) ∷ (b, U3) ∷ (c2, U6) ∷ (d2, U5) ∷ [])
differing true b c d c2 d2 h g = refl
differing false b c d c2 d2 h g = rw (not_first (c ≡ c2) h) (later b c2 d d2 (not_first ((c2 ≡ true) ⊎ (d ≡ d2)) g))

four : (a b c d a2 b2 c2 d2 : Bool) → a ≡ a2 → b ≡ b2 → (a2 ≡ true) ⊎ (c ≡ c2) → (a2 ≡ true) ⊎ ((c2 ≡ true) ⊎ (d ≡ d2)) → first_rule ((a, U15) ∷ (b, U3) ∷ (c, U6) ∷ (d, U5) ∷ []) ≡ first_rule ((a2, U15) ∷ (b2, U3) ∷ (c2, U6) ∷ (d2, U5) ∷ [])
four a b c d a2 b2 c2 d2 e f g h = rw e (rw f (differing a2 b2 c d c2 d2 g h))

pub difference_same : (f : Key → ℕ) (os : List Object) (t : List Obj) (w x : Word) (v u : Value) (size : ℕ) → Agree os t → StandsFor f t w v → StandsFor f t x u → compared.difference_rule t w x size ≡ meaning.difference_rule os v u size
difference_same f os t w x v u size a s r = four (memory.is_number w || memory.is_number x) (memory.is_dead t w || memory.is_dead t x) (compared.are_unrelated t w x) (compared.is_uneven t w x size) (meaning.is_number v || meaning.is_number u) (meaning.is_dead os v || meaning.is_dead os u) (meaning.are_unrelated v u) (meaning.is_uneven v u size) (numbers_same f t w x v u s r) (deaths_same f os t w x v u a s r) (unrelated_same f t w x v u s r) (uneven_same f t w x v u size s r)
