-- A word stands for the value that its tag and address find, and for no other.
use Rattle.std.proofs.Common.{◌≡◌, ◌≢◌, inl, inr, ℕ, zero, suc, ◌+◌, ◌-◌, ◌*◌, ◌/◌, ◌%◌, ◌^◌, ◌<◌, ◌≤◌, ◌==◌, Bool, true, false, List, Option, Some, None, refl, sym, ap, subst, ◌∙◌, arith}
use Rattle.std.specs.List.{slice_get}
use Rattle.std.specs.Prelude.{◌&&◌, nat_le, if◌then◌else◌}
use Rattle.std.proofs.lemmas.Bool.{and_parts}
use Rattle.std.proofs.lemmas.Bool.Decides.{nat_tests}
use Rattle.sc_base.specs.declared.key.Key.{Key}
use Rattle.sc_base.specs.declared.memory.Word.{Word}
use Rattle.sc_objects.specs.declared.objects.Obj.{Obj}
use Rattle.sc_objects.specs.Numbered.{object_of}
use Rattle.sc_mem.specs.Violations.{offset_from}
use Rattle.sc_meaning.specs.Values.{Value, Number, FunctionAt, Pointer}
use Rattle.sc_mem_agree.specs.Agreement.{StandsFor}
use Rattle.sc_mem_store.specs.Holding.{value_at, function_of, function_or, IsTag}
use Rattle.sc_mem_store.specs.Apart.{AreBelow}
use Rattle.sc_mem_store.specs.Stray.{is_nowhere}
use Rattle.sc_mem_store.proofs.Words.{stub_word, function_stands, number_stands, no_function, no_number}
use Rattle.sc_compiled_frames.specs.Means.{IsWithin, Means}
use Rattle.sc_compiled_frames.specs.Words.{AreStubs, AreSeated, IsInside}

pub below : (t : List Obj) → AreSeated t → AreBelow t
below t seated id p e = let (low, high, small) = seated id p e in (omega (arith, high), small)

no_such : (t : List Obj) (q : Option Obj) → AreSeated t → object_of t 4294967295 ≡ q → q ≡ None
no_such t None seated e = refl
no_such t (Some p) seated e = let less = (seated 4294967295 p e).2 in absurd (omega (arith, less))

-- the functions' tag is no object's
pub tag_is_free : (t : List Obj) → AreSeated t → object_of t 4294967295 ≡ None
tag_is_free t seated = no_such t (object_of t 4294967295) seated refl

-- the word of a function's stub stands for it
pub stub_stands : (fs : List Key) (f : Key → ℕ) (t : List Obj) (n : ℕ) (key : Key) → AreSeated t → slice_get fs n ≡ Some key → StandsFor f t (record { bits = f key; tag = 4294967295 }) (FunctionAt key)
stub_stands fs f t n key seated e = (refl, refl, tag_is_free t seated)

no_object : (t : List Obj) (p : Obj) → object_of t 0 ≡ Some p → ⊥
no_object t p e = absurd (cc (e))

pub some_number : (t : List Obj) (id : ℕ) (p : Obj) → object_of t id ≡ Some p → id ≢ 0
some_number t id p e z = no_object t p (subst (λ k. object_of t k ≡ Some p) z e)

of_place : (fs : List Key) (t : List Obj) (id a : ℕ) (p : Obj) → AreSeated t → object_of t id ≡ Some p → value_at fs t id a ≡ Pointer id (offset_from a (Some p))
of_place fs t id a p seated e =
    let less = (seated id p e).2 in
    let other : id ≢ 4294967295 = λ z. omega (arith, less, z) in
    rw (no_number id (some_number t id p e), no_function id other, e) refl

-- what its tag and address find is the value for which a word stands
pub value_is : (fs : List Key) (f : Key → ℕ) (t : List Obj) (w : Word) (v : Value) → AreStubs fs f → AreSeated t → w.bits < 2 ^ 32 → StandsFor f t w v → value_at fs t w.tag w.bits ≡ v
value_is fs f t w (Number n) stubs seated lt s = (number_stands fs t w.tag w.bits s.1).0 ∙ ap Number s.0
value_is fs f t w (FunctionAt k) stubs seated lt s =
    let (n, e) = stubs.only k (subst (λ b. b < 2 ^ 32) s.0 lt) in
    (function_stands fs t w.tag w.bits k s.1 (stub_word fs n w.bits k e (s.0 ∙ stubs.there n k e))).0
value_is fs f t w (Pointer o i) stubs seated lt s =
    ap (λ g. value_at fs t g w.bits) s.1 ∙ of_place fs t o w.bits s.0 seated s.2 ∙ ap (Pointer o) s.4

-- a word stands for one value
pub stands_once : (fs : List Key) (f : Key → ℕ) (t : List Obj) (w : Word) (v u : Value) → AreStubs fs f → AreSeated t → w.bits < 2 ^ 32 → StandsFor f t w v → StandsFor f t w u → v ≡ u
stands_once fs f t w v u stubs seated lt s r = sym (value_is fs f t w v stubs seated lt s) ∙ value_is fs f t w u stubs seated lt r

found : (b : Bool) (q : Option Key) (k : Key) → (if b then q else None) ≡ Some k → (b ≡ true) × (q ≡ Some k)
found true q k e = (refl, e)
found false q k e = absurd (cc (e))

-- a function that is found has its stub at the address
at_stub : (fs : List Key) (a : ℕ) (k : Key) → function_of fs a ≡ Some k → (n : ℕ) × (slice_get fs n ≡ Some k) × (a ≡ 65536 + 8 * n)
at_stub fs a k e =
    let p = found (nat_le 65536 a && (a % 8 == 0)) (slice_get fs ((a - 65536) / 8)) k e in
    let s = and_parts (nat_le 65536 a) (a % 8 == 0) p.0 in
    ((a - 65536) / 8, p.1, place a s.0 s.1)
  where
    place : (a : ℕ) → nat_le 65536 a ≡ true → (a % 8 == 0) ≡ true → a ≡ 65536 + 8 * ((a - 65536) / 8)
    place a e f = grind (arith, nat_tests, e, f)

function_found : (fs : List Key) (f : Key → ℕ) (t : List Obj) (w : Word) (q : Option Key) → AreStubs fs f → AreSeated t → w.tag ≡ 4294967295 → function_of fs w.bits ≡ q → is_nowhere (function_or q w.bits) ≡ false → StandsFor f t w (function_or q w.bits)
function_found fs f t w None stubs seated e g n = absurd (cc (n))
function_found fs f t w (Some k) stubs seated e g n =
    let (i, there, is) = at_stub fs w.bits k g in
    (is ∙ sym (stubs.there i k there), e, ap (object_of t) e ∙ tag_is_free t seated)

-- a word stands for what its tag and address find, where the tag is one and leads somewhere
pub word_stands : (fs : List Key) (f : Key → ℕ) (t : List Obj) (w : Word) → AreStubs fs f → AreSeated t → w.bits < 2 ^ 32 → IsTag t w.tag → is_nowhere (value_at fs t w.tag w.bits) ≡ false → StandsFor f t w (value_at fs t w.tag w.bits)
word_stands fs f t w stubs seated lt (inl e) n = subst (λ v. StandsFor f t w v) (sym (number_stands fs t w.tag w.bits e).0) (refl, e)
word_stands fs f t w stubs seated lt (inr (inl e)) n =
    let is : value_at fs t w.tag w.bits ≡ function_or (function_of fs w.bits) w.bits = rw e refl in
    subst (λ v. StandsFor f t w v) (sym is) (function_found fs f t w (function_of fs w.bits) stubs seated e refl (subst (λ v. is_nowhere v ≡ false) is n))
word_stands fs f t w stubs seated lt (inr (inr (p, e))) n =
    subst (λ v. StandsFor f t w v) (sym (of_place fs t w.tag w.bits p seated e)) (p, refl, e, lt, refl)

-- the tag of a word that stands for a value is one
pub has_tag : (f : Key → ℕ) (t : List Obj) (w : Word) (v : Value) → StandsFor f t w v → IsTag t w.tag
has_tag f t w (Number n) s = inl s.1
has_tag f t w (FunctionAt k) s = inr (inl s.1)
has_tag f t w (Pointer o i) s = inr (inr (s.0, ap (object_of t) s.1 ∙ s.2))

-- and such a value leads somewhere
pub leads_somewhere : (f : Key → ℕ) (t : List Obj) (w : Word) (v : Value) → StandsFor f t w v → is_nowhere v ≡ false
leads_somewhere f t w (Number n) s = refl
leads_somewhere f t w (FunctionAt k) s = refl
leads_somewhere f t w (Pointer zero i) s = absurd (no_object t s.0 s.2)
leads_somewhere f t w (Pointer (suc o) i) s = refl

-- an address is inside of its object where the value is
pub within_is : (f : Key → ℕ) (t : List Obj) (w : Word) (v : Value) → StandsFor f t w v → IsInside t w.bits w.tag → IsWithin t v
within_is f t w (Number n) s inside = tt
within_is f t w (FunctionAt k) s inside = tt
within_is f t w (Pointer o i) s inside =
    let le = inside s.0 (ap (object_of t) s.1 ∙ s.2) in
    (s.0, s.2, subst (λ k. k ≤ s.0.size) s.4 le)

one_object : (p q : Obj) → Some p ≡ Some q → p ≡ q
one_object p q e = cc (e)

no_one : (A : Type 0) (p : Obj) → None ≡ Some p → A
no_one A p e = absurd (cc (e))

pub inside_is : (f : Key → ℕ) (t : List Obj) (w : Word) (v : Value) → StandsFor f t w v → IsWithin t v → IsInside t w.bits w.tag
inside_is f t w (Number n) s within p e = absurd (no_object t p (subst (λ g. object_of t g ≡ Some p) s.1 e))
inside_is f t w (FunctionAt k) s within p e = no_one (offset_from w.bits (Some p) ≤ p.size) p (sym s.2 ∙ e)
inside_is f t w (Pointer o i) s within p e =
    let one : s.0 ≡ p = one_object s.0 p (sym s.2 ∙ ap (object_of t) (sym s.1) ∙ e) in
    let two : s.0 ≡ within.0 = one_object s.0 within.0 (sym s.2 ∙ within.1) in
    let le : i ≤ s.0.size = subst (λ (q : Obj). i ≤ q.size) (sym two) within.2 in
    subst (λ (q : Obj). offset_from w.bits (Some q) ≤ q.size) one (subst (λ k. k ≤ s.0.size) (sym s.4) le)

-- a number's word
pub number_means : (f : Key → ℕ) (t : List Obj) (n : ℕ) → n < 2 ^ 32 → Means f t (record { bits = n; tag = 0 }) (Number n)
number_means f t n lt = record { stands = (refl, refl); wide = lt; within = tt }

-- a word goes on to mean its value where objects stay where they stand, whatever is born and dies
pub means_stays : (f : Key → ℕ) (t u : List Obj) (x : Word) (v : Value) → ((id : ℕ) (p : Obj) → object_of t id ≡ Some p → (q : Obj) × (object_of u id ≡ Some q) × (q.base ≡ p.base) × (q.size ≡ p.size)) → AreSeated u → Means f t x v → Means f u x v
means_stays f t u x (Number n) keeps seated h = record { stands = h.stands; wide = h.wide; within = tt }
means_stays f t u x (FunctionAt k) keeps seated h = record { stands = (h.stands.0, h.stands.1, ap (object_of u) h.stands.1 ∙ tag_is_free u seated); wide = h.wide; within = tt }
means_stays f t u x (Pointer o i) keeps seated h =
    let (p, tag, there, lt, is) = h.stands in
    let (r, found, le) = h.within in
    let (q, now, base, size) = keeps o p there in
    let one : r ≡ p = one_object r p (sym found ∙ there) in
    let le2 : i ≤ p.size = subst (λ (z : Obj). i ≤ z.size) one le in
    record {
      stands = (q, tag, now, lt, ap (λ b. (x.bits + (4294967296 - b)) % 4294967296) base ∙ is);
      wide = lt;
      within = (q, now, subst (λ n. i ≤ n) (sym size) le2);
    }

-- a word that means a value is one that the run itself takes for it
pub means_value : (fs : List Key) (f : Key → ℕ) (t : List Obj) (x : Word) (v : Value) → AreStubs fs f → AreSeated t → Means f t x v → value_at fs t x.tag x.bits ≡ v
means_value fs f t x v stubs seated h = value_is fs f t x v stubs seated h.wide h.stands

pub value_means : (fs : List Key) (f : Key → ℕ) (t : List Obj) (x : Word) → AreStubs fs f → AreSeated t → x.bits < 2 ^ 32 → IsTag t x.tag → IsInside t x.bits x.tag → is_nowhere (value_at fs t x.tag x.bits) ≡ false → Means f t x (value_at fs t x.tag x.bits)
value_means fs f t x stubs seated lt tag inside n =
    let s = word_stands fs f t x stubs seated lt tag n in
    record { stands = s; wide = lt; within = within_is f t x (value_at fs t x.tag x.bits) s inside }

pub means_once : (fs : List Key) (f : Key → ℕ) (t : List Obj) (x : Word) (v u : Value) → AreStubs fs f → AreSeated t → Means f t x v → Means f t x u → v ≡ u
means_once fs f t x v u stubs seated h g = stands_once fs f t x v u stubs seated h.wide h.stands g.stands
