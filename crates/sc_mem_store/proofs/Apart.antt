-- Two words are one where their values are.
use Rattle.std.proofs.Common.{◌≡◌, ◌≢◌, inl, inr, ℕ, zero, suc, ◌+◌, ◌-◌, ◌*◌, ◌/◌, ◌%◌, ◌^◌, ◌<◌, ◌≤◌, ◌==◌, ◌&&◌, nat_le, Bool, true, false, if◌then◌else◌, List, refl, sym, ap, subst, ◌∙◌, Option, Some, None, arith}
use Rattle.std.specs.List.{slice_get}
use Rattle.std.proofs.lemmas.Bool.{and_parts}
use Rattle.std.proofs.lemmas.Bool.Decides.{nat_tests}
use Rattle.sc_base.specs.declared.key.Key.{Key}
use Rattle.sc_objects.specs.declared.objects.Obj.{Obj}
use Rattle.sc_objects.specs.Numbered.{object_of}
use Rattle.sc_mem.specs.Violations.{offset_from}
use Rattle.sc_meaning.specs.Values.{Value, Number, FunctionAt, Pointer}
use Rattle.sc_mem_store.specs.Holding.{function_of, function_or, place_or, value_at, IsTag}
use Rattle.sc_mem_store.specs.Apart.{AreOnce, AreBelow}
use Rattle.sc_mem_store.proofs.Words.{no_function, no_number}

same-offset : (base a b : ℕ) → base < 4294967296 → a < 4294967296 → b < 4294967296 → (a + (4294967296 - base)) % 4294967296 ≡ (b + (4294967296 - base)) % 4294967296 → a ≡ b
same-offset base a b p q r e = omega arith

same-stub : (a b : ℕ) → 65536 ≤ a → 65536 ≤ b → a % 8 ≡ 0 → b % 8 ≡ 0 → (a - 65536) / 8 ≡ (b - 65536) / 8 → a ≡ b
same-stub a b p q r s e = omega arith

-- what a found function says of its address
if-found : (b : Bool) (q : Option Key) (k : Key) → (if b then q else None) ≡ Some k → (b ≡ true) × (q ≡ Some k)
if-found true q k e = (refl, e)
if-found false q k e = absurd (cc)

low-enough : (a : ℕ) → nat_le 65536 a ≡ true → 65536 ≤ a
low-enough a e = grind (arith, nat_tests)

aligned : (a : ℕ) → (a % 8 == 0) ≡ true → a % 8 ≡ 0
aligned a e = grind (arith, nat_tests)

found-once : (keys : List Key) (a b : ℕ) (k : Key) → AreOnce keys → function_of keys a ≡ Some k → function_of keys b ≡ Some k → a ≡ b
found-once keys a b k d e f =
    let p = if-found (nat_le 65536 a && (a % 8 == 0)) (slice_get keys ((a - 65536) / 8)) k e in
    let q = if-found (nat_le 65536 b && (b % 8 == 0)) (slice_get keys ((b - 65536) / 8)) k f in
    let s = and_parts (nat_le 65536 a) (a % 8 == 0) p.0 in
    let t = and_parts (nat_le 65536 b) (b % 8 == 0) q.0 in
    same-stub a b (low-enough a s.0) (low-enough b t.0) (aligned a s.1) (aligned b t.1) (d ((a - 65536) / 8) ((b - 65536) / 8) k p.1 q.1)

abbrev key-in : Value → Option Key
key-in (FunctionAt k) = Some k
key-in _ = None

abbrev offset-of : Value → ℕ
offset-of (Pointer o i) = i
offset-of _ = 0

abbrev number-of : Value → ℕ
number-of (Number n) = n
number-of _ = 0

abbrev object-in : Value → ℕ
object-in (Pointer o i) = o
object-in _ = 0

functions-apart : (keys : List Key) (x y : Option Key) (a b : ℕ) → AreOnce keys → x ≡ function_of keys a → y ≡ function_of keys b → function_or x a ≡ function_or y b → a ≡ b
functions-apart keys None None a b d e f g = ap offset-of g
functions-apart keys None (Some l) a b d e f g = absurd (cc)
functions-apart keys (Some k) None a b d e f g = absurd (cc)
functions-apart keys (Some k) (Some l) a b d e f g =
    let same : Some k ≡ Some l = ap key-in g in
    found-once keys a b k d (sym e) (sym f ∙ sym same)

number-no-function : (q : Option Key) (n a : ℕ) → Number n ≡ function_or q a → ⊥
number-no-function None n a e = absurd (cc)
number-no-function (Some k) n a e = absurd (cc)

place-no-function : (q : Option Key) (id i a : ℕ) → id ≢ 0 → Pointer id i ≡ function_or q a → ⊥
place-no-function None id i a some e = absurd (some (ap object-in e))
place-no-function (Some k) id i a some e = absurd (cc)

-- the values of the three kinds of words
of-number : (fs : List Key) (t : List Obj) (tag a : ℕ) → tag ≡ 0 → value_at fs t tag a ≡ Number a
of-number fs t tag a e = rw e refl

of-function : (fs : List Key) (t : List Obj) (tag a : ℕ) → tag ≡ 4294967295 → value_at fs t tag a ≡ function_or (function_of fs a) a
of-function fs t tag a e = rw e refl

no-object : (t : List Obj) (p : Obj) → object_of t 0 ≡ Some p → ⊥
no-object t p e = absurd (cc)

some-number : (t : List Obj) (id : ℕ) (p : Obj) → object_of t id ≡ Some p → id ≢ 0
some-number t id p e z = no-object t p (subst (λ k. object_of t k ≡ Some p) z e)

of-place : (fs : List Key) (t : List Obj) (id a : ℕ) (p : Obj) → AreBelow t → object_of t id ≡ Some p → value_at fs t id a ≡ Pointer id (offset_from a (Some p))
of-place fs t id a p below e =
    let less = (below id p e).1 in
    let other : id ≢ 4294967295 = λ z. omega (arith, less, z) in
    rw (no_number id (some-number t id p e), no_function id other, e) refl

pub words_once : (fs : List Key) (t : List Obj) (tag a other b : ℕ) → AreOnce fs → AreBelow t → IsTag t tag → IsTag t other → a < 2 ^ 32 → b < 2 ^ 32 → value_at fs t tag a ≡ value_at fs t other b → (tag ≡ other) × (a ≡ b)
words_once fs t tag a other b once below (inl e) (inl f) p q g = (e ∙ sym f, ap number-of (sym (of-number fs t tag a e) ∙ g ∙ of-number fs t other b f))
words_once fs t tag a other b once below (inl e) (inr (inl f)) p q g = absurd (number-no-function (function_of fs b) a b (sym (of-number fs t tag a e) ∙ g ∙ of-function fs t other b f))
words_once fs t tag a other b once below (inl e) (inr (inr (o, f))) p q g =
    let h : Number a ≡ Pointer other (offset_from b (Some o)) = sym (of-number fs t tag a e) ∙ g ∙ of-place fs t other b o below f in
    absurd (cc)
words_once fs t tag a other b once below (inr (inl e)) (inl f) p q g = absurd (number-no-function (function_of fs a) b a (sym (of-number fs t other b f) ∙ sym g ∙ of-function fs t tag a e))
words_once fs t tag a other b once below (inr (inl e)) (inr (inl f)) p q g = (e ∙ sym f, functions-apart fs (function_of fs a) (function_of fs b) a b once refl refl (sym (of-function fs t tag a e) ∙ g ∙ of-function fs t other b f))
words_once fs t tag a other b once below (inr (inl e)) (inr (inr (o, f))) p q g = absurd (place-no-function (function_of fs a) other (offset_from b (Some o)) a (some-number t other o f) (sym (of-place fs t other b o below f) ∙ sym g ∙ of-function fs t tag a e))
words_once fs t tag a other b once below (inr (inr (o, e))) (inl f) p q g =
    let h : Pointer tag (offset_from a (Some o)) ≡ Number b = sym (of-place fs t tag a o below e) ∙ g ∙ of-number fs t other b f in
    absurd (cc)
words_once fs t tag a other b once below (inr (inr (o, e))) (inr (inl f)) p q g = absurd (place-no-function (function_of fs b) tag (offset_from a (Some o)) b (some-number t tag o e) (sym (of-place fs t tag a o below e) ∙ g ∙ of-function fs t other b f))
words_once fs t tag a other b once below (inr (inr (o, e))) (inr (inr (u, f))) p q g =
    let h : Pointer tag (offset_from a (Some o)) ≡ Pointer other (offset_from b (Some u)) = sym (of-place fs t tag a o below e) ∙ g ∙ of-place fs t other b u below f in
    let same : tag ≡ other = ap object-in h in
    let both : Some o ≡ Some u = sym e ∙ (ap (object_of t) same ∙ f) in
    let one : o ≡ u = cc in
    let base : u.base ≡ o.base = ap (λ (x : Obj). x.base) (sym one) in
    let at : (a + (2 ^ 32 - o.base)) % 2 ^ 32 ≡ (b + (2 ^ 32 - o.base)) % 2 ^ 32 = ap offset-of h ∙ ap (λ n. (b + (2 ^ 32 - n)) % 2 ^ 32) base in
    (same, same-offset o.base a b (below tag o e).0 p q at)
