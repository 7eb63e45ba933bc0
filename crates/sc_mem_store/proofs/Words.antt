-- What the word of a value stands for.
use Rattle.std.proofs.Common.{◌≡◌, ◌≢◌, inl, inr, ℕ, zero, suc, ◌+◌, ◌-◌, ◌*◌, ◌/◌, ◌%◌, ◌^◌, ◌<◌, ◌==◌, ◌&&◌, nat_le, Bool, true, false, if◌then◌else◌, List, [], ◌∷◌, drop, refl, sym, ap, subst, ◌∙◌, Option, Some, None, arith}
use Rattle.std.specs.List.{slice_get}
use Rattle.std.proofs.lemmas.Bool.Decides.{nat_tests}
use Rattle.sc_base.specs.declared.key.Key.{Key}
use Rattle.sc_objects.specs.declared.objects.Obj.{Obj}
use Rattle.sc_objects.specs.Numbered.{object_of}
use Rattle.sc_mem.specs.Violations.{offset_from}
use Rattle.sc_meaning.specs.Values.{Value, Number, FunctionAt, Pointer, same_key}
use Rattle.sc_base.specs.declared.memory.Word.{Word}
use Rattle.sc_meaning.specs.Beside.{word_of, place_word, stub_from}
use Rattle.sc_mem_store.specs.Holding.{function_of, function_or, place_or, value_at, IsTag}

low : (n : ℕ) → nat_le 65536 (65536 + 8 * n) ≡ true
low n = grind (arith, nat_tests)

even : (n : ℕ) → (65536 + 8 * n) % 8 == 0 ≡ true
even n = let e : (65536 + 8 * n) % 8 ≡ 0 = omega arith in rw e refl

place : (n : ℕ) → (65536 + 8 * n - 65536) / 8 ≡ n
place n = omega arith

-- the stub of a function stands for it
pub stub_word : (functions : List Key) (n bits : ℕ) (key : Key) → slice_get functions n ≡ Some key → bits ≡ 65536 + 8 * n → function_of functions bits ≡ Some key
stub_word functions n bits key e is = rw (is, low n, even n, place n) e

pub number_stands : (functions : List Key) (table : List Obj) (tag bits : ℕ) → tag ≡ 0 → (value_at functions table tag bits ≡ Number bits) × IsTag table tag
number_stands functions table tag bits e = (rw e refl, inl e)

pub function_stands : (functions : List Key) (table : List Obj) (tag bits : ℕ) (key : Key) → tag ≡ 4294967295 → function_of functions bits ≡ Some key → (value_at functions table tag bits ≡ FunctionAt key) × IsTag table tag
function_stands functions table tag bits key e f = (rw e (rw f refl), inr (inl e))

pub stray_stands : (functions : List Key) (table : List Obj) (tag bits : ℕ) → tag ≡ 4294967295 → function_of functions bits ≡ None → (value_at functions table tag bits ≡ Pointer 0 bits) × IsTag table tag
stray_stands functions table tag bits e f = (rw e (rw f refl), inr (inl e))

pub no_function : (id : ℕ) → id ≢ 4294967295 → id == 4294967295 ≡ false
no_function id n = grind (arith, nat_tests)

pub no_number : (id : ℕ) → id ≢ 0 → id == 0 ≡ false
no_number id n = grind (arith, nat_tests)

-- an offset comes back from its address
back : (base offset bits : ℕ) → base < 4294967296 → offset < 4294967296 → bits ≡ (base + offset) % 4294967296 → (bits + (4294967296 - base)) % 4294967296 ≡ offset
back base offset bits b o is = omega (arith, b, o, is)

pub place_stands : (functions : List Key) (table : List Obj) (id offset bits : ℕ) (p : Obj) → id ≢ 0 → id ≢ 4294967295 → object_of table id ≡ Some p → p.base < 2 ^ 32 → offset < 2 ^ 32 → bits ≡ (p.base + offset) % 2 ^ 32 → (value_at functions table id bits ≡ Pointer id offset) × IsTag table id
place_stands functions table id offset bits p some other e b o is =
    (rw (no_number id some, no_function id other, e) (ap (Pointer id) (back p.base offset bits b o is)), inr (inr (p, e)))

-- the word exactly
pub stub_written : (functions : List Key) (w : Word) (n : ℕ) (key : Key) → w.tag ≡ 4294967295 → w.bits ≡ 65536 + 8 * n → stub_from 65536 functions key ≡ 65536 + 8 * n → w ≡ word_of functions [] (FunctionAt key)
stub_written functions w n key e f g = λ i. record { bits = (f ∙ sym g) i; tag = e i }

pub stray_word : (functions : List Key) (table : List Obj) (w : Word) (at : ℕ) → w.tag ≡ 4294967295 → w.bits ≡ at → w ≡ word_of functions table (Pointer 0 at)
stray_word functions table w at e f = λ i. record { bits = f i; tag = e i }

pub place_written : (functions : List Key) (table : List Obj) (w : Word) (id offset : ℕ) (p : Obj) → object_of table id ≡ Some p → w.tag ≡ id → w.bits ≡ (p.base + offset) % 2 ^ 32 → w ≡ word_of functions table (Pointer id offset)
place_written functions table w id offset p e f g = (λ i. record { bits = g i; tag = f i }) ∙ sym (ap (place_word id offset) e)

-- the first number of a function
drop-get : {A : Type 0} (xs : List A) (n : ℕ) (x : A) → slice_get xs n ≡ Some x → drop n xs ≡ x ∷ drop (suc n) xs
drop-get [] n x e = absurd (cc e)
drop-get (y ∷ ys) zero x e = let same : y ≡ x = cc in ap (λ z. z ∷ ys) same
drop-get (y ∷ ys) (suc n) x e = drop-get ys n x e

pub stub_on : (functions : List Key) (n : ℕ) (key f : Key) → slice_get functions n ≡ Some f → same_key f key ≡ false → stub_from 65536 functions key ≡ stub_from (65536 + 8 * n) (drop n functions) key → stub_from 65536 functions key ≡ stub_from (65536 + 8 * (n + 1)) (drop (n + 1) functions) key
stub_on functions n key f there other so =
    let next : suc n ≡ n + 1 = omega arith in
    so ∙ (ap (λ (ks : List Key). stub_from (65536 + 8 * n) ks key) (drop-get functions n f there)
    ∙ (ap (λ b. if b then 65536 + 8 * n else stub_from (65536 + 8 * n + 8) (drop (suc n) functions) key) other
    ∙ (ap (λ k. stub_from k (drop (suc n) functions) key) (omega arith) ∙ ap (λ k. stub_from (65536 + 8 * (n + 1)) (drop k functions) key) next)))

pub stub_here : (functions : List Key) (n : ℕ) (key f : Key) → slice_get functions n ≡ Some f → same_key f key ≡ true → stub_from 65536 functions key ≡ stub_from (65536 + 8 * n) (drop n functions) key → stub_from 65536 functions key ≡ 65536 + 8 * n
stub_here functions n key f there same so =
    so ∙ (ap (λ (ks : List Key). stub_from (65536 + 8 * n) ks key) (drop-get functions n f there)
    ∙ ap (λ b. if b then 65536 + 8 * n else stub_from (65536 + 8 * n + 8) (drop (suc n) functions) key) same)
