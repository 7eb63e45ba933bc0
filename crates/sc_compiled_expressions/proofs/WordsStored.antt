-- The word of a value is the one that a world's own memory has for it, and its cells are the ones that are written there.
use Rattle.std.proofs.Common.{◌≡◌, ◌≢◌, ◌⊎◌, inl, inr, ℕ, ◌+◌, ◌-◌, ◌%◌, ◌^◌, ◌<◌, ◌==◌, Bool, true, false, cond, List, [], ◌∷◌, map, refl, sym, ap, subst, ◌∙◌, arith}
use Rattle.std.specs.Prelude.{if◌then◌else◌, take}
use Rattle.std.proofs.lemmas.Bool.Decides.{nat_tests}
use Rattle.sc_base.specs.declared.key.Key.{Key}
use Rattle.sc_base.specs.declared.memory.Cell.TheVariants.{Byte as Octet}
use Rattle.sc_base.specs.declared.memory.Word.{Word}
use Rattle.sc_objects.specs.declared.objects.Obj.{Obj}
use Rattle.sc_isa_image.specs.Stubs.{stub_address}
use Rattle.sc_mem.specs.Words as words
use Rattle.sc_mem.specs.Words.{IsSize}
use Rattle.sc_meaning.specs.Beside as beside
use Rattle.sc_meaning.specs.Beside.{place_word, stored_of}
use Rattle.sc_meaning.specs.Values as values
use Rattle.sc_meaning.specs.Values.{Value, Number, FunctionAt, Pointer, same_key}
use Rattle.sc_meaning.specs.Violations.{is_plain}
use Rattle.sc_compiled_frames.specs.Means.{Means}
use Rattle.sc_compiled_frames.specs.Stubs as stubs
use Rattle.sc_compiled_frames.specs.Words.{AreSeated}
use Rattle.sc_compiled_frames.proofs.Values.{some_number}

-- ---- the word of a value

-- a stub's address is the one that stands there
next_address : (at n : ℕ) → at ≡ stub_address n → at + 8 ≡ stub_address (n + 1)
next_address at n e = omega (arith, e)

by_found : (t : Bool) (n at rest other : ℕ) → at ≡ stub_address n → (other < 2 ^ 32 → rest ≡ other) → (if t then stub_address n else other) < 2 ^ 32 → (if t then at else rest) ≡ (if t then stub_address n else other)
by_found true n at rest other e further lt = e
by_found false n at rest other e further lt = further lt

addresses : (n at : ℕ) (fs : List Key) (key : Key) → at ≡ stub_address n → stubs.stub_from n fs key < 2 ^ 32 → beside.stub_from at fs key ≡ stubs.stub_from n fs key
addresses n at [] key e lt = absurd (omega (arith, lt))
addresses n at (k ∷ ks) key e lt = by_found (same_key k key) n at (beside.stub_from (at + 8) ks key) (stubs.stub_from (n + 1) ks key) e (addresses (n + 1) (at + 8) ks key (next_address at n e)) lt

-- an address by how far behind its base it is
behind_base : (base bits i : ℕ) → base < 4294967296 → bits < 4294967296 → (bits + (4294967296 - base)) % 4294967296 ≡ i → (base + i) % 4294967296 ≡ bits
behind_base base bits i low small e = omega (arith, low, small, e)

below : (a b n : ℕ) → a + b < n → a < n
below a b n lt = omega (arith, lt)

same_word : (y : Word) (b t : ℕ) → y.bits ≡ b → y.tag ≡ t → y ≡ record { bits = b; tag = t }
same_word y b t p q = λ i. record { bits = p i; tag = q i }

pub word_is : (fs : List Key) (t : List Obj) (y : Word) (v : Value) → AreSeated t → Means (stubs.stub_of fs) t y v → y ≡ beside.word_of fs t v
word_is fs t y (Number n) seated m = same_word y n 0 m.stands.0 m.stands.1
word_is fs t y (FunctionAt key) seated m =
    let wide : stubs.stub_from 0 fs key < 2 ^ 32 = subst (λ b. b < 2 ^ 32) m.stands.0 m.wide in
    same_word y (beside.stub_from 0x00010000 fs key) 4294967295 (m.stands.0 ∙ sym (addresses 0 0x00010000 fs key refl wide)) m.stands.1
word_is fs t y (Pointer o i) seated m =
    let s = m.stands in
    let seat = seated o s.0 s.2 in
    same_word y ((s.0.base + i) % 4294967296) o (sym (behind_base s.0.base y.bits i (below s.0.base s.0.size 4294967296 seat.1) s.3 s.4)) s.1
    ∙ ap (place_word o i) (sym s.2)

-- ---- its cells

no_tag : (n : ℕ) → n ≢ 0 → (n == 0) ≡ false
no_tag n ne = grind (arith, nat_tests)

number_cells : (fs : List Key) (t : List Obj) (n k : ℕ) → IsSize n → map (stored_of fs t) (values.cells_of n (Number k)) ≡ words.cells_of n (record { bits = k; tag = 0 })
number_cells fs t n k (inl e) = subst (λ n. map (stored_of fs t) (values.cells_of n (Number k)) ≡ words.cells_of n (record { bits = k; tag = 0 })) (sym e) refl
number_cells fs t n k (inr (inl e)) = subst (λ n. map (stored_of fs t) (values.cells_of n (Number k)) ≡ words.cells_of n (record { bits = k; tag = 0 })) (sym e) refl
number_cells fs t n k (inr (inr e)) = subst (λ n. map (stored_of fs t) (values.cells_of n (Number k)) ≡ words.cells_of n (record { bits = k; tag = 0 })) (sym e) refl

whole_cells : (y : Word) → y.tag ≢ 0 → words.pieces_of y ≡ words.cells_of 4 y
whole_cells y ne = ap (λ b. cond (cond b false true) (words.pieces_of y) (map Octet (take 4 (words.bytes_of y.bits)))) (sym (no_tag y.tag ne))

pub stored_are : (fs : List Key) (t : List Obj) (n : ℕ) (y : Word) (v : Value) → AreSeated t → IsSize n → (n ≡ 4) ⊎ (is_plain v ≡ true) → Means (stubs.stub_of fs) t y v → map (stored_of fs t) (values.cells_of n v) ≡ words.cells_of n y
stored_are fs t n y (Number k) seated size whole m = number_cells fs t n k size ∙ ap (words.cells_of n) (sym (word_is fs t y (Number k) seated m))
stored_are fs t n y (FunctionAt key) seated size (inr e) m = absurd (cc (e))
stored_are fs t n y (FunctionAt key) seated size (inl e) m =
    let ne : y.tag ≢ 0 = λ z. omega (arith, z, m.stands.1) in
    subst (λ n. map (stored_of fs t) (values.cells_of n (FunctionAt key)) ≡ words.cells_of n y) (sym e)
    (ap words.pieces_of (sym (word_is fs t y (FunctionAt key) seated m)) ∙ whole_cells y ne)
stored_are fs t n y (Pointer o i) seated size (inr e) m = absurd (cc (e))
stored_are fs t n y (Pointer o i) seated size (inl e) m =
    let ne : y.tag ≢ 0 = λ z. some_number t o m.stands.0 m.stands.2 (sym m.stands.1 ∙ z) in
    subst (λ n. map (stored_of fs t) (values.cells_of n (Pointer o i)) ≡ words.cells_of n y) (sym e)
    (ap words.pieces_of (sym (word_is fs t y (Pointer o i) seated m)) ∙ whole_cells y ne)
