-- The truth of a word, the words of functions, and conversions in registers.
use Rattle.std.proofs.Common.{◌≡◌, ◌≢◌, ◌⊎◌, inl, inr, ℕ, ◌+◌, ◌-◌, ◌*◌, ◌%◌, ◌^◌, ◌<◌, ◌≤◌, ◌==◌, Bool, true, false, not, List, [], Some, refl, sym, ap, subst, ◌∙◌, arith}
use Rattle.std.specs.Prelude.{if◌then◌else◌}
use Rattle.std.specs.List.{slice_get}
use Rattle.std.proofs.lemmas.Bool.Decides.{nat_tests}
use Rattle.std.proofs.lemmas.Option.{slice_get_within}
use Rattle.sc_base.specs.declared.integer.Int.{Int}
use Rattle.sc_base.specs.declared.integer.Int.TheVariants as int
use Rattle.sc_base.specs.declared.key.Key.{Key}
use Rattle.sc_base.specs.declared.memory.Word.{Word}
use Rattle.sc_types.specs.declared.ctype.CType.{CType, out-CType}
use Rattle.sc_types.specs.declared.ctype.CType.TheOpen.{CType-F}
use Rattle.sc_types.specs.declared.ctype.Signature.{Signature}
use Rattle.sc_types.specs.Compatibility.{same_int}
use Rattle.sc_objects.specs.declared.objects.Obj.{Obj}
use Rattle.sc_ops.specs.Numbers.{converted}
use Rattle.sc_emu.specs.Operations.{plain}
use Rattle.sc_meaning.specs.Accesses.{as_type, converted_value, is_true}
use Rattle.sc_meaning.specs.Values.{Value, Number, FunctionAt, Pointer, layer_is_pointer, layer_int, is_pointer_type, int_of}
use Rattle.sc_meaning.specs.Violations.{is_plain}
use Rattle.sc_compiled_frames.specs.Means.{Means}
use Rattle.sc_compiled_frames.specs.Words.{AreStubs, AreSeated, IsOf}
use Rattle.sc_compiled_frames.specs.Conversions.{narrowing, renarrowing, by_constants}
use Rattle.sc_compiled_frames.specs.Accesses.{IsNumberOf, IsCanonical}
use Rattle.sc_compiled_frames.proofs.Values.{stub_stands, number_means}
use Rattle.sc_compiled_frames.proofs.Narrowing.{narrowed_is, converted_wide, converted_twice, unsigned_word}

-- ---- truth
not_zero : (n : ℕ) → n ≢ 0 → (n == 0) ≡ false
not_zero n ne = grind (arith, nat_tests)

double : (b : Bool) → b ≡ not (not b)
double true = refl
double false = refl

above : (base size bits i : ℕ) → 0 < base → base + size < 4294967296 → (bits + (4294967296 - base)) % 4294967296 ≡ i → i ≤ size → bits ≢ 0
above base size bits i low top is le z = omega (arith, low, top, is, le, z)

pub truth_is : (fs : List Key) (f : Key → ℕ) (t : List Obj) (x : Word) (v : Value) → AreStubs fs f → AreSeated t → Means f t x v → (x.bits == 0) ≡ not (is_true v)
truth_is fs f t x (Number n) stubs seated h = ap (λ k. k == 0) h.stands.0 ∙ double (n == 0)
truth_is fs f t x (FunctionAt k) stubs seated h =
    let is = h.stands.0 in
    let (n, e) = stubs.only k (subst (λ b. b < 2 ^ 32) is h.wide) in
    let at : x.bits ≡ 65536 + 8 * n = is ∙ stubs.there n k e in
    not_zero x.bits (λ z. omega (arith, at, z))
truth_is fs f t x (Pointer o i) stubs seated h =
    let (p, tag, there, wide, is) = h.stands in
    let (q, found, le) = h.within in
    let (low, top, few) = seated o p there in
    let one : q ≡ p = same q p (sym found ∙ there) in
    let le2 : i ≤ p.size = subst (λ (r : Obj). i ≤ r.size) one le in
    not_zero x.bits (above p.base p.size x.bits i low top is le2)
  where
    same : (p q : Obj) → Some p ≡ Some q → p ≡ q
    same p q e = cc (e)

-- ---- names of functions
pub function_means : (fs : List Key) (f : Key → ℕ) (t : List Obj) (n : ℕ) (key : Key) → AreStubs fs f → AreSeated t → slice_get fs n ≡ Some key → Means f t (record { bits = f key; tag = 4294967295 }) (FunctionAt key)
function_means fs f t n key stubs seated e =
    let at = stubs.there n key e in
    let few = stubs.few in
    let lt = slice_get_within fs n key e in
    record { stands = stub_stands fs f t n key seated e; wide = omega (arith, at, few, lt); within = tt }

-- ---- conversions
no_value : (A : Type 0) → false ≡ true → A
no_value A e = absurd (cc (e))

number_converts : (f : Key → ℕ) (t : List Obj) (i : Int) (x : Word) (v : Value) → is_plain v ≡ true → Means f t x v → Means f t (by_constants (narrowing i) x) (converted_value i v)
number_converts f t i x (Number n) e h =
    let lt : n < 4294967296 = subst (λ b. b < 4294967296) h.stands.0 h.wide in
    let is : x ≡ plain n = λ k. record { bits = h.stands.0 k; tag = h.stands.1 k } in
    subst (λ y. Means f t y (Number (converted n i))) (sym (ap (by_constants (narrowing i)) is ∙ narrowed_is i n lt)) (number_means f t (converted n i) (converted_wide i n))
number_converts f t i x (FunctionAt k) e h = no_value (Means f t (by_constants (narrowing i) x) (FunctionAt k)) e
number_converts f t i x (Pointer o j) e h = no_value (Means f t (by_constants (narrowing i) x) (Pointer o j)) e

abbrev Layer : Type 0
Layer = CType-F CType Signature

-- no words where a pointer is converted, and none that change what is no integer
layer_converts : (f : Key → ℕ) (t : List Obj) (l : Layer) (x : Word) (v : Value) → (layer_is_pointer l ≡ true) ⊎ (is_plain v ≡ true) → Means f t x v
    → Means f t (by_constants (narrowing (layer_int l)) x) (if layer_is_pointer l then v else converted_value (layer_int l) v)
layer_converts f t (CType-F.Void c) x v (inl e) h = no_value (Means f t x (converted_value int.UInt v)) e
layer_converts f t (CType-F.Void c) x v (inr e) h = number_converts f t int.UInt x v e h
layer_converts f t (CType-F.Int i c) x v (inl e) h = no_value (Means f t (by_constants (narrowing i) x) (converted_value i v)) e
layer_converts f t (CType-F.Int i c) x v (inr e) h = number_converts f t i x v e h
layer_converts f t (CType-F.Pointer p c) x v of h = h
layer_converts f t (CType-F.Array y n) x v (inl e) h = no_value (Means f t x (converted_value int.UInt v)) e
layer_converts f t (CType-F.Array y n) x v (inr e) h = number_converts f t int.UInt x v e h
layer_converts f t (CType-F.Struct s c) x v (inl e) h = no_value (Means f t x (converted_value int.UInt v)) e
layer_converts f t (CType-F.Struct s c) x v (inr e) h = number_converts f t int.UInt x v e h
layer_converts f t (CType-F.Function s) x v (inl e) h = no_value (Means f t x (converted_value int.UInt v)) e
layer_converts f t (CType-F.Function s) x v (inr e) h = number_converts f t int.UInt x v e h

same_int_is : (i j : Int) → same_int i j ≡ true → i ≡ j
same_int_is int.Char int.Char e = refl
same_int_is int.SChar int.SChar e = refl
same_int_is int.UChar int.UChar e = refl
same_int_is int.Short int.Short e = refl
same_int_is int.UShort int.UShort e = refl
same_int_is int.Int int.Int e = refl
same_int_is int.UInt int.UInt e = refl
same_int_is int.Long int.Long e = refl
same_int_is int.ULong int.ULong e = refl
same_int_is i j e = absurd (cc (e))

chosen_number : (b : Bool) (n k : ℕ) → k ≡ n → (if b then Number n else Number k) ≡ Number n
chosen_number true n k e = refl
chosen_number false n k e = ap Number e

chosen_same : (b : Bool) (v : Value) → (if b then v else v) ≡ v
chosen_same true v = refl
chosen_same false v = refl

-- a value that is one of a type is converted to it as it stands
as_type_same : (from to : CType) (v : Value) → int_of from ≡ int_of to → IsCanonical from v → as_type to v ≡ v
as_type_same from to (Number n) e canonical = chosen_number (is_pointer_type to) n (converted n (layer_int (out-CType to))) (ap (converted n) (sym e) ∙ canonical)
as_type_same from to (FunctionAt k) e canonical = chosen_same (is_pointer_type to) (FunctionAt k)
as_type_same from to (Pointer o i) e canonical = chosen_same (is_pointer_type to) (Pointer o i)

pub type_converts : (f : Key → ℕ) (t : List Obj) (ty : CType) (x : Word) (v : Value) → IsOf ty v → Means f t x v → Means f t (by_constants (narrowing (int_of ty)) x) (as_type ty v)
type_converts f t ty x v of h = layer_converts f t (out-CType ty) x v of h

pub type_reconverts : (f : Key → ℕ) (t : List Obj) (from to : CType) (x : Word) (v : Value) → IsOf to v → IsCanonical from v → Means f t x v → Means f t (by_constants (renarrowing (int_of from) (int_of to)) x) (as_type to v)
type_reconverts f t from to x v of canonical h = by (same_int (int_of from) (int_of to)) refl
  where
    by : (b : Bool) → same_int (int_of from) (int_of to) ≡ b → Means f t (by_constants (if b then [] else narrowing (int_of to)) x) (as_type to v)
    by true e = subst (λ u. Means f t x u) (sym (as_type_same from to v (same_int_is (int_of from) (int_of to) e) canonical)) h
    by false e = type_converts f t to x v of h

-- what a conversion gives is one of its type
pub number_canonical : (i : Int) (v : Value) → IsNumberOf i (converted_value i v)
number_canonical i (Number n) = converted_twice i n
number_canonical i (FunctionAt k) = tt
number_canonical i (Pointer o at) = tt

pub word_canonical : (f : Key → ℕ) (t : List Obj) (x : Word) (v : Value) → Means f t x v → IsNumberOf int.UInt v
word_canonical f t x (Number n) h = unsigned_word n (subst (λ b. b < 4294967296) h.stands.0 h.wide)
word_canonical f t x (FunctionAt k) h = tt
word_canonical f t x (Pointer o at) h = tt

layer_canonical : (f : Key → ℕ) (t : List Obj) (l : Layer) (x : Word) (v : Value) → Means f t x v → IsNumberOf (layer_int l) (if layer_is_pointer l then v else converted_value (layer_int l) v)
layer_canonical f t (CType-F.Void c) x v h = number_canonical int.UInt v
layer_canonical f t (CType-F.Int i c) x v h = number_canonical i v
layer_canonical f t (CType-F.Pointer p c) x v h = word_canonical f t x v h
layer_canonical f t (CType-F.Array e n) x v h = number_canonical int.UInt v
layer_canonical f t (CType-F.Struct s c) x v h = number_canonical int.UInt v
layer_canonical f t (CType-F.Function s) x v h = number_canonical int.UInt v

pub as_type_canonical : (f : Key → ℕ) (t : List Obj) (ty : CType) (x : Word) (v : Value) → Means f t x v → IsCanonical ty (as_type ty v)
as_type_canonical f t ty x v h = layer_canonical f t (out-CType ty) x v h
