-- That no live object holds a pointer with the functions' tag that leads to no function.
use Rattle.std.proofs.Common.{◌≡◌, inl, inr, ℕ, zero, suc, ◌+◌, ◌-◌, ◌<◌, ◌≤◌, Bool, true, false, List, length, Option, Some, None, Result, Ok, Err, refl, sym, ap, subst, ◌∙◌, arith}
use Rattle.std.specs.List.{slice_get}
use Rattle.std.specs.Prelude.{IfOk}
use Rattle.sc_base.specs.declared.NoMemory.{NoMemory}
use Rattle.std.proofs.lemmas.Bool.{cases_lt}
use Rattle.std.proofs.lemmas.Option.{slice_get_within}
use Rattle.sc_base.specs.declared.key.Key.{Key}
use Rattle.sc_objects.specs.declared.objects.Obj.{Obj}
use Rattle.sc_objects.specs.Numbered.{object_of, IsLive}
use Rattle.sc_mem.specs.Flat.{Flat}
use Rattle.sc_meaning.specs.Values.{Cell}
use Rattle.sc_meaning.specs.World.{Object, object_at}
use Rattle.sc_mem_store.specs.Holding.{Holds, AreHeld, IsHeld, byte_at}
use Rattle.sc_mem_store.specs.Stray.{is_stray, AreNone, HasNone, HasNoneThere, HasNoStray}

pub bytes_none : (m : Flat) (fs : List Key) (base : ℕ) → AreNone m fs base 0
bytes_none m fs base i c l e = absurd (omega arith)

pub bytes_more : (m : Flat) (fs : List Key) (base n : ℕ) → AreNone m fs base n → ((c : Cell) → byte_at m fs (base + n) ≡ Some c → is_stray c ≡ false) → AreNone m fs base (n + 1)
bytes_more m fs base n old here i c l e =
    elim (cases_lt i n) [
      | inl low ↦ old i c low e
      | inr high ↦
          let same : base + i ≡ base + n = omega arith in
          here c (ap (byte_at m fs) (sym same) ∙ e)
    ]

pub lives_not : (m : Flat) (fs : List Key) (id : ℕ) → object_of m.objects id ≡ None → HasNoneThere m fs id
lives_not m fs id none p live = absurd (let e : None ≡ Some p = sym none ∙ live.0 in cc)

pub dies : (m : Flat) (fs : List Key) (id : ℕ) (o : Obj) → object_of m.objects id ≡ Some o → o.live ≡ false → HasNoneThere m fs id
dies m fs id o here dead p live = absurd (let e : Some o ≡ Some p = sym here ∙ live.0 in let same : o ≡ p = cc in let b : false ≡ true = sym dead ∙ (ap (λ (x : Obj). x.live) same ∙ live.1) in cc (b))

pub lives : (m : Flat) (fs : List Key) (id : ℕ) (o : Obj) → object_of m.objects id ≡ Some o → AreNone m fs o.base o.size → HasNoneThere m fs id
lives m fs id o here none p live =
    let e : Some o ≡ Some p = sym here ∙ live.0 in
    let same : o ≡ p = cc in
    subst (λ (x : Obj). AreNone m fs x.base x.size) same none

-- what memory says of an object, of the meaning's
by-held : (m : Flat) (fs : List Key) (o : Object) (p : Obj) → IsHeld m fs o p → o.live ≡ true → AreNone m fs p.base p.size → (i : ℕ) (c : Cell) → slice_get o.cells i ≡ Some c → is_stray c ≡ false
by-held m fs o p held live none i c e =
    let within = slice_get_within o.cells i c e in
    let full = held.full live in
    let size = held.size in
    none i c (omega (arith, within, full, size)) (held.bytes live i c e)

none-by : (m : Flat) (fs : List Key) (id : ℕ) (o : Object) (q : Option Obj) → object_of m.objects id ≡ q → AreHeld m fs (Some o) q → HasNoneThere m fs id → o.live ≡ true → (i : ℕ) (c : Cell) → slice_get o.cells i ≡ Some c → is_stray c ≡ false
none-by m fs id o None e held none live i c got = absurd held
none-by m fs id o (Some p) e held none live i c got = by-held m fs o p held live (none p (e, held.live ∙ live)) i c got

pub has_none : (os : List Object) (m : Flat) (fs : List Key) (id : ℕ) → Holds os m fs → HasNoneThere m fs id → HasNone os id
has_none os m fs id h none o here live i c got =
    none-by m fs id o (object_of m.objects id) refl (subst (λ q. AreHeld m fs q (object_of m.objects id)) here (h.each id)) none live i c got

pub none_result : (r : Result Bool NoMemory) (os : List Object) (m : Flat) (fs given : List Key) (id : ℕ) → Holds os m fs → given ≡ fs → IfOk r (λ has. has ≡ false → HasNoneThere m given id) → IfOk r (λ has. has ≡ false → HasNone os id)
none_result (Err e) os m fs given id h same got = tt
none_result (Ok has) os m fs given id h same got = λ no. has_none os m fs id h (subst (λ (ks : List Key). HasNoneThere m ks id) same (got no))

-- of all objects
abbrev pub AreWithout : List Object → ℕ → Type 0
AreWithout os n = (id : ℕ) → id ≤ n → HasNone os id

pub none_yet : (os : List Object) → AreWithout os 0
none_yet os zero l o here = absurd (cc (here))
none_yet os (suc k) l o here = absurd (omega (arith, l))

pub one_more : (os : List Object) (n : ℕ) → AreWithout os n → HasNone os (n + 1) → AreWithout os (n + 1)
one_more os n old new id l =
    elim (cases_lt id (n + 1)) [
      | inl low ↦ old id (omega (arith, low))
      | inr high ↦ let same : n + 1 ≡ id = omega (arith, l, high) in subst (HasNone os) same new
    ]

pub none_at_all : (os : List Object) (n : ℕ) → length os ≤ n → AreWithout os n → HasNoStray os
none_at_all os n all old id o here live i c got = elim (cases_lt id (n + 1)) [ inl low ↦ old id (omega (arith, low)) o here live i c got | inr high ↦ absurd (beyond id high here) ]
  where
    beyond : (id : ℕ) → n + 1 ≤ id → object_at os id ≡ Some o → ⊥
    beyond zero high e = omega (arith, high)
    beyond (suc k) high e = let within = slice_get_within os k o e in omega (arith, within, high, all)
