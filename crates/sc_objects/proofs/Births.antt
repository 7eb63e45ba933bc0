-- How births and deaths change the table and the map of bases, and what the map finds at an address.
use Rattle.std.proofs.Common.{◌≡◌, ◌≢◌, ◌⊎◌, inl, inr, ℕ, zero, suc, ◌+◌, ◌-◌, ◌<◌, ◌≤◌, true, false, List, [], ◌∷◌, length, set, refl, sym, ap, ◌∙◌, None, Some, arith, add-one}
use Rattle.std.specs.List.{slice_get}
use Rattle.std.specs.Option.{IsSome}
use Rattle.std.specs.Ordering.{nat_cmp}
use Rattle.std.specs.BTreeMap.{BTreeMap, get, Updates}
use Rattle.std.proofs.lemmas.Option.{slice_get_within}
use Rattle.std.proofs.lemmas.List.{length_push, length-set}
use Rattle.std.proofs.lemmas.Bool.{cases_eq, cases_lt}
use Rattle.sc_objects.specs.declared.objects.Obj.{Obj}
use Rattle.sc_objects.specs.Numbered.{object_of, IsLive, Apart, AreApart, IsClear, StandsAt, IsObjectAt, born, ended, ended_at}
use Rattle.sc_objects.specs.Kept.{Kept}
use Rattle.sc_objects.proofs.Lists.{slice_get-front, slice_get-last, slice_get-push, slice_get-set, slice_get-set_other, is_at-apart}

pub object_of-at : (objects : List Obj) (id : ℕ) → 0 < id → object_of objects id ≡ slice_get objects (id - 1)
object_of-at objects zero h = absurd (omega arith)
object_of-at objects (suc k) h = ap (slice_get objects) (omega arith)

pub object-within : (objects : List Obj) (id : ℕ) (o : Obj) → object_of objects id ≡ Some o → (0 < id) × (id ≤ length objects)
object-within objects zero o h = absurd (cc)
object-within objects (suc k) o h = (omega arith, let l = slice_get_within objects k o h in omega arith)

pub Apart-sym : (a m b n : ℕ) → Apart a m b n → Apart b n a m
Apart-sym a m b n h = elim h [ inl l ↦ inr l | inr l ↦ inl l ]

-- births
pub object-born : (objects : List Obj) (o : Obj) (id : ℕ) (p : Obj) → object_of (born objects o) id ≡ Some p → (object_of objects id ≡ Some p) ⊎ ((id ≡ length objects + 1) × (p ≡ o))
object-born objects o zero p h = absurd (cc)
object-born objects o (suc k) p h = elim (slice_get-push objects o k p h) [ inl q ↦ inl q.0 | inr q ↦ inr (omega arith, q.1) ]

pub born-object : (objects : List Obj) (o : Obj) (id : ℕ) (p : Obj) → object_of objects id ≡ Some p → object_of (born objects o) id ≡ Some p
born-object objects o zero p h = absurd (cc)
born-object objects o (suc k) p h = slice_get-front objects (o ∷ []) k p h

pub born-new : (objects : List Obj) (o : Obj) → object_of (born objects o) (length objects + 1) ≡ Some o
born-new objects o = rw add-one (slice_get-last objects o)

pub apart-born : (objects : List Obj) (o : Obj) → AreApart objects → IsClear objects o.base o.size → AreApart (born objects o)
apart-born objects o apart clear i j p q hp hq n =
    elim (object-born objects o i p hp.0) [
      | inl a ↦ elim (object-born objects o j q hq.0) [
        | inl b ↦ apart i j p q (a, hp.1) (b, hq.1) n
        | inr b ↦ rw b.1 (clear i p (a, hp.1))
      ]
      | inr a ↦ elim (object-born objects o j q hq.0) [
        | inl b ↦ rw a.1 (Apart-sym q.base q.size o.base o.size (clear j q (b, hq.1)))
        | inr b ↦ absurd (n (a.0 ∙ sym b.0))
      ]
    ]

pub kept-born : (objects : List Obj) (live now : BTreeMap ℕ ℕ) (o : Obj) → Kept objects live → length objects < 4000000000 → o.live ≡ true → IsClear objects o.base o.size → Updates nat_cmp live now o.base (Some (length objects + 1)) → Kept (born objects o) now
kept-born objects live now o k few lives clear u = record {
  few = rw (length_push objects o) (omega arith);
  apart = apart-born objects o k.apart clear;
  found = λ id p h. elim (object-born objects o id p h.0) [
    | inl a ↦
        let c = clear id p (a, h.1) in
        let n : o.base ≢ p.base = λ e. elim c [ inl l ↦ omega arith | inr l ↦ omega arith ] in
        u.2 p.base (is_at-apart o.base p.base n) ∙ k.found id p (a, h.1)
    | inr a ↦ rw (a.1, a.0) u.1
  ];
  known = λ base id h. elim (cases_eq o.base base) [
    | inl e ↦
        let new : Some (length objects + 1) ≡ Some id = sym u.1 ∙ (ap (get nat_cmp now) e ∙ h) in
        (o, (let same : length objects + 1 ≡ id = cc in rw (← same) (born-new objects o), lives), e)
    | inr n ↦
        let old = k.known base id (sym (u.2 base (is_at-apart o.base base n)) ∙ h) in
        (old.0, (born-object objects o id old.0 old.1.0, old.1.1), old.2)
  ];
}

-- deaths
pub ended-is : (objects : List Obj) (id : ℕ) (o : Obj) → object_of objects id ≡ Some o → ended objects id ≡ set objects (id - 1) (record o { live = false })
ended-is objects id o h = ap (ended_at objects id) h

pub live-ended : (objects : List Obj) (id : ℕ) (o : Obj) → object_of objects id ≡ Some o → (other : ℕ) (p : Obj) → IsLive (ended objects id) other p → (other ≢ id) × IsLive objects other p
live-ended objects id o h zero p l = absurd (cc (l.0))
live-ended objects id o h (suc k) p l =
    let within = object-within objects id o h in
    let there : slice_get (set objects (id - 1) (record o { live = false })) k ≡ Some p = rw (← ended-is objects id o h) l.0 in
    elim (slice_get-set objects (id - 1) k (record o { live = false }) p there) [
      | inl a ↦ absurd (let off : p.live ≡ false = ap (λ (v : Obj). v.live) a.1 in cc (l.1, off))
      | inr a ↦ ((λ e. a.0 (omega arith)), (a.1, l.1))
    ]

pub ended-live : (objects : List Obj) (id : ℕ) (o : Obj) → object_of objects id ≡ Some o → (other : ℕ) (p : Obj) → other ≢ id → IsLive objects other p → IsLive (ended objects id) other p
ended-live objects id o h zero p n l = absurd (cc (l.0))
ended-live objects id o h (suc k) p n l =
    let within = object-within objects id o h in
    (rw (ended-is objects id o h) (slice_get-set_other objects (id - 1) k (record o { live = false }) p (λ e. n (omega arith)) l.0), l.1)

pub apart-ended : (objects : List Obj) (id : ℕ) (o : Obj) → object_of objects id ≡ Some o → AreApart objects → AreApart (ended objects id)
apart-ended objects id o h apart i j p q hp hq n = apart i j p q (live-ended objects id o h i p hp).1 (live-ended objects id o h j q hq).1 n

pub length-ended : (objects : List Obj) (id : ℕ) (o : Obj) → object_of objects id ≡ Some o → length (ended objects id) ≡ length objects
length-ended objects id o h = rw (ended-is objects id o h) (length-set objects (id - 1) (record o { live = false }))

pub kept-ended : (objects : List Obj) (live now : BTreeMap ℕ ℕ) (id : ℕ) (o : Obj) → Kept objects live → IsLive objects id o → Updates nat_cmp live now o.base None → Kept (ended objects id) now
kept-ended objects live now id o k l u = record {
  few = rw (length-ended objects id o l.0) k.few;
  apart = apart-ended objects id o l.0 k.apart;
  found = λ other p h.
      let old = live-ended objects id o l.0 other p h in
      let there = k.found other p old.1 in
      let here = k.found id o l in
      let n : o.base ≢ p.base = λ e. old.0 (let same : Some other ≡ Some id = sym there ∙ (ap (get nat_cmp live) (sym e) ∙ here) in cc) in
      u.2 p.base (is_at-apart o.base p.base n) ∙ there;
  known = λ base other h. elim (cases_eq o.base base) [
    | inl e ↦ absurd (let none : None ≡ Some other = sym u.1 ∙ (ap (get nat_cmp now) e ∙ h) in cc)
    | inr n ↦
        let old = k.known base other (sym (u.2 base (is_at-apart o.base base n)) ∙ h) in
        let apart : other ≢ id = λ e. n (let same : Some old.0 ≡ Some o = sym old.1.0 ∙ (ap (object_of objects) e ∙ l.0) in let eq : old.0 ≡ o = cc in sym (ap (λ (v : Obj). v.base) eq) ∙ old.2) in
        (old.0, ended-live objects id o l.0 other old.0 apart old.1, old.2)
  ];
}

-- look-ups by address
pub one-at : (objects : List Obj) (address id other : ℕ) → AreApart objects → StandsAt objects id address → StandsAt objects other address → other ≡ id
one-at objects address id other apart h g =
    elim (cases_eq other id) [
      | inl e ↦ e
      | inr n ↦ absurd (elim (apart other id g.0 h.0 g.1 h.1 n) [ inl l ↦ omega arith | inr l ↦ omega arith ])
    ]

pub at-found : (objects : List Obj) (live : BTreeMap ℕ ℕ) (base id address : ℕ) (o : Obj) → Kept objects live → get nat_cmp live base ≡ Some id → object_of objects id ≡ Some o → base ≤ address → address - base ≤ o.size → IsObjectAt objects address (Some id)
at-found objects live base id address o k g h low high =
    let known = k.known base id g in
    let eq : Some known.0 ≡ Some o = sym known.1.0 ∙ h in
    let same : known.0 ≡ o = cc in
    let here : StandsAt objects id address = (known.0, known.1, rw known.2 low, rw known.2 (rw same (omega arith))) in
    (here, λ other there. one-at objects address id other k.apart here there)

pub at-far : (objects : List Obj) (live : BTreeMap ℕ ℕ) (base id address : ℕ) (o : Obj) → Kept objects live → get nat_cmp live base ≡ Some id → object_of objects id ≡ Some o → base ≤ address → o.size < address - base → ((q : ℕ) → q ≤ address → IsSome (get nat_cmp live q) → q ≤ base) → IsObjectAt objects address None
at-far objects live base id address o k g h low high last other (p, l, from, to) =
    let known = k.known base id g in
    let eq : Some known.0 ≡ Some o = sym known.1.0 ∙ h in
    let same : known.0 ≡ o = cc in
    let at_base : o.base ≡ base = ap (λ (v : Obj). v.base) (sym same) ∙ known.2 in
    let found : get nat_cmp live p.base ≡ Some other = k.found other p l in
    let below : p.base ≤ base = last p.base from (rw found refl) in
    elim (cases_eq other id) [
      | inl e ↦
          let eq' : Some p ≡ Some o = sym l.0 ∙ (ap (object_of objects) e ∙ h) in
          let same' : p ≡ o = cc in
          let base' : p.base ≡ o.base = ap (λ (v : Obj). v.base) same' in
          let size' : p.size ≡ o.size = ap (λ (v : Obj). v.size) same' in
          omega arith
      | inr n ↦
          let live_o : IsLive objects id o = (h, ap (λ (v : Obj). v.live) (sym same) ∙ known.1.1) in
          elim (k.apart other id p o l live_o n) [ inl a ↦ omega arith | inr a ↦ omega arith ]
    ]

pub at-nothing : (objects : List Obj) (live : BTreeMap ℕ ℕ) (address : ℕ) → Kept objects live → ((q : ℕ) → q ≤ address → get nat_cmp live q ≡ None) → IsObjectAt objects address None
at-nothing objects live address k none other (p, l, from, to) =
    let e : Some other ≡ None = sym (k.found other p l) ∙ none p.base from in
    cc

-- places in which no live object stands
pub clear-nothing : (objects : List Obj) (live : BTreeMap ℕ ℕ) (base size : ℕ) → Kept objects live → ((q : ℕ) → q ≤ base + size → get nat_cmp live q ≡ None) → IsClear objects base size
clear-nothing objects live base size k none id o l =
    elim (cases_lt (base + size) o.base) [
      | inl far ↦ inr far
      | inr near ↦ absurd (let e : Some id ≡ None = sym (k.found id o l) ∙ none o.base near in cc)
    ]

pub clear-behind : (objects : List Obj) (live : BTreeMap ℕ ℕ) (start id base size : ℕ) (o : Obj) → Kept objects live → get nat_cmp live start ≡ Some id → object_of objects id ≡ Some o → start + o.size < base → ((q : ℕ) → q ≤ base + size → IsSome (get nat_cmp live q) → q ≤ start) → IsClear objects base size
clear-behind objects live start id base size o k g h behind last other p l =
    let known = k.known start id g in
    let eq : Some known.0 ≡ Some o = sym known.1.0 ∙ h in
    let same : known.0 ≡ o = cc in
    let at_start : o.base ≡ start = ap (λ (v : Obj). v.base) (sym same) ∙ known.2 in
    let found : get nat_cmp live p.base ≡ Some other = k.found other p l in
    elim (cases_eq other id) [
      | inl e ↦
          let eq' : Some p ≡ Some o = sym l.0 ∙ (ap (object_of objects) e ∙ h) in
          let same' : p ≡ o = cc in
          let base' : p.base ≡ o.base = ap (λ (v : Obj). v.base) same' in
          let size' : p.size ≡ o.size = ap (λ (v : Obj). v.size) same' in
          inl (omega arith)
      | inr n ↦
          let live_o : IsLive objects id o = (h, ap (λ (v : Obj). v.live) (sym same) ∙ known.1.1) in
          elim (k.apart other id p o l live_o n) [
            | inl a ↦ inl (omega arith)
            | inr a ↦ elim (cases_lt (base + size) p.base) [
              | inl far ↦ inr far
              | inr near ↦ absurd (let low = last p.base near (rw found refl) in omega arith)
            ]
          ]
    ]

pub clear-not : (objects : List Obj) (live : BTreeMap ℕ ℕ) (start id base size : ℕ) (o : Obj) → Kept objects live → get nat_cmp live start ≡ Some id → object_of objects id ≡ Some o → start ≤ base + size → IsClear objects base size → start + o.size < base
clear-not objects live start id base size o k g h near clear =
    let known = k.known start id g in
    let eq : Some known.0 ≡ Some o = sym known.1.0 ∙ h in
    let same : known.0 ≡ o = cc in
    let at_start : o.base ≡ start = ap (λ (v : Obj). v.base) (sym same) ∙ known.2 in
    let live_o : IsLive objects id o = (h, ap (λ (v : Obj). v.live) (sym same) ∙ known.1.1) in
    elim (clear id o live_o) [ inl a ↦ omega arith | inr a ↦ absurd (omega arith) ]
