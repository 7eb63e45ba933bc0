-- Which bytes of memory belong to live objects, and what is held where the others are written.
use Rattle.std.proofs.Common.{◌≡◌, ◌⊎◌, inl, inr, ℕ, zero, suc, ◌+◌, ◌-◌, ◌%◌, ◌<◌, ◌≤◌, ◌==◌, ◌&&◌, Bool, true, false, cond, List, [], ◌∷◌, length, map, take, refl, sym, ap, subst, ◌∙◌, Option, Some, None, Result, Ok, Err, arith}
use Rattle.std.specs.List.{slice_get}
use Rattle.std.specs.Option.{IsSome}
use Rattle.std.specs.Prelude.{IfSome, MatchOption, MatchResult}
use Rattle.std.proofs.lemmas.Bool.{cases_lt}
use Rattle.std.proofs.lemmas.Bool.Decides.{nat_tests}
use Rattle.sc_base.specs.declared.key.Key.{Key}
use Rattle.sc_base.specs.declared.memory.Cell.{Cell as Stored}
use Rattle.sc_base.specs.declared.memory.Cell.TheVariants as stored
use Rattle.sc_base.specs.declared.memory.Word.{Word}
use Rattle.sc_objects.specs.declared.objects.Obj.{Obj}
use Rattle.sc_objects.specs.Numbered.{object_of, IsLive, IsObjectAt}
use Rattle.sc_mem.specs.Flat.{Flat, place, aligned_place, cell_at, written_at, put}
use Rattle.sc_mem.specs.Safe.{Store, IsSafe}
use Rattle.sc_mem.specs.Words.{IsSize, bytes_of, pieces_of, cells_of}
use Rattle.sc_meaning.specs.Values.{Cell}
use Rattle.sc_meaning.specs.World.{Object, object_at, written}
use Rattle.sc_mem_store.specs.Holding.{AreHeld, Holds, IsTag, IsTagged, meant}
use Rattle.sc_mem_store.specs.Living.{IsBare, IsByteOf, IsLiving, IsLiveAt}
use Rattle.sc_mem_store.specs.declared.machine.Place.{Place}
use Rattle.sc_mem_store.proofs.Cells.{written-other, written-here}
use Rattle.sc_mem_store.proofs.Meant.{Keeps}
use Rattle.sc_mem_store.proofs.Holding.{held-at, are-kept, holds_put, objects-stay}

-- no live object is at the address, not even behind its last byte
pub bare_none : (t : List Obj) (a : ℕ) → IsObjectAt t a None → IsBare t a
bare_none t a h id p l =
    elim (cases_lt a p.base) [
      | inl low ↦ inl low
      | inr high ↦ elim (cases_lt a (p.base + p.size)) [
        | inl near ↦ absurd (h id (p, l, omega arith, omega arith))
        | inr far ↦ inr far
      ]
    ]

pub bare_lost : (t : List Obj) (a id : ℕ) → IsObjectAt t a (Some id) → object_of t id ≡ None → IsBare t a
bare_lost t a id h e =
    let (p, l, low, high) = h.0 in
    let none : Some p ≡ None = sym l.0 ∙ e in
    absurd (cc)

-- the one object at the address has no byte there
pub bare_beside : (t : List Obj) (a id : ℕ) (o : Obj) → IsObjectAt t a (Some id) → object_of t id ≡ Some o → (a < o.base) ⊎ (o.base + o.size ≤ a) → IsBare t a
bare_beside t a id o h e far other p l =
    elim (cases_lt a p.base) [
      | inl low ↦ inl low
      | inr high ↦ elim (cases_lt a (p.base + p.size)) [
        | inl near ↦
            let one : other ≡ id = h.1 other (p, l, omega arith, omega arith) in
            let two : Some p ≡ Some o = sym l.0 ∙ (ap (object_of t) one ∙ e) in
            let same : p ≡ o = cc in
            subst (λ (q : Obj). (a < q.base) ⊎ (q.base + q.size ≤ a)) (sym same) far
        | inr past ↦ inr past
      ]
    ]

pub byte_of : (t : List Obj) (a id : ℕ) (o : Obj) (offset : ℕ) → IsObjectAt t a (Some id) → object_of t id ≡ Some o → offset < o.size → o.base + offset ≡ a → IsByteOf t id offset a
byte_of t a id o offset h e few is =
    let (p, l, low, high) = h.0 in
    let two : Some p ≡ Some o = sym l.0 ∙ e in
    let same : p ≡ o = cc in
    (o, (e, ap (λ (q : Obj). q.live) (sym same) ∙ l.1), few, is)

-- what the meaning says of a live object of memory
pub living : (os : List Object) (m : Flat) (fs : List Key) (id : ℕ) (p : Obj) → Holds os m fs → IsLive m.objects id p → IsLiving os id
living os m fs id p h l =
    let (o, here, held) = held-at os m fs id p h l.0 in
    let live : o.live ≡ true = sym held.live ∙ l.1 in
    (o, here, live, held.full live)

pub live_at : (os : List Object) (m : Flat) (fs : List Key) (id offset a : ℕ) → Holds os m fs → IsByteOf m.objects id offset a → IsLiveAt os id offset
live_at os m fs id offset a h (p, l, few, is) =
    let (o, here, held) = held-at os m fs id p h l.0 in
    let live : o.live ≡ true = sym held.live ∙ l.1 in
    let size = held.size in
    (o, here, live, held.full live, omega arith)

pub byte_there : (r : Option Place) (t : List Obj) (a : ℕ) → MatchOption r (IsBare t a) (λ p. IsByteOf t p.id p.offset a) → IfSome r (λ p. IsByteOf t p.id p.offset a)
byte_there None t a is = tt
byte_there (Some p) t a is = is

-- the cells of a word
pub length_of_word : (n : ℕ) (w : Word) → IsSize n → length (cells_of n w) ≡ n
length_of_word n w (inl e) = rw e refl
length_of_word n w (inr (inl e)) = rw e refl
length_of_word n w (inr (inr e)) = rw e (by (w.tag == 0))
  where
    by : (b : Bool) → length (cond (cond b false true) (pieces_of w) (map stored.Byte (take 4 (bytes_of w.bits)))) ≡ 4
    by true = refl
    by false = refl

pub bytes-tagged : (t : List Obj) (xs : List ℕ) (k : ℕ) (c : Stored) → slice_get (map stored.Byte xs) k ≡ Some c → IsTagged t c
bytes-tagged t [] k c e = absurd (cc)
bytes-tagged t (x ∷ xs) zero c e = let is : stored.Byte x ≡ c = cc in subst (IsTagged t) is tt
bytes-tagged t (x ∷ xs) (suc k) c e = bytes-tagged t xs k c e

pub piece-tagged : (t : List Obj) (w : Word) (j : ℕ) (c : Stored) → IsTag t w.tag → Some (stored.Frag w.bits w.tag j) ≡ Some c → IsTagged t c
piece-tagged t w j c tag e = let is : stored.Frag w.bits w.tag j ≡ c = cc in subst (IsTagged t) is tag

pub pieces-tagged : (t : List Obj) (w : Word) (k : ℕ) (c : Stored) → IsTag t w.tag → slice_get (pieces_of w) k ≡ Some c → IsTagged t c
pieces-tagged t w zero c tag e = piece-tagged t w 0 c tag e
pieces-tagged t w (suc zero) c tag e = piece-tagged t w 1 c tag e
pieces-tagged t w (suc (suc zero)) c tag e = piece-tagged t w 2 c tag e
pieces-tagged t w (suc (suc (suc zero))) c tag e = piece-tagged t w 3 c tag e
pieces-tagged t w (suc (suc (suc (suc k)))) c tag e = absurd (cc)

pub word-tagged : (t : List Obj) (n : ℕ) (w : Word) (k : ℕ) (c : Stored) → IsTag t w.tag → slice_get (cells_of n w) k ≡ Some c → IsTagged t c
word-tagged t n w k c tag e = by ((n == 4) && cond (w.tag == 0) false true) e
  where
    by : (b : Bool) → slice_get (cond b (pieces_of w) (map stored.Byte (take n (bytes_of w.bits)))) k ≡ Some c → IsTagged t c
    by true there = pieces-tagged t w k c tag there
    by false there = bytes-tagged t (take n (bytes_of w.bits)) k c there

pub get-some : {A : Type 0} (xs : List A) (k : ℕ) → k < length xs → (x : A) × (slice_get xs k ≡ Some x)
get-some [] k h = absurd (omega arith)
get-some (x ∷ xs) zero h = (x, refl)
get-some (x ∷ xs) (suc k) h = get-some xs k (omega arith)

-- each cell has a tag that there is, where those that were written have one
pub tagged-beside : (s : Store) (m' : Flat) (base : ℕ) (part : List Stored) (b : ℕ) (c : Stored) → IsSafe s → IsSome (place s.flat base (length part)) → m' ≡ written_at s.flat (place s.flat base (length part)) part → ((k : ℕ) (c : Stored) → slice_get part k ≡ Some c → IsTagged s.flat.objects c) → ((at : ℕ) (c : Stored) → cell_at s.flat at ≡ Some c → IsTagged s.flat.objects c) → cell_at m' b ≡ Some c → IsTagged s.flat.objects c
tagged-beside s m' base part b c safe area is tags tagged there =
    let m = s.flat in
    let outside : (b < base) ⊎ (base + length part ≤ b) → IsTagged m.objects c =
    λ far. tagged b c (sym (ap (λ (x : Flat). cell_at x b) is ∙ written-other s base b part safe area far) ∙ there) in
    elim (cases_lt b base) [
      | inl low ↦ outside (inl low)
      | inr high ↦ elim (cases_lt b (base + length part)) [
        | inr far ↦ outside (inr far)
        | inl near ↦
            let k : ℕ = b - base in
            let at : base + k ≡ b = omega arith in
            let few : k < length part = omega arith in
            let (d, got) = get-some part k few in
            let here : cell_at m' (base + k) ≡ Some d = ap (λ (x : Flat). cell_at x (base + k)) is ∙ written-here s base k part d safe area got few in
            let two : Some d ≡ Some c = sym here ∙ (ap (cell_at m') at ∙ there) in
            let same : d ≡ c = cc in
            subst (IsTagged m.objects) same (tags k d got)
      ]
    ]

-- bytes are written that belong to no live object
pub holds-beside : (os : List Object) (s : Store) (m' : Flat) (fs : List Key) (base : ℕ) (part : List Stored) → IsSafe s → Holds os s.flat fs → IsSome (place s.flat base (length part)) → ((id : ℕ) (p : Obj) → IsLive s.flat.objects id p → (base + length part ≤ p.base) ⊎ (p.base + p.size ≤ base)) → ((k : ℕ) (c : Stored) → slice_get part k ≡ Some c → IsTagged s.flat.objects c) → m' ≡ written_at s.flat (place s.flat base (length part)) part → Holds os m' fs
holds-beside os s m' fs base part safe h area bare tags is =
    let m = s.flat in
    let objects : m'.objects ≡ m.objects = ap (λ (x : Flat). x.objects) is ∙ objects-stay m (place m base (length part)) part in
    let keeps : Keeps m.objects m'.objects = λ id q e. (q, ap (λ (t : List Obj). object_of t id) objects ∙ e, refl) in
    let same : (id : ℕ) (q : Obj) → object_of m.objects id ≡ Some q → q.live ≡ true → (i : ℕ) → i < q.size → cell_at m' (q.base + i) ≡ cell_at m (q.base + i) =
    λ id q e a i small. ap (λ (x : Flat). cell_at x (q.base + i)) is ∙ written-other s base (q.base + i) part safe area (elim (bare id q (e, a)) [ inl x ↦ inr (omega arith) | inr x ↦ inl (omega arith) ]) in
    let each : (id : ℕ) → AreHeld m' fs (object_at os id) (object_of m.objects id) =
    λ id. are-kept m m' fs (object_at os id) (object_of m.objects id) (same id) h.tagged keeps (h.each id) in
    record {
      count = ap length objects ∙ h.count;
      each = λ id. subst (λ (t : List Obj). AreHeld m' fs (object_at os id) (object_of t id)) (sym objects) (each id);
      tagged = λ b e there. subst (λ (t : List Obj). IsTagged t e) (sym objects) (tagged-beside s m' base part b e safe area is tags h.tagged there);
    }

-- an aligned access reaches no object where its first byte belongs to none, since objects stand at multiples of 4
pub past-whole : (at n base : ℕ) → IsSize n → at % n ≡ 0 → base % 4 ≡ 0 → at < base → at + n ≤ base
past-whole at n base (inl e) whole four low = omega arith
past-whole at n base (inr (inl e)) whole four low = let two : at % 2 ≡ 0 = subst (λ k. at % k ≡ 0) e whole in omega arith
past-whole at n base (inr (inr e)) whole four low = let two : at % 4 ≡ 0 = subst (λ k. at % k ≡ 0) e whole in omega arith

pub bare-whole : (os : List Object) (m : Flat) (fs : List Key) (at n : ℕ) → Holds os m fs → IsSize n → at % n ≡ 0 → IsBare m.objects at → (id : ℕ) (p : Obj) → IsLive m.objects id p → (at + n ≤ p.base) ⊎ (p.base + p.size ≤ at)
bare-whole os m fs at n h size whole bare id p l =
    let (o, here, held) = held-at os m fs id p h l.0 in
    elim (bare id p l) [ inl low ↦ inl (past-whole at n p.base size whole held.base low) | inr far ↦ inr far ]

pub aligned-is : (m : Flat) (at n : ℕ) → IsSome (aligned_place m at n) → (at % n ≡ 0) × IsSome (place m at n)
aligned-is m at n h = by (at % n == 0) refl h
  where
    by : (b : Bool) → (at % n == 0) ≡ b → IsSome (cond b (place m at n) None) → (at % n ≡ 0) × IsSome (place m at n)
    by true e some = (grind (arith, nat_tests), some)
    by false e some = absurd (cc some)

pub holds_kept : (os : List Object) (s : Store) (m' : Flat) (fs : List Key) (at n : ℕ) (w : Word) → IsSafe s → Holds os s.flat fs → IsSize n → IsBare s.flat.objects at → IsTag s.flat.objects w.tag → IsSome (aligned_place s.flat at n) → m' ≡ put s.flat at n w → Holds os m' fs
holds_kept os s m' fs at n w safe h size bare tag area is =
    let m = s.flat in
    let (whole, some) = aligned-is m at n area in
    let part : List Stored = cells_of n w in
    let long : length part ≡ n = length_of_word n w size in
    holds-beside os s m' fs at part safe h
    (subst (λ k. IsSome (place m at k)) (sym long) some)
    (λ id p l. subst (λ k. (at + k ≤ p.base) ⊎ (p.base + p.size ≤ at)) (sym long) (bare-whole os m fs at n h size whole bare id p l))
    (λ k c e. word-tagged m.objects n w k c tag e)
    (is ∙ ap (λ k. written_at m (place m at k) part) (sym long))

-- the same by what the store of a word answers
pub holds_stored : {A E : Type 0} (os : List Object) (s now : Store) (fs : List Key) (at n : ℕ) (w : Word) (result : Result (Option A) E) → IsSafe s → Holds os s.flat fs → IsSize n → IsBare s.flat.objects at → IsTag s.flat.objects w.tag → MatchResult result (λ done. MatchOption done ((aligned_place s.flat at n ≡ None) × (now ≡ s)) (λ _. IsSome (aligned_place s.flat at n) × (now.flat ≡ put s.flat at n w) × (now.blocks ≡ s.blocks))) (λ _. IsSome (aligned_place s.flat at n) × (now ≡ s)) → Holds os now.flat fs
holds_stored os s now fs at n w (Ok None) safe h size bare tag r = subst (λ (x : Store). Holds os x.flat fs) (sym r.1) h
holds_stored os s now fs at n w (Ok (Some done)) safe h size bare tag r = holds_kept os s now.flat fs at n w safe h size bare tag r.0 r.1
holds_stored os s now fs at n w (Err fault) safe h size bare tag r = subst (λ (x : Store). Holds os x.flat fs) (sym r.1) h

-- one cell is put where it belongs to no live object
one-tagged : (t : List Obj) (x : Stored) (k : ℕ) (y : Stored) → IsTagged t x → slice_get (x ∷ []) k ≡ Some y → IsTagged t y
one-tagged t x zero y tag e = let is : x ≡ y = cc in subst (IsTagged t) is tag
one-tagged t x (suc k) y tag e = absurd (cc)

pub holds_cell_beside : (os : List Object) (s : Store) (m' : Flat) (fs : List Key) (a : ℕ) (x : Stored) → IsSafe s → Holds os s.flat fs → IsBare s.flat.objects a → IsSome (place s.flat a 1) → m' ≡ written_at s.flat (place s.flat a 1) (x ∷ []) → IsTagged s.flat.objects x → Holds os m' fs
holds_cell_beside os s m' fs a x safe h bare area is tag =
    holds-beside os s m' fs a (x ∷ []) safe h area (λ id p l. elim (bare id p l) [ inl low ↦ inl (omega (arith, low)) | inr far ↦ inr far ]) (λ k y e. one-tagged s.flat.objects x k y tag e) is

-- or into one, as the byte that it stands for
pub holds_cell_inside : (os : List Object) (s : Store) (m' : Flat) (fs : List Key) (id offset a : ℕ) (x : Stored) (c : Cell) → IsSafe s → Holds os s.flat fs → IsByteOf s.flat.objects id offset a → IsSome (place s.flat a 1) → m' ≡ written_at s.flat (place s.flat a 1) (x ∷ []) → c ≡ meant fs s.flat.objects x → IsTagged s.flat.objects x → Holds (written os id offset (c ∷ []) (object_at os id)) m' fs
holds_cell_inside os s m' fs id offset a x c safe h (p, live, few, at) area is means tag =
    holds_put os s m' fs id p offset x c safe h live few
    (subst (λ b. IsSome (place s.flat b 1)) (sym at) area)
    (is ∙ ap (λ b. written_at s.flat (place s.flat b 1) (x ∷ [])) (sym at))
    (sym means) tag
