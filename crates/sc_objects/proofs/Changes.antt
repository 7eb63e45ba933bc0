-- The heap's fields after a block is taken or given back.
use Rattle.std.proofs.Common.{◌≡◌, ◌≢◌, inl, inr, ℕ, cond, ◌+◌, ◌<◌, ◌≤◌, List, [], ◌∷◌, ◌++◌, length, set, get_or, map, refl, sym, ap, subst, ◌∙◌, Option, None, Some, Result, Ok, Err, arith, vec_capacity}
use Rattle.std.specs.List.{slice_get}
use Rattle.std.specs.Prelude.{MatchResult, IfOk, IfSome, IsSome}
use Rattle.std.specs.Map.{remove_entry, lookup}
use Rattle.std.specs.BTreeMap.{BTreeMap, get, Updates, insert_entry, is_at}
use Rattle.std.specs.Ordering.{nat_cmp}
use Rattle.std.specs.declared.alloc.Global.{Global}
use Rattle.std.specs.declared.vec.Vec.{Vec}
use Rattle.std.proofs.lemmas.Option.{slice_get_read}
use Rattle.std.proofs.lemmas.List.{map-set, set-get_or, length-map, length_push}
use Rattle.sc_base.specs.declared.NoMemory.{NoMemory}
use Rattle.sc_objects.specs.Blocks.{Blocks, IsClass, IsTiled, Takes, block_size, free_of, given}
use Rattle.sc_objects.specs.Roomy.{blocks_of, IsKept, Stays, Moves, taken_of_class}
use Rattle.sc_objects.proofs.Lists.{slice_get-last, is_at-apart}
use Rattle.sc_objects.proofs.Tiles.{Disjoint-apart, size_above, tiled-taken, tiled-fresh, tiled-given}
use Rattle.sc_objects.proofs.Rooms.{room-change, items-at, taken-insert, taken-remove, taken-most, one_if-same, one_if-other}

abbrev pub items_of : List (Vec ℕ Global) → List (List ℕ)
items_of free = map (λ (v : Vec ℕ Global). v.items) free

abbrev pub heap : ℕ → ℕ → List (ℕ × ℕ) → List (List ℕ) → Blocks
heap bytes used taken free = record { bytes = bytes; used = used; taken = taken; free = free }

pub items-set : (free : List (Vec ℕ Global)) (k : ℕ) (w : Vec ℕ Global) (l : List ℕ) → w.items ≡ l → items_of (set free k w) ≡ set (items_of free) k l
items-set free k w l e = map-set (λ (v : Vec ℕ Global). v.items) free k w ∙ ap (set (items_of free) k) e

pub same-heap : (bytes used used' : ℕ) (ts ts' : List (ℕ × ℕ)) (fs fs' : List (List ℕ)) → used' ≡ used → ts' ≡ ts → fs' ≡ fs → heap bytes used' ts' fs' ≡ heap bytes used ts fs
same-heap bytes used used' ts ts' fs fs' a b c = ap (λ u. heap bytes u ts' fs') a ∙ (ap (λ t. heap bytes used t fs') b ∙ ap (heap bytes used ts) c)

-- the free blocks of a class, as they are read
pub slot-at : (bytes used : ℕ) (m : BTreeMap ℕ ℕ) (free : List (Vec ℕ Global)) (k : ℕ) (v : Vec ℕ Global) → IsKept bytes used m free → k < 29 → v ≡ get_or free k v → slice_get free k ≡ Some v
slot-at bytes used m free k v kept small read =
    let count = kept.tiled.classes in
    let same = length-map free (λ (u : Vec ℕ Global). u.items) in
    slice_get_read free (length free) k v refl (omega arith) read

-- a block given back
pub given-view : (bytes used : ℕ) (m now : BTreeMap ℕ ℕ) (free : List (Vec ℕ Global)) (base k : ℕ) (v w : Vec ℕ Global) → now.entries ≡ remove_entry (is_at (nat_cmp base)) m.entries → slice_get free k ≡ Some v → w.items ≡ v.items ++ base ∷ [] → blocks_of bytes used now (set free k w) ≡ given (blocks_of bytes used m free) base k
given-view bytes used m now free base k v w entries at e =
    let l = free_of (blocks_of bytes used m free) k ++ base ∷ [] in
    let same : w.items ≡ l = rw (items-at free k v at) e in
    same-heap bytes used used (remove_entry (is_at (nat_cmp base)) m.entries) now.entries (set (items_of free) k l) (items_of (set free k w)) refl entries (items-set free k w l same)

pub kept-given : (bytes used : ℕ) (m now : BTreeMap ℕ ℕ) (free : List (Vec ℕ Global)) (base k : ℕ) (v w : Vec ℕ Global) → IsKept bytes used m free → get nat_cmp m base ≡ Some k → Updates nat_cmp m now base None → now.entries ≡ remove_entry (is_at (nat_cmp base)) m.entries → slice_get free k ≡ Some v → w.items ≡ v.items ++ base ∷ [] → vec_capacity w ≡ vec_capacity v → IsKept bytes used now (set free k w)
kept-given bytes used m now free base k v w kept here u entries at e same_room =
    let b = blocks_of bytes used m free in
    let l = free_of b k ++ base ∷ [] in
    let same : w.items ≡ l = rw (items-at free k v at) e in
    let one = one_if-same k in
    let counts = taken-remove m.entries base k k here in
    let room = kept.room k v at in
    record {
      tiled = subst (λ (fs : List (List ℕ)). IsTiled (heap bytes used now.entries fs)) (sym (items-set free k w l same)) (tiled-given b now.entries base k kept.tiled here u.0);
      room = room-change m.entries now.entries free k w kept.room
          (let size : length w.items ≡ length v.items + 1 = ap length e ∙ length_push v.items base in let now_k = ap (λ (ts : List (ℕ × ℕ)). taken_of_class ts k) entries in omega arith)
          (λ j n. let other = taken-remove m.entries base k j here in let now_j = ap (λ (ts : List (ℕ × ℕ)). taken_of_class ts j) entries in omega arith);
    }

pub room-for-one : (bytes used : ℕ) (m : BTreeMap ℕ ℕ) (free : List (Vec ℕ Global)) (base k : ℕ) (v : Vec ℕ Global) → IsKept bytes used m free → get nat_cmp m base ≡ Some k → slice_get free k ≡ Some v → length v.items < vec_capacity v
room-for-one bytes used m free base k v kept here at =
    let one = one_if-same k in
    let counts = taken-remove m.entries base k k here in
    let room = kept.room k v at in
    omega arith

-- a block taken
pub stays-view : (bytes k used used' : ℕ) (v w : Vec ℕ Global) (m now : BTreeMap ℕ ℕ) (free : List (Vec ℕ Global)) → slice_get free k ≡ Some v → Stays used v m used' w now → blocks_of bytes used' now (set free k w) ≡ blocks_of bytes used m free
stays-view bytes k used used' v w m now free at s =
    let same : w.items ≡ get_or (items_of free) k [] = s.1 ∙ sym (items-at free k v at) in
    same-heap bytes used used' m.entries now.entries (items_of free) (items_of (set free k w)) s.0 s.3 (items-set free k w (get_or (items_of free) k []) same ∙ set-get_or (items_of free) k [])

pub kept-stays : (bytes k used used' : ℕ) (v w : Vec ℕ Global) (m now : BTreeMap ℕ ℕ) (free : List (Vec ℕ Global)) → IsKept bytes used m free → slice_get free k ≡ Some v → Stays used v m used' w now → IsKept bytes used' now (set free k w)
kept-stays bytes k used used' v w m now free kept at s =
    let room = kept.room k v at in
    record {
      tiled = subst IsTiled (sym (stays-view bytes k used used' v w m now free at s)) kept.tiled;
      room = room-change m.entries now.entries free k w kept.room (let size = ap length s.1 in let now_k = ap (λ (ts : List (ℕ × ℕ)). taken_of_class ts k) s.3 in omega arith) (λ j n. let now_j = ap (λ (ts : List (ℕ × ℕ)). taken_of_class ts j) s.3 in omega arith);
    }

pub kept-moves : (bytes k used used' : ℕ) (v w : Vec ℕ Global) (m now : BTreeMap ℕ ℕ) (free : List (Vec ℕ Global)) (got : Result (Option ℕ) NoMemory) → IsKept bytes used m free → k < 29 → slice_get free k ≡ Some v → Moves bytes k used v m used' w now got → IsKept bytes used' now (set free k w)
kept-moves bytes k used used' v w m now free (Err e) kept small at h = kept-stays bytes k used used' v w m now free kept at h
kept-moves bytes k used used' v w m now free (Ok None) kept small at h = kept-stays bytes k used used' v w m now free kept at h.0
kept-moves bytes k used used' v w m now free (Ok (Some base)) kept small at h =
    let b = blocks_of bytes used m free in
    let room = kept.room k v at in
    let one = one_if-same k in
    let items = items-at free k v at in
    let counts = taken-insert m.entries base k k h.0 in
    let others : (j : ℕ) → j ≢ k → taken_of_class now.entries j ≤ taken_of_class m.entries j =
    λ j n. let zero_ = one_if-other j k n in let there = taken-insert m.entries base k j h.0 in let now_j = ap (λ (ts : List (ℕ × ℕ)). taken_of_class ts j) h.2 in omega arith in
    elim h.3 [
      | inl f ↦ record {
        tiled = subst (λ (fs : List (List ℕ)). IsTiled (heap bytes used' now.entries fs)) (sym (items-set free k w w.items refl))
            (rw f.1 (tiled-taken b now.entries base k w.items kept.tiled small (items ∙ f.0) h.1.0));
        room = room-change m.entries now.entries free k w kept.room
            (let size : length v.items ≡ length w.items + 1 = ap length f.0 ∙ length_push w.items base in let now_k = ap (λ (ts : List (ℕ × ℕ)). taken_of_class ts k) h.2 in omega arith) others;
      }
      | inr f ↦ record {
        tiled = subst (λ (fs : List (List ℕ)). IsTiled (heap bytes used' now.entries fs)) (sym (items-set free k w (get_or (items_of free) k []) (f.1 ∙ sym (items ∙ f.0)) ∙ set-get_or (items_of free) k []))
            (rw f.3 (tiled-fresh b now.entries k kept.tiled small f.4 (let P : ℕ → Type 0 = λ x. (q : ℕ) → get nat_cmp now q ≡ cond (is_at (nat_cmp x) q) (Some k) (get nat_cmp m q) in subst P f.2 h.1.0)));
        room = room-change m.entries now.entries free k w kept.room
            (let most = taken-most m.entries k in let size : length w.items ≡ 0 = ap length f.1 in let now_k = ap (λ (ts : List (ℕ × ℕ)). taken_of_class ts k) h.2 in omega arith) others;
      }
    ]

pub takes : (bytes k n used used' : ℕ) (v w : Vec ℕ Global) (m now : BTreeMap ℕ ℕ) (free : List (Vec ℕ Global)) (old : Blocks) (got : Result (Option ℕ) NoMemory) → blocks_of bytes used m free ≡ old → IsClass n k → slice_get free k ≡ Some v → Moves bytes k used v m used' w now got
    → MatchResult got (λ (g : Option ℕ). (j : ℕ) × IsClass n j × Takes old j g (blocks_of bytes used' now (set free k w))) (λ _. blocks_of bytes used' now (set free k w) ≡ old)
takes bytes k n used used' v w m now free old (Err e) is class at h = stays-view bytes k used used' v w m now free at h ∙ is
takes bytes k n used used' v w m now free old (Ok None) is class at h =
    let new = blocks_of bytes used' now (set free k w) in
    (k, class, subst (λ (b : Blocks). Takes b k None new) is (items-at free k v at ∙ h.1, h.2, stays-view bytes k used used' v w m now free at h.0))
takes bytes k n used used' v w m now free old (Ok (Some base)) is class at h =
    let new = blocks_of bytes used' now (set free k w) in
    let items = items-at free k v at in (
      k,
      class,
      subst (λ (b : Blocks). Takes b k (Some base) new) is (elim h.3 [
        | inl f ↦ inl (w.items, items ∙ f.0, same-heap bytes used used' (insert_entry nat_cmp m.entries base k) now.entries (set (items_of free) k w.items) (items_of (set free k w)) f.1 h.2 (items-set free k w w.items refl))
        | inr f ↦ inr (
          items ∙ f.0,
          f.4,
          f.2,
          same-heap bytes (used + block_size k) used' (insert_entry nat_cmp m.entries used k) now.entries (items_of free) (items_of (set free k w)) f.3 (h.2 ∙ ap (λ (x : ℕ). insert_entry nat_cmp m.entries x k) f.2) (items-set free k w (get_or (items_of free) k []) (f.1 ∙ sym (items ∙ f.0)) ∙ set-get_or (items_of free) k []),
        )
      ]),
    )

-- the block is a taken one, and so are all that were
pub moved-found : (bytes k used used' : ℕ) (v w : Vec ℕ Global) (m now : BTreeMap ℕ ℕ) (got : Result (Option ℕ) NoMemory) → Moves bytes k used v m used' w now got → IfOk got (λ (g : Option ℕ). IfSome g (λ base. IsSome (get nat_cmp now base)))
moved-found bytes k used used' v w m now (Err e) h = tt
moved-found bytes k used used' v w m now (Ok None) h = tt
moved-found bytes k used used' v w m now (Ok (Some base)) h = rw h.1.1 refl

pub moved-class : (bytes k n used used' : ℕ) (v w : Vec ℕ Global) (m now : BTreeMap ℕ ℕ) (got : Result (Option ℕ) NoMemory) → IsClass n k → Moves bytes k used v m used' w now got → IfOk got (λ (g : Option ℕ). IfSome g (λ base. (j : ℕ) × IsClass n j × (get nat_cmp now base ≡ Some j)))
moved-class bytes k n used used' v w m now (Err e) class h = tt
moved-class bytes k n used used' v w m now (Ok None) class h = tt
moved-class bytes k n used used' v w m now (Ok (Some base)) class h = (k, class, h.1.1)

pub moved-keeps : (bytes k used used' : ℕ) (v w : Vec ℕ Global) (m now : BTreeMap ℕ ℕ) (free : List (Vec ℕ Global)) (got : Result (Option ℕ) NoMemory) → IsKept bytes used m free → slice_get free k ≡ Some v → Moves bytes k used v m used' w now got → (q j : ℕ) → get nat_cmp m q ≡ Some j → get nat_cmp now q ≡ Some j
moved-keeps bytes k used used' v w m now free (Err e) kept at h q j there = ap (λ (es : List (ℕ × ℕ)). lookup (is_at (nat_cmp q)) es) h.3 ∙ there
moved-keeps bytes k used used' v w m now free (Ok None) kept at h q j there = ap (λ (es : List (ℕ × ℕ)). lookup (is_at (nat_cmp q)) es) h.0.3 ∙ there
moved-keeps bytes k used used' v w m now free (Ok (Some base)) kept at h q j there =
    let b = blocks_of bytes used m free in
    let items = items-at free k v at in
    let apart : base ≢ q = elim h.3 [
      | inl f ↦ (let last : slice_get (free_of b k) (length w.items) ≡ Some base = rw (items ∙ f.0) (slice_get-last w.items base) in λ e. Disjoint-apart q j base k (kept.tiled.mixed_apart q j k (length w.items) base there last) (sym e))
      | inr f ↦ (λ e. let old = kept.tiled.taken_within q j there in let some = size_above j in omega arith)
    ] in
    h.1.2 q (is_at-apart base q apart) ∙ there

pub given-keeps : (m now : BTreeMap ℕ ℕ) (base : ℕ) → Updates nat_cmp m now base None → (q j : ℕ) → q ≢ base → get nat_cmp m q ≡ Some j → get nat_cmp now q ≡ Some j
given-keeps m now base u q j n there = u.2 q (is_at-apart base q (λ e. n (sym e))) ∙ there
