-- Words stay words as objects are born and die, and as memory begins.
use Rattle.std.proofs.Common.{◌≡◌, ◌⊎◌, inl, inr, ℕ, zero, suc, ◌+◌, ◌-◌, ◌%◌, ◌^◌, ◌<◌, ◌≤◌, Bool, true, false, List, [], ◌∷◌, ◌++◌, length, set, replicate, Option, Some, None, refl, sym, ap, subst, ◌∙◌, arith}
use Rattle.std.specs.Option.{IsSome}
use Rattle.std.specs.List.{slice_get}
use Rattle.std.proofs.lemmas.Bool.{cases_lt}
use Rattle.std.proofs.lemmas.Bool.Decides.{nat_tests}
use Rattle.std.proofs.lemmas.List.{length-replicate}
use Rattle.sc_base.specs.declared.key.Key.{Key}
use Rattle.sc_base.specs.declared.memory.Cell.{Cell as Stored}
use Rattle.sc_base.specs.declared.memory.Cell.TheVariants.{Unwritten as Empty, Byte as Octet, Frag}
use Rattle.sc_base.specs.declared.memory.Kind.{Kind}
use Rattle.sc_objects.specs.Blocks.{Blocks, IsTiled}
use Rattle.sc_objects.specs.declared.objects.Obj.{Obj}
use Rattle.sc_objects.specs.Numbered.{IsClear, IsLive, born, object_of}
use Rattle.sc_objects.specs.Numbered.{ended as gone}
use Rattle.sc_objects.proofs.Births.{object-born, object-within, ended-is}
use Rattle.sc_objects.proofs.Lists.{slice_get-push, slice_get-set}
use Rattle.sc_mem.specs.Flat.{Flat, place, place_in, cell_at, cell_in, with_birth, with_death}
use Rattle.sc_mem.specs.Flat.{fresh as empty}
use Rattle.sc_mem.specs.Safe.{Store}
use Rattle.sc_meaning.specs.Values.{Cell, Unwritten}
use Rattle.sc_meaning.specs.World.{Object, object_at, fresh, ended}
use Rattle.sc_mem_store.specs.Holding.{IsTag, IsTagged}
use Rattle.sc_mem_store.specs.Stray.{is_stray, HasNoStray}
use Rattle.sc_mem_store.proofs.Cells.{birth-other, birth-here, some-is}
use Rattle.sc_mem_store.proofs.Holding.{held-at, holds_none}
use Rattle.sc_mem_store.proofs.Lists.{from-replicate}
use Rattle.sc_meaning.specs.Statements.{auto_kind}
use Rattle.sc_compiled_frames.specs.Words.{Held, HeldWords, IsCell}
use Rattle.sc_compiled_frames.proofs.Changes.{one_birth, one_death}

-- ---- births
area_low : (heap stack base size i : ℕ) → heap ≤ 67108864 → stack ≤ 16777216 → place_in heap stack base size ≡ Some i → (0 < base) × (base + size < 4294967296)
area_low heap stack base size i h s e = (low heap stack base size i h s e, high heap stack base size i h s e)
  where
    low : (heap stack base size i : ℕ) → heap ≤ 67108864 → stack ≤ 16777216 → place_in heap stack base size ≡ Some i → 0 < base
    low heap stack base size i h s e = grind (arith, nat_tests, h, s, e)

    high : (heap stack base size i : ℕ) → heap ≤ 67108864 → stack ≤ 16777216 → place_in heap stack base size ≡ Some i → base + size < 4294967296
    high heap stack base size i h s e = grind (arith, nat_tests, h, s, e)

no_number : (t : List Obj) (tag : ℕ) → IsTag t tag → length t < 4294967294 → tag ≡ length t + 1 → ⊥
no_number t tag (inl z) few is = omega (arith, z, is)
no_number t tag (inr (inl z)) few is = omega (arith, z, is, few)
no_number t tag (inr (inr (q, e))) few is = let within = (object-within t tag q e).1 in omega (arith, within, is)

cell_grows : (t : List Obj) (o : Obj) (c : Stored) → length t < 4294967294 → IsTagged t c → IsCell t c → IsCell (born t o) c
cell_grows t o Empty few tagged h = tt
cell_grows t o (Octet b) few tagged h = h
cell_grows t o (Frag w g k) few tagged h = (h.0, λ p e. elim (object-born t o g p e) [ inl old ↦ h.1 p old | inr new ↦ absurd (no_number t g tagged few new.0) ])

some_cell : (t : List Obj) (c : Stored) → Some Empty ≡ Some c → IsCell t c
some_cell t c e = let is : Empty ≡ c = cc (e) in subst (IsCell t) is tt

some_stray : (d : Cell) → Unwritten ≡ d → is_stray d ≡ false
some_stray d e = subst (λ x. is_stray x ≡ false) e refl

fresh_stray : (os : List Object) (size : ℕ) (kind : Kind) → HasNoStray os → HasNoStray (os ++ fresh size kind ∷ [])
fresh_stray os size kind h zero o e live i c got = absurd (cc (e))
fresh_stray os size kind h (suc k) o e live i c got =
    elim (slice_get-push os (fresh size kind) k o e) [
      | inl old ↦ h (suc k) o old.0 live i c got
      | inr new ↦ some_stray c (from-replicate size i Unwritten c (subst (λ (x : Object). slice_get x.cells i ≡ Some c) new.1 got)).1
    ]

-- A birth of any kind, after which memory holds the objects, keeps words.
pub words_born : (fs : List Key) (m : Flat) (os : List Object) (o : Obj) → HeldWords fs m os → IsSome (place m o.base o.size) → length m.objects < 4294967294 → Held fs (with_birth m o) (os ++ fresh o.size o.kind ∷ []) → HeldWords fs (with_birth m o) (os ++ fresh o.size o.kind ∷ [])
words_born fs m os o h area few held =
    let st : Store = record { flat = m; blocks = h.held.blocks } in
    let safe = h.held.safe in
    let (i, there) = some-is (place m o.base o.size) area in
    let (low, high) = area_low m.heap m.stack o.base o.size i safe.heap safe.stack there in
    let outside : (b : ℕ) (c : Stored) → (b < o.base) ⊎ (o.base + o.size ≤ b) → cell_at (with_birth m o) b ≡ Some c → IsCell (born m.objects o) c =
    λ b c far e. (let old = sym (birth-other st o b safe area far) ∙ e in cell_grows m.objects o c few (h.held.holds.tagged b c old) (h.cells b c old)) in
    record {
      held = held;
      cells = λ b c e. elim (cases_lt b o.base) [
        | inl less ↦ outside b c (inl less) e
        | inr more ↦ elim (cases_lt b (o.base + o.size)) [
          | inr far ↦ outside b c (inr far) e
          | inl near ↦
              let k = b - o.base in
              let is : o.base + k ≡ b = omega (arith, more) in
              some_cell (born m.objects o) c (sym (birth-here st o k safe area (omega (arith, more, near))) ∙ ap (cell_at (with_birth m o)) is ∙ e)
        ]
      ];
      seated = λ id p e. elim (object-born m.objects o id p e) [
        | inl old ↦ h.seated id p old
        | inr new ↦
            let is = new.0 in
            subst (λ (q : Obj). (0 < q.base) × (q.base + q.size < 2 ^ 32) × (id < 4294967295)) (sym new.1) (low, high, omega (arith, is, few))
      ];
      known = fresh_stray os o.size o.kind h.known;
    }

-- ---- deaths
from_ended : (t : List Obj) (k : ℕ) (p : Obj) (g : ℕ) (q : Obj) → object_of t (suc k) ≡ Some p → object_of (set t k (record p { live = false })) g ≡ Some q → (r : Obj) × (object_of t g ≡ Some r) × (r.base ≡ q.base) × (r.size ≡ q.size)
from_ended t k p zero q e f = absurd (cc (f))
from_ended t k p (suc j) q e f =
    elim (slice_get-set t k j (record p { live = false }) q f) [
      | inl here ↦ (p, ap (slice_get t) here.0 ∙ e, ap (λ (x : Obj). x.base) (sym here.1), ap (λ (x : Obj). x.size) (sym here.1))
      | inr other ↦ (q, other.1, refl, refl)
    ]

cell_stays : (t u : List Obj) (c : Stored) → ((g : ℕ) (q : Obj) → object_of u g ≡ Some q → (r : Obj) × (object_of t g ≡ Some r) × (r.base ≡ q.base) × (r.size ≡ q.size)) → IsCell t c → IsCell u c
cell_stays t u Empty back h = tt
cell_stays t u (Octet b) back h = h
cell_stays t u (Frag w g k) back h = (
  h.0,
  λ q e.
      let (r, old, base, size) = back g q e in
      let le = h.1 r old in
      subst (λ n. (w + (2 ^ 32 - q.base)) % 2 ^ 32 ≤ n) size (subst (λ n. (w + (2 ^ 32 - n)) % 2 ^ 32 ≤ r.size) base le),
)

dead_known : (os : List Object) (id : ℕ) (o : Object) → object_at os id ≡ Some o → HasNoStray os → HasNoStray (ended os id (Some o))
dead_known os zero o e h id q f live i c got = absurd (cc (e))
dead_known os (suc k) o e h zero q f live i c got = absurd (cc (f))
dead_known os (suc k) o e h (suc j) q f live i c got =
    elim (slice_get-set os k j (record o { live = false }) q f) [
      | inl here ↦ absurd (no (sym live ∙ ap (λ (x : Object). x.live) here.1))
      | inr other ↦ h (suc j) q other.1 live i c got
    ]
  where
    no : true ≡ false → ⊥
    no e = cc (e)

-- A death, after which memory holds the objects, keeps words.
words_dead : (fs : List Key) (m : Flat) (os : List Object) (k : ℕ) (p : Obj) → HeldWords fs m os → IsLive m.objects (suc k) p → Held fs (with_death m (suc k)) (ended os (suc k) (object_at os (suc k))) → HeldWords fs (with_death m (suc k)) (ended os (suc k) (object_at os (suc k)))
words_dead fs m os k p h live held =
    let (o, here, same) = held-at os m fs (suc k) p h.held.holds live.0 in
    let place : suc k - 1 ≡ k = omega arith in
    let is : gone m.objects (suc k) ≡ set m.objects k (record p { live = false }) = ended-is m.objects (suc k) p live.0 ∙ ap (λ n. set m.objects n (record p { live = false })) place in
    let back : (g : ℕ) (q : Obj) → object_of (gone m.objects (suc k)) g ≡ Some q → (r : Obj) × (object_of m.objects g ≡ Some r) × (r.base ≡ q.base) × (r.size ≡ q.size) =
    λ g q e. from_ended m.objects k p g q live.0 (subst (λ t. object_of t g ≡ Some q) is e) in
    record {
      held = held;
      cells = λ b c e. cell_stays m.objects (gone m.objects (suc k)) c back (h.cells b c e);
      seated = λ g q e.
          let (r, old, base, size) = back g q e in
          let (low, high, few) = h.seated g r old in
          (subst (λ n. 0 < n) base low, subst (λ n. n + q.size < 2 ^ 32) base (subst (λ n. r.base + n < 2 ^ 32) size high), few);
      known = subst (λ q. HasNoStray (ended os (suc k) q)) (sym here) (dead_known os (suc k) o here h.known);
    }

pub words_ended : (fs : List Key) (m : Flat) (os : List Object) (id : ℕ) (p : Obj) → HeldWords fs m os → IsLive m.objects id p → Held fs (with_death m id) (ended os id (object_at os id)) → HeldWords fs (with_death m id) (ended os id (object_at os id))
words_ended fs m os zero p h live held = absurd (cc (live.0))
words_ended fs m os (suc k) p h live held = words_dead fs m os k p h live held

-- ---- the beginning
pub nothing_there : (id : ℕ) (p : Obj) → object_of [] id ≡ Some p → ⊥
nothing_there zero p e = cc (e)
nothing_there (suc k) p e = cc (e)

nothing_meant : (id : ℕ) (o : Object) → object_at [] id ≡ Some o → ⊥
nothing_meant zero o e = cc (e)
nothing_meant (suc k) o e = cc (e)

pub empty_cell : (n : ℕ) (q : Option ℕ) (c : Stored) → cell_in (replicate n Empty) q ≡ Some c → IsCell [] c
empty_cell n None c e = absurd (cc (e))
empty_cell n (Some i) c e = subst (IsCell []) (from-replicate n i Empty c e).1 tt

-- memory as a run begins has no object, and its words are values
pub words_begin : (fs : List Key) (os : List Object) (heap stack : ℕ) (b : Blocks) → os ≡ [] → heap ≤ 67108864 → stack ≤ 16777216 → b.bytes ≡ heap → IsTiled b → HeldWords fs (empty stack heap) os
words_begin fs os heap stack b none small less bytes tiled = record {
  held = record {
    holds = subst (λ os. Rattle.sc_mem_store.specs.Holding.Holds os (empty stack heap) fs) (sym none) (holds_none stack heap fs);
    blocks = b;
    safe = record {
      heap = small;
      stack = less;
      sized = length-replicate (1048576 + heap + stack) Empty;
      bytes = bytes;
      apart = λ i j o p l k n. absurd (nothing_there i o l.0);
      within = λ id o l. absurd (nothing_there id o l.0);
      stands = λ id o l. absurd (nothing_there id o l.0);
      tiled = tiled;
    };
  };
  cells = λ at c e. empty_cell (1048576 + heap + stack) (place (empty stack heap) at 1) c e;
  seated = λ id p e. absurd (nothing_there id p e);
  known = λ id o e live i c got. absurd (nothing_meant id o (subst (λ os. object_at os id ≡ Some o) none e));
}

-- ---- memory and its words together
pub begins : (fs : List Key) (heap stack : ℕ) (b : Blocks) → heap ≤ 67108864 → stack ≤ 16777216 → b.bytes ≡ heap → IsTiled b → HeldWords fs (empty stack heap) []
begins fs heap stack b small less bytes tiled = words_begin fs [] heap stack b refl small less bytes tiled

pub birth_in_stack : (fs : List Key) (m : Flat) (os : List Object) (size : ℕ) (constant : Bool) (base : ℕ) → HeldWords fs m os → base % 4 ≡ 0 → 0x1F000000 ≤ base → IsClear m.objects base size → IsSome (place m base size) → length m.objects < 4294967294
    → HeldWords fs (with_birth m (record { size = size; kind = auto_kind constant; base = base; live = true })) (os ++ fresh size (auto_kind constant) ∷ [])
birth_in_stack fs m os size constant base h even up clear area few =
    words_born fs m os (record { size = size; kind = auto_kind constant; base = base; live = true }) h area few (one_birth fs m os size constant base h.held even up clear area)

pub death : (fs : List Key) (m : Flat) (os : List Object) (id : ℕ) (p : Obj) → HeldWords fs m os → IsLive m.objects id p → HeldWords fs (with_death m id) (ended os id (object_at os id))
death fs m os id p h live = words_ended fs m os id p h live (one_death fs m os id p h.held live)
