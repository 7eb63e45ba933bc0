-- How blocks stay apart as they are taken and given back, and how a class keeps room for its taken blocks.
use Rattle.std.proofs.Common.{◌≡◌, ◌≢◌, ◌⊎◌, inl, inr, ℕ, ◌+◌, ◌<◌, ◌≤◌, cond, List, [], ◌∷◌, ◌++◌, length, set, get_or, sym, subst, ◌∙◌, Option, None, Some, arith}
use Rattle.std.specs.List.{slice_get}
use Rattle.std.specs.Ordering.{nat_cmp}
use Rattle.std.specs.BTreeMap.{is_at}
use Rattle.std.specs.Map.{lookup}
use Rattle.std.proofs.lemmas.Bool.{cases_eq}
use Rattle.std.proofs.lemmas.List.{length-set, get_or-set_same, get_or-set_other}
use Rattle.std.proofs.lemmas.Option.{slice_get_within}
use Rattle.std.proofs.lemmas.Nat.{pow_pos}
use Rattle.sc_objects.specs.Blocks.{Blocks, block_size, class_at, free_of, Disjoint, IsTiled}
use Rattle.sc_objects.proofs.Lists.{slice_get-front, slice_get-last, slice_get-push, is_at-apart, is_at-same}

pub size_above : (k : ℕ) → 0 < block_size k
size_above k = let h = pow_pos k in omega arith

pub Disjoint-sym : (a j c k : ℕ) → Disjoint a j c k → Disjoint c k a j
Disjoint-sym a j c k h = elim h [ inl l ↦ inr l | inr l ↦ inl l ]

pub Disjoint-apart : (a j c k : ℕ) → Disjoint a j c k → a ≢ c
Disjoint-apart a j c k h e = let p = size_above j in let q = size_above k in elim h [ inl l ↦ omega arith | inr l ↦ omega arith ]

-- what a map has at a key after another value is put at one, and after one is taken out
pub after-insert : (f : ℕ → Option ℕ) (base k q j : ℕ) → cond (is_at (nat_cmp base) q) (Some k) (f q) ≡ Some j → ((q ≡ base) × (j ≡ k)) ⊎ ((q ≢ base) × (f q ≡ Some j))
after-insert f base k q j h = elim (cases_eq base q) [
  | inl e ↦ inl (sym e, (let there : Some k ≡ Some j = (rw (is_at-same base q e) at h) in cc))
  | inr n ↦ inr ((λ e. n (sym e)), rw (is_at-apart base q n) at h)
]

pub after-remove : (f : ℕ → Option ℕ) (base q j : ℕ) → cond (is_at (nat_cmp base) q) None (f q) ≡ Some j → (q ≢ base) × (f q ≡ Some j)
after-remove f base q j h = elim (cases_eq base q) [
  | inl e ↦ absurd (let there : None ≡ Some j = (rw (is_at-same base q e) at h) in cc)
  | inr n ↦ ((λ e. n (sym e)), rw (is_at-apart base q n) at h)
]

-- the free blocks of a class after those of one class are others
pub free-set : (free : List (List ℕ)) (k j i x : ℕ) (l : List ℕ) → k < length free → slice_get (get_or (set free k l) j []) i ≡ Some x → ((j ≡ k) × (slice_get l i ≡ Some x)) ⊎ ((j ≢ k) × (slice_get (get_or free j []) i ≡ Some x))
free-set free k j i x l w h = elim (cases_eq j k) [
  | inl e ↦ inl (e, (let there : slice_get (get_or (set free k l) k []) i ≡ Some x = subst (λ (m : ℕ). slice_get (get_or (set free k l) m []) i ≡ Some x) e h in rw (get_or-set_same free k l [] w) at there))
  | inr n ↦ inr (n, rw (get_or-set_other free k j l [] n) at h)
]

-- a block taken from the free ones of its class
pub tiled-taken : (b : Blocks) (taken : List (ℕ × ℕ)) (base k : ℕ) (rest : List ℕ) → IsTiled b → k < 29 → free_of b k ≡ rest ++ base ∷ [] → ((q : ℕ) → lookup (is_at (nat_cmp q)) taken ≡ cond (is_at (nat_cmp base) q) (Some k) (class_at b q)) → IsTiled (record { bytes = b.bytes; used = b.used; taken = taken; free = set b.free k rest })
tiled-taken b taken base k rest t small e at =
    let last : slice_get (free_of b k) (length rest) ≡ Some base = rw e (slice_get-last rest base) in
    let small' : k < length b.free = rw t.classes small in
    let T = λ (q j : ℕ) (h : lookup (is_at (nat_cmp q)) taken ≡ Some j). after-insert (class_at b) base k q j (sym (at q) ∙ h) in
    let F : (j i x : ℕ) → slice_get (get_or (set b.free k rest) j []) i ≡ Some x → (slice_get (free_of b j) i ≡ Some x) × ((j ≡ k) → i ≢ length rest) =
    λ j i x h. elim (free-set b.free k j i x rest small' h) [
      | inl p ↦ (rw (p.0, e) (slice_get-front rest (base ∷ []) i x p.1), λ _ same. (let within = slice_get_within rest i x p.1 in omega arith))
      | inr p ↦ (p.1, λ same. absurd (p.0 same))
    ] in
    record {
      classes = length-set b.free k rest ∙ t.classes;
      within = t.within;
      taken_within = λ q j h. elim (T q j h) [
        | inl p ↦ (rw p.1 small, rw (p.0, p.1) (t.free_within k (length rest) base last))
        | inr p ↦ t.taken_within q j p.1
      ];
      free_within = λ j i x h. t.free_within j i x (F j i x h).0;
      taken_apart = λ a c i j g h. elim (T a i g) [
        | inl p ↦ elim (T c j h) [
          | inl q ↦ inl (p.0 ∙ sym q.0)
          | inr q ↦ inr (rw (p.0, p.1) (Disjoint-sym c j base k (t.mixed_apart c j k (length rest) base q.1 last)))
        ]
        | inr p ↦ elim (T c j h) [
          | inl q ↦ inr (rw (q.0, q.1) (t.mixed_apart a i k (length rest) base p.1 last))
          | inr q ↦ t.taken_apart a c i j p.1 q.1
        ]
      ];
      mixed_apart = λ a j m i c g h.
          let there = F m i c h in
          elim (T a j g) [
            | inl p ↦ rw (p.0, p.1) (elim (t.free_apart k (length rest) base m i c last there.0) [
              | inl same ↦ absurd (there.1 (sym same.0) (sym same.1))
              | inr apart ↦ apart
            ])
            | inr p ↦ t.mixed_apart a j m i c p.1 there.0
          ];
      free_apart = λ j i a m l c g h. t.free_apart j i a m l c (F j i a g).0 (F m l c h).0;
    }

-- a fresh block from the end of those made
pub tiled-fresh : (b : Blocks) (taken : List (ℕ × ℕ)) (k : ℕ) → IsTiled b → k < 29 → b.used + block_size k ≤ b.bytes → ((q : ℕ) → lookup (is_at (nat_cmp q)) taken ≡ cond (is_at (nat_cmp b.used) q) (Some k) (class_at b q)) → IsTiled (record { bytes = b.bytes; used = b.used + block_size k; taken = taken; free = b.free })
tiled-fresh b taken k t small fits at =
    let T = λ (q j : ℕ) (h : lookup (is_at (nat_cmp q)) taken ≡ Some j). after-insert (class_at b) b.used k q j (sym (at q) ∙ h) in
    record {
      classes = t.classes;
      within = fits;
      taken_within = λ q j h. elim (T q j h) [
        | inl p ↦ (rw p.1 small, rw (p.0, p.1) (omega arith))
        | inr p ↦ let old = t.taken_within q j p.1 in (old.0, omega arith)
      ];
      free_within = λ j i x h. let old = t.free_within j i x h in omega arith;
      taken_apart = λ a c i j g h. elim (T a i g) [
        | inl p ↦ elim (T c j h) [
          | inl q ↦ inl (p.0 ∙ sym q.0)
          | inr q ↦ inr (inr (rw p.0 (t.taken_within c j q.1).1))
        ]
        | inr p ↦ elim (T c j h) [
          | inl q ↦ inr (inl (rw q.0 (t.taken_within a i p.1).1))
          | inr q ↦ t.taken_apart a c i j p.1 q.1
        ]
      ];
      mixed_apart = λ a j m i c g h. elim (T a j g) [
        | inl p ↦ inr (rw p.0 (t.free_within m i c h))
        | inr p ↦ t.mixed_apart a j m i c p.1 h
      ];
      free_apart = t.free_apart;
    }

-- a block given back
pub tiled-given : (b : Blocks) (taken : List (ℕ × ℕ)) (base k : ℕ) → IsTiled b → class_at b base ≡ Some k → ((q : ℕ) → lookup (is_at (nat_cmp q)) taken ≡ cond (is_at (nat_cmp base) q) None (class_at b q)) → IsTiled (record { bytes = b.bytes; used = b.used; taken = taken; free = set b.free k (free_of b k ++ base ∷ []) })
tiled-given b taken base k t here at =
    let small' : k < length b.free = rw t.classes (t.taken_within base k here).0 in
    let T = λ (q j : ℕ) (h : lookup (is_at (nat_cmp q)) taken ≡ Some j). after-remove (class_at b) base q j (sym (at q) ∙ h) in
    let F : (j i x : ℕ) → slice_get (get_or (set b.free k (free_of b k ++ base ∷ [])) j []) i ≡ Some x → (slice_get (free_of b j) i ≡ Some x) ⊎ ((j ≡ k) × (i ≡ length (free_of b k)) × (x ≡ base)) =
    λ j i x h. elim (free-set b.free k j i x (free_of b k ++ base ∷ []) small' h) [
      | inl p ↦ elim (slice_get-push (free_of b k) base i x p.1) [
        | inl q ↦ inl (rw p.0 q.0)
        | inr q ↦ inr (p.0, q.0, q.1)
      ]
      | inr p ↦ inl p.1
    ] in
    record {
      classes = length-set b.free k (free_of b k ++ base ∷ []) ∙ t.classes;
      within = t.within;
      taken_within = λ q j h. t.taken_within q j (T q j h).1;
      free_within = λ j i x h. elim (F j i x h) [
        | inl p ↦ t.free_within j i x p
        | inr p ↦ rw (p.0, p.2) (t.taken_within base k here).1
      ];
      taken_apart = λ a c i j g h. t.taken_apart a c i j (T a i g).1 (T c j h).1;
      mixed_apart = λ a j m i c g h.
          let old = T a j g in
          elim (F m i c h) [
            | inl p ↦ t.mixed_apart a j m i c old.1 p
            | inr p ↦ rw (p.0, p.2) (elim (t.taken_apart a base j k old.1 here) [ inl same ↦ absurd (old.0 same) | inr apart ↦ apart ])
          ];
      free_apart = λ j i a m l c g h. elim (F j i a g) [
        | inl p ↦ elim (F m l c h) [
          | inl q ↦ t.free_apart j i a m l c p q
          | inr q ↦ inr (rw (q.0, q.2) (Disjoint-sym base k a j (t.mixed_apart base k j i a here p)))
        ]
        | inr p ↦ elim (F m l c h) [
          | inl q ↦ inr (rw (p.0, p.2) (t.mixed_apart base k m l c here q))
          | inr q ↦ inl (p.0 ∙ sym q.0, p.1 ∙ sym q.1)
        ]
      ];
    }
