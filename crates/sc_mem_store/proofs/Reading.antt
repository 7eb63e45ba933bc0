-- What is read of an object.
use Rattle.std.proofs.Common.{◌≡◌, ℕ, ◌+◌, ◌-◌, ◌<◌, ◌≤◌, min, true, inl, inr, List, [], ◌∷◌, ◌++◌, length, take, drop, get_or, refl, sym, ap, subst, ◌∙◌, Some, None, Result, Ok, Err, arith, Option, slice_get, zero, suc}
use Rattle.std.proofs.lemmas.Option.{slice_get-get_or, slice_get_within}
use Rattle.std.proofs.lemmas.List.{length-take, length-drop, ext_get_or}
use Rattle.std.specs.Prelude.{IfOk}
use Rattle.sc_base.specs.declared.NoMemory.{NoMemory}
use Rattle.sc_base.specs.declared.key.Key.{Key}
use Rattle.sc_base.specs.declared.memory.Cell.{Cell as Stored}
use Rattle.sc_objects.specs.declared.objects.Obj.{Obj}
use Rattle.sc_objects.specs.Numbered.{object_of}
use Rattle.sc_objects.proofs.Lists.{slice_get-push}
use Rattle.sc_mem.specs.Flat.{Flat, cell_at}
use Rattle.sc_meaning.specs.Values.{Cell, Unwritten}
use Rattle.sc_meaning.specs.World.{Object, cells_at, cells_in}
use Rattle.sc_mem_store.specs.Holding.{Holds, HasBytes, Spans, byte_at}
use Rattle.sc_mem_store.specs.Living.{HasCells}
use Rattle.sc_mem_store.proofs.Lists.{get-front, get-range}
use Rattle.sc_mem_store.proofs.Holding.{held-at, held_nowhere}

-- bytes are told by where they stand
pub same-bytes : (m : Flat) (fs : List Key) (base : ℕ) (xs ys : List Cell) → length xs ≡ length ys → HasBytes m fs base xs → HasBytes m fs base ys → xs ≡ ys
same-bytes m fs base xs ys size h g = ext_get_or Unwritten xs ys size (λ i few. (
    let one = h i (get_or xs i Unwritten) (slice_get-get_or xs i Unwritten few) in
    let two = g i (get_or ys i Unwritten) (slice_get-get_or ys i Unwritten (omega arith)) in
    let both : Some (get_or xs i Unwritten) ≡ Some (get_or ys i Unwritten) = sym one ∙ two in
    cc))

pub none : {A : Type 0} (xs : List A) → length xs ≡ 0 → xs ≡ []
none [] h = refl
none (x ∷ xs) h = absurd (omega arith)

pub one-of : (m : Flat) (fs : List Key) (base count i : ℕ) (a b c d e : Cell) → i < count → (0 < count → byte_at m fs (base + 0) ≡ Some a) → (1 < count → byte_at m fs (base + 1) ≡ Some b) → (2 < count → byte_at m fs (base + 2) ≡ Some c) → (3 < count → byte_at m fs (base + 3) ≡ Some d) → slice_get (a ∷ b ∷ c ∷ d ∷ []) i ≡ Some e → byte_at m fs (base + i) ≡ Some e
one-of m fs base count zero a b c d e l ha hb hc hd h = ha (omega arith) ∙ h
one-of m fs base count (suc zero) a b c d e l ha hb hc hd h = hb (omega arith) ∙ h
one-of m fs base count (suc (suc zero)) a b c d e l ha hb hc hd h = hc (omega arith) ∙ h
one-of m fs base count (suc (suc (suc zero))) a b c d e l ha hb hc hd h = hd (omega arith) ∙ h
one-of m fs base count (suc (suc (suc (suc i)))) a b c d e l ha hb hc hd h = absurd (cc)

pub read_none : (os : List Object) (m : Flat) (fs : List Key) (id at n base count : ℕ) (cells : List Cell) → Holds os m fs → object_of m.objects id ≡ None → count ≡ 0 → length cells ≡ count → cells ≡ cells_at os id at n
read_none os m fs id at n base count cells h e z size = none cells (size ∙ z) ∙ sym (ap (λ q. cells_in q at n) (held_nowhere os m fs id h e))

pub read_some : (os : List Object) (m : Flat) (fs : List Key) (id at n base count : ℕ) (p : Obj) (cells : List Cell) → Holds os m fs → object_of m.objects id ≡ Some p → Spans (Some p) at n base count → length cells ≡ count → HasBytes m fs base cells → cells ≡ cells_at os id at n
read_some os m fs id at n base count p cells h e spans size read =
    let (o, here, held) = held-at os m fs id p h e in
    let alive : o.live ≡ true = sym held.live ∙ spans.0 in
    let full = held.full alive in
    let same = held.size in
    let least = spans.1 in
    let part : length (take n (drop at o.cells)) ≡ min n (p.size - at) = simp (length-take, length-drop) (omega arith) in
    let there : HasBytes m fs base (take n (drop at o.cells)) =
    λ i c f. (
    let few = slice_get_within (take n (drop at o.cells)) i c f in
    let first = spans.2 (omega arith) in
    let place : base + i ≡ p.base + (at + i) = omega arith in
    ap (byte_at m fs) place ∙ held.bytes alive (at + i) c (get-range o.cells at n i c f)) in
    same-bytes m fs base cells (take n (drop at o.cells)) (size ∙ (least ∙ sym part)) read there ∙ ap (λ q. cells_in q at n) (sym here)

pub read-span : (os : List Object) (m : Flat) (fs : List Key) (id at n base count : ℕ) (q : Option Obj) (cells : List Cell) → Holds os m fs → object_of m.objects id ≡ q → Spans q at n base count → length cells ≡ count → HasBytes m fs base cells → cells ≡ cells_at os id at n
read-span os m fs id at n base count None cells h e spans size read = read_none os m fs id at n base count cells h e spans size
read-span os m fs id at n base count (Some p) cells h e spans size read = read_some os m fs id at n base count p cells h e spans size read

pub read_result : (os : List Object) (m : Flat) (fs given : List Key) (id at n base count : ℕ) (r : Result (List Cell) NoMemory) → Holds os m fs → Spans (object_of m.objects id) at n base count → given ≡ fs → IfOk r (λ cells. (length cells ≡ count) × HasBytes m given base cells) → IfOk r (λ cells. cells ≡ cells_at os id at n)
read_result os m fs given id at n base count (Err e) h spans same got = tt
read_result os m fs given id at n base count (Ok cells) h spans same got =
    read-span os m fs id at n base count (object_of m.objects id) cells h refl spans got.0 (subst (λ (ks : List Key). HasBytes m ks base cells) same got.1)

-- four bytes, of which the first so many are told
pub few_are : (m : Flat) (fs : List Key) (base count : ℕ) (a b c d : Cell) → count ≤ 4 → (0 < count → byte_at m fs (base + 0) ≡ Some a) → (1 < count → byte_at m fs (base + 1) ≡ Some b) → (2 < count → byte_at m fs (base + 2) ≡ Some c) → (3 < count → byte_at m fs (base + 3) ≡ Some d) → (length (take count (a ∷ b ∷ c ∷ d ∷ [])) ≡ count) × HasBytes m fs base (take count (a ∷ b ∷ c ∷ d ∷ []))
few_are m fs base count a b c d small ha hb hc hd =
    let all : List Cell = a ∷ b ∷ c ∷ d ∷ [] in
    let size : length (take count all) ≡ count = simp length-take (omega arith) in (
      size,
      λ i e f.
          let few = slice_get_within (take count all) i e f in
          let there = get-front all count i e f in
          one-of m fs base count i a b c d e (omega arith) ha hb hc hd there,
    )

-- bytes that are read one after another
pub bytes_none : (m : Flat) (fs : List Key) (base : ℕ) → HasBytes m fs base []
bytes_none m fs base i c e = absurd (cc)

pub bytes_more : (m : Flat) (fs : List Key) (base i : ℕ) (cells : List Cell) (c : Cell) → length cells ≡ i → HasBytes m fs base cells → byte_at m fs (base + i) ≡ Some c → HasBytes m fs base (cells ++ c ∷ [])
bytes_more m fs base i cells c size h here j d e =
    elim (slice_get-push cells c j d e) [
      | inl old ↦ h j d old.0
      | inr new ↦
          let place : base + j ≡ base + i = omega arith in
          ap (byte_at m fs) place ∙ (here ∙ ap Some (sym new.1))
    ]

-- cells that are read one after another
pub cells_none : (m : Flat) (base : ℕ) → HasCells m base []
cells_none m base i x e = absurd (cc)

pub cells_more : (m : Flat) (base i : ℕ) (cells : List Stored) (x : Stored) → length cells ≡ i → HasCells m base cells → cell_at m (base + i) ≡ Some x → HasCells m base (cells ++ x ∷ [])
cells_more m base i cells x size h here j d e =
    elim (slice_get-push cells x j d e) [
      | inl old ↦ h j d old.0
      | inr new ↦
          let place : base + j ≡ base + i = omega arith in
          ap (cell_at m) place ∙ (here ∙ ap Some (sym new.1))
    ]
