-- The word of a value is put beside all objects: memory holds them still, and its words are values.
use Rattle.std.proofs.Common.{◌≡◌, ◌⊎◌, inl, inr, ℕ, ◌+◌, ◌-◌, ◌<◌, ◌≤◌, ◌==◌, ◌%◌, Bool, true, false, List, length, Option, Some, None, refl, sym, ap, subst, ◌∙◌, arith}
use Rattle.std.specs.Prelude.{if◌then◌else◌}
use Rattle.std.specs.Option.{IsSome}
use Rattle.std.specs.List.{slice_get}
use Rattle.std.proofs.lemmas.Bool.{cases_lt}
use Rattle.std.proofs.lemmas.Option.{slice_get_within}
use Rattle.sc_base.specs.declared.key.Key.{Key}
use Rattle.sc_base.specs.declared.memory.Cell.{Cell as Stored}
use Rattle.sc_base.specs.declared.memory.Word.{Word}
use Rattle.sc_cells.specs.Range.{with_range}
use Rattle.sc_cells.proofs.Ranges.{length-with_range}
use Rattle.sc_objects.specs.Blocks.{Blocks}
use Rattle.sc_mem.specs.Flat.{Flat, aligned_place, cell_at, place, put, written_at}
use Rattle.sc_mem.specs.Safe.{IsSafe, Store}
use Rattle.sc_mem.specs.Words.{IsSize, cells_of}
use Rattle.sc_meaning.specs.Values.{Value}
use Rattle.sc_meaning.specs.World.{Object}
use Rattle.sc_mem_store.specs.Holding.{Holds}
use Rattle.sc_mem_store.specs.Living.{IsBare}
use Rattle.sc_mem_store.proofs.Cells.{place-bound, some-is, written-here, written-other}
use Rattle.sc_mem_store.proofs.Living.{get-some, holds_kept, length_of_word}
use Rattle.sc_compiled_frames.specs.Means.{Means}
use Rattle.sc_compiled_frames.specs.Words.{AreStubs, HeldWords}
use Rattle.sc_compiled_frames.proofs.Values.{has_tag, inside_is}
use Rattle.sc_compiled_frames.proofs.Storing.{word_cells}

chosen : (b : Bool) (q : Option ℕ) (i : ℕ) → (if b then q else None) ≡ Some i → q ≡ Some i
chosen true q i e = e
chosen false q i e = absurd (cc (e))

module _ (m : Flat) (blocks : Blocks) (safe : IsSafe (record { flat = m; blocks = blocks })) (base : ℕ) (part : List Stored) (i : ℕ) (there : place m base (length part) ≡ Some i) where
  abbrev store : Store
  store = record { flat = m; blocks = blocks }

  abbrev new : Flat
  new = record { heap = m.heap; stack = m.stack; cells = with_range m.cells i part; objects = m.objects }

  is_written : written_at m (place m base (length part)) part ≡ new
  is_written = ap (λ q. written_at m q part) there

  some : IsSome (place m base (length part))
  some = subst (λ q. IsSome q) (sym there) refl

  bound : i + length part ≤ length m.cells
  bound =
      let sized = safe.sized in
      let b = place-bound m.heap m.stack base (length part) i safe.heap safe.stack there in
      omega (arith, b, sized)

  other : (b : ℕ) → (b < base) ⊎ (base + length part ≤ b) → cell_at new b ≡ cell_at m b
  other b far = ap (λ (x : Flat). cell_at x b) (sym is_written) ∙ written-other store base b part safe some far

  here : (k : ℕ) (c : Stored) → slice_get part k ≡ Some c → cell_at new (base + k) ≡ Some c
  here k c e = ap (λ (x : Flat). cell_at x (base + k)) (sym is_written) ∙ written-here store base k part c safe some e (slice_get_within part k c e)

  -- a cell is one that was written, or stood there before
  cell_from : (b : ℕ) (c : Stored) → cell_at new b ≡ Some c → ((k : ℕ) × (slice_get part k ≡ Some c)) ⊎ (cell_at m b ≡ Some c)
  cell_from b c e =
      elim (cases_lt b base) [
        | inl low ↦ inr (sym (other b (inl low)) ∙ e)
        | inr high ↦ elim (cases_lt b (base + length part)) [
          | inr far ↦ inr (sym (other b (inr far)) ∙ e)
          | inl near ↦
              let k = b - base in
              let (d, got) = get-some part k (omega (arith, high, near)) in
              let is : base + k ≡ b = omega (arith, high) in
              let two : Some d ≡ Some c = sym (here k d got) ∙ ap (cell_at new) is ∙ e in
              inl (k, got ∙ two)
        ]
      ]

  safe_new : IsSafe (record { flat = new; blocks = blocks })
  safe_new = record {
    heap = safe.heap;
    stack = safe.stack;
    sized = length-with_range m.cells i part bound ∙ safe.sized;
    bytes = safe.bytes;
    apart = safe.apart;
    within = safe.within;
    stands = safe.stands;
    tiled = safe.tiled;
  }

pub words_beside : (fs : List Key) (f : Key → ℕ) → AreStubs fs f → (m : Flat) (os : List Object) (at n : ℕ) (w : Word) (v : Value) → HeldWords fs m os → IsSize n → IsBare m.objects at → Means f m.objects w v → IsSome (aligned_place m at n) → HeldWords fs (put m at n w) os
words_beside fs f stubs m os at n w v h size bare means there =
    let part = cells_of n w in
    let long : length part ≡ n = length_of_word n w size in
    let (i, aligned) = some-is (aligned_place m at n) there in
    let stands : place m at n ≡ Some i = chosen (at % n == 0) (place m at n) i aligned in
    let placed : place m at (length part) ≡ Some i = subst (λ k. place m at k ≡ Some i) (sym long) stands in
    let after : Flat = record { heap = m.heap; stack = m.stack; cells = with_range m.cells i part; objects = m.objects } in
    let is_put : put m at n w ≡ after = ap (λ q. written_at m q part) stands in
    let tag = has_tag f m.objects w v means.stands in
    let holds : Holds os after fs = subst (λ (z : Flat). Holds os z fs) is_put (holds_kept os (record { flat = m; blocks = h.held.blocks }) (put m at n w) fs at n w h.held.safe h.held.holds size bare tag there refl) in
    subst (λ (z : Flat). HeldWords fs z os) (sym is_put) (record {
      held = record { holds = holds; blocks = h.held.blocks; safe = safe_new m h.held.blocks h.held.safe at part i placed };
      cells = λ b c e. elim (cell_from m h.held.blocks h.held.safe at part i placed b c e) [
        | inl (k, got) ↦ word_cells fs f m.objects stubs h.seated n w k c (means.wide, inside_is f m.objects w v means.stands means.within) got
        | inr old ↦ h.cells b c old
      ];
      seated = h.seated;
      known = h.known;
    })
