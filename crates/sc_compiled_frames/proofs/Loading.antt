-- A load at an address that no rule forbids: memory has the word there, and its register stands for the value that the meaning reads.
use Rattle.std.proofs.Common.{◌≡◌, inl, inr, ℕ, suc, ◌+◌, ◌%◌, ◌<◌, ◌≤◌, ◌==◌, true, false, not, List, [], ◌∷◌, length, map, take, drop, option_map, Option, Some, None, refl, sym, ap, subst, ◌∙◌, arith}
use Rattle.std.specs.Prelude.{if◌then◌else◌}
use Rattle.std.specs.List.{slice_get}
use Rattle.std.proofs.lemmas.Option.{slice_get-map, slice_get_within}
use Rattle.std.proofs.lemmas.List.{length-map}
use Rattle.std.proofs.lemmas.Bool.Decides.{nat_tests}
use Rattle.sc_base.specs.declared.integer.Int.TheVariants as int
use Rattle.sc_base.specs.declared.key.Key.{Key}
use Rattle.sc_base.specs.declared.memory.Cell.{Cell as Stored}
use Rattle.sc_base.specs.declared.memory.Word.{Word}
use Rattle.sc_types.specs.declared.ctype.CType.{CType, out-CType}
use Rattle.sc_types.specs.declared.ctype.CType.TheOpen.{CType-F}
use Rattle.sc_types.specs.declared.ctype.Signature.{Signature}
use Rattle.sc_cells.specs.Range.{range_of}
use Rattle.sc_cells.proofs.Ranges.{length-range_of}
use Rattle.sc_objects.specs.declared.objects.Obj.{Obj}
use Rattle.sc_objects.specs.Numbered.{IsLive}
use Rattle.sc_mem.specs.Flat.{Flat, place, place_in, cell_at, cell_in, aligned_place, raw_read}
use Rattle.sc_mem.specs.Safe.{Store, IsSafe}
use Rattle.sc_mem.specs.Words.{word_of, IsSize}
use Rattle.sc_emu.specs.Operations.{loaded, load_size}
use Rattle.sc_meaning.specs.Accesses.{as_type}
use Rattle.sc_meaning.specs.Expressions.{Answer, base_of, further_of}
use Rattle.sc_meaning.specs.Values.{Cell, scalar_size, layer_size, is_pointer_type, value_of_cells}
use Rattle.sc_meaning.specs.Violations.{load_rule, cells_read, is_null, is_dead, is_outside, is_misaligned, reads_unwritten, is_mixed}
use Rattle.sc_meaning.specs.World.{Object, cells_at}
use Rattle.sc_mem_store.specs.Holding.{meant}
use Rattle.sc_mem_store.proofs.Cells.{place-part, place-bound, some-is}
use Rattle.sc_mem_store.proofs.Holding.{held-at}
use Rattle.sc_mem_store.proofs.Lists.{get-range}
use Rattle.sc_mem_store.proofs.Reading.{read_some}
use Rattle.sc_isa.specs.declared.instruction.LoadOp.{LoadOp}
use Rattle.sc_compiled_frames.specs.Means.{IsWord, Means}
use Rattle.sc_compiled_frames.specs.Words.{AreStubs, HeldWords}
use Rattle.sc_compiled_frames.specs.Accesses.{Reads}
use Rattle.sc_compiled_frames.proofs.Reading.{Each, IsGood, scalar_read}
use Rattle.sc_compiled_frames.proofs.Narrowing.{never}
use Rattle.sc_compiled_frames.proofs.Reaching.{load_tests, reached}

-- ---- the sizes of scalars
pub layer_sized : (l : CType-F CType Signature) → 0 < layer_size l → IsSize (layer_size l)
layer_sized (CType-F.Void c) e = absurd (never e)
layer_sized (CType-F.Int int.Char c) e = inl refl
layer_sized (CType-F.Int int.SChar c) e = inl refl
layer_sized (CType-F.Int int.UChar c) e = inl refl
layer_sized (CType-F.Int int.Short c) e = inr (inl refl)
layer_sized (CType-F.Int int.UShort c) e = inr (inl refl)
layer_sized (CType-F.Int int.Int c) e = inr (inr refl)
layer_sized (CType-F.Int int.UInt c) e = inr (inr refl)
layer_sized (CType-F.Int int.Long c) e = inr (inr refl)
layer_sized (CType-F.Int int.ULong c) e = inr (inr refl)
layer_sized (CType-F.Pointer p c) e = inr (inr refl)
layer_sized (CType-F.Array t n) e = absurd (never e)
layer_sized (CType-F.Struct s c) e = absurd (never e)
layer_sized (CType-F.Function s) e = absurd (never e)

-- ---- where an access that no rule forbids stands
pub aligned : (at n : ℕ) → not (at % n == 0) ≡ false → at % n ≡ 0
aligned at n e = grind (arith, nat_tests, e)

mixed_places : (base at n : ℕ) → IsSize n → base % 4 ≡ 0 → at % n ≡ 0 → ((base + at) % n == 0) ≡ true
mixed_places base at n (inl e) four even = let g : (base + at) % n ≡ 0 = subst (λ k. (base + at) % k ≡ 0) (sym e) (omega arith) in rw g refl
mixed_places base at n (inr (inl e)) four even =
    let two : at % 2 ≡ 0 = subst (λ k. at % k ≡ 0) e even in
    let g : (base + at) % n ≡ 0 = subst (λ k. (base + at) % k ≡ 0) (sym e) (omega (arith, four, two)) in rw g refl
mixed_places base at n (inr (inr e)) four even =
    let whole : at % 4 ≡ 0 = subst (λ k. at % k ≡ 0) e even in
    let g : (base + at) % n ≡ 0 = subst (λ k. (base + at) % k ≡ 0) (sym e) (omega (arith, four, whole)) in rw g refl

pub part_inside : (heap stack base size at n i : ℕ) → heap ≤ 67108864 → stack ≤ 16777216 → place_in heap stack base size ≡ Some i → at + n ≤ size → place_in heap stack (base + at) n ≡ Some (i + at)
part_inside heap stack base size at n i h s e l = grind (arith, nat_tests)

-- the place of an aligned access inside of a live object
pub placed : (m : Flat) (store : Store) (p : Obj) (id at n : ℕ) → store.flat ≡ m → IsSafe store → IsLive m.objects id p → IsSize n → p.base % 4 ≡ 0 → at % n ≡ 0 → at + n ≤ p.size → (i : ℕ) × (aligned_place m (p.base + at) n ≡ Some i) × (place m (p.base + at) n ≡ Some i)
placed m store p id at n is safe live size four even le =
    let live' : IsLive store.flat.objects id p = subst (λ (x : Flat). IsLive x.objects id p) (sym is) live in
    let (i, e) = some-is (place store.flat p.base p.size) (safe.within id p live') in
    let g : place m (p.base + at) n ≡ Some (i + at) = subst (λ (x : Flat). place x (p.base + at) n ≡ Some (i + at)) is (part_inside store.flat.heap store.flat.stack p.base p.size at n i safe.heap safe.stack e le) in
    (i + at, ap (λ b. if b then place m (p.base + at) n else None) (mixed_places p.base at n size four even) ∙ g, g)

-- ---- the cells of a range
each_from : (P : Stored → Type 0) (cs : List Stored) → ((i : ℕ) (c : Stored) → slice_get cs i ≡ Some c → P c) → Each P cs
each_from P [] h = tt
each_from P (c ∷ cs) h = (h 0 c refl, each_from P cs (λ i d e. h (suc i) d e))

from_map : (fs : List Key) (t : List Obj) (q : Option Stored) (d : Cell) → option_map (meant fs t) q ≡ Some d → (c : Stored) × (q ≡ Some c) × (meant fs t c ≡ d)
from_map fs t None d e = absurd (cc (e))
from_map fs t (Some c) d e = (c, refl, cc (e))

module _ (fs : List Key) (f : Key → ℕ) (stubs : AreStubs fs f) (m : Flat) (os : List Object) (h : HeldWords fs m os) where
  abbrev store : Store
  store = record { flat = m; blocks = h.held.blocks }

  cell_there : (base n i k : ℕ) → place m base n ≡ Some i → k < n → cell_at m (base + k) ≡ slice_get m.cells (i + k)
  cell_there base n i k e lt = ap (cell_in m.cells) (place-part m.heap m.stack base n i k h.held.safe.heap h.held.safe.stack e lt)

  module _ (id at n : ℕ) (p : Obj) (live : IsLive m.objects id p) (some : 0 < n) (le : at + n ≤ p.size) (i : ℕ) (there : place m (p.base + at) n ≡ Some i) where
    cs : List Stored
    cs = range_of m.cells i n

    pub cs_long : length (range_of m.cells i n) ≡ n
    cs_long =
        let safe = h.held.safe in
        let sized = safe.sized in
        let bound = place-bound m.heap m.stack (p.base + at) n i safe.heap safe.stack there in
        length-range_of m.cells i n (omega (arith, bound, sized))

    cell_is : (k : ℕ) (c : Stored) → slice_get (range_of m.cells i n) k ≡ Some c → (k < n) × (cell_at m (p.base + at + k) ≡ Some c)
    cell_is k c e =
        let long = cs_long in
        let few = slice_get_within (range_of m.cells i n) k c e in
        let lt : k < n = omega (arith, few, long) in
        (lt, cell_there (p.base + at) n i k there lt ∙ get-range m.cells i n k c e)

    -- the meaning's bytes are those for which the cells stand
    pub bytes_are : map (meant fs m.objects) (range_of m.cells i n) ≡ cells_at os id at n
    bytes_are =
        let cells = map (meant fs m.objects) (range_of m.cells i n) in
        read_some os m fs id at n (p.base + at) n p cells h.held.holds live.0
        (live.1, omega (arith, le), λ _. refl)
        (length-map (range_of m.cells i n) (meant fs m.objects) ∙ cs_long)
        (λ k d e.
        let (c, got, is) = from_map fs m.objects (slice_get (range_of m.cells i n) k) d (sym (slice_get-map (meant fs m.objects) (range_of m.cells i n) k) ∙ e) in
        ap (option_map (meant fs m.objects)) (cell_is k c got).1 ∙ ap Some is)

    pub good : (k : ℕ) (c : Stored) → slice_get (range_of m.cells i n) k ≡ Some c → IsGood fs f m.objects stubs h.seated c
    good k c e =
        let (lt, there) = cell_is k c e in
        let (o, here, held) = held-at os m fs id p h.held.holds live.0 in
        let d : slice_get (cells_at os id at n) k ≡ Some (meant fs m.objects c) = ap (λ x. slice_get x k) (sym bytes_are) ∙ slice_get-map (meant fs m.objects) (range_of m.cells i n) k ∙ ap (option_map (meant fs m.objects)) e in
        let d2 : slice_get (take n (drop at o.cells)) k ≡ Some (meant fs m.objects c) = subst (λ q. slice_get (Rattle.sc_meaning.specs.World.cells_in q at n) k ≡ Some (meant fs m.objects c)) here d in
        record {
          typed = h.cells (p.base + at + k) c there;
          tagged = h.held.holds.tagged (p.base + at + k) c there;
          known = h.known id o here (sym held.live ∙ live.1) (at + k) (meant fs m.objects c) (get-range o.cells at n k (meant fs m.objects c) d2);
        }

    pub all_good : Each (IsGood fs f m.objects stubs h.seated) (range_of m.cells i n)
    all_good = each_from (IsGood fs f m.objects stubs h.seated) (range_of m.cells i n) good

  positive : (n : ℕ) → IsSize n → 0 < n
  positive n (inl e) = omega (arith, e)
  positive n (inr (inl e)) = omega (arith, e)
  positive n (inr (inr e)) = omega (arith, e)

  -- a load of a scalar finds the word of the meaning's value
  pub load_word : (op : LoadOp) (ty : CType) (a : Answer) (x : Word) → Reads op (out-CType ty) → 0 < scalar_size ty → IsWord f m.objects a x → load_rule os (base_of a) (further_of a) (scalar_size ty) (is_pointer_type ty) ≡ None
      → (w : Word) × (raw_read m x.bits (load_size op) ≡ Some w) × Means f m.objects (loaded op w) (as_type ty (value_of_cells (cells_read os (base_of a) (further_of a) (scalar_size ty))))
  load_word op ty a x reads scalar word rule =
      let v = base_of a in
      let further = further_of a in
      let n = scalar_size ty in
      let ds = cells_read os v further n in
      let (null, dead, outside, mis, unwritten, mixed) = load_tests (is_null v) (is_dead os v) (is_outside os v further n) (is_misaligned v further n) (reads_unwritten ds) (is_mixed (is_pointer_type ty) ds) rule in
      let r = reached f fs os m h.held.holds h.seated n x a word null dead outside in
      let size = layer_sized (out-CType ty) scalar in
      let at = r.offset + further in
      let even : at % n ≡ 0 = aligned at n (subst (λ u. is_misaligned u further n ≡ false) r.into mis) in
      let (o, here, held) = held-at os m fs r.id r.object h.held.holds r.live.0 in
      let (i, whole, there) = placed m store r.object r.id at n refl h.held.safe r.live size held.base even r.inside in
      let cs = range_of m.cells i n in
      let long = cs_long r.id at n r.object r.live (positive n size) r.inside i there in
      let same : ds ≡ map (meant fs m.objects) cs = ap (λ u. cells_read os u further n) r.into ∙ sym (bytes_are r.id at n r.object r.live (positive n size) r.inside i there) in
      let read : raw_read m x.bits n ≡ Some (word_of cs) = ap (λ b. raw_read m b n) r.there ∙ ap (option_map (λ i. word_of (range_of m.cells i n))) whole in
      let stands = scalar_read fs f m.objects stubs h.seated op ty cs reads scalar (all_good r.id at n r.object r.live (positive n size) r.inside i there) long (subst (λ ds. is_mixed (is_pointer_type ty) ds ≡ false) same mixed) in (
        word_of cs,
        subst (λ k. raw_read m x.bits k ≡ Some (word_of cs)) (sym reads.size) read,
        subst (λ ds. Means f m.objects (loaded op (word_of cs)) (as_type ty (value_of_cells ds))) (sym same) stands,
      )
