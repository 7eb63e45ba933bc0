-- Bytes are written into a live object: memory holds the objects after the meaning's `Put`, and its words are values still.
use Rattle.std.proofs.Common.{◌≡◌, ◌≢◌, ◌⊎◌, inl, inr, ℕ, zero, suc, ◌+◌, ◌-◌, ◌<◌, ◌≤◌, true, false, List, length, map, set, option_map, Some, refl, sym, ap, subst, ◌∙◌, arith}
use Rattle.std.specs.Option.{IsSome}
use Rattle.std.specs.List.{slice_get}
use Rattle.std.proofs.lemmas.Bool.{cases_lt, cases_eq}
use Rattle.std.proofs.lemmas.Option.{slice_get-map, slice_get_within}
use Rattle.std.proofs.lemmas.List.{length-map, length-set}
use Rattle.sc_base.specs.declared.key.Key.{Key}
use Rattle.sc_base.specs.declared.memory.Cell.{Cell as Stored}
use Rattle.sc_cells.specs.Range.{with_range}
use Rattle.sc_cells.proofs.Ranges.{length-with_range}
use Rattle.sc_objects.specs.declared.objects.Obj.{Obj}
use Rattle.sc_objects.specs.Numbered.{object_of, IsLive}
use Rattle.sc_objects.proofs.Lists.{slice_get-set_same}
use Rattle.sc_mem.specs.Flat.{Flat, place, cell_at, written_at}
use Rattle.sc_mem.specs.Safe.{Store}
use Rattle.sc_meaning.specs.Values.{Cell}
use Rattle.sc_meaning.specs.World.{Object, object_at, overwritten, written}
use Rattle.sc_mem_store.specs.Holding.{IsHeld, meant, IsTagged}
use Rattle.sc_mem_store.specs.Stray.{is_stray, HasNoStray}
use Rattle.sc_mem_store.proofs.Cells.{place-bound, written-other, written-here}
use Rattle.sc_mem_store.proofs.Holding.{held-at, are-kept, at-put}
use Rattle.sc_mem_store.proofs.Lists.{get-within, get-outside, get-other}
use Rattle.sc_mem_store.proofs.Living.{get-some}
use Rattle.sc_mem_store.proofs.Meant.{keeps-all}
use Rattle.sc_compiled_frames.specs.Words.{HeldWords, IsCell}

module _ (fs : List Key) (m : Flat) (os : List Object) (h : HeldWords fs m os) (at : ℕ) (p : Obj) (part : List Stored) (ds : List Cell)
    (means : map (meant fs m.objects) part ≡ ds) (le : at + length part ≤ p.size) (i : ℕ) (there : place m (p.base + at) (length part) ≡ Some i)
    (good : (k : ℕ) (c : Stored) → slice_get part k ≡ Some c → IsCell m.objects c × IsTagged m.objects c)
    (known : (k : ℕ) (d : Cell) → slice_get ds k ≡ Some d → is_stray d ≡ false) where
  abbrev store : Store
  store = record { flat = m; blocks = h.held.blocks }

  abbrev pub new : Flat
  new = record { heap = m.heap; stack = m.stack; cells = with_range m.cells i part; objects = m.objects }

  abbrev base : ℕ
  base = p.base + at

  is_written : written_at m (place m base (length part)) part ≡ new
  is_written = ap (λ q. written_at m q part) there

  some : IsSome (place m base (length part))
  some = subst (λ q. IsSome q) (sym there) refl

  bound : i + length part ≤ length m.cells
  bound =
      let safe = h.held.safe in
      let sized = safe.sized in
      let b = place-bound m.heap m.stack base (length part) i safe.heap safe.stack there in
      omega (arith, b, sized)

  other : (b : ℕ) → (b < base) ⊎ (base + length part ≤ b) → cell_at new b ≡ cell_at m b
  other b far = ap (λ (x : Flat). cell_at x b) (sym is_written) ∙ written-other store base b part h.held.safe some far

  here : (k : ℕ) (c : Stored) → slice_get part k ≡ Some c → cell_at new (base + k) ≡ Some c
  here k c e = ap (λ (x : Flat). cell_at x (base + k)) (sym is_written) ∙ written-here store base k part c h.held.safe some e (slice_get_within part k c e)

  -- a cell is one that was written, or stood there before
  cell_from : (b : ℕ) (c : Stored) → cell_at new b ≡ Some c → ((k : ℕ) × (slice_get part k ≡ Some c)) ⊎ (cell_at m b ≡ Some c)
  cell_from b c e =
      elim (cases_lt b base) [
        | inl low ↦ inr (sym (other b (inl low)) ∙ e)
        | inr high ↦ elim (cases_lt b (base + length part)) [
          | inr far ↦ inr (sym (other b (inr far)) ∙ e)
          | inl near ↦
              let k = b - base in
              let (d, got) = get-some part k (omega (arith, high, near)) in
              let is : base + k ≡ b = omega (arith, high) in
              let two : Some d ≡ Some c = sym (here k d got) ∙ ap (cell_at new) is ∙ e in
              inl (k, got ∙ two)
        ]
      ]

  long : length ds ≡ length part
  long = ap length (sym means) ∙ length-map part (meant fs m.objects)

  -- the bytes of the object
  module _ (o : Object) (held : IsHeld m fs o p) (full : length o.cells ≡ p.size) where
    inside : at + length ds ≤ length o.cells
    inside = omega (arith, le, long, full)

    at_byte : (k : ℕ) (e : Cell) → slice_get ds k ≡ Some e → option_map (meant fs m.objects) (cell_at new (base + k)) ≡ Some e
    at_byte k e got =
        let lt = slice_get_within ds k e got in
        let (c, is) = get-some part k (omega (arith, lt, long)) in
        let one : Some (meant fs m.objects c) ≡ Some e = sym (ap (option_map (meant fs m.objects)) is) ∙ sym (slice_get-map (meant fs m.objects) part k) ∙ ap (λ xs. slice_get xs k) means ∙ got in
        ap (option_map (meant fs m.objects)) (here k c is) ∙ one

    -- a byte is one that was written, or stood there before
    byte_from : (k : ℕ) (e : Cell) → slice_get (overwritten o.cells at ds) k ≡ Some e → ((j : ℕ) × (k ≡ at + j) × (slice_get ds j ≡ Some e)) ⊎ (((k < at) ⊎ (at + length ds ≤ k)) × (slice_get o.cells k ≡ Some e))
    byte_from k e got =
        elim (cases_lt k at) [
          | inl low ↦ inr (inl low, sym (get-outside o.cells at ds k inside (inl low)) ∙ got)
          | inr high ↦ elim (cases_lt k (at + length ds)) [
            | inr far ↦ inr (inr far, sym (get-outside o.cells at ds k inside (inr far)) ∙ got)
            | inl near ↦
                let j = k - at in
                let is : k ≡ at + j = omega (arith, high) in
                let (d, one) = get-some ds j (omega (arith, high, near)) in
                let two : Some d ≡ Some e = sym (get-within o.cells at ds j d inside one) ∙ ap (slice_get (overwritten o.cells at ds)) (sym is) ∙ got in
                inl (j, is, one ∙ two)
          ]
        ]

    held_put : IsHeld new fs (record o { cells = overwritten o.cells at ds }) p
    held_put = record {
      size = held.size;
      kind = held.kind;
      live = held.live;
      base = held.base;
      full = λ _. length-with_range o.cells at ds inside ∙ full ∙ held.size;
      bytes = λ l k e got. elim (byte_from k e got) [
        | inl (j, is, old) ↦
            let place : p.base + k ≡ base + j = omega (arith, is) in
            ap (λ b. option_map (meant fs m.objects) (cell_at new b)) place ∙ at_byte j e old
        | inr (far, old) ↦
            let away : (p.base + k < base) ⊎ (base + length part ≤ p.base + k) = elim far [ inl x ↦ inl (omega (arith, x)) | inr x ↦ inr (omega (arith, x, long)) ] in
            ap (option_map (meant fs m.objects)) (other (p.base + k) away) ∙ held.bytes l k e old
      ];
    }

  put_in : (k : ℕ) → IsLive m.objects (suc k) p → HeldWords fs new (written os (suc k) at ds (object_at os (suc k)))
  put_in k live =
      let (o, found, held) = held-at os m fs (suc k) p h.held.holds live.0 in
      let alive : o.live ≡ true = sym held.live ∙ live.1 in
      let full : length o.cells ≡ p.size = held.full alive ∙ sym held.size in
      let o2 : Object = record o { cells = overwritten o.cells at ds } in
      let within = slice_get_within os k o found in
      let one = held_put o held full in
      let safe = h.held.safe in
      let apart : (id : ℕ) → id ≢ suc k → (q : Obj) → object_of m.objects id ≡ Some q → q.live ≡ true → (j : ℕ) → j < q.size → cell_at new (q.base + j) ≡ cell_at m (q.base + j) =
      λ id n q e a j small. other (q.base + j) (elim (safe.apart id (suc k) q p (e, a) live n) [ inl x ↦ inl (omega (arith, x, small)) | inr x ↦ inr (omega (arith, x, small, le)) ]) in
      let is : written os (suc k) at ds (object_at os (suc k)) ≡ set os k o2 = ap (written os (suc k) at ds) found in
      subst (λ x. HeldWords fs new x) (sym is) (record {
        held = record {
          holds = record {
            count = h.held.holds.count ∙ sym (length-set os k o2);
            each = λ id. at-put os m new fs k o2 p id within live.0 one (λ n. are-kept m new fs (object_at os id) (object_of m.objects id) (apart id n) h.held.holds.tagged (keeps-all m.objects) (h.held.holds.each id));
            tagged = λ b c e. elim (cell_from b c e) [ inl (j, got) ↦ (good j c got).1 | inr old ↦ h.held.holds.tagged b c old ];
          };
          blocks = h.held.blocks;
          safe = record {
            heap = safe.heap;
            stack = safe.stack;
            sized = length-with_range m.cells i part bound ∙ safe.sized;
            bytes = safe.bytes;
            apart = safe.apart;
            within = safe.within;
            stands = safe.stands;
            tiled = safe.tiled;
          };
        };
        cells = λ b c e. elim (cell_from b c e) [ inl (j, got) ↦ (good j c got).0 | inr old ↦ h.cells b c old ];
        seated = h.seated;
        known = λ id q e a j d got. leads o held full k within found alive id q e a j d got;
      })
    where
      is_same : (o q : Object) → Some o ≡ Some q → o ≡ q
      is_same o q e = cc (e)

      leads : (o : Object) (held : IsHeld m fs o p) (full : length o.cells ≡ p.size) (k : ℕ) → k < length os → slice_get os k ≡ Some o → o.live ≡ true → HasNoStray (set os k (record o { cells = overwritten o.cells at ds }))
      leads o held full k within found alive zero q e a j d got = absurd (cc (e))
      leads o held full k within found alive (suc n) q e a j d got =
          elim (cases_eq n k) [
            | inl same ↦
                let o2 : Object = record o { cells = overwritten o.cells at ds } in
                let two : o2 ≡ q = is_same o2 q (sym (slice_get-set_same os k o2 within) ∙ ap (slice_get (set os k o2)) (sym same) ∙ e) in
                elim (byte_from o held full j d (subst (λ (x : Object). slice_get x.cells j ≡ Some d) (sym two) got)) [
                  | inl (l, is, new) ↦ known l d new
                  | inr (far, old) ↦ h.known (suc k) o found alive j d old
                ]
            | inr n2 ↦ h.known (suc n) q (sym (get-other os k n (record o { cells = overwritten o.cells at ds }) n2) ∙ e) a j d got
          ]

  -- any bytes into a live object: one, two, four, or a whole structure
  pub words_put : (id : ℕ) → IsLive m.objects id p → HeldWords fs new (written os id at ds (object_at os id))
  words_put zero live = absurd (cc (live.0))
  words_put (suc k) live = put_in k live
