-- Cells are copied as they are: memory holds the objects after the meaning's copy, and its words are values still.
use Rattle.std.proofs.Common.{◌≡◌, ℕ, zero, suc, ◌+◌, ◌<◌, Bool, true, false, List, [], ◌∷◌, length, Some, None, refl, sym, ap, subst, ◌∙◌, arith}
use Rattle.std.specs.List.{slice_get}
use Rattle.sc_base.specs.declared.key.Key.{Key}
use Rattle.sc_base.specs.declared.memory.Word.{Word}
use Rattle.sc_cells.specs.Range.{range_of, with_range}
use Rattle.sc_mem.specs.Flat.{Flat, place, copied, copied_at}
use Rattle.sc_rules.specs.Orders.{reach, write}
use Rattle.sc_meaning.specs.Accesses.{copy_at}
use Rattle.sc_meaning.specs.Expressions.{Answer, base_of, further_of}
use Rattle.sc_meaning.specs.Values.{Cell, Pointer}
use Rattle.sc_meaning.specs.Violations.{reach_rule, write_rule, is_null, is_dead, is_outside, is_constant}
use Rattle.sc_meaning.specs.World.{World, cells_at, object_at, written}
use Rattle.sc_mem_store.specs.Holding.{meant}
use Rattle.sc_mem_store.specs.Stray.{is_stray}
use Rattle.sc_mem_store.proofs.Cells.{some-is}
use Rattle.sc_compiled_frames.specs.Means.{IsWord}
use Rattle.sc_compiled_frames.specs.Words.{AreStubs, HeldWords}
use Rattle.sc_compiled_frames.proofs.Reaching.{reached}
use Rattle.sc_compiled_frames.proofs.Loading.{part_inside, cs_long, bytes_are, good}
use Rattle.sc_compiled_frames.proofs.Writing.{words_put}

reach_tests : (a b c : Bool) → reach a b c ≡ None → (a ≡ false) × (b ≡ false) × (c ≡ false)
reach_tests true b c h = absurd (cc (h))
reach_tests false true c h = absurd (cc (h))
reach_tests false false true h = absurd (cc (h))
reach_tests false false false h = (refl, refl, refl)

write_tests : (a b c d : Bool) → write a b c d ≡ None → (a ≡ false) × (b ≡ false) × (c ≡ false)
write_tests true b c d h = absurd (cc (h))
write_tests false true c d h = absurd (cc (h))
write_tests false false true d h = absurd (cc (h))
write_tests false false false true h = absurd (cc (h))
write_tests false false false false h = (refl, refl, refl)

-- the byte of a copied cell leads somewhere, since the cell does
each_known : (fs : List Key) (f : Key → ℕ) (stubs : AreStubs fs f) (m : Flat) (cs : List Rattle.sc_base.specs.declared.memory.Cell.Cell) → ((k : ℕ) (c : Rattle.sc_base.specs.declared.memory.Cell.Cell) → slice_get cs k ≡ Some c → is_stray (meant fs m.objects c) ≡ false) → (k : ℕ) (d : Cell) → slice_get (Rattle.std.specs.Prelude.map (meant fs m.objects) cs) k ≡ Some d → is_stray d ≡ false
each_known fs f stubs m [] h k d e = absurd (cc (e))
each_known fs f stubs m (c ∷ cs) h zero d e = let is : meant fs m.objects c ≡ d = cc (e) in subst (λ x. is_stray x ≡ false) is (h 0 c refl)
each_known fs f stubs m (c ∷ cs) h (suc k) d e = each_known fs f stubs m cs (λ j x g. h (suc j) x g) k d e

module _ (fs : List Key) (f : Key → ℕ) (stubs : AreStubs fs f) (m : Flat) (w : World) (h : HeldWords fs m w.objects) where
  pub copy_words : (n : ℕ) (a b : Answer) (x y : Word) → 0 < n → IsWord f m.objects a x → IsWord f m.objects b y → write_rule w.objects (base_of a) (further_of a) n ≡ None → reach_rule w.objects (base_of b) (further_of b) n ≡ None
      → HeldWords fs (copied m x.bits y.bits n) (copy_at (base_of a) (further_of a) (base_of b) (further_of b) n w).objects
  copy_words n a b x y some to from writes reads =
      let u = base_of a in
      let v = base_of b in
      let (null, dead, outside) = write_tests (is_null u) (is_dead w.objects u) (is_outside w.objects u (further_of a) n) (is_constant w.objects u) writes in
      let (null2, dead2, outside2) = reach_tests (is_null v) (is_dead w.objects v) (is_outside w.objects v (further_of b) n) reads in
      let r = reached f fs w.objects m h.held.holds h.seated n x a to null dead outside in
      let q = reached f fs w.objects m h.held.holds h.seated n y b from null2 dead2 outside2 in
      let at = r.offset + further_of a in
      let off = q.offset + further_of b in
      let safe = h.held.safe in
      let (j, into) = some-is (place m r.object.base r.object.size) (safe.within r.id r.object r.live) in
      let (i, out) = some-is (place m q.object.base q.object.size) (safe.within q.id q.object q.live) in
      let there : place m (r.object.base + at) n ≡ Some (j + at) = part_inside m.heap m.stack r.object.base r.object.size at n j safe.heap safe.stack into r.inside in
      let source : place m (q.object.base + off) n ≡ Some (i + off) = part_inside m.heap m.stack q.object.base q.object.size off n i safe.heap safe.stack out q.inside in
      let part = range_of m.cells (i + off) n in
      let ds = cells_at w.objects q.id off n in
      let means = bytes_are fs f stubs m w.objects h q.id off n q.object q.live some q.inside (i + off) source in
      let long : length part ≡ n = cs_long fs f stubs m w.objects h q.id off n q.object q.live some q.inside (i + off) source in
      let fine = good fs f stubs m w.objects h q.id off n q.object q.live some q.inside (i + off) source in
      let new : Flat = record { heap = m.heap; stack = m.stack; cells = with_range m.cells (j + at) part; objects = m.objects } in
      let r_inside = r.inside in
      let done : HeldWords fs new (written w.objects r.id at ds (object_at w.objects r.id)) =
      words_put fs m w.objects h at r.object part ds means (omega (arith, long, r_inside)) (j + at) (subst (λ k. place m (r.object.base + at) k ≡ Some (j + at)) (sym long) there)
      (λ k c e. ((fine k c e).typed, (fine k c e).tagged)) (λ k d e. each_known fs f stubs m part (λ k c e. (fine k c e).known) k d (ap (λ xs. slice_get xs k) means ∙ e)) r.id r.live in
      let is_copy : copied m x.bits y.bits n ≡ new =
      ap (λ p. copied_at m (place m p n) (place m y.bits n) n) r.there ∙ ap (λ p. copied_at m p (place m y.bits n) n) there
      ∙ ap (λ p. copied_at m (Some (j + at)) (place m p n) n) q.there ∙ ap (λ p. copied_at m (Some (j + at)) p n) source in
      let is_world : (copy_at u (further_of a) v (further_of b) n w).objects ≡ written w.objects r.id at ds (object_at w.objects r.id) =
      ap (λ z. (copy_at z (further_of a) v (further_of b) n w).objects) r.into ∙ ap (λ z. (copy_at (Pointer r.id r.offset) (further_of a) z (further_of b) n w).objects) q.into in
      subst (λ z. HeldWords fs z (copy_at u (further_of a) v (further_of b) n w).objects) (sym is_copy) (subst (λ z. HeldWords fs new z) (sym is_world) done)
