-- A value that is stored whole, as one word.
use Rattle.std.proofs.Common.{◌≡◌, ◌≢◌, ◌⊎◌, inl, inr, ℕ, zero, suc, ◌+◌, ◌-◌, ◌<◌, ◌≤◌, ◌==◌, ◌&&◌, Bool, true, false, cond, List, [], ◌∷◌, length, map, take, Option, Some, None, refl, sym, ap, subst, ◌∙◌, arith}
use Rattle.std.specs.List.{slice_get}
use Rattle.std.specs.Option.{IsSome}
use Rattle.std.proofs.lemmas.Bool.Decides.{nat_tests}
use Rattle.sc_base.specs.declared.key.Key.{Key}
use Rattle.sc_base.specs.declared.memory.Cell.{Cell as Stored}
use Rattle.sc_base.specs.declared.memory.Cell.TheVariants as stored
use Rattle.sc_base.specs.declared.memory.Word.{Word}
use Rattle.sc_cells.specs.Range.{with_range}
use Rattle.sc_objects.specs.declared.objects.Obj.{Obj}
use Rattle.sc_objects.specs.Numbered.{object_of, IsLive}
use Rattle.sc_mem.specs.Flat.{Flat, place, put, written_at}
use Rattle.sc_mem.specs.Safe.{Store, IsSafe}
use Rattle.sc_mem.specs.Words as words
use Rattle.sc_mem.specs.Words.{IsSize}
use Rattle.sc_meaning.specs.Beside.{place_word, put_in, stored_of, word_of, written_in}
use Rattle.sc_meaning.specs.Values.{Value, Number, FunctionAt, Pointer, Cell, Piece, cells_of}
use Rattle.sc_meaning.specs.World.{Object, object_at, written}
use Rattle.sc_mem_store.specs.Fetches.{IsRoom, IsWhole}
use Rattle.sc_mem_store.specs.Holding.{Holds, IsTag, meant, value_at}
use Rattle.sc_mem_store.proofs.Cells.{some-is}
use Rattle.sc_mem_store.proofs.Living.{length_of_word, word-tagged}
use Rattle.sc_mem_store.proofs.Memories.{place-sub, store_is}
use Rattle.sc_mem_store.proofs.Rows.{holds_row}
use Rattle.sc_mem_store.proofs.ValueBytes.{length_of_cells}

pub sizes : (n k : ℕ) → (k ≡ 1) ⊎ ((k ≡ 2) ⊎ (k ≡ 4)) → n ≡ k → IsSize n
sizes n k s e = subst IsSize (sym e) s

pub room_so : (m : Flat) (id at n a : ℕ) (p : Obj) → object_of m.objects id ≡ Some p → p.live ≡ true → at + n ≤ p.size → a ≡ p.base + at → IsRoom m id at n a
room_so m id at n a p here live fits is = (p, (here, live), fits, is)

pub room_is : (m : Flat) (id at n a : ℕ) → IsRoom m id at n a → (other : ℕ) × (o : Obj) × IsLive m.objects other o × (o.base ≤ a) × (a + n ≤ o.base + o.size)
room_is m id at n a (p, live, fits, is) = (id, p, live, omega (arith, is), omega (arith, is, fits))

-- how many bytes there are
whole-size : (n : ℕ) (v : Value) → IsWhole n v → IsSize n
whole-size n (Number b) h = h
whole-size n (FunctionAt k) h = inr (inr h)
whole-size n (Pointer o i) h = inr (inr h)

size-few : (n : ℕ) → IsSize n → (0 < n) × (n ≤ 4)
size-few n (inl e) = (omega (arith, e), omega (arith, e))
size-few n (inr (inl e)) = (omega (arith, e), omega (arith, e))
size-few n (inr (inr e)) = (omega (arith, e), omega (arith, e))

-- ---- the cells of the word are those that stand for the value's bytes
no-tag : (n : ℕ) → n ≢ 0 → (n == 0) ≡ false
no-tag n ne = grind (arith, nat_tests)

pieces-whole : (w : Word) → w.tag ≢ 0 → words.cells_of 4 w ≡ words.pieces_of w
pieces-whole w ne = ap (λ b. cond (cond b false true) (words.pieces_of w) (map stored.Byte (take 4 (words.bytes_of w.bits)))) (no-tag w.tag ne)

place-tagged : (k i : ℕ) (q : Option Obj) → (place_word (suc k) i q).tag ≢ 0
place-tagged k i None e = omega (arith, e)
place-tagged k i (Some p) e = omega (arith, e)

pub word-tagged-some : (fs : List Key) (t : List Obj) (o i : ℕ) → (word_of fs t (Pointer o i)).tag ≢ 0
word-tagged-some fs t zero i e = omega (arith, e)
word-tagged-some fs t (suc k) i e = place-tagged k i (object_of t (suc k)) e

number-stored : (fs : List Key) (t : List Obj) (n b : ℕ) → IsSize n → words.cells_of n (word_of fs t (Number b)) ≡ map (stored_of fs t) (cells_of n (Number b))
number-stored fs t n b (inl e) = subst (λ k. words.cells_of k (word_of fs t (Number b)) ≡ map (stored_of fs t) (cells_of k (Number b))) (sym e) refl
number-stored fs t n b (inr (inl e)) = subst (λ k. words.cells_of k (word_of fs t (Number b)) ≡ map (stored_of fs t) (cells_of k (Number b))) (sym e) refl
number-stored fs t n b (inr (inr e)) = subst (λ k. words.cells_of k (word_of fs t (Number b)) ≡ map (stored_of fs t) (cells_of k (Number b))) (sym e) refl

whole-stored : (fs : List Key) (t : List Obj) (n : ℕ) (v : Value) → IsWhole n v → words.cells_of n (word_of fs t v) ≡ map (stored_of fs t) (cells_of n v)
whole-stored fs t n (Number b) h = number-stored fs t n b h
whole-stored fs t n (FunctionAt k) e = subst (λ n. words.cells_of n (word_of fs t (FunctionAt k)) ≡ map (stored_of fs t) (cells_of n (FunctionAt k))) (sym e) refl
whole-stored fs t n (Pointer o i) e = subst (λ n. words.cells_of n (word_of fs t (Pointer o i)) ≡ map (stored_of fs t) (cells_of n (Pointer o i))) (sym e) (pieces-whole (word_of fs t (Pointer o i)) (word-tagged-some fs t o i))

number-meant : (fs : List Key) (t : List Obj) (n b : ℕ) → IsSize n → map (meant fs t) (words.cells_of n (word_of fs t (Number b))) ≡ cells_of n (Number b)
number-meant fs t n b (inl e) = subst (λ k. map (meant fs t) (words.cells_of k (word_of fs t (Number b))) ≡ cells_of k (Number b)) (sym e) refl
number-meant fs t n b (inr (inl e)) = subst (λ k. map (meant fs t) (words.cells_of k (word_of fs t (Number b))) ≡ cells_of k (Number b)) (sym e) refl
number-meant fs t n b (inr (inr e)) = subst (λ k. map (meant fs t) (words.cells_of k (word_of fs t (Number b))) ≡ cells_of k (Number b)) (sym e) refl

abbrev four : Value → List Cell
four v = Piece v 0 ∷ Piece v 1 ∷ Piece v 2 ∷ Piece v 3 ∷ []

pieces-meant : (fs : List Key) (t : List Obj) (w : Word) (v : Value) → w.tag ≢ 0 → value_at fs t w.tag w.bits ≡ v → map (meant fs t) (words.cells_of 4 w) ≡ four v
pieces-meant fs t w v ne is = ap (map (meant fs t)) (pieces-whole w ne) ∙ ap four is

whole-meant : (fs : List Key) (t : List Obj) (n : ℕ) (v : Value) (w : Word) → IsWhole n v → w ≡ word_of fs t v → value_at fs t w.tag w.bits ≡ v → map (meant fs t) (words.cells_of n w) ≡ cells_of n v
whole-meant fs t n (Number b) w h is value = ap (λ x. map (meant fs t) (words.cells_of n x)) is ∙ number-meant fs t n b h
whole-meant fs t n (FunctionAt k) w e is value =
    let ne : w.tag ≢ 0 = λ z. (let tag = ap (λ (x : Word). x.tag) is in omega (arith, tag, z)) in
    subst (λ n. map (meant fs t) (words.cells_of n w) ≡ cells_of n (FunctionAt k)) (sym e) (pieces-meant fs t w (FunctionAt k) ne value)
whole-meant fs t n (Pointer o i) w e is value =
    let ne : w.tag ≢ 0 = λ z. word-tagged-some fs t o i (sym (ap (λ (x : Word). x.tag) is) ∙ z) in
    subst (λ n. map (meant fs t) (words.cells_of n w) ≡ cells_of n (Pointer o i)) (sym e) (pieces-meant fs t w (Pointer o i) ne value)

-- ---- memory is as the world's view has it
pub stored_whole : (fs : List Key) (old new : Store) (id at a n : ℕ) (v : Value) (w : Word) → IsWhole n v → IsRoom old.flat id at n a → w ≡ word_of fs old.flat.objects v → new.flat ≡ put old.flat a n w → new.blocks ≡ old.blocks → new ≡ put_in fs id at (cells_of n v) old
stored_whole fs old new id at a n v w whole (p, live, fits, place_is) is flat blocks =
    let m = old.flat in
    let few = size-few n (whole-size n v whole) in
    let size : length (cells_of n v) ≡ n = length_of_cells v n few.1 in
    let cells : words.cells_of n w ≡ map (stored_of fs m.objects) (cells_of n v) = ap (words.cells_of n) is ∙ whole-stored fs m.objects n v whole in
    store_is new (put_in fs id at (cells_of n v) old)
    (flat
    ∙ (ap (λ b. written_at m (place m b n) (words.cells_of n w)) place_is
    ∙ (ap (λ part. written_at m (place m (p.base + at) n) part) cells
    ∙ (ap (λ k. written_at m (place m (p.base + at) k) (map (stored_of fs m.objects) (cells_of n v))) (sym size)
    ∙ sym (ap (written_in fs at (cells_of n v) m) live.0)))))
    blocks

-- ---- and holds the objects
pub holds_whole : (os : List Object) (s : Store) (m' : Flat) (fs : List Key) (id at a n : ℕ) (v : Value) (w : Word) → IsSafe s → Holds os s.flat fs → IsWhole n v → IsRoom s.flat id at n a → w ≡ word_of fs s.flat.objects v → value_at fs s.flat.objects w.tag w.bits ≡ v → IsTag s.flat.objects w.tag → m' ≡ put s.flat a n w → Holds (written os id at (cells_of n v) (object_at os id)) m' fs
holds_whole os s m' fs id at a n v w safe h whole (p, live, fits, place_is) word value tag is =
    let m = s.flat in
    let size = whole-size n v whole in
    let few = size-few n size in
    let part : List Stored = words.cells_of n w in
    let long : length part ≡ n = length_of_word n w size in
    let (i, area) = some-is (place m p.base p.size) (safe.within id p live) in
    let there : place m (p.base + at) (length part) ≡ Some (i + at) = place-sub m.heap m.stack p.base p.size i at (length part) safe.heap safe.stack area (omega (arith, long, fits)) (omega (arith, long, few.0)) in
    let le : at + length part ≤ p.size = omega (arith, long, fits) in
    let new : Flat = record { heap = m.heap; stack = m.stack; cells = with_range m.cells (i + at) part; objects = m.objects } in
    let same : m' ≡ new =
    is
    ∙ (ap (λ b. written_at m (place m b n) part) place_is
    ∙ (ap (λ k. written_at m (place m (p.base + at) k) part) (sym long)
    ∙ ap (λ q. written_at m q part) there)) in
    subst (λ (x : Flat). Holds (written os id at (cells_of n v) (object_at os id)) x fs) (sym same)
    (holds_row fs s os safe h at p part (cells_of n v) (whole-meant fs m.objects n v w whole word value) le (i + at) there (λ k c e. word-tagged m.objects n w k c tag e) id live)
