-- The library changes living objects that may be written, and ends blocks of the heap alone.
use Rattle.std.proofs.Common.{◌≡◌, ◌⊎◌, inl, inr, ℕ, zero, suc, ◌+◌, ◌*◌, ◌^◌, ◌==◌, ◌%◌, ◌&&◌, ◌||◌, Bool, true, false, not, min, nat_le, nat_lt, if◌then◌else◌, List, [], ◌∷◌, ◌++◌, length, replicate, Option, Some, None, refl, ap, ◌∙◌}
use Rattle.std.specs.Prelude.{slice_get, slice_set}
use Rattle.sc_base.specs.declared.memory.Kind.TheVariants.{Heap}
use Rattle.sc_base.specs.declared.report.Rule.{Rule}
use Rattle.sc_rules.specs.Tests as tests
use Rattle.sc_rules.specs.Orders as orders
use Rattle.sc_meaning.specs.Values.{Value, Number, FunctionAt, Pointer, Cell, Byte, cells_of}
use Rattle.sc_meaning.specs.World.{World, Object, Item, Work, Begin, End, GoesOut, ComesBack, Declares, Happens, Birth, Death, Put, Copy, TakeFree, TakeNew, Give, Stack, Read, Seed, Push, Pop, OpenBlock, CloseBlock, Name, Unname, object_at, with_object, written, overwritten, cells_at, pass, tick, fresh, free_of, Enter, Leave, At, Out}
use Rattle.sc_interp_laws.specs.Events.{stirs}
use Rattle.sc_meaning.specs.declared.spot.Spot.TheVariants.{Block}
use Rattle.sc_meaning.specs.Outcomes.{Outcome, Done, Over, BirthLimit, Breach, and_then, world_after, unless, went, access_breach}
use Rattle.sc_meaning.specs.Violations.{store_rule, write_rule, free_rule, is_null, of_object}
use Rattle.sc_meaning.specs.Accesses.{copy_at}
use Rattle.sc_meaning.specs.Expressions.{Nothing, either}
use Rattle.sc_meaning.specs.Classes.{block_size, class_of}
use Rattle.sc_meaning.specs.Library.{gives, writable, bytes_set, bytes_written, allocated, taken, address_or_null, given, given_back, block_size_at, block_breach}
use Rattle.sc_meaning.specs.Functions.{malloc, zeroed, calloc, free, enlarged, reallocated, realloc, copied_bytes, set_all, memset}
use Rattle.sc_meaning.proofs.Objects.{born_new}
use Rattle.sc_interp_laws.specs.Lawful.{IsWritable, IsBlock, IsOfHeap, Along}
use Rattle.sc_interp_laws.proofs.Road.{Road, then_goes, unless_goes, unless_then}
use Rattle.sc_interp_laws.proofs.Lawfully.{Lawful, along_here, along_on, along_one, along_two, store_writable, write_writable}

-- an object that stays what it is, but for its bytes
abbrev pub Stays : List Object → List Object → Type 0
Stays old new = (id : ℕ) (o : Object) → object_at old id ≡ Some o → (p : Object) × (object_at new id ≡ Some p) × (p.live ≡ o.live) × (p.kind ≡ o.kind)

get-front : {X : Type 0} (xs ys : List X) (i : ℕ) (x : X) → slice_get xs i ≡ Some x → slice_get (xs ++ ys) i ≡ Some x
get-front [] ys i x h = absurd (cc)
get-front (y ∷ xs) ys zero x h = h
get-front (y ∷ xs) ys (suc i) x h = get-front xs ys i x h

get-set : {X : Type 0} (xs : List X) (i j : ℕ) (x y : X) → slice_get xs j ≡ Some y → ((j ≡ i) × (slice_get (slice_set xs i x) j ≡ Some x)) ⊎ (slice_get (slice_set xs i x) j ≡ Some y)
get-set [] i j x y h = absurd (cc)
get-set (z ∷ xs) zero zero x y h = inl (refl, refl)
get-set (z ∷ xs) zero (suc j) x y h = inr h
get-set (z ∷ xs) (suc i) zero x y h = inr h
get-set (z ∷ xs) (suc i) (suc j) x y h = elim (get-set xs i j x y h) [ inl p ↦ inl (ap suc p.0, p.1) | inr p ↦ inr p ]

same_stays : (objects : List Object) → Stays objects objects
same_stays objects id o h = (o, h, refl, refl)

stays_on : (a b c : List Object) → Stays a b → Stays b c → Stays a c
stays_on a b c p q id o h =
    let x = p id o h in
    let y = q id x.0 x.1 in
    (y.0, y.1, y.2 ∙ x.2, y.3 ∙ x.3)

birth_stays : (objects : List Object) (x : Object) → Stays objects (objects ++ x ∷ [])
birth_stays objects x zero o h = absurd (cc)
birth_stays objects x (suc k) o h = (o, get-front objects (x ∷ []) k o h, refl, refl)

replaced_stays : (objects : List Object) (to : ℕ) (t p : Object) → object_at objects to ≡ Some t → p.live ≡ t.live → p.kind ≡ t.kind → Stays objects (with_object objects to p)
replaced_stays objects zero t p h l k id o g = absurd (cc)
replaced_stays objects (suc i) t p h l k zero o g = absurd (cc)
replaced_stays objects (suc i) t p h l k (suc j) o g =
    elim (get-set objects i j p o g) [
      | inl e ↦
          let same : t ≡ o = cc in
          (p, e.1, l ∙ ap (λ z. z.live) same, k ∙ ap (λ z. z.kind) same)
      | inr e ↦ (o, e, refl, refl)
    ]

written_stays : (objects : List Object) (to at : ℕ) (cells : List Cell) (x : Option Object) → object_at objects to ≡ x → Stays objects (written objects to at cells x)
written_stays objects to at cells None h = same_stays objects
written_stays objects to at cells (Some t) h = replaced_stays objects to t (record t { cells = overwritten t.cells at cells }) h refl refl

pub writable_stays : (old new : List Object) (id : ℕ) → Stays old new → IsWritable old id → IsWritable new id
writable_stays old new id s w =
    let p = s id w.0 w.1 in
    (p.0, p.1, p.2 ∙ w.2, ap tests.is_constant p.3 ∙ w.3)

block_stays : (old new : List Object) (id : ℕ) → Stays old new → IsBlock old id → IsBlock new id
block_stays old new id s w =
    let p = s id w.0 w.1 in
    (p.0, p.1, p.2 ∙ w.2, ap tests.is_heap p.3 ∙ w.3)

put_stays : (w : World) (id at : ℕ) (cells : List Cell) → Stays w.objects (pass (Put id at cells) w).objects
put_stays w id at cells = written_stays w.objects id at cells (object_at w.objects id) refl

copy_stays : (w : World) (to at from off n : ℕ) → Stays w.objects (pass (Copy to at from off n) w).objects
copy_stays w to at from off n = written_stays w.objects to at (cells_at w.objects from off n) (object_at w.objects to) refl

-- ways
free_heap : (i : Item) (w : World) → stirs i ≡ [] → IsOfHeap w i
free_heap (Work n) w e = tt
free_heap Begin w e = tt
free_heap End w e = tt
free_heap GoesOut w e = tt
free_heap ComesBack w e = tt
free_heap (Declares id) w e = tt
free_heap (Happens (Enter key home)) w e = absurd (cc)
free_heap (Happens Leave) w e = refl
free_heap (Happens (At home line enter)) w e = absurd (cc)
free_heap (Happens (Out byte)) w e = refl
free_heap (Birth size kind at) w e = absurd (cc)
free_heap (Death id) w e = absurd (cc)
free_heap (Put id at new) w e = absurd (cc)
free_heap (Copy to at from off n) w e = absurd (cc)
free_heap (TakeFree k) w e = tt
free_heap (TakeNew size) w e = tt
free_heap (Give k) w e = tt
free_heap (Stack n) w e = tt
free_heap Read w e = tt
free_heap (Seed n) w e = tt
free_heap (Push f) w e = absurd (cc)
free_heap Pop w e = absurd (cc)
free_heap (OpenBlock b) w e = tt
free_heap CloseBlock w e = tt
free_heap (Name id o) w e = tt
free_heap (Unname id) w e = tt

abbrev pub G : World → World → Type 0
G w v = Along IsOfHeap w v

abbrev Heaping : Road
Heaping = Lawful IsOfHeap free_heap (λ id at new w h. h) (λ to at from off n w h. h)

pub here : (w : World) → G w w
here w = along_here IsOfHeap w

pub on : (w v u : World) → G w v → G v u → G w u
on w v u p q = along_on IsOfHeap w v u p q

pub quiet : (i : Item) (w : World) → stirs i ≡ [] → G w (pass i w)
quiet i w e = along_one IsOfHeap i w (free_heap i w e)

pub quiet_two : (i j : Item) (w : World) → stirs i ≡ [] → stirs j ≡ [] → G w (pass j (pass i w))
quiet_two i j w e f = along_two IsOfHeap i j w (free_heap i w e) (free_heap j (pass i w) f)

pub then_go : {A B : Type 0} (w : World) (r : Outcome A) (f : A → World → Outcome B) → G w (world_after r) → ((a : A) (v : World) → G v (world_after (f a v))) → G w (world_after (and_then r f))
then_go w r f l q = then_goes Heaping w r f l q

pub either_go : {A : Type 0} (b : Bool) (f g : World → Outcome A) (w : World) → G w (world_after (f w)) → G w (world_after (g w)) → G w (world_after (either b f g w))
either_go true f g w p q = p
either_go false f g w p q = q

pub unless_go : {A : Type 0} (rule : Option Rule) (told : Rule → Breach) (f : World → Outcome A) (w : World) → (rule ≡ None → G w (world_after (f w))) → G w (world_after (unless rule told f w))
unless_go rule told f w q = unless_goes Heaping rule told f w q

pub unless_on : {A B : Type 0} (rule : Option Rule) (told : Rule → Breach) (f : World → Outcome A) (g : A → World → Outcome B) (w : World) → (rule ≡ None → G w (world_after (and_then (f w) g))) → G w (world_after (and_then (unless rule told f w) g))
unless_on rule told f g w q = unless_then Heaping rule told f g w q

-- bytes that are written one by one, where all were tested before
abbrev pub WritableAt : List Object → Value → Type 0
WritableAt objects (Number n) = Unit {0}
WritableAt objects (FunctionAt k) = Unit {0}
WritableAt objects (Pointer o i) = IsWritable objects o

store_at : (w : World) (p : Value) (i : ℕ) → store_rule w.objects p i 1 ≡ None → WritableAt w.objects p
store_at w (Number n) i e = tt
store_at w (FunctionAt k) i e = tt
store_at w (Pointer o j) i e = store_writable w.objects o j i 1 e

set_go : (p : Value) (i : ℕ) (bs : List ℕ) (w : World) → WritableAt w.objects p → G w (bytes_set p i bs w)
set_go p i [] w h = here w
set_go (Number n) i (b ∷ bs) w h = on w (tick w) (bytes_set (Number n) (i + 1) bs (tick w)) (quiet (Work 1) w refl) (set_go (Number n) (i + 1) bs (tick w) tt)
set_go (FunctionAt k) i (b ∷ bs) w h = on w (tick w) (bytes_set (FunctionAt k) (i + 1) bs (tick w)) (quiet (Work 1) w refl) (set_go (FunctionAt k) (i + 1) bs (tick w) tt)
set_go (Pointer o j) i (b ∷ bs) w h =
    let c : List Cell = cells_of 1 (Number b) in
    let v : World = pass (Put o (j + i) c) w in
    on w (tick v) (bytes_set (Pointer o j) (i + 1) bs (tick v)) (along_two IsOfHeap (Put o (j + i) c) (Work 1) w h tt)
    (set_go (Pointer o j) (i + 1) bs (tick v) (writable_stays w.objects v.objects o (put_stays w o (j + i) c) h))

tested_go : (n : ℕ) (p : Value) (i : ℕ) (w : World) (f : Unit {0} → World → Outcome (Unit {0})) → G w (world_after (f tt w)) → G w (world_after (and_then (writable n p i w) f))
tested_go zero p i w f q = q
tested_go (suc n) p i w f q = unless_on (store_rule w.objects p i 1) (access_breach p i 1 w) (writable n p (i + 1)) f w (λ e. tested_go n p (i + 1) w f q)

pub written_goes : (p : Value) (i : ℕ) (bs : List ℕ) (w : World) → G w (world_after (bytes_written p i bs w))
written_goes p i [] w = here w
written_goes p i (b ∷ bs) w =
    let f : Unit {0} → World → Outcome (Unit {0}) = λ _ w. went (bytes_set p i (b ∷ bs) w) in
    unless_on (store_rule w.objects p i 1) (access_breach p i 1 w) (writable (length bs) p (i + 1)) f w (λ e. tested_go (length bs) p (i + 1) w f (set_go p i (b ∷ bs) w (store_at w p i e)))

-- blocks
abbrev pub BlockAt : List Object → Value → Type 0
BlockAt objects (Number n) = Unit {0}
BlockAt objects (FunctionAt k) = Unit {0}
BlockAt objects (Pointer o i) = IsBlock objects o

no_block : (live heap place : Bool) → not (live && heap && place) ≡ false → (live ≡ true) × (heap ≡ true)
no_block true true place h = (refl, refl)
no_block true false place h = absurd (cc)
no_block false heap place h = absurd (cc)

is_block : (objects : List Object) (o i : ℕ) (x : Option Object) → object_at objects o ≡ x → of_object true (λ b. tests.is_no_block b.live b.kind 0 i) x ≡ false → IsBlock objects o
is_block objects o i None e h = absurd (cc)
is_block objects o i (Some b) e h = let q = no_block b.live (tests.is_heap b.kind) (i == 0) h in (b, e, q.0, q.1)

free_passed : (unallocated : Bool) → orders.free unallocated ≡ None → unallocated ≡ false
free_passed true h = absurd (cc)
free_passed false h = refl

block_at : (objects : List Object) (p : Value) → free_rule objects p ≡ None → BlockAt objects p
block_at objects (Number n) h = tt
block_at objects (FunctionAt k) h = tt
block_at objects (Pointer o i) h = is_block objects o i (object_at objects o) refl (free_passed (of_object true (λ b. tests.is_no_block b.live b.kind 0 i) (object_at objects o)) h)

block_on : (old new : List Object) (p : Value) → Stays old new → BlockAt old p → BlockAt new p
block_on old new (Number n) s h = tt
block_on old new (FunctionAt k) s h = tt
block_on old new (Pointer o i) s h = block_stays old new o s h

given_go : (p : Value) (size : ℕ) (w : World) → BlockAt w.objects p → G w (given p size w)
given_go (Number n) size w h = here w
given_go (FunctionAt k) size w h = here w
given_go (Pointer o i) size w h = along_two IsOfHeap (Death o) (Give (class_of size)) w h tt

back_go : (p : Value) (w : World) → BlockAt w.objects p → G w (given_back p w)
back_go p w h = given_go p (block_size_at w p) w h

-- a new block, and what is done with it
module _ {B : Type 0} (n : ℕ) (f : Option ℕ → World → Outcome B) (old : List Object) (some : (o : ℕ) (v : World) → Stays old v.objects → IsWritable v.objects o → G v (world_after (f (Some o) v))) (none : (v : World) → G v (world_after (f None v))) where
  new_go : (full : Bool) (w : World) → Stays old w.objects → G w (world_after (and_then (and_then (if full then Over (BirthLimit w) else Done (length w.objects + 1) (pass (Birth n Heap Block) w)) (λ o w. Done (Some o) w)) f))
  new_go true w s = here w
  new_go false w s =
      let v : World = pass (Birth n Heap Block) w in
      let o : ℕ = length w.objects + 1 in
      on w v (world_after (f (Some o) v)) (along_one IsOfHeap (Birth n Heap Block) w refl)
      (some o v (stays_on old w.objects v.objects s (birth_stays w.objects (fresh n Heap))) (fresh n Heap, (born_new n Heap Block w).1, refl, refl))

  allocated_go : (w : World) → Stays old w.objects → G w (world_after (and_then (allocated n w) f))
  allocated_go w s = new_go (nat_le 4000000000 (length w.objects)) w s

  room_go : (full : Bool) (w : World) → Stays old w.objects → G w (world_after (and_then (either full (Done None) (λ w. allocated n (pass (TakeNew (block_size (class_of n))) w)) w) f))
  room_go true w s = none w
  room_go false w s =
      let i : Item = TakeNew (block_size (class_of n)) in
      on w (pass i w) (world_after (and_then (allocated n (pass i w)) f)) (quiet i w refl) (allocated_go (pass i w) s)

  class_go : (there : Bool) (w : World) → Stays old w.objects → G w (world_after (and_then (either there (λ w. allocated n (pass (TakeFree (class_of n)) w)) (λ w. either (nat_lt w.heap (w.made + block_size (class_of n))) (Done None) (λ w. allocated n (pass (TakeNew (block_size (class_of n))) w)) w) w) f))
  class_go true w s =
      let i : Item = TakeFree (class_of n) in
      on w (pass i w) (world_after (and_then (allocated n (pass i w)) f)) (quiet i w refl) (allocated_go (pass i w) s)
  class_go false w s = room_go (nat_lt w.heap (w.made + block_size (class_of n))) w s

  pub taken_go : (w : World) → Stays old w.objects → G w (world_after (and_then (taken n w) f))
  taken_go w s = class_go (not (free_of w.free (class_of n) == 0)) w s

-- the heap's functions
pub malloc_goes : (n : ℕ) (w : World) → G w (world_after (malloc n w))
malloc_goes n w = either_go (n == 0) _ _ w (here w) (taken_go n (λ o w. gives (address_or_null o) w) w.objects (λ o v s h. here v) (λ v. here v) w (same_stays w.objects))

pub calloc_goes : (n m : ℕ) (w : World) → G w (world_after (calloc n m w))
calloc_goes n m w =
    either_go (n * m == 0 || nat_le (2 ^ 32) (n * m)) _ _ w (here w)
    (taken_go (n * m) (zeroed (n * m)) w.objects (λ o v s h. along_two IsOfHeap (Put o 0 (replicate (n * m) (Byte 0))) (Work (n * m)) v h tt) (λ v. here v) w (same_stays w.objects))

pub free_goes : (p : Value) (w : World) → G w (world_after (free p w))
free_goes p w =
    either_go (is_null p) _ _ w (here w) (unless_on (free_rule w.objects p) (block_breach p w) went (λ _ w. Done Nothing (given_back p w)) w (λ e. back_go p w (block_at w.objects p e)))

moved_go : (o n : ℕ) (p : Value) (k : ℕ) (w : World) → IsWritable w.objects o → BlockAt w.objects p → G w (given_back p (pass (Work k) (copy_at (Pointer o 0) 0 p 0 n w)))
moved_go o n (Number m) k w h b = quiet (Work k) w refl
moved_go o n (FunctionAt m) k w h b = quiet (Work k) w refl
moved_go o n (Pointer q j) k w h b =
    let c : Item = Copy o (0 + 0) q (j + 0) n in
    let v : World = pass (Work k) (pass c w) in
    on w v (given_back (Pointer q j) v) (along_two IsOfHeap c (Work k) w h tt)
    (back_go (Pointer q j) v (block_on w.objects v.objects (Pointer q j) (copy_stays w o (0 + 0) q (j + 0) n) b))

reallocated_goes : (p : Value) (n : ℕ) (w : World) → BlockAt w.objects p → G w (world_after (reallocated p n w))
reallocated_goes p n w b =
    either_go (n == 0) _ _ w (back_go p w b)
    (taken_go n (enlarged p n) w.objects (λ o v s h. moved_go o (min n (block_size_at v p)) p (2 * min n (block_size_at v p)) v h (block_on w.objects v.objects p s b)) (λ v. here v) w (same_stays w.objects))

pub realloc_goes : (p : Value) (n : ℕ) (w : World) → G w (world_after (realloc p n w))
realloc_goes p n w =
    either_go (is_null p) _ _ w (malloc_goes n w) (unless_on (free_rule w.objects p) (block_breach p w) went (λ _ w. reallocated p n w) w (λ e. reallocated_goes p n w (block_at w.objects p e)))

-- copies and fills
copy_go : (to from : Value) (n k : ℕ) (w : World) → write_rule w.objects to 0 n ≡ None → G w (pass (Work k) (copy_at to 0 from 0 n w))
copy_go (Number m) from n k w e = quiet (Work k) w refl
copy_go (FunctionAt m) from n k w e = quiet (Work k) w refl
copy_go (Pointer o i) (Number m) n k w e = quiet (Work k) w refl
copy_go (Pointer o i) (FunctionAt m) n k w e = quiet (Work k) w refl
copy_go (Pointer o i) (Pointer q j) n k w e = along_two IsOfHeap (Copy o (i + 0) q (j + 0) n) (Work k) w (write_writable w.objects o i 0 n e) tt

pub copied_goes : (to from : Value) (n : ℕ) (w : World) → G w (world_after (copied_bytes to from n w))
copied_goes to from n w = unless_go (write_rule w.objects to 0 n) _ _ w (λ e. copy_go to from n (2 * n) w e)

fill_go : (p : Value) (c n : ℕ) (w : World) → write_rule w.objects p 0 n ≡ None → G w (set_all p c n w)
fill_go (Number m) c n w e = here w
fill_go (FunctionAt m) c n w e = here w
fill_go (Pointer o i) c n w e = along_two IsOfHeap (Put o i (replicate n (Byte (c % 256)))) (Work n) w (write_writable w.objects o i 0 n e) tt

pub memset_goes : (p : Value) (c n : ℕ) (w : World) → G w (world_after (memset p c n w))
memset_goes p c n w = either_go (n == 0) _ _ w (here w) (unless_go (write_rule w.objects p 0 n) _ _ w (λ e. fill_go p c n w e))
