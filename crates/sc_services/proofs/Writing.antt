-- What is written one after another.
use Rattle.std.proofs.Common.{◌≡◌, ℕ, zero, suc, ◌+◌, ◌≤◌, ◌<◌, ◌==◌, Bool, true, false, IfOk, Result, Ok, Err, List, [], ◌∷◌, ◌++◌, length, map, take, slice_index_or, subst, sym, ap, refl, ◌∙◌, Option, Some, None, option_map, arith}
use Rattle.std.proofs.lemmas.List.{length-take, take_more, take_all}
use Rattle.std.specs.Prelude.{IfSome, IsSome, MatchOption}
use Rattle.sc_base.specs.declared.memory.Cell.{Cell as Stored}
use Rattle.sc_base.specs.declared.memory.Word.{Word}
use Rattle.sc_mem.specs.Flat.{aligned_place, raw_read}
use Rattle.sc_mem.specs.Words as words
use Rattle.sc_mem.specs.Safe.{Store}
use Rattle.sc_mem_store.specs.Living.{IsBare}
use Rattle.sc_meaning.specs.Beside.{kept_in, with_memory}
use Rattle.sc_meaning.specs.Values.{Cell, Value, cells_of}
use Rattle.sc_meaning.specs.World.{World, Put, pass}
use Rattle.sc_interp_world.specs.Putting.{PutsAt, IntoObject, BesideThem, PutsAll}
use Rattle.sc_interp_world.proofs.Putting.{puts_more}
use Rattle.sc_services.specs.Memory.{IsBareAt, StandsAt, has_bytes, read_at, read_in}
use Rattle.sc_mem_store.specs.Living.{IsLiveAt}
use Rattle.sc_services.specs.Writing.{Written, InObject, BesideAll, CellInObject, CellBeside, Writes, AreWritten, CanBeWritten, IsStoredBy, KeepsIfBeside, StoresAt, BesideObjects, InsideObject, OverItsEnd, StoresIfThere, written}

pub kept : (old new : World) → new ≡ old → Writes old new
kept old new e = record { bytes = []; are = e }

pub one_put : (id at offset : ℕ) (cells : List Cell) (old new : World) → IsLiveAt old.objects id offset → new ≡ pass (Put id at cells) old → Writes old new
one_put id at offset cells old new (o, there, lives, whole, inside) e = record { bytes = InObject id at cells ∷ []; are = ((o, there, lives), e) }

joined : (ps qs : List Written) (a b c : World) → AreWritten ps a b → AreWritten qs b c → AreWritten (ps ++ qs) a c
joined [] qs a b c e h = subst (λ (w : World). AreWritten qs w c) e h
joined (p ∷ ps) qs a b c (can, more) h = (can, joined ps qs (written p a) b c more h)

pub one_more : (a b c : World) → Writes a b → Writes b c → Writes a c
one_more a b c h k = record { bytes = h.bytes ++ k.bytes; are = joined h.bytes k.bytes a b c h.are k.are }

-- ---- single cells

put_writes : (at : ℕ) (x : Stored) (old new : World) → PutsAt at x old new → Writes old new
put_writes at x old new (IntoObject id offset c (o, there, lives, whole, inside) place is) = record { bytes = CellInObject id offset c at x ∷ []; are = ((o, there, lives), is) }
put_writes at x old new (BesideThem bare is) = record { bytes = CellBeside at x ∷ []; are = (bare, is) }

pub puts_write : (xs : List Stored) (at : ℕ) (old new : World) → PutsAll at xs old new → Writes old new
puts_write [] at old new is = kept old new is
puts_write (x ∷ xs) at old new (mid, one, rest) = one_more old mid new (put_writes at x old mid one) (puts_write xs (at + 1) mid new rest)

pub puts_none : (to n : ℕ) (xs : List Stored) (w : World) → n ≡ 0 → PutsAll to (take n xs) w w
puts_none to n xs w is = subst (λ (k : ℕ). PutsAll to (take k xs) w w) (sym is) refl

pub puts_turn : (to at n : ℕ) (xs : List Stored) (x : Stored) (first now new : World) → PutsAll to (take n xs) first now → at ≡ to + n → n < length xs → PutsAt at (slice_index_or xs n x) now new → PutsAll to (take (n + 1) xs) first new
puts_turn to at n xs x first now new before is within one =
    let size : length (take n xs) ≡ n = simp length-take (omega arith) in
    subst (λ (ys : List Stored). PutsAll to ys first new) (sym (take_more xs n x within)) (puts_more (take n xs) to at (slice_index_or xs n x) first now new (omega (arith, is, size)) before one)

pub puts_done : (to n : ℕ) (xs : List Stored) (first now : World) → PutsAll to (take n xs) first now → length xs ≤ n → PutsAll to xs first now
puts_done to n xs first now h l = subst (λ (ys : List Stored). PutsAll to ys first now) (take_all n xs l) h

-- ---- beside all objects

can_read_at : {A B : Type 0} (place : Option A) (f : A → B) → IsSome place → IsSome (option_map f place)
can_read_at None f there = there
can_read_at (Some i) f there = refl

can_read : (memory : Option Store) (at n : ℕ) → MatchOption memory ⊥ (λ m. IsSome (aligned_place m.flat at n) × IsBare m.flat.objects at) → IsSome (read_in memory at n) × IfSome memory (λ m. IsBare m.flat.objects at)
can_read None at n there = absurd there
can_read (Some m) at n there = (can_read_at (aligned_place m.flat at n) _ there.0, there.1)

kept_if : (done : Option (Unit {0})) (at n : ℕ) (word : Word) (old new : World) → MatchOption done (new ≡ old) (λ _. new ≡ record old { beside = with_memory (kept_in at n word) old.beside })
    → IfSome done (λ _. MatchOption old.beside.memory ⊥ (λ m. IsSome (aligned_place m.flat at n) × IsBare m.flat.objects at)) → KeepsIfBeside done at n word old new
kept_if None at n word old new is there = is
kept_if (Some done) at n word old new is there = (can_read old.beside.memory at n there, is)

pub kept_beside : {E : Type 0} (result : Result (Option (Unit {0})) E) (at n : ℕ) (word : Word) (old new : World)
    → IfOk result (λ done. MatchOption done (new ≡ old) (λ _. new ≡ record old { beside = with_memory (kept_in at n word) old.beside }))
    → IfOk result (λ done. IfSome done (λ _. MatchOption old.beside.memory ⊥ (λ m. IsSome (aligned_place m.flat at n) × IsBare m.flat.objects at))) → IfOk result (λ done. KeepsIfBeside done at n word old new)
kept_beside (Ok done) at n word old new is there = kept_if done at n word old new is there
kept_beside (Err e) at n word old new is there = is

pub one_beside : (at n : ℕ) (word : Word) (old new : World) → CanBeWritten (BesideAll at n word) old → new ≡ written (BesideAll at n word) old → Writes old new
one_beside at n word old new can is = record { bytes = BesideAll at n word ∷ []; are = (can, is) }

-- ---- a store

pub stored_inside : {A E : Type 0} (result : Result A E) (at n many id offset : ℕ) (word : Word) (v : Value) (old new : World) → IsLiveAt old.objects id offset × StandsAt old id offset at → IsStoredBy (n == 4) word old v → many ≡ n
    → IfOk result (λ _. new ≡ pass (Put id offset (cells_of many v)) old) → IfOk result (λ _. StoresAt at n word old new)
stored_inside (Ok a) at n many id offset word v old new h k same is = InsideObject id offset v h.0 h.1 k (is ∙ ap (λ (m : ℕ). pass (Put id offset (cells_of m v)) old) same)
stored_inside (Err e) at n many id offset word v old new h k same is = is

pub stored_over : {A E : Type 0} (result : Result A E) (at n id offset : ℕ) (word : Word) (cells : List Stored) (old mid new : World) → StandsAt old id offset at × (has_bytes old.objects id offset n ≡ false) → cells ≡ words.cells_of n word → PutsAll at cells old mid → new ≡ mid → IfOk result (λ _. StoresAt at n word old new)
stored_over (Ok a) at n id offset word cells old mid new h same puts is =
    OverItsEnd id offset h.0 h.1 (subst (λ (w : World). PutsAll at (words.cells_of n word) old w) (sym is) (subst (λ (xs : List Stored). PutsAll at xs old mid) same puts))
stored_over (Err e) at n id offset word cells old mid new h same puts is = tt

pub stored_beside : (at n : ℕ) (word : Word) (old new : World) → CanBeWritten (BesideAll at n word) old × (new ≡ written (BesideAll at n word) old) → IsSome (read_at old at n) × StoresAt at n word old new
stored_beside at n word old new h = (h.0.0, BesideObjects h.0 h.1)

-- a store that comes behind nothing
pub stored_behind : {E : Type 0} (result : Result (Option (Unit {0})) E) (at n : ℕ) (word : Word) (old mid new : World) → mid ≡ old → IfOk result (λ done. StoresIfThere done at n word mid new) → IfOk result (λ done. StoresIfThere done at n word old new)
stored_behind result at n word old mid new is h = subst (λ (w : World). IfOk result (λ done. StoresIfThere done at n word w new)) is h

-- what a store writes
pub stores_write : (at n : ℕ) (word : Word) (old new : World) → StoresAt at n word old new → Writes old new
stores_write at n word old new (BesideObjects can is) = one_beside at n word old new can is
stores_write at n word old new (InsideObject id offset v h k s is) = one_put id offset offset (cells_of n v) old new h is
stores_write at n word old new (OverItsEnd id offset k few h) = puts_write (words.cells_of n word) at old new h

pub stored_so : (what : Option (Unit {0})) (u : Unit {0}) (at n : ℕ) (word : Word) (old new : World) → what ≡ Some u → StoresIfThere what at n word old new → Writes old new
stored_so what u at n word old new is h =
    let k : IsSome (read_at old at n) × StoresAt at n word old new = subst (λ (d : Option (Unit {0})). StoresIfThere d at n word old new) is h in
    stores_write at n word old new k.1
