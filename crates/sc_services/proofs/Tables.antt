-- What is written changes no table of objects, so values keep their words.
use Rattle.std.proofs.Common.{◌≡◌, ℕ, List, [], ◌∷◌, refl, ap, sym, subst, ◌∙◌, Option, Some, None, IfSome, option_map}
use Rattle.sc_base.specs.declared.key.Key.{Key}
use Rattle.sc_base.specs.declared.memory.Cell.{Cell as Stored}
use Rattle.sc_base.specs.declared.memory.Word.{Word}
use Rattle.sc_emu.specs.Registers.{Registers}
use Rattle.sc_mem.specs.Flat.{Flat, place, put, written_at}
use Rattle.sc_mem.specs.Safe.{Store}
use Rattle.sc_mem.specs.Words.{cells_of}
use Rattle.sc_objects.specs.declared.objects.Obj.{Obj}
use Rattle.sc_objects.specs.Numbered.{object_of}
use Rattle.sc_meaning.specs.Beside.{cell_kept_in, kept_in, put_in, word_of, written_in}
use Rattle.sc_meaning.specs.Values.{Cell, Value}
use Rattle.sc_meaning.specs.World.{World}
use Rattle.sc_services.specs.Arguments.{IsWordOf, PutsOne}
use Rattle.sc_services.specs.Memory.{table_of}
use Rattle.sc_services.specs.Writing.{Written, InObject, BesideAll, CellInObject, CellBeside, AreWritten, Writes, written}

abbrev tables : World → Option (List Obj)
tables w = option_map table_of w.beside.memory

cells_alone : (m : Flat) (at : Option ℕ) (part : List Stored) → (written_at m at part).objects ≡ m.objects
cells_alone m None part = refl
cells_alone m (Some i) part = refl

object_alone : (functions : List Key) (at : ℕ) (new : List Cell) (m : Flat) (o : Option Obj) → (written_in functions at new m o).objects ≡ m.objects
object_alone functions at new m None = refl
object_alone functions at new m (Some o) = cells_alone m _ _

put_alone : (functions : List Key) (id at : ℕ) (new : List Cell) (memory : Option Store) → option_map table_of (option_map (put_in functions id at new) memory) ≡ option_map table_of memory
put_alone functions id at new None = refl
put_alone functions id at new (Some m) = ap (λ (t : List Obj). Some t) (object_alone functions at new m.flat (object_of m.flat.objects id))

kept_alone : (at size : ℕ) (word : Word) (memory : Option Store) → option_map table_of (option_map (kept_in at size word) memory) ≡ option_map table_of memory
kept_alone at size word None = refl
kept_alone at size word (Some m) = ap (λ (t : List Obj). Some t) (cells_alone m.flat (place m.flat at size) (cells_of size word))

cell_alone : (at : ℕ) (x : Stored) (memory : Option Store) → option_map table_of (option_map (cell_kept_in at x) memory) ≡ option_map table_of memory
cell_alone at x None = refl
cell_alone at x (Some m) = ap (λ (t : List Obj). Some t) (cells_alone m.flat (place m.flat at 1) (x ∷ []))

one_alone : (p : Written) (w : World) → ((written p w).beside.functions ≡ w.beside.functions) × (tables (written p w) ≡ tables w)
one_alone (InObject id offset cells) w = (refl, put_alone w.beside.functions id offset cells w.beside.memory)
one_alone (BesideAll at size word) w = (refl, kept_alone at size word w.beside.memory)
one_alone (CellInObject id offset byte at cell) w = (refl, cell_alone at cell w.beside.memory)
one_alone (CellBeside at cell) w = (refl, cell_alone at cell w.beside.memory)

all_alone : (ps : List Written) (w v : World) → AreWritten ps w v → (v.beside.functions ≡ w.beside.functions) × (tables v ≡ tables w)
all_alone [] w v is = (ap (λ (u : World). u.beside.functions) is, ap tables is)
all_alone (p ∷ ps) w v (can, more) =
    let one = one_alone p w in
    let rest = all_alone ps (written p w) v more in
    (rest.0 ∙ one.0, rest.1 ∙ one.1)

-- the word of a value is the same before
pub same_word : (w v : World) (k : ℕ) (x : Value) (r s : Registers) → Writes w v → PutsOne v k x r s → PutsOne w k x r s
same_word w v k x r s writes (word, (stands, is), puts) =
    let same = all_alone writes.bytes w v writes.are in
    (word, (stands, subst (λ (fs : List Key). IfSome (tables w) (λ t. word ≡ word_of fs t x)) same.0 (subst (λ (o : Option (List Obj)). IfSome o (λ t. word ≡ word_of v.beside.functions t x)) same.1 is)), puts)
