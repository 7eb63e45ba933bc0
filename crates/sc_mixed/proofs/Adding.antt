-- Things that happen, but for what a machine keeps beside the world.
use Rattle.std.proofs.Common.{◌≡◌, ◌⊎◌, inl, inr, ℕ, List, [], ◌∷◌, ◌++◌, refl, ap, sym, ◌∙◌, Option, Some, None, option_map}
use Rattle.sc_base.specs.declared.key.Key.{Key}
use Rattle.sc_base.specs.declared.memory.Cell.{Cell as Stored}
use Rattle.sc_base.specs.declared.memory.Kind.{Kind}
use Rattle.sc_base.specs.declared.memory.Word.{Word}
use Rattle.sc_mem.specs.Flat.{Flat, place, written_at}
use Rattle.sc_mem.specs.Safe.{Store}
use Rattle.sc_mem.specs.Words.{cells_of}
use Rattle.sc_objects.specs.Blocks.{Blocks}
use Rattle.sc_objects.specs.declared.objects.Obj.{Obj}
use Rattle.sc_objects.specs.Numbered.{object_of}
use Rattle.sc_meaning.specs.Beside.{born_in, cell_kept_in, died_in, kept_in, put_in, written_in}
use Rattle.sc_meaning.specs.Values.{Cell}
use Rattle.sc_meaning.specs.Laws.{Leads as Happen}
use Rattle.sc_meaning.specs.World.{World, Item, Event, Enter, Leave, At, Out, Work, Begin, End, GoesOut, ComesBack, Declares, Happens, Birth, Death, Put, Copy, TakeFree, TakeNew, Give, Stack, Read, Seed, Push, Pop, OpenBlock, CloseBlock, Name, Unname, address, cells_at, pass, passed}
use Rattle.sc_meaning.proofs.Steps.{passed-append}
use Rattle.sc_mixed.specs.Adding.{Adds, bare, room_of, rooms}

-- no item but for its own part of it reads what is kept beside
bare_event : (e : Event) (w : World) → bare (pass (Happens e) w) ≡ bare (pass (Happens e) (bare w))
bare_event (Enter key home) w = refl
bare_event Leave w = refl
bare_event (At home line enter) w = refl
bare_event (Out byte) w = refl

bare_pass : (i : Item) (w : World) → bare (pass i w) ≡ bare (pass i (bare w))
bare_pass (Work n) w = refl
bare_pass Begin w = refl
bare_pass End w = refl
bare_pass GoesOut w = refl
bare_pass ComesBack w = refl
bare_pass (Declares id) w = refl
bare_pass (Happens e) w = bare_event e w
bare_pass (Birth size kind at) w = refl
bare_pass (Death id) w = refl
bare_pass (Put id at new) w = refl
bare_pass (Copy to at from off n) w = refl
bare_pass (TakeFree k) w = refl
bare_pass (TakeNew size) w = refl
bare_pass (Give k) w = refl
bare_pass (Stack n) w = refl
bare_pass Read w = refl
bare_pass (Seed n) w = refl
bare_pass (Push f) w = refl
bare_pass Pop w = refl
bare_pass (OpenBlock b) w = refl
bare_pass CloseBlock w = refl
bare_pass (Name id o) w = refl
bare_pass (Unname id) w = refl

bare_passed : (is : List Item) (w : World) → bare (passed is w) ≡ bare (passed is (bare w))
bare_passed [] w = refl
bare_passed (i ∷ is) w = bare_passed is (pass i w) ∙ ap (λ (v : World). bare (passed is v)) (bare_pass i w) ∙ sym (bare_passed is (pass i (bare w)))

-- ---- memory stays as large as it is

cells_room : (m : Flat) (blocks : Blocks) (at : Option ℕ) (part : List Stored) → room_of (record { flat = written_at m at part; blocks = blocks }) ≡ (m.heap, m.stack)
cells_room m blocks None part = refl
cells_room m blocks (Some i) part = refl

object_room : (functions : List Key) (at : ℕ) (new : List Cell) (m : Flat) (blocks : Blocks) (o : Option Obj) → room_of (record { flat = written_in functions at new m o; blocks = blocks }) ≡ (m.heap, m.stack)
object_room functions at new m blocks None = refl
object_room functions at new m blocks (Some o) = cells_room m blocks _ _

put_room : (functions : List Key) (id at : ℕ) (new : List Cell) (memory : Option Store) → option_map room_of (option_map (put_in functions id at new) memory) ≡ option_map room_of memory
put_room functions id at new None = refl
put_room functions id at new (Some m) = ap (λ (r : ℕ × ℕ). Some r) (object_room functions at new m.flat m.blocks (object_of m.flat.objects id))

born_room : (size : ℕ) (kind : Kind) (base : Option ℕ) (memory : Option Store) → option_map room_of (option_map (born_in size kind base) memory) ≡ option_map room_of memory
born_room size kind base None = refl
born_room size kind None (Some m) = refl
born_room size kind (Some base) (Some m) = refl

died_room : (id : ℕ) (memory : Option Store) → option_map room_of (option_map (died_in id) memory) ≡ option_map room_of memory
died_room id None = refl
died_room id (Some m) = refl

pub kept_room : (at size : ℕ) (word : Word) (memory : Option Store) → option_map room_of (option_map (kept_in at size word) memory) ≡ option_map room_of memory
kept_room at size word None = refl
kept_room at size word (Some m) = ap (λ (r : ℕ × ℕ). Some r) (cells_room m.flat m.blocks (place m.flat at size) (cells_of size word))

pub cell_room : (at : ℕ) (x : Stored) (memory : Option Store) → option_map room_of (option_map (cell_kept_in at x) memory) ≡ option_map room_of memory
cell_room at x None = refl
cell_room at x (Some m) = ap (λ (r : ℕ × ℕ). Some r) (cells_room m.flat m.blocks (place m.flat at 1) (x ∷ []))

pass_room : (i : Item) (w : World) → rooms (pass i w) ≡ rooms w
pass_room (Birth size kind at) w = born_room size kind (address w.beside.places w.used at) w.beside.memory
pass_room (Death id) w = died_room id w.beside.memory
pass_room (Put id at new) w = put_room w.beside.functions id at new w.beside.memory
pass_room (Copy to at from off n) w = put_room w.beside.functions to at (cells_at w.objects from off n) w.beside.memory
pass_room (Work n) w = refl
pass_room Begin w = refl
pass_room End w = refl
pass_room GoesOut w = refl
pass_room ComesBack w = refl
pass_room (Declares id) w = refl
pass_room (Happens e) w = refl
pass_room (TakeFree k) w = refl
pass_room (TakeNew size) w = refl
pass_room (Give k) w = refl
pass_room (Stack n) w = refl
pass_room Read w = refl
pass_room (Seed n) w = refl
pass_room (Push f) w = refl
pass_room Pop w = refl
pass_room (OpenBlock b) w = refl
pass_room CloseBlock w = refl
pass_room (Name id o) w = refl
pass_room (Unname id) w = refl

passed_room : (is : List Item) (w : World) → rooms (passed is w) ≡ rooms w
passed_room [] w = refl
passed_room (i ∷ is) w = passed_room is (pass i w) ∙ pass_room i w

-- ---- both

pub happened : (w v : World) → Happen w v → Adds w v
happened w v p = record { items = p.0; happens = ap bare p.1; room = ap rooms p.1 ∙ passed_room p.0 w }

pub aside : (w v : World) → bare v ≡ bare w → rooms v ≡ rooms w → Adds w v
aside w v is same = record { items = []; happens = is; room = same }

-- one thing happens, and something beside
pub beside_one : (i : Item) (w v : World) → bare v ≡ bare (pass i w) → rooms v ≡ rooms w → Adds w v
beside_one i w v is same = record { items = i ∷ []; happens = is; room = same }

pub on_adds : (w v u : World) → Adds w v → Adds v u → Adds w u
on_adds w v u p q = record {
  items = p.items ++ q.items;
  happens = q.happens ∙ bare_passed q.items v ∙ ap (λ (x : World). bare (passed q.items x)) p.happens ∙ sym (bare_passed q.items (passed p.items w)) ∙ ap bare (sym (passed-append p.items q.items w));
  room = q.room ∙ p.room;
}

pub adds_or : {A : Type 0} (w v : World) → A ⊎ Happen w v → A ⊎ Adds w v
adds_or w v (inl a) = inl a
adds_or w v (inr l) = inr (happened w v l)
