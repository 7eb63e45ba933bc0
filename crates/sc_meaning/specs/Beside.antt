-- Inside: plumbing, a representation, an invariant or a promise beside the claim (docs/TRUST.md).
-- What the machine that holds a run was told, and the memory in which it keeps the objects, where it has one. No definition of the meaning reads it.
use Rattle.std.specs.Prelude.{ℕ, zero, suc, ◌+◌, ◌-◌, ◌%◌, ◌^◌, Bool, true, false, nat_le, if◌then◌else◌, List, [], ◌∷◌, length, take, map, replicate, slice_get, Option, Some, None, option_map}
use Rattle.sc_base.specs.declared.key.Key.{Key}
use Rattle.sc_base.specs.declared.memory.Cell.{Cell as Stored}
use Rattle.sc_base.specs.declared.memory.Cell.TheVariants as stored
use Rattle.sc_base.specs.declared.memory.Kind.{Kind}
use Rattle.sc_base.specs.declared.memory.Kind.TheVariants as kind
use Rattle.sc_base.specs.declared.memory.Word.{Word}
use Rattle.sc_program.specs.declared.storage.StaticId.{StaticId}
use Rattle.sc_objects.specs.declared.objects.Obj.{Obj}
use Rattle.sc_objects.specs.Numbered.{object_of}
use Rattle.sc_objects.specs.Blocks.{Blocks, class_at, free_of, taken_block, taken_fresh, given}
use Rattle.sc_mem.specs.Flat.{Flat, fresh, place, written_at, put, with_birth, with_death}
use Rattle.sc_mem.specs.Safe.{Store}
use Rattle.sc_meaning.specs.Classes.{class_of}
use Rattle.sc_meaning.specs.Values.{Value, Number, FunctionAt, Pointer, Cell, Unwritten, Byte, Piece, same_key}

-- the functions by their numbers; the addresses of names; and the memory
pub record Beside : Type 0 where
  pub functions : List Key
  pub places : List (StaticId × ℕ)
  pub memory : Option Store

abbrev pub nothing_beside : Beside
nothing_beside = record { functions = []; places = []; memory = None }

-- ---- values as words

-- the address of a function's stub, of eight bytes each
abbrev pub stub_from : ℕ → List Key → Key → ℕ
stub_from at [] key = 0
stub_from at (k ∷ ks) key = if same_key k key then at else stub_from (at + 8) ks key

-- a place in an object is its address, tagged with the object; number 0, which no object has, is for words with the functions' tag that lead to none
abbrev pub place_word : ℕ → ℕ → Option Obj → Word
place_word id at (Some o) = record { bits = (o.base + at) % 2 ^ 32; tag = id }
place_word id at None = record { bits = at; tag = 4294967295 }

abbrev pub word_of : List Key → List Obj → Value → Word
word_of functions table (Number n) = record { bits = n; tag = 0 }
word_of functions table (FunctionAt key) = record { bits = stub_from 0x00010000 functions key; tag = 4294967295 }
word_of functions table (Pointer id at) = place_word id at (object_of table id)

abbrev pub piece_of : Word → ℕ → Stored
piece_of w k = stored.Frag w.bits w.tag k

abbrev pub stored_of : List Key → List Obj → Cell → Stored
stored_of functions table Unwritten = stored.Unwritten
stored_of functions table (Byte b) = stored.Byte b
stored_of functions table (Piece v k) = piece_of (word_of functions table v) k

-- ---- the heap's blocks

-- the block of a class that was freed last is taken, or else one more is made
abbrev pub block_or : ℕ → Blocks → Option ℕ → ℕ × Blocks
block_or k b (Some base) = (base, taken_block b base k (take (length (free_of b k) - 1) (free_of b k)))
block_or k b None = (b.used, taken_fresh b k)

abbrev pub last_free : Blocks → ℕ → Option ℕ
last_free b k = slice_get (free_of b k) (length (free_of b k) - 1)

abbrev pub block_for : Blocks → ℕ → ℕ × Blocks
block_for b n = block_or (class_of n) b (last_free b (class_of n))

abbrev pub given_class : Blocks → ℕ → Option ℕ → Blocks
given_class b at None = b
given_class b at (Some k) = given b at k

abbrev pub given_back : Blocks → ℕ → Blocks
given_back b at = given_class b at (class_at b at)

-- ---- changes of the memory

abbrev pub object : ℕ → Kind → ℕ → Obj
object size kind base = record { size = size; kind = kind; base = base; live = true }

-- an object is born at an address, or where there is none in a block of the heap
abbrev pub born_in : ℕ → Kind → Option ℕ → Store → Store
born_in size kind (Some base) m = record { flat = with_birth m.flat (object size kind base); blocks = m.blocks }
born_in size kind None m = let block : ℕ × Blocks = block_for m.blocks size in record { flat = with_birth m.flat (object size kind (0x10000000 + block.0)); blocks = block.1 }

-- one dies, and its block is given back
abbrev pub released_as : Blocks → ℕ → Kind → Blocks
released_as b at kind.Heap = given_back b (at - 0x10000000)
released_as b at _ = b

abbrev pub released : Blocks → Option Obj → Blocks
released b None = b
released b (Some o) = released_as b o.base o.kind

abbrev pub died_in : ℕ → Store → Store
died_in id m = record { flat = with_death m.flat id; blocks = released m.blocks (object_of m.flat.objects id) }

-- bytes are written into an object from an offset on
abbrev pub written_in : List Key → ℕ → List Cell → Flat → Option Obj → Flat
written_in functions at new m None = m
written_in functions at new m (Some o) = written_at m (place m (o.base + at) (length new)) (map (stored_of functions m.objects) new)

abbrev pub put_in : List Key → ℕ → ℕ → List Cell → Store → Store
put_in functions id at new m = record { flat = written_in functions at new m.flat (object_of m.flat.objects id); blocks = m.blocks }

-- compiled code stores a word, as far as memory goes
abbrev pub kept_in : ℕ → ℕ → Word → Store → Store
kept_in at size w m = record { flat = put m.flat at size w; blocks = m.blocks }

-- it puts one cell at an address
abbrev pub cell_kept_in : ℕ → Stored → Store → Store
cell_kept_in at x m = record { flat = written_at m.flat (place m.flat at 1) (x ∷ []); blocks = m.blocks }

-- where there is a memory
abbrev pub with_memory : (Store → Store) → Beside → Beside
with_memory f b = record b { memory = option_map f b.memory }

-- as a run begins
abbrev pub empty_memory : ℕ → ℕ → Store
empty_memory stack heap = record { flat = fresh stack heap; blocks = record { bytes = heap; used = 0; taken = []; free = replicate 29 [] } }
