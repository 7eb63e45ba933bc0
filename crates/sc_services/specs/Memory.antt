-- Yardstick: to be compared with what it restates (docs/TRUST.md).
-- The memory of a run as compiled code reads it, without a test.
use Rattle.std.specs.Prelude.{◌≡◌, ℕ, ◌+◌, nat_le, Bool, List, Option, Some, None, IfSome, option_map}
use Rattle.sc_base.specs.declared.memory.Word.{Word}
use Rattle.sc_mem.specs.Flat.{raw_read}
use Rattle.sc_mem.specs.Safe.{Store}
use Rattle.sc_mem_store.specs.Holding.{value_at}
use Rattle.sc_mem_store.specs.Living.{IsBare, IsByteOf}
use Rattle.sc_objects.specs.declared.objects.Obj.{Obj}
use Rattle.sc_meaning.specs.Beside.{word_of}
use Rattle.sc_meaning.specs.Values.{Value}
use Rattle.sc_meaning.specs.World.{World, Object, object_at}

-- What a load of n bytes gives: a word exactly where they lie in the static area, in the heap or in the stack, at a multiple of n. A run
-- without a memory has none.
abbrev pub read_in : Option Store → ℕ → ℕ → Option Word
read_in None at n = None
read_in (Some m) at n = raw_read m.flat at n

abbrev pub read_at : World → ℕ → ℕ → Option Word
read_at w at n = read_in w.beside.memory at n

-- the value of a word, by the functions' numbers and the places of objects
abbrev pub IsValueAt : World → Word → Value → Type 0
IsValueAt w x v = IfSome w.beside.memory (λ m. v ≡ value_at w.beside.functions m.flat.objects x.tag x.bits)

-- the word of a value, by the same
abbrev pub table_of : Store → List Obj
table_of m = m.flat.objects

abbrev pub IsWordAt : World → Value → Word → Type 0
IsWordAt w v x = IfSome (option_map table_of w.beside.memory) (λ table. x ≡ word_of w.beside.functions table v)

-- this byte of a live object stands at an address; the byte there is no live object's
abbrev pub StandsAt : World → ℕ → ℕ → ℕ → Type 0
StandsAt w id offset at = IfSome w.beside.memory (λ m. IsByteOf m.flat.objects id offset at)

abbrev pub IsBareAt : World → ℕ → Type 0
IsBareAt w at = IfSome w.beside.memory (λ m. IsBare m.flat.objects at)

-- an object has this many bytes from an offset on
abbrev pub size_in : Option Object → ℕ
size_in None = 0
size_in (Some o) = o.size

abbrev pub has_bytes : List Object → ℕ → ℕ → ℕ → Bool
has_bytes objects id offset n = nat_le (offset + n) (size_in (object_at objects id))
