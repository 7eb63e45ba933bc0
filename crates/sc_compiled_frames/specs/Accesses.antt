-- Inside: plumbing, a representation, an invariant or a promise beside the claim (docs/TRUST.md).
-- Loads and stores of scalars, and numbers of a type.
use Rattle.std.specs.Prelude.{◌≡◌, ⊤, ℕ, ◌^◌, ◌<◌, true, false, List, Some}
use Rattle.sc_base.specs.declared.integer.Int.{Int}
use Rattle.sc_base.specs.declared.key.Key.{Key}
use Rattle.sc_base.specs.declared.memory.Word.{Word}
use Rattle.sc_isa.specs.declared.instruction.LoadOp.{LoadOp}
use Rattle.sc_types.specs.declared.ctype.CType.{CType}
use Rattle.sc_types.specs.declared.ctype.CType.TheOpen.{CType-F}
use Rattle.sc_types.specs.declared.ctype.Signature.{Signature}
use Rattle.sc_ops.specs.Numbers.{converted}
use Rattle.sc_emu.specs.Operations.{load_size, loaded, plain}
use Rattle.sc_mem.specs.Flat.{Flat, aligned_place}
use Rattle.sc_meaning.specs.Values.{Value, Number, FunctionAt, Pointer, int_of, layer_int, layer_is_pointer, layer_size}
use Rattle.sc_meaning.specs.World.{Object}
use Rattle.sc_compiled_frames.specs.Words.{HeldWords}

-- An instruction reads scalars of a type: as many bytes; the register gets a number as one of the type, and a pointer as it stands.
pub record Reads (op : LoadOp) (l : CType-F CType Signature) : Type 0 where
  pub size : load_size op ≡ layer_size l
  pub number : (n : ℕ) → n < 256 ^ layer_size l → layer_is_pointer l ≡ false → loaded op (plain n) ≡ plain (converted n (layer_int l))
  pub word : (x : Word) → layer_is_pointer l ≡ true → loaded op x ≡ x

-- a number of a type is one of its range
abbrev pub IsNumberOf : Int → Value → Type 0
IsNumberOf i (Number n) = converted n i ≡ n
IsNumberOf i (FunctionAt k) = ⊤
IsNumberOf i (Pointer o at) = ⊤

abbrev pub IsCanonical : CType → Value → Type 0
IsCanonical t v = IsNumberOf (int_of t) v

-- What a store of n bytes at an address did: it stood in an area, the tables of objects and the areas are as they were, and memory holds the
-- objects behind it.
pub record Stores (functions : List Key) (m new : Flat) (address n : ℕ) (objects : List Object) : Type 0 where
  pub at : ℕ
  pub there : aligned_place m address n ≡ Some at
  pub table : new.objects ≡ m.objects
  pub stack : new.stack ≡ m.stack
  pub holds : HeldWords functions new objects
