-- Yardstick: to be compared with what it restates (docs/TRUST.md).
-- Values, and what a byte of an object holds (ANSI 3.1.2.5).
use Rattle.std.specs.Prelude.{ℕ, ◌+◌, ◌*◌, ◌/◌, ◌%◌, ◌==◌, ◌&&◌, Bool, true, false, if◌then◌else◌, List, [], ◌∷◌, take, map, Option, Some, None, ℤ, pos, negsuc}
use Rattle.std.specs.Str.{bytes_eq}
use Rattle.sc_base.specs.declared.integer.Int.{Int}
use Rattle.sc_base.specs.declared.integer.Int.TheVariants.{UInt}
use Rattle.sc_base.specs.declared.key.Key.{Key}
use Rattle.sc_types.specs.declared.ctype.CType.{CType, out-CType}
use Rattle.sc_types.specs.declared.ctype.CType.TheOpen.{CType-F}
use Rattle.sc_types.specs.declared.ctype.Signature.{Signature}
use Rattle.sc_types.specs.Layouts.{int_size}

-- A number of 32 bits, a function by its key, or a place in an object: the object's number and an offset in bytes.
-- Null is the number 0. The numbers of objects count from 1.
pub data Value : Type 0 where
  Number : ℕ → Value
  FunctionAt : Key → Value
  Pointer : ℕ → ℕ → Value

-- a byte that was never written, a byte of a number, or piece k of a pointer
pub data Cell : Type 0 where
  Unwritten : Cell
  Byte : ℕ → Cell
  Piece : Value → ℕ → Cell

abbrev pub null : Value
null = Number 0

-- external names have no module
abbrev pub same_module : Option (List ℕ) → Option (List ℕ) → Bool
same_module None None = true
same_module (Some a) (Some b) = bytes_eq a b
same_module _ _ = false

abbrev pub same_key : Key → Key → Bool
same_key a b = same_module a.«module» b.«module» && bytes_eq a.name b.name

abbrev pub same_value : Value → Value → Bool
same_value (Number a) (Number b) = a == b
same_value (FunctionAt k) (FunctionAt l) = same_key k l
same_value (Pointer o i) (Pointer p j) = (o == p) && (i == j)
same_value _ _ = false

-- how many bytes a scalar of the type has; 0 where the type is no scalar
abbrev pub layer_size : CType-F CType Signature → ℕ
layer_size (CType-F.Int i c) = int_size i
layer_size (CType-F.Pointer t c) = 4
layer_size _ = 0

abbrev pub scalar_size : CType → ℕ
scalar_size t = layer_size (out-CType t)

abbrev pub layer_is_pointer : CType-F CType Signature → Bool
layer_is_pointer (CType-F.Pointer t c) = true
layer_is_pointer _ = false

abbrev pub is_pointer_type : CType → Bool
is_pointer_type t = layer_is_pointer (out-CType t)

-- the integer type that a type is; what is no integer is an address of 32 bits
abbrev pub layer_int : CType-F CType Signature → Int
layer_int (CType-F.Int i c) = i
layer_int _ = UInt

abbrev pub int_of : CType → Int
int_of t = layer_int (out-CType t)

-- the four bytes of a number of 32 bits, the lowest first
abbrev pub bytes_of : ℕ → List ℕ
bytes_of bits = bits % 256 ∷ bits / 256 % 256 ∷ bits / 65536 % 256 ∷ bits / 16777216 % 256 ∷ []

-- the four pieces of a pointer
abbrev pub pieces_of : Value → List Cell
pieces_of p = Piece p 0 ∷ Piece p 1 ∷ Piece p 2 ∷ Piece p 3 ∷ []

-- the n bytes of a stored value
abbrev pub cells_of : ℕ → Value → List Cell
cells_of n (Number bits) = map Byte (take n (bytes_of bits))
cells_of n (FunctionAt k) = take n (pieces_of (FunctionAt k))
cells_of n (Pointer o i) = take n (pieces_of (Pointer o i))

abbrev pub byte_of : Cell → ℕ
byte_of Unwritten = 0
byte_of (Byte b) = b
byte_of (Piece p k) = 0

-- the number of some bytes, the lowest first
abbrev pub number_of_cells : List Cell → ℕ
number_of_cells [] = 0
number_of_cells (c ∷ cs) = byte_of c + 256 * number_of_cells cs

-- piece k of this pointer
abbrev pub is_piece : Value → ℕ → Cell → Bool
is_piece p k (Piece q j) = same_value p q && (j == k)
is_piece p k _ = false

-- the pointer whose four pieces the cells are in order
abbrev pub pointer_of_four : Cell → Cell → Cell → Cell → Option Value
pointer_of_four (Piece p k) b c d = if (k == 0) && is_piece p 1 b && is_piece p 2 c && is_piece p 3 d then Some p else None
pointer_of_four _ b c d = None

abbrev pub pointer_of : List Cell → Option Value
pointer_of (a ∷ b ∷ c ∷ d ∷ []) = pointer_of_four a b c d
pointer_of _ = None

abbrev pub or_number : Option Value → ℕ → Value
or_number (Some p) n = p
or_number None n = Number n

-- the value of some bytes: the pointer whose pieces they are, else their number
abbrev pub value_of_cells : List Cell → Value
value_of_cells cells = or_number (pointer_of cells) (number_of_cells cells)

-- the natural number of an integer that is not below 0
abbrev pub natural : ℤ → ℕ
natural (pos n) = n
natural (negsuc n) = 0
