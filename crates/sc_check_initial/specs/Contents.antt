-- Yardstick: to be compared with what it restates (docs/TRUST.md).
-- The contents of an object of static storage duration (ANSI 3.5.7): its bytes in order.
use Rattle.std.specs.Prelude.{ℕ, zero, suc, ◌+◌, ◌-◌, min, List, [], ◌∷◌, ◌++◌, length, map, take, Option, Some, None, slice_get, Ok}
use Rattle.std.specs.Int.{w32, to_le_bytes}
use Rattle.sc_types.specs.declared.ctype.CType.{CType, out-CType}
use Rattle.sc_types.specs.declared.ctype.CType.TheOpen.{CType-F}
use Rattle.sc_types.specs.declared.ctype.StructDef.{StructDef}
use Rattle.sc_types.specs.Layouts.{int_size}
use Rattle.sc_program.specs.declared.storage.StaticId.{StaticId}
use Rattle.sc_program.specs.declared.storage.StaticId.TheVariants as id
use Rattle.sc_core.specs.declared.expression.CoreExpr.{CoreExpr}
use Rattle.sc_core.specs.declared.module.Init.{Init}
use Rattle.sc_core.specs.declared.module.Init.TheVariants as init
use Rattle.sc_core.specs.declared.statement.AutoInit.{AutoInit}
use Rattle.sc_core.specs.declared.statement.AutoInit.TheVariants as piece
use Rattle.sc_check_operand.specs.declared.addresses.Base.{Base}
use Rattle.sc_check_operand.specs.declared.addresses.Base.TheVariants as base
use Rattle.sc_check_operand.specs.declared.addresses.Located.{Located}
use Rattle.sc_check_operand.specs.Constants.{integer_constant}
use Rattle.sc_check_operand.specs.Addresses.{address_constant}
use Rattle.sc_check_operand.specs.Types.{object_size}
use Rattle.sc_check_scope.specs.Steps.{Checked, and_then, typing}
use Rattle.sc_check_initial.specs.declared.contents.Contents.{Contents}
use Rattle.sc_check_initial.specs.Values.{TypeLevel, no_constant}

-- so many zero bytes, as one piece
abbrev pub zero_bytes : ℕ → List Init
zero_bytes zero = []
zero_bytes (suc k) = init.Zeros (suc k) ∷ []

abbrev pub bytes : List ℕ → List Init
bytes = map (λ b. init.Byte b)

-- the low bytes of a number, the lowest first
abbrev pub number : ℕ → ℕ → List Init
number size n = bytes (take (min size 4) (to_le_bytes w32 n))

abbrev pub literal_of : ℕ → List ℕ → Option (List ℕ) → Checked (Option StaticId)
literal_of line home (Some text) = Ok (Some (id.Literal home text))
literal_of line home None = no_constant line

-- what an address is one of, of a module with these literals; none where it is null
abbrev pub identity : List ℕ → List (List ℕ) → ℕ → Base → Checked (Option StaticId)
identity home literals line base.Null = Ok None
identity home literals line (base.Static key) = Ok (Some (id.Named key))
identity home literals line (base.Function key) = Ok (Some (id.Named key))
identity home literals line (base.Literal n) = literal_of line home (slice_get literals n)

abbrev pub address_by : Option StaticId → ℕ → List Init
address_by (Some x) offset = init.Address x offset ∷ []
address_by None offset = zero_bytes 4

abbrev pub address : List ℕ → List (List ℕ) → ℕ → Located → Checked (List Init)
address home literals line place = and_then (identity home literals line place.base) (λ x. Ok (address_by x place.offset))

abbrev pub size_by : TypeLevel → ℕ
size_by (CType-F.Int k c) = int_size k
size_by _ = 4

abbrev pub constant_by : TypeLevel → List ℕ → List (List ℕ) → ℕ → CoreExpr → Checked (List Init)
constant_by (CType-F.Int k c) home literals line e = and_then (typing (integer_constant line e)) (λ v. Ok (number (int_size k) v.0))
constant_by _ home literals line e = and_then (typing (address_constant line e)) (λ place. address home literals line place)

abbrev pub scalar_size : CType → ℕ
scalar_size of = size_by (out-CType of)

-- a constant in the type of its place
abbrev pub constant : List ℕ → List (List ℕ) → ℕ → CType → CoreExpr → Checked (List Init)
constant home literals line of e = constant_by (out-CType of) home literals line e

-- the bytes of one more piece at an offset, with zero bytes before it where there are none
abbrev pub with_bytes : ℕ → ℕ → List Init → Contents → Contents
with_bytes at size more c = record { end = at + size; items = (c.items ++ zero_bytes (at - c.end)) ++ more }

abbrev pub one_piece : List ℕ → List (List ℕ) → ℕ → AutoInit → Contents → Checked Contents
one_piece home literals line (piece.Value at of e) c = and_then (constant home literals line of e) (λ more. Ok (with_bytes at (scalar_size of) more c))
one_piece home literals line (piece.Text at text) c = Ok (with_bytes at (length text) (bytes text) c)
one_piece home literals line (piece.Zero at n) c = Ok c
one_piece home literals line (piece.Structure size e) c = no_constant line

abbrev pub pieces : List ℕ → List (List ℕ) → ℕ → List AutoInit → Contents → Checked Contents
pieces home literals line [] c = Ok c
pieces home literals line (x ∷ xs) c = and_then (one_piece home literals line x c) (λ c. pieces home literals line xs c)

abbrev pub nothing : Contents
nothing = record { end = 0; items = [] }

-- the bytes of an object of this size with these pieces, which are in the order of offsets; the others are zero
abbrev pub contents : List ℕ → List (List ℕ) → ℕ → ℕ → List AutoInit → Checked (List Init)
contents home literals line size xs = and_then (pieces home literals line xs nothing) (λ c. Ok (c.items ++ zero_bytes (size - c.end)))

abbrev pub zeros_by : Option ℕ → List Init
zeros_by (Some size) = zero_bytes size
zeros_by None = []

-- the contents of an object without initialiser
abbrev pub zeros : List StructDef → CType → List Init
zeros structs of = zeros_by (object_size structs of)
