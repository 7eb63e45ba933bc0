-- Machine: the program once more; a theorem ties it to a yardstick (docs/TRUST.md).
-- The code of an automatic object's initialiser (ANSI 3.5.7), piece by piece in the order of offsets.
use Rattle.std.specs.Prelude.{ℕ, ◌+◌, ◌%◌, ◌^◌, ◌==◌, if◌then◌else◌, List, [], ◌∷◌, ◌++◌, flat_map, pos, negsuc}
use Rattle.sc_isa.specs.declared.instruction.Instr.TheVariants.{Branch, Store}
use Rattle.sc_isa.specs.declared.instruction.BranchOp.TheVariants.{Bne}
use Rattle.sc_isa.specs.declared.instruction.StoreOp.TheVariants.{Sb}
use Rattle.sc_core.specs.declared.statement.AutoInit.{AutoInit}
use Rattle.sc_core.specs.declared.statement.AutoInit.TheVariants as piece
use Rattle.sc_types.specs.declared.ctype.CType.{CType}
use Rattle.sc_core.specs.declared.expression.CoreExpr.{CoreExpr}
use Rattle.sc_gen_code.specs.declared.symbolic.Symbolic.TheVariants.{Plain}
use Rattle.sc_gen_code.specs.declared.symbolic.Access.TheVariants as access
use Rattle.sc_gen_code.specs.Code.{Code, x0, t1, t2, a0, a1, addi, mv, li, near, copied}
use Rattle.sc_gen_code.specs.Operators.{machine_type, store_of}
use Rattle.sc_gen_code.specs.Styles.{framed}
use Rattle.sc_gen_body.specs.Frames.{Frame, value}

-- so many bytes behind a place; offsets are numbers of 32 bits
abbrev pub place_behind : ℕ → ℕ → ℕ
place_behind at n = (at + n) % 2 ^ 32

-- the bytes of a string, one by one
abbrev pub text_bytes : ℕ → List ℕ → Code
text_bytes at [] = []
text_bytes at (b ∷ bs) = li a0 b ++ (near at (access.Store Sb a0) ++ text_bytes (place_behind at 1) bs)

-- bytes without items are zero, which a loop writes one by one
abbrev pub zero_bytes : ℕ → ℕ → Code
zero_bytes at n =
    if n == 0 then [] else
    near at (access.Address t1) ++ (near (place_behind at n) (access.Address t2)
    ++ Plain (Store Sb x0 t1 (pos 0)) ∷ addi t1 t1 (pos 1) ∷ Plain (Branch Bne t1 t2 (negsuc 7)) ∷ [])

-- the scalar at an offset takes a value
abbrev pub value_piece : Frame → ℕ → CType → CoreExpr → Code
value_piece f at t e = value f e ++ framed f.style (access.Store (store_of (machine_type t)) a0) at

-- the object takes what a structure holds
abbrev pub structure_piece : Frame → ℕ → ℕ → CoreExpr → Code
structure_piece f at size e = value f e ++ (mv a1 a0 ∷ near at (access.Address a0) ++ copied size)

abbrev pub piece_code : Frame → ℕ → AutoInit → Code
piece_code f at (piece.Value n t e) = value_piece f (place_behind at n) t e
piece_code f at (piece.Text n bytes) = text_bytes (place_behind at n) bytes
piece_code f at (piece.Zero n count) = zero_bytes (place_behind at n) count
piece_code f at (piece.Structure size e) = structure_piece f at size e

abbrev pub pieces_code : Frame → ℕ → List AutoInit → Code
pieces_code f at ps = flat_map (piece_code f at) ps
