-- The bytes of a value, one by one.
use Rattle.std.proofs.Common.{◌≡◌, ℕ, zero, suc, ◌+◌, ◌<◌, ◌≤◌, List, [], ◌∷◌, ◌++◌, length, refl, arith}
use Rattle.sc_base.specs.declared.key.Key.{Key}
use Rattle.sc_meaning.specs.Values.{Value, Number, FunctionAt, Pointer, Cell, Piece, cells_of}

-- a value has as many bytes as are stored, up to four
pub length_of_cells : (v : Value) (k : ℕ) → k ≤ 4 → length (cells_of k v) ≡ k
length_of_cells (Number bits) zero l = refl
length_of_cells (Number bits) (suc zero) l = refl
length_of_cells (Number bits) (suc (suc zero)) l = refl
length_of_cells (Number bits) (suc (suc (suc zero))) l = refl
length_of_cells (Number bits) (suc (suc (suc (suc zero)))) l = refl
length_of_cells (Number bits) (suc (suc (suc (suc (suc k))))) l = absurd (omega (arith, l))
length_of_cells (FunctionAt key) zero l = refl
length_of_cells (FunctionAt key) (suc zero) l = refl
length_of_cells (FunctionAt key) (suc (suc zero)) l = refl
length_of_cells (FunctionAt key) (suc (suc (suc zero))) l = refl
length_of_cells (FunctionAt key) (suc (suc (suc (suc zero)))) l = refl
length_of_cells (FunctionAt key) (suc (suc (suc (suc (suc k))))) l = absurd (omega (arith, l))
length_of_cells (Pointer o i) zero l = refl
length_of_cells (Pointer o i) (suc zero) l = refl
length_of_cells (Pointer o i) (suc (suc zero)) l = refl
length_of_cells (Pointer o i) (suc (suc (suc zero))) l = refl
length_of_cells (Pointer o i) (suc (suc (suc (suc zero)))) l = refl
length_of_cells (Pointer o i) (suc (suc (suc (suc (suc k))))) l = absurd (omega (arith, l))

pub none_of : (v : Value) → cells_of 0 v ≡ []
none_of (Number bits) = refl
none_of (FunctionAt key) = refl
none_of (Pointer o i) = refl

-- byte k of a pointer is its piece k
pub function_more : (key : Key) (v w : Value) (k : ℕ) (c : Cell) → v ≡ FunctionAt key → w ≡ v → c ≡ Piece w k → k < 4 → cells_of (k + 1) v ≡ cells_of k v ++ c ∷ []
function_more key v w k c is same piece few = rw (piece, same, is) (by k few)
  where
    by : (k : ℕ) → k < 4 → cells_of (k + 1) (FunctionAt key) ≡ cells_of k (FunctionAt key) ++ Piece (FunctionAt key) k ∷ []
    by zero l = refl
    by (suc zero) l = refl
    by (suc (suc zero)) l = refl
    by (suc (suc (suc zero))) l = refl
    by (suc (suc (suc (suc k)))) l = absurd (omega (arith, l))

pub pointer_more : (o i : ℕ) (v w : Value) (k : ℕ) (c : Cell) → v ≡ Pointer o i → w ≡ v → c ≡ Piece w k → k < 4 → cells_of (k + 1) v ≡ cells_of k v ++ c ∷ []
pointer_more o i v w k c is same piece few = rw (piece, same, is) (by k few)
  where
    by : (k : ℕ) → k < 4 → cells_of (k + 1) (Pointer o i) ≡ cells_of k (Pointer o i) ++ Piece (Pointer o i) k ∷ []
    by zero l = refl
    by (suc zero) l = refl
    by (suc (suc zero)) l = refl
    by (suc (suc (suc zero))) l = refl
    by (suc (suc (suc (suc k)))) l = absurd (omega (arith, l))
