-- The room of the first operands, and of each one.
use Rattle.std.proofs.Common.{◌≡◌, ℕ, zero, suc, ◌+◌, ◌≤◌, ◌<◌, List, [], ◌∷◌, map, take, length, slice_index_or, arith, add-one, sym, subst}
use Rattle.std.specs.Prelude.{max}
use Rattle.sc_tree.specs.declared.expression.Expr.{Expr}
use Rattle.sc_tree.specs.Room.{room_of, in_order}

one_more : (h : ℕ) (xs : List Expr) (i : ℕ) (d : Expr) → i < length xs →
    in_order h (map room_of (take (suc i) xs)) ≡ max (in_order h (map room_of (take i xs))) (room_of (slice_index_or xs i d) + h + i)
one_more h [] i d p = absurd (omega arith)
one_more h (x ∷ xs) zero d p = omega arith
one_more h (x ∷ xs) (suc i) d p =
    let rest : in_order (h + 1) (map room_of (take (suc i) xs)) ≡ max (in_order (h + 1) (map room_of (take i xs))) (room_of (slice_index_or xs i d) + (h + 1) + i) = one_more (h + 1) xs i d (omega arith) in
    omega (arith, rest)

-- one operand more
taken : (h : ℕ) (xs : List Expr) (i : ℕ) (d : Expr) → i < length xs →
    in_order h (map room_of (take (i + 1) xs)) ≡ max (in_order h (map room_of (take i xs))) (room_of (slice_index_or xs i d) + h + i)
taken h xs i d p = rw (add-one i) (one_more h xs i d p)

-- each operand is within the room of all
within : (h : ℕ) (xs : List Expr) (i : ℕ) (d : Expr) → i < length xs → room_of (slice_index_or xs i d) + h + i ≤ in_order h (map room_of xs)
within h [] i d p = absurd (omega arith)
within h (x ∷ xs) zero d p = omega arith
within h (x ∷ xs) (suc i) d p =
    let rest : room_of (slice_index_or xs i d) + (h + 1) + i ≤ in_order (h + 1) (map room_of xs) = within (h + 1) xs i d (omega arith) in
    omega (arith, rest)

-- The same where the operand was read from the list, and then from its handle.
pub taken_at : (xs : List Expr) (i : ℕ) (x y : Expr) → i < length xs → x ≡ slice_index_or xs i x → y ≡ x →
    in_order 1 (map room_of (take (i + 1) xs)) ≡ max (in_order 1 (map room_of (take i xs))) (room_of y + 1 + i)
taken_at xs i x y p is same =
    let P : Expr → Type 0 = λ z. in_order 1 (map room_of (take (i + 1) xs)) ≡ max (in_order 1 (map room_of (take i xs))) (room_of z + 1 + i) in
    subst P (sym same) (subst P (sym is) (taken 1 xs i x p))

pub within_at : (xs : List Expr) (i : ℕ) (x y : Expr) → i < length xs → x ≡ slice_index_or xs i x → y ≡ x → room_of y + 1 + i ≤ in_order 1 (map room_of xs)
within_at xs i x y p is same =
    let P : Expr → Type 0 = λ z. room_of z + 1 + i ≤ in_order 1 (map room_of xs) in
    subst P (sym same) (subst P (sym is) (within 1 xs i x p))
