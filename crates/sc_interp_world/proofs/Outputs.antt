-- The bytes that one item more writes, its work, and the bytes that it moves.
use Rattle.std.proofs.Common.{◌≡◌, ℕ, ◌+◌, arith, refl, List, [], ◌∷◌, ◌++◌, ap, sym, ◌∙◌}
use Rattle.std.proofs.lemmas.List.{append-nil, append_assoc}
use Rattle.sc_meaning.specs.World.{Item, Work, work, work_of}
use Rattle.sc_interp_world.specs.Outputs.{output, written_by, bytes_moved, moves_of}

pub output_last : (is : List Item) (i : Item) → output (is ++ i ∷ []) ≡ output is ++ written_by i
output_last [] i = append-nil (written_by i)
output_last (x ∷ is) i = ap (λ bytes. written_by x ++ bytes) (output_last is i) ∙ sym (append_assoc (written_by x) (output is) (written_by i))

-- from behind: a + (b + c) with the new part last
pub sum_last : (f : Item → ℕ) (total : List Item → ℕ) → (total [] ≡ 0) → ((x : Item) (is : List Item) → total (x ∷ is) ≡ f x + total is)
    → (is : List Item) (i : Item) → total (is ++ i ∷ []) ≡ total is + f i
sum_last f total none more [] i = more i [] ∙ ap (λ n. f i + n) none ∙ omega arith ∙ ap (λ n. n + f i) (sym none)
sum_last f total none more (x ∷ is) i = more x (is ++ i ∷ []) ∙ ap (λ n. f x + n) (sum_last f total none more is i) ∙ omega arith ∙ ap (λ n. n + f i) (sym (more x is))

pub work_last : (is : List Item) (i : Item) → work (is ++ i ∷ []) ≡ work is + work_of i
work_last is i = sum_last work_of work refl (λ x is. refl) is i

pub bytes_moved_last : (is : List Item) (i : Item) → bytes_moved (is ++ i ∷ []) ≡ bytes_moved is + moves_of i
bytes_moved_last is i = sum_last moves_of bytes_moved refl (λ x is. refl) is i

-- work alone writes nothing and moves nothing
pub output_worked : (is : List Item) (n : ℕ) → output (is ++ Work n ∷ []) ≡ output is
output_worked is n = output_last is (Work n) ∙ append-nil (output is)

pub bytes_moved_worked : (is : List Item) (n : ℕ) → bytes_moved (is ++ Work n ∷ []) ≡ bytes_moved is
bytes_moved_worked is n = bytes_moved_last is (Work n) ∙ omega arith
