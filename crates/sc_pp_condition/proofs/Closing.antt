-- The frames that a term closes, one at a time.
use Rattle.std.proofs.Common.{◌≡◌, ℕ, ◌≤◌, ◌<◌, true, false, List, [], ◌∷◌, refl, arith}
use Rattle.std.specs.Prelude.{nat_le}
use Rattle.std.proofs.lemmas.Bool.Decides.{nat_tests}
use Rattle.std.proofs.lemmas.Bool.{le-leb}
use Rattle.sc_pp_condition.specs.declared.operand.Operand.{Operand}
use Rattle.sc_pp_condition.specs.declared.machine.Frame.{Frame}
use Rattle.sc_pp_condition.specs.declared.machine.Frame.TheVariants as f
use Rattle.sc_pp_condition.specs.Operators.{level_of}
use Rattle.sc_pp_condition.specs.Machine.{settle, level_in, level_on, built}

pub settles_on : (p : ℕ) (frame : Frame) (fs : List Frame) (x : Operand) (l : ℕ) → 0 < p → p ≤ level_in frame → settle p (frame ∷ fs) x l ≡ settle p fs (built frame x) (level_in frame)
settles_on p (f.Prefix op) fs x l h w = refl
settles_on p (f.Binary op a) fs x l h w = let yes : nat_le p (level_of op) ≡ true = le-leb _ _ w in rw yes refl
settles_on p (f.Else a b) fs x l h w = let yes : nat_le p 3 ≡ true = le-leb _ _ w in rw yes refl
settles_on p f.Paren fs x l h w = absurd (omega arith)
settles_on p (f.Then a) fs x l h w = absurd (omega arith)

pub settle_ends : (p : ℕ) (fs : List Frame) (x : Operand) (l : ℕ) → p ≤ 13 → level_on fs < p → settle p fs x l ≡ (fs, (x, l))
settle_ends p [] x l h w = refl
settle_ends p (f.Prefix op ∷ fs) x l h w = absurd (omega arith)
settle_ends p (f.Binary op a ∷ fs) x l h w = let no : nat_le p (level_of op) ≡ false = grind (arith, nat_tests) in rw no refl
settle_ends p (f.Else a b ∷ fs) x l h w = let no : nat_le p 3 ≡ false = grind (arith, nat_tests) in rw no refl
settle_ends p (f.Paren ∷ fs) x l h w = refl
settle_ends p (f.Then a ∷ fs) x l h w = refl
