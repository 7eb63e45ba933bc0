-- The frames that a token closes, one at a time.
use Rattle.std.proofs.Common.{◌≡◌, ℕ, ◌≤◌, ◌<◌, Bool, true, false, cond, List, [], ◌∷◌, refl, arith}
use Rattle.std.specs.Prelude.{nat_le, nat_lt, max, ◌+◌}
use Rattle.std.proofs.lemmas.Bool.Decides.{nat_tests}
use Rattle.std.proofs.lemmas.Bool.{le-leb}
use Rattle.sc_parse_grammar.specs.declared.operand.Operand.{Operand}
use Rattle.sc_parse_grammar.specs.declared.frame.Frame.{Frame}
use Rattle.sc_parse_grammar.specs.declared.frame.Frame.TheVariants as f
use Rattle.sc_parse_grammar.specs.Nodes.{higher}
use Rattle.sc_parse_grammar.specs.Machine.{settle, level_in, level_on, built}

pub settles_on : (p : ℕ) (frame : Frame) (fs : List Frame) (x : Operand) → p ≤ level_in frame → settle p (frame ∷ fs) x ≡ settle p fs (built frame x)
settles_on p frame fs x w = let yes : nat_le p (level_in frame) ≡ true = le-leb _ _ w in rw yes refl

pub settle_ends : (p : ℕ) (fs : List Frame) (x : Operand) → level_on fs < p → settle p fs x ≡ (fs, x)
settle_ends p [] x w = refl
settle_ends p (frame ∷ fs) x w = let no : nat_le p (level_in frame) ≡ false = grind (arith, nat_tests) in rw no refl

higher-high : (n : ℕ) → 200 < n → 200 < higher n
higher-high n w = go (nat_lt n 201)
  where
    go : (b : Bool) → 200 < cond b (n + 1) n
    go true = omega arith
    go false = w

built-high : (frame : Frame) (x : Operand) → 200 < x.height → 200 < (built frame x).height
built-high (f.Unary l op) x w = higher-high _ w
built-high (f.SizeOf l) x w = higher-high _ w
built-high (f.Cast l type) x w = higher-high _ w
built-high (f.Binary a op) x w = higher-high (max a.height x.height) (omega arith)
built-high (f.Else a b) x w = higher-high (max (max a.height b.height) x.height) (omega arith)
built-high (f.Assign a op) x w = higher-high (max a.height x.height) (omega arith)
built-high (f.Comma a) x w = higher-high (max a.height x.height) (omega arith)
built-high _ x w = w

-- What is too high stays so.
pub settle_high : (p : ℕ) (fs : List Frame) (x : Operand) → 200 < x.height → 200 < (settle p fs x).1.height
settle_high p [] x w = w
settle_high p (frame ∷ fs) x w = go (nat_le p (level_in frame)) (settle_high p fs (built frame x) (built-high frame x w))
  where
    go : (b : Bool) → 200 < (settle p fs (built frame x)).1.height → 200 < (cond b (settle p fs (built frame x)) (frame ∷ fs, x)).1.height
    go true h = h
    go false h = w
