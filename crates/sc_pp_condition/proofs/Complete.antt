-- The machine reads each expression of the grammar.
use Rattle.std.proofs.Common.{◌≡◌, ℕ, ◌≤◌, true, false, List, [], ◌∷◌, ◌++◌, Option, Some, refl, ◌∙◌, ap, arith, append_assoc}
use Rattle.std.specs.Prelude.{option_and_then, nat_lt, nat_le}
use Rattle.std.proofs.lemmas.Bool.Decides.{nat_tests}
use Rattle.std.proofs.lemmas.Bool.{le-leb}
use Rattle.sc_pp_condition.specs.declared.operand.Operand.{Operand}
use Rattle.sc_pp_condition.specs.declared.operator.Operator.{Operator}
use Rattle.sc_pp_condition.specs.declared.operator.Operator.TheVariants as o
use Rattle.sc_pp_condition.specs.declared.machine.Term.{Term}
use Rattle.sc_pp_condition.specs.declared.machine.Term.TheVariants as t
use Rattle.sc_pp_condition.specs.declared.machine.Frame.{Frame}
use Rattle.sc_pp_condition.specs.declared.machine.Frame.TheVariants as f
use Rattle.sc_pp_condition.specs.declared.machine.State.TheVariants as s
use Rattle.sc_pp_condition.specs.Operands.{leaf, prefixed, applied, chosen}
use Rattle.sc_pp_condition.specs.Operators.{level_of}
use Rattle.sc_pp_condition.specs.Grammar.{Phrase, number, paren, prefix, binary, conditional}
use Rattle.sc_pp_condition.specs.Machine.{Config, power_of, needs, settle, act_on, have, step, run}

pub level-small : (op : Operator) → level_of op ≤ 13
level-small o.Complement = omega arith
level-small o.Not = omega arith
level-small o.LogicalOr = omega arith
level-small o.LogicalAnd = omega arith
level-small o.Or = omega arith
level-small o.Xor = omega arith
level-small o.And = omega arith
level-small o.Equal = omega arith
level-small o.NotEqual = omega arith
level-small o.Less = omega arith
level-small o.Greater = omega arith
level-small o.LessEqual = omega arith
level-small o.GreaterEqual = omega arith
level-small o.ShiftLeft = omega arith
level-small o.ShiftRight = omega arith
level-small o.Plus = omega arith
level-small o.Minus = omega arith
level-small o.Times = omega arith
level-small o.Divide = omega arith
level-small o.Remainder = omega arith

pub power-small : (u : Term) → power_of u ≤ 13
power-small (t.Operator op) = level-small op
power-small t.Question = omega arith
power-small _ = omega arith

-- what is not settled where an operand of a level q is due, and the term binds at p
pub settle_stops : (p q : ℕ) (fs : List Frame) (x : Operand) (l : ℕ) → needs fs ≤ q → q ≤ p → q ≤ 13 → (2 ≤ q → 4 ≤ p) → settle p fs x l ≡ (fs, (x, l))
settle_stops p q [] x l h a b c = refl
settle_stops p q (f.Paren ∷ fs) x l h a b c = refl
settle_stops p q (f.Then y ∷ fs) x l h a b c = refl
settle_stops p q (f.Prefix op ∷ fs) x l h a b c = absurd (omega arith)
settle_stops p q (f.Binary op y ∷ fs) x l h a b c = let no : nat_le p (level_of op) ≡ false = grind (arith, nat_tests) in rw no refl
settle_stops p q (f.Else y z ∷ fs) x l h a b c = let four : 4 ≤ p = c (omega arith) in let no : nat_le p 3 ≡ false = grind (arith, nat_tests) in rw no refl

-- one step
pub steps : (c d : Config) (u : Term) (us : List Term) → step u c ≡ Some d → run c (u ∷ us) ≡ run d us
steps c d u us h = ap (λ (o : Option Config). option_and_then (λ d. run d us) o) h

-- The next term closes what it closes, whether or not the innermost frame was closed before.
goes_on : (fs gs : List Frame) (x y : Operand) (l m : ℕ) (u : Term) (us : List Term) →
    settle (power_of u) fs x l ≡ settle (power_of u) gs y m →
    run (fs, s.Have x l) (u ∷ us) ≡ run (gs, s.Have y m) (u ∷ us)
goes_on fs gs x y l m u us same = ap (λ (o : Option Config). option_and_then (λ d. run d us) o) (ap (act_on u) same)

have-operator : (op : Operator) (fs : List Frame) (x : Operand) (l : ℕ) → 4 ≤ level_of op → needs fs ≤ level_of op →
    have (t.Operator op) fs x l ≡ Some (f.Binary op x ∷ fs, s.Need)
have-operator op fs x l four q =
    let no : nat_lt (level_of op) 4 ≡ false = grind (arith, nat_tests) in
    ap (act_on (t.Operator op)) (settle_stops (level_of op) (level_of op) fs x l q (omega arith) (level-small op) (λ _. four)) ∙ rw no refl

have-question : (fs : List Frame) (x : Operand) (l : ℕ) → needs fs ≤ 3 → have t.Question fs x l ≡ Some (f.Then x ∷ fs, s.Need)
have-question fs x l q = ap (act_on t.Question) (settle_stops 4 3 fs x l q (omega arith) (omega arith) (λ _. omega arith))

around : (xs ys zs : List Term) (u : Term) → (xs ++ u ∷ ys) ++ zs ≡ xs ++ u ∷ (ys ++ zs)
around xs ys zs u = append_assoc xs (u ∷ ys) zs

between : (xs ys vs zs : List Term) (l r : Term) → (xs ++ l ∷ ys ++ r ∷ vs) ++ zs ≡ xs ++ l ∷ (ys ++ r ∷ (vs ++ zs))
between xs ys vs zs l r = simp append_assoc

pub at_least_one : {m : ℕ} {ts : List Term} {x : Operand} → Phrase m ts x → 1 ≤ m
at_least_one (number v) = omega arith
at_least_one (paren d) = omega arith
at_least_one (prefix op i d w) = omega arith
at_least_one (binary op four a w b v) = omega arith
at_least_one (conditional a w b c v) = omega arith

pub reads : {m : ℕ} {ts : List Term} {x : Operand} → Phrase m ts x → (fs : List Frame) (u : Term) (us : List Term) →
    needs fs ≤ m → power_of u ≤ m → run (fs, s.Need) (ts ++ u ∷ us) ≡ run (fs, s.Have x m) (u ∷ us)
reads (number v) fs u us q p = steps (fs, s.Need) (fs, s.Have (leaf v) 17) (t.Number v) (u ∷ us) refl
reads (paren {m} {ts} {x} d) fs u us q p =
    ap (λ (v : List Term). run (fs, s.Need) (t.LeftParen ∷ v)) (append_assoc ts (t.RightParen ∷ []) (u ∷ us)) ∙
    steps (fs, s.Need) (f.Paren ∷ fs, s.Need) t.LeftParen (ts ++ t.RightParen ∷ u ∷ us) refl ∙
    reads d (f.Paren ∷ fs) t.RightParen (u ∷ us) (at_least_one d) (at_least_one d) ∙
    steps (f.Paren ∷ fs, s.Have x m) (fs, s.Have x 17) t.RightParen (u ∷ us) refl
reads (prefix {m} {xs} {a} op i d w) fs u us q p =
    steps (fs, s.Need) (f.Prefix op ∷ fs, s.Need) (t.Operator op) (xs ++ u ∷ us) (rw i refl) ∙
    reads d (f.Prefix op ∷ fs) u us w (omega (arith, power-small u)) ∙
    goes_on (f.Prefix op ∷ fs) fs a (prefixed op a) m 15 u us refl
reads (binary {m} {n} {xs} {ys} {a} {b} op four c w d v) fs u us q p =
    ap (run (fs, s.Need)) (around xs ys (u ∷ us) (t.Operator op)) ∙
    reads c fs (t.Operator op) (ys ++ u ∷ us) (omega arith) w ∙
    steps (fs, s.Have a m) (f.Binary op a ∷ fs, s.Need) (t.Operator op) (ys ++ u ∷ us) (have-operator op fs a m four q) ∙
    reads d (f.Binary op a ∷ fs) u us (omega arith) (omega arith) ∙
    goes_on (f.Binary op a ∷ fs) fs b (applied op a b) n (level_of op) u us
    (let yes : nat_le (power_of u) (level_of op) ≡ true = le-leb _ _ p in rw yes refl)
reads (conditional {l} {m} {n} {xs} {ys} {zs} {a} {b} {c} d w v z y) fs u us q p =
    ap (run (fs, s.Need)) (between xs ys zs (u ∷ us) t.Question t.Colon) ∙
    reads d fs t.Question (ys ++ t.Colon ∷ (zs ++ u ∷ us)) (omega arith) w ∙
    steps (fs, s.Have a l) (f.Then a ∷ fs, s.Need) t.Question (ys ++ t.Colon ∷ (zs ++ u ∷ us)) (have-question fs a l q) ∙
    reads v (f.Then a ∷ fs) t.Colon (zs ++ u ∷ us) (at_least_one v) (at_least_one v) ∙
    steps (f.Then a ∷ fs, s.Have b m) (f.Else a b ∷ fs, s.Need) t.Colon (zs ++ u ∷ us) refl ∙
    reads z (f.Else a b ∷ fs) u us y (omega arith) ∙
    goes_on (f.Else a b ∷ fs) fs c (chosen a b c) n 3 u us
    (let yes : nat_le (power_of u) 3 ≡ true = le-leb _ _ p in rw yes refl)

-- The machine takes the terms of each expression and then the end.
pub completes : {m : ℕ} {ts : List Term} {x : Operand} → Phrase m ts x → run ([], s.Need) (ts ++ t.End ∷ []) ≡ Some ([], s.Done x)
completes {m} {ts} {x} d = reads d [] t.End [] (at_least_one d) (at_least_one d) ∙ steps ([], s.Have x m) ([], s.Done x) t.End [] refl
