-- Yardstick: to be compared with what it restates (docs/TRUST.md).
-- The grammar of `#if` (ANSI 3.4, 3.8.1): which terms are an expression, and what it comes to. The levels: conditional 3,
-- binary 4 to 13, unary 15, primary 17.
use Rattle.std.specs.Prelude.{◌≡◌, ℕ, suc, ◌≤◌, true, List, [], ◌∷◌, ◌++◌}
use Rattle.sc_pp_condition.specs.declared.number.Value.{Value}
use Rattle.sc_pp_condition.specs.declared.operand.Operand.{Operand}
use Rattle.sc_pp_condition.specs.declared.operator.Operator.{Operator}
use Rattle.sc_pp_condition.specs.declared.machine.Term.{Term}
use Rattle.sc_pp_condition.specs.declared.machine.Term.TheVariants as t
use Rattle.sc_pp_condition.specs.Operands.{leaf, prefixed, applied, chosen}
use Rattle.sc_pp_condition.specs.Operators.{is_prefix, level_of}

-- The terms are the expression, by a production of this level.
pub data Phrase : ℕ → List Term → Operand → Type 0 where
  number : (v : Value) → Phrase 17 (t.Number v ∷ []) (leaf v)
  paren : {m : ℕ} {ts : List Term} {x : Operand} → Phrase m ts x → Phrase 17 (t.LeftParen ∷ ts ++ t.RightParen ∷ []) x
  prefix : {m : ℕ} {xs : List Term} {a : Operand} (op : Operator) → is_prefix op ≡ true → Phrase m xs a → 15 ≤ m → Phrase 15 (t.Operator op ∷ xs) (prefixed op a)
  binary : {m n : ℕ} {xs ys : List Term} {a b : Operand} (op : Operator) → 4 ≤ level_of op →
      Phrase m xs a → level_of op ≤ m → Phrase n ys b → suc (level_of op) ≤ n →
      Phrase (level_of op) (xs ++ t.Operator op ∷ ys) (applied op a b)
  conditional : {l m n : ℕ} {xs ys zs : List Term} {a b c : Operand} →
      Phrase l xs a → 4 ≤ l → Phrase m ys b → Phrase n zs c → 3 ≤ n →
      Phrase 3 (xs ++ t.Question ∷ ys ++ t.Colon ∷ zs) (chosen a b c)

-- The terms are an expression that comes to this.
abbrev pub IsExpression : List Term → Operand → Type 0
IsExpression ts x = (m : ℕ) × Phrase m ts x
