-- Yardstick: to be compared with what it restates (docs/TRUST.md).
-- A line of an answer.
use Rattle.std.specs.Prelude.{ℕ, List, ◌++◌, codes}

abbrev pub answer_line : List ℕ → List ℕ
answer_line said = codes "> " ++ said ++ codes "\n"
