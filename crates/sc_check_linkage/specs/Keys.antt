-- Yardstick: to be compared with what it restates (docs/TRUST.md).
-- The keys of a block's static objects.
use Rattle.std.specs.Prelude.{ℕ, List, ◌++◌, Some, codes, decimal}
use Rattle.sc_base.specs.declared.key.Key.{Key}

-- `f.x.k`: the function, the object, and how many objects of that name the function had before
abbrev pub block_name : List ℕ → List ℕ → ℕ → List ℕ
block_name function object count = function ++ codes "." ++ object ++ codes "." ++ decimal count

abbrev pub block_key : List ℕ → List ℕ → List ℕ → ℕ → Key
block_key home function object count = record { «module» = Some home; name = block_name function object count }
