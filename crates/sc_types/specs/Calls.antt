-- Yardstick: to be compared with what it restates (docs/TRUST.md).
-- How many arguments a call has (3.3.2.2).
use Rattle.std.specs.Prelude.{ℕ, Bool, length, nat_lt, ◌==◌, ◌&&◌, ◌||◌}
use Rattle.sc_types.specs.declared.ctype.Signature.{Signature}

-- as many as the parameters, and more where the parameters end with an ellipsis
abbrev pub fits : Signature → ℕ → Bool
fits f n = length f.params == n || (f.variadic && nat_lt (length f.params) n)
