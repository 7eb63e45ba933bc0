-- Machine: the program once more; a theorem ties it to a yardstick (docs/TRUST.md).
-- How many parentheses, brackets and braces are open.
use Rattle.std.specs.Prelude.{ℕ, ◌+◌, ◌-◌, ◌≤◌, List, [], ◌∷◌}
use Rattle.sc_parse_names.specs.declared.kind.Symbol.{Symbol}
use Rattle.sc_parse_names.specs.declared.kind.Kind.{Kind}
use Rattle.sc_parse_names.specs.declared.kind.Kind.TheVariants as k

-- the same behind one token more
abbrev pub opens_with : ℕ → Kind → ℕ
opens_with n k.LeftParen = n + 1
opens_with n k.LeftBracket = n + 1
opens_with n k.LeftBrace = n + 1
opens_with n k.RightParen = n - 1
opens_with n k.RightBracket = n - 1
opens_with n k.RightBrace = n - 1
opens_with n _ = n

-- At most 500 are open at each place, where `depth` are open before the tokens.
abbrev pub AreShallow : ℕ → List Symbol → Type 0
AreShallow depth [] = Unit {0}
AreShallow depth (t ∷ ts) = (opens_with depth t.kind ≤ 500) × AreShallow (opens_with depth t.kind) ts
