-- Inside: plumbing, a representation, an invariant or a promise beside the claim (docs/TRUST.md).
-- Literals of which no two have one place, unless they are the same literal.
use Rattle.std.specs.Prelude.{◌&&◌, ◌||◌, Bool, not, nat_eq, List}
use Rattle.std.specs.List.{list_all}
use Rattle.std.specs.Str.{bytes_eq}
use Rattle.sc_link.specs.declared.placed.LiteralAt.{LiteralAt}

-- two that have one place are the same
abbrev pub agree : LiteralAt → LiteralAt → Bool
agree x y = not (nat_eq x.at y.at) || (bytes_eq x.«module» y.«module» && bytes_eq x.bytes y.bytes)

abbrev pub agrees_with : List LiteralAt → LiteralAt → Bool
agrees_with xs x = list_all (agree x) xs

abbrev pub all_agree : List LiteralAt → Bool
all_agree xs = list_all (agrees_with xs) xs
