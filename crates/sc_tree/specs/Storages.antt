-- Yardstick: to be compared with what it restates (docs/TRUST.md).
-- Storage classes (3.5.1).
use Rattle.std.specs.Prelude.{Bool, true, false, Option, Some}
use Rattle.sc_tree.specs.declared.expression.Storage.{Storage}
use Rattle.sc_tree.specs.declared.expression.Storage.TheVariants as storage

-- whether a declaration names types
abbrev pub is_typedef : Option Storage → Bool
is_typedef (Some storage.Typedef) = true
is_typedef _ = false
