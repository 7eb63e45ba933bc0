-- Yardstick: to be compared with what it restates (docs/TRUST.md).
-- Which storage class may stand where (ANSI 3.5.1, 3.5.4.3, 3.7.1).
use Rattle.std.specs.Prelude.{Bool, true, false, Option, Some, None}
use Rattle.sc_tree.specs.declared.expression.Storage.{Storage}
use Rattle.sc_tree.specs.declared.expression.Storage.TheVariants as s
use Rattle.sc_check_declare.specs.declared.storage.Place.{Place}
use Rattle.sc_check_declare.specs.declared.storage.Place.TheVariants as p

abbrev pub may_stand : Place → Option Storage → Bool
may_stand p.File (Some s.Auto) = false
may_stand p.File (Some s.Register) = false
may_stand p.File _ = true
may_stand p.Block _ = true
may_stand p.BlockFunction None = true
may_stand p.BlockFunction (Some s.Extern) = true
may_stand p.BlockFunction _ = false
may_stand p.Parameter None = true
may_stand p.Parameter (Some s.Register) = true
may_stand p.Parameter _ = false
may_stand p.Definition None = true
may_stand p.Definition (Some s.Extern) = true
may_stand p.Definition (Some s.Static) = true
may_stand p.Definition _ = false
