-- The names that are left make of the table what all make, and without those that were declared it is as before.
use Rattle.std.proofs.Common.{◌≡◌, drop}
use Rattle.sc_parse_names.specs.Latest as spec
use Rattle.sc_parse_names.proofs.latest.Latest.declare_all.Given as goal

abbrev pub invariant-loop-done : goal.invariant-loop-done
invariant-loop-done l = (spec.rows_of (drop l.done l.fn.scope) l.self ≡ spec.rows_of l.fn.scope l.fn.self) × (drop l.done l.self ≡ l.fn.self)
