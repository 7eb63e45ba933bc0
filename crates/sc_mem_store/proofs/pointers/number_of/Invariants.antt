use Rattle.std.proofs.Common.{◌≡◌, ◌≤◌, ◌+◌, ◌*◌, ◌-◌, drop, length}
use Rattle.sc_meaning.specs.Beside.{stub_from}
use Rattle.sc_mem_store.proofs.pointers.number_of.Given as goal

abbrev pub invariant-loop-n : goal.invariant-loop-n
invariant-loop-n l = (l.n ≤ length l.functions) × (stub_from 65536 l.functions l.key ≡ stub_from (65536 + 8 * l.n) (drop l.n l.functions) l.key)

abbrev pub decreases-loop-n : goal.decreases-loop-n
decreases-loop-n l = length l.functions - l.n
