-- None of the bytes looked at is one.
use Rattle.sc_mem_store.specs.Stray.{AreNone}
use Rattle.sc_mem_store.proofs.stray.are_stray_from.Given as goal

abbrev pub invariant-looking : goal.invariant-looking
invariant-looking l = AreNone l.memory.flat l.functions l.base l.i
