-- None of the objects looked at holds one.
use Rattle.sc_mem_store.proofs.Strays.{AreWithout}
use Rattle.sc_mem_store.proofs.store.Store.has_stray.Given as goal

abbrev pub invariant-looking : goal.invariant-looking
invariant-looking l = AreWithout l.self.objects l.before
