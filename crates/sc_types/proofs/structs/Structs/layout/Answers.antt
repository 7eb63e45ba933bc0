use Rattle.sc_types.proofs.Tables.{entry-length}
use Rattle.sc_types.proofs.structs.Structs.layout.Goals as goal

pub returns-clause-same : goal.returns-clause-same
returns-clause-same c =
    rw (c.entry.ensures, c.as_slice.ensures.value, ← c.self.view_is) (entry-length c.self.inside.defs.items c.self.inside.layouts.items c.self.invariant c.args.id)
