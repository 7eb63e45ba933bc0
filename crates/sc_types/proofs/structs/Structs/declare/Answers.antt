use Rattle.std.proofs.Common.{refl}
use Rattle.sc_types.proofs.Tables.{table_room, table_declare}
use Rattle.sc_types.proofs.structs.Structs.declare.Goals as goal

pub invariant_of-self-in_err-push-2 : goal.invariant_of-self-in_err-push-2
invariant_of-self-in_err-push-2 c =
    rw (c.in_err-push-2.ensures.items, c.in_ok-push.ensures.items) (table_room c.self.inside.defs.items c.self.inside.layouts.items c.self.invariant)

pub invariant_of-self-2 : goal.invariant_of-self-2
invariant_of-self-2 c =
    rw (c.in_ok-push-2.ensures.items, c.in_ok-push.ensures.items) (table_declare c.self.inside.defs.items c.self.inside.layouts.items _ refl c.self.invariant)
