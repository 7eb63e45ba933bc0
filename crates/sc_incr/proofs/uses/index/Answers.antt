use Rattle.std.specs.Prelude.{IfOk}
use Rattle.std.proofs.Common.{subst}
use Rattle.sc_incr.specs.Uses.{IsIndexOf}
use Rattle.sc_incr.proofs.uses.index.Goals as goal

pub returns : goal.returns
returns c = subst (λ rs. IfOk c.index_relocs.result (IsIndexOf c.args.home.now c.args.object.now rs)) c.as_slice.ensures c.index_relocs.ensures
