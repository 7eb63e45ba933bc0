use Rattle.sc_meaning.specs.Accesses.{loaded}
use Rattle.sc_meaning.specs.Values.{Pointer}
use Rattle.sc_interp_access.specs.Gives.{Stops}
use Rattle.sc_session_show.proofs.ContentLemmas.{stopped_so}
use Rattle.sc_session_show.proofs.contents.scalar_text.Goals as goal

pub returns : goal.returns
returns c =
    let w = c.args.s.now.world.now in
    let h : Stops (loaded c.args.t.now (Pointer c.args.s.now.object 0) c.args.at w) c.in-Err.stop w = rw c.pointer.ensures at c.in-Err.ensures in
    stopped_so (λ v. v.items) c.args.t.now (loaded c.args.t.now (Pointer c.args.s.now.object 0) c.args.at w) c.in-Err.stop w c.unread-said.result h c.unread-said.ensures
