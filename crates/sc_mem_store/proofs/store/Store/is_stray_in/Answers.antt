use Rattle.std.proofs.Common.{List, false, ◌≡◌, ap, subst, ◌∙◌, sym}
use Rattle.std.specs.Prelude.{IfOk, Result, Ok, Err}
use Rattle.sc_mem_store.specs.Kept.{Kept}
use Rattle.sc_mem_store.specs.Stray.{HasNone, HasNoneThere}
use Rattle.sc_meaning.specs.World.{Object}
use Rattle.sc_mem_store.proofs.Strays.{none_result}
use Rattle.sc_mem_store.proofs.store.Store.is_stray_in.Goals as goal

pub returns : goal.returns
returns c =
    let s = c.self.inside in
    subst (λ (os : List Object). IfOk c.is_stray_there.result (λ has. has ≡ false → HasNone os c.args.id)) (ap (λ (k : Kept). k.objects) c.self.view_is)
    (none_result c.is_stray_there.result s.history.objects s.memory.flat s.functions c.as_slice.result.now c.args.id c.self.invariant c.as_slice.ensures c.is_stray_there.ensures)
