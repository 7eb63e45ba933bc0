use Rattle.std.proofs.Common.{◌≡◌, List, None, ap, subst}
use Rattle.sc_meaning.specs.Values.{Pointer, value_of_cells}
use Rattle.sc_meaning.specs.Violations.{cells_read, load_rule}
use Rattle.sc_meaning.specs.World.{Object}
use Rattle.sc_mem_store.specs.Kept.{Kept}
use Rattle.sc_mem_store.proofs.Fetching.{fetched}
use Rattle.sc_mem_store.proofs.store.Store.fetch.Goals as goal

pub returns-in_ok-v-in-Some : goal.returns-in_ok-v-in-Some
returns-in_ok-v-in-Some c =
    let s = c.self.inside in
    let id = c.args.id in
    let at = c.args.at in
    let further = c.args.further in
    let n = c.args.n in
    let pointer = c.args.pointer in
    subst (λ (os : List Object). (load_rule os (Pointer id at) further n pointer ≡ None) × (c.in_ok-v-in-Some.v ≡ value_of_cells (cells_read os (Pointer id at) further n))) (ap (λ (k : Kept). k.objects) c.self.view_is)
    (fetched s.history.objects s.memory s.functions c.as_slice.result.now id at further n pointer c.in-Some.w c.in_ok-v-in-Some.v c.in-Some.ensures.safe c.self.invariant c.as_slice.ensures c.in-Some.ensures.word c.in_ok-v-in-Some.ensures)
