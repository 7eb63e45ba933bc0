use Rattle.sc_mem_store.proofs.Living.{holds_stored}
use Rattle.sc_mem_store.proofs.store.Store.keep.Goals as goal

pub invariant_of-self : goal.invariant_of-self
invariant_of-self c =
    let s = c.self.inside in
    holds_stored s.history.objects s.memory c.raw_store.new.self s.functions c.args.at c.args.size c.args.w c.raw_store.result c.place_at.ensures.safe c.self.invariant
    c.requires c.in-None.ensures.place (c.is_tag.ensures c.if-is_tag.true) c.raw_store.ensures
