use Rattle.sc_isa_image.proofs.Indexed.{indexed-take}
use Rattle.sc_isa_image.proofs.literals.Literals.take.Goals as goal

pub invariant_of-self : goal.invariant_of-self
invariant_of-self c =
    let s = c.self.inside in
    indexed-take s.places.entries c.remove.new.self.entries s.index c.forget.new.index s.others.items c.forget.new.others.items c.args.at c.self.invariant c.remove.ensures.updates.0 c.forget.ensures.index c.forget.ensures.others
