use Rattle.std.proofs.Common.{◌≢◌, ℕ, Some, sym, subst}
use Rattle.sc_isa_image.specs.Literals.{Placed, literal_at}
use Rattle.sc_isa_image.proofs.Indexed.{indexed-put}
use Rattle.sc_isa_image.proofs.literals.Literals.put.Goals as goal

pub invariant_of-self : goal.invariant_of-self
invariant_of-self c =
    let s = c.self.inside in
    let absent = subst (λ (v : Placed). (p : ℕ) → literal_at v.places p ≢ Some c.args.literal) (sym c.self.view_is) c.requires.absent in
    let found = rw (c.fingerprint-print.ensures, c.as_slice.ensures.bytes, c.as_slice-2.ensures) at c.remember.ensures.found in
    indexed-put s.places.entries c.place.new.places.entries s.index c.remember.new.index s.others.items c.remember.new.others.items c.args.at c.args.literal c.self.invariant c.place.ensures.literals absent c.remember.ensures.index c.remember.ensures.others found
