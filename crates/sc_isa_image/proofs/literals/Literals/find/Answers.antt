use Rattle.std.proofs.Common.{inl, inr, refl}
use Rattle.sc_isa_image.specs.Literals.{literal_of}
use Rattle.sc_isa_image.proofs.Indexed.{found-is}
use Rattle.sc_isa_image.proofs.literals.Literals.find.Goals as goal

pub returns-in-None : goal.returns-in-None
returns-in-None c =
    let s = c.self.inside in
    let l = literal_of c.args.«module».now c.args.bytes.now in
    let found = rw c.as_slice-in-None-2.ensures.bytes at c.search.ensures.found in
    let none = rw (c.as_slice-in-None-2.ensures.bytes, c.as_slice-in-None.ensures.value) at c.search.ensures.absent in
    let first = rw (c.as_slice-2.ensures.bytes, c.fingerprint-print.ensures, c.as_slice.ensures.bytes) at c.in-None.ensures.absent in
    λ p. rw (← c.self.view_is) (found-is s.places.entries l c.search.result c.self.invariant.different found (λ e q h. elim (c.self.invariant.found q l h) [ inl a ↦ first refl q a h | inr b ↦ none e q b h ]) p)
