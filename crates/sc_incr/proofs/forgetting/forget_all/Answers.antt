use Rattle.std.proofs.Common.{◌∙◌, refl, subst, sym}
use Rattle.sc_incr.specs.Leaving.{AreAllPresent, IsFormerAt}
use Rattle.sc_incr.proofs.Former.{fewer, kept-all, kept-same}
use Rattle.sc_incr.proofs.forgetting.forget_all.Goals as goal

pub forgetting-init : goal.forgetting-init
forgetting-init c = (c.requires, refl)

pub forgetting-preserved : goal.forgetting-preserved
forgetting-preserved c =
    let es = c.forgetting.entries.items in
    let f = subst (λ xs. IsFormerAt xs c.in-Some.at) c.as_slice.ensures.value c.in-Some.ensures in
    (c.forget_at.ensures.patched, kept-same es c.forget_at.new.entries.items c.in-Some.at f (c.forget_at.ensures.entries f.at) ∙ c.forgetting.invariant.1)

pub forgetting-smaller : goal.forgetting-smaller
forgetting-smaller c =
    let es = c.forgetting.entries.items in
    let f = subst (λ xs. IsFormerAt xs c.in-Some.at) c.as_slice.ensures.value c.in-Some.ensures in
    fewer es c.forget_at.new.entries.items c.in-Some.at f.at (c.forget_at.ensures.entries f.at)

pub forget_at-requires : goal.forget_at-requires
forget_at-requires c = record {
  patched = c.forgetting.invariant.0;
  at = subst (λ xs. IsFormerAt xs c.in-Some.at) c.as_slice.ensures.value c.in-Some.ensures;
}

pub returns-clause-patched : goal.returns-clause-patched
returns-clause-patched c = c.forgetting.invariant.0

pub returns-clause-entries : goal.returns-clause-entries
returns-clause-entries c = sym (kept-all c.forgetting.entries.items (subst AreAllPresent c.as_slice.ensures.value c.in_default.ensures)) ∙ c.forgetting.invariant.1
