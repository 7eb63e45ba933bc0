use Rattle.std.proofs.Common.{◌∙◌, ◌++◌, ap, filter, map, not, sym}
use Rattle.sc_incr.specs.Parts.{is_object_of, key_of_pair}
use Rattle.sc_incr.proofs.Replacing.{stale-known}
use Rattle.sc_incr.proofs.parts.parts_of.Goals as goal

pub returns-clause-stale : goal.returns-clause-stale
returns-clause-stale c =
    let fs = c.as_slice.result.now in
    let xs = c.as_slice-3.result.now in
    stale-known fs c.add_stale.new.keys.items c.args.stale.now xs
    (c.in_ok-add_stale.ensures ∙ ap (λ ks. ks ++ filter (λ k. not (is_object_of xs k)) c.args.stale.now) (c.in_ok-changed.ensures ∙ ap (λ ys. fs ++ map key_of_pair ys) (c.as_slice-2.ensures.value ∙ sym c.as_slice-3.ensures.value)))
