use Rattle.std.proofs.Common.{◌≡◌, rules, IfErr, ◌∙◌, subst}
use Rattle.sc_image.specs.Running as spec
use Rattle.sc_image.proofs.running.Placements.with.Goals as goal

pub returns-in-Ok-clause-short : goal.returns-in-Ok-clause-short
returns-in-Ok-clause-short c =
    let es = c.args.self.now in
    let m = c.args.«module».now in
    let funs = c.args.functions.now in
    let placed : c.as_slice-placed.result.now ≡ es = search rules in
    let keeps : c.as_slice.result.now ≡ c.in-Ok.keeps.items = search rules in
    let same : c.in-Ok.keeps.items ≡ spec.kept_places es m c.args.kept.now = search rules in
    subst (λ xs. IfErr c.with_entry.result (spec.IsShortOf xs funs m (spec.kept_places es m c.args.kept.now))) placed
    (subst (λ ks. IfErr c.with_entry.result (spec.IsShortOf c.as_slice-placed.result.now funs m ks)) (keeps ∙ same) c.with_entry.ensures.short)
