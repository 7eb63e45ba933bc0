use Rattle.std.proofs.Common.{◌∙◌, ap, refl, subst, sym}
use Rattle.sc_incr.specs.Leaving.{IsAbsent, IsPresentAt}
use Rattle.sc_incr.specs.Program.{left, removed}
use Rattle.sc_incr.proofs.Dropping.{left-at, left-none}
use Rattle.sc_incr.proofs.Replacing.{on-ok, same-program}
use Rattle.sc_incr.proofs.linked.Linked.remove.Goals as goal

pub returns-in-Some-clause-ok : goal.returns-in-Some-clause-ok
returns-in-Some-clause-ok c =
    let es = c.self.inside.entries.items in
    let fs = c.self.inside.funs.items in
    let a = subst (λ xs. IsPresentAt c.args.name.now xs c.in-Some.at) c.as_slice.ensures.value c.in-Some.ensures in
    on-ok c.remove_at.result _ _
    (λ f. same-program (left c.args.keep_old c.args.name.now es) c.remove_at.new.entries.items fs fs (f a.at ∙ sym (left-at c.args.keep_old c.args.name.now es c.in-Some.at a)) refl ∙ ap (removed c.args.keep_old c.args.name.now) c.self.view_is)
    c.remove_at.ensures.ok

pub returns-in-None-clause-ok : goal.returns-in-None-clause-ok
returns-in-None-clause-ok c =
    let es = c.self.inside.entries.items in
    let fs = c.self.inside.funs.items in
    let n = subst (IsAbsent c.args.name.now) c.as_slice.ensures.value c.in-None.ensures in
    sym c.self.view_is ∙ (same-program (left c.args.keep_old c.args.name.now es) es fs fs (sym (left-none c.args.keep_old c.args.name.now es n)) refl ∙ ap (removed c.args.keep_old c.args.name.now) c.self.view_is)
