use Rattle.std.proofs.Common.{◌∙◌, length, refl, sym}
use Rattle.std.proofs.lemmas.Option.{slice_get_read}
use Rattle.sc_incr.proofs.Dropping.{entry-of, without-at}
use Rattle.sc_incr.proofs.Keys.{same-some}
use Rattle.sc_incr.proofs.leaving.take_at.Goals as goal

pub returns-clause-entry : goal.returns-clause-entry
returns-clause-entry c = λ e.
    let es = c.args.entries.now.items in
    same-some c.remove.result e.entry (sym (slice_get_read es (length es) c.args.at c.remove.result refl c.requires c.remove.ensures.value) ∙ entry-of es c.args.at e)

pub returns-clause-left : goal.returns-clause-left
returns-clause-left c = λ e. c.remove.ensures.by_index.2 ∙ without-at c.args.entries.now.items c.args.at e
