use Rattle.std.proofs.Common.{◌∙◌, ◌++◌, ◌∷◌, ◌<◌, ap, length, refl, rules, sym, true≢false}
use Rattle.std.proofs.lemmas.Option.{slice_get_read}
use Rattle.std.specs.Vec.{vec_len}
use Rattle.sc_incr.specs.Program.{retired}
use Rattle.sc_incr.proofs.Dropping.{entry-of, set-retired}
use Rattle.sc_incr.proofs.Keys.{same-some}
use Rattle.sc_incr.proofs.leaving.retire_at.Goals as goal

pub returns-in_default : goal.returns-in_default
returns-in_default c =
    let l : c.args.at < vec_len c.args.entries.now = search rules in
    absurd (true≢false (sym (c.in_default.ensures.variant.1 l)))

pub returns-in-Some : goal.returns-in-Some
returns-in-Some c =
    let es = c.args.entries.now.items in
    let here = slice_get_read es (length es) c.args.at c.in-Some.entry.now refl c.requires c.in-Some.ensures.value in
    record {
      entries = λ e. set-retired es c.args.at e c.retire.new.self ∙ ap (λ x. e.front ++ x ∷ e.back) (c.retire.ensures ∙ ap retired (same-some c.in-Some.entry.now e.entry (sym here ∙ entry-of es c.args.at e)));
      capacity = λ h. h;
    }
