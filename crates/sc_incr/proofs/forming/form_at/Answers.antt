use Rattle.std.proofs.Common.{◌++◌, ◌∷◌, ◌∙◌, [], Some, ap, map, subst, sym}
use Rattle.std.specs.List.{slice_get}
use Rattle.sc_incr.specs.Modules.{IsFull}
use Rattle.sc_incr.specs.Plans.{IsForm}
use Rattle.sc_incr.specs.Program.{left_of}
use Rattle.sc_incr.specs.Settled.{Joins}
use Rattle.sc_incr.proofs.Dropping.{entry-of}
use Rattle.sc_incr.proofs.Planned.{joins-form}
use Rattle.sc_incr.proofs.Replacing.{full-any}
use Rattle.sc_incr.proofs.forming.form_at.Goals as goal

pub returns-in-Err-clause-full : goal.returns-in-Err-clause-full
returns-in-Err-clause-full c = λ e.
    let es = c.args.entries.now.items in
    let here = ap (λ xs. slice_get xs c.args.at) c.as_slice.ensures.value ∙ entry-of es c.args.at e in
    full-any es c.args.funs.now.items c.args.form e.entry.object (map Some e.entry.places) c.in-Err.fault
    (subst (λ xs. IsFull xs [] c.args.form e.entry.object (map Some e.entry.places) [] c.in-Err.fault) c.as_slice.ensures.value (c.in-Err.ensures.full e.entry here))

pub exchange_at-requires-clause-joins : goal.exchange_at-requires-clause-joins
exchange_at-requires-clause-joins c = λ e.
    let es = c.args.entries.now.items in
    let fs = c.args.funs.now.items in
    let here = ap (λ xs. slice_get xs c.args.at) c.as_slice.ensures.value ∙ entry-of es c.args.at e in
    let f = subst (λ xs. IsForm xs c.args.form e.entry c.in-Ok.placed) c.as_slice.ensures.value (c.in-Ok.ensures.ok e.entry here) in
    subst (λ ks. Joins (e.front ++ (left_of c.args.keep_old e.entry ++ e.back)) fs c.in-Ok.placed ks) (sym c.new.ensures.items)
    (joins-form c.args.keep_old es c.args.at e fs c.args.form c.in-Ok.placed c.requires.patched.settled f (c.requires.sound e) (c.requires.agrees e))

pub returns-in-Ok-exchange_at-clause-entries : goal.returns-in-Ok-exchange_at-clause-entries
returns-in-Ok-exchange_at-clause-entries c = λ e.
    let es = c.args.entries.now.items in
    let here = ap (λ xs. slice_get xs c.args.at) c.as_slice.ensures.value ∙ entry-of es c.args.at e in
    let f = subst (λ xs. IsForm xs c.args.form e.entry c.in-Ok.placed) c.as_slice.ensures.value (c.in-Ok.ensures.ok e.entry here) in
    c.in-Ok-exchange_at.ensures.entries e ∙ ap (λ p. (e.front ++ (left_of c.args.keep_old e.entry ++ e.back)) ++ p ∷ []) f.placed
