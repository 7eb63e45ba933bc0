use Rattle.std.proofs.Common.{◌++◌, ◌∷◌, ◌∙◌, [], Some, ap, map, subst, sym}
use Rattle.std.specs.Prelude.{IfErr}
use Rattle.sc_link.specs.declared.placed.Placed.{Placed}
use Rattle.sc_incr.specs.Leaving.{IsAbsent, IsPresentAt}
use Rattle.sc_incr.specs.Modules.{IsFull, formed_by, in_form, present, with_form}
use Rattle.sc_incr.specs.Program.{Program, left}
use Rattle.sc_incr.specs.Settled.{Agrees}
use Rattle.sc_incr.proofs.Dropping.{entry-of, left-at}
use Rattle.sc_incr.proofs.Keys.{same-some}
use Rattle.sc_incr.proofs.Replacing.{at-same, on-ok, present-at, present-none, same-program}
use Rattle.sc_incr.proofs.linked.Linked.set_form.Goals as goal

pub form_at-requires-clause-sound : goal.form_at-requires-clause-sound
form_at-requires-clause-sound c = λ e.
    let es = c.self.inside.entries.items in
    let fs = c.self.inside.funs.items in
    let name = c.args.name.now in
    let a = subst (λ xs. IsPresentAt name xs c.in-Some.at) c.as_slice.ensures.value c.in-Some.ensures in
    let here = ap (λ (p : Program). present name p.placed) (sym c.self.view_is) ∙ (present-at name es c.in-Some.at a ∙ (sym (entry-of es c.in-Some.at a.at) ∙ entry-of es c.in-Some.at e)) in
    c.requires.sound e.entry here

pub form_at-requires-clause-agrees : goal.form_at-requires-clause-agrees
form_at-requires-clause-agrees c = λ e.
    let es = c.self.inside.entries.items in
    let fs = c.self.inside.funs.items in
    let name = c.args.name.now in
    let a = subst (λ xs. IsPresentAt name xs c.in-Some.at) c.as_slice.ensures.value c.in-Some.ensures in
    let here = ap (λ (p : Program). present name p.placed) (sym c.self.view_is) ∙ (present-at name es c.in-Some.at a ∙ (sym (entry-of es c.in-Some.at a.at) ∙ entry-of es c.in-Some.at e)) in
    let g = subst (λ (p : Program). Agrees (left c.args.keep_old name p.placed) p.funs (in_form p.placed c.args.form e.entry) []) (sym c.self.view_is) (c.requires.agrees e.entry here) in
    subst (λ xs. Agrees xs fs (in_form es c.args.form e.entry) []) (left-at c.args.keep_old name es c.in-Some.at a ∙ at-same es c.in-Some.at a.at e c.args.keep_old) g

pub returns-in-Some-clause-ok : goal.returns-in-Some-clause-ok
returns-in-Some-clause-ok c =
    let es = c.self.inside.entries.items in
    let fs = c.self.inside.funs.items in
    let name = c.args.name.now in
    let a = subst (λ xs. IsPresentAt name xs c.in-Some.at) c.as_slice.ensures.value c.in-Some.ensures in
    let prog : Program = record { placed = es; funs = fs } in
    on-ok c.form_at.result _ _
    (λ h.
    same-program (left c.args.keep_old name es ++ in_form es c.args.form a.at.entry ∷ []) c.form_at.new.entries.items fs c.form_at.new.funs.items (h ∙ ap (λ xs. xs ++ in_form es c.args.form a.at.entry ∷ []) (sym (left-at c.args.keep_old name es c.in-Some.at a))) c.form_at.ensures.funs
    ∙ (sym (ap (λ o. formed_by c.args.keep_old name c.args.form o prog) (present-at name es c.in-Some.at a)) ∙ ap (with_form c.args.keep_old name c.args.form) c.self.view_is))
    (c.form_at.ensures.entries a.at)

pub returns-in-Some-clause-full : goal.returns-in-Some-clause-full
returns-in-Some-clause-full c = λ e g.
    let es = c.self.inside.entries.items in
    let fs = c.self.inside.funs.items in
    let name = c.args.name.now in
    let a = subst (λ xs. IsPresentAt name xs c.in-Some.at) c.as_slice.ensures.value c.in-Some.ensures in
    let same = same-some a.at.entry e (sym (present-at name es c.in-Some.at a) ∙ (ap (λ (p : Program). present name p.placed) c.self.view_is ∙ g)) in
    subst (λ (p : Program). IfErr c.form_at.result (IsFull p.placed p.funs c.args.form e.object (map Some e.places) [])) c.self.view_is
    (subst (λ (x : Placed). IfErr c.form_at.result (IsFull es fs c.args.form x.object (map Some x.places) [])) same (c.form_at.ensures.full a.at))

pub returns-in-None-clause-ok : goal.returns-in-None-clause-ok
returns-in-None-clause-ok c =
    let es = c.self.inside.entries.items in
    let fs = c.self.inside.funs.items in
    let name = c.args.name.now in
    let n = subst (IsAbsent name) c.as_slice.ensures.value c.in-None.ensures in
    let prog : Program = record { placed = es; funs = fs } in
    sym c.self.view_is ∙ (sym (ap (λ o. formed_by c.args.keep_old name c.args.form o prog) (present-none name es n)) ∙ ap (with_form c.args.keep_old name c.args.form) c.self.view_is)
