use Rattle.std.proofs.Common.{◌≡◌, ◌++◌, ◌∷◌, ◌∙◌, [], subst, sym}
use Rattle.sc_base.specs.declared.key.Key.{Key}
use Rattle.sc_incr.specs.Leaving.{IsAt}
use Rattle.sc_incr.specs.Literals.{literals_at_home}
use Rattle.sc_incr.specs.Parts.{ArePartsOf}
use Rattle.sc_incr.specs.Program.{left_of}
use Rattle.sc_incr.specs.Settled.{Joins}
use Rattle.sc_incr.specs.Stands.{Has, IsOpen}
use Rattle.sc_incr.proofs.Joining.{patched-kept}
use Rattle.sc_incr.proofs.Replacing.{same-at, open-more}
use Rattle.sc_incr.proofs.changing.exchange_at.Goals as goal

pub returns-in_err-reserve-clause-patched : goal.returns-in_err-reserve-clause-patched
returns-in_err-reserve-clause-patched c =
    let r = c.in_err-reserve.ensures in
    patched-kept c.args.entries.now.items c.reserve.new.entries.items c.args.funs.now.items c.reserve.new.funs.items c.args.image.now c.reserve.new.image r.entries r.funs c.requires.patched (r.kept c.args.entries.now.items c.args.funs.now.items)

pub leave-requires-clause-patched : goal.leave-requires-clause-patched
leave-requires-clause-patched c =
    let r = c.in_ok-reserve.ensures in
    patched-kept c.args.entries.now.items c.reserve.new.entries.items c.args.funs.now.items c.as_slice-5.result.now c.args.image.now c.reserve.new.image r.entries (c.as_slice-5.ensures.value ∙ r.funs) c.requires.patched (r.kept c.args.entries.now.items c.args.funs.now.items)

pub leave-requires-clause-moved : goal.leave-requires-clause-moved
leave-requires-clause-moved c =
    let r = c.in_ok-reserve.ensures in
    subst (λ xs. (e : IsAt xs c.args.at) → c.in_ok-moved.moved.items ≡ literals_at_home e.entry.home (e.front ++ e.back)) (c.as_slice-2.ensures.value ∙ sym r.entries) c.in_ok-moved.ensures

pub put-requires-clause-left : goal.put-requires-clause-left
put-requires-clause-left c =
    let ks = c.in_ok-leaving.leaving.keys.items in
    subst (λ fs. IsOpen c.leave.new.entries.items fs c.in_ok-parts.parts.changed.items c.leave.new.image) c.as_slice-5.ensures.value
    (open-more c.leave.new.entries.items c.as_slice-5.result.now ks c.in_ok-parts.parts.changed.items c.leave.new.image
    (subst (λ xs. (k : Key) → Has k xs → Has k c.in_ok-parts.parts.changed.items) c.as_slice-3.ensures.value c.in_ok-parts.ensures.stale) c.leave.ensures.left)

pub put-requires-clause-joins : goal.put-requires-clause-joins
put-requires-clause-joins c =
    let r = c.in_ok-reserve.ensures in
    let a = c.requires.at in
    let xs = a.front ++ (left_of c.args.keep_old a.entry ++ a.back) in
    let now = c.leave.ensures.entries (same-at c.args.entries.now.items c.reserve.new.entries.items c.args.at a r.entries) in
    subst (λ es. Joins es c.reserve.new.funs.items c.in_ok-entry.entry c.in_ok-parts.parts.functions.items) (sym now)
    (subst (λ fs. Joins xs fs c.in_ok-entry.entry c.in_ok-parts.parts.functions.items) (sym r.funs)
    (subst (λ e. Joins xs c.args.funs.now.items e c.in_ok-parts.parts.functions.items) (sym c.in_ok-entry.ensures)
    (subst (λ ks. Joins xs c.args.funs.now.items c.args.placed ks) (sym c.in_ok-parts.ensures.functions) (c.requires.joins a))))

pub put-requires-clause-parts : goal.put-requires-clause-parts
put-requires-clause-parts c = subst (λ e. ArePartsOf e c.in_ok-parts.parts) (sym c.in_ok-entry.ensures) c.in_ok-parts.ensures.parts

pub returns-clause-entries : goal.returns-clause-entries
returns-clause-entries c = λ e.
    let r = c.in_ok-reserve.ensures in
    c.put.ensures.entries ∙ (λ m. c.leave.ensures.entries (same-at c.args.entries.now.items c.reserve.new.entries.items c.args.at e r.entries) m ++ c.in_ok-entry.ensures m ∷ [])
