use Rattle.std.proofs.Common.{subst, sym}
use Rattle.sc_incr.specs.Parts.{ArePartsOf}
use Rattle.sc_incr.proofs.Joining.{linked-open, patched-kept}
use Rattle.sc_incr.proofs.changing.enter_new.Goals as goal

pub returns-in_err-reserve-clause-patched : goal.returns-in_err-reserve-clause-patched
returns-in_err-reserve-clause-patched c =
    let r = c.in_err-reserve.ensures in
    patched-kept c.args.entries.now.items c.reserve.new.entries.items c.args.funs.now.items c.reserve.new.funs.items c.args.image.now c.reserve.new.image r.entries r.funs c.requires.patched (r.kept c.args.entries.now.items c.args.funs.now.items)

pub put-requires-clause-left : goal.put-requires-clause-left
put-requires-clause-left c =
    let r = c.in_ok-reserve.ensures in
    let p = patched-kept c.args.entries.now.items c.reserve.new.entries.items c.args.funs.now.items c.reserve.new.funs.items c.args.image.now c.reserve.new.image r.entries r.funs c.requires.patched (r.kept c.args.entries.now.items c.args.funs.now.items) in
    linked-open c.reserve.new.entries.items c.reserve.new.funs.items c.in_ok-parts.parts.changed.items c.reserve.new.image p.linked

pub put-requires-clause-parts : goal.put-requires-clause-parts
put-requires-clause-parts c = subst (λ e. ArePartsOf e c.in_ok-parts.parts) (sym c.in_ok-entry.ensures) c.in_ok-parts.ensures.parts
