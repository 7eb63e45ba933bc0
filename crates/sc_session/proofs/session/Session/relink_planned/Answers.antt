use Rattle.std.proofs.Common.{refl}
use Rattle.sc_session.proofs.RelinkingLemmas.{gone_over_so, planned}
use Rattle.sc_session.proofs.session.Session.relink_planned.Goals as goal

pub returns-in-Err : goal.returns-in-Err
returns-in-Err c = (c.in-Err.ensures.short, refl)

pub returns-in-Ok-last_image : goal.returns-in-Ok-last_image
returns-in-Ok-last_image c =
    gone_over_so c.args.self.now c.go_over.new.self c.in-Ok-last_image.image
    (planned c.args.self.now c.in-Ok.plan c.as_slice.result.now c.as_slice-2.result.now c.in-Ok-last_image.image c.in-Ok.ensures.ok c.as_slice.ensures c.as_slice-2.ensures c.in-Ok.ensures.room c.in-Ok-last_image.ensures)
    c.go_over.ensures

pub returns : goal.returns
returns c = (tt, refl)
