use Rattle.sc_session.proofs.DisassemblingLemmas.{planned_lines, unlinked_so}
use Rattle.sc_session.proofs.session.Session.code.Goals as goal

pub returns-in-Err : goal.returns-in-Err
returns-in-Err c = unlinked_so c.args.self.now c.args.key.now c.in-Err.fault c.unlinked.result c.in-Err.ensures.short c.unlinked.ensures

pub returns-in-Ok-last_text : goal.returns-in-Ok-last_text
returns-in-Ok-last_text c =
    planned_lines c.args.self.now c.in-Ok.plan c.as_slice.result.now c.as_slice-2.result.now c.args.key.now c.in-Ok-last_text.lines c.in-Ok.ensures.ok c.as_slice.ensures c.as_slice-2.ensures
    c.in-Ok.ensures.room c.in-Ok-last_text.ensures
