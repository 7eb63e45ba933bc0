use Rattle.std.proofs.Common.{inl, refl}
use Rattle.sc_session.proofs.DisassemblingLemmas.{meant_by}
use Rattle.sc_session.proofs.session.Session.disas.Goals as goal

pub returns-in-Ok : goal.returns-in-Ok
returns-in-Ok c =
    meant_by _ c.args.self.now c.as_slice.result.now c.args.home c.args.name c.in-Ok.found c.shown_if.result c.self.view_is c.as_slice.ensures.value c.in-Ok.ensures c.shown_if.ensures

pub returns-in-Err : goal.returns-in-Err
returns-in-Err c = inl refl
