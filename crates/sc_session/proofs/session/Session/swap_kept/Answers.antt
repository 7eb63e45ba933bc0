use Rattle.std.proofs.Common.{ap, sym, ◌∙◌}
use Rattle.sc_session.specs.Changing.{stays}
use Rattle.sc_session.proofs.SwappingLemmas.{found_room, full_refused, room_reforms, stays_reforms}
use Rattle.sc_session.proofs.session.Session.swap_kept.Goals as goal

pub returns-then-stays : goal.returns-then-stays
returns-then-stays c =
    stays_reforms c.args.self.now c.args.name c.args.choice c.reform.result c.reform.new.self (sym (ap (λ p. stays p.state) c.self.view_is) ∙ sym c.stays.ensures ∙ c.if-stays.true) c.reform.ensures

pub returns-in-None : goal.returns-in-None
returns-in-None c =
    room_reforms c.args.self.now c.args.name c.args.choice c.in-Ok.full c.reform-in-None.result c.reform-in-None.new.self c.in-None.is (found_room _ c.args.self.now c.args.name c.args.choice c.as_slice-modules.result.now c.in-Ok.full c.self.view_is c.as_slice-modules.ensures.value c.in-Ok.ensures)
    c.reform-in-None.ensures

pub returns-in-Some : goal.returns-in-Some
returns-in-Some c =
    full_refused c.args.self.now c.args.name c.args.choice c.in-Ok.full c.in-Some.area (sym (ap (λ p. stays p.state) c.self.view_is) ∙ sym c.stays.ensures ∙ c.if-stays.false) c.in-Some.is
    (found_room _ c.args.self.now c.args.name c.args.choice c.as_slice-modules.result.now c.in-Ok.full c.self.view_is c.as_slice-modules.ensures.value c.in-Ok.ensures)
