use Rattle.std.proofs.Common.{MatchResult, refl}
use Rattle.sc_session.specs.Transcript.{moment, BreaksOff, Speaks}
use Rattle.sc_top.specs.Beside.{audience, seen}
use Rattle.sc_top.proofs.BesideLemmas.{all_told, hear_both}
use Rattle.sc_top.proofs.HearingLemmas.{heard_step}
use Rattle.sc_top.proofs.Gaining.{marked_alike, marked_on}
use Rattle.sc_top.proofs.line.carried.Goals as goal

pub returns-clause-step : goal.returns-clause-step
returns-clause-step g c =
    heard_step (λ first last. MatchResult c.all_retold-said.result (λ said. Speaks (g.K.Sink.written c.args.out.now) (g.K.Sink.written c.carry_out-said.new.out) (moment first (g.F.Files.held c.args.files.now) (g.F.Files.faults c.args.files.now)) c.args.command said (moment last (g.F.Files.held c.carry_out-said.new.files) (g.F.Files.faults c.carry_out-said.new.files)))
    (λ _. BreaksOff (g.K.Sink.written c.args.out.now) (g.K.Sink.written c.carry_out-said.new.out) (moment first (g.F.Files.held c.args.files.now) (g.F.Files.faults c.args.files.now)) c.args.command (g.F.Files.held c.carry_out-said.new.files)))
    c.args.session.now c.listen.new.self c.carry_out-said.new.self c.hand_on.new.session c.listen.ensures c.hand_on.ensures.same
    (all_told (g.K.Sink.written c.args.out.now) (g.K.Sink.written c.carry_out-said.new.out) (moment c.listen.new.self (g.F.Files.held c.args.files.now) (g.F.Files.faults c.args.files.now)) c.args.command
    c.carry_out-said.result c.all_retold-said.result (g.F.Files.held c.carry_out-said.new.files) (moment c.carry_out-said.new.self (g.F.Files.held c.carry_out-said.new.files) (g.F.Files.faults c.carry_out-said.new.files))
    c.told_by-told.result c.reporting-asked.result c.reporting-asked.ensures c.all_retold-said.ensures c.carry_out-said.ensures.step)

pub returns-clause-heard : goal.returns-clause-heard
returns-clause-heard g c =
    hear_both (seen (λ p. (goal.Probe-dyn g (p.vtable, p.value)).notes p.value) (λ p. (goal.Probe-dyn g (p.vtable, p.value)).faults p.value) (λ p. (goal.Probe-dyn g (p.vtable, p.value)).report p.value))
    c.args.command c.carry_out-said.result c.all_retold-said.result c.told_by-told.result c.reporting-asked.result c.dropping-dropped.result c.gone.result c.is_go-goes.result c.carry_out-said.new.self c.hand_on.new.session
    c.args.probes.now.items c.told_by-told.new.probes.items c.args.deaf.now (audience c.hand_on.new.probes.items c.hand_on.new.deaf) (audience c.take_out.new.probes.items c.take_out.new.deaf)
    c.reporting-asked.ensures c.all_retold-said.ensures c.dropping-dropped.ensures c.gone.ensures c.is_go-goes.ensures c.hand_on.ensures.same
    c.told_by-told.ensures.told c.told_by-told.ensures.notes c.told_by-told.ensures.faults c.hand_on.ensures.given c.take_out.ensures.left

pub returns-clause-probes : goal.returns-clause-probes
returns-clause-probes g c = marked_on (marked_alike _ _ _ _ _ c.told_by-told.ensures.notes c.told_by-told.ensures.faults) (marked_on c.hand_on.ensures.marked c.take_out.ensures.marked)
